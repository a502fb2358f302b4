use Rattle.std.proofs.Common.{ℕ, ◌+◌, sym, ap, ◌∙◌}
use Rattle.i9_model.specs.Memory.{word_in}
use Rattle.i9_model.specs.Hazards.{read_hazard}
use Rattle.i9_model.specs.Writes.{wrapped}
use Rattle.i9_processor.specs.State.{state_of}
use Rattle.i9_plan.specs.declared.fetched.Words.{Words}
use Rattle.i9_plan.proofs.Fetching.{long_met, long_read}
use Rattle.i9_plan.proofs.fetched.fetch_long.Goals as goal

pub returns-in-Some : goal.returns-in-Some
returns-in-Some c =
    let s = state_of c.args.p.now in
    let met = ap (λ (a : ℕ). read_hazard s.frames (wrapped (a + 4)) 4) (sym c.ip-at.ensures) ∙ sym c.check_read.ensures ∙ c.in-Some.is in
    record { fetched = long_met s c.args.decodes.now c.requires.clear c.requires.first c.requires.long ∙ met }

pub returns : goal.returns
returns c =
    let s = state_of c.args.p.now in
    let free = ap (λ (a : ℕ). read_hazard s.frames (wrapped (a + 4)) 4) (sym c.ip-at.ensures) ∙ sym c.check_read.ensures ∙ c.in_default.is in
    let first = ap (λ (w : Words). w.first) c.lengthen.ensures.words ∙ c.requires.first in
    let second = ap (λ (w : Words). w.second) c.lengthen.ensures.words ∙ c.hard_word.ensures ∙ ap (λ (a : ℕ). word_in s.memory (wrapped (a + 4))) c.ip-at.ensures in
    record { fetched = long_read s c.lengthen.new.self c.requires.clear free first second c.lengthen.ensures.long c.lengthen.ensures.valid }
