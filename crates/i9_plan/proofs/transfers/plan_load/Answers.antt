use Rattle.std.proofs.Common.{◌≡◌, ℕ, None, refl, rules, sym, ap, ◌∙◌, subst}
use Rattle.i9_model.specs.Hazards.{read_hazard}
use Rattle.i9_model.specs.Stale.{loaded_marks}
use Rattle.i9_model.specs.Step.{Action, assigning, passing}
use Rattle.i9_watch.specs.Bits.{bits_of}
use Rattle.i9_processor.specs.Effect.{IsEffect}
use Rattle.i9_processor.specs.State.{state_of}
use Rattle.i9_plan.proofs.Marking.{values_marked, load_same, hard_load}
use Rattle.i9_plan.proofs.transfers.plan_load.Goals as goal

pub returns-then-not-is_hard-clause-effect : goal.returns-then-not-is_hard-clause-effect
returns-then-not-is_hard-clause-effect c =
    let i = c.args.i.now in
    let s = state_of c.args.p.now in
    let t = c.args.m.transfer in
    let vs = c.loaded-words.result.items in
    let e = c.assign.new.effect in
    let m = c.loaded_marks-effect.result in
    let bs = loaded_marks t.size s.frames.soft c.args.m.address in
    let bits = ap (bits_of m) c.loaded-words.ensures.count ∙ c.loaded_marks-effect.ensures in
    let marked = values_marked s (assigning i.c vs (passing i s)) e i.c vs bs m c.assign.ensures.effect refl refl bits in
    let loads = subst (λ (a : Action). IsEffect s a (record e { marks = m })) (load_same s i t.size t.signed vs c.args.m.address bs c.requires.place c.loaded-words.ensures.words refl) marked in
    record { same = loads.same; registers = loads.registers; posts = loads.posts; changes = loads.changes; moves = loads.moves; controls = loads.controls }

pub returns-else-not-is_hard-clause-effect : goal.returns-else-not-is_hard-clause-effect
returns-else-not-is_hard-clause-effect c =
    let i = c.args.i.now in
    let s = state_of c.args.p.now in
    let t = c.args.m.transfer in
    let vs = c.loaded-words.result.items in
    let none : c.check_read.result ≡ None = search rules in
    let hard = ap (λ (n : ℕ). read_hazard s.frames c.args.m.address n) (sym c.bytes.ensures) ∙ sym c.check_read.ensures ∙ none in
    subst (λ (a : Action). IsEffect s a c.assign.new.effect) (hard_load s i t.size t.signed vs c.args.m.address (search rules) hard c.requires.place c.loaded-words.ensures.words) c.assign.ensures.effect
