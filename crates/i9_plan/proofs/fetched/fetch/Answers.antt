use Rattle.std.proofs.Common.{ℕ, sym, ap, ◌∙◌}
use Rattle.i9_isa.specs.Words.{decoded}
use Rattle.i9_isa.proofs.Decoding.{refusal_free}
use Rattle.i9_model.specs.Step.{next_word}
use Rattle.i9_processor.specs.State.{state_of}
use Rattle.i9_plan.proofs.Fetching.{short_read, refused_fetch_by}
use Rattle.i9_plan.proofs.fetched.fetch.Goals as goal

pub returns-else-is_long : goal.returns-else-is_long
returns-else-is_long c =
    let s = state_of c.args.p.now in
    let found = c.in-Ok.ensures.ok in
    record { fetched = short_read s c.read.new.self found.0 (c.in_default.ensures ∙ found.1) (sym c.is_long.ensures ∙ c.if-is_long.false) }

pub returns-in-Err-read : goal.returns-in-Err-read
returns-in-Err-read c =
    let s = state_of c.args.p.now in
    let found = c.in-Ok.ensures.ok in
    let first = c.in-Ok.first in
    let read = sym (ap (λ (w : ℕ). decoded w (next_word s)) found.1) ∙ refusal_free first 0 (next_word s) c.in-Err-read.why c.in-Err-read.ensures in
    record { fetched = (refused_fetch_by s first c.in-Err-read.why found.0 found.1 c.in-Err-read.ensures, read, found.1) }
