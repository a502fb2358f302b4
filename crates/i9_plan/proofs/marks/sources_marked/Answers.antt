use Rattle.std.proofs.Common.{ℕ, Bool, ap, ◌∙◌}
use Rattle.std.specs.Prelude.{◌==◌, bit_and, not}
use Rattle.i9_processor.specs.State.{state_of}
use Rattle.i9_plan.proofs.ReadMarks.{sources_marked}
use Rattle.i9_plan.proofs.marks.sources_marked.Goals as goal

pub returns : goal.returns
returns c =
    let w = c.marks.result in
    ap (λ (x : ℕ). not (bit_and x c.reads.result == 0)) c.from.ensures
    ∙ sources_marked c.args.i.now (state_of c.args.p.now) w c.reads.result c.marks.type_inv (λ r. ap (λ (f : ℕ → Bool). f r) c.marks.ensures) c.reads.ensures c.requires.plain
