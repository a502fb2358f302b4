use Rattle.std.proofs.Common.{slice_index, List, ℕ, ap, ◌∙◌}
use Rattle.std.proofs.lemmas.List.{get_or-take}
use Rattle.i9_regs.proofs.file.File.registers.Goals as goal

pub returns : goal.returns
returns c = λ r low.
    ap (λ (xs : List ℕ). slice_index xs r) c.copy_from_slice.ensures.after ∙ get_or-take 32 c.args.self.now.latest r 0 low
