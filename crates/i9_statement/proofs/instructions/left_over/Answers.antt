use Rattle.std.proofs.Common.{◌≡◌, ℕ, ◌<◌, List, [], ◌∷◌, length, map, Some, refl, arith}
use Rattle.std.proofs.lemmas.List.Splits.{length-slice_split}
use Rattle.i9_statement.specs.Fields.{field_of}
use Rattle.i9_statement.specs.declared.fault.Fault.TheVariants.{Form}
use Rattle.i9_statement.specs.Instructions.{left_over}
use Rattle.i9_statement.proofs.instructions.left_over.Goals as goal

some_left : (parts : List (List ℕ)) → 0 < length parts → left_over (map field_of parts) ≡ Some Form
some_left [] h = absurd (omega arith)
some_left (p ∷ ps) h = refl

pub returns-in-Some : goal.returns-in-Some
returns-in-Some c = grind (arith, some_left, length-slice_split)
