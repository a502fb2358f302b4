-- A directive with more operands than it takes.
use Rattle.std.proofs.Common.{◌≡◌, ℕ, ◌<◌, true, List, [], ◌∷◌, length, map, Option, Some, None, Bor, refl, arith}
use Rattle.std.specs.Prelude.{is_some}
use Rattle.std.specs.List.{slice_split}
use Rattle.std.proofs.lemmas.List.Splits.{length-slice_split}
use Rattle.i9_statement.specs.Fields.{is_comma, field_of, fields_left}
use Rattle.i9_statement.specs.declared.fault.Fault.TheVariants.{Form}
use Rattle.i9_asm.specs.Lines.{Item, Bad, Data, one_value, two_values, some_values}

some_part : (parts : List (List ℕ)) → 0 < length parts → (p : List ℕ) × (ps : List (List ℕ)) × (parts ≡ p ∷ ps)
some_part [] h = absurd (omega arith)
some_part (p ∷ ps) h = (p, ps, refl)

-- a text has a first part
first_part : (text : List ℕ) → (p : List ℕ) × (ps : List (List ℕ)) × (slice_split is_comma text ≡ p ∷ ps)
first_part text = some_part (slice_split is_comma text) (omega (arith, length-slice_split is_comma text))

pub more_than_one : (item : List ℕ → Item) (f : List ℕ) (more : Option (Bor (List ℕ))) → is_some more ≡ true → one_value item (f ∷ fields_left more) ≡ Bad Form
more_than_one item f None h = absurd cc
more_than_one item f (Some t) h = rw (first_part t.now).2 refl

pub more_than_two : (item : List ℕ → List ℕ → Item) (f g : List ℕ) (more : Option (Bor (List ℕ))) → is_some more ≡ true → two_values item (f ∷ g ∷ fields_left more) ≡ Bad Form
more_than_two item f g None h = absurd cc
more_than_two item f g (Some t) h = rw (first_part t.now).2 refl

pub some_data : (width : ℕ) (text : List ℕ) (fs : List (List ℕ)) → map field_of (slice_split is_comma text) ≡ fs → Data width (map field_of (slice_split is_comma text)) ≡ some_values width fs
some_data width text fs e = rw (← e) (rw (first_part text).2 refl)
