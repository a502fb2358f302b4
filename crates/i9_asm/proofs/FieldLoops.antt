-- One turn of a loop over the values of a directive.
use Rattle.std.proofs.Common.{◌≡◌, ℕ, ◌+◌, ◌*◌, Bool, true, false, cond, List, ◌∷◌, ◌++◌, length, map, Option, Some, Bor, refl, ap, ◌∙◌, append_assoc, arith, ◌≤◌, zero-add}
use Rattle.std.specs.Prelude.{is_some}
use Rattle.std.specs.List.{list_all, slice_split, flat_map}
use Rattle.std.proofs.lemmas.Bool.Decides.{nat_tests}
use Rattle.i9_statement.specs.declared.fault.Fault.{Fault}
use Rattle.i9_statement.specs.Noted.{least}
use Rattle.i9_statement.specs.Values.{Names, value_of}
use Rattle.i9_statement.specs.Fields.{is_comma, field_of, fields_left}
use Rattle.i9_asm.specs.declared.lines.Width.{Width}
use Rattle.i9_asm.specs.Said.{bytes_of}
use Rattle.i9_asm.specs.Places.{no_names}
use Rattle.i9_asm.specs.Source.{data_value, data_fault, low_bytes}

-- all operands of a text
abbrev pub fields_in : List ℕ → List (List ℕ)
fields_in text = map field_of (slice_split is_comma text)

-- the operands that are left begin with this one
pub split_fields : (left : Option (Bor (List ℕ))) (text : Bor (List ℕ)) (f : List ℕ) (after : Option (Bor (List ℕ))) → left ≡ Some text → fields_in text.now ≡ f ∷ fields_left after → fields_left left ≡ f ∷ fields_left after
split_fields left text f after some split = ap fields_left some ∙ split

-- ---- sizes

abbrev pub has_form : List ℕ → Bool
has_form f = is_some (value_of no_names f)

-- with so many bytes before
abbrev pub sized : ℕ → ℕ → List (List ℕ) → ℕ
sized k width fs = cond (list_all has_form fs) (k + width * length fs) 0

pub sized-on : (k width : ℕ) (f : List ℕ) (fs : List (List ℕ)) → has_form f ≡ true → sized k width (f ∷ fs) ≡ sized (k + width) width fs
sized-on k width f fs h = grind arith

pub sized-off : (k width : ℕ) (f : List ℕ) (fs : List (List ℕ)) → has_form f ≡ false → sized k width (f ∷ fs) ≡ 0
sized-off k width f fs h = rw h refl

pub sized-all : (width : ℕ) (fs : List (List ℕ)) → sized 0 width fs ≡ cond (list_all has_form fs) (width * length fs) 0
sized-all width fs = ap (λ n. cond (list_all has_form fs) n 0) (zero-add (width * length fs))

pub bytes_of-small : (width : Width) → bytes_of width ≤ 4
bytes_of-small width = grind arith

-- ---- faults

-- a fault so far, and one value more
pub data_fault-on : (width : ℕ) (names : Names) (fault : Option Fault) (f : List ℕ) (fs : List (List ℕ))
    → least (least fault (data_value width (value_of names f)).fault) (data_fault width names fs) ≡ least fault (data_fault width names (f ∷ fs))
data_fault-on width names fault f fs = grind (arith, nat_tests)

-- ---- bytes

abbrev pub bytes_in : ℕ → Names → List (List ℕ) → List ℕ
bytes_in width names fs = flat_map (λ f. low_bytes width (data_value width (value_of names f)).value) fs

-- one value more
pub bytes-on : (width : ℕ) (names : Names) (old new more total f : List ℕ) (fs left : List (List ℕ)) → left ≡ f ∷ fs → new ≡ old ++ more → more ≡ low_bytes width (data_value width (value_of names f)).value
    → old ++ bytes_in width names left ≡ total → new ++ bytes_in width names fs ≡ total
bytes-on width names old new more total f fs left split added is so_far = grind (arith, append_assoc)
