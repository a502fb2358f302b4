-- The table of all names has those that are known before each line, and behind its label.
use Rattle.std.proofs.Common.{◌≡◌, ℕ, ◌+◌, ◌*◌, ◌<◌, ◌≤◌, Bool, true, false, cond, ◌&&◌, List, [], ◌∷◌, Option, Some, None, refl, ap, ◌∙◌, inl, inr, arith}
use Rattle.std.specs.Prelude.{is_some}
use Rattle.std.specs.Option.{option_map, option_and_then}
use Rattle.std.specs.Str.{bytes_eq}
use Rattle.std.proofs.Math.Path.{fun_ext}
use Rattle.std.proofs.lemmas.Bool.{cases_Bool, lt-ltb, le-ltb}
use Rattle.std.proofs.lemmas.Option.{same_Some}
use Rattle.std.proofs.lemmas.Slice.Eq.{bytes_eq-Decides}
use Rattle.i9_statement.specs.declared.known.Definition.{Definition}
use Rattle.i9_statement.specs.Known.{enter, values_of, value_before, values_before}
use Rattle.i9_statement.specs.Values.{is_name, value_of, settled}
use Rattle.i9_asm.specs.Lines.{Item, Set, label_of}
use Rattle.i9_asm.specs.Places.{Place, address_at, past_label, past_line, past_lines, effect_of}
use Rattle.i9_asm.specs.Numbered.{Definitions, no_definitions, label_entered, item_entered, line_entered, lines_entered}

-- ---- values

-- ---- definitions at later steps

-- all definitions were made before a step
abbrev pub IsEarly : ℕ → Definitions → Type 0
IsEarly step table = (q : List ℕ) (d : Definition) → table q ≡ Some d → d.step < step

early_values : (step : ℕ) (table : Definitions) → IsEarly step table → values_before step table ≡ values_of table
early_values step table early = fun_ext (λ q. by_option q (table q) refl)
  where
    by_option : (q : List ℕ) (o : Option Definition) → table q ≡ o → option_and_then (value_before step) o ≡ option_map (λ d. d.value) o
    by_option q None e = refl
    by_option q (Some d) e = rw (lt-ltb d.step step (early q d e)) refl

later_early : (step later : ℕ) (table : Definitions) → step ≤ later → IsEarly step table → IsEarly later table
later_early step later table h early = λ q d e. omega (arith, h, early q d e)

-- a table, or the same with one definition at a step
data IsEntered (step : ℕ) (table : Definitions) : Definitions → Type 0 where
  entered_none : IsEntered step table table
  entered_one : (name : List ℕ) (d : Definition) → d.step ≡ step → IsEntered step table (enter name d table)

entered_early : (step : ℕ) (table more : Definitions) → IsEntered step table more → IsEarly step table → IsEarly (step + 1) more
entered_early step table _ entered_none early = later_early step (step + 1) table (omega arith) early
entered_early step table _ (entered_one name d at) early = λ q e is. elim (cases_Bool (is_some (table name))) [
  | inl old ↦ later_early step (step + 1) table (omega arith) early q e (rw old at is)
  | inr new ↦ elim (cases_Bool (bytes_eq name q)) [
    | inl same ↦ let h : d ≡ e = same_Some d e (rw (new, same) at is) in let s = ap (λ (x : Definition). x.step) h in omega (arith, s, at)
    | inr other ↦ later_early step (step + 1) table (omega arith) early q e (rw (new, other) at is)
  ]
]

pub not_some : {A : Type 0} (o : Option A) → is_some o ≡ false → o ≡ None
not_some o h = grind arith

entered_stable : (step j : ℕ) (table more : Definitions) → j ≤ step → IsEntered step table more → values_before j more ≡ values_before j table
entered_stable step j table _ h entered_none = refl
entered_stable step j table _ h (entered_one name d at) =
    grind (arith, cases_Bool, fun_ext, bytes_eq-Decides, not_some, le-ltb)

-- ---- a line

entered_if : (b : Bool) (name : List ℕ) (d : Definition) (table : Definitions) → IsEntered d.step table (cond b (enter name d table) table)
entered_if true name d table = entered_one name d refl
entered_if false name d table = entered_none

label_is : (label : Option (List ℕ)) (address step : ℕ) (table : Definitions) → IsEntered step table (label_entered label address step table)
label_is None address step table = entered_none
label_is (Some name) address step table = entered_if (is_name name) name (record { value = address; step = step }) table

item_is : (p : Place) (step : ℕ) (item : Item) (table : Definitions) → IsEntered step table (item_entered p step item table)
item_is p step (Set name f) table =
    let v = value_of p.known f in
    entered_if (is_name name && is_some v) name (record { value = (settled v).value; step = step }) table
item_is p step _ table = entered_none

label_values : (label : Option (List ℕ)) (p : Place) (step : ℕ) (table : Definitions) → values_of table ≡ p.known → values_of (label_entered label (address_at p) step table) ≡ (past_label label p).known
label_values label p step table known = grind arith

pub line_values : (p : Place) (step : ℕ) (line : List ℕ) (table : Definitions) → values_of table ≡ p.known → values_of (line_entered p step line table) ≡ (past_line p line).known
line_values p step line table known = grind arith

-- ---- all lines

lines_stable : (j : ℕ) (p : Place) (step : ℕ) (lines : List (List ℕ)) (table : Definitions) → j ≤ step → values_before j (lines_entered p step lines table) ≡ values_before j table
unfolding lines_entered
lines_stable j p step [] table h = refl
lines_stable j p step (line ∷ lines) table h =
    let named = label_entered (label_of line) (address_at p) step table in
    lines_stable j (past_line p line) (step + 2) lines (line_entered p step line table) (omega arith)
    ∙ entered_stable (step + 1) j named (line_entered p step line table) (omega arith) (item_is (past_label (label_of line) p) (step + 1) (effect_of line) named)
    ∙ entered_stable step j table named h (label_is (label_of line) (address_at p) step table)

-- the table of all names has what is known before each line, behind its label, and at the end
abbrev pub Tells : Definitions → ℕ → Place → List (List ℕ) → Type 0
Tells all step p [] = values_of all ≡ p.known
Tells all step p (line ∷ lines) =
    (values_before step all ≡ p.known) × (values_before (step + 1) all ≡ (past_label (label_of line) p).known) × Tells all (step + 2) (past_line p line) lines

pub tells : (p : Place) (step : ℕ) (lines : List (List ℕ)) (table : Definitions) → IsEarly step table → values_of table ≡ p.known → Tells (lines_entered p step lines table) step p lines
unfolding lines_entered
tells p step [] table early known = known
tells p step (line ∷ lines) table early known =
    let named = label_entered (label_of line) (address_at p) step table in
    let next = line_entered p step line table in
    let label = label_is (label_of line) (address_at p) step table in
    let item = item_is (past_label (label_of line) p) (step + 1) (effect_of line) named in
    let early_named = entered_early step table named label early in (
      lines_stable step p step (line ∷ lines) table (omega arith) ∙ early_values step table early ∙ known,
      lines_stable (step + 1) (past_line p line) (step + 2) lines next (omega arith) ∙ entered_stable (step + 1) (step + 1) named next (omega arith) item
          ∙ early_values (step + 1) named early_named ∙ label_values (label_of line) p step table known,
      tells (past_line p line) (step + 2) lines next (λ q d e. omega (arith, entered_early (step + 1) named next item early_named q d e)) (line_values p step line table known),
    )

pub told_all : (all : Definitions) (step : ℕ) (p : Place) (lines : List (List ℕ)) → Tells all step p lines → values_of all ≡ (past_lines p lines).known
unfolding past_lines
told_all all step p [] h = h
told_all all step p (line ∷ lines) h = told_all all (step + 2) (past_line p line) lines h.2

-- ---- the first pass

pub place_same : (p q : Place) → p.location ≡ q.location → p.known ≡ q.known → p ≡ q
place_same p q a b = rw (a, b) refl

pub label_stays : (label : Option (List ℕ)) (p : Place) → (past_label label p).location ≡ p.location
label_stays label p = grind arith

pub labelled_place : (p q : Place) (label : Option (List ℕ)) (step : ℕ) (table more : Definitions) → q.location ≡ p.location → q.known ≡ values_of more → values_of table ≡ p.known
    → more ≡ label_entered label (address_at p) step table → q ≡ past_label label p
labelled_place p q label step table more location named known is = grind arith

pub line_is : (p q : Place) (step : ℕ) (line : List ℕ) (item : Item) (table more : Definitions) → q ≡ past_label (label_of line) p → item ≡ effect_of line
    → more ≡ label_entered (label_of line) (address_at p) step table → item_entered q (step + 1) item more ≡ line_entered p step line table
line_is p q step line item table more place said is = grind arith

pub set_entered : (p : Place) (step : ℕ) (name f : List ℕ) (table : Definitions) → is_name name ≡ true → is_some (value_of p.known f) ≡ true
    → item_entered p step (Set name f) table ≡ enter name (record { value = (settled (value_of p.known f)).value; step = step }) table
set_entered p step name f table a b = rw (a, b) refl

pub set_kept : (p : Place) (step : ℕ) (name f : List ℕ) (table : Definitions) → (is_name name && is_some (value_of p.known f)) ≡ false → item_entered p step (Set name f) table ≡ table
set_kept p step name f table h = rw h refl

-- the lines that are left lead to the same table
pub entered_on : (p q : Place) (number : ℕ) (line : List ℕ) (lines : List (List ℕ)) (table more : Definitions) → q.location ≡ (past_line p line).location → q.known ≡ values_of more → values_of table ≡ p.known
    → more ≡ line_entered p (2 * number) line table → lines_entered q (2 * (number + 1)) lines more ≡ lines_entered p (2 * number) (line ∷ lines) table
unfolding lines_entered
entered_on p q number line lines table more location named known is = grind (arith, place_same, line_values)

pub nothing_early : (step : ℕ) → IsEarly step no_definitions
nothing_early step = λ q d e. absurd (cc e)
