-- Names by their opcode and extension.
use Rattle.std.proofs.Common.{◌≡◌, ℕ, Bool, true, false, cond, eqb, ltb, ◌&&◌, List, [], ◌∷◌, Some, find, refl, sym, ap, ◌∙◌}
use Rattle.std.proofs.lemmas.Bool.{and_parts, eqb-true}
use Rattle.i9_isa.specs.declared.op.Op.{Op}
use Rattle.i9_isa.specs.declared.op.Op.TheVariants.{Notbit}
use Rattle.i9_isa.specs.declared.format.Format.{Format}
use Rattle.i9_isa.specs.Table.{row_of, names}
use Rattle.i9_isa.specs.Words.{field, is_named, extension_in}

-- what is found passes the test
pub find_passes : (p : Op → Bool) (xs : List Op) (x : Op) → find p xs ≡ Some x → p x ≡ true
find_passes p [] x h = absurd (cc)
find_passes p (y ∷ ys) x h = elim (p y) as (λ b. p y ≡ b → cond b (Some y) (find p ys) ≡ Some x → p x ≡ true) [
  | true ↦ λ t e. let same : y ≡ x = cc in rw (← same) t
  | false ↦ λ t e. find_passes p ys x e
] refl h

-- tests that answer the same find the same
pub find_same : (p q : Op → Bool) → ((x : Op) → p x ≡ q x) → (xs : List Op) → find p xs ≡ find q xs
find_same p q e [] = refl
find_same p q e (x ∷ xs) = rw (e x, find_same p q e xs) refl

-- the opcode and the extension of a name
abbrev is_like : Op → Op → Bool
is_like op x = eqb (row_of x).opcode (row_of op).opcode && eqb (row_of x).extension (row_of op).extension

-- no other name has the opcode and the extension of a name
found_itself : (op : Op) → find (is_like op) names ≡ Some op
found_itself Notbit = refl
found_itself _ = refl

-- the format of an opcode
abbrev format_at : ℕ → Format
format_at o = cond (ltb o 0x20) Format.Ctrl (cond (ltb o 0x40) Format.Cobr (cond (ltb o 0x80) Format.Reg Format.Mem))

has_format : (op : Op) → (row_of op).format ≡ format_at (row_of op).opcode
has_format Notbit = refl
has_format _ = refl

-- names with one opcode have one format
same_format : (x op : Op) → (row_of x).opcode ≡ (row_of op).opcode → (row_of x).format ≡ (row_of op).format
same_format x op e = has_format x ∙ ap format_at e ∙ sym (has_format op)

and_later : (a b c : Bool) → (a ≡ true → b ≡ c) → (a && b) ≡ (a && c)
and_later true b c h = h refl
and_later false b c h = refl

-- the test of a word is the test of its name
named_as : (w : ℕ) (op : Op) → (row_of op).opcode ≡ field w 24 8 → (row_of op).extension ≡ extension_in (row_of op).format w → (x : Op) → is_named w x ≡ is_like op x
named_as w op o e x =
    ap (λ n. eqb (row_of x).opcode n && eqb (row_of x).extension (extension_in (row_of x).format w)) (sym o)
    ∙ and_later (eqb (row_of x).opcode (row_of op).opcode) _ _
    (λ t. let f = same_format x op (eqb-true (row_of x).opcode (row_of op).opcode t) in ap (eqb (row_of x).extension) (ap (λ g. extension_in g w) f ∙ sym e))

-- a name that the word has is found
pub name_found : (w : ℕ) (op : Op) → (row_of op).opcode ≡ field w 24 8 → (row_of op).extension ≡ extension_in (row_of op).format w → find (is_named w) names ≡ Some op
name_found w op o e = find_same (is_named w) (is_like op) (named_as w op o e) names ∙ found_itself op

-- a name that is found is one that the word has
pub record Named (w : ℕ) (op : Op) : Type 0 where
  pub opcode : (row_of op).opcode ≡ field w 24 8
  pub extension : (row_of op).extension ≡ extension_in (row_of op).format w

pub found_named : (w : ℕ) (op : Op) → find (is_named w) names ≡ Some op → Named w op
found_named w op h =
    let p = and_parts (eqb (row_of op).opcode (field w 24 8)) (eqb (row_of op).extension (extension_in (row_of op).format w)) (find_passes (is_named w) names op h) in
    record { opcode = eqb-true _ _ p.0; extension = eqb-true _ _ p.1 }
