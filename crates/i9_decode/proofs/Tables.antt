-- The tables of names against the rows.
use Rattle.std.proofs.Common.{◌≡◌, ℕ, suc, zero, ◌+◌, ◌-◌, ◌*◌, ◌/◌, ◌%◌, ◌<◌, ◌≤◌, Bool, true, false, not, cond, eqb, ltb, ◌&&◌, List, [], ◌∷◌, Option, Some, None, find, get_or, refl, sym, ap, ◌∙◌, arith, add-zero, zero-add}
use Rattle.std.proofs.lemmas.Bool.{and_parts, eqb-true, ltb-false, not-true}
use Rattle.i9_isa.specs.declared.op.Op.{Op}
use Rattle.i9_isa.specs.declared.op.Op.TheVariants.{Notbit}
use Rattle.i9_isa.specs.declared.format.Format.{Format}
use Rattle.i9_isa.specs.declared.format.Format.TheVariants.{Reg}
use Rattle.i9_isa.specs.Table.{row_of, names}
use Rattle.i9_isa.specs.Words.{field, is_named, extension_in}
use Rattle.i9_isa.proofs.Names.{Named, name_found, found_named}
use Rattle.i9_decode.specs.Look.{look}
use Rattle.i9_decode.specs.declared.branch_names.TheConstants.{BRANCH_NAMES}
use Rattle.i9_decode.specs.declared.register_names.TheConstants.{REGISTER_NAMES}
use Rattle.i9_decode.specs.declared.memory_names.TheConstants.{MEMORY_NAMES}

-- an extension, where the format has one
abbrev extension_of : Format → ℕ → ℕ
extension_of Reg e = e
extension_of _ e = 0

extension_field : (f : Format) (w : ℕ) → extension_in f w ≡ extension_of f (field w 7 4)
extension_field Reg w = refl
extension_field _ w = refl

-- each name is found at its own opcode and extension
look_refl : (op : Op) → look (row_of op).opcode (row_of op).extension ≡ Some op
look_refl Notbit = refl
look_refl _ = refl

look_at : (op : Op) (e : ℕ) → look (row_of op).opcode e ≡ look (row_of op).opcode (extension_of (row_of op).format e)
look_at Notbit e = refl
look_at _ e = refl

-- a name of the word is in the tables
look_back : (w : ℕ) (op : Op) → Named w op → look (field w 24 8) (field w 7 4) ≡ Some op
look_back w op n =
    ap (λ o. look o (field w 7 4)) (sym n.opcode)
    ∙ look_at op (field w 7 4)
    ∙ ap (look (row_of op).opcode) (sym (extension_field (row_of op).format w) ∙ sym n.extension)
    ∙ look_refl op

-- a test of each entry of a list with its index
abbrev test_from : (ℕ → Option Op → Bool) → ℕ → List (Option Op) → Bool
test_from p k [] = true
test_from p k (x ∷ xs) = p k x && test_from p (suc k) xs

test_at : (p : ℕ → Option Op → Bool) → ((n : ℕ) → p n None ≡ true) → (k : ℕ) (xs : List (Option Op)) (i : ℕ) → test_from p k xs ≡ true → p (k + i) (get_or xs i None) ≡ true
test_at p none k [] i t = none (k + i)
test_at p none k (x ∷ xs) zero t = rw add-zero (and_parts _ _ t).0
test_at p none k (x ∷ xs) (suc i) t = let e : k + suc i ≡ suc k + i = omega arith in rw e (test_at p none (suc k) xs i (and_parts _ _ t).1)

abbrev is_reg : Format → Bool
is_reg Reg = true
is_reg _ = false

reg_extension : (f : Format) (e : ℕ) → is_reg f ≡ true → extension_of f e ≡ e
reg_extension Reg e h = refl
reg_extension _ e h = absurd (cc)

other_extension : (f : Format) (e : ℕ) → is_reg f ≡ false → extension_of f e ≡ 0
other_extension Reg e h = absurd (cc)
other_extension _ e h = refl

-- what stands at a place has this opcode, and no extension
abbrev fits_alone : ℕ → ℕ → Option Op → Bool
fits_alone first k None = true
fits_alone first k (Some op) = eqb (row_of op).opcode (first + k) && (eqb (row_of op).extension 0 && not (is_reg (row_of op).format))

-- what stands at a place has this opcode and this extension
abbrev fits_group : ℕ → Option Op → Bool
fits_group k None = true
fits_group k (Some op) = eqb (row_of op).opcode (0x58 + k / 16) && (eqb (row_of op).extension (k % 16) && is_reg (row_of op).format)

branches_fit : test_from (fits_alone 0) 0 BRANCH_NAMES ≡ true
branches_fit = refl

groups_fit : test_from fits_group 0 REGISTER_NAMES ≡ true
groups_fit = refl

memory_fits : test_from (fits_alone 0x80) 0 MEMORY_NAMES ≡ true
memory_fits = refl

-- the opcode and the extension of a name, as numbers
record At (o e : ℕ) (op : Op) : Type 0 where
  opcode : (row_of op).opcode ≡ o
  extension : (row_of op).extension ≡ extension_of (row_of op).format e

alone_tells : (first k o e : ℕ) (op : Op) → first + k ≡ o → fits_alone first k (Some op) ≡ true → At o e op
alone_tells first k o e op is t =
    let p = and_parts (eqb (row_of op).opcode (first + k)) (eqb (row_of op).extension 0 && not (is_reg (row_of op).format)) t in
    let q = and_parts (eqb (row_of op).extension 0) (not (is_reg (row_of op).format)) p.1 in
    record { opcode = eqb-true _ _ p.0 ∙ is; extension = eqb-true (row_of op).extension 0 q.0 ∙ sym (other_extension (row_of op).format e (not-true _ q.1)) }

group_tells : (k o e : ℕ) (op : Op) → 0x58 + k / 16 ≡ o → k % 16 ≡ e → fits_group k (Some op) ≡ true → At o e op
group_tells k o e op io ie t =
    let p = and_parts (eqb (row_of op).opcode (0x58 + k / 16)) (eqb (row_of op).extension (k % 16) && is_reg (row_of op).format) t in
    let q = and_parts (eqb (row_of op).extension (k % 16)) (is_reg (row_of op).format) p.1 in
    record { opcode = eqb-true _ _ p.0 ∙ io; extension = eqb-true (row_of op).extension (k % 16) q.0 ∙ ie ∙ sym (reg_extension (row_of op).format e q.1) }

alone_at : (first k o e : ℕ) (xs : List (Option Op)) (op : Op) → test_from (fits_alone first) 0 xs ≡ true → first + k ≡ o → get_or xs k None ≡ Some op → At o e op
alone_at first k o e xs op fit is h = alone_tells first k o e op is (rw h at (rw zero-add at (test_at (fits_alone first) (λ _. refl) 0 xs k fit)))

group_at : (o e : ℕ) (op : Op) → e < 16 → 0x58 ≤ o → get_or REGISTER_NAMES ((o - 0x58) * 16 + e) None ≡ Some op → At o e op
group_at o e op small low h =
    group_tells ((o - 0x58) * 16 + e) o e op (omega arith) (omega arith) (rw h at (rw zero-add at (test_at fits_group (λ _. refl) 0 REGISTER_NAMES ((o - 0x58) * 16 + e) groups_fit)))

-- one step of the look-up
step : (o n : ℕ) (x rest : Option Op) (r : Option Op) (P : Type 0) → (x ≡ r → P) → (n ≤ o → rest ≡ r → P) → cond (ltb o n) x rest ≡ r → P
step o n x rest r P here later h = elim (ltb o n) as (λ b. ltb o n ≡ b → cond b x rest ≡ r → P) [
  | true ↦ λ t e. here e
  | false ↦ λ t e. later (ltb-false o n t) e
] refl h

-- what the tables have is a name of the opcode and the extension
look_some : (o e : ℕ) (op : Op) → e < 16 → look o e ≡ Some op → At o e op
look_some o e op small h =
    step o 0x40 _ _ _ _ (λ x. alone_at 0 o o e BRANCH_NAMES op branches_fit (zero-add o) x)
    (λ _. step o 0x58 _ _ _ _ (λ x. absurd (cc))
    (λ l. step o 0x78 _ _ _ _ (λ x. group_at o e op small l x)
    (λ _. step o 0x80 _ _ _ _ (λ x. absurd (cc))
    (λ l. step o 0xD0 _ _ _ _ (λ x. alone_at 0x80 (o - 0x80) o e MEMORY_NAMES op memory_fits (omega arith) x) (λ _ x. absurd (cc)))))) h

at_named : (w : ℕ) (op : Op) → At (field w 24 8) (field w 7 4) op → Named w op
at_named w op a = record { opcode = a.opcode; extension = a.extension ∙ sym (extension_field (row_of op).format w) }

lost : (op : Op) → ◌≡◌ {A = Option Op} None (Some op) → ⊥
lost op h = absurd (cc)

missing : (w : ℕ) → find (is_named w) names ≡ None → look (field w 24 8) (field w 7 4) ≡ None
missing w t = elim (look (field w 24 8) (field w 7 4)) as (λ r. look (field w 24 8) (field w 7 4) ≡ r → r ≡ None) [
  | None ↦ λ _. refl
  | Some op ↦ λ s. let n = at_named w op (look_some (field w 24 8) (field w 7 4) op (omega arith) s) in absurd (lost op (sym t ∙ name_found w op n.opcode n.extension))
] refl

-- the tables have what is found in the list of all names
pub look_found : (w : ℕ) → look (field w 24 8) (field w 7 4) ≡ find (is_named w) names
look_found w = elim (find (is_named w) names) as (λ n. find (is_named w) names ≡ n → look (field w 24 8) (field w 7 4) ≡ n) [
  | Some op ↦ λ t. look_back w op (found_named w op t)
  | None ↦ λ t. missing w t
] refl
