-- Names by the first letters of their mnemonics.
use Rattle.std.proofs.Common.{◌≡◌, ℕ, ◌<◌, ◌≤◌, Bool, true, List, [], ◌∷◌, length, None, refl, get_or, arith}
use Rattle.std.specs.Prelude.{find, filter}
use Rattle.std.specs.Str.{bytes_eq}
use Rattle.std.proofs.lemmas.Bool.{cases_Bool}
use Rattle.std.proofs.lemmas.Slice.Eq.{bytes_eq-Decides}
use Rattle.i9_isa.specs.declared.op.Op.{Op}
use Rattle.i9_isa.specs.Table.{names}
use Rattle.i9_statement.specs.Mnemonics.{mnemonic, begins_with, op_named}

-- what is found is among those that pass a test, where it passes that itself
found_among : (p q : Op → Bool) (ops : List Op) → ((op : Op) → p op ≡ true → q op ≡ true) → find p (filter q ops) ≡ find p ops
found_among p q [] h = refl
found_among p q (op ∷ ops) h = grind (arith, cases_Bool, found_among p q ops h)

-- a mnemonic that is this text begins with its letter
begins_as : (c : ℕ) (s m : List ℕ) → bytes_eq (c ∷ s) m ≡ true → begins_with c m ≡ true
begins_as c s m h = rw (← (bytes_eq-Decides (c ∷ s) m).0 h) (grind arith)

pub named_among : (s : List ℕ) → 1 ≤ length s → find (λ op. bytes_eq s (mnemonic op)) (filter (λ op. begins_with (get_or s 0 0) (mnemonic op)) names) ≡ op_named s
unfolding op_named
named_among [] h = absurd (omega arith)
named_among (c ∷ s) h = found_among (λ op. bytes_eq (c ∷ s) (mnemonic op)) (λ op. begins_with c (mnemonic op)) names (λ op e. begins_as c s (mnemonic op) e)

pub nothing_named : (s : List ℕ) → length s < 1 → op_named s ≡ None
unfolding op_named mnemonic
nothing_named [] h = refl
nothing_named (c ∷ s) h = absurd (omega arith)
