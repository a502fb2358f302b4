-- The table of results as a whole: its names, and what a fault leaves.
use Rattle.std.proofs.Common.{◌≡◌, ℕ, ◌/◌, ◌%◌, ◌^◌, nat_le, [], Bool, true, false, List, Option, Some, None, is_some, IsSome, refl, not, nat_eq, bit_or, ℤ, pos, ◌+ℤ◌, ◌-ℤ◌, ◌*ℤ◌, slice_index, if◌then◌else◌}
use Rattle.std.specs.Int.RustNames.{int_div, int_rem, int_lt}
use Rattle.i9_isa.specs.declared.op.Op.{Op}
use Rattle.i9_isa.specs.declared.op.Op.TheVariants.{Notbit, Addi, Subi, Muli, Shli, Divi, Divo, Remo, Remi, Modi, Ediv, Movl, Movt, Movq, Concmpo, Concmpi, Spanbit, Scanbit}
use Rattle.i9_isa.specs.Words.{bit}
use Rattle.i9_model.specs.declared.arith.Arith.{Arith}
use Rattle.i9_model.specs.declared.arith.Arith.TheVariants.{Overflow, ZeroDivide}
use Rattle.i9_model.specs.Operands.{reduced}
use Rattle.i9_model.specs.Numbers.{signed, fits, modulo, highest_one, complement}
use Rattle.i9_model.specs.Results.{Answer, words, word, code, faulting, overflowing, checked, divided, code_unless_less, found, result_of, results_by, has_result, long, long_divided}

pub results_by_name : (op : Op) (a b : List ℕ) (c ac : ℕ) → is_some (results_by op a b c ac) ≡ has_result op
results_by_name Notbit a b c ac = refl
results_by_name _ a b c ac = refl

-- what is left of the controls by an answer with this fault; without one nothing is said
abbrev KeepsBy : Option Arith → ℕ → ℕ → Type 0
KeepsBy None ac after = ac ≡ ac
KeepsBy (Some fault) ac after = after ≡ ac

abbrev pub Keeps : ℕ → Option Answer → Type 0
Keeps ac None = ac ≡ ac
Keeps ac (Some r) = KeepsBy r.fault ac r.controls

pub kept : (ac : ℕ) (r : Answer) → KeepsBy r.fault ac r.controls → IsSome r.fault → r.controls ≡ ac
kept ac r = by r.fault
  where
    by : (f : Option Arith) → KeepsBy f ac r.controls → IsSome f → r.controls ≡ ac
    by None p e = absurd (cc)
    by (Some f) p e = p

Keeps-if : (t : Bool) (ac : ℕ) (x y : Answer) → Keeps ac (Some x) → Keeps ac (Some y) → Keeps ac (Some (if t then x else y))
Keeps-if true ac x y p q = p
Keeps-if false ac x y p q = q

Keeps-checked : (z : ℤ) (ac : ℕ) → Keeps ac (Some (checked z ac))
Keeps-checked z ac =
    Keeps-if (not (fits z)) ac (overflowing (reduced z) ac) (word (reduced z) ac)
    (Keeps-if (bit ac 12) ac (word (reduced z) (bit_or ac (2 ^ 8))) (faulting Overflow ac) refl refl)
    refl

Keeps-divided : (a ac : ℕ) (r : Answer) → Keeps ac (Some r) → Keeps ac (Some (divided a r ac))
Keeps-divided a ac r p = Keeps-if (nat_eq a 0) ac (faulting ZeroDivide ac) r refl p

Keeps-found : (place : Option ℕ) (ac : ℕ) → Keeps ac (Some (found place ac))
Keeps-found (Some place) ac = refl
Keeps-found None ac = refl

Keeps-unless : (t : Bool) (ac : ℕ) → Keeps ac (Some (code_unless_less t ac))
Keeps-unless t ac = Keeps-if (bit ac 2) ac (words [] ac) (code (if t then 2 else 1) ac) refl refl

Keeps-result : (op : Op) (a b c ac : ℕ) → Keeps ac (result_of op a b c ac)
Keeps-result Addi a b c ac = Keeps-checked (signed b +ℤ signed a) ac
Keeps-result Subi a b c ac = Keeps-checked (signed b -ℤ signed a) ac
Keeps-result Muli a b c ac = Keeps-checked (signed b *ℤ signed a) ac
Keeps-result Shli a b c ac = Keeps-checked (signed b *ℤ pos (2 ^ a)) ac
Keeps-result Divi a b c ac = Keeps-divided a ac (checked (int_div (signed b) (signed a)) ac) (Keeps-checked (int_div (signed b) (signed a)) ac)
Keeps-result Divo a b c ac = Keeps-divided a ac (word (b / a) ac) refl
Keeps-result Remo a b c ac = Keeps-divided a ac (word (b % a) ac) refl
Keeps-result Remi a b c ac = Keeps-divided a ac (word (reduced (int_rem (signed b) (signed a))) ac) refl
Keeps-result Modi a b c ac = Keeps-divided a ac (word (reduced (modulo (signed b) (signed a))) ac) refl
Keeps-result Concmpo a b c ac = Keeps-unless (nat_le a b) ac
Keeps-result Concmpi a b c ac = Keeps-unless (not (int_lt (signed b) (signed a))) ac
Keeps-result Spanbit a b c ac = Keeps-found (highest_one 32 (complement a)) ac
Keeps-result Scanbit a b c ac = Keeps-found (highest_one 32 a) ac
Keeps-result _ a b c ac = refl

pub Keeps-results : (op : Op) (a b : List ℕ) (c ac : ℕ) → Keeps ac (results_by op a b c ac)
Keeps-results Ediv a b c ac =
    let number = long (slice_index b 0) (slice_index b 1) in
    Keeps-divided (slice_index a 0) ac (words (long_divided number (slice_index a 0)) ac) refl
Keeps-results Movl a b c ac = refl
Keeps-results Movt a b c ac = refl
Keeps-results Movq a b c ac = refl
Keeps-results op a b c ac = Keeps-result op (slice_index a 0) (slice_index b 0) c ac
