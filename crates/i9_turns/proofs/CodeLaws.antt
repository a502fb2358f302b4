-- An instruction that does not write the condition code leaves it.
use Rattle.std.proofs.Common.{◌≡◌, ℕ, ◌+◌, ◌*◌, ◌%◌, ◌^◌, ◌<◌, max, Bool, false, cond, List, ap, ◌∙◌, arith}
use Rattle.std.specs.Prelude.{bit_or}
use Rattle.std.specs.Int.{bit_at}
use Rattle.std.proofs.lemmas.Nat.Bits.{bit_at_or, bit_at-pow_other}
use Rattle.i9_isa.specs.declared.op.Op.{Op}
use Rattle.i9_isa.specs.declared.op.Op.TheVariants.{Modac}
use Rattle.i9_isa.specs.declared.size.Size.{Size}
use Rattle.i9_isa.specs.declared.size.Direction.{Direction}
use Rattle.i9_isa.specs.Resources.{writes_code}
use Rattle.i9_model.specs.Numbers.{signed}
use Rattle.i9_model.specs.Results.{results_by}
use Rattle.i9_isa.specs.declared.inst.Inst.{Inst}
use Rattle.i9_model.specs.State.{State}
use Rattle.i9_model.specs.Branches.{question_of, branch_controls, asks}
use Rattle.i9_model.specs.Step.{controls_of, moving, branching, resulting, answer_in, action_by_name, action_of}

low_bits : (x : ℕ) → x % 8 ≡ bit_at x 0 + 2 * bit_at x 1 + 4 * bit_at x 2
low_bits x = grind arith

or_bit : (x i : ℕ) → i < 8 → bit_at (bit_or x (2 ^ 8)) i ≡ bit_at x i
or_bit x i lt =
    let none : bit_at (2 ^ 8) i ≡ 0 = bit_at-pow_other 8 i (λ e. absurd (omega (arith, e, lt))) in
    let most : max (bit_at x i) 0 ≡ bit_at x i = omega arith in
    bit_at_or x (2 ^ 8) i ∙ ap (max (bit_at x i)) none ∙ most

overflow_low : (x : ℕ) → bit_or x (2 ^ 8) % 8 ≡ x % 8
overflow_low x =
    let a = or_bit x 0 (omega arith) in
    let b = or_bit x 1 (omega arith) in
    let c = or_bit x 2 (omega arith) in
    let p = low_bits (bit_or x (2 ^ 8)) in
    let q = low_bits x in
    omega (arith, a, b, c, p, q)

result_code : (op : Op) (a b : List ℕ) (c ac : ℕ) → writes_code op ≡ false → controls_of (results_by op a b c ac) ac % 8 ≡ ac % 8
result_code op a b c ac h = grind (arith, overflow_low)

-- the code after a branch that makes none
branch_code : (op : Op) (i : Inst) (a b ac : ℕ) → i.op ≡ op → writes_code op ≡ false → branch_controls i a b ac % 8 ≡ ac % 8
branch_code op i a b ac e h = grind arith

other_code : (b : Bool) (op : Op) (i : Inst) (s : State) → i.op ≡ op → writes_code op ≡ false → (cond b (branching i s) (resulting i s (answer_in i s))).ac % 8 ≡ s.ac % 8
other_code b op i s e h = grind (arith, branch_code, result_code)

name_code : (op : Op) (i : Inst) (s : State) → i.op ≡ op → writes_code op ≡ false → (action_by_name op i s).ac % 8 ≡ s.ac % 8
name_code Modac i s e h = absurd cc
name_code op i s e h = grind (arith, other_code (asks (question_of op)) op i s e h)

moving_code : (d : Direction) (size : Size) (signed : Bool) (i : Inst) (s : State) → (moving d size signed i s).ac % 8 ≡ s.ac % 8
moving_code d size signed i s = grind arith

-- an instruction that does not write the condition code leaves it
pub code_beside : (i : Inst) (s : State) → writes_code i.op ≡ false → (action_of i s).ac % 8 ≡ s.ac % 8
unfolding action_of
code_beside i s h = grind (arith, moving_code, name_code)
