-- What is known of the sources of an instruction that raises nothing.
use Rattle.std.proofs.Common.{◌≡◌, ℕ, ◌<◌, ◌≤◌, false, Option, None, sym, ap, ◌∙◌, arith}
use Rattle.std.proofs.lemmas.Bool.Decides.{nat_tests}
use Rattle.i9_isa.specs.declared.op.Op.{Op}
use Rattle.i9_isa.specs.declared.op.Op.TheVariants.{Calls, Sdma, Sysctl}
use Rattle.i9_model.specs.declared.layout.TheConstants.{MOST_SYSTEM_CALL}
use Rattle.i9_model.specs.Faults.{is_invalid, is_past_table, raised}
use Rattle.i9_isa.specs.declared.inst.Inst.{Inst}

calm_parts : (i : Inst) (a b : ℕ) (access : Option (ℕ × ℕ)) (pc config : ℕ) → raised i a b access pc config ≡ None → (is_invalid i.op a ≡ false) × (is_past_table i.op a ≡ false)
unfolding raised
calm_parts i a b access pc config e = (grind arith, grind arith)

-- calls has a number of a system procedure
pub calls_number : (i : Inst) (a b : ℕ) (access : Option (ℕ × ℕ)) (pc config : ℕ) → i.op ≡ Calls → raised i a b access pc config ≡ None → a ≤ MOST_SYSTEM_CALL
calls_number i a b access pc config is e =
    let none : is_past_table Calls a ≡ false = sym (ap (λ (op : Op). is_past_table op a) is) ∙ (calm_parts i a b access pc config e).1 in
    grind (arith, nat_tests)

-- sysctl has a message that there is
pub sysctl_message : (i : Inst) (a b : ℕ) (access : Option (ℕ × ℕ)) (pc config : ℕ) → i.op ≡ Sysctl → raised i a b access pc config ≡ None → is_invalid Sysctl a ≡ false
sysctl_message i a b access pc config is e = sym (ap (λ (op : Op). is_invalid op a) is) ∙ (calm_parts i a b access pc config e).0

-- sdma has a channel that there is
pub sdma_channel : (i : Inst) (a b : ℕ) (access : Option (ℕ × ℕ)) (pc config : ℕ) → i.op ≡ Sdma → raised i a b access pc config ≡ None → a < 4
sdma_channel i a b access pc config is e =
    let none : is_invalid Sdma a ≡ false = sym (ap (λ (op : Op). is_invalid op a) is) ∙ (calm_parts i a b access pc config e).0 in
    grind (arith, nat_tests)
