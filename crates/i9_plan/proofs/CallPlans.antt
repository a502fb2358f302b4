-- Plans of calls and returns, as answers and as hazards.
use Rattle.std.proofs.Common.{◌≡◌, ℕ, ◌≤◌, cond, Option, Some, None, Result, Ok, Err, arith}
use Rattle.std.proofs.lemmas.Bool.Decides.{nat_tests}
use Rattle.std.specs.Prelude.{nat_le}
use Rattle.i9_model.specs.declared.push.Push.{Push}
use Rattle.i9_model.specs.declared.calls.Sys.{Sys}
use Rattle.i9_model.specs.declared.calls.Pop.{Pop}
use Rattle.i9_model.specs.declared.calls.CallsStop.{CallsStop}
use Rattle.i9_model.specs.declared.calls.CallsStop.TheVariants.{Hazard, Length}
use Rattle.i9_model.specs.declared.layout.TheConstants.{MOST_SYSTEM_CALL}
use Rattle.i9_model.specs.Hazards.{unless}
use Rattle.i9_model.specs.Calls.{calls_answer}

abbrev tested : ℕ → Option ℕ → Sys → Result Sys CallsStop
tested n h s = cond (nat_le n MOST_SYSTEM_CALL) (calls_answer (unless h s)) (Err Length)

-- a call of a number that is not too great
pub calls_ok : (n : ℕ) (h : Option ℕ) (s t : Sys) → n ≤ MOST_SYSTEM_CALL → tested n h s ≡ Ok t → (h ≡ None) × (t ≡ s)
calls_ok n h s t few e = (grind (arith, nat_tests), grind (arith, nat_tests))

pub calls_hazard : (n : ℕ) (h : Option ℕ) (s : Sys) (a : ℕ) → n ≤ MOST_SYSTEM_CALL → tested n h s ≡ Err (Hazard a) → h ≡ Some a
calls_hazard n h s a few e = grind (arith, nat_tests)

pub calls_length : (n : ℕ) (h : Option ℕ) (s : Sys) → n ≤ MOST_SYSTEM_CALL → tested n h s ≡ Err Length → ⊥
calls_length n h s few e = grind (arith, nat_tests)

pub ret_ok : (h : Option ℕ) (p q : Pop) → unless h p ≡ Ok q → (h ≡ None) × (q ≡ p)
ret_ok h p q e = (grind arith, grind arith)

pub ret_hazard_is : (h : Option ℕ) (p : Pop) (a : ℕ) → unless h p ≡ Err a → h ≡ Some a
ret_hazard_is h p a e = grind arith

pub ruleset call_rules = (calls_ok, calls_hazard, calls_length, ret_ok, ret_hazard_is)

-- ---- pushes

pub push_free : (o : Option ℕ) (p q : Push) → unless o p ≡ Ok q → (o ≡ None) × (p ≡ q)
push_free o p q e = (grind arith, grind arith)

pub push_hazard : (o : Option ℕ) (p : Push) (a : ℕ) → unless o p ≡ Err a → o ≡ Some a
push_hazard o p a e = grind arith

pub ruleset push_rules = (push_free, push_hazard)
