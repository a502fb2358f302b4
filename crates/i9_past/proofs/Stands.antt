-- What is known of what stands at the instruction address: which words were read without a hazard, and that the
-- access of an instruction that is done meets none.
use Rattle.std.proofs.Common.{◌≡◌, ℕ, ◌+◌, Bool, false, cond, Option, None, Result, refl, arith}
use Rattle.i9_isa.specs.declared.inst.Inst.{Inst}
use Rattle.i9_isa.specs.declared.inst.BadWord.{BadWord}
use Rattle.i9_isa.specs.Words.{words_of}
use Rattle.i9_model.specs.Writes.{wrapped}
use Rattle.i9_model.specs.State.{State}
use Rattle.i9_model.specs.Hazards.{read_hazard}
use Rattle.i9_model.specs.Stale.{misuses}
use Rattle.i9_model.specs.Access.{hazard_of, second_hazard, fetch_hazard}
use Rattle.i9_model.specs.Standing.{Standing, Meets, Refused, Faults, Runs, raised_in, by_later, by_raised, by_word, by_fetch, stands_at}
use Rattle.i9_model.proofs.CallLaws.{first_none, second_none}

-- so many words, one or two, were read without a hazard
pub record IsRead (s : State) (words : ℕ) : Type 0 where
  pub first : read_hazard s.frames s.ip 4 ≡ None
  pub second : words ≡ 2 → read_hazard s.frames (wrapped (s.ip + 4)) 4 ≡ None

abbrev pub Known : State → Standing → Type 0
Known s (Meets a) = Unit {0}
Known s (Refused number) = IsRead s 1
Known s (Faults i number) = IsRead s (words_of i) × (misuses i s ≡ false)
Known s (Runs i) = IsRead s (words_of i) × (hazard_of i s ≡ None) × (misuses i s ≡ false)

later_known : (s : State) (i : Inst) (o : Option (ℕ × ℕ)) → misuses i s ≡ false → IsRead s (words_of i) → Known s (by_later i s o)
later_known s i o allowed read = grind arith

raised_known : (s : State) (i : Inst) (o : Option (ℕ × ℕ)) → misuses i s ≡ false → IsRead s (words_of i) → Known s (by_raised i s o)
raised_known s i o allowed read = grind (arith, later_known)

marks_known : (s : State) (i : Inst) (b : Bool) → misuses i s ≡ b → IsRead s (words_of i) → Known s (cond b (Meets s.ip) (by_raised i s (raised_in i s)))
marks_known s i b is read = grind (arith, raised_known)

word_known : (s : State) (r : Result Inst BadWord) → read_hazard s.frames s.ip 4 ≡ None → second_hazard s r ≡ None → Known s (by_word s r)
word_known s r first second = grind (arith, marks_known)

fetch_known : (s : State) (h : Option ℕ) → fetch_hazard s ≡ h → Known s (by_fetch s h)
unfolding fetch_hazard
fetch_known s h is = grind (arith, word_known, first_none, second_none)

pub known : (s : State) → Known s (stands_at s)
unfolding stands_at
known s = fetch_known s (fetch_hazard s) refl
