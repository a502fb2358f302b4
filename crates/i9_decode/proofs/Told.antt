-- What the fields of an operand tell, and what an operand tells of its fields.
use Rattle.std.proofs.Common.{◌≡◌, ℕ, Bool, true, false, not, refl, sym, ap, ◌∙◌, Some, None, cond}
use Rattle.i9_isa.specs.declared.inst.Operand.{Operand}
use Rattle.i9_isa.specs.declared.inst.Operand.TheVariants.{Reg, Lit, Sfr}
use Rattle.i9_isa.specs.declared.format.Use.{Use}
use Rattle.i9_isa.specs.declared.format.Use.TheVariants.{Unused, Source, Left, Right, Destination}
use Rattle.i9_isa.specs.Operands.{takes, field_number}
use Rattle.i9_isa.specs.Words.{operand_in, if_taken}
use Rattle.i9_decode.specs.Ignored.{is_used}
use Rattle.i9_decode.specs.Spelling.{m_of, s_of}
use Rattle.i9_decode.proofs.Spelled.{lacks_s}

-- uses whose operands have a bit M, and a bit S
abbrev pub has_m : Use → Bool
has_m Unused = false
has_m Right = false
has_m _ = true

abbrev pub has_s : Use → Bool
has_s u = not (lacks_s u)

-- what is read tells how it was spelled
record ReadFrom (u : Use) (o : Operand) (m s : Bool) (f : ℕ) : Type 0 where
  number : is_used u ≡ true → f ≡ field_number o
  bit_m : cond (has_m u) m false ≡ m_of u o
  bit_s : cond (has_s u) s false ≡ s_of u o

told : (u : Use) (x o : Operand) (m s : Bool) (f : ℕ) → f ≡ field_number x → cond (has_m u) m false ≡ m_of u x → cond (has_s u) s false ≡ s_of u x → if_taken u x ≡ Some o → ReadFrom u o m s f
told u x o m s f en em es h = by (takes u x) h
  where
    by : (b : Bool) → cond b (Some x) None ≡ Some o → ReadFrom u o m s f
    by true h = let same : x ≡ o = cc in record { number = λ _. rw (← same) en; bit_m = rw (← same) em; bit_s = rw (← same) es }
    by false h = absurd (cc)

read_from : (u : Use) (o : Operand) (m s : Bool) (f : ℕ) → operand_in u m s f ≡ Some o → ReadFrom u o m s f
read_from Unused o m s f h = record { number = λ t. absurd (cc); bit_m = refl; bit_s = refl }
read_from (Source n) o true true f h = absurd (cc)
read_from (Source n) o true false f h = told (Source n) (Lit f) o true false f refl refl refl h
read_from (Source n) o false true f h = told (Source n) (Sfr f) o false true f refl refl refl h
read_from (Source n) o false false f h = told (Source n) (Reg f) o false false f refl refl refl h
read_from Left o true s f h = told Left (Lit f) o true s f refl refl refl h
read_from Right o m true f h = told Right (Sfr f) o m true f refl refl refl h
read_from Right o m false f h = told Right (Reg f) o m false f refl refl refl h
read_from (Destination n) o true s f h = told (Destination n) (Sfr f) o true s f refl refl refl h
read_from _ o true s f h = absurd (cc)
read_from u o false s f h = told u (Reg f) o false s f refl refl refl h

-- An operand that is read twice, from fields with number f and bits M and S, and from ones with number g and bits n
-- and t.
pub record ReadTwice (u : Use) (o : Operand) (m n s t : Bool) (f g : ℕ) : Type 0 where
  pub number : is_used u ≡ true → f ≡ g
  pub bit_m : has_m u ≡ true → m ≡ n
  pub bit_s : has_s u ≡ true → s ≡ t

pub read_twice : (u : Use) (o : Operand) (m n s t : Bool) (f g : ℕ) → operand_in u m s f ≡ Some o → operand_in u n t g ≡ Some o → ReadTwice u o m n s t f g
read_twice u o m n s t f g x y =
    let a = read_from u o m s f x in
    let b = read_from u o n t g y in
    record {
      number = λ e. a.number e ∙ sym (b.number e);
      bit_m = λ e. rw e at (a.bit_m ∙ sym b.bit_m);
      bit_s = λ e. rw e at (a.bit_s ∙ sym b.bit_s);
    }

-- fields that are the same where the operand is used give the same operand
pub operand_same : (u : Use) (m n s t : Bool) (f g : ℕ) → (is_used u ≡ true → m ≡ n) → (is_used u ≡ true → s ≡ t) → (is_used u ≡ true → f ≡ g) → operand_in u m s f ≡ operand_in u n t g
operand_same Unused m n s t f g em es ef = refl
operand_same u m n s t f g em es ef = ap (λ x. operand_in u x s f) (em refl) ∙ ap (λ x. operand_in u n x f) (es refl) ∙ ap (operand_in u n t) (ef refl)
