-- A result sees the words that its name reads, and of the controls bit 12 and the condition code where it is read.
use Rattle.std.proofs.Common.{◌≡◌, ℕ, ◌+◌, ◌/◌, ◌%◌, ◌^◌, ◌<◌, Bool, true, false, cond, List, [], ◌∷◌, Option, Some, None, refl, sym, ap, ◌∙◌, subst, arith, ℤ}
use Rattle.std.proofs.lemmas.Bool.Decides.{nat_tests}
use Rattle.std.specs.Prelude.{◌==◌, nat_lt, nat_le, not, bit_or, bit_and, slice_index, ◌+ℤ◌, ◌-ℤ◌, ◌*ℤ◌, pos, int_lt}
use Rattle.std.specs.Int.RustNames.{int_div, int_rem}
use Rattle.i9_isa.specs.declared.op.Op.{Op}
use Rattle.i9_isa.specs.declared.op.Op.TheVariants.{Alterbit, Cmpinco, Cmpinci, Cmpdeco, Cmpdeci, Addc, Subc, Spanbit, Scanbit, Cmpo, Cmpi, Concmpo, Concmpi, Scanbyte, Chkbit, Addi, Subi, Muli, Shli, Divo, Remo, Divi, Remi, Modi, Ediv, Testno, Testg, Teste, Testge, Testl, Testne, Testle, Testo}
use Rattle.i9_isa.specs.Operands.{words_read}
use Rattle.i9_isa.specs.Table.{row_of}
use Rattle.i9_isa.specs.Words.{bit, field}
use Rattle.i9_isa.specs.Resources.{reads_code, writes_code}
use Rattle.i9_model.specs.declared.arith.Arith.TheVariants.{Overflow, ZeroDivide}
use Rattle.i9_model.specs.Writes.{wrapped}
use Rattle.i9_model.specs.Operands.{reduced}
use Rattle.i9_model.specs.Numbers.{signed, fits, modulo, complement, highest_one, bit_word}
use Rattle.i9_model.specs.Conditions.{with_code, code_where, compared, signed_compared, bit_in, holds}
use Rattle.i9_model.specs.Results.{Answer, word, words, code, word_and_code, faulting, checked, found, carry_code, shares_byte, tested, long, long_divided, results_by}
use Rattle.i9_tune.specs.Inputs.{IsSameWords, Keeps, Codes, Flags, AreSame}

-- ---- words that are not read may be 0

abbrev used : ℕ → ℕ → ℕ → ℕ
used n k w = cond (nat_lt k n) w 0

abbrev all_used : ℕ → List ℕ → List ℕ
all_used n a = used n 0 (slice_index a 0) ∷ used n 1 (slice_index a 1) ∷ used n 2 (slice_index a 2) ∷ used n 3 (slice_index a 3) ∷ []

reads_used : (op : Op) (a b : List ℕ) (c ac : ℕ) → results_by op (all_used (words_read (row_of op).a) a) (all_used (words_read (row_of op).b) b) (used (words_read (row_of op).c) 0 c) ac ≡ results_by op a b c ac
reads_used Addi a b c ac = refl
reads_used _ a b c ac = refl

used_same : (n k w v : ℕ) → (k < n → w ≡ v) → used n k w ≡ used n k v
used_same n k w v same = grind (arith, nat_tests, same)

all_same : (n : ℕ) (a x : List ℕ) → IsSameWords n a x → all_used n a ≡ all_used n x
all_same n a x same = cc (
  used_same n 0 (slice_index a 0) (slice_index x 0) (same 0),
  used_same n 1 (slice_index a 1) (slice_index x 1) (same 1),
  used_same n 2 (slice_index a 2) (slice_index x 2) (same 2),
  used_same n 3 (slice_index a 3) (slice_index x 3) (same 3),
)

sources_same : (op : Op) (a b x y : List ℕ) (c z ac : ℕ) → IsSameWords (words_read (row_of op).a) a x → IsSameWords (words_read (row_of op).b) b y → (0 < words_read (row_of op).c → c ≡ z)
    → results_by op a b c ac ≡ results_by op x y z ac
sources_same op a b x y c z ac p q r =
    let e = all_same (words_read (row_of op).a) a x p in
    let f = all_same (words_read (row_of op).b) b y q in
    let g = used_same (words_read (row_of op).c) 0 c z r in
    sym (reads_used op a b c ac) ∙ rw (e, f, g) (reads_used op x y z ac)

-- ---- the controls

plain : (op : Op) (vs : List ℕ) (ac bc : ℕ) → AreSame op ac bc (Some (words vs ac)) (Some (words vs bc))
plain op vs ac bc = record { values = refl; fault = refl; change = Keeps; here = refl; there = refl; coded = λ h. absurd (cc h) }

plain_value : (op : Op) (v w ac bc : ℕ) → v ≡ w → AreSame op ac bc (Some (word v ac)) (Some (word w bc))
plain_value op v w ac bc e = record { values = ap (λ (x : ℕ). x ∷ []) e; fault = refl; change = Keeps; here = refl; there = refl; coded = λ h. absurd (cc h) }

coded_words : (op : Op) (vs : List ℕ) (n ac bc : ℕ) → writes_code op ≡ true
    → AreSame op ac bc (Some (words vs (with_code ac n))) (Some (words vs (with_code bc n)))
coded_words op vs n ac bc w = record { values = refl; fault = refl; change = Codes n; here = refl; there = refl; coded = λ h. w }

overflow_same : (op : Op) (b c : Bool) (v ac bc : ℕ)
    → AreSame op ac bc (Some (cond b (cond c (word v (bit_or ac (2 ^ 8))) (faulting Overflow ac)) (word v ac))) (Some (cond b (cond c (word v (bit_or bc (2 ^ 8))) (faulting Overflow bc)) (word v bc)))
overflow_same op true true v ac bc = record { values = refl; fault = refl; change = Flags; here = refl; there = refl; coded = λ h. absurd (cc h) }
overflow_same op true false v ac bc = record { values = refl; fault = refl; change = Keeps; here = refl; there = refl; coded = λ h. absurd (cc h) }
overflow_same op false c v ac bc = plain op (v ∷ []) ac bc

checked_same : (op : Op) (z : ℤ) (ac bc : ℕ) → bit ac 12 ≡ bit bc 12 → AreSame op ac bc (Some (checked z ac)) (Some (checked z bc))
checked_same op z ac bc e = rw (sym e) (overflow_same op (not (fits z)) (bit ac 12) (reduced z) ac bc)

divided_same : (op : Op) (b : Bool) (o p : Answer) (ac bc : ℕ) → AreSame op ac bc (Some o) (Some p)
    → AreSame op ac bc (Some (cond b (faulting ZeroDivide ac) o)) (Some (cond b (faulting ZeroDivide bc) p))
divided_same op true o p ac bc h = record { values = refl; fault = refl; change = Keeps; here = refl; there = refl; coded = λ k. absurd (cc k) }
divided_same op false o p ac bc h = h

found_same : (op : Op) (o : Option ℕ) (ac bc : ℕ) → writes_code op ≡ true → AreSame op ac bc (Some (found o ac)) (Some (found o bc))
found_same op (Some p) ac bc w = coded_words op (p ∷ []) 2 ac bc w
found_same op None ac bc w = coded_words op (0xFFFFFFFF ∷ []) 0 ac bc w

unless_same : (op : Op) (b d : Bool) (n ac bc : ℕ) → b ≡ d → writes_code op ≡ true
    → AreSame op ac bc (Some (cond b (words [] ac) (code n ac))) (Some (cond d (words [] bc) (code n bc)))
unless_same op true true n ac bc e w = plain op [] ac bc
unless_same op false false n ac bc e w = coded_words op [] n ac bc w
unless_same op _ _ n ac bc e w = absurd (cc e)

carry_same : (op : Op) (x y k l ac bc : ℕ) → k ≡ l → writes_code op ≡ true
    → AreSame op ac bc (Some (word_and_code (wrapped (y + x + k)) (carry_code x y k) ac)) (Some (word_and_code (wrapped (y + x + l)) (carry_code x y l) bc))
carry_same op x y k l ac bc e w = rw (sym e) (coded_words op (wrapped (y + x + k) ∷ []) (carry_code x y k) ac bc w)

bit_one : (ac bc : ℕ) → ac % 8 ≡ bc % 8 → bit ac 1 ≡ bit bc 1
bit_one ac bc e = ap (λ (n : ℕ). n == 1) (let h : ac / 2 % 2 ≡ bc / 2 % 2 = omega (arith, e) in h)

bit_two : (ac bc : ℕ) → ac % 8 ≡ bc % 8 → bit ac 2 ≡ bit bc 2
bit_two ac bc e = ap (λ (n : ℕ). n == 1) (let h : ac / 4 % 2 ≡ bc / 4 % 2 = omega (arith, e) in h)

carry_in : (ac bc : ℕ) → ac % 8 ≡ bc % 8 → field ac 1 1 ≡ field bc 1 1
carry_in ac bc e = let h : ac / 2 % 2 ≡ bc / 2 % 2 = omega (arith, e) in h

test_same : (op : Op) (mask ac bc : ℕ) → ac % 8 ≡ bc % 8 → AreSame op ac bc (Some (tested mask ac)) (Some (tested mask bc))
test_same op mask ac bc e = plain_value op _ _ ac bc (ap (λ (n : ℕ). cond (holds mask n) 1 0) e)

controls_same : (op : Op) (a b : List ℕ) (c ac bc : ℕ) → (reads_code op ≡ true → ac % 8 ≡ bc % 8) → bit ac 12 ≡ bit bc 12
    → AreSame op ac bc (results_by op a b c ac) (results_by op a b c bc)
controls_same Addi a b c ac bc r m = checked_same Addi (signed (slice_index b 0) +ℤ signed (slice_index a 0)) ac bc m
controls_same Subi a b c ac bc r m = checked_same Subi (signed (slice_index b 0) -ℤ signed (slice_index a 0)) ac bc m
controls_same Muli a b c ac bc r m = checked_same Muli (signed (slice_index b 0) *ℤ signed (slice_index a 0)) ac bc m
controls_same Shli a b c ac bc r m = checked_same Shli (signed (slice_index b 0) *ℤ pos (2 ^ slice_index a 0)) ac bc m
controls_same Divo a b c ac bc r m = divided_same Divo (slice_index a 0 == 0) _ _ ac bc (plain Divo (slice_index b 0 / slice_index a 0 ∷ []) ac bc)
controls_same Remo a b c ac bc r m = divided_same Remo (slice_index a 0 == 0) _ _ ac bc (plain Remo (slice_index b 0 % slice_index a 0 ∷ []) ac bc)
controls_same Divi a b c ac bc r m = divided_same Divi (slice_index a 0 == 0) _ _ ac bc (checked_same Divi (int_div (signed (slice_index b 0)) (signed (slice_index a 0))) ac bc m)
controls_same Remi a b c ac bc r m = divided_same Remi (slice_index a 0 == 0) _ _ ac bc (plain Remi (reduced (int_rem (signed (slice_index b 0)) (signed (slice_index a 0))) ∷ []) ac bc)
controls_same Modi a b c ac bc r m = divided_same Modi (slice_index a 0 == 0) _ _ ac bc (plain Modi (reduced (modulo (signed (slice_index b 0)) (signed (slice_index a 0))) ∷ []) ac bc)
controls_same Ediv a b c ac bc r m = divided_same Ediv (slice_index a 0 == 0) _ _ ac bc (plain Ediv (long_divided (long (slice_index b 0) (slice_index b 1)) (slice_index a 0)) ac bc)
controls_same Alterbit a b c ac bc r m =
    plain_value Alterbit _ _ ac bc (ap (λ (t : Bool). cond t (bit_or (slice_index b 0) (bit_word (slice_index a 0))) (bit_and (slice_index b 0) (complement (bit_word (slice_index a 0))))) (bit_one ac bc (r refl)))
controls_same Addc a b c ac bc r m = carry_same Addc (slice_index a 0) (slice_index b 0) (field ac 1 1) (field bc 1 1) ac bc (carry_in ac bc (r refl)) refl
controls_same Subc a b c ac bc r m = carry_same Subc (complement (slice_index a 0)) (slice_index b 0) (field ac 1 1) (field bc 1 1) ac bc (carry_in ac bc (r refl)) refl
controls_same Concmpo a b c ac bc r m = unless_same Concmpo (bit ac 2) (bit bc 2) (cond (nat_le (slice_index a 0) (slice_index b 0)) 2 1) ac bc (bit_two ac bc (r refl)) refl
controls_same Concmpi a b c ac bc r m = unless_same Concmpi (bit ac 2) (bit bc 2) (cond (not (int_lt (signed (slice_index b 0)) (signed (slice_index a 0)))) 2 1) ac bc (bit_two ac bc (r refl)) refl
controls_same Spanbit a b c ac bc r m = found_same Spanbit (highest_one 32 (complement (slice_index a 0))) ac bc refl
controls_same Scanbit a b c ac bc r m = found_same Scanbit (highest_one 32 (slice_index a 0)) ac bc refl
controls_same Cmpo a b c ac bc r m = coded_words Cmpo [] (compared (slice_index a 0) (slice_index b 0)) ac bc refl
controls_same Cmpi a b c ac bc r m = coded_words Cmpi [] (signed_compared (slice_index a 0) (slice_index b 0)) ac bc refl
controls_same Cmpinco a b c ac bc r m = coded_words Cmpinco (wrapped (slice_index b 0 + 1) ∷ []) (compared (slice_index a 0) (slice_index b 0)) ac bc refl
controls_same Cmpinci a b c ac bc r m = coded_words Cmpinci (wrapped (slice_index b 0 + 1) ∷ []) (signed_compared (slice_index a 0) (slice_index b 0)) ac bc refl
controls_same Cmpdeco a b c ac bc r m = coded_words Cmpdeco (reduced (pos (slice_index b 0) -ℤ pos 1) ∷ []) (compared (slice_index a 0) (slice_index b 0)) ac bc refl
controls_same Cmpdeci a b c ac bc r m = coded_words Cmpdeci (reduced (pos (slice_index b 0) -ℤ pos 1) ∷ []) (signed_compared (slice_index a 0) (slice_index b 0)) ac bc refl
controls_same Scanbyte a b c ac bc r m = coded_words Scanbyte [] (code_where (shares_byte (slice_index a 0) (slice_index b 0))) ac bc refl
controls_same Chkbit a b c ac bc r m = coded_words Chkbit [] (code_where (bit_in (slice_index b 0) (slice_index a 0))) ac bc refl
controls_same Testno a b c ac bc r m = test_same Testno 0 ac bc (r refl)
controls_same Testg a b c ac bc r m = test_same Testg 1 ac bc (r refl)
controls_same Teste a b c ac bc r m = test_same Teste 2 ac bc (r refl)
controls_same Testge a b c ac bc r m = test_same Testge 3 ac bc (r refl)
controls_same Testl a b c ac bc r m = test_same Testl 4 ac bc (r refl)
controls_same Testne a b c ac bc r m = test_same Testne 5 ac bc (r refl)
controls_same Testle a b c ac bc r m = test_same Testle 6 ac bc (r refl)
controls_same Testo a b c ac bc r m = test_same Testo 7 ac bc (r refl)
controls_same _ a b c ac bc r m = record { values = refl; fault = refl; change = Keeps; here = refl; there = refl; coded = λ h. absurd (cc h) }

-- ---- both

pub result_same : (op : Op) (a b x y : List ℕ) (c z ac bc : ℕ) → IsSameWords (words_read (row_of op).a) a x → IsSameWords (words_read (row_of op).b) b y → (0 < words_read (row_of op).c → c ≡ z)
    → (reads_code op ≡ true → ac % 8 ≡ bc % 8) → bit ac 12 ≡ bit bc 12 → AreSame op ac bc (results_by op a b c ac) (results_by op x y z bc)
result_same op a b x y c z ac bc p q r code m =
    subst (λ (o : Option Answer). AreSame op ac bc (results_by op a b c ac) o) (sources_same op a b x y c z bc p q r) (controls_same op a b c ac bc code m)
