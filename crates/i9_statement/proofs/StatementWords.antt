-- The words of a statement: there is one list of them, and a printed statement stands for those that it was printed of.
use Rattle.std.proofs.Common.{◌≡◌, ℕ, ◌^◌, ◌<◌, Bool, false, List, [], ◌∷◌, ◌++◌, Option, Some, Ok, refl, sym, ap, subst, ◌∙◌, arith, inl, inr, ◌⊎◌}
use Rattle.std.specs.Int.{bit_at}
use Rattle.std.specs.Int.Bits.{bit_and}
use Rattle.std.proofs.lemmas.List.{append-nil}
use Rattle.std.proofs.lemmas.Option.{option_and_then_some}
use Rattle.std.proofs.lemmas.Nat.{and_le_l}
use Rattle.std.proofs.lemmas.Nat.Bits.{bit_at_and, bit_at-lt, same_from_bits, same_from_bits_below}
use Rattle.i9_isa.specs.declared.inst.Inst.{Inst}
use Rattle.i9_isa.specs.declared.inst.Mode.{Mode}
use Rattle.i9_isa.specs.declared.inst.Ea.{Ea}
use Rattle.i9_isa.specs.declared.format.Format.{Format}
use Rattle.i9_isa.specs.Operands.{no_address}
use Rattle.i9_isa.specs.Table.{row_of}
use Rattle.i9_isa.specs.Words.{words_of, words_of_mode, decoded, address_in, if_scaled, ea_in, Encodes}
use Rattle.i9_isa.proofs.Decoding.{decoded_encodes, second_free}
use Rattle.i9_decode.specs.Ignored.{ignored_bits}
use Rattle.i9_decode.proofs.ValidWords.{encodes_valid}
use Rattle.i9_decode.proofs.IgnoredBits.{ignored_only}
use Rattle.i9_statement.specs.declared.fault.Noted.{Noted}
use Rattle.i9_statement.specs.declared.statements.Statement.{Statement}
use Rattle.i9_statement.specs.Noted.{fine}
use Rattle.i9_statement.specs.Values.{Names}
use Rattle.i9_statement.specs.Statements.{said, statement_of, statement_text}
use Rattle.i9_statement.specs.Codes.{IsCode, Stands, stands_one, stands_two, taken}
use Rattle.i9_statement.proofs.ReadFields.{pad}
use Rattle.i9_statement.proofs.ReadStatements.{statement_of-text}

-- ---- the first word of an instruction with these ignored bits

-- the bits that a mask picks, picked again
pub and_again : (w s : ℕ) → bit_and (bit_and w s) s ≡ bit_and w s
and_again w s = same_from_bits (bit_and (bit_and w s) s) (bit_and w s) (λ k. omega (arith, bit_at_and (bit_and w s) s k, bit_at_and w s k))

pub bit_cases : (n : ℕ) → n < 2 → (n ≡ 0) ⊎ (n ≡ 1)
bit_cases n h = grind arith

picked : (s v w k : ℕ) → bit_at s k ≡ 1 → bit_and v s ≡ bit_and w s → bit_at v k ≡ bit_at w k
picked s v w k one same =
    omega (arith, bit_at_and v s k, bit_at_and w s k, ap (λ n. bit_at n k) same, bit_at-lt v k, bit_at-lt w k)

-- there is only one
pub code_unique : (i : Inst) (bits v w w1 : ℕ) → IsCode i bits v w1 → IsCode i bits w w1 → v ≡ w
code_unique i bits v w w1 cv cw =
    let s = ignored_bits i in
    same_from_bits_below 32 v w cv.small cw.small (λ k lt. elim (bit_cases (bit_at s k) (bit_at-lt s k)) [
      | inl out ↦ ignored_only v w w1 i cv.form cw.form k lt out
      | inr inside ↦ picked s v w k inside (cv.spare ∙ sym cw.spare)
    ])

pub one_or_two : (m : Mode) → (words_of_mode m ≡ 1) ⊎ (words_of_mode m ≡ 2)
one_or_two m = grind arith

-- ---- the second word

address_second : (m : Mode) (w w1 : ℕ) (e : Ea) → if_scaled (address_in m w w1) ≡ Some e → words_of_mode e.mode ≡ 2 → e.disp ≡ w1
address_second m w w1 e h two = grind arith

no_second : (w1 : ℕ) (e : Ea) → ◌≡◌ {A = Option Ea} (Some no_address) (Some e) → words_of_mode e.mode ≡ 2 → e.disp ≡ w1
no_second w1 e h two = let is : no_address ≡ e = cc in absurd (cc (ap (λ a. words_of_mode a.mode) is ∙ two))

ea_second : (f : Format) (w w1 : ℕ) (e : Ea) → ea_in f w w1 ≡ Some e → words_of_mode e.mode ≡ 2 → e.disp ≡ w1
ea_second f w w1 e h two = grind (arith, option_and_then_some, address_second, no_second)

second_word : (i : Inst) (w w1 : ℕ) → Encodes w w1 i → words_of i ≡ 2 → i.ea.disp ≡ w1
second_word i w w1 h two = ea_second (row_of i.op).format w w1 i.ea h.ea two

-- ---- words

-- what a statement of one reading stands for
read_once : (n : Noted Statement) (i j : Inst) (b c : ℕ) → n ≡ fine (said i b) → n ≡ fine (said j c) → ◌≡◌ {A = Statement} (said i b) (said j c)
read_once n i j b c x y = ap (λ m. m.value) (sym x ∙ y)

same_code : (i j : Inst) (b c v x : ℕ) → ◌≡◌ {A = Statement} (said i b) (said j c) → IsCode i b v x → IsCode j c v x
same_code i j b c v x same code = subst (λ (s : Statement). IsCode s.inst s.spare v x) same code

both_once : (i : Inst) (b v w x y : ℕ) → words_of i ≡ 2 → IsCode i b v x → IsCode i b w y → (v ∷ x ∷ []) ≡ (w ∷ y ∷ [])
both_once i b v w x y two cv cw = grind (arith, second_word, code_unique)

pub stands_once : (names : Names) (ip : ℕ) (s : List ℕ) (us vs : List ℕ) → Stands names ip s us → Stands names ip s vs → us ≡ vs
stands_once names ip s _ _ (stands_one i b v read one code) (stands_one j c w again other codes) =
    let same = read_once (statement_of ip names s) i j b c read again in
    ap (λ first. first ∷ []) (code_unique j c v w 0 (same_code i j b c v 0 same (code 0)) (codes 0))
stands_once names ip s _ _ (stands_two i b v x read two code) (stands_two j c w y again other codes) =
    let same = read_once (statement_of ip names s) i j b c read again in
    both_once j c v w x y other (same_code i j b c v x same code) codes
stands_once names ip s _ _ (stands_one i b v read one code) (stands_two j c w y again two codes) =
    absurd (cc (sym one ∙ ap (λ (t : Statement). words_of t.inst) (read_once (statement_of ip names s) i j b c read again) ∙ two))
stands_once names ip s _ _ (stands_two i b v x read two code) (stands_one j c w again one codes) =
    absurd (cc (sym two ∙ ap (λ (t : Statement). words_of t.inst) (read_once (statement_of ip names s) i j b c read again) ∙ one))

-- ---- a printed statement stands for its words

pub statement_stands : (names : Names) (ip w0 w1 : ℕ) (i : Inst) (q : Bool) → ip < 2 ^ 32 → w0 < 2 ^ 32 → w1 < 2 ^ 32 → decoded w0 w1 ≡ Ok i
    → Stands names ip (statement_text ip i (bit_and w0 (ignored_bits i)) ++ pad q) (taken w0 w1 i)
statement_stands names ip w0 w1 i q low h0 h1 is =
    let s = ignored_bits i in
    let bits = bit_and w0 s in
    let form = decoded_encodes w0 w1 i is in
    let v = encodes_valid w0 w1 i h1 form in
    let small : bits < 2 ^ 32 = omega (arith, and_le_l w0 s) in
    let read = statement_of-text ip names i bits q low small v (and_again w0 s) in
    elim (one_or_two i.ea.mode) [
      | inl one ↦ rw one (stands_one i bits w0 read one (λ w. record { form = decoded_encodes w0 w i (second_free w0 w1 w i one is); spare = refl; small = h0 }))
      | inr two ↦ rw two (stands_two i bits w0 w1 read two (record { form = form; spare = refl; small = h0 }))
    ]

pub statement_stands_alone : (names : Names) (ip w0 w1 : ℕ) (i : Inst) → ip < 2 ^ 32 → w0 < 2 ^ 32 → w1 < 2 ^ 32 → decoded w0 w1 ≡ Ok i
    → Stands names ip (statement_text ip i (bit_and w0 (ignored_bits i))) (taken w0 w1 i)
statement_stands_alone names ip w0 w1 i low h0 h1 is =
    subst (λ s. Stands names ip s (taken w0 w1 i)) (append-nil (statement_text ip i (bit_and w0 (ignored_bits i)))) (statement_stands names ip w0 w1 i false low h0 h1 is)
