-- Each statement without fault stands for words.
use Rattle.std.proofs.Common.{◌≡◌, ℕ, ◌<◌, ◌^◌, Bool, true, List, [], ◌∷◌, Option, Some, None, IfSome, refl, arith, inl, inr}
use Rattle.std.specs.Int.Bits.{bit_and, bit_or}
use Rattle.std.proofs.lemmas.Bool.{cases_Bool}
use Rattle.std.proofs.lemmas.Nat.{or_lt}
use Rattle.i9_isa.specs.declared.op.Op.{Op}
use Rattle.i9_isa.specs.declared.inst.Inst.{Inst}
use Rattle.i9_isa.specs.declared.inst.Mode.{Mode}
use Rattle.i9_isa.specs.Operands.{has_disp}
use Rattle.i9_isa.specs.Table.{row_of}
use Rattle.i9_isa.specs.Valid.{IsValid}
use Rattle.i9_isa.specs.Words.{words_of_mode}
use Rattle.i9_decode.specs.Ignored.{ignored_bits}
use Rattle.i9_text.specs.Text.{is_blank}
use Rattle.i9_statement.specs.declared.fault.Noted.{Noted}
use Rattle.i9_statement.specs.Noted.{fine}
use Rattle.i9_statement.specs.Cut.{before, from, is_byte}
use Rattle.i9_statement.specs.Values.{Names}
use Rattle.i9_statement.proofs.Decimals.{hex_below}
use Rattle.i9_statement.specs.declared.statements.Statement.{Statement}
use Rattle.i9_statement.specs.Mnemonics.{named_by}
use Rattle.i9_statement.specs.Fields.{fields_of}
use Rattle.i9_statement.specs.Instructions.{instruction_of}
use Rattle.i9_statement.specs.Statements.{open_brace, spare_of, said, with_spare, statement_by, statement_of}
use Rattle.i9_statement.specs.Codes.{IsCode, Stands, stands_one, stands_two}
use Rattle.i9_statement.proofs.Marked.{marked}
use Rattle.i9_statement.proofs.StatementWords.{one_or_two}
use Rattle.i9_statement.proofs.ValidCode.{valid_word}
use Rattle.i9_statement.proofs.ValidRead.{if_some-then, instruction_valid}

-- ---- the prediction

Fits : Op × Bool → Type 0
Fits n = n.1 ≡ true → (row_of n.0).hint ≡ true

named_fits : (s : List ℕ) → IfSome (named_by s) Fits
unfolding Fits named_by
named_fits s = grind arith

-- ---- the bits in braces

abbrev IsWord : ℕ → Type 0
IsWord n = n < 2 ^ 32

spare_small : (s : List ℕ) → IfSome (spare_of s) IsWord
unfolding spare_of
spare_small s = grind (arith, if_some-then, cases_Bool, hex_below)

-- ---- statements

-- a statement that has words
record IsSound (s : Statement) : Type 0 where
  valid : IsValid s.inst
  ignored : bit_and s.spare (ignored_bits s.inst) ≡ s.spare
  small : s.spare < 2 ^ 32

spare_sound : (n : Noted Inst) (bits : Option ℕ) → IsValid n.value → IfSome bits IsWord → IsSound (with_spare n bits).value
spare_sound n bits v h = grind arith

statement_sound : (ip : ℕ) (names : Names) (s : List ℕ) → (statement_of ip names s).fault ≡ None → IsSound (statement_of ip names s).value
unfolding statement_of Fits
statement_sound ip names s = by_name (named_by (before is_blank s)) (named_fits (before is_blank s)) (from is_blank s)
  where
    by_name : (o : Option (Op × Bool)) → IfSome o Fits → (rest : List ℕ) → (statement_by ip names o rest).fault ≡ None → IsSound (statement_by ip names o rest).value
    by_name None fits rest e = absurd cc
    by_name (Some n) fits rest e =
        let operands = fields_of (before (is_byte open_brace) rest) in
        spare_sound (instruction_of ip n.0 n.1 names operands) (spare_of (from (is_byte open_brace) rest))
        (instruction_valid ip n.0 n.1 names operands fits) (spare_small (from (is_byte open_brace) rest))

-- ---- words

one_word : (m : Mode) → words_of_mode m ≡ 1 → has_disp m ≡ true → ⊥
one_word m one h = grind arith

-- the first word of a sound statement
first_word : (s : Statement) → IsSound s → ℕ
first_word s h = bit_or (valid_word s.inst h.valid).word s.spare

first_code : (s : Statement) (h : IsSound s) (w1 : ℕ) → (has_disp s.inst.ea.mode ≡ true → s.inst.ea.disp ≡ w1) → IsCode s.inst s.spare (first_word s h) w1
unfolding first_word
first_code s h w1 d =
    let w = valid_word s.inst h.valid in
    marked s.inst w.word w1 s.spare (w.form w1 d) w.clear h.small (or_lt 32 w.word s.spare w.small h.small) h.ignored

noted_fine : (n : Noted Statement) → n.fault ≡ None → n ≡ fine (said n.value.inst n.value.spare)
noted_fine n e = rw (← e) refl

pub some_words : (names : Names) (ip : ℕ) (s : List ℕ) → (statement_of ip names s).fault ≡ None → (ws : List ℕ) × Stands names ip s ws
some_words names ip s e =
    let t = (statement_of ip names s).value in
    let h = statement_sound ip names s e in
    let w = first_word t h in
    let read = noted_fine (statement_of ip names s) e in
    elim (one_or_two t.inst.ea.mode) [
      | inl one ↦ (w ∷ [], stands_one t.inst t.spare w read one (λ w1. first_code t h w1 (λ d. absurd (one_word t.inst.ea.mode one d))))
      | inr two ↦ (w ∷ t.inst.ea.disp ∷ [], stands_two t.inst t.spare w t.inst.ea.disp read two (first_code t h t.inst.ea.disp (λ _. refl)))
    ]
