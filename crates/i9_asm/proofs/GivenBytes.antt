-- Bytes of items, as the code appends them.
use Rattle.std.proofs.Common.{◌≡◌, ℕ, zero, suc, ◌+◌, List, [], ◌∷◌, ◌++◌, Option, Some, None, refl, sym, ap, subst, ◌∙◌, add-one, append_assoc, arith}
use Rattle.std.specs.Prelude.{is_some, IsSome, if◌then◌else◌}
use Rattle.i9_isa.specs.declared.inst.Inst.{Inst}
use Rattle.std.specs.List.{flat_map}
use Rattle.std.specs.Int.{w32, to_le_bytes}
use Rattle.std.proofs.lemmas.List.{append-nil}
use Rattle.i9_isa.specs.Words.{words_of}
use Rattle.i9_statement.specs.declared.fault.Fault.{Fault}
use Rattle.i9_statement.specs.declared.fault.Fault.TheVariants.{Form}
use Rattle.i9_statement.specs.declared.fault.Noted.{Noted}
use Rattle.i9_statement.specs.declared.statements.Statement.{Statement}
use Rattle.i9_statement.specs.Values.{Names, value_of}
use Rattle.i9_statement.specs.Statements.{statement_of}
use Rattle.i9_statement.specs.Noted.{fine}
use Rattle.i9_statement.specs.Codes.{IsCode, stands_one, stands_two}
use Rattle.i9_asm.specs.Lines.{Item, Data, Ascii, Space, Instruction}
use Rattle.i9_asm.specs.Strings.{string_of}
use Rattle.i9_asm.specs.Places.{Place, address_at, size_of}
use Rattle.i9_asm.specs.Source.{zeros, low_bytes, data_value, item_fault, Gives, gives_instruction, gives_data, gives_characters, gives_zeros}
use Rattle.i9_asm.specs.Reading.{Adds, AddsWords}

zeros-suc : (n : ℕ) → zeros n ++ 0 ∷ [] ≡ 0 ∷ zeros n
unfolding zeros
zeros-suc zero = refl
zeros-suc (suc n) = ap (λ zs. 0 ∷ zs) (zeros-suc n)

pub zeros-more : (n : ℕ) → zeros n ++ 0 ∷ [] ≡ zeros (n + 1)
unfolding zeros
zeros-more n = rw add-one (zeros-suc n)

-- ---- words

pub is_one_word : (i : Inst) (o : Option ℕ) → o ≡ None → (words_of i ≡ 2 → IsSome o) → words_of i ≡ 1
is_one_word i o is h = grind arith

noted_fine : (n : Noted Statement) → n.fault ≡ None → n ≡ fine n.value
noted_fine n e = rw e refl

-- a statement without fault, of one word
pub one_word : (names : Names) (ip : ℕ) (s old new : List ℕ) (n : Noted Statement) (w0 : ℕ) → n ≡ statement_of ip names s → words_of n.value.inst ≡ 1 → ((w1 : ℕ) → IsCode n.value.inst n.value.spare w0 w1) → new ≡ old ++ to_le_bytes w32 w0
    → (statement_of ip names s).fault ≡ None → AddsWords names ip s old new
one_word names ip s old new n w0 is one code same sound =
    let read = sym is ∙ noted_fine n (ap (λ m. m.fault) is ∙ sound) in
    record { words = w0 ∷ []; stands = stands_one n.value.inst n.value.spare w0 read one code; same = same ∙ ap (λ bs. old ++ bs) (sym (append-nil (to_le_bytes w32 w0))) }

-- of two
pub two_words : (names : Names) (ip : ℕ) (s old mid new : List ℕ) (n : Noted Statement) (w0 w1 : ℕ) → n ≡ statement_of ip names s → words_of n.value.inst ≡ 2 → IsCode n.value.inst n.value.spare w0 w1 → mid ≡ old ++ to_le_bytes w32 w0 → new ≡ mid ++ to_le_bytes w32 w1
    → (statement_of ip names s).fault ≡ None → AddsWords names ip s old new
two_words names ip s old mid new n w0 w1 is two code first second sound =
    let read = sym is ∙ noted_fine n (ap (λ m. m.fault) is ∙ sound) in
    record {
      words = w0 ∷ w1 ∷ [];
      stands = stands_two n.value.inst n.value.spare w0 w1 read two code;
      same = second ∙ ap (λ bs. bs ++ to_le_bytes w32 w1) first ∙ append_assoc old (to_le_bytes w32 w0) (to_le_bytes w32 w1) ∙ ap (λ bs. old ++ (to_le_bytes w32 w0 ++ bs)) (sym (append-nil (to_le_bytes w32 w1)));
    }

-- ---- items

pub code_adds : (names : Names) (p : Place) (ip : ℕ) (s old new : List ℕ) (item : Item) → ip ≡ address_at p → item ≡ Instruction s → ((statement_of ip names s).fault ≡ None → AddsWords names ip s old new)
    → item_fault names p item ≡ None → Adds names p item old new
code_adds names p ip s old new item at is h sound =
    let g = subst (λ a. (statement_of a names s).fault ≡ None → AddsWords names a s old new) at h in
    let w = g (subst (λ i. item_fault names p i ≡ None) is sound) in
    subst (λ i. Adds names p i old new) (sym is) (record { bytes = flat_map (to_le_bytes w32) w.words; gives = gives_instruction s w.words w.stands; same = w.same })

pub data_adds : (names : Names) (p : Place) (width : ℕ) (fs : List (List ℕ)) (old new : List ℕ) (item : Item) → item ≡ Data width fs
    → new ≡ old ++ flat_map (λ f. low_bytes width (data_value width (value_of names f)).value) fs → Adds names p item old new
data_adds names p width fs old new item is same = subst (λ i. Adds names p i old new) (sym is) (record { bytes = _; gives = gives_data width fs; same = same })

pub string_adds : (names : Names) (p : Place) (s old new : List ℕ) (item : Item) → item ≡ Ascii s → ((cs : List ℕ) → string_of s ≡ Some cs → new ≡ old ++ cs) → item_fault names p item ≡ None → Adds names p item old new
string_adds names p s old new item is h sound = subst (λ i. Adds names p i old new) (sym is) (by_string (string_of s) refl (subst (λ i. item_fault names p i ≡ None) is sound))
  where
    by_string : (o : Option (List ℕ)) → string_of s ≡ o → ◌≡◌ {A = Option Fault} (if is_some o then None else Some Form) None → Adds names p (Ascii s) old new
    by_string None e sound = absurd cc
    by_string (Some cs) e sound = record { bytes = cs; gives = gives_characters s cs e; same = h cs e }

pub zeros_add : (names : Names) (p : Place) (f : List ℕ) (n : ℕ) (old new : List ℕ) (item : Item) → item ≡ Space f → n ≡ size_of p (Space f) → new ≡ old ++ zeros n → Adds names p item old new
zeros_add names p f n old new item is size same = subst (λ i. Adds names p i old new) (sym is) (record { bytes = _; gives = gives_zeros f; same = same ∙ ap (λ k. old ++ zeros k) size })

-- items without bytes
pub no_bytes : (names : Names) (p : Place) (item same : Item) (old : List ℕ) → item ≡ same → Gives names p same [] → Adds names p item old old
no_bytes names p item same old is gives = subst (λ i. Adds names p i old old) (sym is) (record { bytes = []; gives = gives; same = sym (append-nil old) })
