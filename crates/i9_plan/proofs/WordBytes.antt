-- Words of loads and bytes of stores.
use Rattle.std.proofs.Common.{◌≡◌, ℕ, ◌+◌, ◌^◌, ◌<◌, ◌≤◌, List, [], ◌∷◌, ◌++◌, length, get_or, take, refl, ap, add-one, append_assoc, arith}
use Rattle.std.proofs.lemmas.List.{take_all}
use Rattle.std.proofs.Math.Seq.{take-suc}
use Rattle.i9_model.proofs.WordBytes.{source_take}
use Rattle.i9_model.specs.Writes.{wrapped}
use Rattle.i9_model.specs.Memory.{Memory, word_in, words_in}

-- one more byte
pub append_more : (xs bs : List ℕ) (k : ℕ) → k < length bs → (xs ++ take k bs) ++ get_or bs k 0 ∷ [] ≡ xs ++ take (k + 1) bs
append_more xs bs k h =
    rw (append_assoc, add-one, take-suc bs k 0 h)

pub append_all : (xs bs : List ℕ) (k : ℕ) → length bs ≤ k → xs ++ take k bs ≡ xs ++ bs
append_all xs bs k h = ap (λ (ys : List ℕ). xs ++ ys) (take_all k bs h)

pub ruleset append_rules = (append_more, append_all)

-- ---- the first words of a source of four

pub take_all_words : (ws : List ℕ) (n : ℕ) → length ws ≤ n → take n ws ≡ ws
take_all_words ws n h = take_all n ws h

pub ruleset source_rules = (source_take, take_all_words)

-- ---- the words of a load

pub no_words : (m : Memory) (a : ℕ) → [] ≡ words_in m a 0
no_words m a = refl

pub single_word : (m : Memory) (a : ℕ) → a < 2 ^ 32 → word_in m a ∷ [] ≡ words_in m a 1
single_word m a h = let here : a ≡ wrapped (a + 0) = omega arith in ap (λ (x : ℕ). word_in m x ∷ []) here

pub ruleset few_words = (no_words, single_word)
