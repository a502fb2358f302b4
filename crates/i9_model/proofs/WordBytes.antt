-- The bytes of the first words of a list, and the first words of a source of four.
use Rattle.std.proofs.Common.{◌≡◌, ℕ, zero, suc, ◌+◌, ◌*◌, ◌^◌, ◌<◌, ◌≤◌, List, [], ◌∷◌, ◌++◌, length, get_or, take, refl, ap, ◌∙◌, add-one, append_assoc, append-nil, arith}
use Rattle.std.proofs.lemmas.List.{length-take}
use Rattle.std.proofs.Math.Seq.{take-suc}
use Rattle.i9_isa.specs.declared.inst.Operand.{Operand}
use Rattle.i9_model.specs.Writes.{wrapped}
use Rattle.i9_model.specs.Memory.{Memory, word_bytes}
use Rattle.i9_model.specs.State.{State}
use Rattle.i9_model.specs.Operands.{source_words}
use Rattle.i9_model.specs.Step.{bytes_of_words}

-- one more word
words_then : (m : Memory) (a : ℕ) (ws : List ℕ) (w : ℕ) → a < 2 ^ 32 → bytes_of_words m a (ws ++ w ∷ []) ≡ bytes_of_words m a ws ++ word_bytes m (wrapped (a + 4 * length ws)) w
unfolding bytes_of_words
words_then m a [] w h = let here : a ≡ wrapped (a + 0) = omega arith in append-nil (word_bytes m a w) ∙ ap (λ (x : ℕ). word_bytes m x w) here
words_then m a (v ∷ ws) w h = grind (arith, append_assoc, words_then m (wrapped (a + 4)) ws w (omega arith))

pub listed_more : (m : Memory) (a : ℕ) (ws : List ℕ) (k : ℕ) → a < 2 ^ 32 → k < length ws → bytes_of_words m a (take (k + 1) ws) ≡ bytes_of_words m a (take k ws) ++ word_bytes m (wrapped (a + 4 * k)) (get_or ws k 0)
listed_more m a ws k h few =
    let long : length (take k ws) ≡ k = omega (arith, length-take k ws) in
    cc (add-one k, take-suc ws k 0 few, words_then m a (take k ws) (get_or ws k 0) h)

pub listed_none : (m : Memory) (a : ℕ) (ws : List ℕ) → bytes_of_words m a (take 0 ws) ≡ []
unfolding bytes_of_words
listed_none m a ws = refl

pub ruleset word_rules = (listed_more, listed_none)

pub source_take : (s : State) (o : Operand) (n : ℕ) → n ≤ 4 → take n (source_words s o 4) ≡ source_words s o n
source_take s o zero h = refl
source_take s o (suc zero) h = refl
source_take s o (suc (suc zero)) h = refl
source_take s o (suc (suc (suc zero))) h = refl
source_take s o (suc (suc (suc (suc zero)))) h = refl
source_take s o (suc (suc (suc (suc (suc n))))) h = absurd (omega arith)
