-- Words of a run: those that one page has, and those that are stored one by one.
use Rattle.std.proofs.Common.{◌≡◌, ℕ, ◌+◌, ◌*◌, ◌/◌, ◌%◌, ◌^◌, ◌<◌, ◌≤◌, List, [], ◌∷◌, length, get_or, drop, sym, refl, ap, ◌∙◌, arith}
use Rattle.std.specs.Prelude.{Option, Some}
use Rattle.std.proofs.lemmas.List.{at_drop_more, at_drop_all}
use Rattle.i9_model.specs.Writes.{wrapped}
use Rattle.i9_model.specs.Memory.{Memory, region_of, ordered_word, word_in, word_bytes, with_bytes, with_words}
use Rattle.i9_memory.specs.declared.memory.Memory.{Memory as Kept}
use Rattle.i9_memory.specs.declared.pages.Page.{Page}
use Rattle.i9_memory.specs.declared.pages.Pages.{Pages}
use Rattle.i9_memory.specs.Pages.{byte_in, byte_of, page_of}
use Rattle.i9_memory.specs.Memory.{memory_of}

-- ---- reads

-- a byte of a page
page_byte : (p : Pages) (page : Page) (a x k : ℕ) → page_of p (a / 256) ≡ Some page → x / 256 ≡ a / 256 → x % 256 ≡ k → byte_in (Some page) k ≡ byte_of p x
page_byte p page a x k is number place =
    sym (ap (λ (n : ℕ). byte_in (page_of p n) (x % 256)) number ∙ ap (λ (o : Option Page). byte_in o (x % 256)) is ∙ ap (byte_in (Some page)) place)

same_word : (m : Memory) (a b p q r s v w y z : ℕ) → region_of a ≡ region_of b → p ≡ v → q ≡ w → r ≡ y → s ≡ z → ordered_word m a (p ∷ q ∷ r ∷ s ∷ []) ≡ ordered_word m b (v ∷ w ∷ y ∷ z ∷ [])
same_word m a b p q r s v w y z e h i j k = rw (e, h, i, j, k) refl

-- a word of a page, in the order of the page's region
pub page_word : (m : Kept) (page : Page) (a k : ℕ) → a < 2 ^ 32 → page_of m.pages (a / 256) ≡ Some page → a % 256 + 4 * k + 4 ≤ 256
    → ordered_word (memory_of m) a (byte_in (Some page) (a % 256 + 4 * k) ∷ byte_in (Some page) (a % 256 + 4 * k + 1) ∷ byte_in (Some page) (a % 256 + 4 * k + 2) ∷ byte_in (Some page) (a % 256 + 4 * k + 3) ∷ [])
    ≡ word_in (memory_of m) (wrapped (a + 4 * k))
unfolding memory_of word_in
page_word m page a k h is few =
    let x = wrapped (a + 4 * k) in
    same_word (memory_of m) a x _ _ _ _ _ _ _ _ (omega arith)
    (page_byte m.pages page a x (a % 256 + 4 * k) is (omega arith) (omega arith))
    (page_byte m.pages page a (wrapped (x + 1)) (a % 256 + 4 * k + 1) is (omega arith) (omega arith))
    (page_byte m.pages page a (wrapped (x + 2)) (a % 256 + 4 * k + 2) is (omega arith) (omega arith))
    (page_byte m.pages page a (wrapped (x + 3)) (a % 256 + 4 * k + 3) is (omega arith) (omega arith))

-- ---- writes

-- one more word is stored
pub with_words_more : (m : Memory) (a : ℕ) (ws : List ℕ) (i : ℕ) → i < length ws → with_words m a (drop i ws) ≡ with_words (with_bytes m a (word_bytes m a (get_or ws i 0))) (wrapped (a + 4)) (drop (i + 1) ws)
unfolding with_words
with_words_more m a ws i h = at_drop_more (with_words m a) ws i 0 h

-- no word is left
pub with_words_done : (m : Memory) (a : ℕ) (ws : List ℕ) (i : ℕ) → length ws ≤ i → with_words m a (drop i ws) ≡ m
unfolding with_words
with_words_done m a ws i h = at_drop_all (with_words m a) ws i h

pub ruleset words_rules = (with_words_more, with_words_done)
