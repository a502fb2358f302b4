-- Writes: which bytes they leave, and what they make of memories that differ elsewhere.
use Rattle.std.proofs.Common.{◌≡◌, ℕ, ◌+◌, true, false, List, [], ◌∷◌, ◌++◌, length, refl, ap, arith}
use Rattle.std.specs.Prelude.{◌==◌, ◌⊎◌}
use Rattle.std.proofs.lemmas.Bool.{or_from}
use Rattle.i9_model.specs.Writes.{wrapped, written, upwards}
use Rattle.i9_model.specs.Memory.{Memory, in_port_page, stored, word_bytes, with_bytes, with_words}
use Rattle.i9_model.specs.Frames.{is_put}
use Rattle.i9_model.specs.Step.{bytes_of_words}
use Rattle.i9_model.specs.Alike.{with_other}
use Rattle.i9_model.proofs.Stored.{stored-cons, stored-append}
use Rattle.i9_model.proofs.Upwards.{upwards-wrapped}
use Rattle.i9_model.proofs.Lengths.{four_bytes}

-- ---- one byte

one_agree : (g h : ℕ → ℕ) (y b x : ℕ) → (in_port_page x ≡ true → g x ≡ h x) → ((x == y) ≡ false → g x ≡ h x) → stored g ((y, b) ∷ []) x ≡ stored h ((y, b) ∷ []) x
unfolding written
one_agree g h y b x port out = grind arith

one_kept : (g : ℕ → ℕ) (y b x : ℕ) → ((x == y) ≡ false) ⊎ (in_port_page x ≡ true) → stored g ((y, b) ∷ []) x ≡ g x
unfolding written
one_kept g y b x kept = grind arith

-- ---- several writes

-- bytes agree after the same writes, where they agreed in the port page and beside these writes
pub stored_agree : (g h : ℕ → ℕ) (ps : List (ℕ × ℕ)) (x : ℕ) → (in_port_page x ≡ true → g x ≡ h x) → (is_put ps x ≡ false → g x ≡ h x) → stored g ps x ≡ stored h ps x
unfolding written is_put
stored_agree g h [] x port out = out refl
stored_agree g h (p ∷ ps) x port out =
    cc (
      stored-cons g p ps,
      stored_agree (stored g (p ∷ [])) (stored h (p ∷ [])) ps x (λ t. one_agree g h p.0 p.1 x port (λ e. port t)) (λ o. one_agree g h p.0 p.1 x port (λ e. out (or_from (x == p.0) (is_put ps x) e o))),
      stored-cons h p ps,
    )

first_kept : (p : ℕ × ℕ) (ps : List (ℕ × ℕ)) (x : ℕ) → (is_put (p ∷ ps) x ≡ false) ⊎ (in_port_page x ≡ true) → ((x == p.0) ≡ false) ⊎ (in_port_page x ≡ true)
unfolding is_put
first_kept p ps x h = grind arith

later_kept : (p : ℕ × ℕ) (ps : List (ℕ × ℕ)) (x : ℕ) → (is_put (p ∷ ps) x ≡ false) ⊎ (in_port_page x ≡ true) → (is_put ps x ≡ false) ⊎ (in_port_page x ≡ true)
unfolding is_put
later_kept p ps x h = grind arith

-- a byte beside them, or in the port page, stays
pub stored_kept : (g : ℕ → ℕ) (ps : List (ℕ × ℕ)) (x : ℕ) → (is_put ps x ≡ false) ⊎ (in_port_page x ≡ true) → stored g ps x ≡ g x
unfolding written
stored_kept g [] x kept = refl
stored_kept g (p ∷ ps) x kept =
    cc (
      stored-cons g p ps,
      stored_kept (stored g (p ∷ [])) ps x (later_kept p ps x kept),
      one_kept g p.0 p.1 x (first_kept p ps x kept),
    )

-- ---- words in a row

-- their bytes go by the orders of regions alone
pub stored_words_same : (m : Memory) (bytes : ℕ → ℕ) (a : ℕ) (ws : List ℕ) → bytes_of_words (with_other m bytes) a ws ≡ bytes_of_words m a ws
unfolding bytes_of_words word_bytes
stored_words_same m bytes a [] = refl
stored_words_same m bytes a (w ∷ ws) = ap (λ bs. word_bytes m a w ++ bs) (stored_words_same m bytes (wrapped (a + 4)) ws)

upwards_append : (a : ℕ) (xs ys : List ℕ) → upwards a (xs ++ ys) ≡ upwards a xs ++ upwards (a + length xs) ys
upwards_append a [] ys = let none : a ≡ a + 0 = omega arith in ap (λ (b : ℕ). upwards b ys) none
upwards_append a (x ∷ xs) ys = grind (arith, upwards_append (a + 1) xs ys)

-- bytes behind four others
behind_four : (m : Memory) (a : ℕ) (xs bs : List ℕ) → length xs ≡ 4 → with_bytes (with_bytes m a xs) (wrapped (a + 4)) bs ≡ with_bytes m a (xs ++ bs)
behind_four m a xs bs four = grind (arith, upwards-wrapped, stored-append, upwards_append)

-- words stored one by one are their bytes stored at once
pub words_as_bytes : (m : Memory) (a : ℕ) (ws : List ℕ) → with_words m a ws ≡ with_bytes m a (bytes_of_words m a ws)
unfolding with_words bytes_of_words written
words_as_bytes m a [] = refl
words_as_bytes m a (w ∷ ws) =
    let bs = word_bytes m a w in
    let later = wrapped (a + 4) in
    let one = with_bytes m a bs in
    cc (
      words_as_bytes one later ws,
      stored_words_same m one.bytes later ws,
      behind_four m a bs (bytes_of_words m later ws) (four_bytes m a w),
    )
