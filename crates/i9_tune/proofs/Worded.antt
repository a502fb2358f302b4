-- Instructions stand where their words are in memory.
use Rattle.std.proofs.Common.{◌≡◌, ℕ, ◌+◌, ◌*◌, List, [], ◌∷◌, ◌++◌, Ok, ap, ◌∙◌, subst, arith}
use Rattle.std.specs.List.{flat_map}
use Rattle.i9_isa.specs.declared.inst.Inst.{Inst}
use Rattle.i9_isa.specs.Words.{words_of, decoded}
use Rattle.i9_isa.proofs.Decoding.{encodes_decoded, second_free}
use Rattle.i9_model.specs.Writes.{wrapped}
use Rattle.i9_model.specs.Memory.{Memory, word_in}
use Rattle.i9_tune.specs.Tuning.{IsCodeOf, one_word, two_words, AreCodes, no_codes, more_codes}
use Rattle.i9_tune.specs.Standings.{StandAt, AreWords, none, short, long, HoldsWords}

pub stand_by_words : (m : Memory) (a : ℕ) (is : List Inst) (ws : List ℕ) → AreWords is ws → HoldsWords m a ws → StandAt m a is
stand_by_words m a [] [] none h = tt
stand_by_words m a [] (w ∷ ws) are h = elim are [ ]
stand_by_words m a (i ∷ is) [] are h = elim are [ ]
stand_by_words m a (i ∷ is) (w ∷ ws) (short one e more) h =
    let first : decoded (word_in m a) (word_in m (wrapped (a + 4))) ≡ Ok i =
    ap (λ (x : ℕ). decoded x (word_in m (wrapped (a + 4)))) h.0 ∙ second_free w 0 (word_in m (wrapped (a + 4))) i one e in
    let next : wrapped (a + 4) ≡ wrapped (a + 4 * words_of i) = omega (arith, one) in
    (first, subst (λ (b : ℕ). StandAt m b is) next (stand_by_words m (wrapped (a + 4)) is ws more h.1))
stand_by_words m a (i ∷ is) (w ∷ v ∷ ws) (long two e more) h =
    let first : decoded (word_in m a) (word_in m (wrapped (a + 4))) ≡ Ok i =
    ap (λ (x : ℕ). decoded x (word_in m (wrapped (a + 4)))) h.0 ∙ ap (decoded w) h.1.0 ∙ e in
    let next : wrapped (wrapped (a + 4) + 4) ≡ wrapped (a + 4 * words_of i) = omega (arith, two) in
    (first, subst (λ (b : ℕ). StandAt m b is) next (stand_by_words m (wrapped (wrapped (a + 4) + 4)) is ws more h.1.1))

-- printed words are words
code_words : (i : Inst) (is : List Inst) (ws vs : List ℕ) → IsCodeOf i ws → AreWords is vs → AreWords (i ∷ is) (ws ++ vs)
code_words i is ws vs (one_word w one code) more = short one (encodes_decoded w 0 i (code 0).form) more
code_words i is ws vs (two_words w v two code) more = long two (encodes_decoded w v i code.form) more

pub printed_words : (is : List Inst) (codes : List (List ℕ)) → AreCodes is codes → AreWords is (flat_map (λ (ws : List ℕ). ws) codes)
printed_words [] codes no_codes = none
printed_words (i ∷ is) codes (more_codes _ _ ws wss code more) = code_words i is ws (flat_map (λ (us : List ℕ). us) wss) code (printed_words is wss more)
