-- The best line of one more.
use Rattle.std.proofs.Common.{◌≡◌, ℕ, ◌+◌, ◌<◌, ◌≤◌, true, false, Option, Some, None, arith}
use Rattle.std.proofs.lemmas.Bool.{both_ways}
use Rattle.i9_model.specs.State.{Interrupts}
use Rattle.i9_model.specs.Interrupts.{line_vector}
use Rattle.i9_ints.specs.Best.{is_ready, IsBest, IsBestLine}

module _ (s : Interrupts) (pc k : ℕ) where
  more : (P : ℕ → Type 0) → ((j : ℕ) → j < k → P j) → P k → (j : ℕ) → j < k + 1 → P j
  more P before here j h = grind arith

  -- it isn't ready
  pub best_kept : (best : Option ℕ) → IsBestLine s pc k best → is_ready s pc k ≡ false → IsBestLine s pc (k + 1) best
  best_kept None none e = more (λ j. is_ready s pc j ≡ false) none e
  best_kept (Some b) best e =
      let within = best.within in
      record {
        within = omega arith;
        ready = best.ready;
        none_greater = more (λ j. is_ready s pc j ≡ true → line_vector s.maps j ≤ line_vector s.maps b) best.none_greater (λ t. absurd (both_ways (is_ready s pc k) e t));
        none_lower = best.none_lower;
      }

  -- its vector is no greater
  pub best_stays : (b : ℕ) → IsBest s pc k b → line_vector s.maps k ≤ line_vector s.maps b → IsBest s pc (k + 1) b
  best_stays b best le =
      let within = best.within in
      record {
        within = omega arith;
        ready = best.ready;
        none_greater = more (λ j. is_ready s pc j ≡ true → line_vector s.maps j ≤ line_vector s.maps b) best.none_greater (λ t. le);
        none_lower = best.none_lower;
      }

  -- its vector is greater
  pub best_changes : (b : ℕ) → IsBest s pc k b → is_ready s pc k ≡ true → line_vector s.maps b < line_vector s.maps k → IsBest s pc (k + 1) k
  best_changes b best t less = record {
    within = omega arith;
    ready = t;
    none_greater = more (λ j. is_ready s pc j ≡ true → line_vector s.maps j ≤ line_vector s.maps k) (λ j h r. let le = best.none_greater j h r in omega arith) (λ r. omega arith);
    none_lower = λ j h r. let le = best.none_greater j h r in omega arith;
  }
