-- The turns of a course depend on the image and on the number of sets that is asked for, and on nothing else that a run is
-- given.
use Rattle.std.proofs.Common.{◌≡◌, ℕ, List, [], ◌∷◌, Option, refl, ap, ◌∙◌, arith}
use Rattle.i9_model.specs.State.{boot}
use Rattle.i9_model.specs.HeldFrames.{Cache, cache, sets_in, cache_acted, cache_configured, cache_after}
use Rattle.i9_model.specs.Run.{Given, Record, action_done}
use Rattle.i9_past.proofs.Cuts.{state_by}
use Rattle.i9_course.specs.Course.{Item, Step, Fence, Course, records_of, late_of, with_late, with_fence, course, instruction_turn, event_ahead}

module _ (g k : Given) (image : k.image ≡ g.image) (sets : k.sets ≡ g.sets) where
  pub same_cache : (rs : List Record) → cache_after k rs ≡ cache_after g rs
  same_cache [] = ap (λ (i : List (ℕ × ℕ)). cache [] (boot i).memory) image
  same_cache (r ∷ rs) =
      ap (λ (o : Option ℕ). cache_configured r.after.memory (cache_acted (sets_in o r.before) (action_done r) (cache_after k rs))) sets
      ∙ ap (λ (c : Cache). cache_configured r.after.memory (cache_acted (sets_in g.sets r.before) (action_done r) c)) (same_cache rs)

  pub same_course : (h : List Item) → course k h ≡ course g h
  same_course [] = refl
  same_course (Fence ∷ h) = ap with_fence (same_course h)
  same_course (Step r ∷ h) =
      let rs = records_of h in
      ap (λ (o : Option ℕ). with_late (course k h) (late_of o (cache_after k rs) r (course k h))) sets
      ∙ ap (λ (c : Cache). with_late (course k h) (late_of g.sets c r (course k h))) (same_cache rs)
      ∙ ap (λ (x : Course). with_late x (late_of g.sets (cache_after g rs) r x)) (same_course h)

  pub same_turn : (h : List Item) → instruction_turn k h ≡ instruction_turn g h
  same_turn h = grind (arith, same_course, same_cache, state_by)

  -- with the same plan, the same event stands there
  pub same_event : (h : List Item) → k.plan ≡ g.plan → event_ahead k h ≡ event_ahead g h
  same_event h plan = grind (arith, state_by, same_turn)
