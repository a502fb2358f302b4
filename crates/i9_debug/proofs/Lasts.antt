-- On the way to a later state, where a stop held last.
use Rattle.std.proofs.Common.{◌≡◌, ℕ, ◌+◌, ◌<◌, ◌≤◌, Bool, true, false, List, [], ◌∷◌, ◌++◌, Option, Some, None, refl, sym, subst, ap, ◌⊎◌, inl, inr, is_some, arith}
use Rattle.std.specs.Option.{option_or, unwrap_or}
use Rattle.i9_model.specs.declared.view.View.{View}
use Rattle.i9_model.specs.PrintedText.{view_of}
use Rattle.i9_model.specs.Run.{Given, Record}
use Rattle.i9_schedule.specs.Plan.{Plan}
use Rattle.i9_course.specs.PipelinedRun.{steps}
use Rattle.i9_machine.specs.declared.line.Line.{Line}
use Rattle.i9_machine.specs.declared.line.Issued.{Issued}
use Rattle.i9_machine.specs.declared.line.Turn.TheVariants as answers
use Rattle.i9_machine.specs.declared.machine.Machine.{Machine}
use Rattle.i9_machine.specs.StandsFor.{Comes}
use Rattle.i9_machine.specs.Progress.{progress}
use Rattle.i9_machine.proofs.Told.{issued_counts, on_counts}
use Rattle.i9_back.specs.Stands.{StandsEarlier}
use Rattle.i9_back.specs.Trail.{FoundBetween}
use Rattle.i9_back.proofs.Going.{GoingAt, going_begins, earlier_there, going_there, on_goes, issued_goes}
use Rattle.i9_back.proofs.Trails.{found_joins, found_all}
use Rattle.i9_debug.specs.Last.{IsLast, HeldLast, IsLastIn}

module _ (allows : View → Bool → Type 0) (g : Given) where
  -- newer records were done behind older ones, and this is where the stop held last among them
  pub record Seeking (older : List Record) (done to n : ℕ) (found : Option ℕ) (m : Machine) (plan : Plan) : Type 0 where
    pub newer : List Record
    pub going : GoingAt g (newer ++ older) done to m plan
    pub is : HeldLast allows n newer found

  pub seek_begins : (from to n : ℕ) (m : Machine) (plan : Plan) → from ≤ to → (s : StandsEarlier g from m plan) → Seeking s.records from to n None m plan
  seek_begins from to n m plan le s = record { newer = []; going = going_begins g from to m plan le s; is = refl }

  pub seek_there : (from done to n : ℕ) (found : Option ℕ) (was m : Machine) (old_plan plan : Plan) → (s : StandsEarlier g from was old_plan) → to ≤ done
      → Seeking s.records done to n found m plan → FoundBetween (HeldLast allows n) g from to found × StandsEarlier g to m plan
  seek_there from done to n found was m old_plan plan s le k = (
    record { older = s.records; newer = k.newer; start = s.earlier; earlier = earlier_there g (k.newer ++ s.records) done to m plan k.going le; is = k.is },
    going_there g (k.newer ++ s.records) done to m plan k.going le,
  )

  module _ (older : List Record) (done to n : ℕ) (found : Option ℕ) (was : Machine) (old_plan : Plan) (s : Seeking older done to n found was old_plan)
      (before m : Machine) (plan : Plan) (old new : List Line) (below : done < to) where
    pub on_seeks : Comes g (steps (s.newer ++ older)) answers.On (progress before old_plan old) (progress m plan new) → Seeking older done to n found m plan
    on_seeks d =
        let none = on_counts d.done.kind d.done.before d.tells in
        record {
          newer = d.done ∷ s.newer;
          going = on_goes g (s.newer ++ older) done to was old_plan s.going before m plan old new below d;
          is = inr (λ one lt. absurd (omega (arith, none, one)), s.is);
        }

    -- an instruction is not below the n-th, or the stop does not hold behind it
    pub issued_passes : (t : Issued) → (d : Comes g (steps (s.newer ++ older)) (answers.Issued t) (progress before old_plan old) (progress m plan new))
        → (d.done.after.count < n → allows (view_of d.done.after) false) → Seeking older (done + 1) to n found m plan
    issued_passes t d passed = record {
      newer = d.done ∷ s.newer;
      going = issued_goes g (s.newer ++ older) done to was old_plan s.going before m plan old new below t d;
      is = inr (λ one lt. passed lt, s.is);
    }

    -- the n-th is not asked
    pub issued_whole : (t : Issued) → Comes g (steps (s.newer ++ older)) (answers.Issued t) (progress before old_plan old) (progress m plan new) → n ≤ done + 1
        → Seeking older (done + 1) to n found m plan
    issued_whole t d le =
        let at = issued_goes g (s.newer ++ older) done to was old_plan s.going before m plan old new below t d in
        let count : d.done.after.count ≡ done + 1 = at.count in
        issued_passes t d (λ lt. absurd (omega (arith, count, lt, le)))

    -- or it does
    pub issued_holds : (t : Issued) → (d : Comes g (steps (s.newer ++ older)) (answers.Issued t) (progress before old_plan old) (progress m plan new)) → done + 1 < n
        → allows (view_of d.done.after) true → Seeking older (done + 1) to n (Some (done + 1)) m plan
    issued_holds t d lt held =
        let at = issued_goes g (s.newer ++ older) done to was old_plan s.going before m plan old new below t d in
        let count : d.done.after.count ≡ done + 1 = at.count in
        record {
          newer = d.done ∷ s.newer;
          going = at;
          is = inl ((issued_counts d.done.kind d.done.before t d.tells, omega (arith, count, lt), held), ap (λ (k : ℕ). Some k) (sym count));
        }

-- ---- records behind records

module _ (allows : View → Bool → Type 0) (n : ℕ) where
  held_joins : (ys xs : List Record) (y x : Option ℕ) → HeldLast allows n ys y → HeldLast allows n xs x → HeldLast allows n (ys ++ xs) (option_or y x)
  held_joins [] xs y x none older = subst (HeldLast allows n xs) (ap (λ (o : Option ℕ). option_or o x) (sym none)) older
  held_joins (r ∷ ys) xs y x (inl w) older = inl (w.0, ap (λ (o : Option ℕ). option_or o x) w.1)
  held_joins (r ∷ ys) xs y x (inr w) older = inr (w.0, held_joins ys xs y x w.1 older)

  held_keeps : (ys xs : List Record) (c : ℕ) → HeldLast allows n ys (Some c) → HeldLast allows n (ys ++ xs) (Some c)
  held_keeps [] xs c some = absurd (cc some)
  held_keeps (r ∷ ys) xs c (inl w) = inl w
  held_keeps (r ∷ ys) xs c (inr w) = inr (w.0, held_keeps ys xs c w.1)

  held_is_last : (rs : List Record) (found : Option ℕ) → HeldLast allows n rs found → IsLast allows n rs (unwrap_or found 0)
  held_is_last [] found none = ap (λ (o : Option ℕ). unwrap_or o 0) none
  held_is_last (r ∷ rs) found (inl w) = inl (w.0, ap (λ (o : Option ℕ). unwrap_or o 0) w.1)
  held_is_last (r ∷ rs) found (inr w) = inr (w.0, held_is_last rs found w.1)

  module _ (g : Given) where
    -- newer instructions were looked at behind older ones
    pub held_on : (from mid to : ℕ) (newer found : Option ℕ) → FoundBetween (HeldLast allows n) g from mid found → FoundBetween (HeldLast allows n) g mid to newer
        → FoundBetween (HeldLast allows n) g from to (option_or newer found)
    held_on from mid to newer found a b = found_joins (HeldLast allows n) g held_joins from mid to newer found a b

    -- all that may count were
    pub held_all : (from : ℕ) (found : Option ℕ) → FoundBetween (HeldLast allows n) g from n found → (from ≡ 0) ⊎ (is_some found ≡ true)
        → IsLastIn allows g n (unwrap_or found 0)
    held_all from found a whole =
        let all = found_all (HeldLast allows n) g held_keeps from n found a whole in
        record { records = all.0; earlier = all.1; is = held_is_last all.0 found all.2 }
