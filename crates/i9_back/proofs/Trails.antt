-- Machines that are kept at earlier states, and what is found between two of those.
use Rattle.std.proofs.Common.{◌≡◌, ℕ, ◌<◌, ◌≤◌, Bool, true, false, cond, List, [], ◌∷◌, ◌++◌, length, get_or, Option, Some, None, refl, sym, ap, ◌∙◌, subst, append_assoc, ◌⊎◌, inl, inr, is_some, arith}
use Rattle.std.specs.List.{AllByRecursion, items_where_true}
use Rattle.std.specs.List.Retain.{IsFiltered}
use Rattle.std.specs.Option.{option_or}
use Rattle.std.proofs.lemmas.Bool.{cond_both}
use Rattle.std.proofs.lemmas.List.{append-nil}
use Rattle.std.proofs.lemmas.List.Elements.{All-get_or, All-push, All-from_recursion, recursion_from_All}
use Rattle.i9_model.specs.Run.{Given, Record}
use Rattle.i9_course.specs.Course.{Item}
use Rattle.i9_course.specs.PipelinedRun.{steps}
use Rattle.i9_machine.specs.StandsFor.{StandsFor, Follows}
use Rattle.i9_machine.specs.declared.machine.Machine.{Machine}
use Rattle.i9_schedule.specs.Plan.{Plan}
use Rattle.i9_back.specs.declared.trail.Kept.{Kept}
use Rattle.i9_back.specs.Earlier.{IsEarlier, HasInstructions}
use Rattle.i9_back.specs.Stands.{StandsEarlier, CanGoOn, changes, last_change, Watched, IsLastChange}
use Rattle.i9_back.specs.Trail.{IsKept, FoundBetween, ChangedLast, FollowsEarlier}
use Rattle.i9_back.proofs.Earlier.{one_earlier}

-- ---- what is kept

-- one of some that are kept
pub kept_at : (g : Given) (ks : List Kept) (i : ℕ) (d : Kept) → i < length ks → AllByRecursion (IsKept g) ks → IsKept g (get_or ks i d)
kept_at g ks i d inside all = All-get_or (IsKept g) ks i d inside (All-from_recursion (IsKept g) ks all)

-- the same list, or one more
pub kept_pushed : (g : Given) (pushed : Bool) (ks new : List Kept) (k : Kept) → new ≡ cond pushed (ks ++ k ∷ []) ks → AllByRecursion (IsKept g) ks
    → IsKept g k → AllByRecursion (IsKept g) new
kept_pushed g pushed ks new k is all one =
    subst (AllByRecursion (IsKept g)) (sym is) (cond_both pushed (ks ++ k ∷ []) ks (AllByRecursion (IsKept g))
    (λ e. recursion_from_All (IsKept g) (ks ++ k ∷ []) (All-push (IsKept g) ks k (All-from_recursion (IsKept g) ks all) one)) (λ e. all))

-- some of them
kept_where : (g : Given) (bs : List Bool) (ks : List Kept) → AllByRecursion (IsKept g) ks → AllByRecursion (IsKept g) (items_where_true bs ks)
kept_where g [] ks all = tt
kept_where g (b ∷ bs) [] all = tt
kept_where g (true ∷ bs) (k ∷ ks) all = (all.0, kept_where g bs ks all.1)
kept_where g (false ∷ bs) (k ∷ ks) all = kept_where g bs ks all.1

pub kept_filtered : {P : Type 0} (R : P → Kept → Bool → P → Type 0) (p : P) (g : Given) (ks new : List Kept) → IsFiltered R p ks new → AllByRecursion (IsKept g) ks
    → AllByRecursion (IsKept g) new
kept_filtered R p g ks new is all = subst (AllByRecursion (IsKept g)) (sym is.4) (kept_where g is.0 ks all)

-- a copy of a machine stands where that does, with a schedule at the same place
pub copy_stands : (g : Given) (c : ℕ) (was m : Machine) (old plan : Plan) → StandsEarlier g c was old
    → ((h : List Item) → StandsFor g h None was → StandsFor g h None m) → m.pipeline.turn ≡ was.pipeline.turn → plan.events ≡ g.plan → plan.place ≡ old.place
    → StandsEarlier g c m plan
copy_stands g c was m old plan s same turn events place = record {
  records = s.records;
  earlier = s.earlier;
  turn = turn ∙ s.turn;
  stands = same (steps s.records) s.stands;
  follows = record { events = events; place = place ∙ s.follows.place };
}

-- ---- how far a run goes

-- a run with so many instructions has fewer
pub has_fewer : (g : Given) (c d : ℕ) → c ≤ d → HasInstructions g d → HasInstructions g c
has_fewer g c d le has = let reaches = has.reaches in record { records = has.records; past = has.past; reaches = omega (arith, le, reaches) }

pub can_go_on : (g : Given) (from to c : ℕ) (m : Machine) (plan : Plan) → to ≤ c → StandsEarlier g from m plan → HasInstructions g c → CanGoOn from to m plan
can_go_on g from to c m plan le s has = record { given = g; stands = s; reaches = has_fewer g to c le has }

-- none is there
pub none_there : {X : Type 0} (o : Option X) → is_some o ≡ false → o ≡ None
none_there o is = grind arith

-- ---- what is found

module _ {X : Type 0} (finds : List Record → Option X → Type 0) (g : Given) where
  -- nothing among no records
  pub found_none : (c : ℕ) (m : Machine) (plan : Plan) → finds [] None → StandsEarlier g c m plan → FoundBetween finds g c c None
  found_none c m plan none s = record { older = s.records; newer = []; start = s.earlier; earlier = s.earlier; is = none }

  -- among newer records, or else among older ones
  pub found_joins : ((ys xs : List Record) (y x : Option X) → finds ys y → finds xs x → finds (ys ++ xs) (option_or y x))
      → (from mid to : ℕ) (y x : Option X) → FoundBetween finds g from mid x → FoundBetween finds g mid to y → FoundBetween finds g from to (option_or y x)
  found_joins joins from mid to y x a b =
      let same : b.older ≡ a.newer ++ a.older = one_earlier g mid b.older (a.newer ++ a.older) b.start a.earlier in
      record {
        older = a.older;
        newer = b.newer ++ a.newer;
        start = a.start;
        earlier = subst (IsEarlier g to) (ap (λ (rs : List Record). b.newer ++ rs) same ∙ sym (append_assoc b.newer a.newer a.older)) b.earlier;
        is = joins b.newer a.newer y x b.is a.is;
      }

  -- among all records of an earlier state
  pub found_whole : (to : ℕ) (found : Option X) → FoundBetween finds g 0 to found → (rs : List Record) × IsEarlier g to rs × finds rs found
  found_whole to found a =
      let none : a.older ≡ [] = one_earlier g 0 a.older [] a.start (record { past = tt; last = refl }) in
      let whole : a.newer ++ a.older ≡ a.newer = ap (λ (rs : List Record). a.newer ++ rs) none ∙ append-nil a.newer in
      (a.newer, subst (IsEarlier g to) whole a.earlier, a.is)

  -- or among the newer ones alone, where that is so
  pub found_all : ((ys xs : List Record) (x : X) → finds ys (Some x) → finds (ys ++ xs) (Some x)) → (from to : ℕ) (found : Option X)
      → FoundBetween finds g from to found → (from ≡ 0) ⊎ (is_some found ≡ true) → (rs : List Record) × IsEarlier g to rs × finds rs found
  found_all keeps from to found a (inl none) = found_whole to found (subst (λ (n : ℕ). FoundBetween finds g n to found) none a)
  found_all keeps from to None a (inr some) = absurd (cc some)
  found_all keeps from to (Some x) a (inr some) = (a.newer ++ a.older, a.earlier, keeps a.newer a.older x a.is)

-- ---- what last changed a byte

newer_or : {X : Type 0} (b : Bool) (x : X) (o p q : Option X) → q ≡ option_or o p → cond b (Some x) q ≡ option_or (cond b (Some x) o) p
newer_or true x o p q is = refl
newer_or false x o p q is = is

-- the last change among records, of which some are newer
change_joins : (a : ℕ) (ys xs : List Record) → last_change a (ys ++ xs) ≡ option_or (last_change a ys) (last_change a xs)
change_joins a [] xs = refl
change_joins a (y ∷ ys) xs = newer_or (changes a y) _ (last_change a ys) (last_change a xs) _ (change_joins a ys xs)

pub changed_joins : (a : ℕ) (ys xs : List Record) (y x : Option (ℕ × ℕ)) → ChangedLast a ys y → ChangedLast a xs x → ChangedLast a (ys ++ xs) (option_or y x)
changed_joins a ys xs y x newer older = rw (newer, older) (sym (change_joins a ys xs))

changed_keeps : (a : ℕ) (ys xs : List Record) (x : ℕ × ℕ) → ChangedLast a ys (Some x) → ChangedLast a (ys ++ xs) (Some x)
changed_keeps a ys xs x is = changed_joins a ys xs (Some x) (last_change a xs) is refl

module _ (g : Given) where
  -- some instructions more were watched
  pub watched_on : (from mid to a : ℕ) (m now : Machine) (plan later : Plan) (o found : Option (ℕ × ℕ)) → FoundBetween (ChangedLast a) g from mid found
      → (s : StandsEarlier g mid m plan) → Watched g s.records to a o now later → FoundBetween (ChangedLast a) g from to (option_or o found)
  watched_on from mid to a m now plan later o found before s w =
      found_joins (ChangedLast a) g (changed_joins a) from mid to o found before
      (record { older = s.records; newer = w.newer; start = s.earlier; earlier = w.earlier; is = w.is })

  pub watched_stands : (older : List Record) (to a : ℕ) (m : Machine) (plan : Plan) (o : Option (ℕ × ℕ)) → Watched g older to a o m plan → StandsEarlier g to m plan
  watched_stands older to a m plan o w = record { records = w.newer ++ older; earlier = w.earlier; turn = w.turn; stands = w.stands; follows = w.follows }

  -- older instructions were watched, where newer ones did not change it
  pub older_found : (from mid to a : ℕ) (o : Option (ℕ × ℕ)) → FoundBetween (ChangedLast a) g mid to None → FoundBetween (ChangedLast a) g from mid o
      → FoundBetween (ChangedLast a) g from to o
  older_found from mid to a o newer older = found_joins (ChangedLast a) g (changed_joins a) from mid to None o older newer

  -- all that may have were watched
  pub last_found : (from n a : ℕ) (o : Option (ℕ × ℕ)) (was plan : Plan) → FoundBetween (ChangedLast a) g from n o → (from ≡ 0) ⊎ (is_some o ≡ true)
      → FollowsEarlier g n was → plan.events ≡ was.events → plan.place ≡ was.place → IsLastChange g n a o plan
  last_found from n a o was plan found whole behind events place =
      let all = found_all (ChangedLast a) g (changed_keeps a) from n o found whole in
      let same = one_earlier g n behind.records all.0 behind.earlier all.1 in
      let follows = subst (λ (rs : List Record). Follows g (steps rs) was) same behind.follows in
      record {
        records = all.0;
        earlier = all.1;
        is = all.2;
        follows = record { events = events ∙ follows.events; place = place ∙ follows.place };
      }
