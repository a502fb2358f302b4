-- A script prints one text from a place on, and leads to one place.
use Rattle.std.proofs.Common.{◌≡◌, ℕ, ◌+◌, ◌<◌, ◌≤◌, true, false, List, [], ◌∷◌, ◌++◌, length, drop, Option, Some, None, refl, sym, ap, ◌∙◌, subst, ◌⊎◌, inl, inr, arith}
use Rattle.std.proofs.Math.Nat.{eq-or-lt_of_le}
use Rattle.i9_past.proofs.Unique.{does_is}
use Rattle.i9_model.specs.Late.{turns as late_turns}
use Rattle.i9_model.specs.PrintedText.{text_of, lines_of}
use Rattle.i9_model.specs.Run.{Given, Record, Finish}
use Rattle.i9_model.specs.Turns.{last_issue}
use Rattle.i9_course.specs.Course.{Item, course, ahead, IsCourse}
use Rattle.i9_course.specs.PipelinedRun.{end_ahead, finish_by, ended_by}
use Rattle.i9_course.proofs.Ahead.{ahead_later}
use Rattle.i9_machine.specs.Turned.{steps_on}
use Rattle.i9_schedule.specs.declared.command.Command.{Command}
use Rattle.i9_schedule.specs.declared.command.Command.TheVariants as commands
use Rattle.i9_debug.proofs.Returning.{one_back}
use Rattle.i9_debug.specs.Session.{Place, at, ended, turn_ahead, comes_to, NoneComesTo, IssueBelow, EndsBehind, ending_lines, TurnsTo, turns_pass, turns_end, ComesTo, comes, none_comes, Stays, UnlessOver, Runs, told, Answers, IsText, no_command, next_command}
use Rattle.i9_debug.proofs.Places.{record_issues}

-- ---- records behind items

-- as many records behind the same items are the same
same_length : (g : Given) (h : List Item) (rs qs : List Record) → length rs ≡ length qs → IsCourse g (steps_on rs h) → IsCourse g (steps_on qs h) → rs ≡ qs
same_length g h [] [] e c d = refl
same_length g h [] (q ∷ qs) e c d = absurd (omega arith)
same_length g h (r ∷ rs) [] e c d = absurd (omega arith)
same_length g h (r ∷ rs) (q ∷ qs) e c d =
    let tails = same_length g h rs qs (omega arith) c.0 d.0 in
    let heads = does_is r q (sym c.2 ∙ ap (λ (xs : List Record). (ahead g (steps_on xs h)).next) tails ∙ d.2) in
    ap (λ (x : Record). x ∷ rs) heads ∙ ap (λ (xs : List Record). q ∷ xs) tails

either_way : (m n : ℕ) → (m ≤ n) ⊎ (n ≤ m)
either_way m n = grind arith

-- records behind the same items, which are no fewer, go on from the others
goes_on : (g : Given) (h : List Item) (rs qs : List Record) → length rs ≤ length qs → IsCourse g (steps_on rs h) → IsCourse g (steps_on qs h)
    → (more : List Record) × (more ++ rs ≡ qs)
goes_on g h rs [] le c d = ([], same_length g h rs [] (omega (arith, le)) c d)
goes_on g h rs (q ∷ qs) le c d = elim (eq-or-lt_of_le le) [
  | inr lt ↦ let m = goes_on g h rs qs (omega (arith, lt)) c d.0 in (q ∷ m.0, ap (λ (xs : List Record). q ∷ xs) m.1)
  | inl same ↦ ([], same_length g h rs (q ∷ qs) same c d)
]

module _ (g : Given) (h : List Item) (rs : List Record) where
  abbrev Goes : List Record → Type 0
  Goes more = IsCourse g (steps_on (more ++ rs) h)

  -- what goes on issues no earlier than at the turn of what lies ahead
  later_issues : (m : Record) (more : List Record) → Goes (m ∷ more)
      → turn_ahead g (steps_on rs h) ≤ last_issue (late_turns (course g (steps_on (m ∷ more ++ rs) h)).late)
  later_issues m [] c = let same = record_issues g (steps_on rs h) m c in omega (arith, same)
  later_issues m (n ∷ more) c =
      let same = record_issues g (steps_on (n ∷ more ++ rs) h) m c in
      let before = later_issues n more c.0 in
      let order = ahead_later g (steps_on (n ∷ more ++ rs) h) in
      omega (arith, same, before, order)

  -- nothing goes on from an end
  none_behind : (f : Finish) (m : Record) (more : List Record) → end_ahead g (steps_on rs h) ≡ Some f → ¬ Goes (m ∷ more)
  none_behind f m [] is c =
      let none : end_ahead g (steps_on rs h) ≡ None = ap (λ (o : Option ℕ). finish_by o (ahead g (steps_on rs h)).next) c.1 ∙ ap ended_by c.2 in
      cc (sym is ∙ none)
  none_behind f m (n ∷ more) is c = none_behind f n more is c.0

-- ---- where records stop

-- Records behind items are cut off where they stop, so that none of two goes on from the other.
module _ (g : Given) (h : List Item) (Stops : List Record → Type 0)
    (past : (rs : List Record) → Stops rs → IsCourse g (steps_on rs h))
    (last : (rs : List Record) (m : Record) (more : List Record) → Stops rs → ¬ Stops (m ∷ more ++ rs)) where
  stop_once : (rs qs : List Record) → length rs ≤ length qs → Stops rs → Stops qs → rs ≡ qs
  stop_once rs qs le s t = let on = goes_on g h rs qs le (past rs s) (past qs t) in by_more on.0 on.1
    where
      by_more : (more : List Record) → more ++ rs ≡ qs → rs ≡ qs
      by_more [] same = same
      by_more (m ∷ more) same = absurd (last rs m more s (subst Stops (sym same) t))

  same_stop : (rs qs : List Record) → Stops rs → Stops qs → rs ≡ qs
  same_stop rs qs s t = elim (either_way (length rs) (length qs)) [
    | inl le ↦ stop_once rs qs le s t
    | inr le ↦ sym (stop_once qs rs le t s)
  ]

-- one text and one place
abbrev Same : List ℕ → List ℕ → Place → Place → Type 0
Same x y p q = (x ≡ y) × (p ≡ q)

-- the same records have one end behind them
same_ends : (g : Given) (h : List Item) (rs qs : List Record) (f k : Finish) → EndsBehind g h rs f → EndsBehind g h qs k → rs ≡ qs
    → Same (text_of (ending_lines g h rs f)) (text_of (ending_lines g h qs k))
    (ended (steps_on rs h) (turn_ahead g (steps_on rs h)) f) (ended (steps_on qs h) (turn_ahead g (steps_on qs h)) k)
same_ends g h rs qs f k e d same =
    let both : ◌≡◌ {A = Option Finish} (Some f) (Some k) = sym (rw same at e.is_end) ∙ d.is_end in
    let end : f ≡ k = cc in
    rw (same, end) (refl, refl)

-- ---- up to a turn

module _ (g : Given) (h : List Item) (u : ℕ) where
  -- nothing more issues below it, or the end comes below it
  data StopsAt (rs : List Record) : Type 0 where
    passes : IssueBelow g h u rs → StopsAt rs
    finishes : (f : Finish) → EndsBehind g h rs f → turn_ahead g (steps_on rs h) < u → StopsAt rs

  stop_past : (rs : List Record) → StopsAt rs → IsCourse g (steps_on rs h)
  stop_past rs (passes b) = b.past
  stop_past rs (finishes f e low) = e.past

  -- where records stop, all of them have issued below it
  stop_low : (rs : List Record) → StopsAt rs → last_issue (late_turns (course g (steps_on rs h)).late) < u
  stop_low rs (passes b) = b.issued
  stop_low rs (finishes f e low) = let order = ahead_later g (steps_on rs h) in omega (arith, order, low)

  stop_last : (rs : List Record) (m : Record) (more : List Record) → StopsAt rs → ¬ StopsAt (m ∷ more ++ rs)
  stop_last rs m more (passes b) s =
      let later = later_issues g h rs m more (stop_past (m ∷ more ++ rs) s) in
      let low = stop_low (m ∷ more ++ rs) s in
      let high = b.later in
      omega (arith, later, low, high)
  stop_last rs m more (finishes f e low) s = none_behind g h rs f m more e.is_end (stop_past (m ∷ more ++ rs) s)

  same_pass : (rs qs : List Record) → StopsAt rs → StopsAt qs → rs ≡ qs
  same_pass = same_stop g h StopsAt stop_past stop_last

  one_turns : (x y : List ℕ) (p q : Place) → TurnsTo g h u x p → TurnsTo g h u y q → Same x y p q
  one_turns x y p q (turns_pass rs b) (turns_pass qs d) =
      let same = same_pass rs qs (passes b) (passes d) in
      (ap (λ (xs : List Record). text_of (lines_of xs)) same, ap (λ (xs : List Record). at (steps_on xs h) u) same)
  one_turns x y p q (turns_pass rs b) (turns_end qs f e low) =
      let high = rw (same_pass rs qs (passes b) (finishes f e low)) at b.later in
      absurd (omega (arith, high, low))
  one_turns x y p q (turns_end rs f e low) (turns_pass qs d) =
      let under = rw (same_pass rs qs (finishes f e low) (passes d)) at low in
      let high = d.later in
      absurd (omega (arith, high, under))
  one_turns x y p q (turns_end rs f e low) (turns_end qs k d down) =
      let same = same_pass rs qs (finishes f e low) (finishes k d down) in
      same_ends g h rs qs f k e d same

-- ---- up to an address

module _ (g : Given) (h : List Item) (a : ℕ) where
  -- the newest record comes to it, or the end is behind them
  data Arrives : List Record → Type 0 where
    there : (r : Record) (rs : List Record) → IsCourse g (steps_on (r ∷ rs) h) → NoneComesTo a rs → comes_to a r ≡ true → Arrives (r ∷ rs)
    nowhere : (rs : List Record) (f : Finish) → EndsBehind g h rs f → NoneComesTo a rs → Arrives rs

  come_past : (rs : List Record) → Arrives rs → IsCourse g (steps_on rs h)
  come_past _ (there r rs past none is) = past
  come_past _ (nowhere rs f e none) = e.past

  older_none : (rs : List Record) → NoneComesTo a rs → NoneComesTo a (drop 1 rs)
  older_none [] none = tt
  older_none (r ∷ rs) none = none.1

  come_none : (rs : List Record) → Arrives rs → NoneComesTo a (drop 1 rs)
  come_none _ (there r rs past none is) = none
  come_none _ (nowhere rs f e none) = older_none rs none

  none_of : (more : List Record) (r : Record) (rs : List Record) → NoneComesTo a (more ++ r ∷ rs) → comes_to a r ≡ false
  none_of [] r rs none = none.0
  none_of (m ∷ more) r rs none = none_of more r rs none.1

  come_last : (rs : List Record) (m : Record) (more : List Record) → Arrives rs → ¬ Arrives (m ∷ more ++ rs)
  come_last _ m more (there r rs past none is) s =
      let other : comes_to a r ≡ false = none_of more r rs (come_none (m ∷ more ++ r ∷ rs) s) in
      cc (sym is ∙ other)
  come_last _ m more (nowhere rs f e none) s = none_behind g h rs f m more e.is_end (come_past (m ∷ more ++ rs) s)

  same_come : (rs qs : List Record) → Arrives rs → Arrives qs → rs ≡ qs
  same_come = same_stop g h Arrives come_past come_last

  -- what is shown, and where it stops
  abbrev come_text : List Record → List ℕ
  come_text rs = text_of (lines_of rs)

  abbrev come_place : List Record → Place
  come_place rs = at (steps_on rs h) (turn_ahead g (steps_on (drop 1 rs) h))

  -- the newest of records that stop does not come there, where all of them end nowhere
  apart : (r : Record) (rs qs : List Record) → comes_to a r ≡ true → r ∷ rs ≡ qs → ¬ NoneComesTo a qs
  apart r rs qs is same none =
      let both : NoneComesTo a (r ∷ rs) = subst (NoneComesTo a) (sym same) none in
      cc (sym is ∙ both.0)

  one_comes : (x y : List ℕ) (p q : Place) → ComesTo g h a x p → ComesTo g h a y q → Same x y p q
  one_comes x y p q (comes rs r c none is) (comes qs s d none' is') =
      let same = same_come (r ∷ rs) (s ∷ qs) (there r rs c none is) (there s qs d none' is') in
      (ap come_text same, ap come_place same)
  one_comes x y p q (comes rs r c none is) (none_comes qs f e none') =
      absurd (apart r rs qs is (same_come (r ∷ rs) qs (there r rs c none is) (nowhere qs f e none')) none')
  one_comes x y p q (none_comes rs f e none) (comes qs s d none' is') =
      absurd (apart s qs rs is' (same_come (s ∷ qs) rs (there s qs d none' is') (nowhere rs f e none)) none)
  one_comes x y p q (none_comes rs f e none) (none_comes qs k d none') =
      let same = same_come rs qs (nowhere rs f e none) (nowhere qs k d none') in
      same_ends g h rs qs f k e d same

-- ---- commands

one_stay : (p q r : Place) (x y : List ℕ) → Stays p x q → Stays p y r → Same x y q r
one_stay p q r x y s t = (s.0 ∙ sym t.0, s.1 ∙ sym t.1)

unless_once : (e : Option Finish) (p q r : Place) (x y : List ℕ) (goes : List ℕ → Place → Type 0)
    → (goes x q → goes y r → Same x y q r) → UnlessOver e (goes x q) (Stays p x q) → UnlessOver e (goes y r) (Stays p y r) → Same x y q r
unless_once None p q r x y goes once s t = once s t
unless_once (Some f) p q r x y goes once s t = one_stay p q r x y s t

module _ (g : Given) where
  one_run : (c : Command) (p q r : Place) (x y : List ℕ) → Runs g c p x q → Runs g c p y r → Same x y q r
  one_run (commands.Turn n) p q r x y s t =
      unless_once p.end p q r x y (TurnsTo g p.items (p.turn + n)) (one_turns g p.items (p.turn + n) x y q r) s t
  one_run (commands.Until a) p q r x y s t = unless_once p.end p q r x y (ComesTo g p.items a) (one_comes g p.items a x y q r) s t
  one_run (commands.Back n) p q r x y s t = (s.0 ∙ sym t.0, one_back g _ q r s.1 t.1)
  one_run (commands.Last a) p q r x y s t = (s.0 ∙ sym t.0, one_back g _ q r s.1 t.1)
  one_run c p q r x y s t = one_stay p q r x y s t

  one_answer : (c : Command) (p q r : Place) (x y : List ℕ) → Answers g c p x q → Answers g c p y r → Same x y q r
  one_answer c p q r x y s t =
      let same = one_run c p q r s.shown t.shown s.runs t.runs in (
        s.whole ∙ ap (λ (z : List ℕ). z ++ told g q.items q.turn c) same.0
            ∙ ap (λ (z : Place). t.shown ++ told g z.items z.turn c) same.1 ∙ sym t.whole,
        same.1,
      )

  -- the rest of a script behind one command
  rest_once : (c : Command) (cs : List Command) (p q r last behind : Place) (x y v w : List ℕ)
      → ((s t : Place) (m n : List ℕ) → IsText g cs q m s → IsText g cs q n t → Same m n s t)
      → Answers g c p x q → Answers g c p v r → IsText g cs q y last → IsText g cs r w behind → Same (x ++ y) (v ++ w) last behind
  rest_once c cs p q r last behind x y v w once a b s t =
      let first = one_answer c p q r x v a b in
      let after = once last behind y w s (subst (λ (z : Place). IsText g cs z w behind) (sym first.1) t) in
      (ap (λ (z : List ℕ). z ++ y) first.0 ∙ ap (λ (z : List ℕ). v ++ z) after.0, after.1)

  pub one_text : (cs : List Command) (p q r : Place) (x y : List ℕ) → IsText g cs p x q → IsText g cs p y r → (x ≡ y) × (q ≡ r)
  one_text [] p q r x y (no_command _) (no_command _) = (refl, refl)
  one_text (c ∷ cs) p q r x y (next_command _ _ _ mid _ u v a s) (next_command _ _ _ mid' _ u' v' b t) =
      rest_once c cs p mid mid' q r u v u' v' (λ s' t' m n. one_text cs mid s' t' m n) a b s t
