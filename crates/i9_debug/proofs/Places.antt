-- Texts of runs from one place to another.
use Rattle.std.proofs.Common.{◌≡◌, ℕ, zero, suc, ◌<◌, ◌≤◌, Bool, false, nat_eq, List, [], ◌∷◌, ◌++◌, Option, Some, None, refl, sym, ap, ◌∙◌, append_assoc, ◌⊎◌, inl, inr, arith}
use Rattle.std.proofs.lemmas.Bool.{cases_Bool}
use Rattle.std.proofs.lemmas.List.{append-nil}
use Rattle.i9_model.specs.declared.run.End.TheVariants.{Imprecise}
use Rattle.i9_model.specs.declared.view.View.{View}
use Rattle.i9_model.specs.Late.{turns as late_turns}
use Rattle.i9_model.specs.PrintedText.{Shown, view_of, text_of, lines_of, record_lines, end_lines}
use Rattle.i9_past.proofs.Lines.{text_of-append}
use Rattle.i9_model.specs.Run.{Given, Record, Next, Does, Ends, Finish, finish, counts_of}
use Rattle.i9_model.specs.Turns.{last_issue}
use Rattle.i9_course.specs.Course.{Item, Step, records_of, course, comes_next, imprecise_at, issue_of_next, IsCourse}
use Rattle.i9_course.proofs.Ahead.{ahead_precise}
use Rattle.i9_course.specs.PipelinedRun.{finish_by, ended_by}
use Rattle.i9_course.proofs.Orderly.{course_events}
use Rattle.i9_past.proofs.Ends.{some_within}
use Rattle.i9_machine.specs.StandsFor.{left_after}
use Rattle.i9_machine.proofs.Issuing.{left_less}
use Rattle.i9_machine.specs.Turned.{steps_on}
use Rattle.i9_back.proofs.Earlier.{one_or_none, at_or_below}
use Rattle.i9_debug.specs.Session.{Place, turn_ahead, state_at, comes_to, NoneComesTo, EndsBehind, ending_lines, TurnsTo, turns_pass, turns_end, ComesTo, comes, none_comes}

-- ---- records behind records

steps_on-append : (ys xs : List Record) (h : List Item) → steps_on (ys ++ xs) h ≡ steps_on ys (steps_on xs h)
steps_on-append [] xs h = refl
steps_on-append (y ∷ ys) xs h = ap (λ (k : List Item). Step y ∷ k) (steps_on-append ys xs h)

lines_of-append : (ys xs : List Record) → lines_of (ys ++ xs) ≡ lines_of xs ++ lines_of ys
lines_of-append [] xs = sym (append-nil (lines_of xs))
lines_of-append (y ∷ ys) xs =
    ap (λ (ls : List Shown). ls ++ record_lines y) (lines_of-append ys xs)
    ∙ append_assoc (lines_of xs) (lines_of ys) (record_lines y)

-- what is shown of records, and then of later ones
text-append : (ys xs : List Record) → text_of (lines_of xs) ++ text_of (lines_of ys) ≡ text_of (lines_of (ys ++ xs))
text-append ys xs = sym (text_of-append (lines_of xs) (lines_of ys)) ∙ ap text_of (sym (lines_of-append ys xs))

ending-append : (g : Given) (h : List Item) (ys xs : List Record) (f : Finish)
    → text_of (lines_of xs) ++ text_of (ending_lines g (steps_on xs h) ys f) ≡ text_of (ending_lines g h (ys ++ xs) f)
ending-append g h ys xs f =
    let last = end_lines (state_at g (steps_on ys (steps_on xs h))) f in
    rw (lines_of-append, steps_on-append)
    (sym (text_of-append (lines_of xs) (lines_of ys ++ last)) ∙ ap text_of (sym (append_assoc (lines_of xs) (lines_of ys) last)))

-- ---- what is run behind records is run behind those before them

module _ (g : Given) (h : List Item) (xs : List Record) where
  ends_after : (ys : List Record) (f : Finish) → EndsBehind g (steps_on xs h) ys f → EndsBehind g h (ys ++ xs) f
  ends_after ys f e = record { past = rw steps_on-append e.past; is_end = rw steps_on-append e.is_end }

  pub turns_after : (u : ℕ) (x : List ℕ) (q : Place) → TurnsTo g (steps_on xs h) u x q
      → TurnsTo g h u (text_of (lines_of xs) ++ x) q
  turns_after u x q (turns_pass ys b) =
      rw (text-append ys xs, ← steps_on-append ys xs h) (turns_pass (ys ++ xs) (record {
        past = rw steps_on-append b.past;
        issued = rw steps_on-append b.issued;
        later = rw steps_on-append b.later;
      }))
  turns_after u x q (turns_end ys f e low) =
      rw (ending-append g h ys xs f, ← steps_on-append ys xs h)
      (turns_end (ys ++ xs) f (ends_after ys f e) (rw steps_on-append low))

  none_after : (a : ℕ) (ys : List Record) → NoneComesTo a ys → NoneComesTo a xs → NoneComesTo a (ys ++ xs)
  none_after a [] n m = m
  none_after a (y ∷ ys) n m = (n.0, none_after a ys n.1 m)

  pub comes_after : (a : ℕ) (x : List ℕ) (q : Place) → NoneComesTo a xs → ComesTo g (steps_on xs h) a x q
      → ComesTo g h a (text_of (lines_of xs) ++ x) q
  comes_after a x q none (comes ys r past earlier there) =
      rw (text-append (r ∷ ys) xs, ← steps_on-append ys xs h)
      (comes (ys ++ xs) r (rw steps_on-append past) (none_after a ys earlier none) there)
  comes_after a x q none (none_comes ys f e earlier) =
      rw (ending-append g h ys xs f, ← steps_on-append ys xs h)
      (none_comes (ys ++ xs) f (ends_after ys f e) (none_after a ys earlier none))

-- ---- every run goes on to its end

-- an end lies behind these items
abbrev Finishes : Given → List Item → Type 0
Finishes g h = (rs : List Record) × (f : Finish) × EndsBehind g h rs f

-- an end behind a record more lies behind the items
finishes_behind : (g : Given) (h : List Item) (r : Record) → Finishes g (Step r ∷ h) → Finishes g h
finishes_behind g h r on = (on.0 ++ r ∷ [], on.1, ends_after g h (r ∷ []) on.0 on.1 on.2)

-- each record leaves less of the run
mutual
  finishes_by : (n : ℕ) (g : Given) (h : List Item) (o : Option ℕ) (x : Next) → imprecise_at g h ≡ o → comes_next g h ≡ x
      → IsCourse g h → left_after g (records_of h) ≤ n → Finishes g h
  finishes_by n g h (Some a) x is e c le =
      ([], finish (Imprecise a), record { past = c; is_end = ap (λ (o : Option ℕ). finish_by o (comes_next g h)) is })
  finishes_by n g h None (Ends f) is e c le =
      ([], f, record { past = c; is_end = ap (λ (o : Option ℕ). finish_by o (comes_next g h)) is ∙ ap ended_by e })
  finishes_by zero g h None (Does r) is e c le =
      let less = left_less g h r (some_within g (records_of h) (course_events g h c)) e in
      absurd (omega (arith, less, le))
  finishes_by (suc n) g h None (Does r) is e c le =
      let less = left_less g h r (some_within g (records_of h) (course_events g h c)) e in
      let k = Step r ∷ h in
      finishes_behind g h r
      (finishes_by n g k (imprecise_at g k) (comes_next g k) refl refl (c, is, e) (omega (arith, less, le)))

course_finishes : (g : Given) (h : List Item) → IsCourse g h → Finishes g h
course_finishes g h c =
    finishes_by (left_after g (records_of h)) g h (imprecise_at g h) (comes_next g h) refl refl c (omega arith)

-- ---- some text leads there

abbrev pub Leads : (List ℕ → Place → Type 0) → Type 0
Leads to = (x : List ℕ) × (q : Place) × to x q

-- a text goes on to one that leads there
abbrev pub GoesOn : (List ℕ → Place → Type 0) → List ℕ → Type 0
GoesOn to x = (y : List ℕ) × (q : Place) × to (x ++ y) q

-- as one does that leads there itself
pub whole_already : (to : List ℕ → Place → Type 0) (x : List ℕ) (q : Place) → to x q → GoesOn to x
whole_already to x q is = ([], q, rw append-nil is)

-- Each record keeps something, or a text leads there, and at the end one does.
some_lead : (g : Given) (h : List Item) (to : List ℕ → Place → Type 0) (keeps : List Record → Type 0)
    → ((r : Record) (rs : List Record) → IsCourse g (Step r ∷ steps_on rs h) → keeps rs → keeps (r ∷ rs) ⊎ Leads to)
    → ((rs : List Record) (f : Finish) → EndsBehind g h rs f → keeps rs → Leads to)
    → keeps [] → IsCourse g h → Leads to
some_lead g h to keeps step end none c =
    let last = course_finishes g h c in
    elim (search_on last.0 last.2.past) [
      | inl kept ↦ end last.0 last.1 last.2 kept
      | inr found ↦ found
    ]
  where
    search_on : (rs : List Record) → IsCourse g (steps_on rs h) → keeps rs ⊎ Leads to
    search_on [] past = inl none
    search_on (r ∷ rs) past = elim (search_on rs past.0) [
      | inl kept ↦ step r rs past kept
      | inr found ↦ inr found
    ]

-- a record issues at the turn of what lies ahead of it
pub record_issues : (g : Given) (k : List Item) (r : Record) → IsCourse g (Step r ∷ k)
    → last_issue (late_turns (course g (Step r ∷ k)).late) ≡ turn_ahead g k
record_issues g k r c = sym (ahead_precise g k c.1 ∙ ap (issue_of_next g k) c.2)

-- up to a turn
module _ (g : Given) (h : List Item) (u : ℕ) where
  abbrev IsLow : List Record → Type 0
  IsLow rs = last_issue (late_turns (course g (steps_on rs h)).late) < u

  passes : (rs : List Record) → IsCourse g (steps_on rs h) → IsLow rs → u ≤ turn_ahead g (steps_on rs h)
      → Leads (TurnsTo g h u)
  passes rs past before later = (_, _, turns_pass rs (record { past = past; issued = before; later = later }))

  pub turns_lead : last_issue (late_turns (course g h).late) < u → IsCourse g h → Leads (TurnsTo g h u)
  turns_lead low c = some_lead g h (TurnsTo g h u) IsLow
      (λ r rs past before. elim (at_or_below u (turn_ahead g (steps_on rs h))) [
        | inl later ↦ inr (passes rs past.0 before later)
        | inr below ↦ inl (let same = record_issues g (steps_on rs h) r past in omega (arith, below, same))
      ])
      (λ rs f e before. elim (at_or_below u (turn_ahead g (steps_on rs h))) [
        | inl later ↦ passes rs e.past before later
        | inr below ↦ (_, _, turns_end rs f e below)
      ])
      low c

-- up to an address
pub address_leads : (g : Given) (h : List Item) (a : ℕ) → IsCourse g h → Leads (ComesTo g h a)
address_leads g h a c = some_lead g h (ComesTo g h a) (NoneComesTo a)
    (λ r rs past none. elim (cases_Bool (comes_to a r)) [
      | inl there ↦ inr (_, _, comes rs r past none there)
      | inr other ↦ inl (other, none)
    ])
    (λ rs f e none. (_, _, none_comes rs f e none))
    tt c

-- ---- a stop at an address

module _ (allows : View → Bool → Type 0) (a : ℕ) (answers : (v : View) (b : Bool) → allows v b → b ≡ nat_eq v.ip a)
    (r : Record) where
  pub comes_as_told : (b : Bool) → counts_of r.kind ≡ 1 → allows (view_of r.after) b → comes_to a r ≡ b
  comes_as_told b one told = rw one (sym (answers (view_of r.after) b told))

  pub comes_not : (counts_of r.kind ≡ 1 → allows (view_of r.after) false) → comes_to a r ≡ false
  comes_not passed = elim (one_or_none r.kind) [
    | inl one ↦ comes_as_told false one (passed one)
    | inr none ↦ rw none refl
  ]
