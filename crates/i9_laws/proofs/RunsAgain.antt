-- A run reaches the first events of its plan, prints a schedule of them, and is the run of these alone.
use Rattle.std.proofs.Common.{◌≡◌, ℕ, List, [], ◌∷◌, ◌++◌, Option, Some, None, refl, sym, ap, subst}
use Rattle.std.proofs.lemmas.List.{append-nil}
use Rattle.i9_text.specs.Text as texts
use Rattle.i9_model.specs.declared.event.Event.{Event}
use Rattle.i9_model.specs.declared.event.Event.TheVariants.{Show}
use Rattle.i9_model.specs.declared.event.Timed.{Timed}
use Rattle.i9_model.specs.declared.run.End.{End}
use Rattle.i9_model.specs.declared.run.End.TheVariants.{Exit}
use Rattle.i9_model.specs.declared.run.Point.{Point}
use Rattle.i9_model.specs.State.{State}
use Rattle.i9_model.specs.ScheduleText.{timed_at, IsVersion, AreOfVersion, IsPlan, IsSchedule}
use Rattle.i9_model.specs.Run.{Given, Kind, Reached, Record, Ends, action_done, point_of, next_with, reached_by, reached_after, state_after, IsPast, IsRun, Finish, finish, reached_last, reached_in}
use Rattle.i9_model.specs.PrintedText.{Shown, Journal, out_lines, point_lines, bytes_lines, event_lines, record_lines, lines_of, end_lines, text_of, events_of, run_text, heading_text, view_of, journal_lines, last_lines}
use Rattle.i9_model.specs.Memory.{console_byte}
use Rattle.i9_past.proofs.Heedful.{tally, heedful, planned_past, with_plan, next_planned, past_planned}
use Rattle.i9_replay.proofs.Plans.{front_is_plan, front_of_version}
use Rattle.i9_past.proofs.PlannedRuns.{reached_front, run_of_reached, reached_to_end}
use Rattle.i9_replay.proofs.Replay.{replay}
use Rattle.i9_model.specs.declared.view.View.{View}

pub reaches_front : (g : Given) (rs : List Record) → IsPast g rs → (rest : List Timed) × (reached_after rs ++ rest ≡ g.plan)
reaches_front g rs past = reached_front (next_with g) (tally g) (heedful g) g.plan rs (planned_past g rs past)

-- ---- the run of what was reached

pub text_with : (g : Given) (plan : List Timed) (rs : List Record) (f : Finish) → run_text (with_plan g plan) rs f ≡ run_text g rs f
text_with g plan [] f = refl
text_with g plan (r ∷ rs) f = refl

pub reaches_whole : (g : Given) (rs : List Record) (f : Finish) → IsRun g rs f
    → (rest : List Timed) × (reached_in g rs f ++ rest ≡ g.plan)
reaches_whole g rs f run =
    reached_to_end (next_with g) (tally g) (heedful g) g.plan rs f (planned_past g rs run.past) run.ends

pub run_again : (g : Given) (rs : List Record) (f : Finish) → IsRun g rs f
    → IsRun (record g { plan = reached_in g rs f }) rs f × (run_text (record g { plan = reached_in g rs f }) rs f ≡ run_text g rs f)
run_again g rs f run =
    let plan = reached_in g rs f in
    let both = run_of_reached (next_with g) (tally g) (heedful g) g.plan rs f (planned_past g rs run.past) run.ends in (
      record { past = past_planned g plan rs both.0; ends = next_planned g plan rs (Ends f) both.1 },
      text_with g plan rs f,
    )

-- ---- the events of printed lines

events_append : (xs ys : List Shown) → events_of (xs ++ ys) ≡ events_of xs ++ events_of ys
events_append [] ys = refl
events_append (Journal k e ∷ xs) ys = ap (λ (ts : List Timed). events_of (Journal k e ∷ []) ++ ts) (events_append xs ys)
events_append (_ ∷ xs) ys = events_append xs ys

out_none : (o : Option ℕ) → events_of (out_lines o) ≡ []
out_none None = refl
out_none (Some b) = refl

point_none : (o : Option Point) (s : State) → events_of (point_lines o s) ≡ []
point_none None s = refl
point_none (Some k) s = refl

bytes_none : (e : Event) (s : State) → events_of (bytes_lines e s) ≡ []
bytes_none (Show a n) s = refl
bytes_none _ s = refl

journal_reached : (e : Event) (s : State) → events_of (Journal s.count e ∷ bytes_lines e s) ≡ timed_at s.count e ∷ []
journal_reached e s = ap (λ (ts : List Timed). events_of (Journal s.count e ∷ []) ++ ts) (bytes_none e s)

event_reached : (k : Kind) (s : State) → events_of (event_lines k s) ≡ reached_by k s
event_reached (Reached e u) s = journal_reached e s
event_reached _ s = refl

-- those of a record are what it reached
record_reached : (r : Record) → events_of (record_lines r) ≡ reached_by r.kind r.before
record_reached r =
    simp (events_append, out_none (console_byte (action_done r).writes), point_none (point_of r.kind) r.after, event_reached r.kind r.before, append-nil)

records_reached : (rs : List Record) → events_of (lines_of rs) ≡ reached_after rs
records_reached [] = refl
records_reached (r ∷ rs) = rw (events_append (lines_of rs) (record_lines r), records_reached rs, record_reached r)

last_none : (v : View) (e : End) → events_of (last_lines v e) ≡ []
last_none v (Exit w) = refl
last_none v _ = refl

journal_last : (k : ℕ) (o : Option Event) → events_of (journal_lines k o) ≡ reached_last k o
journal_last k None = refl
journal_last k (Some e) = refl

-- those of an end are what was reached with it
end_reached : (s : State) (f : Finish) → events_of (end_lines s f) ≡ reached_last s.count f.event
end_reached s f = simp (events_append, last_none (view_of s) f.end, append-nil, journal_last s.count f.event)

-- the text behind the line of a version says it, and the events that were reached
abbrev pub SaysReached : ℕ → Given → List Record → Finish → Type 0
SaysReached version g rs f =
    IsSchedule (texts.lines_of (heading_text version ++ run_text g rs f)) (record { version = version; events = reached_in g rs f })

pub text_says : (version : ℕ) (g : Given) (rs : List Record) (f : Finish) → IsVersion version → IsPlan (reached_in g rs f)
    → AreOfVersion version (reached_in g rs f) → SaysReached version g rs f
text_says version g rs f is plan of =
    let last = end_lines (state_after g rs) f in
    let lines = lines_of rs ++ last in
    let events : events_of lines ≡ reached_in g rs f = rw (events_append (lines_of rs) last, records_reached rs, end_reached (state_after g rs) f) in
    let says = replay version lines is (subst IsPlan (sym events) plan) (subst (AreOfVersion version) (sym events) of) in
    subst (λ (ts : List Timed). IsSchedule (texts.lines_of (heading_text version ++ text_of lines)) (record { version = version; events = ts })) events says

pub cut_is_schedule : (version : ℕ) (g : Given) (rs : List Record) (e : End) → IsVersion version → IsPlan g.plan → AreOfVersion version g.plan
    → IsPast g rs → SaysReached version g rs (finish e)
cut_is_schedule version g rs e is plan of past =
    let front = reaches_front g rs past in
    let whole = front_is_plan (reached_after rs) front.0 (subst IsPlan (sym front.1) plan) in
    let same = sym (append-nil (reached_after rs)) in
    let each = front_of_version version (reached_after rs) front.0 (subst (AreOfVersion version) (sym front.1) of) in
    text_says version g rs (finish e) is (subst IsPlan same whole) (subst (AreOfVersion version) same each)

pub text_is_schedule : (version : ℕ) (g : Given) (rs : List Record) (f : Finish) → IsVersion version → IsPlan g.plan → AreOfVersion version g.plan
    → IsRun g rs f → SaysReached version g rs f
text_is_schedule version g rs f is plan of run =
    let front = reaches_whole g rs f run in
    text_says version g rs f is (front_is_plan (reached_in g rs f) front.0 (subst IsPlan (sym front.1) plan))
    (front_of_version version (reached_in g rs f) front.0 (subst (AreOfVersion version) (sym front.1) of))
