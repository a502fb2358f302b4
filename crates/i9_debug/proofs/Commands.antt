-- Commands and scripts that are run and printed.
use Rattle.std.proofs.Common.{◌≡◌, ℕ, ◌+◌, ◌<◌, ◌≤◌, List, [], ◌∷◌, ◌++◌, length, take, drop, get_or, Option, Some, None, Result, Ok, Err, OnOk, OnErr, refl, sym, ap, ◌∙◌, subst, append_assoc, inr, arith}
use Rattle.std.specs.List.{AllByRecursion, All}
use Rattle.std.specs.Option.{option_map}
use Rattle.std.proofs.lemmas.List.{append-nil, take-append-drop, take_more}
use Rattle.std.proofs.lemmas.List.Elements.{recursion_from_All, All-drop}
use Rattle.i9_model.specs.declared.run.End.{End}
use Rattle.i9_model.specs.Image.{Part}
use Rattle.i9_model.specs.Late.{turns as late_turns}
use Rattle.i9_model.specs.PrintedText.{lines_of}
use Rattle.i9_model.specs.Run.{Given, Record, Finish}
use Rattle.i9_model.specs.Turns.{last_issue}
use Rattle.i9_schedule.specs.Plan.{Plan}
use Rattle.i9_course.specs.Course.{Item, Step, course, IsCourse}
use Rattle.i9_course.specs.PipelinedRun.{steps}
use Rattle.i9_machine.specs.declared.machine.Machine.{Machine}
use Rattle.i9_back.specs.Stands.{StaysAt}
use Rattle.i9_machine.specs.StandsFor.{IsUnderWay}
use Rattle.i9_machine.specs.InRun.{IsInRun}
use Rattle.i9_machine.specs.Turned.{steps_on}
use Rattle.i9_schedule.specs.declared.command.Command.{Command}
use Rattle.i9_schedule.specs.declared.command.Command.TheVariants as commands
use Rattle.i9_schedule.specs.ScriptText.{IsCommandInRange}
use Rattle.i9_lines.specs.declared.print.Printed.{Printed}
use Rattle.i9_lines.specs.declared.print.Printed.TheVariants.{Done, Write, Memory}
use Rattle.i9_lines.specs.Print.{Account, Prints, OnDone, IsCut, output}
use Rattle.i9_debug.specs.Session.{Place, at, TurnsTo, turns_pass, turns_end, ComesTo, comes, none_comes, IsBack, Stays, UnlessOver, Runs, ending_lines, told, Answers, IsText, no_command, next_command}
use Rattle.i9_debug.specs.Driven.{StandsAt, IsOf, IsPlace, IsDebugged, GoneBack, Drives, StopsAt, CutOnWay, CutInAnswer, on_way, in_told, CutInScript, in_command, target}
use Rattle.i9_lines.proofs.Prints.{prints_none, prints_refused, prints_then, on_cut}
use Rattle.i9_lines.proofs.TextLines.{IsClosed, closed_none, closed_line, closed_join}
use Rattle.i9_lines.proofs.LineCounts.{line-bytes, line-turn, line-held, line-raw_bytes, line-who}
use Rattle.i9_lines.proofs.ClosedLines.{closed_text, closed_view, closed_raw}
use Rattle.i9_debug.proofs.Places.{Leads, record_issues, turns_lead, address_leads}
use Rattle.i9_debug.proofs.Returning.{back_place, back_leads, last_leads, stands_kept}
use Rattle.i9_debug.proofs.Stepwise.{on_cut_as, drives_by}

-- ---- places

abbrev place_of : List Item → ℕ → Option Finish → Place
place_of h t e = record { items = h; turn = t; end = e }

-- a place is over where the machine says so
pub none_ended : (e : Option Finish) → option_map (λ f. f.end) e ≡ None → e ≡ None
none_ended None is = refl
none_ended (Some f) is = absurd (cc is)

pub some_ended : (e : Option Finish) (x : End) → option_map (λ f. f.end) e ≡ Some x → (f : Finish) × (e ≡ Some f)
some_ended None x is = absurd (cc is)
some_ended (Some f) x is = (f, refl)

pub place_in_run : (g : Given) (p : Place) (m : Machine) (plan : Plan) → StandsAt g p m plan → IsInRun m plan
place_in_run g p m plan s = record { given = g; items = p.items; end = p.end; stands = s.stands; follows = s.follows }

-- where it has answered no end, it is under way
pub on_its_way : (m : Machine) (plan : Plan) → (r : IsInRun m plan) → r.end ≡ None → IsUnderWay m plan
on_its_way m plan r none =
    record { given = r.given; items = r.items; stands = rw none at r.stands; follows = rw none at r.follows }

-- after an end nothing is run
pub over_stays : (goes : List ℕ → Place → Type 0) (p : Place) (f : Finish) → p.end ≡ Some f
    → UnlessOver p.end (goes [] p) (Stays p [] p)
over_stays goes p f is = subst (λ (e : Option Finish). UnlessOver e (goes [] p) (Stays p [] p)) (sym is) (refl, refl)

-- records behind steps are steps
steps-on : (ys rs : List Record) → steps_on ys (steps rs) ≡ steps (ys ++ rs)
steps-on [] rs = refl
steps-on (y ∷ ys) rs = ap (λ (h : List Item). Step y ∷ h) (steps-on ys rs)

-- a script begins at the start of a run
pub start_place : (g : Given) → IsPlace g (at [] 1)
start_place g = record { records = []; are = refl; past = tt; begun = omega arith }

-- ---- what is printed ends with a line feed, and leads to a place of the run

module _ (g : Given) where
  -- records behind a place lead to another
  behind_place : (p : Place) (ys : List Record) (t : ℕ) (e : Option Finish) → IsPlace g p → IsCourse g (steps_on ys p.items)
      → UnlessOver e (last_issue (late_turns (course g (steps_on ys p.items)).late) ≤ t) (Unit {0})
      → IsPlace g (place_of (steps_on ys p.items) t e)
  behind_place p ys t e is past begun =
      let same : steps_on ys p.items ≡ steps (ys ++ is.records) = ap (steps_on ys) is.are ∙ steps-on ys is.records in
      record { records = ys ++ is.records; are = same; past = rw same at past; begun = begun }

  turns_behind : (p : Place) (u : ℕ) (x : List ℕ) (q : Place) → IsPlace g p → TurnsTo g p.items u x q
      → IsClosed x × IsPlace g q
  turns_behind p u _ _ is (turns_pass rs b) =
      let issued = b.issued in
      (closed_text (lines_of rs), behind_place p rs u None is b.past (omega (arith, issued)))
  turns_behind p u _ _ is (turns_end rs f e low) =
      (closed_text (ending_lines g p.items rs f), behind_place p rs _ (Some f) is e.past tt)

  comes_behind : (p : Place) (a : ℕ) (x : List ℕ) (q : Place) → IsPlace g p → ComesTo g p.items a x q
      → IsClosed x × IsPlace g q
  comes_behind p a _ _ is (comes rs r past none there) =
      let issued = record_issues g (steps_on rs p.items) r past in
      (closed_text (lines_of (r ∷ rs)), behind_place p (r ∷ rs) _ None is past (omega (arith, issued)))
  comes_behind p a _ _ is (none_comes rs f e none) =
      (closed_text (ending_lines g p.items rs f), behind_place p rs _ (Some f) is e.past tt)

  stays_behind : (p q : Place) (x : List ℕ) → IsPlace g p → Stays p x q → IsClosed x × IsPlace g q
  stays_behind p q x is s = (rw s.0 closed_none, rw s.1 is)

  unless_behind : (e : Option Finish) (p q : Place) (x : List ℕ) (goes : Type 0) → IsPlace g p
      → (goes → IsClosed x × IsPlace g q) → UnlessOver e goes (Stays p x q) → IsClosed x × IsPlace g q
  unless_behind None p q x goes is does r = does r
  unless_behind (Some f) p q x goes is does r = stays_behind p q x is r

  pub runs_behind : (c : Command) (p q : Place) (x : List ℕ) → IsPlace g p → Runs g c p x q → IsClosed x × IsPlace g q
  runs_behind (commands.Turn n) p q x is r = unless_behind p.end p q x _ is (turns_behind p (p.turn + n) x q is) r
  runs_behind (commands.Until a) p q x is r = unless_behind p.end p q x _ is (comes_behind p a x q is) r
  runs_behind (commands.Back n) p q x is r = (rw r.0 closed_none, back_place g _ q r.1)
  runs_behind (commands.Last a) p q x is r = (rw r.0 closed_none, back_place g _ q r.1)
  runs_behind c p q x is r = stays_behind p q x is r

  closed_told : (h : List Item) (t : ℕ) (c : Command) → IsClosed (told g h t c)
  closed_told h t commands.Regs = closed_view _
  closed_told h t commands.Raw = closed_raw _
  closed_told h t commands.Held = closed_line _ (line-held _ _)
  closed_told h t (commands.Mem a n) = closed_line _ (line-bytes _ _)
  closed_told h t (commands.RawMem a n) = closed_line _ (line-raw_bytes _ _)
  closed_told h t (commands.Who a) = closed_line _ (line-who _)
  closed_told h t c = closed_line _ (line-turn _ _)

  answers_behind : (c : Command) (p q : Place) (x : List ℕ) → IsPlace g p → Answers g c p x q → IsClosed x × IsPlace g q
  answers_behind c p q x is a =
      let run = runs_behind c p q a.shown is a.runs in
      (rw a.whole (closed_join a.shown _ run.0 (closed_told q.items q.turn c)), run.1)

  pub script_behind : (cs : List Command) (p q : Place) (x : List ℕ) → IsPlace g p → IsText g cs p x q
      → IsClosed x × IsPlace g q
  script_behind _ _ _ _ is (no_command p) = (closed_none, is)
  script_behind _ _ _ _ is (next_command c cs p q last x y one rest) =
      let first = answers_behind c p q x is one in
      let others = script_behind cs q last y first.1 rest in
      (closed_join x y first.0 others.0, others.1)

-- ---- each command has a text

module _ (g : Given) where
  unless_leads : (e : Option Finish) (p : Place) (goes : List ℕ → Place → Type 0) (P : Type 0) → UnlessOver e P (Unit {0})
      → (P → Leads goes) → Leads (λ x q. UnlessOver e (goes x q) (Stays p x q))
  unless_leads None p goes P is leads = leads is
  unless_leads (Some f) p goes P is leads = ([], p, (refl, refl))

  runs_lead : (c : Command) (p : Place) → IsCommandInRange c → IsPlace g p → Leads (Runs g c p)
  runs_lead (commands.Turn n) p range is =
      let some = range.0 in
      unless_leads p.end p (TurnsTo g p.items (p.turn + n)) _ is.begun
      (λ low. turns_lead g p.items (p.turn + n) (omega (arith, low, some)) (rw is.are is.past))
  runs_lead (commands.Until a) p range is =
      unless_leads p.end p (ComesTo g p.items a) _ is.begun (λ low. address_leads g p.items a (rw is.are is.past))
  runs_lead (commands.Back n) p range is = let q = back_leads g p n is in ([], q.0, (refl, q.1))
  runs_lead (commands.Last a) p range is = let q = last_leads g p a is in ([], q.0, (refl, q.1))
  runs_lead c p range is = ([], p, (refl, refl))

  pub script_leads : (cs : List Command) (p : Place) → AllByRecursion IsCommandInRange cs → IsPlace g p
      → Leads (IsText g cs p)
  script_leads [] p ranges is = ([], p, no_command p)
  script_leads (c ∷ cs) p ranges is =
      let r = runs_lead c p ranges.0 is in
      let next = script_leads cs r.1 ranges.1 (runs_behind g c p r.1 r.0 is r.2).1 in
      (_, next.1, next_command c cs p r.1 next.1 _ next.0 (record { shown = r.0; runs = r.2; whole = refl }) next.2)

  text_then : (cs ds : List Command) (p q r : Place) (x y : List ℕ) → IsText g cs p x q → IsText g ds q y r
      → IsText g (cs ++ ds) p (x ++ y) r
  text_then [] ds p q r x y (no_command _) t = t
  text_then (c ∷ cs) ds p q r x y (next_command _ _ _ mid _ v w one rest) t =
      rw append_assoc (next_command c (cs ++ ds) p mid r v (w ++ y) one (text_then cs ds mid q r w y rest t))

  text_more : (cs : List Command) (c : Command) (p q r : Place) (x y : List ℕ) → IsText g cs p x q → Answers g c q y r
      → IsText g (cs ++ c ∷ []) p (x ++ y) r
  text_more cs c p q r x y t a =
      let last : IsText g (c ∷ []) q y r = rw append-nil at (next_command c [] q r r y [] a (no_command r)) in
      text_then cs (c ∷ []) p q r x y t last

-- ---- one command

-- the machine stands where the text leads
pub stands_last : {K : Type 0} (k : Account K) (g : Given) (leads : List ℕ → Place → Type 0)
    (cut : List ℕ → List ℕ → Place → Type 0) (a b : K) (m : Machine) (plan : Plan)
    → (d : Drives leads cut Done g (output k a b) (target m plan)) → StandsAt g d.last m plan
stands_last k g leads cut a b m plan d = rw d.whole at d.stands

-- at a place of the image's run
pub driven_there : {K : Type 0} (k : Account K) (image : List Part) (sets : Option ℕ) (g : Given)
    (leads : List ℕ → Place → Type 0) (cut : List ℕ → List ℕ → Place → Type 0) (a b : K) (m : Machine) (plan : Plan)
    → IsOf image sets g → ((q : Place) (x : List ℕ) → leads x q → IsPlace g q)
    → Drives leads cut Done g (output k a b) (target m plan) → IsDebugged image sets m plan
driven_there k image sets g leads cut a b m plan of is d = record {
  given = g;
  place = d.last;
  of = of;
  is_place = is d.last d.text d.is_text;
  stands = stands_last k g leads cut a b m plan d;
}

module _ {K : Type 0} (k : Account K) (g : Given) where
  -- nothing is run
  pub stays_there : (leads : List ℕ → Place → Type 0) (cut : List ℕ → List ℕ → Place → Type 0) (p : Place) (a : K)
      (m : Machine) (plan : Plan) → leads [] p → StandsAt g p m plan
      → Drives leads cut Done g (output k a a) (target m plan)
  stays_there leads cut p a m plan runs s = record {
    text = [];
    last = p;
    is_text = runs;
    prints = prints_none k a;
    place = p;
    stands = s;
    whole = refl;
    stopped = tt;
  }

  -- the run went back, or memory was refused and it stands where it stood
  pub went_back : {A E : Type 0} (result : Result A E) (leads : List ℕ → Place → Type 0)
      (cut : List ℕ → List ℕ → Place → Type 0) (p : Place) (c : ℕ) (answer : Printed) (a : K) (before m : Machine)
      (was plan : Plan) → OnOk result (answer ≡ Done) → OnErr result (answer ≡ Memory)
      → ((q : Place) → IsBack g c q → leads [] q) → (q : Place) × IsBack g c q → cut [] [] p → StandsAt g p before was
      → GoneBack g c result (target before was) (target m plan)
      → Drives leads cut answer g (output k a a) (target m plan)
  went_back (Ok x) leads cut p c answer a before m was plan done none goes some is_cut here gone =
      rw done (stays_there leads cut gone.gone.0 a m plan (goes gone.gone.0 gone.gone.1) gone.gone.2)
  went_back (Err e) leads cut p c answer a before m was plan none refused goes some is_cut here gone =
      rw refused (record {
        text = [];
        last = some.0;
        is_text = goes some.0 some.1;
        prints = prints_refused k a [];
        place = p;
        stands = stands_kept g p m was plan gone.same.1 (rw gone.same.0 here);
        whole = tt;
        stopped = record {
          whole = [];
          rest = [];
          is_cut = is_cut;
          between = a;
          first = prints_none k a;
          behind = prints_refused k a [];
        };
      })

  -- the place is told behind what was run
  pub then_tells : (c : Command) (p : Place) (answer : Printed) (a b d : K) (m : Machine) (plan now : Plan) → IsPlace g p
      → StaysAt plan now → (r : Drives (Runs g c p) (CutOnWay g p c) Done g (output k a b) (target m plan))
      → Prints answer k b d (told g r.last.items m.pipeline.turn c)
      → Drives (Answers g c p) (CutInAnswer g c p) answer g (output k a d) (target m now)
  then_tells c p answer a b d m plan now is stays r tells =
      let stands = stands_last k g _ _ a b m plan r in
      let said : Prints answer k b d (told g r.last.items r.last.turn c) = rw stands.turn at tells in
      record {
        text = r.text ++ told g r.last.items r.last.turn c;
        last = r.last;
        is_text = record { shown = r.text; runs = r.is_text; whole = refl };
        prints = prints_then k answer a b d r.text _ (runs_behind g c p r.last r.text is r.is_text).0 r.prints said;
        place = r.last;
        stands = stands_kept g r.last m plan now stays stands;
        whole = whole_by answer;
        stopped = on_cut answer _ (record {
          whole = r.text;
          rest = told g r.last.items r.last.turn c;
          is_cut = in_told r.text r.last r.is_text;
          between = b;
          first = r.prints;
          behind = said;
        });
      }
    where
      whole_by : (w : Printed) → OnDone w (r.last ≡ r.last)
      whole_by Done = refl
      whole_by Write = tt
      whole_by Memory = tt

  -- or it is not, where printing stopped before
  pub cut_before : (c : Command) (p : Place) (answer : Printed) (a b : K) (m : Machine) (plan : Plan) → IsPlace g p
      → IsCut answer → Drives (Runs g c p) (CutOnWay g p c) answer g (output k a b) (target m plan)
      → Drives (Answers g c p) (CutInAnswer g c p) answer g (output k a b) (target m plan)
  cut_before c p answer a b m plan is cut r =
      drives_by k g (Runs g c p) (Answers g c p) (CutOnWay g p c) (CutInAnswer g c p) answer a b m plan
      (λ x y q. on_way x y q)
      (λ x q runs. inr (
        cut,
        (runs_behind g c p q x is runs).0,
        (told g q.items q.turn c, q, record { shown = x; runs = runs; whole = refl }),
      )) r

-- ---- scripts

-- more commands behind the one in which a script was cut
cut_more : (g : Given) (cs ds : List Command) (p q : Place) (x y : List ℕ) → CutInScript g cs p x y q
    → CutInScript g (cs ++ ds) p x y q
cut_more g _ ds _ _ _ _ (in_command before c left p q place x y z text is_cut) =
    rw append_assoc (in_command before c (left ++ ds) p q place x y z text is_cut)

-- the commands of a script up to one were done, and then that one
module _ {K : Type 0} (k : Account K) (g : Given) (p : Place) (begins : IsPlace g p) (cs : List Command) (i : ℕ)
    (none : Command) (inside : i < length cs) (a b e : K) (m : Machine) (plan : Plan)
    (d : Drives (IsText g (take i cs) p) (CutInScript g (take i cs) p) Done g (output k a b) (target m plan))
    (answer : Printed) (next : Machine) (later : Plan)
    (does : (q : Place) → IsPlace g q → StandsAt g q m plan → Drives (Answers g (get_or cs i none) q)
    (CutInAnswer g (get_or cs i none) q) answer g (output k b e) (target next later)) where
  -- that one was done too, or printing stopped in it
  pub does_next : Drives (IsText g (take (i + 1) cs) p) (CutInScript g (take (i + 1) cs) p) answer g (output k a e)
      (target next later)
  does_next =
      let c = get_or cs i none in
      let last = script_behind g (take i cs) p d.last d.text begins d.is_text in
      let one = does d.last last.1 (stands_last k g _ _ a b m plan d) in
      rw (take_more cs i none inside) (record {
        text = d.text ++ one.text;
        last = one.last;
        is_text = text_more g (take i cs) c p d.last one.last d.text one.text d.is_text one.is_text;
        prints = prints_then k answer a b e d.text one.text last.0 d.prints one.prints;
        place = one.place;
        stands = one.stands;
        whole = one.whole;
        stopped = on_cut_as answer (StopsAt (CutInAnswer g c d.last) answer k b e one.place) _ (λ stop. record {
          whole = d.text ++ stop.whole;
          rest = stop.rest;
          is_cut = in_command (take i cs) c [] p d.last one.place d.text stop.whole stop.rest d.is_text stop.is_cut;
          between = stop.between;
          first = prints_then k Done a b stop.between d.text stop.whole last.0 d.prints stop.first;
          behind = stop.behind;
        }) one.stopped;
      })

  -- where it stopped, others were left
  pub cut_in_next : IsCut answer → All IsCommandInRange cs
      → Drives (IsText g cs p) (CutInScript g cs p) answer g (output k a e) (target next later)
  cut_in_next cut ranges =
      let left = drop (i + 1) cs in
      let all = take-append-drop (i + 1) cs in
      let in_range = recursion_from_All IsCommandInRange left (All-drop IsCommandInRange (i + 1) cs ranges) in
      drives_by k g (IsText g (take (i + 1) cs) p) (IsText g cs p) (CutInScript g (take (i + 1) cs) p) (CutInScript g cs p)
      answer a e next later (λ x y q is_cut. rw all at (cut_more g (take (i + 1) cs) left p q x y is_cut))
      (λ x q text.
      let here = script_behind g (take (i + 1) cs) p q x begins text in
      let rest = script_leads g left q in_range here.1 in
      inr (
        cut,
        here.0,
        (rest.0, rest.1, rw all at (text_then g (take (i + 1) cs) left p q rest.1 x rest.0 text rest.2)),
      ))
      does_next
