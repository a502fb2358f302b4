-- Steps that are done and printed one by one, and what is printed by other relations.
use Rattle.std.proofs.Common.{◌≡◌, ℕ, List, [], ◌∷◌, ◌++◌, flat_map, map, None, refl, sym, ap, ◌∙◌, ◌⊎◌, inl, inr, arith}
use Rattle.std.proofs.lemmas.List.{append-nil}
use Rattle.i9_model.specs.declared.run.End.{End}
use Rattle.i9_model.specs.PrintedText.{Shown, text_of, lines_of, record_lines, end_lines}
use Rattle.i9_model.specs.Run.{Given, Record, Finish}
use Rattle.i9_past.proofs.Lines.{text_of-append}
use Rattle.i9_schedule.specs.Plan.{Plan}
use Rattle.i9_course.specs.Course.{Item, Step}
use Rattle.i9_machine.specs.declared.line.Line.{Line}
use Rattle.i9_machine.specs.declared.line.Turn.{Turn}
use Rattle.i9_machine.specs.declared.line.Turn.TheVariants as answers
use Rattle.i9_machine.specs.declared.machine.Machine.{Machine}
use Rattle.i9_machine.specs.Line.{AddsLines, shown_of}
use Rattle.i9_machine.specs.StandsFor.{StandsFor, Follows, IsUnderWay, DoesNext, Comes}
use Rattle.i9_machine.specs.Progress.{progress}
use Rattle.i9_machine.specs.Turned.{steps_on}
use Rattle.i9_lines.specs.declared.print.Printed.{Printed}
use Rattle.i9_lines.specs.declared.print.Printed.TheVariants.{Done, Write, Memory}
use Rattle.i9_lines.specs.Print.{Account, Prints, line_text, IsCut, OnCut, output}
use Rattle.i9_debug.specs.Session.{Place, at, ended, turn_ahead, state_at, EndsBehind, ending_lines}
use Rattle.i9_debug.specs.Driven.{StandsAt, StopsAt, Drives, AtMostOne, CutInRun, behind_step, behind_end, target}
use Rattle.i9_lines.proofs.TextLines.{IsClosed}
use Rattle.i9_lines.proofs.Prints.{prints_none, prints_then, prints_stop, prints_same, not_done, on_cut, cut_whole}
use Rattle.i9_lines.proofs.ClosedLines.{closed_text, added-text}
use Rattle.i9_debug.proofs.Places.{GoesOn, whole_already}

module _ {K : Type 0} (k : Account K) (g : Given) (h : List Item) (keeps : List Record → Machine → Type 0) where
  -- Records were done, with something that is kept, and their text was printed.
  pub record SoFar (a b : K) (m : Machine) (plan : Plan) : Type 0 where
    pub done : List Record
    pub stands : StandsFor g (steps_on done h) None m
    pub follows : Follows g (steps_on done h) plan
    pub kept : keeps done m
    pub prints : Prints Done k a b (text_of (lines_of done))

  pub none_yet : (a : K) (m : Machine) (plan : Plan) → keeps [] m → StandsFor g h None m → Follows g h plan
      → SoFar a a m plan
  none_yet a m plan kept stands follows =
      record { done = []; stands = stands; follows = follows; kept = kept; prints = prints_none k a }

  pub under_way : (a b : K) (m : Machine) (plan : Plan) → SoFar a b m plan → IsUnderWay m plan
  under_way a b m plan s = record { given = g; items = steps_on s.done h; stands = s.stands; follows = s.follows }

  module _ (a b c : K) (old mid next : Machine) (was plan : Plan) (ls : List Line) (s : SoFar a b old was) where
    abbrev items : List Item
    items = steps_on s.done h

    abbrev DidNext : Turn → Type 0
    DidNext turn = DoesNext g items turn (progress mid was []) (progress next plan ls)

    abbrev Came : Turn → Type 0
    Came turn = Comes g items turn (progress mid was []) (progress next plan ls)

    abbrev Went : (List ℕ → Place → Type 0) → Printed → Type 0
    Went leads answer = Drives leads (CutInRun g AtMostOne h) answer g (output k a c) (target next plan)

    -- what is shown up to the end leads there
    abbrev LeadsToEnd : (List ℕ → Place → Type 0) → Type 0
    LeadsToEnd leads = (f : Finish) → EndsBehind g h s.done f
        → leads (text_of (ending_lines g h s.done f)) (ended items (turn_ahead g items) f)

    end_stands : (e : End) → (d : Came (answers.End e)) → StandsAt g (ended items (turn_ahead g items) d.finish) next plan
    end_stands e d =
        record { stands = d.stands; turn = d.turn ∙ sym d.now; follows = tt; events = d.follows.events }

    -- lines are printed behind the text so far
    behind : (answer : Printed) (xs : List Shown) → AddsLines [] ls xs → Prints answer k b c (flat_map line_text ls)
        → Prints answer k a c (text_of (lines_of s.done ++ xs))
    behind answer xs adds p =
        prints_same k answer a c _ _ (sym (text_of-append (lines_of s.done) xs))
        (prints_then k answer a b c _ _ (closed_text (lines_of s.done)) s.prints
        (prints_same k answer b c _ _ (added-text ls xs adds) p))

    -- one more was done
    pub one_more : (turn : Turn) → (d : DidNext turn) → keeps (d.done ∷ s.done) next
        → Prints Done k b c (flat_map line_text ls) → SoFar a c next plan
    one_more turn d kept p = record {
      done = d.done ∷ s.done;
      stands = d.stands;
      follows = d.follows;
      kept = kept;
      prints = behind Done (record_lines d.done) d.lines p;
    }

    -- all was printed up to a place
    pub there : (leads : List ℕ → Place → Type 0) (xs : List Shown) (place : Place) → StandsAt g place next plan
        → leads (text_of (lines_of s.done ++ xs)) place → AddsLines [] ls xs → Prints Done k b c (flat_map line_text ls)
        → Went leads Done
    there leads xs place stands leads_there adds p = record {
      text = text_of (lines_of s.done ++ xs);
      last = place;
      is_text = leads_there;
      prints = behind Done xs adds p;
      place = place;
      stands = stands;
      whole = refl;
      stopped = tt;
    }

    -- up to the end
    pub at_end : (leads : List ℕ → Place → Type 0) (e : End) → Came (answers.End e) → LeadsToEnd leads
        → Prints Done k b c (flat_map line_text ls) → Went leads Done
    at_end leads e d to_end p =
        there leads (end_lines (state_at g items) d.finish) _ (end_stands e d)
        (to_end d.finish (record { past = d.stands.past; is_end = d.is_end })) d.lines p

    module _ (leads : List ℕ → Place → Type 0) (answer : Printed) (cut : IsCut answer)
        (p : Prints answer k b c (flat_map line_text ls)) where
      -- printing stopped in lines behind the text so far
      stopped_in : (xs : List Shown) (place : Place)
          → CutInRun g AtMostOne h (text_of (lines_of s.done)) (text_of xs) place → StandsAt g place next plan
          → GoesOn leads (text_of (lines_of s.done ++ xs)) → AddsLines [] ls xs → Went leads answer
      stopped_in xs place is_cut stands on adds = record {
        text = text_of (lines_of s.done ++ xs) ++ on.0;
        last = on.1;
        is_text = on.2;
        prints = prints_stop k answer a c _ on.0 (closed_text (lines_of s.done ++ xs)) (not_done answer cut)
            (behind answer xs adds p);
        place = place;
        stands = stands;
        whole = cut_whole answer (place ≡ on.1) cut;
        stopped = on_cut answer _ (record {
          whole = text_of (lines_of s.done);
          rest = text_of xs;
          is_cut = is_cut;
          between = b;
          first = s.prints;
          behind = prints_same k answer b c _ _ (added-text ls xs adds) p;
        });
      }

      stopped_behind : (turn : Turn) → (d : DidNext turn) → GoesOn leads (text_of (lines_of (d.done ∷ s.done)))
          → Went leads answer
      stopped_behind turn d on =
          stopped_in (record_lines d.done) (at (Step d.done ∷ items) next.pipeline.turn)
          (behind_step s.done (d.done ∷ []) next.pipeline.turn (omega arith))
          (record { stands = d.stands; turn = refl; follows = d.follows; events = d.follows.events }) on d.lines

      -- printing stopped in the lines of a step, or memory was refused for it
      pub stopped_at : (turn : Turn) → Came turn → LeadsToEnd leads
          → ((r : Record) → StandsFor g (Step r ∷ items) None next → GoesOn leads (text_of (lines_of (r ∷ s.done))))
          → (StandsFor g items None next → GoesOn leads (text_of (lines_of s.done))) → Went leads answer
      stopped_at answers.On d to_end more same = stopped_behind answers.On d (more d.done d.stands)
      stopped_at (answers.Issued t) d to_end more same = stopped_behind (answers.Issued t) d (more d.done d.stands)
      stopped_at (answers.End e) d to_end more same =
          stopped_in (end_lines (state_at g items) d.finish) (ended items (turn_ahead g items) d.finish)
          (behind_end s.done [] (turn_ahead g items) d.finish (omega arith)) (end_stands e d)
          (whole_already leads _ _ (to_end d.finish (record { past = d.stands.past; is_end = d.is_end }))) d.lines
      stopped_at answers.Memory d to_end more same =
          stopped_in [] (at items next.pipeline.turn) (behind_step s.done [] next.pipeline.turn (omega arith))
          (record { stands = d.stands; turn = refl; follows = d.follows; events = d.follows.events })
          (rw append-nil (same d.stands)) (ap (map shown_of) d.lines)

-- ---- other relations

pub on_cut_as : (answer : Printed) (P Q : Type 0) → (P → Q) → OnCut answer P → OnCut answer Q
on_cut_as Done P Q goes stopped = tt
on_cut_as Write P Q goes stopped = goes stopped
on_cut_as Memory P Q goes stopped = goes stopped

module _ {K : Type 0} (k : Account K) (g : Given) (one other : List ℕ → Place → Type 0)
    (cut new : List ℕ → List ℕ → Place → Type 0) (answer : Printed) (a b : K) (m : Machine) (plan : Plan)
    (cuts : (x y : List ℕ) (q : Place) → cut x y q → new x y q) where
  -- A text that was printed leads there by another relation, or it goes on to one that does, where printing stopped.
  pub drives_by : ((x : List ℕ) (q : Place) → one x q → other x q ⊎ (IsCut answer × IsClosed x × GoesOn other x))
      → Drives one cut answer g (output k a b) (target m plan) → Drives other new answer g (output k a b) (target m plan)
  drives_by leads d =
      let stopped = on_cut_as answer (StopsAt cut answer k a b d.place) (StopsAt new answer k a b d.place) (λ s. record {
        whole = s.whole;
        rest = s.rest;
        is_cut = cuts s.whole s.rest d.place s.is_cut;
        between = s.between;
        first = s.first;
        behind = s.behind;
      }) d.stopped in
      elim (leads d.text d.last d.is_text) [
        | inl same ↦ record {
          text = d.text;
          last = d.last;
          is_text = same;
          prints = d.prints;
          place = d.place;
          stands = d.stands;
          whole = d.whole;
          stopped = stopped;
        }
        | inr on ↦ record {
          text = d.text ++ on.2.0;
          last = on.2.1;
          is_text = on.2.2;
          prints = prints_stop k answer a b d.text on.2.0 on.1 (not_done answer on.0) d.prints;
          place = d.place;
          stands = d.stands;
          whole = cut_whole answer (d.place ≡ on.2.1) on.0;
          stopped = stopped;
        }
      ]
