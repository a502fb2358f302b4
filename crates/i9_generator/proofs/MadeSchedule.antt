-- A made schedule is read as a plan whose events stand at counts.
use Rattle.std.proofs.Common.{◌≡◌, ℕ, zero, suc, ◌+◌, ◌*◌, ◌%◌, ◌≤◌, true, List, [], ◌∷◌, length, refl, sym, subst, append_assoc, inl, arith}
use Rattle.std.specs.List.{flat_map, range_with_len, AllByRecursion}
use Rattle.i9_text.specs.Text.{lines_of}
use Rattle.i9_model.specs.declared.event.Event.TheVariants.{Pin}
use Rattle.i9_model.specs.Events.{journal_text}
use Rattle.i9_model.specs.ScheduleText.{first_version, AreOfVersion, IsTimedInRange, InOrder, IsPlan, IsByCounts, Contents, IsSchedule, IsRefused}
use Rattle.i9_model.specs.PrintedText.{Shown, Journal, event_text, heading_text, text_of, events_of}
use Rattle.i9_replay.proofs.Replay.{replay}
use Rattle.i9_schedule.proofs.OneAnswer.{answers_apart, one_schedule}
use Rattle.i9_generator.specs.Generator.{drawn, pin_line, event_line, event_number, generated_schedule}
use Rattle.i9_generator.specs.Accepted.{HasPlan}

-- the pin at a place
abbrev pin_of : ℕ → ℕ → ℕ
pin_of number j = drawn number (3 + j) % 8

-- the events of the job, as they would be printed
abbrev made_lines : ℕ → List ℕ → List Shown
made_lines number [] = []
made_lines number (j ∷ js) = Journal (100 * j) (Pin (pin_of number j)) ∷ made_lines number js

line_is : (k x : ℕ) → pin_line k x ≡ event_text k (Pin x)
unfolding event_text journal_text
line_is k x = grind (arith, append_assoc)

lines_are : (number : ℕ) (js : List ℕ) → flat_map (event_line number) js ≡ text_of (made_lines number js)
lines_are number [] = refl
lines_are number (j ∷ js) = cc (line_is (100 * j) (pin_of number j), lines_are number js)

-- so many events from a place on
each_made : (number a n : ℕ) → a + n ≤ 2001 → AllByRecursion IsTimedInRange (events_of (made_lines number (range_with_len a n)))
each_made number a zero le = tt
each_made number a (suc n) le = grind (arith, each_made number (a + 1) n (omega (arith, le)))

order_made : (number time a n : ℕ) → time ≤ 100 * a → InOrder time (events_of (made_lines number (range_with_len a n)))
order_made number time a zero le = tt
order_made number time a (suc n) le = (le, order_made number (100 * a) (a + 1) n (omega arith))

few_made : (number a n : ℕ) → length (events_of (made_lines number (range_with_len a n))) ≡ n
few_made number a zero = refl
few_made number a (suc n) = let few = few_made number (a + 1) n in omega (arith, few)

kinds_made : (number : ℕ) (js : List ℕ)
    → IsByCounts (events_of (made_lines number js)) × AreOfVersion first_version (events_of (made_lines number js))
kinds_made number [] = (tt, tt)
kinds_made number (j ∷ js) = let more = kinds_made number js in ((refl, more.0), (tt, more.1))

made_plan : (number : ℕ) → IsPlan (events_of (made_lines number (range_with_len 1 event_number)))
made_plan number =
    let few = few_made number 1 event_number in
    record {
      each = each_made number 1 event_number (omega arith);
      order = order_made number 0 1 event_number (omega arith);
      few = omega (arith, few);
      alike = (true, (kinds_made number (range_with_len 1 event_number)).0);
    }

-- the schedule is read as these events
abbrev made_contents : ℕ → Contents
made_contents number = record { version = first_version; events = events_of (made_lines number (range_with_len 1 event_number)) }

made_says : (number : ℕ) → IsSchedule (lines_of (generated_schedule number)) (made_contents number)
unfolding generated_schedule heading_text
made_says number =
    subst (λ (text : List ℕ). IsSchedule (lines_of text) (made_contents number))
    (sym (lines_are number (range_with_len 1 event_number)))
    (replay first_version (made_lines number (range_with_len 1 event_number)) (inl refl) (made_plan number) (kinds_made number (range_with_len 1 event_number)).1)

-- a made schedule is read
pub made_schedule : (number : ℕ) → HasPlan number
made_schedule number = record {
  events = events_of (made_lines number (range_with_len 1 event_number));
  said = made_says number;
  plan = made_plan number;
  counted = (kinds_made number (range_with_len 1 event_number)).0;
}

-- so it is not refused
pub schedule_not_refused : (number : ℕ) (fault : ℕ × ℕ) → IsRefused (lines_of (generated_schedule number)) fault → ⊥
schedule_not_refused number fault refused = answers_apart (generated_schedule number) (made_contents number) fault (made_says number) refused

-- whatever it is read as stands at counts
pub schedule_counted : (number : ℕ) (c : Contents) → IsSchedule (lines_of (generated_schedule number)) c → IsByCounts c.events
schedule_counted number c says =
    subst (λ (x : Contents). IsByCounts x.events) (one_schedule (generated_schedule number) (made_contents number) c (made_says number) says) (kinds_made number (range_with_len 1 event_number)).0
