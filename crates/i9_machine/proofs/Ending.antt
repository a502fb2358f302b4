-- An end that is answered, of the run or at an imprecise fault.
use Rattle.std.proofs.Common.{◌≡◌, ◌≢◌, ℕ, ◌+◌, ◌<◌, ◌≤◌, Option, Some, Result, length, sym, ap, ◌∙◌, subst, arith, length-append}
use Rattle.i9_model.specs.declared.event.Event.{Event}
use Rattle.i9_model.specs.declared.faults.Entry.{Entry}
use Rattle.i9_model.specs.declared.faults.Fault.{Fault}
use Rattle.i9_model.specs.declared.faults.FaultStop.{FaultStop}
use Rattle.i9_model.specs.declared.faults.FaultStop.TheVariants as stops
use Rattle.i9_model.specs.declared.run.Due.{Due}
use Rattle.i9_model.specs.declared.run.Due.TheVariants as dues
use Rattle.i9_model.specs.declared.run.End.{End}
use Rattle.i9_model.specs.declared.run.End.TheVariants.{Imprecise}
use Rattle.i9_model.specs.declared.run.Point.TheVariants as points
use Rattle.i9_model.specs.declared.view.View.{View}
use Rattle.i9_model.specs.State.{State}
use Rattle.i9_model.specs.PrintedText.{record_lines, end_lines, journal_lines, last_lines, view_of}
use Rattle.i9_model.specs.Run.{Entered, Ends, record_of, entry_in, next_by_entry, next_in, Finish, finish}
use Rattle.i9_processor.specs.declared.processor.Processor.{Processor}
use Rattle.i9_machine.specs.declared.line.Turn.{Turn}
use Rattle.i9_machine.specs.declared.line.Turn.TheVariants as turns
use Rattle.i9_machine.specs.Coming.{Overtakes}
use Rattle.i9_machine.specs.Contents.{situation_in, Situation}
use Rattle.i9_machine.specs.NewPages.{AddsNextOnly}
use Rattle.i9_machine.specs.Overtaking.{late_due}
use Rattle.i9_machine.specs.Step.{NeedsRoom, HasRoom, event_for, Stage, next_of, Finished, Finishes, Refused, Costs}
use Rattle.i9_machine.proofs.NewPages.{same_next}

-- ---- an end of the run

journal_long : (k n : ℕ) (o : Option Event) → length (journal_lines k o) ≡ length (journal_lines n o)
journal_long k n o = grind arith

last_long : (v : View) (e : End) → length (last_lines v e) ≤ 2
last_long v e = grind arith

end_long : (s : State) (f : Finish) → length (end_lines s f) ≤ length (journal_lines 0 f.event) + 2
end_long s f =
    let whole = length-append (journal_lines s.count f.event) (last_lines (view_of s) f.end) in
    omega (arith, whole, journal_long s.count 0 f.event, last_long (view_of s) f.end)

refused : (before after : Stage) → after ≡ before → NeedsRoom (next_of before) → Refused before after
refused before after same needed = record {
  same = (λ i. record (same i) { processor = after.processor; spare = after.spare });
  needed = needed;
}

-- where room is lacking, it is lacking still
still_costs : (before after : Stage) → after ≡ before → AddsNextOnly before.processor after.processor (next_of before)
    → (HasRoom before.processor before.spare (next_of before) → ⊥) → Costs before turns.Memory after
still_costs before after same only lacks = record {
  lacking = λ refused. lacks;
  still_lacking = λ refused. subst (λ (s : Stage). HasRoom s.processor s.spare (next_of s) → ⊥) (sym same) lacks;
  only = only;
  fewer = tt;
}

-- what an end costs, where whatever has room for what comes next has room for its lines
pub finish_costs : (before : Stage) (f : Finish) (answer : Turn) (after : Stage)
    → (HasRoom before.processor before.spare (next_of before)
    → length (end_lines before.contents.pipeline.state f) ≤ before.spare)
    → after.processor ≡ before.processor → Finishes before f answer after → Costs before answer after
finish_costs before f (turns.End e) after fits same d = record {
  lacking = λ refused. absurd (cc refused);
  still_lacking = λ refused. absurd (cc refused);
  only = same_next before.processor after.processor (next_of before) same;
  fewer = tt;
}
finish_costs before f turns.Memory after fits same d =
    still_costs before after d.same (same_next before.processor after.processor (next_of before) same) (λ room.
    let some : length (end_lines before.contents.pipeline.state f) ≤ before.spare = fits room in
    let lacks : before.spare < length (end_lines before.contents.pipeline.state f) = d.lacking in
    omega (arith, some, lacks))
finish_costs before f _ after fits same d = absurd d

-- room for an end that comes next is room for its lines
pub end_fits : (before : Stage) (f : Finish) → next_of before ≡ Ends f
    → HasRoom before.processor before.spare (next_of before)
    → length (end_lines before.contents.pipeline.state f) ≤ before.spare
end_fits before f is room =
    let some : length (journal_lines 0 f.event) + 2 ≤ before.spare = subst (HasRoom before.processor before.spare) is
    room in
    let long = end_long before.contents.pipeline.state f in
    omega (arith, some, long)

-- ---- an imprecise fault

-- what is due is the entry of a fault
late_is_due : (at : Situation) (a : ℕ) → late_due at ≡ Some a → (f : Fault) × (at.due ≡ dues.Entry f)
late_is_due at a late = grind arith

pub late_not_nothing : (at : Situation) (a : ℕ) → late_due at ≡ Some a → at.due ≢ dues.Nothing
late_not_nothing at a late none = let is = late_is_due at a late in cc (sym is.1 ∙ none)

-- an entry has a line at least
entry_long : (s : State) (x : Entry) → 1 ≤ length (record_lines (record_of (Entered x) s))
entry_long s x = grind arith

entry_needs : (s : State) (p : Result Entry FaultStop) → NeedsRoom (next_by_entry s p)
entry_needs s p = grind (arith, entry_long)

entry_room : (p : Processor) (spare : ℕ) (s : State) (e : Result Entry FaultStop) → HasRoom p spare (next_by_entry s e)
    → 1 ≤ spare
entry_room p spare s e room = grind (arith, entry_long, room)

-- what comes next is the entry of the fault
late_next : (before : Stage) (f : Fault) → before.contents.due ≡ dues.Entry f
    → next_of before ≡ next_by_entry before.contents.pipeline.state (entry_in before.contents.pipeline.state f)
late_next before f is =
    ap (λ (d : Due). next_in before.contents.length d
    (event_for (situation_in before.contents) before.plan) before.contents.pipeline.state) is

pub finish_overtakes : (before : Stage) (a : ℕ) (answer : Turn) (after : Stage)
    → late_due (situation_in before.contents) ≡ Some a
    → Finishes before (finish (Imprecise a)) answer after → Overtakes a before answer after
finish_overtakes before a (turns.End e) after due d =
    (sym d.0, subst (λ (x : End). Finished before (finish x) after) d.0 d.1)
finish_overtakes before a turns.Memory after due d =
    let is = late_is_due (situation_in before.contents) a due in
    refused before after d.same
    (subst NeedsRoom (sym (late_next before is.0 is.1))
    (entry_needs before.contents.pipeline.state (entry_in before.contents.pipeline.state is.0)))
finish_overtakes before a _ after due d = absurd d

-- room for the entry is room for its line
pub late_fits : (before : Stage) (a : ℕ) → late_due (situation_in before.contents) ≡ Some a
    → HasRoom before.processor before.spare (next_of before)
    → length (end_lines before.contents.pipeline.state (finish (Imprecise a))) ≤ before.spare
late_fits before a due room =
    let is = late_is_due (situation_in before.contents) a due in
    let s = before.contents.pipeline.state in
    entry_room before.processor before.spare s (entry_in s is.0)
    (subst (HasRoom before.processor before.spare) (late_next before is.0 is.1) room)
