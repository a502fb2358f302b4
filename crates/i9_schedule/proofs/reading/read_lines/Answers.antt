use Rattle.std.proofs.Common.{◌≡◌, ℕ, ◌+◌, ap, Option, Some, Result, Ok, Err, arith}
use Rattle.i9_text.proofs.Loop.{left_len-split, turn-fine, turn-fault, turn-end}
use Rattle.i9_model.specs.ScheduleText.{Contents, contents_of, fault_of, nothing_missing}
use Rattle.i9_schedule.specs.declared.error.StepError.{StepError}
use Rattle.i9_schedule.specs.declared.error.StepError.TheVariants as steps
use Rattle.i9_schedule.specs.Lines.{with_line}
use Rattle.i9_schedule.specs.Reading.{said_by, Fails, error_at, Refuses}
use Rattle.i9_schedule.specs.declared.reading.SoFar.{SoFar}
use Rattle.i9_schedule.proofs.WholeText.{told_of, read_lines, read_text, found, only, refused, first}
use Rattle.i9_schedule.proofs.reading.read_lines.Goals as goal

abbrev told_by : SoFar → Contents
told_by s = contents_of (said_by s)

-- an error at a line, where its fault is the answer
refuses_line : (error : StepError) (fault : Option ℕ) (number : ℕ) (answer : Result Contents (ℕ × ℕ)) → Fails error fault → ((kind : ℕ) → fault ≡ Some kind → answer ≡ Err (number, kind)) → Refuses (error_at error number) answer
refuses_line steps.Memory fault number answer fails known = tt
refuses_line (steps.Bad kind) fault number answer fails known = known kind fails

-- a line at fault is what reading the whole text gives
at_line : (c : goal.After-at) → Refuses c.at.result (read_text c.args.text.now)
at_line c =
    let s = said_by c.loop-rest.so_far in
    let line = c.split_line.result.0.now in
    let answered = λ (kind : ℕ) (wrong : fault_of s line ≡ Some kind). ap told_of (turn-fault fault_of with_line nothing_missing c.loop-rest.number kind s c.loop-rest.rest c.in-Some.lines line c.split_line.result.1 (read_lines c.args.text.now) c.in-Some.is c.split_line.ensures.lines c.loop-rest.invariant.same wrong) in
    rw c.at.ensures (refuses_line c.in-Err.error (fault_of s line) (c.loop-rest.number + 1) (read_text c.args.text.now) c.in-Err.ensures answered)

-- so is the end of the text
at_end : (c : goal.In_default) → read_text c.args.text.now ≡ Ok (told_by c.loop-rest.so_far)
at_end c = ap told_of (turn-end fault_of with_line nothing_missing c.loop-rest.number (said_by c.loop-rest.so_far) c.loop-rest.rest (read_lines c.args.text.now) c.in_default.is c.loop-rest.invariant.same)

pub loop-rest-preserved : goal.loop-rest-preserved
loop-rest-preserved c =
    let shorter = left_len-split c.loop-rest.rest c.in-Some.lines c.split_line.result.1 c.in-Some.is c.split_line.ensures.shorter in
    record {
      same = turn-fine fault_of with_line nothing_missing c.loop-rest.number (said_by c.loop-rest.so_far) (said_by c.in-Ok.next) c.loop-rest.rest c.in-Some.lines c.split_line.result.0.now c.split_line.result.1 (read_lines c.args.text.now) c.in-Some.is c.split_line.ensures.lines c.loop-rest.invariant.same c.in-Ok.ensures;
      few = omega (arith, shorter);
    }

pub returns-in-Err-clause-only : goal.returns-in-Err-clause-only
returns-in-Err-clause-only c = only told_by c.args.text.now (Err c.at.result) (at_line c)

pub returns-in-Err-clause-refused : goal.returns-in-Err-clause-refused
returns-in-Err-clause-refused c = refused told_by c.args.text.now (Err c.at.result) (at_line c)

pub returns-in-Err-clause-first : goal.returns-in-Err-clause-first
returns-in-Err-clause-first c = first told_by c.args.text.now (Err c.at.result) (at_line c)

pub returns-clause-found : goal.returns-clause-found
returns-clause-found c = found told_by c.args.text.now (Ok c.loop-rest.so_far) (at_end c)

pub returns-clause-only : goal.returns-clause-only
returns-clause-only c = only told_by c.args.text.now (Ok c.loop-rest.so_far) (at_end c)

pub returns-clause-first : goal.returns-clause-first
returns-clause-first c = first told_by c.args.text.now (Ok c.loop-rest.so_far) (at_end c)
