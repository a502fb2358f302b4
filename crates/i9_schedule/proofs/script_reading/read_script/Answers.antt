use Rattle.std.proofs.Common.{ℕ, ◌+◌, Ok, IfOk, IfErr, arith}
use Rattle.std.proofs.lemmas.Result.{err_from_is_err_and}
use Rattle.i9_text.specs.Text.{lines_of}
use Rattle.i9_text.proofs.Loop.{left_len-split}
use Rattle.i9_schedule.specs.Reading.{IfBad}
use Rattle.i9_schedule.specs.ScriptText.{HasFault, IsScript, IsRefused}
use Rattle.i9_schedule.proofs.RelationLoop.{turn, wrong, done, refused_for}
use Rattle.i9_schedule.proofs.Limits.{script_in_limits}
use Rattle.i9_schedule.proofs.OneScript.{only, first}
use Rattle.i9_schedule.proofs.script_reading.read_script.Goals as goal

-- a line at fault is the first fault of the text
refused_there : (c : goal.After-drop-commands) → IfErr c.from_residual.result (λ e. IfBad e (λ f. IsRefused (lines_of c.args.text.now) f))
refused_there c =
    let l = c.loop-rest in
    let line = c.split_line.result.0.now in
    let lines = lines_of c.args.text.now in
    let p = err_from_is_err_and c.from_residual.result c.from_residual.ensures.1 in
    let known = λ (kind : ℕ) (fault : HasFault l.commands.items line kind). wrong l.number kind l.commands.items l.rest c.in-Some.lines line c.split_line.result.1 lines c.in-Some.is c.split_line.ensures.lines l.invariant.so_far fault in
    rw (p.1, p.2) (refused_for lines l.commands.items line (l.number + 1) c.in_err-take_line.field-0.0 c.in_err-take_line.ensures.refused known)

nothing_found : (c : goal.After-drop-commands) → IfOk c.from_residual.result (λ s. IsScript (lines_of c.args.text.now) s)
nothing_found c = let p = err_from_is_err_and c.from_residual.result c.from_residual.ensures.1 in rw p.1 tt

-- where no line is left, the lines say the commands
found_there : (c : goal.After-new) → IsScript (lines_of c.args.text.now) c.new.result
found_there c = rw c.new.ensures (done c.loop-rest.number c.loop-rest.commands.items c.loop-rest.rest (lines_of c.args.text.now) c.in_default.is c.loop-rest.invariant.so_far)

pub loop-rest-preserved : goal.loop-rest-preserved
loop-rest-preserved c =
    let l = c.loop-rest in
    let after = c.split_line.result.1 in
    let shorter = left_len-split l.rest c.in-Some.lines after c.in-Some.is c.split_line.ensures.shorter in
    record {
      so_far = turn l.number l.commands.items c.take_line.new.commands.items l.rest c.in-Some.lines c.split_line.result.0.now after (lines_of c.args.text.now) c.in-Some.is c.split_line.ensures.lines l.invariant.so_far c.in_ok-take_line.ensures.taken;
      few = omega (arith, shorter);
    }

pub returns-in_err-take_line-clause-refused : goal.returns-in_err-take_line-clause-refused
returns-in_err-take_line-clause-refused c = refused_there c

pub returns-in_err-take_line-clause-only : goal.returns-in_err-take_line-clause-only
returns-in_err-take_line-clause-only c = only (lines_of c.args.text.now) c.from_residual.result (nothing_found c) (refused_there c)

pub returns-in_err-take_line-clause-first : goal.returns-in_err-take_line-clause-first
returns-in_err-take_line-clause-first c = first (lines_of c.args.text.now) c.from_residual.result (nothing_found c) (refused_there c)

pub new-requires : goal.new-requires
new-requires c = script_in_limits (lines_of c.args.text.now) c.loop-rest.commands.items (done c.loop-rest.number c.loop-rest.commands.items c.loop-rest.rest (lines_of c.args.text.now) c.in_default.is c.loop-rest.invariant.so_far)

pub returns-clause-only : goal.returns-clause-only
returns-clause-only c = only (lines_of c.args.text.now) (Ok c.new.result) (found_there c) tt

pub returns-clause-first : goal.returns-clause-first
returns-clause-first c = first (lines_of c.args.text.now) (Ok c.new.result) (found_there c) tt
