use Rattle.std.proofs.Common.{ℕ, Option, List, ◌++◌, map, ap, ◌∙◌, append_assoc}
use Rattle.std.specs.Option.{option_copied}
use Rattle.i9_model.specs.PrintedText.{Shown, out_lines, point_lines}
use Rattle.i9_machine.proofs.Issuing.{points_alike}
use Rattle.i9_processor.specs.State.{state_of}
use Rattle.i9_pipeline.specs.Issuing.{state_behind}
use Rattle.i9_machine.specs.Doing.{reached_lines}
use Rattle.i9_machine.specs.Line.{shown_of}
use Rattle.i9_machine.proofs.machine.Machine.act.Goals as goal

pub returns-clause-lines : goal.returns-clause-lines
returns-clause-lines c =
    let s = state_of c.args.self.now.pipeline.processor in
    let after = state_behind s c.args.self.now.effect c.args.step.now.counts in
    let event = reached_lines (option_copied c.args.event) s in
    let points = point_lines (c.args.step.now.point) after in
    let bytes = out_lines c.console_byte.result in
    let old = map shown_of c.args.out.now.items in
    c.put_point.ensures
    ∙ ap (λ (ls : List Shown). map shown_of c.put_out.new.out.items ++ ls)
    (points_alike c.args.step.now.point after (state_of c.issue.new.self.processor) c.issue.ensures.state)
    ∙ ap (λ (ls : List Shown). ls ++ points) c.put_out.ensures.lines
    ∙ ap (λ (ls : List Shown). (ls ++ bytes) ++ points) c.put_event.ensures.lines
    ∙ append_assoc (old ++ event) bytes points
    ∙ append_assoc old event (bytes ++ points)
    ∙ ap (λ (b : Option ℕ). old ++ (event ++ (out_lines b ++ points))) c.console_byte.ensures
