use Rattle.std.proofs.Common.{rules, max, ap, ◌∙◌}
use Rattle.i9_machine.specs.Contents.{contents_of}
use Rattle.i9_machine.proofs.Settling.{fenced, over, levels}
use Rattle.i9_machine.proofs.machine.Machine.settle.Goals as goal

pub returns : goal.returns
returns c =
    let k = contents_of c.args.self.now in
    let at = c.settle.ensures.settled in
    let none = c.is_none-fenced.ensures in
    record {
      fenced = λ g h stands. fenced g h _ k _ at none stands;
      ended = λ g h f stands. over g h _ k _ at none f stands;
      turn = λ rs stands. (λ i. (at.settled i).turn) ∙ ap (max k.pipeline.turn) (at.end rs stands);
      quiet = λ g h end stands. (levels g h _ k _ at none end stands).0;
      level = λ g h end stands. (levels g h _ k _ at none end stands).1;
      room = search rules;
      no_more = search rules;
    }
