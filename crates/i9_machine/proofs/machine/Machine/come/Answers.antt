use Rattle.std.proofs.Common.{◌≡◌, arith}
use Rattle.i9_model.specs.Late.{turns}
use Rattle.i9_model.specs.Turns.{end_turn}
use Rattle.i9_course.specs.Course.{course}
use Rattle.i9_machine.specs.Contents.{contents_of}
use Rattle.i9_machine.specs.Step.{stage}
use Rattle.i9_machine.proofs.Ending.{finish_overtakes, finish_costs, late_fits}
use Rattle.i9_machine.proofs.Turning.{is_timely, all_landed}
use Rattle.i9_machine.proofs.machine.Machine.come.Goals as goal

pub step_drained-requires-clause-drained : goal.step_drained-requires-clause-drained
step_drained-requires-clause-drained c =
    let a = c.requires.arrived in
    let end = (rw c.in-Waiting.is at c.requires.ready).0 in
    all_landed a.given a.items (contents_of c.args.self.now) c.args.turn a.stands end c.requires.turn

pub step_drained-requires-clause-timely : goal.step_drained-requires-clause-timely
step_drained-requires-clause-timely c =
    let a = c.requires.arrived in
    let end = (rw c.in-Waiting.is at c.requires.ready).0 in
    let rs = turns (course a.given a.items).late in
    let is : c.args.turn ≡ end_turn rs = end rs a.stands.flow.board in
    is_timely a.given a.items (contents_of c.args.self.now) c.args.plan.now a.stands a.follows
    (omega (arith, is, c.requires.turn))

pub returns-in-Overtaking : goal.returns-in-Overtaking
returns-in-Overtaking c =
    let late = rw c.in-Overtaking.is at c.requires.ready in
    let before = stage c.args.self.now c.args.plan.now c.args.out.now in
    record {
      came = rw c.in-Overtaking.is
          (finish_overtakes before _ c.answer_end.result _ late c.answer_end.ensures.finishes);
      costs = finish_costs before _ c.answer_end.result _ (late_fits before _ late) c.answer_end.ensures.processor
          c.answer_end.ensures.finishes;
    }
