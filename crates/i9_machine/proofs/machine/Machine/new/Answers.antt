use Rattle.std.proofs.Common.{◌≡◌, ◌≤◌, [], refl, sym, subst, arith}
use Rattle.i9_model.specs.Given.{given}
use Rattle.i9_model.specs.Image.{pairs_of}
use Rattle.i9_course.specs.Course.{ahead}
use Rattle.i9_course.proofs.Ahead.{ahead_later}
use Rattle.i9_processor.specs.declared.processor.Processor.{Processor}
use Rattle.i9_processor.specs.State.{state_of}
use Rattle.i9_pipeline.specs.Flow.{flow_of}
use Rattle.i9_pipeline.proofs.InRun.{flow_first}
use Rattle.i9_pipeline.proofs.Paced.{paced_first}
use Rattle.i9_machine.proofs.Starting.{first_far}
use Rattle.i9_machine.proofs.machine.Machine.new.Goals as goal

pub returns-clause-stands : goal.returns-clause-stands
returns-clause-stands c = λ plan is_plan.
    let g = given (pairs_of c.args.image.now) plan c.args.length c.args.sets in
    let booted = c.in_ok-processor.ensures in
    let fresh = c.new-2.ensures in
    let turn : c.new-2.result.turn ≡ 1 = fresh.turn in
    let later : 1 ≤ (ahead g []).turn = ahead_later g [] in
    record {
      past = tt;
      flow = flow_first g c.in_ok-processor.processor c.new-2.result fresh booted.state booted.size booted.cache
          booted.cells booted.bytes booted.queue;
      in_time = omega (arith, turn, later);
      early = omega arith;
      paced = paced_first (flow_of c.new-2.result) _ fresh.board turn fresh.floor
          (first_far g is_plan c.requires.length);
      due = refl;
      length = refl;
      sets = refl;
      ended = refl;
      over = tt;
    }

pub invariant_of-result : goal.invariant_of-result
invariant_of-result c =
    let count : (state_of c.in_ok-processor.processor).count ≡ 0 = c.in_ok-processor.ensures.count in
    record {
      short = c.requires.length;
      below = subst (λ (p : Processor). (state_of p).count ≤ c.args.length) (sym c.new-2.ensures.processor)
          (omega (arith, count));
      few = c.requires.sets;
    }
