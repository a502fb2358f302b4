use Rattle.std.proofs.Common.{◌∙◌}
use Rattle.i9_model.specs.Run.{state_after}
use Rattle.i9_agree.proofs.AlikeSteps.{overlay_alike}
use Rattle.i9_processor.specs.State.{state_of}
use Rattle.i9_course.specs.Course.{records_of}
use Rattle.i9_machine.proofs.machine.Machine.byte.Goals as goal

pub returns : goal.returns
returns c =
    λ g h end stands. c.overlay.ensures ∙ overlay_alike (state_after g (records_of h))
    (state_of c.args.self.now.pipeline.processor) c.args.a stands.flow.state
