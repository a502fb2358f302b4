use Rattle.std.proofs.Common.{◌∙◌}
use Rattle.i9_pipeline.specs.Flow.{flow_of}
use Rattle.i9_pipeline.proofs.Landed.{flushed_raw}
use Rattle.i9_pipeline.proofs.Shown.{byte_shown}
use Rattle.i9_machine.proofs.machine.Machine.raw_byte.Goals as goal

pub returns-clause-raw : goal.returns-clause-raw
returns-clause-raw c = λ g h end stands.
    c.raw_byte.ensures ∙ byte_shown g h (flow_of c.args.self.now.pipeline) stands.flow c.args.a

pub returns-clause-flushed : goal.returns-clause-flushed
returns-clause-flushed c = λ g h end stands flushed.
    c.raw_byte.ensures ∙ byte_shown g h (flow_of c.args.self.now.pipeline) stands.flow c.args.a
    ∙ flushed_raw g h c.args.self.now.pipeline.turn c.args.a stands.past flushed.done flushed.live flushed.hard
