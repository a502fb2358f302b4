use Rattle.std.proofs.Common.{sym, ◌∙◌}
use Rattle.i9_processor.specs.State.{state_of}
use Rattle.i9_processor.proofs.Tracing.{left_keeps, left_restarts}
use Rattle.i9_processor.proofs.processor.Processor.trace_left.Goals as goal

pub returns-in-Keeps : goal.returns-in-Keeps
unfolding state_of
returns-in-Keeps c = sym (left_keeps (state_of c.args.self.now) c.args.e.now c.in-Keeps.is)

pub returns-in-Restarts : goal.returns-in-Restarts
returns-in-Restarts c =
    c.started_trace.ensures c.in-Restarts.first
    ∙ sym (left_restarts (state_of c.args.self.now) c.args.e.now c.in-Restarts.first c.in-Restarts.prcb c.in-Restarts.is c.requires)
