use Rattle.std.proofs.Common.{sym, ◌∙◌}
use Rattle.i9_processor.specs.State.{state_of}
use Rattle.i9_plan.proofs.TraceEffects.{runs_clear, untraced_effect}
use Rattle.i9_plan.proofs.tracing.follow.Goals as goal

pub trace-requires-clause-clear : goal.trace-requires-clause-clear
trace-requires-clause-clear c =
    let i = c.args.i.now in
    let s = state_of c.args.p.now in
    runs_clear i s c.requires.runs

pub returns-else-is_traced-clause-effect : goal.returns-else-is_traced-clause-effect
returns-else-is_traced-clause-effect c =
    let i = c.args.i.now in
    let s = state_of c.args.p.now in
    untraced_effect s i c.args.effect.now (sym c.is_traced.ensures ∙ c.if-is_traced.false) c.requires.effect
