use Rattle.std.proofs.Common.{None, arith}
use Rattle.i9_model.specs.Tracing.{has_match}
use Rattle.i9_events.proofs.Events.{not_enabled, modes_are, flags_of_modes, counted_small, not_raised, made_is, raised_made, trace_gains, trace_none}
use Rattle.i9_events.proofs.raised.event.Goals as goal

pub returns-then-not-has_bit-clause-trace : goal.returns-then-not-has_bit-clause-trace
returns-then-not-has_bit-clause-trace c = grind (arith, not_enabled)

pub returns-then-counting-eq0-clause-trace : goal.returns-then-counting-eq0-clause-trace
returns-then-counting-eq0-clause-trace c = grind (arith, not_raised, modes_are)

pub returns-then-counting-eq0-clause-none : goal.returns-then-counting-eq0-clause-none
returns-then-counting-eq0-clause-none c =
    trace_none c.args.tc c.args.pc c.args.i.now c.args.s.now c.args.b.now None (returns-then-counting-eq0-clause-trace c)

pub overflow_cast-result : goal.overflow_cast-result
overflow_cast-result c =
    let i = c.args.i.now in
    let s = c.args.s.now in
    let b = c.args.b.now in
    let modes = modes_are c.args.tc c.args.pc i s b c.break_flags-breakpoints.result c.coming_modes.result c.forced_modes.result c.break_flags-breakpoints.ensures c.coming_modes.ensures c.forced_modes.ensures in
    let small = counted_small c.args.tc i.op s (has_match s b) in
    omega (arith, modes, small)

pub returns-clause-trace : goal.returns-clause-trace
returns-clause-trace c = grind (arith, modes_are, flags_of_modes, raised_made, made_is)

pub returns-clause-none : goal.returns-clause-none
returns-clause-none c = trace_none c.args.tc c.args.pc c.args.i.now c.args.s.now c.args.b.now _ (returns-clause-trace c)

pub returns-clause-flags : goal.returns-clause-flags
returns-clause-flags c = trace_gains c.args.tc c.args.pc c.args.i.now c.args.s.now c.args.b.now _ (returns-clause-trace c)
