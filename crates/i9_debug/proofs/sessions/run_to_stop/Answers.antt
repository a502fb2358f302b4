use Rattle.i9_machine.specs.Turned.{steps_on}
use Rattle.i9_lines.specs.declared.print.Printed.TheVariants.{Write, Memory}
use Rattle.i9_lines.proofs.Prints.{prints_behind}
use Rattle.i9_debug.specs.Driven.{never_stops}
use Rattle.i9_debug.proofs.Stepwise.{none_yet, under_way, at_end}
use Rattle.i9_debug.proofs.Stops.{on_seeks, issued_seeks, issued_holds, seek_stopped}
use Rattle.i9_debug.proofs.sessions.run_to_stop.Goals as goal

pub loop-lines-init : goal.loop-lines-init
loop-lines-init g c = λ what h stands follows. none_yet _ what h _ _ _ _ tt stands follows

pub proceed-turn-requires : goal.proceed-turn-requires
proceed-turn-requires g c =
    let w = c.requires.stands in
    record { stands = λ none. under_way _ w.given w.items _ _ _ _ _ (c.loop-lines.invariant w.given w.items w.stands w.follows) }

pub returns-in-Write : goal.returns-in-Write
returns-in-Write g c = λ what h stands follows.
    let s = c.loop-lines.invariant what h stands follows in
    let came = c.proceed-turn.ensures.next what (steps_on s.done h) s.stands s.follows in
    seek_stopped _ what h (g.F.ViewTest.allows c.args.s.now) _ _ _ _ came.mid _ _ _ _ s Write _ tt (rw c.clear.ensures.items at came.comes)
    (rw c.deref.ensures.value at c.in-Write.ensures)

pub returns-in-Memory : goal.returns-in-Memory
returns-in-Memory g c = λ what h stands follows.
    let s = c.loop-lines.invariant what h stands follows in
    let came = c.proceed-turn.ensures.next what (steps_on s.done h) s.stands s.follows in
    seek_stopped _ what h (g.F.ViewTest.allows c.args.s.now) _ _ _ _ came.mid _ _ _ _ s Memory _ tt (rw c.clear.ensures.items at came.comes)
    (rw c.deref.ensures.value at c.in-Memory.ensures)

pub returns-in-Memory-turn : goal.returns-in-Memory-turn
returns-in-Memory-turn g c = λ what h stands follows.
    let s = c.loop-lines.invariant what h stands follows in
    let came = c.proceed-turn.ensures.next what (steps_on s.done h) s.stands s.follows in
    seek_stopped _ what h (g.F.ViewTest.allows c.args.s.now) _ _ _ _ came.mid _ _ _ _ s Memory _ tt (rw c.clear.ensures.items at came.comes)
    (prints_behind _ _ _ _ (rw c.deref.ensures.value at c.in-Done.ensures))

pub returns-in-End : goal.returns-in-End
returns-in-End g c = λ what h stands follows.
    let s = c.loop-lines.invariant what h stands follows in
    let came = c.proceed-turn.ensures.next what (steps_on s.done h) s.stands s.follows in
    at_end _ what h _ _ _ _ _ came.mid _ _ _ _ s _ c.in-End.field-0 (rw (c.clear.ensures.items, c.in-End.is) at came.comes)
    (λ f e. never_stops s.done f e s.kept) (rw c.deref.ensures.value at c.in-Done.ensures)

pub returns-then-holds : goal.returns-then-holds
returns-then-holds g c = λ what h stands follows.
    let s = c.loop-lines.invariant what h stands follows in
    let came = c.proceed-turn.ensures.next what (steps_on s.done h) s.stands s.follows in
    issued_holds _ what h (g.F.ViewTest.allows c.args.s.now) _ _ _ _ came.mid _ _ _ _ s _ c.view.result (rw (c.clear.ensures.items, c.in-Issued.is) at came.comes)
    (rw c.deref.ensures.value at c.in-Done.ensures) (λ items end s. c.view.ensures.shown what items end s) c.if-holds.ensures

pub loop-lines-preserved : goal.loop-lines-preserved
loop-lines-preserved g c = λ what h stands follows.
    let s = c.loop-lines.invariant what h stands follows in
    let came = c.proceed-turn.ensures.next what (steps_on s.done h) s.stands s.follows in
    issued_seeks _ what h (g.F.ViewTest.allows c.args.s.now) _ _ _ _ came.mid _ _ _ _ s _ c.view.result (rw (c.clear.ensures.items, c.in-Issued.is) at came.comes)
    (rw c.deref.ensures.value at c.in-Done.ensures) (λ items end s. c.view.ensures.shown what items end s) c.if-holds.ensures

pub loop-lines-preserved-in-On : goal.loop-lines-preserved-in-On
loop-lines-preserved-in-On g c = λ what h stands follows.
    let s = c.loop-lines.invariant what h stands follows in
    let came = c.proceed-turn.ensures.next what (steps_on s.done h) s.stands s.follows in
    on_seeks _ what h (g.F.ViewTest.allows c.args.s.now) _ _ _ _ came.mid _ _ _ _ s (rw (c.clear.ensures.items, c.in-On.is) at came.comes)
    (rw c.deref.ensures.value at c.in-Done.ensures)
