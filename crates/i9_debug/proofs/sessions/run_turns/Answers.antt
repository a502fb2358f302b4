use Rattle.std.proofs.Common.{arith}
use Rattle.i9_machine.specs.declared.line.Turn.TheVariants as answers
use Rattle.i9_machine.specs.Turned.{steps_on}
use Rattle.i9_lines.specs.declared.print.Printed.TheVariants.{Write, Memory}
use Rattle.i9_lines.proofs.Prints.{prints_behind}
use Rattle.i9_debug.specs.Session.{turns_end}
use Rattle.i9_debug.proofs.Stepwise.{none_yet, under_way, one_more, at_end}
use Rattle.i9_debug.proofs.Turns.{turned_whole, still_low, turn_stopped}
use Rattle.i9_debug.proofs.sessions.run_turns.Goals as goal

pub overflow_add-until : goal.overflow_add-until
overflow_add-until g c =
    let small = c.at_turn.ensures.small c.args.plan.now c.requires.stands in
    let few = c.requires.few in
    omega (arith, small, few)

pub loop-turn-init : goal.loop-turn-init
loop-turn-init g c = λ what h stands follows.
    let some = c.requires.some in
    none_yet _ what h _ _ _ _ (omega (arith, some)) stands follows

pub proceed_below-requires : goal.proceed_below-requires
proceed_below-requires g c =
    let w = c.requires.stands in
    record { stands = λ none. under_way _ w.given w.items _ _ _ _ _ (c.loop-turn.invariant w.given w.items w.stands w.follows) }

pub returns-in_default : goal.returns-in_default
returns-in_default g c = λ what h stands follows.
    let s = c.loop-turn.invariant what h stands follows in
    let came = c.proceed_below.ensures.next what (steps_on s.done h) s.stands s.follows in
    turned_whole _ what h _ _ _ _ _ _ _ _ s (rw (c.clear.ensures.items, c.at_turn.ensures.value, c.in_default.is) at came)

pub returns-in-Write : goal.returns-in-Write
returns-in-Write g c = λ what h stands follows.
    let s = c.loop-turn.invariant what h stands follows in
    let came = c.proceed_below.ensures.next what (steps_on s.done h) s.stands s.follows in
    turn_stopped _ what h _ _ _ _ _ _ _ _ _ s _ _ (rw (c.clear.ensures.items, c.at_turn.ensures.value, c.in-Some.is) at came)
    Write tt (rw c.deref.ensures.value at c.in-Write.ensures)

pub returns-in-Memory : goal.returns-in-Memory
returns-in-Memory g c = λ what h stands follows.
    let s = c.loop-turn.invariant what h stands follows in
    let came = c.proceed_below.ensures.next what (steps_on s.done h) s.stands s.follows in
    turn_stopped _ what h _ _ _ _ _ _ _ _ _ s _ _ (rw (c.clear.ensures.items, c.at_turn.ensures.value, c.in-Some.is) at came)
    Memory tt (rw c.deref.ensures.value at c.in-Memory.ensures)

pub returns-in-Memory-turn : goal.returns-in-Memory-turn
returns-in-Memory-turn g c = λ what h stands follows.
    let s = c.loop-turn.invariant what h stands follows in
    let came = c.proceed_below.ensures.next what (steps_on s.done h) s.stands s.follows in
    turn_stopped _ what h _ _ _ _ _ _ _ _ _ s _ _ (rw (c.clear.ensures.items, c.at_turn.ensures.value, c.in-Some.is) at came)
    Memory tt (prints_behind _ _ _ _ (rw c.deref.ensures.value at c.in-Done.ensures))

pub returns-in-End : goal.returns-in-End
returns-in-End g c = λ what h stands follows.
    let s = c.loop-turn.invariant what h stands follows in
    let next = c.proceed_below.ensures.next what (steps_on s.done h) s.stands s.follows in
    let came = rw (c.clear.ensures.items, c.at_turn.ensures.value, c.in-Some.is, c.in-End.is) at next in
    at_end _ what h _ _ _ _ _ came.1.mid _ _ _ _ s _ c.in-End.field-0 came.1.comes (λ f e. turns_end s.done f e came.0)
    (rw c.deref.ensures.value at c.in-Done.ensures)

pub loop-turn-preserved-in-On : goal.loop-turn-preserved-in-On
loop-turn-preserved-in-On g c = λ what h stands follows.
    let s = c.loop-turn.invariant what h stands follows in
    let next = c.proceed_below.ensures.next what (steps_on s.done h) s.stands s.follows in
    let came = rw (c.clear.ensures.items, c.at_turn.ensures.value, c.in-Some.is, c.in-On.is) at next in
    one_more _ what h _ _ _ _ _ came.1.mid _ _ _ _ s answers.On came.1.comes (still_low _ what h _ _ _ c.loop-turn.out _ _ _ _ _ s _ _ came)
    (rw c.deref.ensures.value at c.in-Done.ensures)

pub loop-turn-preserved : goal.loop-turn-preserved
loop-turn-preserved g c = λ what h stands follows.
    let s = c.loop-turn.invariant what h stands follows in
    let next = c.proceed_below.ensures.next what (steps_on s.done h) s.stands s.follows in
    let came = rw (c.clear.ensures.items, c.at_turn.ensures.value, c.in-Some.is, c.in-Issued.is) at next in
    one_more _ what h _ _ _ _ _ came.1.mid _ _ _ _ s _ came.1.comes (still_low _ what h _ _ _ c.loop-turn.out _ _ _ _ _ s _ _ came)
    (rw c.deref.ensures.value at c.in-Done.ensures)
