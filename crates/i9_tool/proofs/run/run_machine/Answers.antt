use Rattle.std.proofs.Common.{sym}
use Rattle.i9_course.specs.PipelinedRun.{steps}
use Rattle.i9_lines.proofs.Prints.{prints_behind}
use Rattle.i9_machine.specs.declared.line.Turn.TheVariants as turns
use Rattle.i9_tool.specs.declared.run.Ran.TheVariants as ran
use Rattle.i9_machine.specs.Progress.{progress}
use Rattle.i9_machine.proofs.Turned.{does_under_way}
use Rattle.i9_tool.proofs.Running.{none_done, one_done, in_step, at_the_end}
use Rattle.i9_tool.proofs.run.run_machine.Goals as goal

pub loop-lines-init : goal.loop-lines-init
loop-lines-init g c = record {
  under_way = c.requires.stands;
  traced = λ what stands follows. none_done _ what _ c.args.out.now c.args.m.now c.args.plan.now stands follows;
}

pub proceed-turn-requires : goal.proceed-turn-requires
proceed-turn-requires g c = record { stands = λ none. c.loop-lines.invariant.under_way }

pub returns-in-Write : goal.returns-in-Write
returns-in-Write g c = λ what stands follows.
    let s = c.loop-lines.invariant.traced what stands follows in
    let came = c.proceed-turn.ensures.next what (steps s.done) s.stands s.follows in
    let said = rw c.deref.ensures.value at c.in-Write.ensures in
    in_step _ what _ _ _ _ _ came.mid _ _ _ _ said.passes s ran.Write c.proceed-turn.result tt (rw c.clear.ensures.items at came.comes)
    said.allowed said.prints

pub returns-in-Memory : goal.returns-in-Memory
returns-in-Memory g c = λ what stands follows.
    let s = c.loop-lines.invariant.traced what stands follows in
    let came = c.proceed-turn.ensures.next what (steps s.done) s.stands s.follows in
    let said = rw c.deref.ensures.value at c.in-Memory.ensures in
    in_step _ what _ _ _ _ _ came.mid _ _ _ _ said.passes s ran.Memory c.proceed-turn.result tt (rw c.clear.ensures.items at came.comes)
    said.allowed said.prints

pub returns-in-Memory-turn : goal.returns-in-Memory-turn
returns-in-Memory-turn g c = λ what stands follows.
    let s = c.loop-lines.invariant.traced what stands follows in
    let came = c.proceed-turn.ensures.next what (steps s.done) s.stands s.follows in
    let said = rw c.deref.ensures.value at c.in-Done.ensures in
    in_step _ what _ _ _ _ _ came.mid _ _ _ _ said.passes s ran.Memory c.proceed-turn.result tt (rw c.clear.ensures.items at came.comes)
    said.allowed (prints_behind _ _ _ _ said.prints)

pub returns-in-End : goal.returns-in-End
returns-in-End g c = λ what stands follows.
    let s = c.loop-lines.invariant.traced what stands follows in
    let came = c.proceed-turn.ensures.next what (steps s.done) s.stands s.follows in
    let step = rw (c.clear.ensures.items, c.in-End.is) at came.comes in
    let said = rw (c.deref.ensures.value, c.in-End.is) at c.in-Done.ensures in
    at_the_end _ what _ _ _ _ _ came.mid _ _ _ _ said.passes s (ran.Done c.in-End.end) c.in-End.end step (sym step.answers) said.prints

pub loop-lines-preserved : goal.loop-lines-preserved
loop-lines-preserved g c =
    let under = c.loop-lines.invariant.under_way in
    let came = c.proceed-turn.ensures.next under.given under.items under.stands under.follows in
    record {
      under_way = does_under_way under.given under.items (turns.Issued c.in-Issued.field-0) _
          (progress c.proceed-turn.new.self c.proceed-turn.new.plan c.proceed-turn.new.out.items) (rw c.in-Issued.is at came.comes);
      traced = λ what stands follows.
          let s = c.loop-lines.invariant.traced what stands follows in
          let came = c.proceed-turn.ensures.next what (steps s.done) s.stands s.follows in
          let said = rw (c.deref.ensures.value, c.in-Issued.is) at c.in-Done.ensures in
          one_done _ what _ _ _ _ _ came.mid _ _ _ _ said.passes s (turns.Issued c.in-Issued.field-0)
          (rw (c.clear.ensures.items, c.in-Issued.is) at came.comes) said.allowed said.prints;
    }

pub loop-lines-preserved-in-On : goal.loop-lines-preserved-in-On
loop-lines-preserved-in-On g c =
    let under = c.loop-lines.invariant.under_way in
    let came = c.proceed-turn.ensures.next under.given under.items under.stands under.follows in
    record {
      under_way = does_under_way under.given under.items turns.On _
          (progress c.proceed-turn.new.self c.proceed-turn.new.plan c.proceed-turn.new.out.items) (rw c.in-On.is at came.comes);
      traced = λ what stands follows.
          let s = c.loop-lines.invariant.traced what stands follows in
          let came = c.proceed-turn.ensures.next what (steps s.done) s.stands s.follows in
          let said = rw (c.deref.ensures.value, c.in-On.is) at c.in-Done.ensures in
          one_done _ what _ _ _ _ _ came.mid _ _ _ _ said.passes s turns.On
          (rw (c.clear.ensures.items, c.in-On.is) at came.comes) said.allowed said.prints;
    }
