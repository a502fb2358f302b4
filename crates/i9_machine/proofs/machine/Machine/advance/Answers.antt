use Rattle.std.specs.Prelude.{◌-◌, vec_capacity, vec_len}
use Rattle.std.proofs.Common.{◌≡◌, ◌<◌, max, inl, sym, ◌∙◌, subst, arith}
use Rattle.i9_course.specs.Course.{ahead, comes_next}
use Rattle.i9_machine.specs.declared.line.Turn.{Turn}
use Rattle.i9_machine.specs.declared.machine.Machine.{Machine}
use Rattle.i9_machine.specs.Contents.{contents_of}
use Rattle.i9_machine.specs.NewPages.{AddsNextOnly}
use Rattle.i9_machine.specs.StandsFor.{Advances}
use Rattle.i9_machine.specs.Step.{LeavesFewer, steps_left}
use Rattle.i9_machine.specs.Progress.{progress}
use Rattle.i9_machine.proofs.Arriving.{here_arrived, moved_fewer}
use Rattle.i9_machine.proofs.Simulation.{came_comes, comes_advances, next_room}
use Rattle.i9_machine.proofs.NewPages.{none_next, run_only}
use Rattle.i9_machine.proofs.Turning.{moved, has_pace}
use Rattle.i9_machine.proofs.machine.Machine.advance.Goals as goal

pub returns-in-None-clause-next : goal.returns-in-None-clause-next
returns-in-None-clause-next c = λ g h stands follows.
    let m = c.args.self.now in
    inl (moved g h m c.move_on.new.self c.args.plan.now c.args.out.now.items m.wait stands follows c.if-self.true
    stands.early c.move_on.ensures.moved)

pub returns-in-None-clause-fewer : goal.returns-in-None-clause-fewer
returns-in-None-clause-fewer c =
    let m = c.args.self.now in
    moved_fewer m c.move_on.new.self c.args.plan.now m.wait
    (has_pace m c.args.plan.now (c.requires.stands c.in-None.is)) c.move_on.ensures.moved

pub come-requires-clause-arrived : goal.come-requires-clause-arrived
come-requires-clause-arrived c =
    let m = c.args.self.now in
    let mid = c.look-turn.new.self in
    let t = c.look-turn.result.0 in
    let u = c.requires.stands c.in-None-2.is in
    let arrives = c.look-turn.ensures.arrives u.given u.items u.stands u.follows in
    let turn : (ahead u.given u.items).turn ≡ max m.pipeline.turn t = arrives.turn in
    let same : mid.pipeline.turn ≡ m.pipeline.turn = λ i. (c.look-turn.ensures.like i).pipeline.turn in
    here_arrived u.given u.items (contents_of m) (contents_of mid) t c.args.plan.now c.look-turn.result.1 arrives
    (rw c.look-turn.ensures.like u.stands) u.follows (omega (arith, turn, same, c.if-self-turn.false))

pub returns-then-self-turn-clause-next : goal.returns-then-self-turn-clause-next
returns-then-self-turn-clause-next c = λ g h stands follows.
    let m = c.args.self.now in
    let mid = c.look-turn.new.self in
    let t = c.look-turn.result.0 in
    let turn : (ahead g h).turn ≡ max m.pipeline.turn t = (c.look-turn.ensures.arrives g h stands follows).turn in
    let same : mid.pipeline.turn ≡ m.pipeline.turn = λ i. (c.look-turn.ensures.like i).pipeline.turn in
    let later : mid.pipeline.turn < t = c.if-self-turn.true in
    subst (λ (x : Turn). Advances g h x (progress m c.args.plan.now c.args.out.now.items)
    (progress c.wait_until.new.self c.args.plan.now c.args.out.now.items)) (sym c.wait_until.ensures.answer)
    (inl (moved g h m c.wait_until.new.self c.args.plan.now c.args.out.now.items t stands follows
    (omega (arith, same, later)) (omega (arith, turn))
    (rw c.look-turn.ensures.like at c.wait_until.ensures.moved)))

pub returns-then-self-turn-clause-fewer : goal.returns-then-self-turn-clause-fewer
returns-then-self-turn-clause-fewer c =
    let m = c.args.self.now in
    let plan = c.args.plan.now in
    let t = c.look-turn.result.0 in
    subst (λ (x : Turn). LeavesFewer x (steps_left m plan) (steps_left c.wait_until.new.self plan))
    (sym c.wait_until.ensures.answer)
    (moved_fewer m c.wait_until.new.self plan t (has_pace m plan (c.requires.stands c.in-None-2.is))
    (rw c.look-turn.ensures.like at c.wait_until.ensures.moved))

pub returns-in-None-clause-only : goal.returns-in-None-clause-only
returns-in-None-clause-only c = λ g h stands follows.
    none_next c.args.self.now.pipeline.processor c.move_on.new.self.pipeline.processor (comes_next g h)
    c.move_on.ensures.no_more

pub returns-then-self-turn-clause-only : goal.returns-then-self-turn-clause-only
returns-then-self-turn-clause-only c = λ g h stands follows.
    let new = c.wait_until.new.self.pipeline.processor in
    subst (λ (x : Machine). AddsNextOnly x.pipeline.processor new (comes_next g h)) c.look-turn.ensures.like
    (none_next c.look-turn.new.self.pipeline.processor new (comes_next g h) c.wait_until.ensures.no_more)

pub returns-else-self-turn : goal.returns-else-self-turn
returns-else-self-turn c =
    let m = c.args.self.now in
    let plan = c.args.plan.now in
    let out = c.args.out.now in
    let new = c.come.new in
    let like = c.look-turn.ensures.like in
    let costs = rw like at c.come.ensures.costs in
    record {
      next = λ g h stands follows.
          let arrives = c.look-turn.ensures.arrives g h stands follows in
          let turn : (ahead g h).turn ≡ max m.pipeline.turn c.look-turn.result.0 = arrives.turn in
          let same : c.look-turn.new.self.pipeline.turn ≡ m.pipeline.turn = λ i. (like i).pipeline.turn in
          comes_advances g h c.come.result _ _
          (came_comes g h (progress m plan out.items) (progress new.self new.plan new.out.items) _ _ stands follows
          (omega (arith, turn, same, c.if-self-turn.false)) c.look-turn.result.1 c.come.result arrives.imprecise
          (rw like at c.come.ensures.came));
      again = λ g h f stands. absurd (cc (sym c.in-None-2.is ∙ stands.ended));
      lacking = λ g h stands follows is room. costs.lacking is
          (next_room g h (contents_of m) plan m.pipeline.processor (vec_capacity out - vec_len out) stands follows room);
      still_lacking = λ g h stands follows is room. costs.still_lacking is
          (next_room g h (contents_of new.self) new.plan new.self.pipeline.processor
          (vec_capacity new.out - vec_len new.out) stands follows room);
      only = λ g h stands follows.
          run_only g h (contents_of m) plan m.pipeline.processor new.self.pipeline.processor stands follows costs.only;
      fewer = costs.fewer;
    }
