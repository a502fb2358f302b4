use Rattle.std.specs.Prelude.{◌-◌, vec_capacity, vec_len}
use Rattle.std.proofs.Common.{◌≡◌, ℕ, ◌<◌, ◌≤◌, max, List, Option, None, Some, IfSome, refl, sym, ◌∙◌, subst, arith}
use Rattle.i9_model.specs.Given.{Given}
use Rattle.i9_course.specs.Course.{Item, ahead, comes_next}
use Rattle.i9_machine.specs.Contents.{contents_of}
use Rattle.i9_machine.specs.StandsFor.{ProceedsUntil}
use Rattle.i9_machine.specs.Step.{steps_left}
use Rattle.i9_machine.specs.Progress.{progress}
use Rattle.i9_machine.proofs.Arriving.{come_passed, here_arrived, passed_ended, passed_stands, passed_turn, passed_left, like_left, fewer_from}
use Rattle.i9_machine.proofs.Simulation.{came_comes, next_room, kept_room}
use Rattle.i9_machine.proofs.NewPages.{none_next, next_behind, run_only}
use Rattle.i9_machine.proofs.machine.Machine.proceed_until.Goals as goal
use Rattle.i9_machine.proofs.machine.Machine.proceed_until.Goals.{in_default-via-in-Some+else-until-max, in_default-via-in_default}

-- where no turn is given, nothing is asked
none_below : (g : Given) (h : List Item) (until : Option ℕ) → ((u : ℕ) → until ≡ Some u → ⊥)
    → IfSome until (λ u. (ahead g h).turn < u)
none_below g h None none = tt
none_below g h (Some u) none = absurd (none u refl)

pub come-requires : goal.come-requires
come-requires c =
    let m = c.args.self.now in
    let mid = c.look-turn.new.self in
    let next = c.pass_to-in_default.new.self in
    let passed = c.pass_to-in_default.ensures.passed in
    let u = c.requires.stands in
    let t = c.look-turn.result.0 in
    let like = c.look-turn.ensures.like in
    let at = c.look-turn.ensures.arrives u.given u.items u.stands u.follows in
    let come = come_passed u.given u.items m mid next t _ like at passed u.stands in
    let now = passed_turn t mid next passed in
    record {
      running = passed_ended t mid next passed ∙ (λ i. (like i).ended) ∙ c.requires.running;
      arrived = here_arrived u.given u.items (contents_of m) (contents_of next) t c.args.plan.now _ at come.0 u.follows
          (omega (arith, come.1));
      turn = omega (arith, now);
      ready = rw c.pass_to-in_default.ensures.keeps c.look-turn.ensures.ready;
    }

pub returns-in_default : goal.returns-in_default
returns-in_default c = record {
  next = λ g h stands follows.
      let m = c.args.self.now in
      let mid = c.look-turn.new.self in
      let next = c.pass_to-in_default.new.self in
      let t = c.look-turn.result.0 in
      let like = c.look-turn.ensures.like in
      let plan = c.args.plan.now in
      let out = c.args.out.now in
      let new = c.come.new in
      let at = c.look-turn.ensures.arrives g h stands follows in
      let come = come_passed g h m mid next t _ like at c.pass_to-in_default.ensures.passed stands in
      let turn : (ahead g h).turn ≡ max m.pipeline.turn t = at.turn in
      let same : mid.pipeline.turn ≡ m.pipeline.turn = λ i. (like i).pipeline.turn in
      let below : IfSome c.args.until (λ u. (ahead g h).turn < u) = elim c.in_default.branch [
        | in_default-via-in-Some+else-until-max w ↦
            let late = w.if-until-max.false in
            let at : w.max.result ≡ max t mid.pipeline.turn = w.max.ensures in
            subst (λ (u : Option ℕ). IfSome u (λ u. (ahead g h).turn < u)) (sym w.in-Some.is)
            (omega (arith, late, at, turn, same))
        | in_default-via-in_default w ↦ none_below g h c.args.until w.in_default.not-Some
      ] in (
        below,
        record {
          mid = next;
          now = come.1;
          stands = come.0;
          comes = came_comes g h (progress next plan out.items)
              (progress new.self new.plan new.out.items) _ _ come.0 follows
              (omega (arith, come.1)) c.look-turn.result.1 c.come.result at.imprecise c.come.ensures.came;
          lacking = λ is room.
              let spare = vec_capacity out - vec_len out in
              let keeps = rw like at c.pass_to-in_default.ensures.room in
              c.come.ensures.costs.lacking is (next_room g h (contents_of next) plan next.pipeline.processor spare
              come.0 follows
              (kept_room m.pipeline.processor next.pipeline.processor spare (comes_next g h) keeps room));
        },
      );
  fewer =
      let less = passed_left c.look-turn.result.0 c.look-turn.new.self c.pass_to-in_default.new.self c.args.plan.now
      c.pass_to-in_default.ensures.passed in
      let same = like_left c.args.self.now c.look-turn.new.self c.args.plan.now c.look-turn.ensures.like in
      fewer_from c.come.result _ _ (steps_left c.come.new.self c.come.new.plan)
      (omega (arith, less, same)) c.come.ensures.costs.fewer;
  only = λ g h stands follows.
      let m = c.args.self.now in
      let next = c.pass_to-in_default.new.self in
      let like = c.look-turn.ensures.like in
      let at = c.look-turn.ensures.arrives g h stands follows in
      let come = come_passed g h m _ next c.look-turn.result.0 _ like at c.pass_to-in_default.ensures.passed stands in
      next_behind m.pipeline.processor next.pipeline.processor c.come.new.self.pipeline.processor (comes_next g h)
      (rw like at c.pass_to-in_default.ensures.no_more)
      (run_only g h (contents_of next) c.args.plan.now next.pipeline.processor _ come.0 follows c.come.ensures.costs.only);
}

pub returns-in-Some : goal.returns-in-Some
returns-in-Some c =
    let m = c.args.self.now in
    let mid = c.look-turn.new.self in
    let next = c.pass_to.new.self in
    let u = c.in-Some.until in
    let like = c.look-turn.ensures.like in
    let same : mid.pipeline.turn ≡ m.pipeline.turn = λ i. (like i).pipeline.turn in
    let low : u ≤ c.max.result = c.if-until-max.true in
    let at : c.max.result ≡ max c.look-turn.result.0 mid.pipeline.turn = c.max.ensures in
    let now : next.pipeline.turn ≡ max mid.pipeline.turn u = passed_turn u mid next c.pass_to.ensures.passed in
    record {
      next = λ g h stands follows.
          let turn : (ahead g h).turn ≡ max m.pipeline.turn c.look-turn.result.0 =
          (c.look-turn.ensures.arrives g h stands follows).turn in
          let later : u ≤ (ahead g h).turn = omega (arith, turn, same, low, at) in
          subst (λ (x : Option ℕ). ProceedsUntil g h x None (vec_capacity c.args.out.now - vec_len c.args.out.now)
          (progress m c.args.plan.now c.args.out.now.items) (progress next c.args.plan.now c.args.out.now.items))
          (sym c.in-Some.is)
          (record {
            later = later;
            turn = omega (arith, same, now);
            stands = passed_stands g h u mid next c.pass_to.ensures.passed later (rw like stands);
            follows = follows;
            lines = refl;
          });
      only = λ g h stands follows.
          none_next m.pipeline.processor next.pipeline.processor (comes_next g h)
          (rw like at c.pass_to.ensures.no_more);
      fewer = tt;
    }
