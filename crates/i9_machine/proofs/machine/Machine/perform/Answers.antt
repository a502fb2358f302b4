use Rattle.std.proofs.Common.{rules, ◌≡◌, ℕ, ◌+◌, ◌≤◌, List, ◌++◌, map, sym, ap, ◌∙◌, subst, subst₂, arith}
use Rattle.i9_model.specs.declared.need.Need.{Need}
use Rattle.i9_model.specs.declared.layout.TheConstants.{MAX_LENGTH}
use Rattle.i9_model.specs.HeldFrames.{Cache, AreWhole, renewed, cache_acted, cache_configured}
use Rattle.i9_model.specs.PrintedText.{Shown}
use Rattle.i9_model.specs.State.{State}
use Rattle.i9_model.specs.Step.{Action, moved}
use Rattle.i9_model.specs.Run.{record_of}
use Rattle.i9_model.specs.Alike.{AreAlike}
use Rattle.i9_model.specs.Free.{IsFree}
use Rattle.i9_course.specs.Course.{records_of}
use Rattle.i9_agree.proofs.HeldRuns.{next_free, cached-after}
use Rattle.i9_course.proofs.Orderly.{course_events}
use Rattle.i9_processor.specs.Effect.{AreMade, CanControl}
use Rattle.i9_processor.specs.Pages.{AddsActionOnly}
use Rattle.i9_processor.proofs.NewSets.{made_size, made_takes}
use Rattle.i9_schedule.specs.Plan.{Plan}
use Rattle.i9_machine.specs.declared.line.Turn.{Turn}
use Rattle.i9_machine.specs.declared.line.Turn.TheVariants as turns
use Rattle.i9_machine.specs.declared.machine.Machine.{Machine}
use Rattle.i9_machine.specs.declared.step.Step.{Step}
use Rattle.i9_machine.specs.Contents.{situation, Contents, contents_of}
use Rattle.i9_machine.specs.Line.{shown_of}
use Rattle.i9_machine.specs.StandsFor.{HasCome, left_after}
use Rattle.i9_pipeline.specs.Issuing.{IsIssued, state_behind}
use Rattle.i9_pipeline.specs.Flow.{flow_of}
use Rattle.i9_machine.specs.NewPages.{AddsNextOnly}
use Rattle.i9_machine.specs.Doing.{action_for, lines_of, asks_room, HasRoomForStep}
use Rattle.i9_machine.specs.Step.{TellsRecord, LeavesFewer, IsStep, Did, Steps, stage, left_from, left_of, event_for, next_for}
use Rattle.i9_machine.proofs.Arriving.{kept_planned, same_planned}
use Rattle.i9_machine.proofs.NewPages.{none_then}
use Rattle.i9_machine.proofs.Issuing.{step_covers, step_acts}
use Rattle.i9_machine.proofs.Stepping.{no_memory, did_steps, step_after, step_lines, step_needs, fewer_by, did_fewer, did_within, step_within, step_room, plan_is_behind}
use Rattle.i9_pipeline.proofs.Paced.{paced_early}
use Rattle.i9_machine.proofs.Turning.{waiting_cost}
use Rattle.i9_machine.proofs.machine.Machine.perform.Goals as goal

pub go_on-requires : goal.go_on-requires
go_on-requires c = λ reaches.
    let step = c.requires.step.is in
    step_within (situation c.args.self.now) c.args.plan.now step.kind step.is_next (sym step.reaches ∙ reaches)

pub act-answer-requires : goal.act-answer-requires
act-answer-requires c =
    let m = c.args.self.now in
    let mid = c.make_room.new.self in
    let plan = c.args.plan.now in
    let room = c.make_room.ensures in
    let come = c.requires.come in
    let at = situation mid in
    let first = kept_planned (situation m) plan c.args.step.now m c.requires.step in
    let kept = same_planned m mid plan c.args.step.now room.same room.effect room.need c.requires.step in
    let step = kept.is in
    let free = subst (IsFree at.state) (sym step.effect.same)
    (next_free at.length at.due (event_for at plan) at.state (record_of step.kind at.state) step.is_next).1 in
    let below : at.state.count + c.args.step.now.counts ≤ at.length =
    subst (λ (n : ℕ). at.state.count + n ≤ at.length) (sym step.counts)
    (did_within at plan step.kind mid.below step.is_next) in
    let short : at.length ≤ MAX_LENGTH = mid.short in
    let a = action_for mid mid.effect in
    let board : mid.pipeline.board ≡ m.pipeline.board = λ i. (room.same i).pipeline.board in
    record {
      light = search rules;
      cost = rw (room.need ∙ first.fenced) (waiting_cost m.pipeline.floor first.need first.some);
      turns = search rules;
      early = rw (board, room.need ∙ first.fenced)
          (paced_early (flow_of m.pipeline) (left_after come.given (records_of come.items)) first.need
          come.stands.paced first.none first.cost);
      issue = search rules;
      ready = record {
        registers = step.effect.registers;
        posts = step.effect.posts;
        changes = step.effect.changes;
        moves = step.effect.moves;
        free = free;
        controls = subst (λ (x : Action). CanControl (moved at.state x) mid.effect.control) (sym step.effect.same)
            step.effect.controls;
        below = omega (arith, below, short);
      };
      below = below;
      space = search rules;
      made = made_takes mid.sets at.state.memory mid.effect.control c.in-Ok.sets a.move a.writes
          (subst (λ (k : Contents). AreMade k.sets k.pipeline.state.memory mid.effect.control c.in-Ok.sets)
          (sym room.same) c.in-Ok.ensures.made) free.controls;
      covered = rw kept.fenced (step_covers at plan c.args.step.now kept.need mid.effect step);
      acts = step_acts mid plan c.args.step.now kept.need mid.effect kept.fenced
          (subst (λ (k : Contents). HasCome k plan) (sym room.same) come) step;
      lines = search rules;
      ranges = search rules;
      whole =
          let cached = cached-after come.given (records_of come.items)
          (course_events come.given come.items come.stands.past) in
          subst (λ (d : Cache). AreWhole d.held) (sym ((λ i. (room.same i).pipeline.cache) ∙ come.stands.flow.cache))
          cached.youngest.whole;
    }

-- what was made room for is what comes next
made_only : (m new : Machine) (plan : Plan) (step : Step) (need : Need) → IsStep (situation m) plan step need m.effect
    → AddsActionOnly m.pipeline.processor new.pipeline.processor (action_for m m.effect)
    → AddsNextOnly m.pipeline.processor new.pipeline.processor (next_for (situation m) plan)
made_only m new plan step need is only =
    subst (AddsNextOnly m.pipeline.processor new.pipeline.processor) (sym is.is_next)
    (subst (AddsActionOnly m.pipeline.processor new.pipeline.processor) is.effect.same only)

pub returns-in-Ok : goal.returns-in-Ok
returns-in-Ok c =
    let old = c.args.self.now in
    let mid = c.make_room.new.self in
    let new = c.act-answer.new.self in
    let was = c.args.plan.now in
    let step = c.args.step.now in
    let room = c.make_room.ensures in
    let act = c.act-answer.ensures in
    let kept = same_planned old mid was step room.same room.effect room.need c.requires.step in
    let is = kept.is in
    let at = situation mid in
    let e = mid.effect in
    let lines = c.args.out.now.items in
    let before = record (stage old was c.args.out.now) { contents = contents_of mid } in
    let after = stage new c.go_on.new.plan c.act-answer.new.out in
    let made = subst (λ (k : Contents). AreMade k.sets k.pipeline.state.memory e.control c.in-Ok.sets)
    (sym room.same) c.in-Ok.ensures.made in
    let done : Did before step.answer after = record {
      done = record_of is.kind at.state;
      is_next = is.is_next;
      need = kept.need;
      is_need = is.is_need;
      issued = subst (λ (a : Action). IsIssued (flow_of mid.pipeline) kept.need a (flow_of new.pipeline)) is.effect.same
          (act.issued kept.need kept.fenced);
      rest = act.rest;
      state = subst (λ (t : State). AreAlike t (situation new).state) (step_after at was step kept.need e is) act.state;
      cache = act.cache ∙ ap
          (λ (a : Action). cache_configured (situation new).state.memory (cache_acted at.size a at.cache))
          is.effect.same;
      size =
          act.size
          ∙ made_size mid.sets at.state.memory e.control c.in-Ok.sets at.size made
          ∙ ap (λ (a : Action). renewed mid.sets at.state.memory a.control at.size) is.effect.same;
      due = act.due ∙ is.due;
      behind = c.go_on.ensures ∙ plan_is_behind at was step kept.need e is;
      lines =
          act.lines
          ∙ (λ i. map shown_of (room.items i) ++ lines_of e step (c.next_event-event.ensures.event i) at.state
          (state_behind at.state e step.counts))
          ∙ ap (λ (ls : List Shown). map shown_of lines ++ ls) (step_lines at was step kept.need e is);
      tells = is.tells;
    } in
    let told = λ (refused : c.act-answer.result ≡ turns.Memory).
    no_memory is.kind at.state (subst (TellsRecord is.kind at.state) (sym act.answer ∙ refused) is.tells) in
    record {
      steps = subst₂ (λ (k : Contents) (t : Turn). Steps (record (stage old was c.args.out.now) { contents = k }) t after)
          room.same (sym act.answer) (did_steps _ step.answer after at.state is.kind is.tells done);
      costs = record {
        lacking = λ refused. absurd (told refused);
        still_lacking = λ refused. absurd (told refused);
        only = made_only old new was step c.requires.step.need c.requires.step.is
            (none_then old.pipeline.processor mid.pipeline.processor new.pipeline.processor (action_for old old.effect)
            room.only act.no_more);
        fewer = subst₂ (λ (k : Contents) (t : Turn). LeavesFewer t (left_from k was) (left_of after)) room.same
            (sym act.answer)
            (fewer_by step.answer at.state is.kind (left_of before) (left_of after) is.tells
            (did_fewer before step.answer after mid.below done));
      };
    }

pub returns-in-Err : goal.returns-in-Err
returns-in-Err c =
    let old = c.args.self.now in
    let new = c.make_room.new.self in
    let plan = c.args.plan.now in
    let step = c.args.step.now in
    let made = c.make_room.ensures in
    let is = c.requires.step in
    let still = same_planned old new plan step made.same made.effect made.need is in
    let event = sym c.next_event-event.ensures.event in
    let was = stage old plan c.args.out.now in
    let now = stage new plan c.make_room.new.out in
    record {
      steps = record {
        same = (λ i. record now { contents = made.same i; lines = made.items i });
        needed = step_needs (situation old) plan step is.need old.effect is.is
            (ap (asks_room (situation old).state old.effect step) event ∙ c.in-Err.ensures.needed);
      };
      costs = record {
        lacking = λ refused room. c.in-Err.ensures.lacking
            (subst (HasRoomForStep was.processor was.spare old.effect step) event
            (step_room (situation old) plan step is.need old.effect is.is was.processor was.spare room));
        still_lacking = λ refused room. c.in-Err.ensures.still_lacking
            (subst (HasRoomForStep now.processor now.spare new.effect step) event
            (step_room (situation new) plan step still.need new.effect still.is now.processor now.spare room));
        only = made_only old new plan step is.need is.is made.only;
        fewer = tt;
      };
    }
