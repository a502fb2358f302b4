-- A step of a machine is the next record, or the end, of what the machine stands for.
use Rattle.std.proofs.Common.{◌≡◌, ℕ, ◌+◌, ◌≤◌, ◌||◌, nat_lt, List, ◌∷◌, ◌++◌, Option, Some, None, length, length-append, map, true, sym, ap, ◌∙◌, subst, inr, arith, refl}
use Rattle.i9_schedule.specs.Plan.{Plan}
use Rattle.i9_model.specs.declared.event.Event.{Event}
use Rattle.i9_model.specs.declared.run.End.{End}
use Rattle.i9_model.specs.State.{State}
use Rattle.i9_model.specs.Step.{Action}
use Rattle.i9_model.specs.Run.{Given, Kind, Instruction, Faulted, Entered, Interrupted, Reached, Record, Next, Does, Ends, action_by_kind, action_done, reached_by, reached_after, due_after, state_after, Finish, finish, reached_last}
use Rattle.i9_model.specs.PrintedText.{Shown, record_lines, journal_lines}
use Rattle.i9_model.specs.Alike.{AreRecordsAlike, AreNextAlike, AreAlike, told}
use Rattle.i9_model.specs.HeldFrames.{renewed, sets_in, cache_acted, cache_configured, cache_after}
use Rattle.i9_agree.proofs.AlikeSteps.{does_alike, ends_alike, done_alike, due_alike, reached_alike, lines_alike, alike_trans, end_alike}
use Rattle.i9_agree.proofs.HeldRuns.{IsFreeRecord, next_free, configured_by, sets_after}
use Rattle.i9_processor.specs.declared.processor.Processor.{Processor}
use Rattle.i9_processor.specs.Effect.{HasRoomFor, KeepsRoom, has_writes, is_restart}
use Rattle.i9_machine.specs.declared.line.Turn.{Turn}
use Rattle.i9_machine.specs.declared.line.Turn.TheVariants as turns
use Rattle.i9_machine.specs.declared.step.Coming.{Coming}
use Rattle.i9_machine.specs.declared.step.Coming.TheVariants.{Overtaking}
use Rattle.i9_machine.specs.Coming.{Overtakes, Came, overtaken_by}
use Rattle.i9_machine.specs.Contents.{situation_in, Contents}
use Rattle.i9_machine.specs.Line.{shown_of}
use Rattle.i9_machine.specs.Progress.{Progress}
use Rattle.i9_machine.specs.Step.{TellsRecord, NeedsRoom, HasRoom, event_for, next_for, plan_behind, Stage, stage_of, next_of, Did, Ended, Refused, Steps, Finished, plan_at_end}
use Rattle.i9_machine.specs.StandsFor.{Stand, StandsFor, Follows, DoesNext, EndsRun, IsRefused, Comes, Advances, left_after, FollowsTo}
use Rattle.i9_course.specs.Course.{Item, Step, records_of, event_ahead, comes_next, ahead}
use Rattle.i9_course.specs.PipelinedRun.{end_ahead, ended_by, finish_by}
use Rattle.i9_pipeline.specs.InRun.{IssuesNext}
use Rattle.i9_pipeline.proofs.InRun.{flow_issued, issue_in_time}
use Rattle.i9_pipeline.proofs.Paced.{paced_issues}
use Rattle.i9_machine.proofs.Overtaking.{beside}
use Rattle.i9_course.proofs.Barriers.{need_unbound}
use Rattle.i9_machine.proofs.Issuing.{same_need, left_less}
use Rattle.i9_model.specs.declared.need.Need.{Need}

-- ---- a record

tells_alike : (k : Kind) (s t : State) (answer : Turn) → AreAlike s t → told k t ≡ told k s → TellsRecord k t answer
    → TellsRecord k s answer
tells_alike (Instruction i) s t (turns.Issued x) alike words tells = record {
  number = tells.number ∙ ap (λ (u : State). u.count) alike.rest;
  place = tells.place ∙ ap (λ (u : State). u.ip) alike.rest;
  one = tells.one ∙ ap (λ (w : ℕ × ℕ). w.0) words;
  two = tells.two ∙ ap (λ (w : ℕ × ℕ). w.1) words;
}
tells_alike (Faulted inst fault) s t (turns.Issued x) alike words tells = record {
  number = tells.number ∙ ap (λ (u : State). u.count) alike.rest;
  place = tells.place ∙ ap (λ (u : State). u.ip) alike.rest;
  one = tells.one ∙ ap (λ (w : ℕ × ℕ). w.0) words;
  two = tells.two ∙ ap (λ (w : ℕ × ℕ). w.1) words;
}
tells_alike (Entered e) s t turns.On alike words tells = tt
tells_alike (Interrupted c e) s t turns.On alike words tells = tt
tells_alike (Reached e u) s t turns.On alike words tells = tt
tells_alike _ s t _ alike words tells = absurd tells

-- the number of sets after a record
size_next : (g : Given) (h : List Item) (k : Contents) (n : ℕ) (r q : Record) → Stand g h None k → AreRecordsAlike r q
    → IsFreeRecord k.pipeline.state q → n ≡ renewed k.sets k.pipeline.state.memory (action_done q).control
    k.pipeline.size
    → n ≡ sets_in g.sets r.after
size_next g h k n r q stands same free size =
    let t = k.pipeline.state in
    let asked = k.sets in
    let was : k.pipeline.size ≡ sets_in asked t = stands.flow.size ∙ λ i. sets_in (sym stands.sets i)
    (sym stands.flow.state.rest i) in
    size
    ∙ ap (renewed asked t.memory (action_done q).control) was
    ∙ ap (λ (x : Record). renewed asked t.memory (action_by_kind q.kind x.before).control (sets_in asked t)) free.0
    ∙ sym (sets_after asked t (action_by_kind q.kind t) free.1.controls)
    ∙ sym (ap (λ (x : Record). sets_in asked x.after) free.0)
    ∙ λ i. sets_in (stands.sets i) (same.after.rest i)

-- what is held after it, and what is behind
cache_next : (g : Given) (h : List Item) (k j : Contents) (r q : Record) → Stand g h None k → AreRecordsAlike r q
    → IsFreeRecord (state_after g (records_of h)) r → j.pipeline.state.memory.mcon ≡ r.after.memory.mcon
    → j.pipeline.cache ≡ cache_configured j.pipeline.state.memory
    (cache_acted k.pipeline.size (action_done q) k.pipeline.cache)
    → j.pipeline.cache ≡ cache_after g (r ∷ records_of h)
cache_next g h k j r q stands same free regions cache =
    let memory = j.pipeline.state.memory in
    let n = sets_in g.sets r.before in
    let sets : k.pipeline.size ≡ n = stands.flow.size ∙ sym (ap (λ (x : Record). sets_in g.sets x.before) free.0) in
    cache
    ∙ (λ i. cache_configured memory (cache_acted (sets i) (done_alike r q same i) (stands.flow.cache i)))
    ∙ configured_by memory r.after.memory (cache_acted n (action_done r) (cache_after g (records_of h))) regions

-- the schedule behind a record
follows_next : (g : Given) (h : List Item) (was plan : Plan) (r q : Record) → Follows g h was → AreRecordsAlike r q
    → plan ≡ plan_behind was q → Follows g (Step r ∷ h) plan
follows_next g h was plan r q follows same behind = record {
  events = ap (λ (p : Plan). p.events) behind ∙ follows.events;
  place =
      ap (λ (p : Plan). p.place) behind
      ∙ (λ i. follows.place i + length (reached_alike r q same i))
      ∙ sym (length-append (reached_after (records_of h)) (reached_by r.kind r.before));
}

-- the schedule behind an end
follows_end : (g : Given) (h : List Item) (was plan : Plan) (f : Finish) → Follows g h was → plan ≡ plan_at_end was f
    → FollowsTo g h f plan
follows_end g h was plan f follows behind = record {
  events = ap (λ (p : Plan). p.events) behind ∙ follows.events;
  place =
      ap (λ (p : Plan). p.place) behind
      ∙ (λ i. follows.place i + last_long 0 (state_after g (records_of h)).count f.event i)
      ∙ sym (length-append (reached_after (records_of h)) (reached_last (state_after g (records_of h)).count f.event));
}
  where
    last_long : (k n : ℕ) (o : Option Event) → length (reached_last k o) ≡ length (reached_last n o)
    last_long k n None = refl
    last_long k n (Some e) = refl

-- once an end is answered, the turn may pass that of what lay ahead
ended_stands : (g : Given) (h : List Item) (k : Contents) (f : Finish) → end_ahead g h ≡ Some f → Stand g h None k
    → Stand g h (Some f) (record k { ended = Some f.end })
ended_stands g h k f over stands = record {
  past = stands.past;
  flow = stands.flow;
  in_time = tt;
  early = tt;
  paced = stands.paced;
  due = stands.due;
  length = stands.length;
  sets = stands.sets;
  ended = refl;
  over = over;
}

-- ---- room

abbrev needs_by : List Shown → Action → Type 0
needs_by ls a = (nat_lt 0 (length ls) || (has_writes a || is_restart a.control)) ≡ true

needs_alike : (o p : Next) → AreNextAlike o p → NeedsRoom p → NeedsRoom o
needs_alike (Does r) (Does q) alike needs =
    subst (needs_by (record_lines r)) (done_alike r q alike)
    (subst (λ (ls : List Shown). needs_by ls (action_done q)) (lines_alike r q alike) needs)
needs_alike (Does r) (Ends g) alike needs = absurd alike
needs_alike _ _ alike needs = tt

-- room for what comes next in the run is room for what comes next for the machine
room_alike : (p : Processor) (spare : ℕ) (o n : Next) → AreNextAlike o n → HasRoom p spare o → HasRoom p spare n
room_alike p spare (Ends f) (Ends g) alike room =
    subst (λ (x : Finish). length (journal_lines 0 x.event) + 2 ≤ spare) (sym alike) room
room_alike p spare (Ends f) (Does q) alike room = absurd alike
room_alike p spare (Does r) (Ends g) alike room = absurd alike
room_alike p spare (Does r) (Does q) alike room = record {
  lines = subst (λ (ls : List Shown). length ls ≤ spare) (sym (lines_alike r q alike)) room.lines;
  effect = subst (HasRoomFor p) (sym (done_alike r q alike)) room.effect;
  no_sets = ap (λ (a : Action). is_restart a.control) (done_alike r q alike) ∙ room.no_sets;
}

pub next_room : (g : Given) (h : List Item) (k : Contents) (plan : Plan) (p : Processor) (spare : ℕ) → Stand g h None k
    → Follows g h plan → HasRoom p spare (comes_next g h) → HasRoom p spare (next_for (situation_in k) plan)
next_room g h k plan p spare stands follows room =
    room_alike p spare (comes_next g h) (next_for (situation_in k) plan) (beside g h k plan stands follows) room

-- and so is room that stays
pub kept_room : (p q : Processor) (spare : ℕ) (n : Next) → KeepsRoom p q → HasRoom p spare n → HasRoom q spare n
kept_room p q spare (Ends f) keeps room = room
kept_room p q spare (Does r) keeps room =
    record { lines = room.lines; effect = keeps (action_done r) room.effect; no_sets = room.no_sets }

-- ---- what came next

module _ (g : Given) (h : List Item) (before after : Progress) (x y : ℕ) (stands : StandsFor g h None before.machine)
    (follows : Follows g h before.plan) (come : (ahead g h).turn ≤ before.machine.pipeline.turn) where
  abbrev was : Stage
  was = stage_of before x

  abbrev now : Stage
  now = stage_of after y

  at_turn : (ahead g h).turn ≡ before.machine.pipeline.turn
  at_turn = let in_time : before.machine.pipeline.turn ≤ (ahead g h).turn = stands.in_time in omega
      (arith, come, in_time)

  -- a record
  did : (answer : Turn) → (ahead g h).imprecise ≡ None → Did was answer now → DoesNext g h answer before after
  did answer precise d =
      let k = was.contents in
      let j = now.contents in
      let q = d.done in
      let rs = records_of h in
      let found = does_alike (comes_next g h) (next_of was) q (beside g h k before.plan stands follows) d.is_next in
      let r = found.0 in
      let same = found.2 in
      let alike = alike_trans r.after q.after j.pipeline.state same.after d.state in
      let free = next_free k.length k.due (event_for (situation_in k) before.plan) k.pipeline.state q d.is_next in
      let run = next_free g.length (due_after rs) (event_ahead g h) (state_after g rs) r found.1 in
      let cache = cache_next g h k j r q stands same run (ap (λ (u : State). u.memory.mcon) alike.rest) d.cache in
      let need = same_need g h k r q d.need stands same (ap (λ (x : Record). x.before) run.0)
      (ap (λ (x : Record). x.before) free.0) d.is_need in
      let old = before.machine.pipeline in
      let new = after.machine.pipeline in
      let next : IssuesNext g h r q d.need old new = record {
        is_next = found.1;
        starts = ap (λ (x : Record). x.before) run.0;
        same = same;
        precise = precise;
        now = come;
        in_time = stands.in_time;
        is_need = need;
        issued = d.issued;
        state = alike;
        size = size_next g h k j.pipeline.size r q stands same free d.size;
        cache = cache;
      } in
      let in_time : j.pipeline.turn ≤ (ahead g (Step r ∷ h)).turn =
      issue_in_time g h r q d.need old new stands.flow next in
      let count : k.pipeline.state.count ≡ (state_after g rs).count = λ i. (stands.flow.state.rest i).count in
      let below : k.pipeline.state.count ≤ k.length = before.machine.below in
      let length : k.length ≡ g.length = stands.length in
      let less = left_less g h r (omega (arith, count, below, length)) found.1 in
      let none = ap (λ (n : Need). n.not_before) d.is_need
      ∙ need_unbound k.pipeline.size k.pipeline.cache k.pipeline.state q.kind in
      let keeps = d.rest in
      let wait : j.wait ≡ k.wait = λ i. (keeps i).wait in
      let early : k.wait ≤ (ahead g h).turn = stands.early in
      let turn : j.pipeline.turn ≡ k.pipeline.turn = λ i. (d.issued.keeps i).turn in
      record {
        done = r;
        is_next = found.1;
        now = at_turn;
        turn = turn;
        stands = record {
          past = (stands.past, precise, found.1);
          flow = flow_issued g h r q d.need old new stands.flow next;
          in_time = in_time;
          early = omega (arith, wait, early, turn, come, in_time);
          paced = paced_issues k.pipeline j.pipeline d.need (action_done q) (left_after g rs)
              (left_after g (r ∷ rs)) d.issued none less stands.paced;
          due = d.due ∙ due_alike r q same;
          length = (λ i. (keeps i).length) ∙ stands.length;
          sets = (λ i. (keeps i).sets) ∙ stands.sets;
          ended = (λ i. (keeps i).ended) ∙ stands.ended;
          over = tt;
        };
        follows = follows_next g h before.plan after.plan r q follows same d.behind;
        lines = d.lines ∙ ap (λ (ls : List Shown). map shown_of before.lines ++ ls) (lines_alike r q same);
        tells = tells_alike r.kind r.before q.before answer same.before same.words
            (subst (λ (k : Kind). TellsRecord k q.before answer) same.kind d.tells);
      }

  -- an end
  over_run : (f : Finish) (e : End) → end_ahead g h ≡ Some f → f.end ≡ e → Finished was f now
      → EndsRun g h e before after
  over_run f e is_end answers d = record {
    finish = f;
    answers = answers;
    is_end = is_end;
    now = at_turn;
    turn = λ i. (d.contents i).pipeline.turn;
    stands = subst (Stand g h (Some f)) (sym d.contents) (ended_stands g h was.contents f is_end stands);
    follows = follows_end g h before.plan after.plan f follows d.behind;
    lines = d.lines ∙ ap (λ (ls : List Shown). map shown_of before.lines ++ ls)
        (end_alike (state_after g (records_of h)) was.contents.pipeline.state f stands.flow.state);
  }

  ended_run : (e : End) → (ahead g h).imprecise ≡ None → Ended was e now → EndsRun g h e before after
  ended_run e precise d =
      let next_end = ends_alike (comes_next g h) (next_of was) d.finish
      (beside g h was.contents before.plan stands follows) d.is_end in
      over_run d.finish e (ap (λ (o : Option ℕ). finish_by o (comes_next g h)) precise ∙ ap ended_by next_end) d.answers
      d.finished

  -- or want of memory
  refused : Refused was now → IsRefused g h before after
  refused d = record {
    now = at_turn;
    turn = λ i. (d.same i).contents.pipeline.turn;
    stands = subst (λ (s : Stage). Stand g h None s.contents) (sym d.same) stands;
    follows = subst (λ (s : Stage). Follows g h s.plan) (sym d.same) follows;
    lines = λ i. (d.same i).lines;
    needed = needs_alike (comes_next g h) (next_of was) (beside g h was.contents before.plan stands follows) d.needed;
  }

  did_comes : (answer : Turn) → (ahead g h).imprecise ≡ None → Steps was answer now → Comes g h answer before after
  did_comes turns.On precise d = did turns.On precise d
  did_comes (turns.Issued t) precise d = did (turns.Issued t) precise d
  did_comes (turns.End e) precise d = ended_run e precise d
  did_comes turns.Memory precise d = refused d

  -- an imprecise fault ends the run
  overtakes_comes : (a : ℕ) (answer : Turn) → (ahead g h).imprecise ≡ Some a → Overtakes a was answer now
      → Comes g h answer before after
  overtakes_comes a (turns.End e) late d =
      over_run (finish e) e
      (ap (λ (o : Option ℕ). finish_by o (comes_next g h)) late ∙ ap (λ (x : End). Some (finish x)) (sym d.0)) refl d.1
  overtakes_comes a turns.Memory late d = refused d
  overtakes_comes a _ late d = absurd d

  pub came_comes : (coming : Coming) (answer : Turn) → (ahead g h).imprecise ≡ overtaken_by coming
      → Came coming was answer now → Comes g h answer before after
  came_comes (Overtaking a) answer fault d = overtakes_comes a answer fault d
  came_comes _ answer fault d = did_comes answer fault d

pub comes_advances : (g : Given) (h : List Item) (answer : Turn) (before after : Progress)
    → Comes g h answer before after → Advances g h answer before after
comes_advances g h turns.On before after d = inr d
comes_advances g h _ before after d = d
