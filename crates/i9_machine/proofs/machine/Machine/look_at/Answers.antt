use Rattle.std.specs.Option.{option_copied}
use Rattle.std.proofs.Common.{false, sym, ap, ◌∙◌}
use Rattle.i9_model.specs.Turns.{last_issue, issue_turn}
use Rattle.i9_plan.specs.Kept.{inst_in}
use Rattle.i9_machine.specs.Contents.{situation, contents_of}
use Rattle.i9_machine.specs.Step.{event_for, next_where}
use Rattle.i9_machine.proofs.Arriving.{kept_need, open_event, waits_arrive, instruction_arrives, instruction_calm}
use Rattle.i9_machine.proofs.Opening.{event_waits}
use Rattle.i9_machine.proofs.Stepping.{goes_by_event, copied_some, copied_none}
use Rattle.i9_machine.proofs.machine.Machine.look_at.Goals as goal

pub issue_turn-turn-requires-clause-need : goal.issue_turn-turn-requires-clause-need
issue_turn-turn-requires-clause-need c =
    let next = c.requires.next in
    kept_need (situation c.args.self.now) next.kind c.args.self.now.need next.kept

pub returns-then-is_some-clause-arrives : goal.returns-then-is_some-clause-arrives
returns-then-is_some-clause-arrives c =
    let m = c.args.self.now in
    let plan = c.args.plan.now in
    let next = c.requires.next in
    let one = copied_some c.standing.result (sym c.is_some.ensures ∙ c.if-is_some.true) in
    let event = open_event m plan _ c.issue_turn-turn.result c.count.result
    (option_copied c.standing.result) c.requires.stands next
    c.issue_turn-turn.ensures.computed c.count.ensures c.standing.ensures.event ∙ one.1 in
    waits_arrive (contents_of m) plan c.args.until false c.requires.until c.requires.open c.requires.precise
    (event_waits (situation m) plan one.0 (goes_by_event (situation m) (event_for (situation m) plan) next.free) event)

pub returns-else-is_some : goal.returns-else-is_some
returns-else-is_some c =
    let m = c.args.self.now in
    let plan = c.args.plan.now in
    let next = c.requires.next in
    let turn = c.issue_turn-turn.ensures in
    let none = open_event m plan _ c.issue_turn-turn.result c.count.result
    (option_copied c.standing.result) c.requires.stands next turn.computed c.count.ensures c.standing.ensures.event
    ∙ copied_none c.standing.result (sym c.is_some.ensures ∙ c.if-is_some.false) in
    record {
      arrives = instruction_arrives (contents_of m) plan next.kind next.kept.need c.issue_turn-turn.result c.args.coming
          c.requires.precise
          (instruction_calm (inst_in m.decodes) (situation m).state next.kind c.args.coming next.same)
          (ap (next_where (situation m)) none ∙ next.is_next) next.kept.is_need
          (λ rs stands. turn.computed rs stands ∙ ap (issue_turn (last_issue rs) rs) next.kept.fenced);
      ready = c.requires.ready c.issue_turn-turn.result none turn.least;
    }
