use Rattle.i9_machine.proofs.Arriving.{like_kept, need_issues}
use Rattle.i9_machine.proofs.machine.Machine.issue_ahead.Goals as goal

pub issue_turn-requires-clause-need : goal.issue_turn-requires-clause-need
issue_turn-requires-clause-need c =
    like_kept c.args.self.now c.plan_instruction.new.self _ c.plan_instruction.ensures.like c.in-Runs.ensures.need

pub issue_turn-requires-in-Faults-clause-need : goal.issue_turn-requires-in-Faults-clause-need
issue_turn-requires-in-Faults-clause-need c =
    like_kept c.args.self.now c.plan_instruction.new.self _ c.plan_instruction.ensures.like c.in-Faults.ensures.need

pub returns-in-Runs-clause-turn : goal.returns-in-Runs-clause-turn
returns-in-Runs-clause-turn c =
    need_issues c.args.self.now c.plan_instruction.new.self _ c.issue_turn.result c.plan_instruction.ensures.like
    c.in-Runs.ensures.need c.issue_turn.ensures.computed

pub returns-in-Faults-clause-turn : goal.returns-in-Faults-clause-turn
returns-in-Faults-clause-turn c =
    need_issues c.args.self.now c.plan_instruction.new.self _ c.issue_turn-in-Faults.result
    c.plan_instruction.ensures.like c.in-Faults.ensures.need c.issue_turn-in-Faults.ensures.computed
