use Rattle.i9_plan.proofs.planned.plan_next.Goals as goal

pub returns-in-Err-clause-located : goal.returns-in-Err-clause-located
returns-in-Err-clause-located c = c.unread.ensures.located c.fetch.new.decodes
