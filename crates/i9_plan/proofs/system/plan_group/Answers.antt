use Rattle.std.proofs.Common.{◌≡◌, None, rules, sym, ◌∙◌, arith}
use Rattle.i9_agree.proofs.AlikeSteps.{group_readable}
use Rattle.i9_processor.specs.State.{state_of}
use Rattle.i9_plan.proofs.system.plan_group.Goals as goal

pub controlling-requires : goal.controlling-requires
controlling-requires c =
    let none : c.group_hazard.result ≡ None = search rules in
    let few = c.requires.group in
    let same = c.argument-group.ensures in
    (omega arith, group_readable c.args.i.now (state_of c.args.p.now) c.argument-group.result (sym c.group_hazard.ensures ∙ none))
