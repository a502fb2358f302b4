use Rattle.std.proofs.Common.{◌≡◌, None, rules, sym, ◌∙◌}
use Rattle.i9_agree.proofs.AlikeSteps.{restart_readable}
use Rattle.i9_processor.specs.State.{state_of}
use Rattle.i9_plan.proofs.system.plan_restart.Goals as goal

pub controlling-requires : goal.controlling-requires
controlling-requires c =
    let none : c.tables_hazard.result ≡ None = search rules in
    restart_readable c.args.i.now (state_of c.args.p.now) c.value-first.result c.value-prcb.result (sym c.tables_hazard.ensures ∙ none)
