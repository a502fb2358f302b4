use Rattle.std.proofs.Common.{◌∙◌, nat_eq, ap}
use Rattle.i9_model.specs.declared.view.View.{View}
use Rattle.i9_debug.proofs.Stops.{arrives}
use Rattle.i9_debug.proofs.sessions.run_to.Goals as goal

pub returns : goal.returns
returns g c = λ what h stands follows.
    arrives _ c.args.address (λ v b said. said.says.met ∙ ap (λ (x : View). nat_eq x.ip c.args.address) said.shows) _ what h _ _ _ _ _
    (c.run_while_not.ensures what h stands follows)
