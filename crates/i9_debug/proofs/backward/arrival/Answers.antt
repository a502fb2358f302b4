use Rattle.std.proofs.Common.{◌∙◌, nat_eq, ap}
use Rattle.i9_model.specs.declared.view.View.{View}
use Rattle.i9_debug.specs.Driven.{given_of}
use Rattle.i9_debug.proofs.Returning.{answered_arrival}
use Rattle.i9_debug.proofs.backward.arrival.Goals as goal

pub returns-clause-last : goal.returns-clause-last
returns-clause-last c =
    answered_arrival _ c.args.address (λ v b said. said.says.met ∙ ap (λ (x : View). nat_eq x.ip c.args.address) said.shows) c.args.n c.last_by.result
    (given_of c.args.image.now c.args.sets c.args.plan.now) c.last_by.ensures.last
