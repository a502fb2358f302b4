use Rattle.std.proofs.Common.{ℕ, Option, sym, ap, ◌∙◌}
use Rattle.std.specs.Prelude.{is_some}
use Rattle.i9_model.specs.Memory.{in_port_page}
use Rattle.i9_model.specs.Hazards.{port_hazard}
use Rattle.i9_model.specs.Frames.{places}
use Rattle.i9_course.specs.NeedOf.{touches_port}
use Rattle.i9_plan.proofs.KnownFacts.{any_found}
use Rattle.i9_plan.proofs.known.touches_port.Goals as goal

pub returns-in-Some : goal.returns-in-Some
unfolding port_hazard
returns-in-Some c =
    c.is_some.ensures
    ∙ ap (λ (o : Option ℕ). is_some o) c.touches_port.ensures
    ∙ any_found in_port_page (places c.in-Some.address c.in-Some.n)
    ∙ sym (ap touches_port c.in-Some.is)
