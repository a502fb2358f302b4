use Rattle.std.proofs.Common.{ℕ, ◌≤◌, Option, sym, ap, ◌∙◌, subst}
use Rattle.std.specs.Prelude.{is_some}
use Rattle.i9_model.specs.Access.{access_of}
use Rattle.i9_processor.specs.State.{state_of}
use Rattle.i9_plan.specs.Kept.{inst_in}
use Rattle.i9_plan.proofs.KnownFacts.{known_access, known_waits}
use Rattle.i9_plan.proofs.known.facts.Goals as goal

pub returns-clause-known : goal.returns-clause-known
returns-clause-known c frames one =
    let i = inst_in c.args.decodes.now in
    let s = state_of c.args.p.now in
    record {
      frames = frames;
      one = one;
      waits = subst (λ (n : ℕ). n ≤ 62) (sym c.accessed-access.ensures.waits) (known_waits s.memory (access_of i s));
      access = ap (λ (o : Option (ℕ × ℕ)). is_some o) c.accessed-access.ensures.access ∙ known_access i s;
    }
