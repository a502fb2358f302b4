use Rattle.std.proofs.Common.{◌≡◌, false, sym, ap, ◌∙◌, subst}
use Rattle.i9_model.specs.declared.need.Facts.{Facts}
use Rattle.i9_model.specs.Needs.{has_access}
use Rattle.i9_need.specs.declared.fixed.FixedNeed.{FixedNeed}
use Rattle.i9_need.specs.Known.{AreFacts}
use Rattle.i9_processor.specs.State.{state_of}
use Rattle.i9_plan.specs.Kept.{last_of, inst_in}
use Rattle.i9_plan.proofs.KnownFacts.{plain_are}
use Rattle.i9_plan.proofs.needs.plain_need.Goals as goal

pub need_by-requires : goal.need_by-requires
need_by-requires c =
    let i = inst_in c.args.decodes.now in
    let access : has_access i.op ≡ false = sym (ap (λ (k : FixedNeed). k.access) (last_of c.args.decodes.now).needs) ∙ c.requires in
    record { inst = i; same = c.need.ensures.need; facts = subst (λ (f : Facts). AreFacts i f) (sym c.plain_facts.ensures) (plain_are i (state_of c.args.p.now).ip access) }
