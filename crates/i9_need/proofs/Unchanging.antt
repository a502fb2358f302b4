-- What is fixed of an instruction does not depend on its second word, and tells which instructions are stores.
use Rattle.std.proofs.Common.{◌≡◌, true, sym, ap, ◌∙◌}
use Rattle.std.specs.Option.{is_some}
use Rattle.i9_model.specs.declared.need.Facts.{Facts}
use Rattle.i9_need.specs.declared.fixed.FixedNeed.{FixedNeed}
use Rattle.i9_need.specs.Fixed.{AreFactsBy}
use Rattle.i9_need.proofs.Sets.{stores_access}

-- a store has a data access
pub store_known : (k : FixedNeed) (f : Facts) → AreFactsBy k f → k.store ≡ true → is_some f.access ≡ true
store_known k f known stores =
    known.facts.access ∙ stores_access known.inst.op (sym (ap (λ (k : FixedNeed). k.store) known.same) ∙ stores)
