-- No instruction takes more than 248 turns.
use Rattle.std.proofs.Common.{ℕ, ◌≤◌, arith, sym, subst}
use Rattle.i9_isa.specs.declared.op.Op.{Op}
use Rattle.i9_isa.specs.declared.op.Op.TheVariants.{Mulo}
use Rattle.i9_model.specs.declared.need.Facts.{Facts}
use Rattle.i9_model.specs.Needs.{cost_by}
use Rattle.i9_need.specs.declared.fixed.FixedNeed.{FixedNeed}
use Rattle.i9_need.specs.Fixed.{AreFactsBy, calm_turns}

few_turns : (op : Op) (waits frames : ℕ) → waits ≤ 62 → frames ≤ 15 → cost_by op waits frames ≤ 248
few_turns Mulo waits frames w f = omega (arith, w, f)
few_turns _ waits frames w f = omega (arith, w, f)

pub few_turns_by : (k : FixedNeed) (f : Facts) → AreFactsBy k f → calm_turns k f ≤ 248
few_turns_by k f known =
    subst (λ (k : FixedNeed). calm_turns k f ≤ 248) (sym known.same) (few_turns known.inst.op f.waits f.frames known.facts.waits known.facts.frames)
