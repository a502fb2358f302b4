use Rattle.std.proofs.Common.{Some, sym, subst}
use Rattle.i9_model.specs.Run.{Instruction, Faulted, fault_at}
use Rattle.i9_plan.specs.declared.decode_cache.DecodeCache.{DecodeCache}
use Rattle.i9_plan.specs.declared.open.Open.{Open}
use Rattle.i9_plan.specs.Kept.{inst_in}
use Rattle.i9_machine.specs.Contents.{situation}
use Rattle.i9_machine.specs.Opening.{HasNeed, HasOpenNeed}
use Rattle.i9_machine.proofs.Overtaking.{runs_ahead}
use Rattle.i9_machine.proofs.machine.Machine.plan_instruction.Goals as goal

pub returns-in-Runs-clause-need : goal.returns-in-Runs-clause-need
returns-in-Runs-clause-need c =
    let at = situation c.args.self.now in
    let mid = c.keep.new.self in
    let need = c.need_done-need.ensures in
    subst (λ (o : Open). HasOpenNeed at o mid.decodes mid.need) (sym c.in-Runs.is)
    (subst (λ (n : DecodeCache). HasNeed at (Instruction (inst_in n)) mid.need) (sym c.keep.ensures.decodes) (record {
      need = c.need_done-need.result;
      fenced = c.keep.ensures.need;
      is_need = need.need;
      cost = need.cost;
      ahead = runs_ahead at _ _ _ c.in-Runs.ensures.stands.0 c.in-Runs.ensures.needs need.need;
    }))

pub returns-in-Faults-clause-need : goal.returns-in-Faults-clause-need
returns-in-Faults-clause-need c =
    let at = situation c.args.self.now in
    let mid = c.keep_faulted.new.self in
    subst (λ (n : DecodeCache). HasNeed at (Faulted (Some (inst_in n)) (fault_at at.state c.in-Faults.number)) mid.need)
    (sym c.keep_faulted.ensures.decodes) c.keep_faulted.ensures.need
