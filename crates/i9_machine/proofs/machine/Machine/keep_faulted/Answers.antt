use Rattle.i9_machine.specs.Contents.{situation}
use Rattle.i9_machine.proofs.Overtaking.{faults_ahead}
use Rattle.i9_machine.proofs.machine.Machine.keep_faulted.Goals as goal

pub returns-clause-need : goal.returns-clause-need
returns-clause-need c =
    let at = situation c.args.self.now in
    let need = c.need_faulted-need.ensures in
    record {
      need = c.need_faulted-need.result;
      fenced = c.keep.ensures.need;
      is_need = need.need at.size at.cache;
      cost = need.cost;
      ahead = faults_ahead at.state _ _ c.args.number c.requires.stands need.need;
    }
