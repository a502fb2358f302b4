use Rattle.i9_turns.proofs.Outside.{instruction_keeps, fault_keeps, entry_keeps}
use Rattle.i9_turns.proofs.need_laws.actions_keep_to_their_needs.Goals as goal

pub returns : goal.returns
returns c = record {
  instruction = instruction_keeps;
  fault = fault_keeps;
  entry = entry_keeps;
}
