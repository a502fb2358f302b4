use Rattle.i9_laws.proofs.Returns.{registers_back, control_back, entry_back, at_once, entry_at_once}
use Rattle.i9_laws.proofs.laws.a_return_undoes_a_call.Goals as goal

pub returns : goal.returns
returns c = record {
  registers = registers_back;
  controls = control_back;
  entry = entry_back;
  at_once = at_once;
  entry_at_once = entry_at_once;
}
