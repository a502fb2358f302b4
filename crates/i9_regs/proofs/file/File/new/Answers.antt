use Rattle.std.proofs.Common.{Some}
use Rattle.i9_model.specs.Late.{cell}
use Rattle.i9_regs.proofs.Rows.{zero_at}
use Rattle.i9_regs.proofs.file.File.new.Goals as goal

pub returns : goal.returns
returns c = λ r i. cell (zero_at 33 r i) (Some (zero_at 33 r i, zero_at 33 r i))
