use Rattle.i9_regs.proofs.Shown.{landed_later, landed_busy, issued_shows}
use Rattle.i9_regs.proofs.laws.cells_land_by_themselves.Goals as goal

pub returns : goal.returns
returns c = record { later = landed_later; busy = landed_busy; issued = issued_shows }
