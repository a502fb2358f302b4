-- A unit of DMA that is moved fits.
use Rattle.std.proofs.Common.{◌≡◌, ℕ, true, false, List, Option, arith}
use Rattle.i9_model.specs.State.{Dma}
use Rattle.i9_model.specs.Dma.{is_fit, is_idle}

-- where something moves, the bytes come from where the control word says
pub busy_fit : (d : Dma) (c : ℕ) (given : Option (List ℕ)) → is_idle d c given ≡ false → is_fit (d.channels c) given ≡ true
busy_fit d c given busy = grind arith
