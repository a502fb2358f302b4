-- Effective addresses, of the values of the base and index registers and the instruction's own address.
use Rattle.std.specs.Prelude.{ℕ, ◌+◌, ◌*◌, ◌^◌}
use Rattle.i9_isa.specs.declared.inst.Mode.{Mode}
use Rattle.i9_isa.specs.declared.inst.Mode.TheVariants.{Offset, BaseOffset, Base, Ip, BaseIndex, Disp, BaseDisp}
use Rattle.i9_isa.specs.declared.inst.Mode.TheVariants.{IndexDisp, BaseIndexDisp}
use Rattle.i9_isa.specs.declared.inst.Ea.{Ea}
use Rattle.i9_model.specs.Writes.{wrapped}

-- the index times a power of two
abbrev pub scaled : Ea → ℕ → ℕ
scaled e index = index * 2 ^ e.scale

-- the sum that a mode asks for
abbrev pub sum_for : Mode → Ea → ℕ → ℕ → ℕ → ℕ
sum_for Offset e base index ip = e.disp
sum_for BaseOffset e base index ip = base + e.disp
sum_for Base e base index ip = base
sum_for Ip e base index ip = ip + e.disp + 8
sum_for BaseIndex e base index ip = base + scaled e index
sum_for Disp e base index ip = e.disp
sum_for BaseDisp e base index ip = base + e.disp
sum_for IndexDisp e base index ip = scaled e index + e.disp
sum_for BaseIndexDisp e base index ip = base + scaled e index + e.disp

-- the effective address, which runs on from the last address to 0
abbrev pub address_of : Ea → ℕ → ℕ → ℕ → ℕ
address_of e base index ip = wrapped (sum_for e.mode e base index ip)
