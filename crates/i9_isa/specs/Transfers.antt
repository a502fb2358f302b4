-- What each load and each store moves.
use Rattle.std.specs.Prelude.{ℕ, ◌*◌, Bool, true, false, Option, Some, None}
use Rattle.i9_isa.specs.declared.op.Op.{Op}
use Rattle.i9_isa.specs.declared.op.Op.TheVariants.{Ldob, Ldib, Ldos, Ldis, Ld, Ldl, Ldt, Ldq, Stob, Stib, Stos, Stis}
use Rattle.i9_isa.specs.declared.op.Op.TheVariants.{St, Stl, Stt, Stq}
use Rattle.i9_isa.specs.declared.size.Size.{Size}
use Rattle.i9_isa.specs.declared.size.Size.TheVariants.{Byte, Half, Words}
use Rattle.i9_isa.specs.declared.size.Direction.{Direction}
use Rattle.i9_isa.specs.declared.size.Transfer.{Transfer}

-- the bytes of a size
abbrev pub byte_count : Size → ℕ
byte_count Byte = 1
byte_count Half = 2
byte_count (Words n) = 4 * n

-- the registers of a size
abbrev pub register_count : Size → ℕ
register_count Byte = 1
register_count Half = 1
register_count (Words n) = n

abbrev pub load : Size → Bool → Option Transfer
load size signed = Some (record { direction = Direction.Load; size = size; signed = signed })

abbrev pub store : Size → Bool → Option Transfer
store size signed = Some (record { direction = Direction.Store; size = size; signed = signed })

-- a load or a store, with a sign or without; lda moves nothing
abbrev pub transfer_of : Op → Option Transfer
transfer_of Ldob = load Byte false
transfer_of Ldib = load Byte true
transfer_of Ldos = load Half false
transfer_of Ldis = load Half true
transfer_of Ld = load (Words 1) false
transfer_of Ldl = load (Words 2) false
transfer_of Ldt = load (Words 3) false
transfer_of Ldq = load (Words 4) false
transfer_of Stob = store Byte false
transfer_of Stib = store Byte true
transfer_of Stos = store Half false
transfer_of Stis = store Half true
transfer_of St = store (Words 1) false
transfer_of Stl = store (Words 2) false
transfer_of Stt = store (Words 3) false
transfer_of Stq = store (Words 4) false
transfer_of _ = None
