-- The tables of names, as one look-up.
use Rattle.std.specs.Prelude.{ℕ, ◌+◌, ◌-◌, ◌*◌, nat_lt, if◌then◌else◌, Option, None, slice_index_or}
use Rattle.i9_isa.specs.declared.op.Op.{Op}
use Rattle.i9_decode.specs.declared.branch_names.TheConstants.{BRANCH_NAMES}
use Rattle.i9_decode.specs.declared.register_names.TheConstants.{REGISTER_NAMES}
use Rattle.i9_decode.specs.declared.memory_names.TheConstants.{MEMORY_NAMES}

-- what the tables have at an opcode and an extension
abbrev pub look : ℕ → ℕ → Option Op
look o e =
    if nat_lt o 0x40 then slice_index_or BRANCH_NAMES o None
    else if nat_lt o 0x58 then None
    else if nat_lt o 0x78 then slice_index_or REGISTER_NAMES ((o - 0x58) * 16 + e) None
    else if nat_lt o 0x80 then None
    else if nat_lt o 0xD0 then slice_index_or MEMORY_NAMES (o - 0x80) None
    else None
