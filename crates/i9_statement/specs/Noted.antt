-- Parts of a line that may be at fault.
use Rattle.std.specs.Prelude.{ℕ, nat_lt, Option, Some, None, if◌then◌else◌}
use Rattle.i9_statement.specs.declared.fault.Fault.{Fault}
use Rattle.i9_statement.specs.declared.fault.Fault.TheVariants.{UnknownMnemonic, Form, Register, Range, UnknownName}
use Rattle.i9_statement.specs.declared.fault.Fault.TheVariants.{NameTwice, Target, TooMany}
use Rattle.i9_statement.specs.declared.fault.Noted.{Noted}

-- the kinds of faults; of several the one with the least kind counts
abbrev pub kind_of : Fault → ℕ
kind_of UnknownMnemonic = 1
kind_of Form = 2
kind_of Register = 3
kind_of Range = 4
kind_of UnknownName = 5
kind_of NameTwice = 6
kind_of Target = 7
kind_of TooMany = 8

-- a part without fault
abbrev pub fine : {X : Type 0} → X → Noted X
fine x = record { value = x; fault = None }

-- a part at fault
abbrev pub wrong : {X : Type 0} → Fault → X → Noted X
wrong fault x = record { value = x; fault = Some fault }

-- the least of two faults
abbrev pub least : Option Fault → Option Fault → Option Fault
least None g = g
least (Some a) None = Some a
least (Some a) (Some b) = if nat_lt (kind_of b) (kind_of a) then Some b else Some a
