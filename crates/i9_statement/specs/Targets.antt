-- Branch targets.
use Rattle.std.specs.Prelude.{ℕ, ◌+◌, ◌-◌, ◌%◌, ◌^◌, List, Option, Some, None, ℤ, pos, if◌then◌else◌}
use Rattle.i9_isa.specs.declared.format.Format.{Format}
use Rattle.i9_isa.specs.declared.format.Format.TheVariants.{Cobr}
use Rattle.i9_isa.specs.Valid.{is_within}
use Rattle.i9_isa.specs.Words.{signed_of}
use Rattle.i9_statement.specs.declared.fault.Noted.{Noted}
use Rattle.i9_statement.specs.declared.fault.Fault.TheVariants as fault
use Rattle.i9_statement.specs.declared.values.Value.{Value}
use Rattle.i9_statement.specs.declared.values.Value.TheVariants.{Number, Named, Beyond, Unknown}
use Rattle.i9_statement.specs.Noted.{fine, wrong}
use Rattle.i9_statement.specs.Values.{Names, value_of}

-- how far a target is from an address, modulo 2^32 as a signed number
abbrev pub distance : ℕ → ℕ → ℤ
distance ip target = signed_of 32 ((target + (2 ^ 32 - ip)) % 2 ^ 32)

-- half of what a displacement can say
abbrev pub reach : Format → ℕ
reach Cobr = 2 ^ 12
reach _ = 2 ^ 23

-- a distance that the format can say
abbrev pub if_reached : Format → ℤ → Noted ℤ
if_reached f z = if is_within (reach f) z then fine z else wrong fault.Target (pos 0)

-- by the value of the target
abbrev pub target_by : ℕ → Format → Option Value → Noted ℤ
target_by ip f (Some (Number n)) = if_reached f (distance ip n)
target_by ip f (Some (Named n)) = if_reached f (distance ip n)
target_by ip f (Some Beyond) = wrong fault.Range (pos 0)
target_by ip f (Some Unknown) = wrong fault.UnknownName (pos 0)
target_by ip f None = wrong fault.Form (pos 0)

-- the displacement from ip to the target that a text says
unfoldable pub target_of : ℕ → Format → Names → List ℕ → Noted ℤ
target_of ip f names s = target_by ip f (value_of names s)
