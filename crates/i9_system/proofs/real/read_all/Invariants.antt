use Rattle.std.proofs.Common.{◌+◌, ◌-◌}
use Rattle.i9_outside.specs.declared.traits.TheConstants.{FILE_LIMIT}
use Rattle.i9_system.proofs.Asking.{HasAsked}
use Rattle.i9_system.proofs.Reading.{HasRead}
use Rattle.i9_system.proofs.real.read_all.Given as goal

abbrev pub invariant-loop-taken : goal.invariant-loop-taken
invariant-loop-taken g l =
    HasRead (g.F.Read.remaining l.fn.file) (g.F.Read.remaining l.file) l.fn.into.items l.into.items l.taken
    × HasAsked g.F.ReadOnce.reads l.fn.file l.file l.fn.into.items l.into.items

abbrev pub decreases-loop-taken : goal.decreases-loop-taken
decreases-loop-taken g l = FILE_LIMIT + 1 - l.taken
