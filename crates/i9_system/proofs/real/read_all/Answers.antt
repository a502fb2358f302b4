use Rattle.std.proofs.Common.{◌≡◌, ◌+◌, ◌≤◌, ◌++◌, length, take, arith}
use Rattle.std.proofs.lemmas.Grind.{common_steps}
use Rattle.i9_outside.specs.declared.traits.TheConstants.{FILE_LIMIT}
use Rattle.i9_system.proofs.Asking.{asked_more}
use Rattle.i9_system.proofs.Reading.{read_failed, read_refused, read_long, read_more}
use Rattle.i9_system.proofs.real.read_all.Goals as goal

pub returns-in-Err-clause-bytes : goal.returns-in-Err-clause-bytes
returns-in-Err-clause-bytes g c = read_failed _ _ _ _ _ c.loop-taken.invariant.0

pub returns-then-is_err-clause-bytes : goal.returns-then-is_err-clause-bytes
returns-then-is_err-clause-bytes g c = let refused = read_refused _ _ _ _ _ c.loop-taken.invariant.0 in grind (arith, common_steps)

pub loop-taken-preserved : goal.loop-taken-preserved
loop-taken-preserved g c =
    let piece = take c.in-Ok.n c.read_once.new.buf in
    let grown : c.extend_from_slice.new.self.items ≡ c.loop-taken.into.items ++ piece = grind (arith, common_steps) in
    let many : length piece ≡ c.in-Ok.n = grind (arith, common_steps) in
    let few : c.loop-taken.taken + c.in-Ok.n ≤ FILE_LIMIT + 1 = grind (arith, common_steps) in (
      read_more _ _ _ _ _ _ _ _ piece c.loop-taken.invariant.0 c.in-Ok.ensures.bytes.0 grown many few,
      asked_more _ _ _ _ _ _ _ piece c.loop-taken.invariant.1 c.in-Ok.ensures.call grown (omega (arith, many)),
    )

pub returns-clause-bytes : goal.returns-clause-bytes
returns-clause-bytes g c = read_long _ _ _ _ _ c.loop-taken.invariant.0 (omega arith)
