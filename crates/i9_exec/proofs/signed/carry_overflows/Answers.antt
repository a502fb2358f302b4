use Rattle.std.proofs.Common.{arith, ◌+ℤ◌, pos, to_z, of_z, w64, w32}
use Rattle.std.proofs.lemmas.Int.{ints}
use Rattle.i9_model.specs.Numbers.{signed}
use Rattle.i9_exec.proofs.Products.{not-fits-same}
use Rattle.i9_exec.proofs.signed.carry_overflows.Goals as goal

pub returns : goal.returns
returns c =
    let wide = to_z w64 (of_z w64 (to_z w64 (of_z w64 (to_z w64 (of_z w64 (to_z w32 (of_z w32 c.cast_signed.result))) +ℤ to_z w64 (of_z w64 (to_z w32 (of_z w32 c.cast_signed-2.result))))) +ℤ to_z w64 c.args.carry)) in
    not-fits-same wide (signed c.args.b +ℤ signed c.args.a +ℤ pos c.args.carry) _ c.is_outside.ensures (omega (arith, ints))
