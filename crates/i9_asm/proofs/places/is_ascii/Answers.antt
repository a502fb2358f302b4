use Rattle.std.proofs.Common.{sym, arith}
use Rattle.std.proofs.lemmas.List.{take_all}
use Rattle.std.proofs.lemmas.List.Folds.{list_all_more}
use Rattle.i9_asm.specs.Places.{is_ascii}
use Rattle.i9_asm.proofs.places.is_ascii.Goals as goal

pub loop-byte-preserved : goal.loop-byte-preserved
loop-byte-preserved c =
    let more = list_all_more is_ascii c.args.line.now c.loop-byte.byte-index 0 c.loop-byte-test.true in
    rw c.loop-byte.invariant (sym more)

pub returns : goal.returns
returns c = grind (arith, take_all)
