use Rattle.std.proofs.Common.{◌+◌, arith}
use Rattle.i9_storage.proofs.KeptWords.{beside_all}
use Rattle.i9_storage.proofs.words.Words.forget.Goals as goal

pub returns-else-not-lie_beside : goal.returns-else-not-lie_beside
returns-else-not-lie_beside c x v keeps =
    let now = c.args.self.now in
    let from = c.from-from.result in
    let to = from + c.from.result in (
      keeps,
      beside_all now.places.value.addresses now.low now.end c.args.a c.args.n from to x now.within keeps.0 c.ranges.a.fits c.ranges.n.fits c.from-from.ensures (omega (arith, c.from-from.ensures, c.from.ensures))
          (c.lie_beside.ensures c.if-not-lie_beside.false),
    )
