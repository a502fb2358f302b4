use Rattle.std.proofs.Common.{arith}
use Rattle.i9_storage.proofs.KeptWords.{beside_words}
use Rattle.i9_storage.proofs.words.Words.forget_words.Goals as goal

pub returns : goal.returns
returns c x v keeps =
    let now = c.loop-k.self in (
      c.loop-k.invariant.others x v keeps,
      beside_words now.places.value.addresses now.low now.end c.args.a c.args.n x now.within keeps.0 c.ranges.a.fits (omega (arith, c.ranges.n.fits))
          (λ j h. c.loop-k.invariant.gone j (omega (arith, h, c.loop-k-test.false, c.loop-k.auto.k-end))),
    )
