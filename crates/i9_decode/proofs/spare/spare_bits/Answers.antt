use Rattle.std.proofs.Common.{ap, sym, ◌∙◌}
use Rattle.std.specs.Int.{bit_at}
use Rattle.i9_decode.proofs.IgnoredBits.{ignored_free, ignored_only}
use Rattle.i9_decode.proofs.spare.spare_bits.Goals as goal

pub returns-clause-same : goal.returns-clause-same
returns-clause-same c = λ w v w1 h form.
    let e = rw c.row.ensures at c.bits_of.ensures in
    ignored_free w v w1 c.args.i.now (λ k l z. h k l (ap (λ n. bit_at n k) e ∙ z)) form

pub returns-clause-only : goal.returns-clause-only
returns-clause-only c = λ w v w1 x y k l z.
    let e = rw c.row.ensures at c.bits_of.ensures in
    ignored_only w v w1 c.args.i.now x y k l (sym (ap (λ n. bit_at n k) e) ∙ z)
