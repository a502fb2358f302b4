use Rattle.std.proofs.Common.{◌<◌, ℕ, get_or, length, arith}
use Rattle.std.specs.Result.{is_ok}
use Rattle.i9_hex.specs.declared.segments.Segment.{Segment}
use Rattle.i9_hex.proofs.PartLemmas.{AreParts-pushed}
use Rattle.i9_hex.proofs.segments.Segments.push.Goals as goal

pub invariant_of-self : goal.invariant_of-self
invariant_of-self c =
    let s : Segment = record { address = c.args.address; bytes = c.args.bytes } in
    let low : (k : ℕ) → k < length c.args.bytes.items → get_or c.args.bytes.items k 0 < 256 = λ k lt. omega arith in
    AreParts-pushed (is_ok c.push.result) c.self.inside.items.items c.push.new.self.items s c.push.ensures.items (omega arith) low c.self.invariant
