use Rattle.std.proofs.Common.{◌≡◌, suc, ◌+◌, ◌-◌, ◌<◌, length, arith}
use Rattle.std.proofs.lemmas.List.{drop_all, at_drop_more}
use Rattle.std.proofs.Math.Nat.{pow-le-pow_right}
use Rattle.i9_statement.specs.Known.{word_of}
use Rattle.i9_statement.proofs.known.word_of.Goals as goal

pub loop-left-init : goal.loop-left-init
unfolding word_of
loop-left-init c = grind (arith, drop_all)

pub overflow_mul-word : goal.overflow_mul-word
overflow_mul-word c = grind (arith, pow-le-pow_right)

pub overflow_add-word : goal.overflow_add-word
overflow_add-word c = grind (arith, pow-le-pow_right)

pub loop-left-preserved : goal.loop-left-preserved
unfolding word_of
loop-left-preserved c =
    let bytes = c.args.bytes.now in
    let left = c.loop-left.left in
    let inside : left - 1 < length bytes = omega (arith, c.loop-left-test.true, c.loop-left.invariant.inside) in
    let more : length bytes - (left - 1) ≡ suc (length bytes - left) =
    omega (arith, c.loop-left-test.true, c.loop-left.invariant.inside) in
    let low = c.type_inv.bytes (left - 1) in
    let back : left - 1 + 1 ≡ left = omega (arith, c.loop-left-test.true) in
    let word = at_drop_more word_of bytes (left - 1) 0 inside in
    record {
      value = rw (c.from.ensures, c.loop-left.invariant.value) (omega (arith, rw back at word));
      small = rw (more, c.from.ensures) (omega (arith, low, c.loop-left.invariant.small));
      inside = omega (arith, c.loop-left.invariant.inside);
    }
