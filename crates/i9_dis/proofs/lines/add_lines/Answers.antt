use Rattle.std.proofs.Common.{◌<◌, length, arith, refl}
use Rattle.std.proofs.lemmas.Grind.{common_steps}
use Rattle.i9_dis.proofs.Printing.{goes_turn, goes_end}
use Rattle.i9_dis.proofs.Listed.{line_fits}
use Rattle.i9_dis.proofs.lines.add_lines.Goals as goal

pub loop-rest-init : goal.loop-rest-init
loop-rest-init c = grind arith

pub split_at-requires : goal.split_at-requires
split_at-requires c = grind arith

pub loop-rest-preserved : goal.loop-rest-preserved
loop-rest-preserved c =
    let some : 0 < length c.loop-rest.rest.now = grind (arith, common_steps) in
    let left = c.split_at.ensures.back_len in
    let within = line_fits c.loop-rest.place c.loop-rest.rest.now some in
    record {
      place = omega (arith, c.in_ok-size.ensures.size, c.loop-rest.invariant.place);
      lines = goes_turn c.args.start c.args.bytes.now c.args.text.now.items c.loop-rest.place _ c.in_ok-size.size c.loop-rest.rest.now _ c.loop-rest.text.items _ some c.loop-rest.invariant.lines c.in_ok-size.ensures.text c.in_ok-size.ensures.size refl c.split_at.ensures.back;
    }

pub loop-rest-smaller : goal.loop-rest-smaller
loop-rest-smaller c = grind arith

pub returns : goal.returns
returns c = goes_end c.args.start c.args.bytes.now c.args.text.now.items c.loop-rest.place c.loop-rest.rest.now c.loop-rest.text.items (grind (arith, common_steps)) c.loop-rest.invariant.lines
