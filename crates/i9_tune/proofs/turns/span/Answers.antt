use Rattle.std.proofs.Common.{◌+◌, ◌*◌, arith}
use Rattle.i9_tune.proofs.Plain.{early_by, stands_next, reverse_more, done_more}
use Rattle.i9_tune.proofs.turns.span.Goals as goal

pub place-requires-clause-early : goal.place-requires-clause-early
place-requires-clause-early c =
    let few = c.requires.few in
    let k = c.loop-inst-test.true in
    early_by _ _ (1 + 248 * c.loop-inst.inst-index) c.loop-inst.invariant.early (omega (arith, few, k)) c.plain_need.ensures.early c.plain_need.ensures.few

pub loop-inst-preserved : goal.loop-inst-preserved
loop-inst-preserved c =
    let waited = c.plain_need.ensures.early in
    let k = c.loop-inst.inst-index in
    record {
      stands = stands_next _ _ _ c.place.new.self c.plain_need.result (reverse_more c.args.block.now k _ c.loop-inst-test.true) c.plain_need.ensures.need (c.place.ensures.computed _ c.loop-inst.invariant.stands).0;
      early = done_more c.place.new.self k c.plain_need.result.cost c.plain_need.ensures.few (c.place.ensures.bound (1 + 248 * k) c.loop-inst.invariant.early (omega (arith, waited)));
    }
