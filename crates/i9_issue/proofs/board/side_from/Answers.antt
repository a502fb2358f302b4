use Rattle.std.proofs.Common.{◌≡◌, ◌+◌, ◌-◌, ◌<◌, ◌≤◌, ◌∙◌, true, false, None, get_or, length, sym, arith}
use Rattle.std.proofs.lemmas.Bool.{cond-true, cond-false}
use Rattle.i9_isa.specs.declared.inst.Side.TheVariants.{Reg}
use Rattle.i9_model.specs.declared.need.TimedNeed.{TimedNeed}
use Rattle.i9_model.specs.Turns.{keeps_side}
use Rattle.i9_issue.proofs.Early.{newest-early, newest-side}
use Rattle.i9_issue.proofs.board.side_from.Goals as goal

abbrev blank : TimedNeed
blank = record { need = record { side = Reg; reads = 0; writes = 0; request = false; store = None; slow = false; barrier = false; alone = false; cost = 0; code = (0, 0); not_before = 0 }; issue = 0; done = 0 }

pub overflow_add-result : goal.overflow_add-result
overflow_add-result c = grind (arith, newest-early)

pub returns-then-keeps_side : goal.returns-then-keeps_side
returns-then-keeps_side c =
    let some : 0 < c.args.count = omega (arith, c.if-count-eq0.false) in
    let few : c.args.count ≤ length c.args.records.now = omega (arith, c.told-records, c.requires.few) in
    let newest = get_or c.args.records.now (c.args.count - 1) blank in
    let is : keeps_side newest.need.side c.args.n.now ≡ true = sym c.keeps_side.ensures ∙ c.if-keeps_side.true in
    sym (newest-side c.args.n.now c.args.count c.args.records.now blank some few ∙ cond-true (keeps_side newest.need.side c.args.n.now) (newest.issue + 1) 0 is)

pub returns-else-keeps_side : goal.returns-else-keeps_side
returns-else-keeps_side c = grind (arith, newest-side, cond-false)
