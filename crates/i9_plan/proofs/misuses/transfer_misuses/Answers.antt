use Rattle.std.proofs.Common.{sym, ◌∙◌}
use Rattle.i9_processor.specs.State.{state_of}
use Rattle.i9_plan.proofs.MarkUses.{address_misused, data_misused}
use Rattle.i9_plan.proofs.misuses.transfer_misuses.Goals as goal

pub returns-then-address_marked : goal.returns-then-address_marked
returns-then-address_marked c =
    let i = c.args.i.now in
    c.if-address_marked.true
    ∙ address_misused i (state_of c.args.p.now) c.args.m.transfer c.requires.valid c.requires.moves.same (sym c.address_marked.ensures ∙ c.if-address_marked.true)

pub returns-else-address_marked : goal.returns-else-address_marked
returns-else-address_marked c =
    let i = c.args.i.now in
    c.stores_out.ensures
    ∙ data_misused i (state_of c.args.p.now) c.args.m.transfer c.requires.valid c.requires.moves.same (sym c.address_marked.ensures ∙ c.if-address_marked.false)
