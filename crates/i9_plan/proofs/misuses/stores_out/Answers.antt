use Rattle.std.proofs.Common.{ℕ, ap, ◌∙◌}
use Rattle.i9_isa.specs.Transfers.{byte_count}
use Rattle.i9_model.specs.Stale.{touches_port}
use Rattle.i9_processor.specs.State.{state_of}
use Rattle.i9_plan.proofs.MarkUses.{data_goes_out}
use Rattle.i9_plan.proofs.MarkLists.{stored_some}
use Rattle.i9_plan.proofs.misuses.stores_out.Goals as goal

pub returns-then-marked_bytes-ne0 : goal.returns-then-marked_bytes-ne0
returns-then-marked_bytes-ne0 c =
    let i = c.args.i.now in
    let s = state_of c.args.p.now in
    let t = c.args.m.transfer in
    let marked = stored_some t.size s i.c c.marked_bytes.result c.marked_bytes.ensures.few c.marked_bytes.ensures.marks c.if-marked_bytes-ne0.true in
    c.touches_port.ensures
    ∙ ap (λ (n : ℕ). touches_port c.args.m.address n) c.bytes.ensures
    ∙ ap (λ (a : ℕ). touches_port a (byte_count t.size)) c.requires.place
    ∙ data_goes_out t.direction t.size i s c.in-Store.is marked
