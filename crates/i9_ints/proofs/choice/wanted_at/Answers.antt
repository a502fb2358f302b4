use Rattle.std.proofs.Common.{◌≡◌, ℕ, ◌*◌, ◌%◌, ◌^◌, ◌<◌, ◌≤◌, true, subst, ap, ◌∙◌}
use Rattle.i9_isa.specs.Words.{bit}
use Rattle.i9_memory.specs.Memory.{memory_of}
use Rattle.i9_ints.specs.Best.{is_let_in}
use Rattle.i9_ints.proofs.TopBits.{priorities, vectors, top_wanted}
use Rattle.i9_ints.proofs.choice.wanted_at.Goals as goal

pub returns : goal.returns
returns c =
    let m = memory_of c.args.m.now in
    let same : c.byte-vectors.result ≡ vectors m c.args.table c.args.pc c.args.p = c.byte-vectors.ensures ∙ ap m.bytes c.pending_place.ensures in
    let asked : bit (priorities m c.args.table c.args.pc c.args.p) (c.args.p % 8) ≡ true = cc in
    let let_in : is_let_in c.args.pc (8 * c.args.p) ≡ true = cc in
    top_wanted m c.args.table c.args.pc c.args.p c.ilog2.result c.ilog2.ensures.bound
    (subst (λ (b : ℕ). 2 ^ c.ilog2.result ≤ b) same c.ilog2.ensures.power_le)
    (subst (λ (b : ℕ). b < 2 * 2 ^ c.ilog2.result) same c.ilog2.ensures.next_power_gt)
    asked let_in
