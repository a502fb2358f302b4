use Rattle.std.proofs.Common.{◌≡◌, ℕ, ◌<◌, ◌^◌, List, None, length, sym, ap, ◌∙◌, subst}
use Rattle.i9_isa.specs.Transfers.{byte_count}
use Rattle.i9_model.specs.Hazards.{write_hazard}
use Rattle.i9_model.specs.Operands.{address}
use Rattle.i9_model.specs.Stale.{stored_marks}
use Rattle.i9_model.specs.Step.{Action, passing, moved, storing, stored_of}
use Rattle.i9_model.proofs.Lengths.{stored_long}
use Rattle.i9_watch.specs.Bits.{bits_of}
use Rattle.i9_processor.specs.State.{state_of}
use Rattle.i9_plan.proofs.Marking.{row_same, can_keep}
use Rattle.i9_plan.proofs.transfers.plan_store.Goals as goal

pub invariant_of-effect : goal.invariant_of-effect
invariant_of-effect c =
    let s = state_of c.args.p.now in
    let size = c.args.m.transfer.size in
    let long = ap (λ (bs : List ℕ). length bs) c.stored-effect.ensures ∙ stored_long size s c.args.i.now.c c.args.m.address in
    record {
      rest = c.args.effect.now.rest;
      marked = λ some. record { some = subst (λ (n : ℕ). c.stored_marks-effect.result < 2 ^ n) (sym long) c.stored_marks-effect.ensures.few; requests = c.requires.passes.requests };
    }

pub returns-clause-plans : goal.returns-clause-plans
returns-clause-plans c =
    let i = c.args.i.now in
    let s = state_of c.args.p.now in
    let size = c.args.m.transfer.size in
    let at = address s i.ea in
    let e = c.args.effect.now in
    let passes = c.requires.passes in
    let m = c.stored_marks-effect.result in
    let bytes = c.stored-effect.ensures ∙ ap (stored_of size s i.c) c.requires.place in
    let long = ap (λ (bs : List ℕ). length bs) bytes ∙ stored_long size s i.c at in
    let marks = ap (bits_of m) long ∙ c.stored_marks-effect.ensures.marks in
    let free = ap (λ (n : ℕ). write_hazard s.frames c.args.m.address n) (sym c.bytes.ensures) ∙ sym c.check_write.ensures ∙ c.in_default.is in (
      subst (λ (a : ℕ). write_hazard s.frames a (byte_count size) ≡ None) c.requires.place free,
      record {
        same = row_same s (passing i s) e c.args.m.address at c.stored-effect.result.items (stored_of size s i.c at) m (stored_marks size s i.c) passes.effect.same passes.requests c.requires.place bytes marks;
        registers = passes.effect.registers;
        posts = passes.effect.posts;
        changes = passes.effect.changes;
        moves = passes.effect.moves;
        controls = can_keep (moved s (storing size i s)) e.control (ap (λ (a : Action). a.control) passes.effect.same);
      },
    )
