use Rattle.std.proofs.Common.{◌≡◌, ℕ, true, false, Option, Some, None, sym, ap, ◌∙◌}
use Rattle.i9_model.specs.Hazards.{or_else}
use Rattle.i9_model.specs.Interrupts.{priority_place, pending_place, priority_hazard, byte_hazard}
use Rattle.i9_memory.specs.Memory.{memory_of}
use Rattle.i9_watch.specs.Watch.{frames_of}
use Rattle.i9_ints.specs.After.{memory_after, frames_after}
use Rattle.i9_ints.proofs.AfterRecords.{taken_by_priority, taken_by_pending, taken_by_writes}
use Rattle.i9_ints.proofs.after.taken_hazard_after.Goals as goal

pub returns-then-is_soft_after : goal.returns-then-is_soft_after
returns-then-is_soft_after c =
    let m = memory_of c.args.m.now in
    let n = memory_after m c.args.e.now.push c.args.e.now.words in
    let f = frames_after m (frames_of c.args.w.now) c.args.e.now.push c.args.e.now.words in
    let at = c.priority_place-priority.ensures in
    let soft : f.soft (priority_place c.args.table c.args.vector) ≡ true =
    ap f.soft (sym at) ∙ sym (c.is_soft_after.ensures m) ∙ c.if-is_soft_after.true in
    ap (λ (x : ℕ). Some x) at ∙ sym (taken_by_priority n f c.args.table c.args.vector soft)

pub returns-then-is_soft_after-2 : goal.returns-then-is_soft_after-2
returns-then-is_soft_after-2 c =
    let m = memory_of c.args.m.now in
    let n = memory_after m c.args.e.now.push c.args.e.now.words in
    let f = frames_after m (frames_of c.args.w.now) c.args.e.now.push c.args.e.now.words in
    let at = c.pending_place-pending.ensures in
    let hard : f.soft (priority_place c.args.table c.args.vector) ≡ false =
    ap f.soft (sym c.priority_place-priority.ensures) ∙ sym (c.is_soft_after.ensures m) ∙ c.if-is_soft_after.false in
    let soft : f.soft (pending_place c.args.table c.args.vector) ≡ true =
    ap f.soft (sym at) ∙ sym (c.is_soft_after-2.ensures m) ∙ c.if-is_soft_after-2.true in
    ap (λ (x : ℕ). Some x) at ∙ sym (taken_by_pending n f c.args.table c.args.vector hard soft)

pub returns-in-Some : goal.returns-in-Some
returns-in-Some c =
    let m = memory_of c.args.m.now in
    let n = memory_after m c.args.e.now.push c.args.e.now.words in
    let f = frames_after m (frames_of c.args.w.now) c.args.e.now.push c.args.e.now.words in
    let hard : f.soft (priority_place c.args.table c.args.vector) ≡ false =
    ap f.soft (sym c.priority_place-priority.ensures) ∙ sym (c.is_soft_after.ensures m) ∙ c.if-is_soft_after.false in
    let hard_too : f.soft (pending_place c.args.table c.args.vector) ≡ false =
    ap f.soft (sym c.pending_place-pending.ensures) ∙ sym (c.is_soft_after-2.ensures m) ∙ c.if-is_soft_after-2.false in
    let found : Some c.in-Some.hazard ≡ priority_hazard n f c.args.table c.args.vector = sym c.in-Some.is ∙ c.priority_hazard_after.ensures in
    ap (λ (o : Option ℕ). or_else o (byte_hazard f (pending_place c.args.table c.args.vector))) found
    ∙ sym (taken_by_writes n f c.args.table c.args.vector hard hard_too)

pub returns : goal.returns
returns c =
    let m = memory_of c.args.m.now in
    let n = memory_after m c.args.e.now.push c.args.e.now.words in
    let f = frames_after m (frames_of c.args.w.now) c.args.e.now.push c.args.e.now.words in
    let hard : f.soft (priority_place c.args.table c.args.vector) ≡ false =
    ap f.soft (sym c.priority_place-priority.ensures) ∙ sym (c.is_soft_after.ensures m) ∙ c.if-is_soft_after.false in
    let hard_too : f.soft (pending_place c.args.table c.args.vector) ≡ false =
    ap f.soft (sym c.pending_place-pending.ensures) ∙ sym (c.is_soft_after-2.ensures m) ∙ c.if-is_soft_after-2.false in
    let none : None ≡ priority_hazard n f c.args.table c.args.vector = sym c.in_default.is ∙ c.priority_hazard_after.ensures in
    c.byte_hazard_after.ensures m
    ∙ ap (byte_hazard f) c.pending_place-pending.ensures
    ∙ ap (λ (o : Option ℕ). or_else o (byte_hazard f (pending_place c.args.table c.args.vector))) none
    ∙ sym (taken_by_writes n f c.args.table c.args.vector hard hard_too)
