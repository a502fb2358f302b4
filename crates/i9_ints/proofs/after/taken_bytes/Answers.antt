use Rattle.std.proofs.Common.{ℕ, ◌/◌, ◌%◌, ap, ◌∙◌}
use Rattle.arrayvec.specs.ArrayVec.{ArrayVec}
use Rattle.i9_model.specs.Interrupts.{without_bit}
use Rattle.i9_memory.specs.Memory.{memory_of}
use Rattle.i9_ints.specs.After.{memory_after}
use Rattle.i9_ints.proofs.Storing.{both_listed, one_listed}
use Rattle.i9_ints.proofs.after.taken_bytes.Goals as goal
use Rattle.i9_ints.proofs.after.taken_bytes.Goals.{then-left-eq0, else-left-eq0}

pub returns : goal.returns
returns c =
    let m = memory_after (memory_of c.args.m.now) c.args.e.now.push c.args.e.now.words in
    let v = c.args.vector in
    let b = c.pending_place-pending.result in
    let y = c.byte_without_bit-left.result in
    let left = c.byte_without_bit-left.ensures ∙ ap (λ (n : ℕ). without_bit n (v % 8)) c.byte_after.ensures in
    elim c.if-left-eq0.branch [
      | then-left-eq0 w ↦
          both_listed m c.args.table v w.priority_place-priority.result w.byte_without_bit.result b y c.new-bytes.result.items c.if-left-eq0.bytes.items c.push-2.new.self.items
          c.new-bytes.ensures (ap (λ (b : ArrayVec (ℕ × ℕ)). b.items) w.bytes-is ∙ w.push.ensures.items) c.push-2.ensures.items w.priority_place-priority.ensures
          (w.byte_without_bit.ensures ∙ ap (λ (n : ℕ). without_bit n (v / 8 % 8)) w.byte_after-priorities.ensures)
          c.pending_place-pending.ensures left w.if-left-eq0.true
      | else-left-eq0 w ↦
          one_listed m c.args.table v b y c.if-left-eq0.bytes.items c.push-2.new.self.items (ap (λ (b : ArrayVec (ℕ × ℕ)). b.items) w.bytes-is ∙ c.new-bytes.ensures) c.push-2.ensures.items c.pending_place-pending.ensures left w.if-left-eq0.false
    ]
