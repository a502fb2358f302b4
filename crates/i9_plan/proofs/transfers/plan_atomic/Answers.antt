use Rattle.std.proofs.Common.{ℕ, Bool, List, [], ◌∷◌, length, refl, sym, ap, ◌∙◌}
use Rattle.std.specs.Prelude.{◌||◌}
use Rattle.i9_model.specs.Hazards.{write_hazard}
use Rattle.i9_model.specs.Memory.{word_bytes}
use Rattle.i9_model.specs.Writes.{wrapped, upwards}
use Rattle.i9_model.specs.Stale.{byte_marks, picked, word_mark}
use Rattle.i9_model.specs.Step.{Action, answering, atomic_address, marking, moved}
use Rattle.i9_model.proofs.Lengths.{four_bytes}
use Rattle.i9_watch.specs.Bits.{bits_of}
use Rattle.i9_processor.specs.State.{state_of}
use Rattle.i9_plan.proofs.MarkLists.{one_bit}
use Rattle.i9_plan.proofs.Marking.{values_marked, row_same, can_keep}
use Rattle.i9_plan.proofs.transfers.plan_atomic.Goals as goal

pub returns : goal.returns
returns c =
    let i = c.args.i.now in
    let s = state_of c.args.p.now in
    let at = atomic_address i s in
    let old = word_mark s.frames.soft at in
    let e = c.answering-effect.result in
    let answers = c.answering-effect.ensures in
    let stale = c.is_stale-old_stale.ensures ∙ ap (word_mark s.frames.soft) c.atomic_address-a.ensures in
    let bit = ap (λ (m : ℕ). bits_of m 1) c.from.ensures ∙ one_bit c.is_stale-old_stale.result ∙ ap (λ (b : Bool). b ∷ []) stale in
    let marked = values_marked s (answering i s c.args.old) e i.c (c.args.old ∷ []) (old ∷ []) c.from.result answers.effect refl refl bit in
    let bytes = c.listed-effect.ensures ∙ c.word_bytes.ensures ∙ ap (λ (a : ℕ). word_bytes s.memory a c.args.new) c.atomic_address-a.ensures in
    let long = ap (λ (bs : List ℕ). length bs) bytes ∙ four_bytes s.memory at c.args.new in
    let marks = ap (bits_of c.word_bits.result) long ∙ c.word_bits.ensures.marks ∙ ap (λ (b : Bool). byte_marks ((b || c.args.data_marked) ∷ [])) stale in
    let free = ap (λ (a : ℕ). write_hazard s.frames a 4) (sym c.atomic_address-a.ensures) ∙ sym c.check_write.ensures ∙ c.in_default.is in
    let done : Action = record (marking i.c (old ∷ []) (answering i s c.args.old)) { writes = upwards at (word_bytes s.memory at c.args.new); stale = picked wrapped at (byte_marks ((old || c.args.data_marked) ∷ [])) } in (
      free,
      record {
        same = row_same s (marking i.c (old ∷ []) (answering i s c.args.old)) (record e { marks = c.from.result }) c.atomic_address-a.result at c.listed-effect.result.items (word_bytes s.memory at c.args.new) c.word_bits.result _ marked.same answers.requests c.atomic_address-a.ensures bytes marks;
        registers = marked.registers;
        posts = marked.posts;
        changes = marked.changes;
        moves = marked.moves;
        controls = can_keep (moved s done) e.control (ap (λ (a : Action). a.control) answers.effect.same);
      },
    )
