use Rattle.std.proofs.Common.{ℕ, ◌+◌, ◌-◌, ◌*◌, ◌/◌, ◌%◌, ◌^◌, List, get_or, sym, ap, ◌∙◌, arith}
use Rattle.i9_model.specs.Writes.{wrapped}
use Rattle.i9_model.specs.Memory.{word_bytes}
use Rattle.i9_model.specs.Frames.{no_frames}
use Rattle.i9_memory.specs.Memory.{memory_of}
use Rattle.i9_ints.proofs.AfterRecords.{byte_beside, byte_within}
use Rattle.i9_ints.proofs.after.byte_after.Goals as goal

pub returns-then-offset-ge-RECORD_SIZE : goal.returns-then-offset-ge-RECORD_SIZE
returns-then-offset-ge-RECORD_SIZE c =
    c.byte.ensures ∙ sym (byte_beside (memory_of c.args.m.now) no_frames c.args.e.now.push c.args.e.now.words c.args.a (omega arith) (omega arith) (omega arith))

pub returns : goal.returns
returns c =
    let m = memory_of c.args.m.now in
    let words = c.args.e.now.words in
    let offset = (c.args.a + (2 ^ 32 - c.record_address-record.result)) % 2 ^ 32 in
    ap (λ (bs : List ℕ). get_or bs (offset % 4) 0) c.word_bytes-bytes.ensures
    ∙ ap (λ (r : ℕ). get_or (word_bytes m (wrapped (r + 4 * (offset / 4))) (get_or words (offset / 4) 0)) (offset % 4) 0) c.record_address-record.ensures
    ∙ sym (byte_within m no_frames c.args.e.now.push words c.args.a (omega arith) (omega arith) (offset / 4) (offset % 4) (omega arith) (omega arith) (omega arith) c.requires)
