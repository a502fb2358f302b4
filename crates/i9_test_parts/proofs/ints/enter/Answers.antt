use Rattle.std.proofs.Common.{◌≡◌, ap, ◌∙◌, arith}
use Rattle.i9_model.specs.declared.layout.TheConstants.{RECORD_SIZE}
use Rattle.i9_model.specs.Memory.{with_words}
use Rattle.i9_model.specs.State.{Frames}
use Rattle.i9_model.specs.Frames.{record_address, saved, wrote_run}
use Rattle.i9_memory.specs.Memory.{memory_of}
use Rattle.i9_watch.specs.Watch.{frames_of}
use Rattle.i9_ints.proofs.AfterRecords.{clears_freely}
use Rattle.i9_test_parts.proofs.ints.enter.Goals as goal

-- what was planned is met once the frame is saved and the record is written
pub take-requires-clause-free : goal.take-requires-clause-free
take-requires-clause-free c =
    let m = memory_of c.args.memory.now in
    let f = frames_of c.args.watch.now in
    let push = c.in-Ok.entry.push in
    let words = c.in-Ok.entry.words in
    let stores : memory_of c.put_words.new.self ≡ with_words m (record_address push.frame) words = cc in
    let wrote : frames_of c.wrote.new.self ≡ wrote_run (saved f push.save) (record_address push.frame) RECORD_SIZE =
    c.wrote.ensures.frames
    ∙ ap (λ (g : Frames). wrote_run g (record_address push.frame) RECORD_SIZE) (c.called.ensures.frames ∙ ap (λ (g : Frames). saved g push.save) c.reserve-in-Ok-2.ensures.frames)
    in
    clears_freely c.args.chosen.now.cause m (memory_of c.put_words.new.self) f (frames_of c.wrote.new.self) push words 16384 c.args.chosen.now.vector (omega arith)
    stores wrote c.in-Ok.ensures.take
