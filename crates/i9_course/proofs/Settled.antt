-- With everything landed, memory is that behind the held frames.
use Rattle.std.proofs.Common.{◌≡◌, ℕ, List, [], ◌∷◌, refl, sym, ap, ◌∙◌, arith}
use Rattle.i9_model.specs.declared.frame.Frame.{Frame}
use Rattle.i9_model.specs.Writes.{written}
use Rattle.i9_model.specs.Memory.{Memory, stored, with_words}
use Rattle.i9_model.specs.State.{boot}
use Rattle.i9_model.specs.Step.{Action}
use Rattle.i9_model.specs.Alike.{with_other}
use Rattle.i9_model.specs.HeldFrames.{Cache, over, cache_acted, cache_configured, cache_after, sets_in}
use Rattle.i9_model.specs.Run.{Given, action_done}
use Rattle.i9_model.specs.Late.{settled_memory}
use Rattle.i9_course.specs.Course.{Item, Step, Fence, records_of, frame_writes, all_writes, puts_of, course}
use Rattle.i9_model.proofs.Stored.{stored-append}
use Rattle.i9_model.proofs.Storing.{stored_words_same, words_as_bytes}

frame_bytes : (m : Memory) (f : Frame)
    → with_words m f.address f.words ≡ with_other m (stored m.bytes (frame_writes m f))
frame_bytes m f = words_as_bytes m f.address f.words

-- the order of a word's bytes is that of its region, whatever memory has
all_same : (m : Memory) (bytes : ℕ → ℕ) (fs : List Frame) → all_writes (with_other m bytes) fs ≡ all_writes m fs
all_same m bytes [] = refl
all_same m bytes (f ∷ fs) = grind (arith, stored_words_same, all_same m bytes fs)

over_bytes : (fs : List Frame) (m : Memory) → (over fs m).bytes ≡ stored m.bytes (all_writes m fs)
unfolding over written
over_bytes [] m = refl
over_bytes (f ∷ fs) m =
    let g = stored m.bytes (frame_writes m f) in
    cc (
      frame_bytes m f,
      over_bytes fs (with_other m g),
      all_same m g fs,
      stored-append m.bytes (frame_writes m f) (all_writes m fs),
    )

puts_behind : (n : ℕ) (c : Cache) (a : Action) (m : Memory)
    → (cache_configured m (cache_acted n a c)).behind.bytes ≡ stored c.behind.bytes (puts_of n c a)
unfolding written
puts_behind n c a m = grind (arith, words_as_bytes, over_bytes, stored-append)

pub course_settles : (g : Given) (h : List Item)
    → settled_memory (boot g.image).memory.bytes (course g h).late ≡ (cache_after g (records_of h)).behind.bytes
course_settles g [] = refl
course_settles g (Fence ∷ h) = course_settles g h
course_settles g (Step r ∷ h) =
    let n = sets_in g.sets r.before in
    let c = cache_after g (records_of h) in
    let a = action_done r in
    ap (λ (m : ℕ → ℕ). stored m (puts_of n c a)) (course_settles g h) ∙ sym (puts_behind n c a r.after.memory)
