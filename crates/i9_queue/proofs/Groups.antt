-- Groups of words: the bytes of the first ones.
use Rattle.std.proofs.Common.{◌≡◌, ℕ, ◌≤◌, List, take, sym, ap, ◌∙◌}
use Rattle.i9_isa.specs.declared.size.Size.TheVariants.{Words}
use Rattle.i9_model.specs.Memory.{Memory}
use Rattle.i9_model.specs.Step.{bytes_of_words}
use Rattle.i9_model.proofs.WordBytes.{source_take}
use Rattle.i9_queue.specs.Values.{AreStored}

pub group_stored : (m : Memory) (a n : ℕ) (vs bytes : List ℕ) → n ≤ 4 → bytes ≡ bytes_of_words m a (take n vs) → AreStored (Words n) m a vs bytes
group_stored m a n vs bytes h e s o same has =
    ap (bytes_of_words s.memory a) (sym (source_take s o n h) ∙ ap (take n) has)
    ∙ ap (λ (k : Memory). bytes_of_words k a (take n vs)) same
    ∙ sym e
