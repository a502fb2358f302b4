use Rattle.std.proofs.Common.{◌≡◌, ℕ, ◌≤◌, take, sym, ap, subst, ◌∙◌}
use Rattle.i9_isa.specs.declared.size.Size.{Size}
use Rattle.i9_isa.specs.Transfers.{register_count}
use Rattle.i9_memory.specs.Memory.{memory_of}
use Rattle.i9_model.specs.Step.{bytes_of_words}
use Rattle.i9_queue.specs.Values.{AreStored}
use Rattle.i9_queue.proofs.Groups.{group_stored}
use Rattle.i9_queue.proofs.values.store_bytes.Goals as goal

pub returns-in-Words-clause-machine : goal.returns-in-Words-clause-machine
returns-in-Words-clause-machine c =
    let m = memory_of c.args.m.now in
    let a = c.args.a in
    let vs = c.args.v.now in
    let bytes = c.group_bytes.result.items in
    let is : bytes ≡ bytes_of_words m a (take c.in-Words.n vs) = c.group_bytes.ensures ∙ ap (λ (n : ℕ). bytes_of_words m a (take n vs)) c.from.ensures in
    subst (λ (size : Size). register_count size ≤ 4 → AreStored size m a vs bytes) (sym c.in-Words.is) (λ few. group_stored m a c.in-Words.n vs bytes few is)
