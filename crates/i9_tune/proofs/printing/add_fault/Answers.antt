use Rattle.std.proofs.lemmas.List.{append_assoc}
use Rattle.i9_tune.proofs.printing.add_fault.Goals as goal

pub returns : goal.returns
returns c =
    rw (c.in_ok-push.ensures.items, c.in_ok-add_word.ensures, c.in_ok-add_count.ensures, c.in_ok-extend_from_slice.ensures.items, c.kind.ensures) (simp append_assoc)
