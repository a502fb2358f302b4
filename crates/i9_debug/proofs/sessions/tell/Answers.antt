use Rattle.i9_lines.proofs.Prints.{prints_same, prints_refused}
use Rattle.i9_debug.proofs.sessions.tell.Goals as goal

pub returns-in-Ok-told_text-clause-told : goal.returns-in-Ok-told_text-clause-told
returns-in-Ok-told_text-clause-told g c = λ what p of is at_place.
    prints_same _ _ _ _ _ _ (c.in-Ok-told_text.ensures what p.items p.end at_place.stands (c.in-Ok.ensures.change what p of is at_place))
    (rw c.deref.ensures.value at c.print_text.ensures.prints)

pub returns-in-Err-told_text-clause-told : goal.returns-in-Err-told_text-clause-told
returns-in-Err-told_text-clause-told g c = λ what p of is at_place. prints_refused _ _ _

pub returns-in-Err-clause-told : goal.returns-in-Err-clause-told
returns-in-Err-clause-told g c = λ what p of is at_place. prints_refused _ _ _
