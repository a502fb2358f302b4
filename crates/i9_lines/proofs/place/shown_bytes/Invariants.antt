use Rattle.std.proofs.Common.{◌≡◌, List, Option}
use Rattle.i9_model.specs.Given.{Given}
use Rattle.i9_model.specs.PrintedText.{overlays}
use Rattle.i9_course.specs.Course.{Item, records_of}
use Rattle.i9_machine.specs.StandsFor.{StandsFor}
use Rattle.i9_lines.proofs.place.shown_bytes.Given as goal
use Rattle.i9_model.specs.Run.{Finish, state_after}

abbrev pub invariant-loop-k : goal.invariant-loop-k
invariant-loop-k l = (g : Given) (h : List Item) (end : Option Finish) → StandsFor g h end l.m → l.list.items ≡ overlays (state_after g (records_of h)) l.a l.k
