use Rattle.std.proofs.Common.{◌≡◌, List, Option}
use Rattle.i9_model.specs.Given.{Given}
use Rattle.i9_course.specs.Course.{Item}
use Rattle.i9_machine.specs.StandsFor.{StandsFor}
use Rattle.i9_lines.specs.PlaceText.{raw_bytes}
use Rattle.i9_lines.proofs.place.standing_bytes.Given as goal
use Rattle.i9_model.specs.Run.{Finish}

abbrev pub invariant-loop-k : goal.invariant-loop-k
invariant-loop-k l = (g : Given) (h : List Item) (end : Option Finish) → StandsFor g h end l.m → l.list.items ≡ raw_bytes g h l.m.pipeline.turn l.a l.k
