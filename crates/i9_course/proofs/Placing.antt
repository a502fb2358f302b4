-- The turns of a course are those that a board gives.
use Rattle.std.proofs.Common.{◌≡◌, List, ◌∷◌, None, ap, ◌∙◌, arith}
use Rattle.i9_model.specs.declared.need.Need.{Need}
use Rattle.i9_model.specs.declared.need.TimedNeed.{TimedNeed}
use Rattle.i9_model.specs.declared.need.Placed.{Placed}
use Rattle.i9_model.specs.HeldFrames.{cache_after}
use Rattle.i9_model.specs.Run.{Given, Record}
use Rattle.i9_model.specs.Turns.{IsTimed, Pending, StandsFor, last_issue, done_turn, issue_turn, waiting_until, placed_record}
use Rattle.i9_model.specs.Late.{turns}
use Rattle.i9_turns.proofs.TurnDropped.{issues-once}
use Rattle.i9_turns.proofs.TurnWhole.{timed-issues}
use Rattle.i9_course.specs.NeedOf.{record_need}
use Rattle.i9_course.specs.Course.{Item, records_of, course, issue_after, late_after, need_after, ahead}
use Rattle.i9_course.proofs.Ahead.{ahead_precise}

pub next_turn : (g : Given) (h : List Item) (n : Need) → (ahead g h).imprecise ≡ None
    → need_after g h (ahead g h).next ≡ n
    → (ahead g h).turn
    ≡ issue_turn (last_issue (turns (course g h).late)) (turns (course g h).late) (waiting_until (course g h).fence n)
next_turn g h n precise is = ahead_precise g h precise ∙ ap (issue_after (course g h)) is

-- a record that stands with its turns is done at the turn that its need gives it
placed_done : (rs : List TimedNeed) (n : Need) (p : Placed) → IsTimed (placed_record n p ∷ rs)
    → done_turn rs n (issue_turn (last_issue rs) rs n) ≡ p.done
placed_done rs n p h = grind (arith, issues-once, timed-issues)

pub placed_turns : (g : Given) (h : List Item) (r : Record) (n : Need) (p : Placed) (b : Pending)
    → record_need g.sets (cache_after g (records_of h)) r ≡ n
    → StandsFor b (placed_record (waiting_until (course g h).fence n) p ∷ turns (course g h).late)
    → ((late_after g h r).timed.need ≡ waiting_until (course g h).fence n) × ((late_after g h r).timed.done ≡ p.done)
placed_turns g h r n p b is stands = grind (arith, placed_done)
