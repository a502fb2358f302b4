use Rattle.std.proofs.Common.{◌≡◌, ℕ, List, Option, None, Some, true, is_some, IsSome, IfSome}
use Rattle.i9_model.specs.Run.{Given, Finish}
use Rattle.i9_schedule.specs.Plan.{Plan}
use Rattle.i9_course.specs.Course.{Item}
use Rattle.i9_machine.specs.declared.line.Line.{Line}
use Rattle.i9_machine.specs.declared.line.Turn.{Turn}
use Rattle.i9_machine.specs.declared.line.Turn.TheVariants.{On}
use Rattle.i9_machine.specs.declared.machine.Machine.{Machine}
use Rattle.i9_machine.specs.StandsFor.{StandsFor, Follows, ProceedsUntil, AnswersAgain}
use Rattle.i9_machine.specs.InRun.{IsInRun}
use Rattle.i9_machine.specs.Progress.{progress}
use Rattle.i9_machine.proofs.InRuns.{comes_in_run, behind_in_run}
use Rattle.i9_test_machine.proofs.run.proceed_below.Goals as goal

-- what came below a turn was done, or the turn passed
below_in_run : (before m : Machine) (u : ℕ) (answer : Option Turn) (was plan : Plan) (spare : ℕ) (old new : List Line)
    → ((g : Given) (h : List Item) → StandsFor g h None before → Follows g h was → ProceedsUntil g h (Some u) answer spare (progress before was old) (progress m plan new))
    → ((g : Given) (h : List Item) (f : Finish) → StandsFor g h (Some f) before
    → IsSome answer × IfSome answer (λ t. AnswersAgain f t before m old new) × (plan ≡ was))
    → IsInRun before was → IsInRun m plan
below_in_run before m u (Some t) was plan spare old new next again =
    behind_in_run before m t was plan old new
    (λ g h stands follows. let p = (next g h stands follows).1 in comes_in_run g h t (progress p.mid was old) (progress m plan new) p.comes)
    (λ g h f stands. let a = again g h f stands in (a.1, a.2))
below_in_run before m u None was plan spare old new next again =
    behind_in_run before m On was plan old new
    (λ g h stands follows. let p = next g h stands follows in record { given = g; items = h; end = None; stands = p.stands; follows = p.follows })
    (λ g h f stands. let no : is_some {T = Turn} None ≡ true = (again g h f stands).0 in absurd (cc no))

pub returns : goal.returns
returns c =
    let now = c.args.run.now in
    below_in_run now.machine c.proceed_below.new.self c.args.until c.proceed_below.result now.plan c.proceed_below.new.plan _ _ _
    c.proceed_below.ensures.next c.proceed_below.ensures.again c.requires
