-- What has landed at a turn, and in which order it lands.
use Rattle.std.proofs.Common.{◌≡◌, ℕ, ◌≤◌, true, List, [], ◌∷◌, sym, ◌∙◌, subst, arith}
use Rattle.std.specs.List.{AllByRecursion}
use Rattle.i9_model.specs.Memory.{stored}
use Rattle.i9_model.specs.HeldFrames.{cache_after}
use Rattle.i9_model.specs.Run.{Given, Record}
use Rattle.i9_model.specs.Turns.{end_turn}
use Rattle.i9_model.specs.Late.{Late, Wait, turns, RequestsDone, AllDone}
use Rattle.i9_turns.proofs.TurnFences.{all-end}
use Rattle.i9_model.proofs.Stored.{stored-none}
use Rattle.i9_turns.proofs.LateQueues.{waits-before}
use Rattle.i9_turns.proofs.LateMemories.{none-wait, all-requests}
use Rattle.i9_course.specs.Course.{Item, Step, records_of, course, late_after}
use Rattle.i9_course.specs.Kernel.{Kernel, Lands}
use Rattle.i9_course.proofs.Settled.{course_settles}
use Rattle.i9_course.proofs.Orderly.{course_orderly}
use Rattle.i9_course.proofs.Steps.{lands_memory}

-- ---- once all records are done

done_by : (t u : ℕ) (xs : List Late) → t ≤ u → AllByRecursion (λ r. r.done ≤ t) (turns xs) → AllDone u xs
done_by t u [] le h = tt
done_by t u (x ∷ xs) le h = (let one : x.timed.done ≤ t = h.0 in omega (arith, one, le), done_by t u xs le h.1)

pub done_landed : (g : Given) (h : List Item) (k : Kernel) → Lands g h k → end_turn (turns (course g h).late) ≤ k.turn
    → k.queue ≡ []
done_landed g h k lands le =
    let xs = (course g h).late in
    let done = done_by (end_turn (turns xs)) k.turn xs le (all-end (turns xs)).done in
    lands.shows.requests ∙ none-wait k.turn xs (all-requests k.turn xs done)

-- ---- the order in which requests land

pub request_last : (g : Given) (h : List Item) (r : Record) (k : Kernel) → Lands g h k
    → (late_after g h r).timed.need.request ≡ true
    → AllByRecursion (λ w. w.due ≤ (late_after g h r).timed.done) k.queue
request_last g h r k lands request =
    let d = (late_after g h r).timed.done in
    let order : RequestsDone d (course g h).late = (course_orderly g (Step r ∷ h)).0.requests request in
    subst (AllByRecursion (λ (w : Wait). w.due ≤ d)) (sym lands.shows.requests)
    (waits-before k.turn d (course g h).late order)

-- ---- where nothing waits

-- memory is that behind the held frames
settled_now : (g : Given) (h : List Item) (k : Kernel) → Lands g h k → k.queue ≡ []
    → (cache_after g (records_of h)).behind.bytes ≡ k.bytes
settled_now g h k lands none = grind (arith, lands_memory, stored-none)

pub acts_at_once : (g : Given) (h : List Item) (r : Record) (k j : Kernel) → Lands g h k → k.queue ≡ []
    → j.bytes ≡ (cache_after g (r ∷ records_of h)).behind.bytes → j.bytes ≡ stored k.bytes (late_after g h r).puts
acts_at_once g h r k j lands none is =
    let x = late_after g h r in
    cc (course_settles g (Step r ∷ h), course_settles g h, settled_now g h k lands none)
