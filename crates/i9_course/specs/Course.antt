-- A run with its turns: its records and the fences of settling, and each record with its need, its turns and its
-- writes.
use Rattle.std.specs.Prelude.{◌≡◌, ℕ, nat_lt, ◌&&◌, Bool, if◌then◌else◌, Option, Some, None, List, [], ◌∷◌, ◌++◌}
use Rattle.std.specs.Prelude.{length}
use Rattle.i9_model.specs.declared.frame.Frame.{Frame}
use Rattle.i9_model.specs.declared.need.Need.{Need}
use Rattle.i9_model.specs.declared.need.TimedNeed.{TimedNeed}
use Rattle.i9_model.specs.Writes.{upwards}
use Rattle.i9_model.specs.Memory.{Memory}
use Rattle.i9_model.specs.State.{State}
use Rattle.i9_model.specs.Step.{Move, Stays, Saves, Returns, Flushes, Action, bytes_of_words}
use Rattle.i9_model.specs.Standing.{stands_at}
use Rattle.i9_model.specs.HeldFrames.{Cache, sets_in, cache_after}
use Rattle.i9_model.specs.declared.event.Event.{Event}
use Rattle.i9_model.specs.ScheduleText.{standing_by}
use Rattle.i9_model.specs.Run.{Given, Kind, Faulted, Record, Next, Does, action_done, next_by_standing, state_after}
use Rattle.i9_model.specs.Run.{reached_after, next_with}
use Rattle.i9_model.specs.Turns.{last_issue, issue_turn, done_turn, end_turn, waiting_until}
use Rattle.i9_model.specs.Late.{Late, turns}
use Rattle.i9_model.specs.Fences.{Fenced}
use Rattle.i9_model.specs.Fences as fences
use Rattle.i9_course.specs.NeedOf.{is_early, record_need, need_ahead}

-- a record, or a fence of settling: nothing behind a fence issues before all that stands before it is done
pub data Item : Type 0 where
  Step : (done : Record) → Item
  Fence : Item

-- the records, without the fences
abbrev pub records_of : List Item → List Record
records_of [] = []
records_of (Step r ∷ h) = r ∷ records_of h
records_of (Fence ∷ h) = records_of h

-- ---- what goes to the memory behind the held frames

-- the bytes of a frame at its address, each word in the order of its own region
abbrev pub frame_writes : Memory → Frame → List (ℕ × ℕ)
frame_writes m f = upwards f.address (bytes_of_words m f.address f.words)

-- the bytes of the oldest frame, where one is held
abbrev pub oldest_writes : Memory → List Frame → List (ℕ × ℕ)
oldest_writes m [] = []
oldest_writes m (f ∷ fs) = frame_writes m f

-- the bytes of all frames, the oldest first
abbrev pub all_writes : Memory → List Frame → List (ℕ × ℕ)
all_writes m [] = []
all_writes m (f ∷ fs) = frame_writes m f ++ all_writes m fs

-- what a move writes: a save where all of n sets are taken spills the oldest frame, and a flush writes all frames
abbrev pub move_writes : ℕ → Cache → Move → List (ℕ × ℕ)
move_writes n c Stays = []
move_writes n c (Saves save words) = if nat_lt (length c.held) n then [] else oldest_writes c.behind c.held
move_writes n c Returns = []
move_writes n c Flushes = all_writes c.behind c.held

-- all bytes that an action brings to memory: those of the frames that it moves, and then its own
abbrev pub puts_of : ℕ → Cache → Action → List (ℕ × ℕ)
puts_of n c a = move_writes n c a.move ++ a.writes

-- ---- records with their turns

-- the records with their turns, newest first, and the turn of the last fence
pub record Course : Type 0 where
  pub late : List Late
  pub fence : ℕ

-- the turn at which a need issues next
abbrev pub issue_after : Course → Need → ℕ
issue_after k need = issue_turn (last_issue (turns k.late)) (turns k.late) (waiting_until k.fence need)

-- a need with its turns where it issues next
abbrev pub timed_after : Course → Need → TimedNeed
timed_after k need = record {
  need = waiting_until k.fence need;
  issue = issue_after k need;
  done = done_turn (turns k.late) (waiting_until k.fence need) (issue_after k need);
}

-- a record where it issues next, from what is held before it, where this number of sets is asked for
abbrev pub late_of : Option ℕ → Cache → Record → Course → Late
late_of asked c r k = record {
  timed = timed_after k (record_need asked c r);
  after = r.after;
  puts = puts_of (sets_in asked r.before) c (action_done r);
}

-- a course with one more record
abbrev pub with_late : Course → Late → Course
with_late k x = record k { late = x ∷ k.late }

-- a course with a fence, which asks for the turn at which all records are done
abbrev pub with_fence : Course → Course
with_fence k = record k { fence = end_turn (turns k.late) }

-- the course of a list of items, the newest first
abbrev pub course : Given → List Item → Course
course g [] = record { late = []; fence = 0 }
course g (Step r ∷ h) = with_late (course g h) (late_of g.sets (cache_after g (records_of h)) r (course g h))
course g (Fence ∷ h) = with_fence (course g h)

-- a record that is done after these items
abbrev pub late_after : Given → List Item → Record → Late
late_after g h r = late_of g.sets (cache_after g (records_of h)) r (course g h)

-- the needs of the items, with their fences
abbrev pub needs_of : Given → List Item → List fences.Item
needs_of g [] = []
needs_of g (Step r ∷ h) = fences.Placed (record_need g.sets (cache_after g (records_of h)) r) ∷ needs_of g h
needs_of g (Fence ∷ h) = fences.Fence ∷ needs_of g h

-- the turns of a course, and of its last fence
abbrev pub turns_of : Course → Fenced
turns_of k = record { records = turns k.late; fence = k.fence }

-- ---- what comes next

-- the need of what comes after these items
abbrev pub need_after : Given → List Item → Next → Need
need_after g h o = need_ahead g.sets (cache_after g (records_of h)) o

-- the turn at which it issues, as far as the records before it let it
abbrev pub issue_of_next : Given → List Item → Next → ℕ
issue_of_next g h o = issue_after (course g h) (need_after g h o)

-- the instruction at the instruction address, as if no entry and no event stood before it
abbrev pub instruction_ahead : State → Next
instruction_ahead s = next_by_standing s (stands_at s)

-- the turn at which it would issue so
abbrev pub instruction_turn : Given → List Item → ℕ
instruction_turn g h = issue_of_next g h (instruction_ahead (state_after g (records_of h)))

-- The event that stands there: the first one of the plan that was not reached, once its count has come, or where the
-- instruction ahead would issue at its turn or later.
abbrev pub event_ahead : Given → List Item → Option Event
event_ahead g h =
    let rs = records_of h in
    standing_by g.plan (length (reached_after rs)) (state_after g rs).count (instruction_turn g h)

-- what comes next, where that event stands
abbrev pub comes_next : Given → List Item → Next
comes_next g h = next_with g (event_ahead g h) (records_of h)

-- the address of an instruction that raised an arithmetic fault
abbrev pub late_fault : Kind → Option ℕ
late_fault (Faulted inst fault) = if is_early fault then None else Some fault.address
late_fault _ = None

-- the address of the last record's instruction, where that raised an arithmetic fault
abbrev pub last_fault : List Record → Option ℕ
last_fault [] = None
last_fault (r ∷ rs) = late_fault r.kind

-- the turn at which the last record is done, at first 1
abbrev pub last_done : List Late → ℕ
last_done [] = 1
last_done (x ∷ xs) = x.timed.done

-- the instruction ahead is within the length, and would issue before the last record is done
abbrev pub is_overtaken : Given → List Item → Bool
is_overtaken g h =
    let s = state_after g (records_of h) in
    nat_lt s.count g.length && nat_lt (instruction_turn g h) (last_done (course g h).late)

-- the address of an arithmetic fault that is imprecise: its instruction is overtaken
abbrev pub imprecise_at : Given → List Item → Option ℕ
imprecise_at g h = if is_overtaken g h then last_fault (records_of h) else None

-- what would issue next: behind an imprecise fault the instruction ahead, and else what comes next
abbrev pub to_issue : Given → List Item → Option ℕ → Next
to_issue g h (Some a) = instruction_ahead (state_after g (records_of h))
to_issue g h None = comes_next g h

-- The address of an imprecise fault, which ends the run; what comes next where there is none; and the turn of either.
pub record Ahead : Type 0 where
  pub imprecise : Option ℕ
  pub next : Next
  pub turn : ℕ

-- what lies ahead, where this fault is imprecise, or none
abbrev pub ahead_by : Given → List Item → Option ℕ → Ahead
ahead_by g h fault = record {
  imprecise = fault;
  next = comes_next g h;
  turn = issue_of_next g h (to_issue g h fault);
}

-- what lies ahead after these items
abbrev pub ahead : Given → List Item → Ahead
ahead g h = ahead_by g h (imprecise_at g h)

-- the items of a run: each record is what comes next, where no fault is imprecise, and a fence may stand anywhere
abbrev pub IsCourse : Given → List Item → Type 0
IsCourse g [] = Unit {0}
IsCourse g (Step r ∷ h) = IsCourse g h × ((ahead g h).imprecise ≡ None) × ((ahead g h).next ≡ Does r)
IsCourse g (Fence ∷ h) = IsCourse g h
