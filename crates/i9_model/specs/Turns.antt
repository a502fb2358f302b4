-- When records issue and when they are done. A list of records has the newest first.
use Rattle.std.specs.Prelude.{◌≡◌, ◌≢◌, ℕ, ◌+◌, ◌%◌, ◌^◌, ◌<◌, ◌≤◌, max, if◌then◌else◌, Bool, true, false, cond, ◌&&◌}
use Rattle.std.specs.Prelude.{◌||◌, ◌⊎◌, List, [], ◌∷◌, Option, Some, None, IsTrue, nat_lt, nat_le, nat_eq, not}
use Rattle.std.specs.Prelude.{bit_and, bit_or, ◌-◌}
use Rattle.std.specs.Int.{IsBitSet}
use Rattle.std.specs.List.{AllByRecursion, count_by, filter}
use Rattle.i9_isa.specs.declared.inst.Side.{Side}
use Rattle.i9_isa.specs.declared.inst.Side.TheVariants.{Reg, Mem, Ctl}
use Rattle.i9_model.specs.declared.need.Need.{Need}
use Rattle.i9_model.specs.declared.need.TimedNeed.{TimedNeed}
use Rattle.i9_model.specs.declared.need.Placed.{Placed}

-- ---- the rules

abbrev pub same_side : Side → Side → Bool
same_side Reg Reg = true
same_side Mem Mem = true
same_side Ctl Ctl = true
same_side _ _ = false

-- an earlier record with this side keeps the need from its own turn
abbrev pub keeps_side : Side → Need → Bool
keeps_side side n = same_side side n.side || same_side side Ctl

-- the record writes a resource that the need reads or writes
abbrev pub ChangesValue : Need → Need → Type 0
ChangesValue earlier n = (k : ℕ) × IsBitSet earlier.writes k × (IsBitSet n.reads k ⊎ IsBitSet n.writes k)

-- two runs of bytes, each an address and a number, have a byte in common
abbrev pub Overlaps : ℕ × ℕ → ℕ × ℕ → Type 0
Overlaps a b = (i : ℕ) × (j : ℕ) × (i < a.1) × (j < b.1) × ((a.0 + i) % 2 ^ 32 ≡ (b.0 + j) % 2 ^ 32)

-- the record stores to a byte of the need's own words
abbrev pub ChangesWords : Option (ℕ × ℕ) → ℕ × ℕ → Type 0
ChangesWords None code = ⊥
ChangesWords (Some store) code = Overlaps store code

-- The need may issue at the turn t, as far as the earlier record r goes.
pub record Permits (n : Need) (t : ℕ) (r : TimedNeed) : Type 0 where
  -- r has another turn, or leaves the side free
  pub side : IsTrue (keeps_side r.need.side n) → r.issue ≢ t
  -- what r writes is there
  pub values : ChangesValue r.need n → r.done ≤ t
  -- the multiplier is free
  pub slow : IsTrue n.slow → IsTrue r.need.slow → r.done ≤ t
  -- the need's own words are there
  pub words : ChangesWords r.need.store n.code → r.done ≤ t
  -- nothing passes a barrier
  pub barrier : IsTrue r.need.barrier → r.done ≤ t
  -- a barrier, or what stands alone, passes nothing
  pub alone : IsTrue n.barrier ⊎ IsTrue n.alone → r.done ≤ t

-- how many requests are open at the turn t
abbrev pub open_requests : ℕ → List TimedNeed → ℕ
open_requests t rs = count_by (λ r. r.need.request && nat_lt t r.done) rs

-- The need may issue at the turn t, after these records, of which the last issued at the turn last.
pub record CanIssue (last : ℕ) (rs : List TimedNeed) (n : Need) (t : ℕ) : Type 0 where
  pub in_order : last ≤ t
  pub waited : n.not_before ≤ t
  pub each : AllByRecursion (Permits n t) rs
  pub room : IsTrue n.request → open_requests t rs ≤ 2

-- The issue turn of the need: the least at which it may issue.
pub record IssuesAt (last : ℕ) (rs : List TimedNeed) (n : Need) (t : ℕ) : Type 0 where
  pub can : CanIssue last rs n t
  pub least : (u : ℕ) → CanIssue last rs n u → t ≤ u

-- ---- the turns of a list

-- the turn of the last record, at first 1
abbrev pub last_issue : List TimedNeed → ℕ
last_issue [] = 1
last_issue (r ∷ rs) = r.issue

-- the done turn of the last request, or 0
abbrev pub last_request : List TimedNeed → ℕ
last_request [] = 0
last_request (r ∷ rs) = cond r.need.request r.done (last_request rs)

-- the done turn of a need that issues at the turn t after these records
abbrev pub done_turn : List TimedNeed → Need → ℕ → ℕ
done_turn rs n t = cond n.request (max t (last_request rs)) t + n.cost

-- The record stands with its turns after these records.
pub record Follows (rs : List TimedNeed) (r : TimedNeed) : Type 0 where
  pub issue : IssuesAt (last_issue rs) rs r.need r.issue
  pub done : r.done ≡ done_turn rs r.need r.issue

-- Each record has its turns.
abbrev pub IsTimed : List TimedNeed → Type 0
IsTimed [] = Unit {0}
IsTimed (r ∷ rs) = Follows rs r × IsTimed rs

-- every record is done at the turn t, which no record issues after
pub record AreAllDone (rs : List TimedNeed) (t : ℕ) : Type 0 where
  pub in_order : last_issue rs ≤ t
  pub done : AllByRecursion (λ r. r.done ≤ t) rs

-- Each record issues at a turn at which it may, though perhaps not the least.
abbrev pub Solves : List TimedNeed → Type 0
Solves [] = Unit {0}
Solves (r ∷ rs) = CanIssue (last_issue rs) rs r.need r.issue × (r.done ≡ done_turn rs r.need r.issue) × Solves rs

-- the same need, with no later turns
pub record IsNoLater (x y : TimedNeed) : Type 0 where
  pub need : x.need ≡ y.need
  pub issue : x.issue ≤ y.issue
  pub done : x.done ≤ y.done

-- ---- what needs cost

-- neither a request nor slow nor a barrier
abbrev pub is_plain : Need → Bool
is_plain n = not (n.request || n.slow || n.barrier)

-- a need takes a turn at least, and a plain one no more
pub record HasCost (n : Need) : Type 0 where
  pub some : 1 ≤ n.cost
  pub plain : IsTrue (is_plain n) → n.cost ≡ 1

-- a need takes a turn at least
abbrev pub TakesTurns : List TimedNeed → Type 0
TakesTurns rs = AllByRecursion (λ r. 1 ≤ r.need.cost) rs

-- each need takes a turn at least
abbrev pub HaveCosts : List Need → Type 0
HaveCosts ns = AllByRecursion (λ n. 1 ≤ n.cost) ns

-- ---- what is open

-- the records that are open at the turn t
abbrev pub open_at : ℕ → List TimedNeed → List TimedNeed
open_at t rs = filter (λ r. nat_lt t r.done) rs

-- what is known of a list of records by its open ones alone
pub record Pending : Type 0 where
  -- the turn of the last record, at first 1
  pub last : ℕ
  -- the records that are open at it
  pub records : List TimedNeed

-- what is pending of a list of records
abbrev pub pending_of : List TimedNeed → Pending
pending_of rs = record { last = last_issue rs; records = open_at (last_issue rs) rs }

-- the same after a further record
abbrev pub pending_after : Pending → TimedNeed → Pending
pending_after p r = record { last = r.issue; records = r ∷ open_at r.issue p.records }

-- the record stands with its turns after what is pending
pub record FollowsOpen (p : Pending) (r : TimedNeed) : Type 0 where
  pub issue : IssuesAt p.last p.records r.need r.issue
  pub done : r.done ≡ done_turn p.records r.need r.issue

-- every record is done at the turn t, which no record issues after
pub record IsAllDone (p : Pending) (t : ℕ) : Type 0 where
  pub in_order : p.last ≤ t
  pub done : AllByRecursion (λ r. r.done ≤ t) p.records

-- What is pending is what there is of these records.
pub record StandsFor (p : Pending) (rs : List TimedNeed) : Type 0 where
  pub timed : IsTimed rs
  pub costs : TakesTurns rs
  pub pending : p ≡ pending_of rs

-- each request is done no earlier than the one before it
abbrev pub RequestsInOrder : List TimedNeed → Type 0
RequestsInOrder [] = Unit {0}
RequestsInOrder (r ∷ rs) = (IsTrue r.need.request → last_request rs ≤ r.done) × RequestsInOrder rs

-- how many records issue at the turn t
abbrev pub issues_at : ℕ → List TimedNeed → ℕ
issues_at t rs = count_by (λ r. nat_eq r.issue t) rs

-- ---- the turns computed

-- the rules' facts of two needs, as tests
abbrev pub changes_value : Need → Need → Bool
changes_value earlier n = not (nat_eq (bit_and earlier.writes (bit_or n.reads n.writes)) 0)

-- how far b is behind a, modulo 2^32
abbrev pub distance : ℕ → ℕ → ℕ
distance a b = (b + (2 ^ 32 - a % 2 ^ 32)) % 2 ^ 32

-- one of two runs of bytes begins within the other
abbrev pub overlaps : ℕ × ℕ → ℕ × ℕ → Bool
overlaps a b =
    nat_lt 0 a.1 && nat_lt (distance b.0 a.0) b.1
    || nat_lt 0 b.1 && nat_lt (distance a.0 b.0) a.1

abbrev pub changes_words : Option (ℕ × ℕ) → ℕ × ℕ → Bool
changes_words None code = false
changes_words (Some store) code = overlaps store code

-- the need waits until the earlier one is done
abbrev pub waits_for : Need → Need → Bool
waits_for n earlier =
    changes_value earlier n || n.slow && earlier.slow || changes_words earlier.store n.code
    || earlier.barrier || n.barrier || n.alone

-- the least turn that r permits, where so many requests come between it and the need
abbrev pub least_turn : Need → ℕ → TimedNeed → ℕ
least_turn n requests r =
    max
    (if keeps_side r.need.side n then r.issue + 1 else 0)
    (if waits_for n r.need || n.request && r.need.request && nat_le 2 requests then r.done else 0)

-- the least turn from t on that the records permit
abbrev pub turn_from : Need → ℕ → ℕ → List TimedNeed → ℕ
turn_from n t requests [] = t
turn_from n t requests (r ∷ rs) =
    turn_from n (max t (least_turn n requests r)) (requests + (if r.need.request then 1 else 0)) rs

-- the issue turn of a need after records of which the last issued at a turn
abbrev pub issue_turn : ℕ → List TimedNeed → Need → ℕ
issue_turn last rs n = turn_from n (max last n.not_before) 0 rs

-- the need waits for this turn too
abbrev pub waiting_until : ℕ → Need → Need
waiting_until t n = record n { not_before = max t n.not_before }

-- the records with this need after them, from its issue turn
abbrev pub with_turns : List TimedNeed → Need → ℕ → List TimedNeed
with_turns rs n t = record { need = n; issue = t; done = done_turn rs n t } ∷ rs

-- the same at the turn that the rules give it
abbrev pub with_need : List TimedNeed → Need → List TimedNeed
with_need rs n = with_turns rs n (issue_turn (last_issue rs) rs n)

-- the needs, newest first, with their turns
abbrev pub timed : List Need → List TimedNeed
timed [] = []
timed (n ∷ ns) = with_need (timed ns) n

-- the record of a need with its turns
abbrev pub placed_record : Need → Placed → TimedNeed
placed_record n p = record { need = n; issue = p.issue; done = p.done }

-- the greatest done turn, and at least t
abbrev pub done_from : ℕ → List TimedNeed → ℕ
done_from t [] = t
done_from t (r ∷ rs) = done_from (max t r.done) rs

-- the least turn at which every record is done
abbrev pub end_turn : List TimedNeed → ℕ
end_turn rs = done_from (last_issue rs) rs

-- ---- between barriers

-- the same records, so many turns later
abbrev pub later : ℕ → TimedNeed → TimedNeed
later d r = record { need = r.need; issue = r.issue + d; done = r.done + d }

abbrev pub later_by : ℕ → List TimedNeed → List TimedNeed
later_by d [] = []
later_by d (r ∷ rs) = later d r ∷ later_by d rs

-- no record waits for a turn of its own
abbrev pub WaitForNone : List TimedNeed → Type 0
WaitForNone rs = AllByRecursion (λ r. r.need.not_before ≡ 0) rs

-- the last record issues before the one before it is done
abbrev pub overtakes : List TimedNeed → Bool
overtakes [] = false
overtakes (r ∷ []) = false
overtakes (r ∷ earlier ∷ rs) = nat_lt r.issue earlier.done

-- Two needs are the same, or those of barriers, which may differ. No need but a barrier's waits for a turn of its own.
pub record IsAlike (n m : Need) : Type 0 where
  pub barrier : n.barrier ≡ m.barrier
  pub same : n.barrier ≡ false → n ≡ m
  pub wait : n.barrier ≡ false → n.not_before ≡ 0
