-- Why few records are open.
use Rattle.std.specs.Prelude.{◌≡◌, ℕ, ◌+◌, ◌<◌, ◌≤◌, ◌^◌, ◌&&◌, if◌then◌else◌, max, List, [], ◌∷◌, length, reverse}
use Rattle.std.specs.Prelude.{take, IsTrue, nat_eq}
use Rattle.std.specs.List.{AllByRecursion, count_by}
use Rattle.i9_isa.specs.declared.inst.Side.{Side}
use Rattle.i9_model.specs.declared.need.Need.{Need}
use Rattle.i9_model.specs.declared.need.TimedNeed.{TimedNeed}
use Rattle.i9_model.specs.Turns.{same_side, keeps_side, Pending, RequestsInOrder, is_plain, done_from, last_request}

-- What is known of the open records, of which the last issued at the turn last.
pub record Fits (last : ℕ) (rs : List TimedNeed) : Type 0 where
  pub issued : AllByRecursion (λ r. r.issue ≤ last) rs
  pub are_open : AllByRecursion (λ r. last < r.done) rs
  pub plain : AllByRecursion (λ r. IsTrue (is_plain r.need) → r.done ≡ r.issue + 1) rs
  pub in_order : RequestsInOrder rs
  pub requests : count_by (λ r. r.need.request) rs ≤ 3
  pub slow : count_by (λ r. r.need.slow) rs ≤ 1
  pub sides : (side : Side) → count_by (λ r. same_side side r.need.side && nat_eq r.issue last) rs ≤ 1
  pub barrier : 0 < count_by (λ r. r.need.barrier) rs → length rs ≤ 1

-- What the scoreboard keeps of its open records, of which so many stand at the front of a list, the oldest first: the
-- turn at which all are done, and one that is that of the last request, or is not above the last issue turn where that
-- is not.
pub record Holds (last until asked count : ℕ) (places : List TimedNeed) : Type 0 where
  pub few : count ≤ 7
  pub whole : length places ≡ 7
  pub fits : Fits last (reverse (take count places))
  pub end : until ≡ done_from last (reverse (take count places))
  pub request : max last asked ≡ max last (last_request (reverse (take count places)))

-- The turns are far from the largest number.
pub record IsEarly (p : Pending) (n : Need) : Type 0 where
  pub last : p.last < 2 ^ 62
  pub done : AllByRecursion (λ r. r.done < 2 ^ 62) p.records
  pub waited : n.not_before < 2 ^ 62
  pub cost : n.cost < 2 ^ 32

-- the turn from which the newest record leaves the need its side; 0 where it does not keep it
abbrev pub side_from : Need → List TimedNeed → ℕ
side_from n [] = 0
side_from n (r ∷ rs) = if keeps_side r.need.side n then r.issue + 1 else 0
