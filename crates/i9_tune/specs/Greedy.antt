-- The turns of a block, and the greedy order of it.
use Rattle.std.specs.Prelude.{◌≡◌, ℕ, ◌<◌, ◌≤◌, nat_lt, not, ◌&&◌, ◌||◌, Bool, true, false, if◌then◌else◌, Some, None}
use Rattle.std.specs.Prelude.{List, [], ◌∷◌, ◌++◌, length, map, reverse}
use Rattle.std.specs.List.{AllByRecursion, list_any}
use Rattle.i9_isa.specs.declared.inst.Inst.{Inst}
use Rattle.i9_isa.specs.Valid.{IsValid}
use Rattle.i9_model.specs.declared.need.Facts.{Facts}
use Rattle.i9_model.specs.declared.need.Need.{Need}
use Rattle.i9_model.specs.declared.need.TimedNeed.{TimedNeed}
use Rattle.i9_model.specs.Needs.{has_access, inst_need}
use Rattle.i9_model.specs.Turns.{changes_value, last_issue, issue_turn, timed, end_turn}
use Rattle.i9_tune.specs.Blocks.{is_allowed}

-- each is valid and allowed
abbrev pub AreTunable : List Inst → Type 0
AreTunable block = AllByRecursion (λ i. IsValid i × (is_allowed i ≡ true)) block

-- ---- turns

-- What is known of an instruction of a block: it raises and meets nothing, and its load or store waits for nothing. Its
-- address is not known, and what it accesses is neither the port page nor the block; no byte stands for that.
abbrev pub plain_facts : Inst → Facts
plain_facts i = record {
  ip = 0;
  access = if has_access i.op then Some (0, 0) else None;
  port = false;
  waits = 0;
  frames = 0;
  fault = false;
  trace = false;
  hazard = false;
  alone = false;
}

abbrev pub plain_need : Inst → Need
plain_need i = inst_need i (plain_facts i)

-- instructions with their turns from an empty board on, the newest first
abbrev pub turns_of : List Inst → List TimedNeed
turns_of is = timed (map plain_need is)

-- the least turn at which all of a block is done
abbrev pub span_of : List Inst → ℕ
span_of block = end_turn (turns_of (reverse block))

-- the turn at which an instruction issues next, behind those that are taken, the newest first
abbrev pub next_issue : List Inst → Inst → ℕ
next_issue taken i = issue_turn (last_issue (turns_of taken)) (turns_of taken) (plain_need i)

-- ---- the greedy order

-- one writes what the other reads or writes, or both are loads or stores
abbrev pub depends : Inst → Inst → Bool
depends i j =
    changes_value (plain_need i) (plain_need j) || changes_value (plain_need j) (plain_need i)
    || (plain_need i).request && (plain_need j).request

-- an instruction depends on none of those before it
abbrev pub is_free : List Inst → Inst → Bool
is_free before i = not (list_any (λ e. depends e i) before)

-- each that depends on none of those before it has a property; so many stand before them all
abbrev pub AllFree : (Inst → Type 0) → List Inst → List Inst → Type 0
AllFree P before [] = Unit {0}
AllFree P before (i ∷ is) = (is_free before i ≡ true → P i) × AllFree P (before ++ i ∷ []) is

-- Of the instructions that are left, with these before it and these behind it, x is the one to take: of those that
-- depend on none before them it issues first, and of more than one it is the earliest.
pub record IsChosen (taken before : List Inst) (x : Inst) (behind : List Inst) : Type 0 where
  pub free : is_free before x ≡ true
  pub earlier : AllFree (λ i. next_issue taken x < next_issue taken i) [] before
  pub later : AllFree (λ i. next_issue taken x ≤ next_issue taken i) (before ++ x ∷ []) behind

-- it is the one with so many before it
abbrev pub IsChosenAt : List Inst → List Inst → ℕ → Type 0
IsChosenAt taken left k =
    (before : List Inst) × (x : Inst) × (behind : List Inst) × (left ≡ before ++ x ∷ behind) × (length before ≡ k)
    × IsChosen taken before x behind

-- The order takes the one that is to be taken, again and again. Those that are taken stand the newest first.
abbrev pub IsGreedy : List Inst → List Inst → List Inst → Type 0
IsGreedy taken left [] = left ≡ []
IsGreedy taken left (x ∷ order) =
    (before : List Inst) × (behind : List Inst) × (left ≡ before ++ x ∷ behind) × IsChosen taken before x behind
    × IsGreedy (x ∷ taken) (before ++ behind) order

-- an order, where all of it is done earlier, else the block
abbrev pub better : List Inst → List Inst → List Inst
better block order = if nat_lt (span_of order) (span_of block) then order else block

-- the tuned block: the greedy order where that is better
abbrev pub IsTuned : List Inst → List Inst → Type 0
IsTuned block tuned = (order : List Inst) × IsGreedy [] block order × (tuned ≡ better block order)
