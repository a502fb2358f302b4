-- Where a stop held last.
use Rattle.std.specs.Prelude.{◌≡◌, ℕ, ◌<◌, ◌⊎◌, Bool, true, false, List, [], ◌∷◌, Option, Some, None}
use Rattle.i9_model.specs.declared.view.View.{View}
use Rattle.i9_model.specs.PrintedText.{view_of}
use Rattle.i9_model.specs.Run.{Given, Record, counts_of}
use Rattle.i9_back.specs.Earlier.{IsEarlier}

-- a record is an instruction that has fewer than n up to it, behind which a stop may answer so
abbrev pub Answers : (View → Bool → Type 0) → ℕ → Bool → Record → Type 0
Answers allows n b r = (counts_of r.kind ≡ 1) × (r.after.count < n) × allows (view_of r.after) b

-- a stop may answer false behind a record, where it is such an instruction
abbrev pub IsPassed : (View → Bool → Type 0) → ℕ → Record → Type 0
IsPassed allows n r = counts_of r.kind ≡ 1 → r.after.count < n → allows (view_of r.after) false

-- Of records, the newest instruction below the n-th behind which the stop may answer true, with false behind the later
-- ones: how many instructions there are up to it; and 0 where it may answer false behind all of them.
abbrev pub IsLast : (View → Bool → Type 0) → ℕ → List Record → ℕ → Type 0
IsLast allows n [] c = c ≡ 0
IsLast allows n (r ∷ rs) c = (Answers allows n true r × (c ≡ r.after.count))
    ⊎ (IsPassed allows n r × IsLast allows n rs c)

-- the same, where the stop held behind one of these records, or behind none
abbrev pub HeldLast : (View → Bool → Type 0) → ℕ → List Record → Option ℕ → Type 0
HeldLast allows n [] found = found ≡ None
HeldLast allows n (r ∷ rs) found = (Answers allows n true r × (found ≡ Some r.after.count))
    ⊎ (IsPassed allows n r × HeldLast allows n rs found)

-- the same of a run's first n instructions
pub record IsLastIn (allows : View → Bool → Type 0) (g : Given) (n c : ℕ) : Type 0 where
  pub records : List Record
  pub earlier : IsEarlier g n records
  pub is : IsLast allows n records c
