-- Orders of a block in which instructions that depend on each other keep theirs.
use Rattle.std.specs.Prelude.{◌≡◌, true, List, [], ◌∷◌, ◌++◌}
use Rattle.std.specs.List.{AllByRecursion}
use Rattle.i9_isa.specs.declared.inst.Inst.{Inst}
use Rattle.i9_tune.specs.Blocks.{is_allowed, AreApart}

-- The second list takes the instructions of the first one, again and again one that is apart from all before it that
-- are not taken yet.
abbrev pub IsOrder : List Inst → List Inst → Type 0
IsOrder block [] = block ≡ []
IsOrder block (x ∷ order) =
    (before : List Inst) × (behind : List Inst) × (block ≡ before ++ x ∷ behind)
    × AllByRecursion (λ i. AreApart i x) before × IsOrder (before ++ behind) order

-- each is allowed
abbrev pub AreAllowed : List Inst → Type 0
AreAllowed block = AllByRecursion (λ i. is_allowed i ≡ true) block
