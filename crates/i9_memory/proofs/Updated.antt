-- What an update of one page leaves of the others.
use Rattle.std.proofs.Common.{◌≡◌, ◌≢◌, ℕ, Bool, true, false, refl, sym, subst, arith}
use Rattle.std.specs.Prelude.{Option, Some, None, IsSome, OnSome, ◌==◌, if◌then◌else◌}
use Rattle.std.proofs.lemmas.Bool.Decides.{nat_tests}
use Rattle.i9_memory.specs.declared.table.PageTable.{PageTable}
use Rattle.i9_memory.specs.Table.{page_at, Updates}

-- what is asked of an option that has a value
pub at_some : {A P : Type 0} (o : Option A) (x : A) → o ≡ Some x → OnSome o P → P
at_some None x e h = absurd (cc)
at_some (Some y) x e h = h

module _ {T : Type 0} (old new : PageTable T) (number : ℕ) (page : Option T) (updates : Updates old number page new) where
  pub updated_here : (n : ℕ) → n ≡ number → page_at new n ≡ page
  updated_here n e = let is = updates n in grind (arith, nat_tests, is)

  pub updated_elsewhere : (n : ℕ) → n ≢ number → page_at new n ≡ page_at old n
  updated_elsewhere n ne = let is = updates n in grind (arith, nat_tests, is)

still_there : {T : Type 0} (b : Bool) (o q : Option T) (page : T) → q ≡ (if b then Some page else o) → IsSome o → IsSome q
still_there true o q page e h = subst IsSome (sym e) refl
still_there false o q page e h = subst IsSome (sym e) h

-- what was there still is
pub updated_keeps : {T : Type 0} (old new : PageTable T) (number : ℕ) (page : T) → Updates old number (Some page) new → (n : ℕ) → IsSome (page_at old n) → IsSome (page_at new n)
updated_keeps old new number page updates n h = still_there (n == number) (page_at old n) (page_at new n) page (updates n) h

-- and where the number had a page, or not at all, no other is there
came_before : {T : Type 0} (b : Bool) (o q new : Option T) → q ≡ (if b then new else o) → (b ≡ true → IsSome o) → IsSome q → IsSome o
came_before true o q new e h there = h refl
came_before false o q new e h there = subst IsSome e there

pub updated_adds_none : {T : Type 0} (old new : PageTable T) (number : ℕ) (page : Option T) → Updates old number page new → IsSome (page_at old number) → (n : ℕ) → IsSome (page_at new n) → IsSome (page_at old n)
updated_adds_none old new number page updates was n h =
    came_before (n == number) (page_at old n) (page_at new n) page (updates n) (λ e. let same : number ≡ n = grind (arith, nat_tests) in subst (λ k. IsSome (page_at old k)) same was) h
