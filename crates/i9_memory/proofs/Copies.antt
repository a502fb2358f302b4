-- The pages of a copy, level by level.
use Rattle.std.proofs.Common.{◌≡◌, ℕ, zero, suc, ◌/◌, ◌%◌, List, [], ◌∷◌, get_or, vec_len, refl}
use Rattle.std.specs.Prelude.{Option, Some, None}
use Rattle.std.specs.List.{AllZip}
use Rattle.std.specs.declared.vec.Vec.{Vec}
use Rattle.i9_memory.specs.Table.{list_at, IsCopy}

-- what holds of two lists, place by place, holds at a place of them, or both lack it
zip-at : {X : Type 0} (R : Option X → Option X → Type 0) → R None None → (xs ys : List (Option X)) (k : ℕ) → AllZip R xs ys
    → R (get_or xs k None) (get_or ys k None)
zip-at R none [] [] k h = none
zip-at R none [] (y ∷ ys) k h = absurd h
zip-at R none (x ∷ xs) [] k h = absurd h
zip-at R none (x ∷ xs) (y ∷ ys) zero h = h.0
zip-at R none (x ∷ xs) (y ∷ ys) (suc k) h = zip-at R none xs ys k h.1

-- two vectors of which that holds
abbrev pub AreZipped : {X Z : Type 0} → (X → X → Type 0) → Vec X Z → Vec X Z → Type 0
AreZipped R v w = AllZip R v.items w.items × (vec_len w ≡ vec_len v)

lists-at : {X Z : Type 0} (R : X → X → Type 0) (vs ws : List (Vec X Z)) (k : ℕ) → AllZip (AreZipped R) vs ws → AllZip R (list_at vs k) (list_at ws k)
lists-at R [] [] k h = tt
lists-at R [] (w ∷ ws) k h = absurd h
lists-at R (v ∷ vs) [] k h = absurd h
lists-at R (v ∷ vs) (w ∷ ws) zero h = h.0.0
lists-at R (v ∷ vs) (w ∷ ws) (suc k) h = lists-at R vs ws k h.1

-- so it holds of the pages of each number
pages-at : {X Y Z : Type 0} (R : Option X → Option X → Type 0) → R None None → (us vs : List (Vec (Vec (Option X) Y) Z))
    → AllZip (AreZipped (AreZipped R)) us vs → (n : ℕ)
    → R (get_or (list_at (list_at us (n / 65536)) (n / 256 % 256)) (n % 256) None) (get_or (list_at (list_at vs (n / 65536)) (n / 256 % 256)) (n % 256) None)
pages-at R none us vs h n =
    zip-at R none _ _ (n % 256) (lists-at R _ _ (n / 256 % 256) (lists-at (AreZipped R) us vs (n / 65536) h))

-- what holds of two options that are both there, or both lacking
as_copy : {X : Type 0} (R : Option X → Option X → Type 0) (copies : X → X → Type 0) → ((y : X) → R None (Some y) → ⊥)
    → ((x : X) → R (Some x) None → ⊥) → ((x y : X) → R (Some x) (Some y) → copies x y) → (p q : Option X) → R p q → IsCopy copies p q
as_copy R copies none_some some_none both None None h = refl
as_copy R copies none_some some_none both None (Some y) h = absurd (none_some y h)
as_copy R copies none_some some_none both (Some x) None h = some_none x h
as_copy R copies none_some some_none both (Some x) (Some y) h = both x y h

pub pages_copied : {X Y Z : Type 0} (R : Option X → Option X → Type 0) (us vs : List (Vec (Vec (Option X) Y) Z)) → AllZip (AreZipped (AreZipped R)) us vs
    → R None None → (copies : X → X → Type 0) → ((y : X) → R None (Some y) → ⊥) → ((x : X) → R (Some x) None → ⊥)
    → ((x y : X) → R (Some x) (Some y) → copies x y) → (n : ℕ)
    → IsCopy copies (get_or (list_at (list_at us (n / 65536)) (n / 256 % 256)) (n % 256) None) (get_or (list_at (list_at vs (n / 65536)) (n / 256 % 256)) (n % 256) None)
pages_copied R us vs h none copies none_some some_none both n =
    as_copy R copies none_some some_none both _ _ (pages-at R none us vs h n)
