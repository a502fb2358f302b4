-- Registers that are written late.
use Rattle.std.proofs.Common.{◌≡◌, ℕ, ◌<◌, ◌≤◌, true, false, List, [], ◌∷◌, Option, Some, None, refl, ap, ◌∙◌, arith}
use Rattle.std.proofs.lemmas.Bool.{cond-true, cond-false, lt-ltb, lt-leb, and_from, and_left, and_right}
use Rattle.std.proofs.lemmas.Bool.Decides.{nat_tests}
use Rattle.i9_model.specs.State.{State}
use Rattle.i9_model.specs.Late.{Late, resource, resources, cell, IsOrderly, IssuedBy, Leaves, WritersDone, marks, raw_value, planned, cell_at, landed, landed_value, landed_plan, latest, last_state, is_busy, is_plan_open}

pub raw-other : (first : State) (t r : ℕ) (x : Late) (xs : List Late) → marks x r ≡ false → raw_value first t (x ∷ xs) r ≡ raw_value first t xs r
raw-other first t r x xs w = cond-false _ _ _ (and_left _ _ w)

pub raw-open : (first : State) (t r : ℕ) (x : Late) (xs : List Late) → t < x.timed.done → raw_value first t (x ∷ xs) r ≡ raw_value first t xs r
raw-open first t r x xs d = cond-false _ _ _ (and_right _ _ (lt-leb x.timed.done t d))

pub plan-yes : (t r : ℕ) (x : Late) (xs : List Late) → marks x r ≡ true → t < x.timed.done → planned t (x ∷ xs) r ≡ Some (resource x.after r, x.timed.done)
plan-yes t r x xs w d = cond-true _ _ _ (and_from _ _ w (lt-ltb t x.timed.done d))

pub plan-other : (t r : ℕ) (x : Late) (xs : List Late) → marks x r ≡ false → planned t (x ∷ xs) r ≡ planned t xs r
plan-other t r x xs w = cond-false _ _ _ (and_left _ _ w)

pub plan-none : (t r : ℕ) (xs : List Late) → WritersDone r t xs → planned t xs r ≡ None
plan-none t r [] h = refl
plan-none t r (x ∷ xs) h = grind (arith, nat_tests, h.0, plan-none t r xs h.1)

pub raw-still : (first : State) (t u r : ℕ) (xs : List Late) → t ≤ u → WritersDone r t xs → raw_value first u xs r ≡ raw_value first t xs r
raw-still first t u r [] le h = refl
raw-still first t u r (x ∷ xs) le h = grind (arith, nat_tests, h.0, raw-still first t u r xs le h.1)

pub writers-later : (r t u : ℕ) (xs : List Late) → t ≤ u → WritersDone r t xs → WritersDone r u xs
writers-later r t u [] le h = tt
writers-later r t u (x ∷ xs) le h = ((λ w. let d : x.timed.done ≤ t = h.0 w in omega arith), writers-later r t u xs le h.1)

-- what a cell becomes as the turn moves on
Lands : State → ℕ → ℕ → ℕ → List Late → Type 0
Lands first t u r xs = (raw_value first u xs r ≡ landed_value u (planned t xs r) (raw_value first t xs r)) × (planned u xs r ≡ landed_plan u (planned t xs r))

lands : (first : State) (t u r : ℕ) (xs : List Late) → t ≤ u → IssuedBy t xs → IsOrderly xs → Lands first t u r xs
unfolding Lands
lands first t u r [] le i o = (refl, refl)
lands first t u r (x ∷ xs) le i o =
    grind (arith, writers-later, plan-none, raw-still, nat_tests, lands first t u r xs le i.1 o.1)

make_cell : (v w : ℕ) (p q : Option (ℕ × ℕ)) → v ≡ w → p ≡ q → cell v p ≡ cell w q
make_cell v w p q e f = ap (λ x. cell x p) e ∙ ap (cell w) f

-- The turn moves on: what is due lands.
pub cell-lands : (first : State) (t u r : ℕ) (xs : List Late) → t ≤ u → IssuedBy t xs → IsOrderly xs → cell_at first u xs r ≡ landed u (cell_at first t xs r)
unfolding Lands
cell-lands first t u r xs le i o = let l = lands first t u r xs le i o in make_cell _ _ _ _ l.0 l.1

-- A record issues: what it marks is planned, where nothing was.
pub cell-plans : (first : State) (t r : ℕ) (x : Late) (xs : List Late) → marks x r ≡ true → t < x.timed.done → cell_at first t (x ∷ xs) r ≡ cell (raw_value first t xs r) (Some (resource x.after r, x.timed.done))
cell-plans first t r x xs w d = make_cell _ _ _ _ (raw-open first t r x xs d) (plan-yes t r x xs w d)

pub cell-keeps : (first : State) (t r : ℕ) (x : Late) (xs : List Late) → marks x r ≡ false → cell_at first t (x ∷ xs) r ≡ cell_at first t xs r
cell-keeps first t r x xs n = make_cell _ _ _ _ (raw-other first t r x xs n) (plan-other t r x xs n)

-- The latest value is that of the state after all records.
pub cell-latest : (first : State) (t r : ℕ) (xs : List Late) → r < resources → IssuedBy t xs → IsOrderly xs → Leaves first xs → latest (cell_at first t xs r) ≡ resource (last_state first xs) r
cell-latest first t r [] lt i o l = refl
cell-latest first t r (x ∷ xs) lt i o l =
    let before = cell-latest first t r xs lt i.1 o.1 l.1 in
    let same = l.0 r lt in
    let none : marks x r ≡ true → planned t xs r ≡ None = λ w. plan-none t r xs (writers-later r x.timed.issue t xs i.0 (o.0.writers r w)) in
    grind (arith, nat_tests)

-- A register is busy where a value is planned for it.
pub cell-busy : (t r : ℕ) (xs : List Late) → is_plan_open t (planned t xs r) ≡ is_busy t xs r
cell-busy t r [] = refl
cell-busy t r (x ∷ xs) = grind (arith, nat_tests, cell-busy t r xs)
