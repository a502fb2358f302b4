-- What a cell shows at a turn: as the turn moves on, and where a value is planned over one that has landed.
use Rattle.std.proofs.Common.{◌≡◌, ℕ, ◌<◌, ◌≤◌, Bool, true, false, cond, eqb, Option, None, Some, refl, ap, arith}
use Rattle.std.specs.Prelude.{nat_le}
use Rattle.std.specs.Int.{bit_at, IsBitSet}
use Rattle.std.proofs.lemmas.Bool.{cases_Bool}
use Rattle.std.proofs.lemmas.Bool.Decides.{nat_tests}
use Rattle.i9_model.specs.declared.need.Cell.{Cell}
use Rattle.i9_model.specs.Late.{cell, landed, landed_plan, latest, is_plan_open, issued_cell}
use Rattle.i9_model.proofs.SetLaws.{one-set}
use Rattle.i9_regs.specs.File.{with_plan, issued_over}

-- ---- by the turn of a plan

due_shows : (t v : ℕ) (p : ℕ × ℕ) → nat_le p.1 t ≡ true → landed t (cell v (Some p)) ≡ cell p.0 None
due_shows t v p due = ap (λ (b : Bool). cell (cond b p.0 v) (cond b None (Some p))) due

later_waits : (t v : ℕ) (p : ℕ × ℕ) → nat_le p.1 t ≡ false → landed t (cell v (Some p)) ≡ cell v (Some p)
later_waits t v p later = ap (λ (b : Bool). cell (cond b p.0 v) (cond b None (Some p))) later

-- ---- as the turn moves on

later_plan : (t u v : ℕ) (p : ℕ × ℕ) → t ≤ u → landed u (landed t (cell v (Some p))) ≡ landed u (cell v (Some p))
later_plan t u v p le = grind (arith, cases_Bool, nat_tests, due_shows, later_waits)

by_plan : (t u v : ℕ) (p : Option (ℕ × ℕ)) → t ≤ u → landed u (landed t (cell v p)) ≡ landed u (cell v p)
by_plan t u v p le = grind (arith, later_plan)

-- what shows at a later turn is what shows now, landed by then
pub landed_later : (t u : ℕ) (c : Cell) → t ≤ u → landed u (landed t c) ≡ landed u c
landed_later t u c = by_plan t u c.value c.plan

busy_by : (t v : ℕ) (p : Option (ℕ × ℕ)) → is_plan_open t (landed_plan t p) ≡ is_plan_open t p
busy_by t v p = grind (arith, cases_Bool, nat_tests)

pub landed_busy : (t : ℕ) (c : Cell) → is_plan_open t (landed t c).plan ≡ is_plan_open t c.plan
landed_busy t c = busy_by t c.value c.plan

-- ---- where a value is planned

none_not_some : (p : ℕ × ℕ) → Some p ≡ None → ⊥
none_not_some p e = cc

-- where nothing is planned any more, the latest value shows
closed_by : (t v : ℕ) (p : Option (ℕ × ℕ)) → (landed t (cell v p)).plan ≡ None
    → (landed t (cell v p)).value ≡ latest (cell v p)
closed_by t v p none = grind (arith, cases_Bool, due_shows, none_not_some, later_waits)

over_shows : (t done v : ℕ) (c : Cell) → t < done → (landed t c).plan ≡ None
    → landed t (with_plan v done c) ≡ cell (landed t c).value (Some (v, done))
over_shows t done v c before none = grind (arith, nat_tests, later_waits, closed_by)

by_bit : (t writes done r v : ℕ) (c : Cell) (b : Bool) → eqb (bit_at writes r) 1 ≡ b → t < done
    → (IsBitSet writes r → (landed t c).plan ≡ None)
    → landed t (cond b (with_plan v done c) c) ≡ cond b (cell (landed t c).value (Some (v, done))) (landed t c)
by_bit t writes done r v c b is before none = grind (arith, nat_tests, over_shows, one-set)

-- A record that issues at a turn and is done later, where nothing is planned any more for what it writes: what shows then
-- has the value that it had, and what the record leaves is planned for it.
pub issued_shows : (t writes done r v : ℕ) (c : Cell) → t < done → (IsBitSet writes r → (landed t c).plan ≡ None)
    → landed t (issued_over writes done r v c) ≡ issued_cell writes done r v (landed t c)
issued_shows t writes done r v c = by_bit t writes done r v c (eqb (bit_at writes r) 1) refl
