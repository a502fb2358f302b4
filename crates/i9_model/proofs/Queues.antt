-- Requests that wait: one more at the end, and what lands of them.
use Rattle.std.proofs.Common.{◌≡◌, ℕ, ◌<◌, ◌≤◌, List, ◌∷◌, ◌++◌, refl, sym, ap, ◌∙◌, inl, inr, arith, []}
use Rattle.std.specs.List.{AllByRecursion}
use Rattle.std.proofs.lemmas.Bool.{cond-true, cond-false, lt-leb, le-leb, cases_lt}
use Rattle.i9_model.specs.Late.{Wait, due_puts, left_waiting, AreDueInOrder, all_puts}
use Rattle.i9_model.specs.Memory.{stored}
use Rattle.i9_model.proofs.Stored.{stored-append, stored-none}

-- ---- one more at the end

-- each is due by a turn
abbrev pub AllBefore : ℕ → List Wait → Type 0
AllBefore d ws = AllByRecursion (λ v. v.due ≤ d) ws

pub all-append : (P : Wait → Type 0) (vs : List Wait) (w : Wait) → AllByRecursion P vs → P w → AllByRecursion P (vs ++ w ∷ [])
all-append P [] w h p = (p, tt)
all-append P (v ∷ vs) w h p = (h.0, all-append P vs w h.1 p)

pub order-append : (vs : List Wait) (w : Wait) → AreDueInOrder vs → AllBefore w.due vs → AreDueInOrder (vs ++ w ∷ [])
order-append [] w h b = (tt, tt)
order-append (v ∷ vs) w h b = (all-append (λ u. v.due ≤ u.due) vs w h.0 b.0, order-append vs w h.1 b.1)

-- ---- what is due

pub take-due : (u : ℕ) (w : Wait) (ws : List Wait) → w.due ≤ u → (due_puts u (w ∷ ws) ≡ w.puts ++ due_puts u ws) × (left_waiting u (w ∷ ws) ≡ left_waiting u ws)
take-due u w ws h = (cond-true _ _ _ (le-leb w.due u h), cond-true _ _ _ (le-leb w.due u h))

pub none-due : (u : ℕ) (ws : List Wait) → AllByRecursion (λ v. u < v.due) ws → (due_puts u ws ≡ []) × (left_waiting u ws ≡ ws)
none-due u [] h = (refl, refl)
none-due u (w ∷ ws) h = grind (arith, cond-false, lt-leb, none-due u ws h.1)

pub all-later : (u d : ℕ) (ws : List Wait) → u < d → AllByRecursion (λ v. d ≤ v.due) ws → AllByRecursion (λ v. u < v.due) ws
all-later u d [] lt h = tt
all-later u d (w ∷ ws) lt h = (let le : d ≤ w.due = h.0 in omega arith, all-later u d ws lt h.1)

-- what lands leaves what is settled
pub landed_settles : (m : ℕ → ℕ) (u : ℕ) (ws : List Wait) → AreDueInOrder ws → stored (stored m (due_puts u ws)) (all_puts (left_waiting u ws)) ≡ stored m (all_puts ws)
landed_settles m u [] o = stored-none (stored m [])
landed_settles m u (w ∷ ws) o = elim (cases_lt u w.due) [
  | inl waits ↦
      let none = none-due u (w ∷ ws) (waits, all-later u w.due ws waits o.0) in
      ap (λ (ps : List (ℕ × ℕ)). stored (stored m ps) (all_puts (left_waiting u (w ∷ ws)))) none.0
      ∙ ap (λ (g : ℕ → ℕ). stored g (all_puts (left_waiting u (w ∷ ws)))) (stored-none m)
      ∙ ap (λ (vs : List Wait). stored m (all_puts vs)) none.1
  | inr over ↦
      let due = take-due u w ws over in
      ap (λ (ps : List (ℕ × ℕ)). stored (stored m ps) (all_puts (left_waiting u (w ∷ ws)))) due.0
      ∙ ap (λ (vs : List Wait). stored (stored m (w.puts ++ due_puts u ws)) (all_puts vs)) due.1
      ∙ ap (λ (g : ℕ → ℕ). stored g (all_puts (left_waiting u ws))) (stored-append m w.puts (due_puts u ws))
      ∙ landed_settles (stored m w.puts) u ws o.1
      ∙ sym (stored-append m w.puts (all_puts ws))
]
