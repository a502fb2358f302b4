-- What the turns say of records that land late, and what may be done at an issue.
use Rattle.std.proofs.Common.{◌≡◌, ℕ, ◌<◌, ◌≤◌, true, false, List, [], ◌∷◌, ◌++◌, inl, inr, arith}
use Rattle.std.specs.Prelude.{IsTrue}
use Rattle.std.specs.Int.{bit_at, IsBitSet}
use Rattle.std.specs.List.{AllByRecursion}
use Rattle.std.proofs.lemmas.Bool.{cases_Bool, cond-true, cond-false, eqb-true, both_ways}
use Rattle.i9_model.specs.declared.need.Need.{Need}
use Rattle.i9_model.specs.declared.need.Cell.{Cell}
use Rattle.i9_model.specs.Memory.{stored}
use Rattle.i9_model.specs.State.{State}
use Rattle.i9_model.specs.Turns.{Permits, CanIssue, IsTimed, TakesTurns, last_issue, last_request, done_turn}
use Rattle.i9_model.specs.Late.{Late, Wait, turns, marks, resource, resources, landed, latest, issued_cell, wait_of, due_puts, left_waiting, Passes, IsOrderly, IssuedBy, WritersDone, RequestsDone, AllDone, IsQuiet, AreQuiet, IsClear, Shows}
use Rattle.i9_model.proofs.SetLaws.{one-set}
use Rattle.i9_turns.proofs.TurnOpen.{done-after, request-after}
use Rattle.i9_turns.proofs.LateRegisters.{plan-none, cell-lands}
use Rattle.i9_turns.proofs.LateMemories.{memory-lands, waiting-lands, none-wait, all-requests}
use Rattle.i9_turns.proofs.LateQueues.{waiting-count}

-- ---- the order of records by the rules of the turns

pub issued-by : (t : ℕ) (xs : List Late) → IsTimed (turns xs) → last_issue (turns xs) ≤ t → IssuedBy t xs
issued-by t [] h le = tt
issued-by t (x ∷ xs) h le = grind (arith, issued-by t xs h.1 (omega arith))

set-bit : (x : Late) (r : ℕ) → marks x r ≡ true → IsBitSet x.timed.need.writes r
set-bit x r w = one-set x.timed.need.writes r (eqb-true (bit_at x.timed.need.writes r) 1 w)

pub permitted-writers : (n : Need) (t r : ℕ) (xs : List Late) → IsBitSet n.writes r → AllByRecursion (Permits n t) (turns xs) → WritersDone r t xs
permitted-writers n t r [] b h = tt
permitted-writers n t r (x ∷ xs) b h = ((λ w. h.0.values (r, set-bit x r w, inr b)), permitted-writers n t r xs b h.1)

pub permitted-barrier : (n : Need) (t : ℕ) (xs : List Late) → IsTrue n.barrier → AllByRecursion (Permits n t) (turns xs) → AllDone t xs
permitted-barrier n t [] b h = tt
permitted-barrier n t (x ∷ xs) b h = (h.0.alone (inl b), permitted-barrier n t xs b h.1)

requests-done : (t : ℕ) (xs : List Late) → IsTimed (turns xs) → last_request (turns xs) ≤ t → RequestsDone t xs
requests-done t [] h le = tt
requests-done t (x ∷ xs) h le =
    let rs = turns xs in
    let d : x.timed.done ≡ done_turn rs x.timed.need x.timed.issue = h.0.done in
    elim (cases_Bool x.timed.need.request) [
      | inl q ↦
          let e : last_request (turns (x ∷ xs)) ≡ x.timed.done = cond-true x.timed.need.request x.timed.done (last_request rs) q in
          let below : last_request rs ≤ done_turn rs x.timed.need x.timed.issue = request-after rs x.timed.need x.timed.issue q in
          ((λ _. omega arith), requests-done t xs h.1 (omega arith))
      | inr n ↦
          let e : last_request (turns (x ∷ xs)) ≡ last_request rs = cond-false x.timed.need.request x.timed.done (last_request rs) n in
          ((λ w. absurd (both_ways x.timed.need.request n w)), requests-done t xs h.1 (omega arith))
    ]

pub passes : (x : Late) (xs : List Late) → IsTimed (turns (x ∷ xs)) → 1 ≤ x.timed.need.cost → IsQuiet x → Passes x xs
passes x xs h c q =
    grind (arith, done-after, permitted-writers, one-set, eqb-true, requests-done, request-after, permitted-barrier)

pub orderly : (xs : List Late) → IsTimed (turns xs) → TakesTurns (turns xs) → AreQuiet xs → IsOrderly xs
orderly [] h c q = tt
orderly (x ∷ xs) h c q = (passes x xs h c.0 q.0, orderly xs h.1 c.1 q.1)

-- ---- what may be done at an issue

pub shows_clear : (first : State) (t : ℕ) (xs : List Late) (cells : ℕ → Cell) (bytes : ℕ → ℕ) (queue : List Wait) (n : Need)
    → Shows first t xs cells bytes queue → CanIssue (last_issue (turns xs)) (turns xs) n t → IsClear cells queue n
shows_clear first t xs cells bytes queue n h can =
    grind (arith, plan-none, permitted-writers, waiting-count, none-wait, all-requests, permitted-barrier)

-- ---- what lands leaves what is settled, with no word on records

pub landed_latest : (u : ℕ) (c : Cell) → latest (landed u c) ≡ latest c
landed_latest u c = grind arith

-- ---- the turn moves, and a record issues

pub shows_moves : (first : State) (t u : ℕ) (xs : List Late) (cells new_cells : ℕ → Cell) (bytes new_bytes : ℕ → ℕ) (queue new_queue : List Wait)
    → Shows first t xs cells bytes queue → t ≤ u → IssuedBy t xs → IsOrderly xs
    → ((r : ℕ) → r < resources → new_cells r ≡ landed u (cells r)) → new_bytes ≡ stored bytes (due_puts u queue) → new_queue ≡ left_waiting u queue
    → Shows first u xs new_cells new_bytes new_queue
shows_moves first t u xs cells new_cells bytes new_bytes queue new_queue h le i o rs ms qs =
    grind (arith, cell-lands, memory-lands, waiting-lands)

pub shows_request : (first : State) (t : ℕ) (x : Late) (xs : List Late) (cells new_cells : ℕ → Cell) (bytes new_bytes : ℕ → ℕ) (queue new_queue : List Wait)
    → Shows first t xs cells bytes queue → t < x.timed.done → x.timed.need.request ≡ true
    → ((r : ℕ) → r < resources → new_cells r ≡ issued_cell x.timed.need.writes x.timed.done r (resource x.after r) (cells r))
    → new_bytes ≡ bytes → new_queue ≡ queue ++ wait_of x ∷ []
    → Shows first t (x ∷ xs) new_cells new_bytes new_queue
shows_request first t x xs cells new_cells bytes new_bytes queue new_queue h d q p ms qs = grind arith

pub shows_other : (first : State) (t : ℕ) (x : Late) (xs : List Late) (cells new_cells : ℕ → Cell) (bytes new_bytes : ℕ → ℕ) (queue new_queue : List Wait)
    → Shows first t xs cells bytes queue → t < x.timed.done → x.timed.need.request ≡ false
    → ((r : ℕ) → r < resources → new_cells r ≡ issued_cell x.timed.need.writes x.timed.done r (resource x.after r) (cells r))
    → new_bytes ≡ stored bytes x.puts → new_queue ≡ queue
    → Shows first t (x ∷ xs) new_cells new_bytes new_queue
shows_other first t x xs cells new_cells bytes new_bytes queue new_queue h d q p ms qs = grind arith
