-- Memory that is written late.
use Rattle.std.proofs.Common.{◌≡◌, ℕ, ◌≤◌, true, false, List, [], ◌∷◌, ◌++◌, refl, sym, ap, ◌∙◌, inl, inr, arith, append_assoc, append-nil}
use Rattle.std.proofs.lemmas.Bool.{cases_Bool, cases_lt, cond-true, cond-false, le-ltb, and_right}
use Rattle.std.proofs.lemmas.Bool.Decides.{nat_tests}
use Rattle.i9_model.specs.Memory.{stored}
use Rattle.i9_model.proofs.Stored.{stored-append, stored-none}
use Rattle.i9_model.specs.Late.{Late, wait_of, Wait, IsOrderly, IssuedBy, RequestsDone, AllDone, is_waiting, waiting, acted_memory, settled_memory, due_puts, left_waiting, all_puts}

due-append : (u : ℕ) (vs ws : List Wait) → due_puts u (vs ++ ws) ≡ due_puts u vs ++ due_puts u ws
due-append u [] ws = refl
due-append u (v ∷ vs) ws = grind (arith, nat_tests, append_assoc, due-append u vs ws)

left-append : (u : ℕ) (vs ws : List Wait) → left_waiting u (vs ++ ws) ≡ left_waiting u vs ++ left_waiting u ws
left-append u [] ws = refl
left-append u (v ∷ vs) ws = grind (arith, nat_tests, left-append u vs ws)

pub waiting-yes : (t : ℕ) (x : Late) (xs : List Late) → is_waiting t x ≡ true → waiting t (x ∷ xs) ≡ waiting t xs ++ wait_of x ∷ []
waiting-yes t x xs h = cond-true _ _ _ h

pub waiting-no : (t : ℕ) (x : Late) (xs : List Late) → is_waiting t x ≡ false → waiting t (x ∷ xs) ≡ waiting t xs
waiting-no t x xs h = cond-false _ _ _ h

pub acted-yes : (m : ℕ → ℕ) (t : ℕ) (x : Late) (xs : List Late) → is_waiting t x ≡ true → acted_memory m t (x ∷ xs) ≡ acted_memory m t xs
acted-yes m t x xs h = cond-true _ _ _ h

pub acted-no : (m : ℕ → ℕ) (t : ℕ) (x : Late) (xs : List Late) → is_waiting t x ≡ false → acted_memory m t (x ∷ xs) ≡ stored (acted_memory m t xs) x.puts
acted-no m t x xs h = cond-false _ _ _ h

pub waits-not : (t : ℕ) (x : Late) → x.timed.done ≤ t → is_waiting t x ≡ false
waits-not t x d = and_right _ _ (le-ltb t x.timed.done d)

requests-later : (t u : ℕ) (xs : List Late) → t ≤ u → RequestsDone t xs → RequestsDone u xs
requests-later t u [] le h = tt
requests-later t u (x ∷ xs) le h = ((λ w. let d : x.timed.done ≤ t = h.0 w in omega arith), requests-later t u xs le h.1)

pub all-requests : (t : ℕ) (xs : List Late) → AllDone t xs → RequestsDone t xs
all-requests t [] h = tt
all-requests t (x ∷ xs) h = ((λ w. h.0), all-requests t xs h.1)

-- where no request is open, none waits
pub none-wait : (t : ℕ) (xs : List Late) → RequestsDone t xs → waiting t xs ≡ []
none-wait t [] h = refl
none-wait t (x ∷ xs) h = grind (arith, nat_tests, h.0, none-wait t xs h.1)

pub acted-still : (m : ℕ → ℕ) (t u : ℕ) (xs : List Late) → t ≤ u → RequestsDone t xs → acted_memory m u xs ≡ acted_memory m t xs
acted-still m t u [] le h = refl
acted-still m t u (x ∷ xs) le h = grind (arith, nat_tests, h.0, acted-still m t u xs le h.1)

-- the memory once what is due by u has landed
Moves : (ℕ → ℕ) → ℕ → ℕ → List Late → Type 0
Moves m t u xs = acted_memory m u xs ≡ stored (acted_memory m t xs) (due_puts u (waiting t xs))

moves : (m : ℕ → ℕ) (t u : ℕ) (xs : List Late) → t ≤ u → IssuedBy t xs → IsOrderly xs → Moves m t u xs
unfolding Moves
moves m t u [] le i o = sym (stored-none m)
moves m t u (x ∷ xs) le i o =
    let before = moves m t u xs le i.1 o.1 in
    let old = acted_memory m t xs in
    let last = due-append u (waiting t xs) (wait_of x ∷ []) in
    let both = stored-append old (due_puts u (waiting t xs)) x.puts in
    let still : RequestsDone t xs → (waiting t xs ≡ []) × (acted_memory m u xs ≡ old) = λ r. (none-wait t xs r, acted-still m t u xs le r) in
    let ends = append-nil x.puts in
    let none = append-nil (due_puts u (waiting t xs)) in
    elim (cases_Bool x.timed.need.request) [
      | inl q ↦ elim (cases_lt t x.timed.done) [
        | inr done ↦ let same = still (requests-later x.timed.done t xs done (o.0.requests q)) in grind (arith, nat_tests, stored-none (stored old x.puts))
        | inl now ↦ grind (arith, nat_tests)
      ]
      | inr n ↦ elim (o.0.others n) [
        | inl plain ↦ grind (arith, stored-none (acted_memory m u xs), stored-none old)
        | inr all ↦ let same = still (requests-later x.timed.issue t xs i.0 (all-requests x.timed.issue xs all)) in grind (arith, stored-none (stored old x.puts))
      ]
    ]

-- The turn moves on: the requests that are due are stored, in order.
pub memory-lands : (m : ℕ → ℕ) (t u : ℕ) (xs : List Late) → t ≤ u → IssuedBy t xs → IsOrderly xs → acted_memory m u xs ≡ stored (acted_memory m t xs) (due_puts u (waiting t xs))
unfolding Moves
memory-lands m t u xs le i o = moves m t u xs le i o

-- and the others stay in the queue
pub waiting-lands : (t u : ℕ) (xs : List Late) → t ≤ u → waiting u xs ≡ left_waiting u (waiting t xs)
waiting-lands t u [] le = refl
waiting-lands t u (x ∷ xs) le = grind (arith, nat_tests, left-append, append-nil, waiting-lands t u xs le)

-- The memory after all waiting requests is the settled one.
all-last : (vs : List Wait) (w : Wait) → all_puts (vs ++ w ∷ []) ≡ all_puts vs ++ w.puts
all-last [] w = append-nil w.puts
all-last (v ∷ vs) w = ap (λ ps. v.puts ++ ps) (all-last vs w) ∙ sym (append_assoc v.puts (all_puts vs) w.puts)

settled-still : (m : ℕ → ℕ) (t : ℕ) (xs : List Late) → RequestsDone t xs → acted_memory m t xs ≡ settled_memory m xs
settled-still m t [] h = refl
settled-still m t (x ∷ xs) h = grind (arith, nat_tests, h.0, settled-still m t xs h.1)

pub memory-settles : (m : ℕ → ℕ) (t : ℕ) (xs : List Late) → IssuedBy t xs → IsOrderly xs → stored (acted_memory m t xs) (all_puts (waiting t xs)) ≡ settled_memory m xs
memory-settles m t [] i o = stored-none m
memory-settles m t (x ∷ xs) i o =
    let before = memory-settles m t xs i.1 o.1 in
    let old = acted_memory m t xs in
    let last = all-last (waiting t xs) (wait_of x) in
    let both = stored-append old (all_puts (waiting t xs)) x.puts in
    let still : RequestsDone t xs → (waiting t xs ≡ []) × (old ≡ settled_memory m xs) = λ r. (none-wait t xs r, settled-still m t xs r) in
    elim (cases_Bool x.timed.need.request) [
      | inl q ↦ elim (cases_lt t x.timed.done) [
        | inr done ↦ let same = still (requests-later x.timed.done t xs done (o.0.requests q)) in grind (arith, nat_tests, stored-none (stored old x.puts))
        | inl now ↦ grind (arith, nat_tests)
      ]
      | inr n ↦ elim (o.0.others n) [
        | inl plain ↦ grind (arith, stored-none old, stored-none (settled_memory m xs))
        | inr all ↦ let same = still (requests-later x.timed.issue t xs i.0 (all-requests x.timed.issue xs all)) in grind (arith, stored-none (stored old x.puts))
      ]
    ]
