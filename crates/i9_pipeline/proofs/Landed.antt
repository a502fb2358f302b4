-- What shows of memory along a run.
use Rattle.std.proofs.Common.{◌++◌, length-append, take, ◌≡◌, ℕ, zero, suc, ◌+◌, ◌<◌, ◌≤◌, Bool, true, false, not, cond, List, [], ◌∷◌, length, map, Option, Some, None, unwrap_or, inl, inr, refl, sym, ap, ◌∙◌, arith}
use Rattle.std.specs.Prelude.{◌==◌}
use Rattle.std.specs.Option.{option_or}
use Rattle.std.specs.List.{AllByRecursion}
use Rattle.std.proofs.lemmas.Bool.{cases_Bool, cases_lt, cond-true, cond-false, and_from, and_left, and_parts, le-leb, lt-leb, lt-ltb, le-ltb, eqb-true, or_left, both_ways}
use Rattle.std.proofs.lemmas.Option.{none-some}
use Rattle.i9_model.specs.declared.frame.Frame.{Frame}
use Rattle.i9_model.specs.Alike.{is_hard}
use Rattle.i9_model.specs.Frames.{places, in_frames}
use Rattle.i9_model.specs.HeldFrames.{over, cache_after, youngest_first, AreYoungest}
use Rattle.i9_model.specs.Memory.{Memory, stored}
use Rattle.i9_model.specs.Run.{Given, state_after}
use Rattle.i9_model.specs.State.{boot}
use Rattle.i9_model.specs.Turns.{Permits, IsTimed, last_issue, end_turn}
use Rattle.i9_model.specs.Late.{Late, turns, acted_memory, settled_memory, AllDone, IsQuiet, AreQuiet}
use Rattle.i9_model.specs.Writes.{wrapped, upwards, last_put, or_earlier}
use Rattle.i9_model.proofs.Stored.{stored-none}
use Rattle.i9_turns.proofs.LateMemories.{acted-yes, acted-no, waits-not}
use Rattle.i9_turns.proofs.LateOrder.{permitted-barrier}
use Rattle.i9_agree.proofs.HeldRuns.{cached-after}
use Rattle.i9_model.proofs.Storing.{stored_kept}
use Rattle.i9_turns.proofs.TurnFences.{all-end}
use Rattle.i9_course.specs.Course.{Item, records_of, course, IsCourse}
use Rattle.i9_course.proofs.Orderly.{course_events}
use Rattle.i9_course.proofs.Settled.{course_settles}
use Rattle.i9_course.proofs.Timed.{course_timed, course_quiet}
use Rattle.i9_shade.specs.Shade.{Piece, Kept, byte_of, first_byte}
use Rattle.i9_shade.proofs.First.{shows-none}
use Rattle.i9_pipeline.specs.Raw.{raw_memory, stood, HaveStood, Hides, standing, shades, IsShaded}

-- ---- the bytes that are kept

-- the bytes of a row are those of the memory
last_byte : (f : ℕ → ℕ) (x b here : ℕ) (after : Option ℕ) (same : Bool) → (after ≡ Some b → b ≡ f x) → (x == here) ≡ same
    → or_earlier after (cond same (Some (f here)) None) ≡ Some b → b ≡ f x
last_byte f x b here after same rest h e = grind (arith, rest, eqb-true)

row_byte : (f : ℕ → ℕ) (a n x b : ℕ) → last_put (upwards a (map f (places a n))) x ≡ Some b → b ≡ f x
unfolding last_put
row_byte f a zero x b is = absurd (none-some b is)
row_byte f a (suc n) x b is =
    last_byte f x b (wrapped a) (last_put (upwards (a + 1) (map f (places (a + 1) n))) x) (x == wrapped a) (row_byte f (a + 1) n x b) refl is

-- so are those that pieces give
first_of : (f : ℕ → ℕ) (p : Piece) (x b : ℕ) (here after : Option ℕ) → p ≡ stood f p.address (length p.bytes) → byte_of p x ≡ here
    → (after ≡ Some b → b ≡ f x) → option_or here after ≡ Some b → b ≡ f x
first_of f p x b (Some v) after same h rest e =
    row_byte f p.address (length p.bytes) x b (sym (ap (λ (q : Piece). byte_of q x) same) ∙ h ∙ e)
first_of f p x b None after same h rest e = rest e

piece_byte : (f : ℕ → ℕ) (ps : List Piece) (x b : ℕ) → HaveStood f ps → first_byte ps x ≡ Some b → b ≡ f x
piece_byte f [] x b same is = absurd (none-some b is)
piece_byte f (p ∷ ps) x b same is = first_of f p x b (byte_of p x) (first_byte ps x) same.0 refl (piece_byte f ps x b same.1) is

-- with them laid over memory behind the writes, memory before them shows
hidden_shows : (f : ℕ → ℕ) (puts : List (ℕ × ℕ)) (k : Kept) (t x : ℕ) → t < k.due → Hides f puts k.pieces
    → unwrap_or (first_byte k.pieces x) (stored f puts x) ≡ f x
hidden_shows f puts k t x later h = each (first_byte k.pieces x) refl
  where
    each : (o : Option ℕ) → first_byte k.pieces x ≡ o → unwrap_or o (stored f puts x) ≡ f x
    each (Some b) e = piece_byte f k.pieces x b h.same e
    each None e = elim ((shows-none k x t later).0 e) [
      | inl le ↦ absurd (omega (arith, later, le))
      | inr all ↦ stored_kept f puts x (inl (h.covers x all))
    ]

-- ---- along a run

raw-yes : (first : ℕ → ℕ) (t : ℕ) (x : Late) (xs : List Late) → x.timed.done ≤ t → raw_memory first t (x ∷ xs) ≡ stored (raw_memory first t xs) x.puts
raw-yes first t x xs done = cond-true _ _ _ (le-leb x.timed.done t done)

raw-no : (first : ℕ → ℕ) (t : ℕ) (x : Late) (xs : List Late) → t < x.timed.done → raw_memory first t (x ∷ xs) ≡ raw_memory first t xs
raw-no first t x xs later = cond-false _ _ _ (lt-leb x.timed.done t later)

raw_done : (first : ℕ → ℕ) (t : ℕ) (xs : List Late) → AllDone t xs → raw_memory first t xs ≡ settled_memory first xs
raw_done first t [] h = refl
raw_done first t (x ∷ xs) h = raw-yes first t x xs h.0 ∙ ap (λ (m : ℕ → ℕ). stored m x.puts) (raw_done first t xs h.1)

acted_done : (first : ℕ → ℕ) (t : ℕ) (xs : List Late) → AllDone t xs → acted_memory first t xs ≡ settled_memory first xs
acted_done first t [] h = refl
acted_done first t (x ∷ xs) h =
    acted-no first t x xs (waits-not t x h.0) ∙ ap (λ (m : ℕ → ℕ). stored m x.puts) (acted_done first t xs h.1)

-- those that shade are done
abbrev ShadersDone : ℕ → List Late → Type 0
ShadersDone t xs = AllByRecursion (λ x. shades x ≡ true → x.timed.done ≤ t) xs

-- then what has acted is what shows
acted_shows : (first : ℕ → ℕ) (t : ℕ) (xs : List Late) → AreQuiet xs → ShadersDone t xs → acted_memory first t xs ≡ raw_memory first t xs
acted_shows first t [] quiet done = refl
acted_shows first t (x ∷ xs) quiet done =
    let before = acted_shows first t xs quiet.1 done.1 in
    elim (cases_lt t x.timed.done) [
      | inr over ↦
          acted-no first t x xs (waits-not t x over) ∙ ap (λ (m : ℕ → ℕ). stored m x.puts) before ∙ sym (raw-yes first t x xs over)
      | inl later ↦ elim (cases_Bool x.timed.need.request) [
        | inl request ↦ acted-yes first t x xs (and_from _ _ request (lt-ltb t x.timed.done later)) ∙ before ∙ sym (raw-no first t x xs later)
        | inr other ↦
            let none : x.puts ≡ [] = by_kind x t other later quiet.0 done.0 in
            acted-no first t x xs (and_left _ _ other) ∙ ap (stored (acted_memory first t xs)) none ∙ stored-none (acted_memory first t xs)
            ∙ before ∙ sym (raw-no first t x xs later)
      ]
    ]
  where
    by_kind : (x : Late) (t : ℕ) → x.timed.need.request ≡ false → t < x.timed.done → IsQuiet x → (shades x ≡ true → x.timed.done ≤ t) → x.puts ≡ []
    by_kind x t other later quiet done = elim (quiet other) [
      | inl none ↦ none
      | inr barrier ↦
          let le : x.timed.done ≤ t = done (and_from _ _ barrier (ap not other)) in
          absurd (omega (arith, later, le))
    ]

-- nothing passes a barrier
barriers_before : (t u : ℕ) (x : Late) (xs : List Late) → x.timed.issue ≤ u → AllByRecursion (Permits x.timed.need x.timed.issue) (turns xs) → ShadersDone u xs
barriers_before t u x [] le h = tt
barriers_before t u x (y ∷ ys) le h = (
  λ is. let done : y.timed.done ≤ x.timed.issue = h.0.barrier (and_parts _ _ is).0 in omega (arith, done, le),
  barriers_before t u x ys le h.1,
)

pub all_later : (t u : ℕ) (xs : List Late) → t ≤ u → AllDone t xs → AllDone u xs
all_later t u [] le h = tt
all_later t u (x ∷ xs) le h = (let one : x.timed.done ≤ t = h.0 in omega (arith, one, le), all_later t u xs le h.1)

-- from the turn on at which those that shade are done nothing is laid over memory
no_shade : (first : ℕ → ℕ) (t : ℕ) (xs : List Late) (k : Kept) (a : ℕ) → AreQuiet xs → IsShaded first xs k → ShadersDone t xs
    → standing k t (acted_memory first t xs) a ≡ raw_memory first t xs a
no_shade first t xs k a quiet h done =
    let over : k.due ≤ t = h.over t done in
    ap (λ (o : Option ℕ). unwrap_or o (acted_memory first t xs a)) (cond-false _ _ _ (le-ltb t k.due over))
    ∙ ap (λ (m : ℕ → ℕ). m a) (acted_shows first t xs quiet done)

run_shows : (first : ℕ → ℕ) (t : ℕ) (xs : List Late) (k : Kept) (a : ℕ) → IsTimed (turns xs) → AreQuiet xs → last_issue (turns xs) ≤ t → IsShaded first xs k
    → standing k t (acted_memory first t xs) a ≡ raw_memory first t xs a
run_shows first t [] k a timed quiet le h = no_shade first t [] k a quiet h tt
run_shows first t (x ∷ xs) k a timed quiet le h =
    let before = barriers_before t t x xs le timed.0.issue.can.each in
    elim (cases_Bool (shades x)) [
      | inr plain ↦ no_shade first t (x ∷ xs) k a quiet h ((λ is. absurd (both_ways (shades x) plain is)), before)
      | inl shading ↦ elim (cases_lt t x.timed.done) [
        | inr over ↦ no_shade first t (x ∷ xs) k a quiet h ((λ is. over), before)
        | inl later ↦
            let parts = and_parts _ _ shading in
            let done = all_later x.timed.issue t xs le (permitted-barrier x.timed.need x.timed.issue xs parts.0 timed.0.issue.can.each) in
            let last = h.last shading in
            let due : k.due ≡ x.timed.done = last.1 in
            let other : x.timed.need.request ≡ false = not_true x.timed.need.request parts.1 in
            let acted : acted_memory first t (x ∷ xs) ≡ stored (settled_memory first xs) x.puts =
            acted-no first t x xs (and_left _ _ other) ∙ ap (λ (m : ℕ → ℕ). stored m x.puts) (acted_done first t xs done) in
            ap (λ (o : Option ℕ). unwrap_or o (acted_memory first t (x ∷ xs) a)) (cond-true _ _ _ (lt-ltb t k.due (omega (arith, due, later))))
            ∙ ap (λ (m : ℕ → ℕ). unwrap_or (first_byte k.pieces a) (m a)) acted
            ∙ hidden_shows (settled_memory first xs) x.puts k t a (omega (arith, due, later)) last.0
            ∙ sym (ap (λ (m : ℕ → ℕ). m a) (raw-no first t x xs later ∙ raw_done first t xs done))
      ]
    ]
  where
    not_true : (b : Bool) → not b ≡ true → b ≡ false
    not_true b e = grind arith

pub course_shows : (g : Given) (h : List Item) (t : ℕ) (k : Kept) (a : ℕ) → last_issue (turns (course g h).late) ≤ t → IsShaded (boot g.image).memory.bytes (course g h).late k
    → standing k t (acted_memory (boot g.image).memory.bytes t (course g h).late) a ≡ raw_memory (boot g.image).memory.bytes t (course g h).late a
course_shows g h t k a le shaded = run_shows (boot g.image).memory.bytes t (course g h).late k a (course_timed g h) (course_quiet g h) le shaded

-- ---- what is hidden

pub none_hidden : (first : ℕ → ℕ) (k : Kept) → k.due ≡ 0 → IsShaded first [] k
none_hidden first k none = record { over = λ t done. omega (arith, none); last = tt }

pub record_hides : (first : ℕ → ℕ) (x : Late) (xs : List Late) (k : Kept) → Hides (settled_memory first xs) x.puts k.pieces → k.due ≡ x.timed.done
    → shades x ≡ true → IsShaded first (x ∷ xs) k
record_hides first x xs k hides due is = record {
  over = λ t done. let le : x.timed.done ≤ t = done.0 is in omega (arith, due, le);
  last = λ same. (hides, due);
}

pub record_leaves : (first : ℕ → ℕ) (x : Late) (xs : List Late) (k : Kept) → shades x ≡ false → IsShaded first xs k → IsShaded first (x ∷ xs) k
record_leaves first x xs k beside h = record {
  over = λ t done. h.over t done.1;
  last = λ is. absurd (both_ways (shades x) beside is);
}

-- ---- where nothing is open and no frame is live

not_empty : (xs : List ℕ) (x : ℕ) → xs ++ x ∷ [] ≡ [] → ⊥
not_empty xs x none = omega (arith, length-append xs (x ∷ []), ap (λ (ys : List ℕ). length ys) none)

no_frame_held : (held : List Frame) (live : List ℕ) → AreYoungest held live → live ≡ [] → held ≡ []
no_frame_held [] live youngest none = refl
no_frame_held (f ∷ fs) live youngest none =
    absurd (not_empty (youngest_first fs) f.address (youngest.first ∙ ap (take (suc (length fs))) none))

nothing_over : (held : List Frame) (m : Memory) → held ≡ [] → over held m ≡ m
unfolding over
nothing_over held m none = ap (λ (fs : List Frame). over fs m) none

pub done_by : (t : ℕ) (xs : List Late) → AllByRecursion (λ r. r.done ≤ t) (turns xs) → AllDone t xs
done_by t [] h = tt
done_by t (x ∷ xs) h = (h.0, done_by t xs h.1)

pub flushed_raw : (g : Given) (h : List Item) (t a : ℕ) → IsCourse g h → end_turn (turns (course g h).late) ≤ t
    → (state_after g (records_of h)).frames.live ≡ [] → is_hard (state_after g (records_of h)).frames a ≡ true
    → raw_memory (boot g.image).memory.bytes t (course g h).late a ≡ (state_after g (records_of h)).memory.bytes a
flushed_raw g h t a past le none hard =
    let xs = (course g h).late in
    let first = (boot g.image).memory.bytes in
    let s = state_after g (records_of h) in
    let c = cache_after g (records_of h) in
    let cached = cached-after g (records_of h) (course_events g h past) in
    let done = all_later (end_turn (turns xs)) t xs le (done_by (end_turn (turns xs)) xs (all-end (turns xs)).done) in
    let behind = nothing_over c.held c.behind (no_frame_held c.held s.frames.live cached.youngest none) in
    ap (λ (f : ℕ → ℕ). f a) (raw_done first t xs done ∙ course_settles g h)
    ∙ sym (ap (λ (m : Memory). m.bytes a) behind)
    ∙ cached.bytes a (or_left (is_hard s.frames a) (in_frames s.frames.live a) hard)
