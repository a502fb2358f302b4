use Rattle.std.proofs.Common.{◌≡◌, ℕ, ◌+◌, ◌≤◌, List, [], ◌∷◌, ◌++◌, length, map, reverse, take, Some, None, refl, sym, arith}
use Rattle.std.specs.List.{slice_get}
use Rattle.std.proofs.lemmas.List.{map-append, take_more, length-reverse}
use Rattle.std.proofs.lemmas.Option.{slice_get_within, slice_get_cases, get_or_from_slice_get, none-some}
use Rattle.i9_lines.proofs.place.save_addresses.Goals as goal
use Rattle.i9_lines.proofs.place.save_addresses.Goals.{in-Some+in_ok-push, in_default}

mapped_more : {A B : Type 0} (f : A → B) (xs : List A) (k : ℕ) (x : A) → slice_get xs k ≡ Some x
    → map f (take (k + 1) xs) ≡ map f (take k xs) ++ f x ∷ []
mapped_more f xs k x is =
    rw (take_more xs k x (slice_get_within xs k x is), map-append, get_or_from_slice_get xs k x x is) refl

none_past : {A : Type 0} (xs : List A) (k : ℕ) → slice_get xs k ≡ None → length xs ≤ k
none_past xs k is = grind (arith, slice_get_cases, none-some)

pub loop-k-preserved : goal.loop-k-preserved
loop-k-preserved c =
    let fs = reverse c.args.sets.now.frames in
    elim c.match-at.branch [
      | in-Some+in_ok-push w ↦
          let more = mapped_more (λ f. f.address) fs c.loop-k.k w.in-Some.frame.now (sym w.in-Some.ensures) in
          rw (w.list-is, more, ← c.loop-k.invariant) w.in_ok-push.ensures.items
      | in_default w ↦
          let past = none_past fs c.loop-k.k (sym w.in_default.ensures) in
          absurd (omega (arith, past, length-reverse c.args.sets.now.frames))
    ]
