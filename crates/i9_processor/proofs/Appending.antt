-- Bytes that are stored after others, one by one.
use Rattle.std.proofs.Common.{◌≡◌, ℕ, ◌+◌, ◌-◌, ◌<◌, ◌||◌, ◌==◌, Bool, true, false, cond, List, [], ◌∷◌, ◌++◌, length, length-append, append-nil, ◌≤◌, ◌⊎◌, inl, inr, find, Some, None, refl, sym, ap, ◌∙◌, arith}
use Rattle.std.specs.List.{slice_get}
use Rattle.std.proofs.lemmas.Option.{slice_get_past}
use Rattle.std.proofs.lemmas.Bool.{eqb-true}
use Rattle.std.proofs.lemmas.Bool.Decides.{nat_tests}
use Rattle.i9_model.specs.declared.layout.TheConstants.{PORT_PAGE, CONSOLE}
use Rattle.i9_model.specs.Writes.{wrapped, places_of, upwards, last_put, written}
use Rattle.i9_model.specs.Memory.{Memory, with_writes, console_byte, exit_word}
use Rattle.i9_model.specs.State.{Frames}
use Rattle.i9_model.specs.Frames.{in_frames, is_put, wrote, softened}
use Rattle.i9_model.specs.Stale.{picked}
use Rattle.i9_watch.specs.Bits.{bits_of}
use Rattle.i9_storage.proofs.Saves.{none_picked}
use Rattle.i9_processor.specs.declared.effect.Effect.{Effect}
use Rattle.i9_model.specs.Hazards.{writes_hazard}
use Rattle.i9_model.specs.HeldFrames.{Cache, cache_stored}
use Rattle.i9_model.proofs.Stored.{stored-append}
use Rattle.i9_model.proofs.Upwards.{last_put-from, one_write}
use Rattle.i9_model.proofs.FrameLaws.{none_wrote}
use Rattle.i9_storage.specs.declared.storage.Storage.{Storage}
use Rattle.i9_storage.specs.Storage.{KeepsSpace}
use Rattle.i9_processor.specs.Effect.{one_in, requests_in, run_in, writes_in, stale_in, AreBelowPort, AreSpacious}

-- ---- writes after others

pub cache_append : (c : Cache) (ps qs : List (ℕ × ℕ)) → cache_stored qs (cache_stored ps c) ≡ cache_stored (ps ++ qs) c
cache_append c ps qs = ap (λ (bytes : ℕ → ℕ). record c { behind = record c.behind { bytes = bytes } }) (sym (stored-append c.behind.bytes ps qs))

pub memory_append : (m : Memory) (ps qs : List (ℕ × ℕ)) → with_writes (with_writes m ps) qs ≡ with_writes m (ps ++ qs)
memory_append m ps qs = ap (λ (bytes : ℕ → ℕ). record m { bytes = bytes }) (sym (stored-append m.bytes ps qs))

pub put_append : (ps qs : List (ℕ × ℕ)) (x : ℕ) → is_put (ps ++ qs) x ≡ (is_put ps x || is_put qs x)
unfolding is_put
put_append [] qs x = refl
put_append (p ∷ ps) qs x = grind (arith, put_append ps qs x)

pub frames_append : (f : Frames) (ps qs : List (ℕ × ℕ)) → wrote (wrote f ps) qs ≡ wrote f (ps ++ qs)
frames_append f ps qs = grind (arith, put_append)

-- ---- with marks

-- bytes of which none gets a mark
pub soft_none : (f : Frames) (a n : ℕ) → softened f (picked wrapped a (bits_of 0 n)) ≡ f
soft_none f a n = ap (softened f) (none_picked wrapped a n)

-- an effect that marks no byte, and one that marks no register
pub unmarked_bytes : (e : Effect) → e.stale ≡ 0 → stale_in e ≡ []
unmarked_bytes e h = grind (arith, none_picked)

-- an effect marks no byte, or stores no bits of requests
marked_alone : (e : Effect) → (stale_in e ≡ []) ⊎ (requests_in e.requests ≡ [])
marked_alone e = grind (arith, unmarked_bytes, eqb-true, nat_tests)

-- so these may as well be stored behind the marks
pub marked_append : (f : Frames) (e : Effect) → wrote (softened (wrote f (run_in e)) (stale_in e)) (requests_in e.requests) ≡ softened (wrote f (writes_in e)) (stale_in e)
marked_append f e = by_which (marked_alone e)
  where
    by_which : (stale_in e ≡ []) ⊎ (requests_in e.requests ≡ []) → wrote (softened (wrote f (run_in e)) (stale_in e)) (requests_in e.requests) ≡ softened (wrote f (writes_in e)) (stale_in e)
    by_which (inl none) =
        ap (λ (ms : List ℕ). wrote (softened (wrote f (run_in e)) ms) (requests_in e.requests)) none
        ∙ frames_append f (run_in e) (requests_in e.requests)
        ∙ ap (softened (wrote f (writes_in e))) (sym none)
    by_which (inr none) =
        ap (wrote (softened (wrote f (run_in e)) (stale_in e))) none
        ∙ none_wrote (softened (wrote f (run_in e)) (stale_in e))
        ∙ ap (λ (ps : List (ℕ × ℕ)). softened (wrote f ps) (stale_in e)) (sym (ap (λ (qs : List (ℕ × ℕ)). run_in e ++ qs) none ∙ append-nil (run_in e)))

-- ---- hazards of each

pub first_free : (f : Frames) (ps qs : List (ℕ × ℕ)) → writes_hazard f (ps ++ qs) ≡ None → writes_hazard f ps ≡ None
unfolding writes_hazard
first_free f [] qs none = refl
first_free f (p ∷ ps) qs none = by_live (in_frames f.live p.0) none (first_free f ps qs)
  where
    by_live : (b : Bool) → cond b (Some p.0) (find (in_frames f.live) (places_of (ps ++ qs))) ≡ None → (find (in_frames f.live) (places_of (ps ++ qs)) ≡ None → find (in_frames f.live) (places_of ps) ≡ None)
        → cond b (Some p.0) (find (in_frames f.live) (places_of ps)) ≡ None
    by_live true e later = absurd cc
    by_live false e later = later e

pub later_free : (f : Frames) (ps qs rs : List (ℕ × ℕ)) → writes_hazard f (ps ++ qs) ≡ None → writes_hazard (wrote f rs) qs ≡ None
unfolding writes_hazard
later_free f [] qs rs none = none
later_free f (p ∷ ps) qs rs none = by_live (in_frames f.live p.0) none (later_free f ps qs rs)
  where
    by_live : (b : Bool) → cond b (Some p.0) (find (in_frames f.live) (places_of (ps ++ qs))) ≡ None → (find (in_frames f.live) (places_of (ps ++ qs)) ≡ None → find (in_frames f.live) (places_of qs) ≡ None)
        → find (in_frames f.live) (places_of qs) ≡ None
    by_live true e later = absurd cc
    by_live false e later = later e

-- ---- one byte

-- ---- no byte

pub none_cache : (c : Cache) → c ≡ cache_stored [] c
unfolding written
none_cache c = refl

pub none_memory : (m : Memory) → m ≡ with_writes m []
unfolding written
none_memory m = refl

pub none_frames : (f : Frames) → f ≡ wrote f []
none_frames f = sym (none_wrote f)

pub ruleset none_rules = (none_cache, none_memory, none_frames, one_write, soft_none)

-- ---- bytes below the port page

-- bytes in a row, and none behind them
pub run_below : (a : ℕ) (bs : List ℕ) (qs : List (ℕ × ℕ)) → a + length bs ≤ PORT_PAGE → qs ≡ [] → AreBelowPort (upwards a bs ++ qs)
run_below a bs qs low none x above h = grind (arith, append-nil, last_put-from, slice_get_past)

pub none_below : (ps : List (ℕ × ℕ)) → ps ≡ [] → AreBelowPort ps
unfolding last_put
none_below ps none x above h = grind arith

pub empty_run : (a : ℕ) (bs : List ℕ) (qs : List (ℕ × ℕ)) → (length bs == 0) ≡ true → qs ≡ [] → upwards a bs ++ qs ≡ []
empty_run a [] qs some none = none
empty_run a (b ∷ bs) qs some none = absurd (grind (arith, nat_tests, some))

-- neither the exit word nor a byte for the console is among them
pub below_exit : (m : Memory) (ps : List (ℕ × ℕ)) → AreBelowPort ps → exit_word m ps ≡ None
unfolding exit_word
below_exit m ps below = grind arith

pub below_console : (ps : List (ℕ × ℕ)) → AreBelowPort ps → console_byte ps ≡ None
below_console ps below = below CONSOLE (omega arith) (omega arith)

pub ruleset below_rules = (below_exit, below_console)

-- ---- room

-- where bytes could be stored they still can be
pub spacious_kept : (s t : Storage) (ps : List (ℕ × ℕ)) → KeepsSpace s t → AreSpacious s ps → AreSpacious t ps
spacious_kept s t [] keeps space = tt
spacious_kept s t (p ∷ ps) keeps space = ((λ k h. keeps (wrapped (p.0 + k)) (space.0 k h)), spacious_kept s t ps keeps space.1)

pub first_spacious : (s : Storage) (ps qs : List (ℕ × ℕ)) → AreSpacious s (ps ++ qs) → AreSpacious s ps
first_spacious s [] qs all = tt
first_spacious s (p ∷ ps) qs all = (all.0, first_spacious s ps qs all.1)

pub later_spacious : (s : Storage) (ps qs : List (ℕ × ℕ)) → AreSpacious s (ps ++ qs) → AreSpacious s qs
later_spacious s [] qs all = all
later_spacious s (p ∷ ps) qs all = later_spacious s ps qs all.1

pub both_spacious : (s : Storage) (ps qs : List (ℕ × ℕ)) → AreSpacious s ps → AreSpacious s qs → AreSpacious s (ps ++ qs)
both_spacious s [] qs one two = two
both_spacious s (p ∷ ps) qs one two = (one.0, both_spacious s ps qs one.1 two)

pub longer_first : (ps qs : List (ℕ × ℕ)) → 0 < length ps → 0 < length (ps ++ qs)
longer_first ps qs h = let sum = length-append ps qs in omega (arith, sum, h)

pub longer_later : (ps qs : List (ℕ × ℕ)) → 0 < length qs → 0 < length (ps ++ qs)
longer_later ps qs h = let sum = length-append ps qs in omega (arith, sum, h)

-- and none of both

pub none_first : (ps qs : List (ℕ × ℕ)) → length (ps ++ qs) ≡ 0 → length ps ≡ 0
none_first ps qs h = let sum = length-append ps qs in omega (arith, sum, h)

pub none_later : (ps qs : List (ℕ × ℕ)) → length (ps ++ qs) ≡ 0 → length qs ≡ 0
none_later ps qs h = let sum = length-append ps qs in omega (arith, sum, h)

pub ruleset room_rules = (spacious_kept, both_spacious, longer_first, longer_later)

-- ---- at most two bytes

pub two_listed : (xs : List (ℕ × ℕ)) → length xs ≤ 2 → one_in (slice_get xs 0) ++ one_in (slice_get xs 1) ≡ xs
two_listed [] few = refl
two_listed (x ∷ []) few = refl
two_listed (x ∷ y ∷ []) few = refl
two_listed (x ∷ y ∷ z ∷ xs) few = absurd (omega (arith, few))

pub ruleset listed_rules = (two_listed)

-- ---- all bytes of a run
