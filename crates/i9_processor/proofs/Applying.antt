-- What was planned in a state can be done in one that is alike, and leaves states that are alike.
use Rattle.std.proofs.Common.{◌≡◌, ℕ, ◌<◌, ◌||◌, ◌==◌, nat_lt, Bool, true, false, List, [], ◌∷◌, ◌++◌, length, refl, sym, ap, subst, arith}
use Rattle.std.proofs.lemmas.Bool.{or_left, or_right}
use Rattle.std.proofs.lemmas.Bool.Decides.{nat_tests}
use Rattle.i9_model.specs.declared.layout.TheConstants.{LOCALS}
use Rattle.i9_model.specs.declared.setup.Setup.{Setup}
use Rattle.i9_model.specs.Boot.{setup_of, boot_setup}
use Rattle.i9_model.specs.Memory.{Memory, with_writes}
use Rattle.i9_model.specs.Frames.{wrote, softened}
use Rattle.i9_model.specs.Stale.{picked}
use Rattle.i9_model.specs.State.{State, Frames}
use Rattle.i9_model.specs.Controls as plain
use Rattle.i9_model.specs.Writes.{wrapped, written, upwards}
use Rattle.i9_model.specs.Step.{Move, Action, saved_locals, moved, flagged, acted, counted}
use Rattle.i9_model.specs.Alike.{AreAlike, Agree}
use Rattle.i9_model.specs.Free.{IsFree}
use Rattle.i9_model.specs.Sound.{IsSound}
use Rattle.i9_model.specs.HeldFrames.{Cache, overlaid, cache_stored, cache_acted, AreYoungest}
use Rattle.i9_model.proofs.FrameLaws.{none_wrote}
use Rattle.i9_agree.proofs.HeldRuns.{moved_cached}
use Rattle.i9_storage.proofs.Known.{frames_sound, held_youngest}
use Rattle.i9_agree.proofs.AlikeActions.{hard_bytes}
use Rattle.i9_agree.proofs.AlikeFetches.{tables_hazard_same}
use Rattle.i9_agree.proofs.AlikeSteps.{IsReadable, IsBlind, agree-alike, alike-agree}
use Rattle.i9_agree.proofs.AgreeSteps.{controlled-agree, flagged-agree}
use Rattle.i9_watch.specs.Bits.{bits_of}
use Rattle.i9_processor.specs.declared.effect.Control.{Control}
use Rattle.i9_processor.specs.declared.effect.Control.TheVariants as controls
use Rattle.i9_processor.specs.declared.processor.Processor.{Processor}
use Rattle.i9_processor.specs.Effect.{control_in, CanControl, is_costly}
use Rattle.i9_processor.specs.State.{state_of, cache_of, size_of}
use Rattle.i9_processor.proofs.Appending.{longer_first, longer_later}

pub can_alike : (c : Control) (s t : State) → AreAlike s t → CanControl s c → CanControl t c
can_alike c s t alike can = grind (arith, tables_hazard_same, hard_bytes)

readable : (c : Control) (s : State) → CanControl s c → IsReadable s (control_in c)
readable c s can = grind arith

pub applied_alike : (c : Control) (s t u : State) (a : Action) → IsBlind s → control_in c ≡ a.control → CanControl (moved s a) c → AreAlike (moved s a) t → u ≡ flagged a.trace (plain.controlled t (control_in c)) → AreAlike (acted s a) u
unfolding acted moved
applied_alike c s t u a blind is can alike e =
    let here : Agree false (plain.controlled (moved s a) (control_in c)) (plain.controlled t (control_in c)) = controlled-agree false (control_in c) (moved s a) t (readable c (moved s a) can) (agree-alike (moved s a) t blind alike) in
    subst (λ (x : State). AreAlike (flagged a.trace (plain.controlled (moved s a) a.control)) x) (sym e)
    (alike-agree (flagged a.trace (plain.controlled (moved s a) a.control)) (flagged a.trace (plain.controlled t (control_in c)))
    (flagged-agree false a.trace (plain.controlled (moved s a) a.control) (plain.controlled t (control_in c))
    (subst (λ (k : plain.Control). Agree false (plain.controlled (moved s a) k) (plain.controlled t (control_in c))) is here)))

-- the PRCB gives at least five sets, and at most fifteen
pub sets_few : (m : Memory) (u : Setup) → u ≡ boot_setup m → (0 < u.sets) × (u.sets < 16)
unfolding boot_setup setup_of
sets_few m u e = grind arith

-- ---- where no byte is stored

pub no_bytes_cache : (c : Cache) (a : ℕ) (bs : List ℕ) → (length bs == 0) ≡ true → c ≡ cache_stored (upwards a bs) c
unfolding written
no_bytes_cache c a [] none = refl
no_bytes_cache c a (b ∷ bs) none = absurd (grind (arith, nat_tests, none))

pub no_bytes_memory : (m : Memory) (a : ℕ) (bs : List ℕ) → (length bs == 0) ≡ true → m ≡ with_writes m (upwards a bs)
unfolding written
no_bytes_memory m a [] none = refl
no_bytes_memory m a (b ∷ bs) none = absurd (grind (arith, nat_tests, none))

pub no_bytes_frames : (f : Frames) (a stale : ℕ) (bs : List ℕ) → (length bs == 0) ≡ true → f ≡ softened (wrote f (upwards a bs)) (picked wrapped a (bits_of stale (length bs)))
no_bytes_frames f a stale [] none = sym (none_wrote f)
no_bytes_frames f a stale (b ∷ bs) none = absurd (grind (arith, nat_tests, none))

-- ---- what a processor keeps

-- it reads soft bytes as 0
pub reads_zero : (p : Processor) → IsBlind (state_of p)
unfolding state_of
reads_zero p = refl

pub laid_memory : (p : Processor) → (state_of p).memory ≡ overlaid (cache_of p)
unfolding state_of cache_of
laid_memory p = refl

sound_frames : (p : Processor) → IsSound (state_of p).frames
unfolding state_of
sound_frames p = frames_sound p.storage

youngest_held : (p : Processor) → AreYoungest (cache_of p).held (state_of p).frames.live
unfolding state_of cache_of
youngest_held p = held_youngest p.storage

-- the moves of an action were done, with what is held then laid over what is behind
pub moved_alike_by : (p : Processor) (a : Action) (q : Processor) → IsFree (state_of p) a → state_of q ≡ record (moved (state_of p) a) { memory = (state_of q).memory } → (state_of q).memory ≡ overlaid (cache_of q)
    → cache_of q ≡ cache_acted (size_of p) a (cache_of p) → AreAlike (moved (state_of p) a) (state_of q)
moved_alike_by p a q free state memory cache = grind (arith, moved_cached, laid_memory, sound_frames, youngest_held)

pub counted_alike : (n : ℕ) (s t : State) → AreAlike s t → AreAlike (counted n s) (counted n t)
counted_alike n s t alike = record { rest = ap (counted n) alike.rest; bytes = alike.bytes }

-- ---- room

some_writes : (n : ℕ) (c : Bool) → 0 < n → (nat_lt 0 n || c) ≡ true
some_writes n c h = or_left (nat_lt 0 n) c (grind (arith, nat_tests, h))

-- where bytes are stored, something is written
pub run_long : (a : ℕ) (bs : List ℕ) → 0 < length bs → 0 < length (upwards a bs)
run_long a [] h = absurd (omega arith)
run_long a (b ∷ bs) h = omega arith

pub run_none : (a : ℕ) (bs : List ℕ) → length (upwards a bs) ≡ 0 → length bs ≡ 0
run_none a [] h = refl
run_none a (b ∷ bs) h = absurd (omega (arith, h))

pub stored_writes : (a : ℕ) (bs : List ℕ) (qs : List (ℕ × ℕ)) (c : Bool) → 0 < length bs → (nat_lt 0 (length (upwards a bs ++ qs)) || c) ≡ true
stored_writes a bs qs c h = some_writes (length (upwards a bs ++ qs)) c (longer_first (upwards a bs) qs (run_long a bs h))

pub requested_writes : (ps qs : List (ℕ × ℕ)) (c : Bool) → 0 < length qs → (nat_lt 0 (length (ps ++ qs)) || c) ≡ true
requested_writes ps qs c h = some_writes (length (ps ++ qs)) c (longer_later ps qs h)

-- and where a frame is saved
pub saved_writes : (n : ℕ) (m : Move) → is_costly m ≡ true → (nat_lt 0 n || is_costly m) ≡ true
saved_writes n m h = or_right (nat_lt 0 n) (is_costly m) h

pub ruleset room_rules = (stored_writes, requested_writes, saved_writes)

-- a push saves all locals
pub locals_whole : (s : State) (back : ℕ) → length (saved_locals s back) ≡ LOCALS
locals_whole s back = refl
