-- Along a run the frames that are held and the memory behind them stand for memory, in any number of sets.
use Rattle.std.proofs.Common.{◌≡◌, ℕ, true, false, List, [], ◌∷◌, length, Option, refl, ap, sym, ◌∙◌, subst, arith}
use Rattle.std.specs.Prelude.{◌⊎◌}
use Rattle.i9_model.specs.declared.event.Event.{Event}
use Rattle.i9_model.specs.Memory.{Memory}
use Rattle.i9_model.specs.State.{State, Frames, started, boot}
use Rattle.i9_model.specs.Controls.{controlled}
use Rattle.i9_model.specs.Step.{Move, Action, frames_after, memory_after, moved, acted}
use Rattle.i9_model.specs.Sound.{IsSound}
use Rattle.i9_model.specs.Run.{Given, action_by_kind, action_done, Record, record_of, Does, state_after, due_after, next_in, next_with, IsPastOfSome}
use Rattle.i9_model.specs.declared.run.Due.{Due}
use Rattle.i9_model.specs.Alike.{is_compared, with_other, with_memory, AreAlike}
use Rattle.i9_model.specs.HeldFrames.{Cache, cache, over, overlaid, cache_moved, cache_acted, cache_configured, sets_in, renewed, cache_after, AreYoungest, IsCached}
use Rattle.i9_model.specs.Free.{ComesAfterFlush, IsFree}
use Rattle.i9_model.proofs.Stored.{with_none}
use Rattle.i9_model.proofs.ControlLaws.{flagged-others, acted-frames}
use Rattle.i9_past.proofs.Comes.{next_comes}
use Rattle.i9_agree.proofs.SoundRuns.{kind_clear, sound-after}
use Rattle.i9_agree.proofs.Agreeing.{writes-same}
use Rattle.i9_agree.proofs.AgreeMoves.{writes-agree, move_alike, move_mcon}
use Rattle.i9_agree.proofs.AgreeSteps.{controlled_bytes, group-rest}
use Rattle.i9_agree.proofs.Overlays.{words_mcon, over_mcon}
use Rattle.i9_agree.proofs.HeldFrames.{move_keeps, acted_stands}

-- ---- the record that comes next

-- a record of an action that meets no hazard
abbrev pub IsFreeRecord : State → Record → Type 0
IsFreeRecord s r = (r ≡ record_of r.kind s) × IsFree s (action_by_kind r.kind s)

pub next_free : (limit : ℕ) (due : Due) (stands : Option Event) (s : State) (r : Record) → next_in limit due stands s ≡ Does r → IsFreeRecord s r
next_free limit due stands s r e = let comes = next_comes limit due stands s r e in (comes.0, (kind_clear limit due stands r.kind s comes.1).free)

-- ---- one record

-- no move changes a configuration word
pub cache_regions : (n : ℕ) (v : Move) (c : Cache) → (cache_moved n v c).behind.mcon ≡ c.behind.mcon
cache_regions n v c = grind (arith, over_mcon, words_mcon)

-- configuration words change only where nothing is held
pub regions_after : (n : ℕ) (s : State) (a : Action) (c : Cache) → ComesAfterFlush a.control a.move a.writes → c.behind.mcon ≡ s.memory.mcon
    → ((cache_moved n a.move c).held ≡ []) ⊎ ((acted s a).memory.mcon ≡ (cache_moved n a.move c).behind.mcon)
unfolding acted moved
regions_after n s a c after regions = grind (arith, flagged-others, move_mcon, cache_regions)

-- so the words of held frames stay in the orders in which they were saved
pub configured_same : (m : Memory) (d : Cache) → (d.held ≡ []) ⊎ (m.mcon ≡ d.behind.mcon) → (overlaid (cache_configured m d)).bytes ≡ (overlaid d).bytes
unfolding over
configured_same m d h = grind arith

-- regions are configured by configuration words alone
pub configured_by : (m k : Memory) (c : Cache) → m.mcon ≡ k.mcon → cache_configured m c ≡ cache_configured k c
configured_by m k c e = ap (λ (x : ℕ → ℕ). record c { behind = record c.behind { mcon = x } }) e

acted_bytes : (s : State) (a : Action) → (acted s a).memory.bytes ≡ (moved s a).memory.bytes
unfolding acted
acted_bytes s a = ap (λ (x : State). x.memory.bytes) (flagged-others a.trace (controlled (moved s a) a.control)) ∙ controlled_bytes a.control (moved s a)

-- memory is what is held over what is behind, where that has a state's configuration words
pub overlaid_memory : (s : State) (c : Cache) → c.behind.mcon ≡ s.memory.mcon → with_other s.memory (overlaid c).bytes ≡ overlaid c
overlaid_memory s c regions = ap (λ (k : ℕ → ℕ). record { bytes = (overlaid c).bytes; mcon = k }) (sym (over_mcon c.held c.behind ∙ regions))

pub cached-acted : (n : ℕ) (s : State) (a : Action) (c : Cache) → IsSound s.frames → IsFree s a → IsCached s c → IsCached (acted s a) (cache_configured (acted s a).memory (cache_acted n a c))
unfolding moved
cached-acted n s a c sound free cached =
    let bytes = (overlaid c).bytes in
    let t = with_memory s bytes in
    let stands = acted_stands n t a c (overlaid_memory s c cached.regions) sound cached.youngest free.whole free.free in
    let moves = move_alike a.move s.frames s.memory bytes free.whole cached.bytes in
    let f = frames_after s.frames a.move in
    let alike = writes-agree false f (memory_after s.memory a.move) (memory_after t.memory a.move).bytes a.writes a.writes a.stale (λ e. absurd cc) (writes-same false a.stale a.writes) moves in
    let frames = acted-frames s a in
    record {
      bytes = λ x h.
          let compared : is_compared (moved s a).frames x ≡ true = ap (λ (f : Frames). is_compared f x) (sym frames) ∙ h in
          ap (λ (b : ℕ → ℕ). b x) (configured_same (acted s a).memory (cache_acted n a c) (regions_after n s a c free.controls cached.regions))
          ∙ stands x compared
          ∙ alike x compared
          ∙ sym (ap (λ (b : ℕ → ℕ). b x) (acted_bytes s a));
      regions = refl;
      youngest = subst (λ (f : Frames). AreYoungest (cache_moved n a.move c).held f.live) (sym frames) (move_keeps n a.move c s.frames free.whole cached.youngest);
    }

-- the state after an action, with what is held then laid over what is behind
pub moved_cached : (n : ℕ) (s : State) (a : Action) (c d : Cache) → s.memory ≡ overlaid c → IsSound s.frames → AreYoungest c.held s.frames.live → IsFree s a → d ≡ cache_acted n a c → AreAlike (moved s a) (record (moved s a) { memory = overlaid d })
unfolding moved
moved_cached n s a c d is sound young free e = grind (arith, over_mcon, cache_regions, move_mcon, acted_stands)

-- ---- the number of sets

-- the number changes where the processor starts anew, and there alone
pub sets_after : (asked : Option ℕ) (s : State) (a : Action) → ComesAfterFlush a.control a.move a.writes → sets_in asked (acted s a) ≡ renewed asked s.memory a.control (sets_in asked s)
unfolding acted moved started
sets_after asked s a after = grind (arith, flagged-others, group-rest, with_none)

-- ---- a run

cached-boot : (image : List (ℕ × ℕ)) → IsCached (boot image) (cache [] (boot image).memory)
unfolding boot started over
cached-boot image = record { bytes = λ x h. refl; regions = refl; youngest = record { first = refl; whole = tt } }

pub cached-after : (g : Given) (rs : List Record) → IsPastOfSome (next_with g) rs → IsCached (state_after g rs) (cache_after g rs)
cached-after g [] past = cached-boot g.image
cached-after g (r ∷ rs) past =
    let s = state_after g rs in
    let a = action_by_kind r.kind s in
    let n = sets_in g.sets s in
    let c = cache_after g rs in
    let free = next_free g.length (due_after rs) past.1.0 s r past.1.1 in
    let here : IsCached (acted s a) (cache_configured (acted s a).memory (cache_acted n a c)) = cached-acted n s a c (sound-after g rs past.0) free.1 (cached-after g rs past.0) in
    subst (λ (q : Record). IsCached q.after (cache_configured q.after.memory (cache_acted (sets_in g.sets q.before) (action_done q) c))) (sym free.0)
    (record { bytes = here.bytes; regions = here.regions; youngest = here.youngest })
