-- Along every run of a plan without levels all pins stay high, so the pending word is the kept one.
use Rattle.std.proofs.Common.{◌≡◌, ℕ, ◌+◌, Bool, true, false, cond, List, Option, Some, None, refl, subst, arith}
use Rattle.std.specs.Prelude.{◌&&◌, ◌-◌}
use Rattle.std.proofs.lemmas.Nat.{and_le_l, and_le_r}
use Rattle.std.specs.Int.Bits.{or_add_and}
use Rattle.i9_isa.specs.Words.{field}
use Rattle.i9_model.specs.declared.interrupts.TheConstants.{FIRST_DMA_LINE}
use Rattle.i9_model.specs.declared.interrupts.Cause.{Cause}
use Rattle.i9_model.specs.declared.interrupts.Cause.TheVariants as causes
use Rattle.i9_model.specs.declared.event.Event.{Event}
use Rattle.i9_model.specs.declared.event.Event.TheVariants.{Low, High, Dma, Feed}
use Rattle.i9_model.specs.declared.event.Timed.{Timed}
use Rattle.i9_model.specs.ScheduleText.{first_version, IsOfVersion, AreOfVersion}
use Rattle.i9_model.specs.State as states
use Rattle.i9_model.specs.State.{State, Interrupts}
use Rattle.i9_model.specs.Pins.{level_word, pending_word}
use Rattle.i9_model.specs.Interrupts.{posted, cleared}
use Rattle.i9_model.specs.Dma.{is_last, posts_at_end}
use Rattle.i9_model.specs.Run.{Given, Record, event_after, state_after, IsPast}
use Rattle.i9_laws.proofs.EventCases.{event_planned, IsByUnit, IsByEvent}
use Rattle.i9_laws.proofs.InterruptsAlong.{AreKeeping, interrupts_after}

-- ---- all pins are high

abbrev AreHigh : Interrupts → states.Dma → Type 0
AreHigh i d = i.low ≡ 0

unit_high : (s : State) (c : ℕ) (given : Option (List ℕ)) → s.interrupts.low ≡ 0
    → IsByUnit (λ u. u.interrupts.low ≡ 0) s c given
unit_high s c given h = (h, posted_at_end (is_last (s.dma.channels c) && posts_at_end (s.dma.channels c)))
  where
    posted_at_end : (b : Bool) → (cond b (posted s.interrupts (FIRST_DMA_LINE + c)) s.interrupts).low ≡ 0
    posted_at_end true = h
    posted_at_end false = h

event_high : (s : State) (e : Event) → IsOfVersion first_version e → s.interrupts.low ≡ 0
    → IsByEvent (λ u. u.interrupts.low ≡ 0) s e
event_high s (Low x) of h = absurd (cc of)
event_high s (High x) of h = absurd (cc of)
event_high s (Dma c) of h = unit_high s c None h
event_high s (Feed c bytes) of h = unit_high s c (Some bytes.items) h
event_high s _ of h = h

cleared_high : (c : Cause) (i : Interrupts) (d : states.Dma) → AreHigh i d → AreHigh (cleared c i) d
cleared_high (causes.Line k) i d h = h
cleared_high _ i d h = h

keeping_high : AreKeeping AreHigh (IsOfVersion first_version)
keeping_high = record {
  pending = λ v i d h. h;
  mask = λ v i d h. h;
  command = λ v i d h. h;
  sets = λ c channel i d h. h;
  clears = cleared_high;
  maps = λ maps icon i d h. h;
  starts = λ u i d h. h;
  boots = λ u. refl;
  events = event_high;
}

pub high_after : (g : Given) (rs : List Record) → AreOfVersion first_version g.plan → IsPast g rs → (state_after g rs).interrupts.low ≡ 0
high_after g rs plan past =
    interrupts_after AreHigh (IsOfVersion first_version) keeping_high g rs of past
  where
    of : (qs : List Record) (e : Event) → event_after g qs ≡ Some e → IsOfVersion first_version e
    of qs e is =
        let there = event_planned (λ (t : Timed). IsOfVersion first_version t.event) g qs e plan is in
        subst (IsOfVersion first_version) there.2 there.1

-- ---- the pending word then

pub kept_alone : (g : Given) (rs : List Record) → AreOfVersion first_version g.plan → IsPast g rs
    → pending_word (state_after g rs).interrupts ≡ (state_after g rs).interrupts.pending
kept_alone g rs plan past =
    let i = (state_after g rs).interrupts in
    let none = high_after g rs plan past in
    let levels = and_le_l i.low (255 - field i.icon 2 8) in
    let sum = or_add_and i.pending (level_word i) in
    let both = and_le_r i.pending (level_word i) in
    omega (arith, none, levels, sum, both)
