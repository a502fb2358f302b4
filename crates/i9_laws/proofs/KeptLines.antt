-- Along every run of a schedule's plan the pending and the mask word have the bits of lines alone, and the DMA command word
-- those of channels.
use Rattle.std.proofs.Common.{ℕ, ◌+◌, ◌^◌, ◌<◌, ◌≤◌, Bool, true, false, cond, List, Option, Some, None, refl, ◌∙◌, arith}
use Rattle.std.specs.Prelude.{◌&&◌, not}
use Rattle.std.proofs.lemmas.Nat.{and_mask, pow_below}
use Rattle.i9_model.specs.declared.interrupts.TheConstants.{LINE_MASK, FIRST_DMA_LINE}
use Rattle.i9_model.specs.declared.dma.TheConstants.{COMMAND_MASK, FIRST_ENDED_PLACE}
use Rattle.i9_model.specs.declared.interrupts.Cause.{Cause}
use Rattle.i9_model.specs.declared.interrupts.Cause.TheVariants as causes
use Rattle.i9_model.specs.declared.event.Event.{Event}
use Rattle.i9_model.specs.declared.event.Event.TheVariants.{Pin, Low, Dma, Feed}
use Rattle.i9_model.specs.Events.{last_channel, IsInRange}
use Rattle.i9_model.specs.ScheduleText.{IsPlan}
use Rattle.i9_model.specs.State as states
use Rattle.i9_model.specs.State.{State, Interrupts, Channel}
use Rattle.i9_model.specs.Numbers.{complement}
use Rattle.i9_model.specs.Interrupts.{with_bit, by_edge, is_low, posted, lowered, cleared}
use Rattle.i9_model.specs.Requests.{without_bit}
use Rattle.i9_model.specs.Dma.{set_up, is_last, posts_at_end, ended, dma_behind}
use Rattle.i9_model.specs.Before.{Received}
use Rattle.i9_model.specs.Run.{Given, Record, state_after, IsPast}
use Rattle.i9_model.proofs.KeptBits.{masked}
use Rattle.i9_laws.specs.Kept.{IsWithin}
use Rattle.i9_laws.proofs.EventCases.{event_range, IsByUnit, IsByEvent}
use Rattle.i9_laws.proofs.KeptBits.{masked_more, masked_or}
use Rattle.i9_laws.proofs.InterruptsAlong.{AreKeeping, interrupts_after}

-- the words of the special function registers: two of lines, and the DMA command word with the bits of channels
pub record AreWithin (p m c : ℕ) : Type 0 where
  pub pending : IsWithin LINE_MASK p
  pub mask : IsWithin LINE_MASK m
  pub command : IsWithin COMMAND_MASK c

abbrev AreLines : Interrupts → states.Dma → Type 0
AreLines i d = AreWithin i.pending i.mask d.dmac

abbrev pub HasLines : State → Type 0
HasLines s = AreLines s.interrupts s.dma

-- ---- what posts and clears

-- the bits of lines are the low twelve
line_bit : (k : ℕ) → k < 12 → IsWithin LINE_MASK (2 ^ k)
line_bit k h = let small = pow_below k 12 h in and_mask (2 ^ k) 12 ∙ omega (arith, small)

posted_lines : (k : ℕ) (i : Interrupts) (d : states.Dma) → k < 12 → AreLines i d → AreLines (posted i k) d
posted_lines k i d small h =
    record { pending = masked_or LINE_MASK i.pending (2 ^ k) h.pending (line_bit k small); mask = h.mask; command = h.command }

lowered_lines : (x : ℕ) (i : Interrupts) (d : states.Dma) → x < 12 → AreLines i d → AreLines (lowered i x) d
lowered_lines x i d small h = by_post (by_edge i x && not (is_low i x))
  where
    by_post : (b : Bool) → AreLines (record (cond b (posted i x) i) { low = with_bit i.low x }) d
    by_post true = posted_lines x i d small h
    by_post false = h

cleared_lines : (c : Cause) (i : Interrupts) (d : states.Dma) → AreLines i d → AreLines (cleared c i) d
cleared_lines (causes.Line k) i d h =
    record { pending = masked_more LINE_MASK i.pending (complement (2 ^ k)) h.pending; mask = h.mask; command = h.command }
cleared_lines _ i d h = h

-- ---- the DMA command word

-- the bits of channels are the low eight
channel_bit : (k : ℕ) → k < 8 → IsWithin COMMAND_MASK (2 ^ k)
channel_bit k h = let small = pow_below k 8 h in and_mask (2 ^ k) 8 ∙ omega (arith, small)

without_command : (w k : ℕ) → IsWithin COMMAND_MASK w → IsWithin COMMAND_MASK (without_bit w k)
without_command w k h = masked_more COMMAND_MASK w (complement (2 ^ k)) h

-- a channel has ended or not
ended_command : (b : Bool) (w c : ℕ) → c ≤ last_channel → IsWithin COMMAND_MASK w → IsWithin COMMAND_MASK (cond b (ended w c) w)
ended_command true w c small h =
    let k = FIRST_ENDED_PLACE + c in
    masked_or COMMAND_MASK (without_bit w c) (2 ^ k) (without_command w c h) (channel_bit k (omega (arith, small)))
ended_command false w c small h = h

set_up_lines : (c : ℕ) (channel : Channel) (i : Interrupts) (d : states.Dma) → AreLines i d
    → AreLines i (set_up d c channel)
unfolding set_up
set_up_lines c channel i d h =
    let command = without_command (without_bit d.dmac c) (FIRST_ENDED_PLACE + c) (without_command d.dmac c h.command) in
    record { pending = h.pending; mask = h.mask; command = command }

-- ---- an event

-- what is received leaves lines
abbrev ReceivesLines : Received → Type 0
ReceivesLines u = AreLines u.interrupts u.dma

unit_lines : (s : State) (c : ℕ) (given : Option (List ℕ)) → c ≤ last_channel → HasLines s → IsByUnit ReceivesLines s c given
unfolding dma_behind
unit_lines s c given small h = (h, posted_at_end (is_last (s.dma.channels c) && posts_at_end (s.dma.channels c)))
  where
    behind : AreLines s.interrupts (dma_behind s.dma c)
    behind = record {
      pending = h.pending;
      mask = h.mask;
      command = ended_command (is_last (s.dma.channels c)) s.dma.dmac c small h.command;
    }

    posted_at_end : (b : Bool) → AreLines (cond b (posted s.interrupts (FIRST_DMA_LINE + c)) s.interrupts) (dma_behind s.dma c)
    posted_at_end true = posted_lines (FIRST_DMA_LINE + c) s.interrupts (dma_behind s.dma c) (omega (arith, small)) behind
    posted_at_end false = behind

event_lines : (s : State) (e : Event) → IsInRange e → HasLines s → IsByEvent ReceivesLines s e
event_lines s (Pin x) range h = posted_lines x s.interrupts s.dma (omega (arith, range)) h
event_lines s (Low x) range h = lowered_lines x s.interrupts s.dma (omega (arith, range)) h
event_lines s (Dma c) range h = unit_lines s c None range h
event_lines s (Feed c bytes) range h = unit_lines s c (Some bytes.items) range.0 h
event_lines s _ range h = h

-- ---- a run

keeping_lines : AreKeeping AreLines IsInRange
keeping_lines = record {
  pending = λ v i d h. record { pending = masked LINE_MASK v; mask = h.mask; command = h.command };
  mask = λ v i d h. record { pending = h.pending; mask = masked LINE_MASK v; command = h.command };
  command = λ v i d h. record { pending = h.pending; mask = h.mask; command = masked COMMAND_MASK v };
  sets = set_up_lines;
  clears = cleared_lines;
  maps = λ maps icon i d h. h;
  starts = λ u i d h. record { pending = refl; mask = refl; command = refl };
  boots = λ u. record { pending = refl; mask = refl; command = refl };
  events = event_lines;
}

pub lines_after : (g : Given) (rs : List Record) → IsPlan g.plan → IsPast g rs → HasLines (state_after g rs)
lines_after g rs plan past =
    interrupts_after AreLines IsInRange keeping_lines g rs (λ qs e is. event_range g qs e plan is) past
