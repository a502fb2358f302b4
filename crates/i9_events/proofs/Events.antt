-- The events of an instruction and the breakpoints that match, as bits of one word.
use Rattle.std.proofs.Common.{◌≡◌, ℕ, ◌*◌, ◌%◌, ◌<◌, Bool, true, false, cond, ◌&&◌, ◌||◌, List, Option, Some, None, refl, sym, ap, ◌∙◌, subst, arith, lit<, inl, inr, bit_and, bit_or, eqb-true}
use Rattle.std.specs.Prelude.{not, ◌==◌, ◌↔◌, IfSome, map}
use Rattle.std.specs.List.{list_any}
use Rattle.std.proofs.lemmas.Grind.{fold-append}
use Rattle.std.proofs.lemmas.List.Elements.{filter_agree}
use Rattle.i9_isa.specs.declared.op.Op.{Op}
use Rattle.i9_isa.specs.declared.inst.Inst.{Inst}
use Rattle.i9_isa.specs.Words.{bit}
use Rattle.i9_model.specs.declared.layout.TheConstants.{TRACE_ENABLE_PLACE}
use Rattle.i9_model.specs.declared.setup.Breaks.{Breaks}
use Rattle.i9_model.specs.Requests.{with_bit}
use Rattle.i9_model.specs.declared.trace.Seen.{Seen}
use Rattle.i9_model.specs.declared.trace.Trace.{Trace}
use Rattle.i9_model.specs.Tracing.{with_bits, Breakpoint, Ipb0, Ipb1, Dab0, Dab1, breakpoints, break_flag_of, matches, has_match, break_flags, is_fmark, TraceEvent, Instruction, Branch, Call, Return, Prereturn, Supervisor, Mark, trace_events, mode_of, flag_of, has_mode, comes_with, is_forced, counts, counting_modes, event_flags, is_raised, trace_made, trace_of}
use Rattle.i9_events.specs.Tracing.{IsUntraced, is_flag, GainsFlags, coming_modes, forced_modes}
use Rattle.i9_events.proofs.Masks.{bit_if, mask, next, mask_and, mask_or, mask_below, mask_none, mask_up, with_after}
use Rattle.i9_events.proofs.Flags.{gains, gains_both}

-- ---- words as the code makes them

-- the flags of four breakpoints, one after the other
pub four : (p : Breakpoint → Bool) → bit_or (bit_or (bit_or (bit_if (p Ipb0) 24) (bit_if (p Ipb1) 25)) (bit_if (p Dab0) 26)) (bit_if (p Dab1) 27) ≡ mask break_flag_of p breakpoints
four p = grind (arith, bit_if, bit_or, next)

-- the modes of seven events, of which the first one comes
pub seven : (p : TraceEvent → Bool) → p Instruction ≡ true
    → bit_or (bit_or (bit_or (bit_or (bit_or (bit_or 2 (bit_if (p Branch) 2)) (bit_if (p Call) 3)) (bit_if (p Return) 4)) (bit_if (p Prereturn) 5)) (bit_if (p Supervisor) 6)) (bit_if (p Mark) 7)
    ≡ mask mode_of p trace_events
seven p always = grind (arith, bit_or, bit_if, next)

pub mark_alone : (op : Op) (matched : Bool) → bit_if (is_fmark op || matched) 7 ≡ with_bits 0 (forced_modes op matched)
unfolding forced_modes
mark_alone op matched = grind (arith, bit_if)

module _ (tc : ℕ) (op : Op) (s : Seen) (matched : Bool) where
  -- those that come and whose mode is set
  abbrev pub shows : TraceEvent → Bool
  shows e = comes_with op s matched e && has_mode tc e

  abbrev pub shown : ℕ
  shown = mask mode_of shows trace_events

  pub shown_is : (x : ℕ) → x ≡ with_bits 0 (coming_modes op s matched) → bit_and x tc ≡ shown
  unfolding coming_modes
  shown_is x is = ap (λ (w : ℕ). bit_and w tc) is ∙ mask_and mode_of (comes_with op s matched) tc trace_events

  either : (m f b t : Bool) → (((m || f || b) && t) || (f || b)) ≡ ((m || f || b) && (t || (f || b)))
  either m f b t = grind arith

  plain : (c t : Bool) → ((c && t) || false) ≡ (c && (t || false))
  plain c t = grind arith

  same_counts : (e : TraceEvent) → (shows e || is_forced op matched e) ≡ counts tc op s matched e
  same_counts e = grind (arith, either, plain)

  pub counted_is : (x y : ℕ) → x ≡ shown → y ≡ with_bits 0 (forced_modes op matched) → bit_or x y ≡ with_bits 0 (counting_modes tc op s matched)
  unfolding forced_modes counting_modes
  counted_is x y first second =
      ap (λ (w : ℕ). bit_or w y) first ∙ ap (bit_or shown) second
      ∙ mask_or mode_of shows (is_forced op matched) trace_events
      ∙ ap (λ (es : List TraceEvent). with_bits 0 (map mode_of es)) (filter_agree (λ e. shows e || is_forced op matched e) (counts tc op s matched) same_counts trace_events)

  below_eight : (e : TraceEvent) → mode_of e < 8
  below_eight e = grind (arith, lit<)

  pub counted_small : with_bits 0 (counting_modes tc op s matched) < 256
  unfolding counting_modes
  counted_small = mask_below mode_of (counts tc op s matched) 8 below_eight trace_events

  pub counted_none : (with_bits 0 (counting_modes tc op s matched) == 0) ≡ not (list_any (counts tc op s matched) trace_events)
  unfolding counting_modes
  counted_none = mask_none mode_of (counts tc op s matched) trace_events

  -- flags stand above modes
  pub flags_are : shown * 65536 % 4294967296 ≡ with_bits 0 (event_flags tc op s matched)
  unfolding event_flags
  flags_are =
      let small = mask_below mode_of shows 8 below_eight trace_events in
      let whole : shown * 65536 % 4294967296 ≡ shown * 65536 = omega (arith, small) in
      whole ∙ mask_up mode_of 16 shows trace_events

-- ---- the fault

module _ (tc pc : ℕ) (i : Inst) (s : Seen) (b : Breaks) where
  -- a breakpoint matches where a flag is set
  pub breaks_is : (x : ℕ) → x ≡ with_bits 0 (break_flags s b) → not (x == 0) ≡ has_match s b
  unfolding has_match break_flags
  breaks_is x is = grind (arith, mask_none)

  -- the modes of the events that count, from the three words that the code makes
  pub modes_are : (x y z : ℕ) → x ≡ with_bits 0 (break_flags s b) → y ≡ with_bits 0 (coming_modes i.op s (not (x == 0))) → z ≡ with_bits 0 (forced_modes i.op (not (x == 0)))
      → bit_or (bit_and y tc) z ≡ with_bits 0 (counting_modes tc i.op s (has_match s b))
  modes_are x y z flags events always = grind (arith, breaks_is, counted_is, bit_and, shown_is)

  -- the flags of the events whose mode is set
  pub flags_of_modes : (x y : ℕ) → x ≡ with_bits 0 (break_flags s b) → y ≡ with_bits 0 (coming_modes i.op s (not (x == 0)))
      → bit_and y tc * 65536 % 4294967296 ≡ with_bits 0 (event_flags tc i.op s (has_match s b))
  flags_of_modes x y flags events =
      let first = events ∙ ap (λ (v : Bool). with_bits 0 (coming_modes i.op s v)) (breaks_is x flags) in
      ap (λ (w : ℕ). w * 65536 % 4294967296) (shown_is tc i.op s (has_match s b) y first) ∙ flags_are tc i.op s (has_match s b)

  pub raised_is : (n : ℕ) → n ≡ with_bits 0 (counting_modes tc i.op s (has_match s b)) → (n == 0) ≡ not (is_raised tc i s b)
  raised_is n is = ap (λ (w : ℕ). w == 0) is ∙ counted_none tc i.op s (has_match s b)

  -- where trace enable is clear, or no event counts
  pub not_enabled : bit pc TRACE_ENABLE_PLACE ≡ false → None ≡ trace_of tc pc i s b
  unfolding trace_of
  not_enabled off = ap (λ (v : Bool). cond (v && is_raised tc i s b) (Some (trace_made tc i s b)) None) (sym off)

  no_event : is_raised tc i s b ≡ false → None ≡ trace_of tc pc i s b
  unfolding trace_of
  no_event none = grind arith

  pub not_raised : (n : ℕ) → n ≡ with_bits 0 (counting_modes tc i.op s (has_match s b)) → n ≡ 0 → None ≡ trace_of tc pc i s b
  not_raised n is zero = no_event (by (is_raised tc i s b) (ap (λ (m : ℕ). m == 0) (sym zero) ∙ raised_is n is))
    where
      by : (v : Bool) → true ≡ not v → v ≡ false
      by true h = cc
      by false h = refl

  -- the controls are made from the flags one after the other
  pub made_is : (flags others subtype : ℕ) → flags ≡ with_bits 0 (event_flags tc i.op s (has_match s b)) → others ≡ with_bits 0 (break_flags s b) → subtype ≡ with_bits 0 (counting_modes tc i.op s (has_match s b))
      → (let made : Trace = record { tc = bit_or (bit_or tc flags) others; subtype = subtype } in made) ≡ trace_made tc i s b
  unfolding trace_made
  made_is flags others subtype events breakpoints modes = grind (arith, bit_or, with_after, fold-append)

  pub raised_made : (t : Trace) (n : ℕ) → bit pc TRACE_ENABLE_PLACE ≡ true → n ≡ with_bits 0 (counting_modes tc i.op s (has_match s b)) → (n ≡ 0 → ⊥) → t ≡ trace_made tc i s b
      → Some t ≡ trace_of tc pc i s b
  unfolding trace_of
  raised_made t n on count some is =
      let any = by (is_raised tc i s b) n (raised_is n count) some in
      ap (λ (u : Trace). Some u) is
      ∙ ap (λ (v : Bool). cond v (Some (trace_made tc i s b)) None) (sym (ap (λ (v : Bool). v && is_raised tc i s b) on ∙ any))
    where
      by : (v : Bool) (m : ℕ) → (m == 0) ≡ not v → (m ≡ 0 → ⊥) → v ≡ true
      by true m h some = refl
      by false m h some = absurd (some (eqb-true m 0 h))

  -- ---- what follows

  flags_of_events : (e : TraceEvent) → is_flag (flag_of e) ≡ true
  flags_of_events e = grind arith

  flags_of_breakpoints : (k : Breakpoint) → is_flag (break_flag_of k) ≡ true
  flags_of_breakpoints k = grind arith

  made_gains : GainsFlags tc (trace_made tc i s b).tc
  unfolding trace_made event_flags break_flags
  made_gains =
      let first = event_flags tc i.op s (has_match s b) in
      let second = break_flags s b in
      let old = with_bits tc first in
      let both = gains_both tc old (with_bits old second) (gains flag_of flags_of_events (shows tc i.op s (has_match s b)) tc trace_events) (gains break_flag_of flags_of_breakpoints (matches s b) old breakpoints) in
      subst (GainsFlags tc) (sym (fold-append with_bit tc first second)) both

  pub trace_gains : (t : Option Trace) → t ≡ trace_of tc pc i s b → IfSome t (λ u. GainsFlags tc u.tc)
  unfolding trace_of
  trace_gains t is = subst (λ (u : Option Trace). IfSome u (λ v. GainsFlags tc v.tc)) (sym is) (by (bit pc TRACE_ENABLE_PLACE && is_raised tc i s b))
    where
      by : (v : Bool) → IfSome (cond v (Some (trace_made tc i s b)) None) (λ u. GainsFlags tc u.tc)
      by true = made_gains
      by false = tt

  each_none : (p : TraceEvent → Bool) → list_any p trace_events ≡ false → (e : TraceEvent) → p e ≡ false
  each_none p h x2 = grind arith

  all_none : (p : TraceEvent → Bool) → ((e : TraceEvent) → p e ≡ false) → list_any p trace_events ≡ false
  all_none p none = rw (none Instruction, none Branch, none Call, none Return, none Prereturn, none Supervisor, none Mark) refl

  pub trace_none : (t : Option Trace) → t ≡ trace_of tc pc i s b → (t ≡ None) ↔ IsUntraced tc pc i s b
  unfolding trace_of
  trace_none t is = by (bit pc TRACE_ENABLE_PLACE) (is_raised tc i s b) refl refl is
    where
      by : (on any : Bool) → bit pc TRACE_ENABLE_PLACE ≡ on → is_raised tc i s b ≡ any → t ≡ cond (on && any) (Some (trace_made tc i s b)) None → (t ≡ None) ↔ IsUntraced tc pc i s b
      by false any off raised is = (λ _. inl off, λ _. is)
      by true false on raised is = (λ _. inr (each_none (counts tc i.op s (has_match s b)) raised), λ _. is)
      by true true on raised is = (
        λ none. absurd cc,
        λ untraced. elim untraced [
          | inl off ↦ absurd cc
          | inr none ↦ absurd (let p = all_none (counts tc i.op s (has_match s b)) none in cc)
        ],
      )
