-- States that agree are shown alike, and records that agree are printed alike.
use Rattle.std.proofs.Common.{◌≡◌, ℕ, zero, suc, ◌+◌, ◌<◌, ◌≤◌, Bool, true, false, cond, List, [], ◌∷◌, ◌++◌, codes, refl, ap, arith}
use Rattle.std.specs.Prelude.{slice_index}
use Rattle.std.specs.List.{flat_map, range_with_len}
use Rattle.std.proofs.lemmas.Grind.{flat_map-append}
use Rattle.std.proofs.lemmas.List.FromFn.{get_or-map-range_with_len}
use Rattle.i9_isa.specs.Words.{bit}
use Rattle.i9_model.specs.declared.event.Event.TheVariants as events
use Rattle.i9_model.specs.declared.run.Point.TheVariants as points
use Rattle.i9_model.specs.State.{State}
use Rattle.i9_model.specs.Needs.{set_below}
use Rattle.i9_model.specs.Run.{Finish, Kind, Record, reached_by}
use Rattle.i9_model.specs.declared.run.Point.{Point}
use Rattle.i9_model.specs.PrintedText.{register_list, view_of, event_lines, record_lines, end_lines, spaced, point_text, spaced_register, registers_text, point_shown, text_of}
use Rattle.i9_model.specs.Alike.{shows, Agree, DoAgree}
use Rattle.i9_model.specs.ReadingRuns.{AreViewsAlike}
use Rattle.i9_model.proofs.SetLaws.{set_bits}
use Rattle.i9_agree.proofs.AgreeSteps.{overlay-agree}

-- ---- views

mark-bit : (p : ℕ → Bool) (r : ℕ) → r < 32 → bit (set_below 32 p) r ≡ p r
mark-bit p r lt = grind (arith, set_bits)

listed : (f : ℕ → ℕ) (r : ℕ) → r < 32 → slice_index (register_list f) r ≡ f r
unfolding register_list
listed f r lt = get_or-map-range_with_len f 0 32 r r 0 lt (omega arith)

shown-same : (s t : State) (r : ℕ) → Agree true s t → s.marks r ≡ false → t.regs r ≡ s.regs r
shown-same s t r agree e = agree.regs r (ap (shows true) e)

pub views-agree : (s t : State) → Agree true s t → AreViewsAlike (view_of s) (view_of t)
views-agree s t agree = grind (arith, listed, shown-same, mark-bit)

-- ---- the text of a drained point

register-shown : (s : State) (r : ℕ) → r < 32 → spaced_register (view_of s) r ≡ cond (s.marks r) (codes " --------") (spaced (s.regs r))
register-shown s r lt = grind (arith, mark-bit, listed)

register-same : (s t : State) (r : ℕ) → r < 32 → Agree true s t → spaced_register (view_of t) r ≡ spaced_register (view_of s) r
register-same s t r lt agree = grind (arith, register-shown)

registers-same : (s t : State) (a n : ℕ) → a + n ≤ 32 → Agree true s t
    → flat_map (spaced_register (view_of t)) (range_with_len a n) ≡ flat_map (spaced_register (view_of s)) (range_with_len a n)
registers-same s t a zero most agree = refl
registers-same s t a (suc n) most agree =
    rw (register-same s t a (omega (arith, most)) agree, registers-same s t (a + 1) n (omega (arith, most)) agree) refl

line-same : (label : List ℕ) (s t : State) (first : ℕ) → first + 16 ≤ 32 → Agree true s t → registers_text label (view_of t) first ≡ registers_text label (view_of s) first
unfolding registers_text
line-same label s t first most agree = ap (λ (x : List ℕ). label ++ x ++ 10 ∷ []) (registers-same s t first 16 most agree)

heading-same : (k : Point) (s t : State) → Agree true s t → point_text k (view_of t) ≡ point_text k (view_of s)
unfolding point_text
heading-same k s t agree = grind arith

pub point-shown-same : (k : Point) (s t : State) → Agree true s t → point_shown k (view_of t) ≡ point_shown k (view_of s)
point-shown-same k s t agree = grind (arith, heading-same, line-same)

-- ---- the lines of a record

pub events-same : (k : Kind) (s t : State) → Agree true s t → event_lines k t ≡ event_lines k s
events-same k s t agree = grind (arith, overlay-agree)

-- which event was reached
pub reached-same : (k : Kind) (s t : State) → Agree true s t → reached_by k t ≡ reached_by k s
reached-same k s t agree = grind arith

pub record-text-same : (r q : Record) → DoAgree true r q → text_of (record_lines q) ≡ text_of (record_lines r)
record-text-same r q same = grind (arith, flat_map-append, events-same, point-shown-same)

-- ---- the end of a run

pub end-text-same : (f : Finish) (s t : State) → Agree true s t → text_of (end_lines t f) ≡ text_of (end_lines s f)
end-text-same f s t agree = grind (arith, flat_map-append, point-shown-same)
