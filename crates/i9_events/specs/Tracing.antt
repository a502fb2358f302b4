-- What follows of trace events, and events of which the code makes one word each.
use Rattle.std.specs.Prelude.{◌≡◌, ℕ, nat_le, ◌&&◌, ◌⊎◌, Bool, true, false, List, map, filter}
use Rattle.i9_isa.specs.declared.op.Op.{Op}
use Rattle.i9_isa.specs.declared.inst.Inst.{Inst}
use Rattle.i9_isa.specs.Words.{bit}
use Rattle.i9_model.specs.declared.layout.TheConstants.{TRACE_ENABLE_PLACE}
use Rattle.i9_model.specs.declared.setup.Breaks.{Breaks}
use Rattle.i9_model.specs.declared.trace.Seen.{Seen}
use Rattle.i9_model.specs.Tracing.{TraceEvent, Instruction, Dab1, trace_events, mode_of, flag_of, break_flag_of}
use Rattle.i9_model.specs.Tracing.{has_match, comes_with, is_forced, counts}

-- there is none where trace enable is clear, or where no event counts
abbrev pub IsUntraced : ℕ → ℕ → Inst → Seen → Breaks → Type 0
IsUntraced tc pc i s b = (bit pc TRACE_ENABLE_PLACE ≡ false)
    ⊎ ((e : TraceEvent) → counts tc i.op s (has_match s b) e ≡ false)

-- bit k of the trace controls is a flag: they go from that of the instruction event to that of the last breakpoint
abbrev pub is_flag : ℕ → Bool
is_flag k = nat_le (flag_of Instruction) k && nat_le k (break_flag_of Dab1)

-- the bits that were set stay, and those that are new are flags
pub record GainsFlags (old new : ℕ) : Type 0 where
  pub kept : (k : ℕ) → bit old k ≡ true → bit new k ≡ true
  pub others : (k : ℕ) → is_flag k ≡ false → bit new k ≡ bit old k

-- ---- words of the code

-- the modes of the events that come with an instruction
unfoldable pub coming_modes : Op → Seen → Bool → List ℕ
coming_modes op s matched = map mode_of (filter (comes_with op s matched) trace_events)

-- the modes of those that count always
unfoldable pub forced_modes : Op → Bool → List ℕ
forced_modes op matched = map mode_of (filter (is_forced op matched) trace_events)
