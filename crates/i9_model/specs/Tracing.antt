-- Trace events: which come with an instruction, which of them count, and the flags and the subtype that they make.
use Rattle.std.specs.Prelude.{ℕ, ◌+◌, ◌==◌, ◌&&◌, ◌||◌, Bool, true, false, if◌then◌else◌, List, [], ◌∷◌, ◌++◌, map}
use Rattle.std.specs.Prelude.{filter, fold, Option, Some, None, slice_index}
use Rattle.std.specs.List.{list_any}
use Rattle.i9_isa.specs.declared.op.Op.{Op}
use Rattle.i9_isa.specs.declared.inst.Inst.{Inst}
use Rattle.i9_isa.specs.Table.{row_of}
use Rattle.i9_isa.specs.Words.{bit}
use Rattle.i9_model.specs.declared.layout.TheConstants.{TRACE_ENABLE_PLACE}
use Rattle.i9_model.specs.declared.setup.Breaks.{Breaks}
use Rattle.i9_model.specs.Requests.{with_bit}
use Rattle.i9_model.specs.Writes.{aligned}
use Rattle.i9_model.specs.declared.trace.TheConstants.{INSTRUCTION_TRACE_PLACE, BRANCH_TRACE_PLACE, CALL_TRACE_PLACE}
use Rattle.i9_model.specs.declared.trace.TheConstants.{RETURN_TRACE_PLACE, PRERETURN_TRACE_PLACE}
use Rattle.i9_model.specs.declared.trace.TheConstants.{SUPERVISOR_TRACE_PLACE, MARK_TRACE_PLACE, FLAG_DISTANCE}
use Rattle.i9_model.specs.declared.trace.TheConstants.{IPB0_FLAG_PLACE, IPB1_FLAG_PLACE, DAB0_FLAG_PLACE}
use Rattle.i9_model.specs.declared.trace.TheConstants.{DAB1_FLAG_PLACE, IPB_ENABLE_PLACE, DAB0_ENABLE_PLACE}
use Rattle.i9_model.specs.declared.trace.TheConstants.{DAB1_ENABLE_PLACE}
use Rattle.i9_model.specs.declared.trace.Seen.{Seen}
use Rattle.i9_model.specs.declared.trace.Trace.{Trace}

-- ---- bits

-- a word with all of these bits set
abbrev pub with_bits : ℕ → List ℕ → ℕ
with_bits w places = fold with_bit w places

-- ---- breakpoints

-- two instruction breakpoints and two data breakpoints
pub data Breakpoint : Type 0 where
  Ipb0 : Breakpoint
  Ipb1 : Breakpoint
  Dab0 : Breakpoint
  Dab1 : Breakpoint

-- all four
abbrev pub breakpoints : List Breakpoint
breakpoints = Ipb0 ∷ Ipb1 ∷ Dab0 ∷ Dab1 ∷ []

-- the place of its flag in the trace controls
abbrev pub break_flag_of : Breakpoint → ℕ
break_flag_of Ipb0 = IPB0_FLAG_PLACE
break_flag_of Ipb1 = IPB1_FLAG_PLACE
break_flag_of Dab0 = DAB0_FLAG_PLACE
break_flag_of Dab1 = DAB1_FLAG_PLACE

-- an instruction breakpoint, where its own bit is set, is at the instruction's address in bits 31 to 2
abbrev pub is_at_address : ℕ → ℕ → Bool
is_at_address ipb address = bit ipb IPB_ENABLE_PLACE && (aligned ipb == aligned address)

-- a data breakpoint is at the effective address, in all bits; there is one of a load, a store or an atomic alone
abbrev pub is_at_access : ℕ → Option ℕ → Bool
is_at_access dab None = false
is_at_access dab (Some address) = dab == address

-- the breakpoint matches; a data breakpoint does where its bit of the breakpoint controls is set
abbrev pub matches : Seen → Breaks → Breakpoint → Bool
matches s b Ipb0 = is_at_address (slice_index b.ipb 0) s.address
matches s b Ipb1 = is_at_address (slice_index b.ipb 1) s.address
matches s b Dab0 = bit b.bpcon DAB0_ENABLE_PLACE && is_at_access (slice_index b.dab 0) s.access
matches s b Dab1 = bit b.bpcon DAB1_ENABLE_PLACE && is_at_access (slice_index b.dab 1) s.access

-- one of them matches
unfoldable pub has_match : Seen → Breaks → Bool
has_match s b = list_any (matches s b) breakpoints

-- the flags of those that match
unfoldable pub break_flags : Seen → Breaks → List ℕ
break_flags s b = map break_flag_of (filter (matches s b) breakpoints)

-- ---- names

-- b and bx branch always; a conditional or a compare branch, which is a name with a prediction, does where it is taken
abbrev pub branches : Op → Bool → Bool
branches Op.B taken = true
branches Op.Bx taken = true
branches op taken = (row_of op).hint && taken

-- calls, and the branches that link
abbrev pub is_call : Op → Bool
is_call Op.Bal = true
is_call Op.Balx = true
is_call Op.Call = true
is_call Op.Callx = true
is_call Op.Calls = true
is_call _ = false

-- returns
abbrev pub is_return : Op → Bool
is_return Op.Ret = true
is_return _ = false

-- the mark of which the mode is asked
abbrev pub is_mark : Op → Bool
is_mark Op.Mark = true
is_mark _ = false

-- the mark of which it is not
abbrev pub is_fmark : Op → Bool
is_fmark Op.Fmark = true
is_fmark _ = false

-- ---- events

-- what an instruction may be traced for
pub data TraceEvent : Type 0 where
  Instruction : TraceEvent
  Branch : TraceEvent
  Call : TraceEvent
  Return : TraceEvent
  Prereturn : TraceEvent
  Supervisor : TraceEvent
  Mark : TraceEvent

-- all seven, in the order of their modes
abbrev pub trace_events : List TraceEvent
trace_events = Instruction ∷ Branch ∷ Call ∷ Return ∷ Prereturn ∷ Supervisor ∷ Mark ∷ []

-- the place of its mode in the trace controls, and of its bit in the subtype
abbrev pub mode_of : TraceEvent → ℕ
mode_of Instruction = INSTRUCTION_TRACE_PLACE
mode_of Branch = BRANCH_TRACE_PLACE
mode_of Call = CALL_TRACE_PLACE
mode_of Return = RETURN_TRACE_PLACE
mode_of Prereturn = PRERETURN_TRACE_PLACE
mode_of Supervisor = SUPERVISOR_TRACE_PLACE
mode_of Mark = MARK_TRACE_PLACE

-- the place of its flag in the trace controls
abbrev pub flag_of : TraceEvent → ℕ
flag_of e = mode_of e + FLAG_DISTANCE

-- its mode is set
abbrev pub has_mode : ℕ → TraceEvent → Bool
has_mode tc e = bit tc (mode_of e)

-- The event comes with an instruction: the instruction event with each one, and the mark event also where a breakpoint
-- matches, as the third argument says.
abbrev pub comes_with : Op → Seen → Bool → TraceEvent → Bool
comes_with op s matched Instruction = true
comes_with op s matched Branch = branches op s.taken
comes_with op s matched Call = is_call op
comes_with op s matched Return = is_return op
comes_with op s matched Prereturn = is_return op
comes_with op s matched Supervisor = s.switched
comes_with op s matched Mark = is_mark op || is_fmark op || matched

-- the mark event of fmark and of a breakpoint counts whatever the modes are
abbrev pub is_forced : Op → Bool → TraceEvent → Bool
is_forced op matched Mark = is_fmark op || matched
is_forced op matched _ = false

-- an event that comes counts where its mode is set
abbrev pub counts : ℕ → Op → Seen → Bool → TraceEvent → Bool
counts tc op s matched e = comes_with op s matched e && (has_mode tc e || is_forced op matched e)

-- the modes of the events that count
unfoldable pub counting_modes : ℕ → Op → Seen → Bool → List ℕ
counting_modes tc op s matched = map mode_of (filter (counts tc op s matched) trace_events)

-- the flags of those that come and whose mode is set
unfoldable pub event_flags : ℕ → Op → Seen → Bool → List ℕ
event_flags tc op s matched = map flag_of (filter (λ e. comes_with op s matched e && has_mode tc e) trace_events)

-- ---- the fault

-- some event counts
abbrev pub is_raised : ℕ → Inst → Seen → Breaks → Bool
is_raised tc i s b = list_any (counts tc i.op s (has_match s b)) trace_events

-- the trace controls afterwards, and the subtype
unfoldable pub trace_made : ℕ → Inst → Seen → Breaks → Trace
trace_made tc i s b = record {
  tc = with_bits tc (event_flags tc i.op s (has_match s b) ++ break_flags s b);
  subtype = with_bits 0 (counting_modes tc i.op s (has_match s b));
}

-- there is a trace fault where trace enable is set and an event counts
unfoldable pub trace_of : ℕ → ℕ → Inst → Seen → Breaks → Option Trace
trace_of tc pc i s b = if bit pc TRACE_ENABLE_PLACE && is_raised tc i s b then Some (trace_made tc i s b) else None
