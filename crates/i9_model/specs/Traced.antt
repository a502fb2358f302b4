-- What tracing makes of an instruction that is done.
use Rattle.std.specs.Prelude.{Bool, false, not, ◌&&◌, Option}
use Rattle.std.specs.Option.{option_map}
use Rattle.i9_isa.specs.declared.op.Op.{Op}
use Rattle.i9_isa.specs.declared.op.Op.TheVariants.{Calls, Ret}
use Rattle.i9_isa.specs.declared.inst.Inst.{Inst}
use Rattle.i9_isa.specs.Words.{bit}
use Rattle.i9_model.specs.declared.layout.TheConstants.{PFP, TRACE_ENABLE_PLACE}
use Rattle.i9_model.specs.declared.trace.Seen.{Seen}
use Rattle.i9_model.specs.declared.trace.Trace.{Trace}
use Rattle.i9_model.specs.State.{State, TraceControls}
use Rattle.i9_model.specs.Calls.{in_supervisor_mode, leaves_supervisor, return_type}
use Rattle.i9_model.specs.Operands.{value}
use Rattle.i9_model.specs.Branches.{is_taken}
use Rattle.i9_model.specs.Tracing.{trace_of}
use Rattle.i9_model.specs.Step.{Action, action_of, acted}
use Rattle.i9_model.specs.Access.{access_of, data_of}

-- trace enable is set
abbrev pub is_traced : State → Bool
is_traced s = bit s.pc TRACE_ENABLE_PLACE

-- a calls that switches to supervisor mode, and in that mode the return of one
abbrev pub switches : Op → State → Action → Bool
switches Calls s a = not (in_supervisor_mode s.pc) && in_supervisor_mode a.pc
switches Ret s a = in_supervisor_mode s.pc && leaves_supervisor (return_type (s.regs PFP))
switches _ s a = false

-- what is seen of an instruction that does this
abbrev pub seen_of : Inst → State → Action → Seen
seen_of i s a = record {
  address = s.ip;
  access = option_map (λ d. d.0) (data_of (access_of i s));
  taken = is_taken i (value s i.a) (value s i.b) s.ac;
  switched = switches i.op s a;
}

-- its trace events, where trace enable is set before it, by trace controls and breakpoints as its results leave them
abbrev pub trace_left : Inst → State → Action → TraceControls → Option Trace
trace_left i s a left = trace_of left.tc s.pc i (seen_of i s a) left.breaks

-- what an instruction does, with its trace events
abbrev pub traced : Inst → State → Action → Action
traced i s a = record a { trace = trace_left i s a (acted s a).trace }

abbrev pub traced_action : Inst → State → Action
traced_action i s = traced i s (action_of i s)
