-- The last line of what is traced has its line feed.
use Rattle.std.proofs.Common.{ℕ, Bool, true, false, List, [], ◌∷◌, ◌++◌, codes, Option, Some, None}
use Rattle.std.specs.Fmt.{decimal}
use Rattle.i9_asm.specs.Listing.{text_of as statement_text}
use Rattle.i9_model.specs.State.{State}
use Rattle.i9_model.specs.Run.{Record}
use Rattle.i9_model.specs.PrintedText.{spaced, text_of, record_lines}
use Rattle.i9_machine.specs.declared.line.Turn.{Turn}
use Rattle.i9_machine.specs.declared.line.Turn.TheVariants as turns
use Rattle.i9_tracer.specs.Trace.{trace_text}
use Rattle.i9_lines.proofs.TextLines.{IsClosed, closed_none, closed_join, closed_feed}
use Rattle.i9_lines.proofs.ClosedLines.{closed_text}
use Rattle.i9_tool.specs.Traced.{issued_words, line_where, issued_line, traced_line, traced_lines}
use Rattle.i9_tool.specs.Run.{TracedBy, traced_none, traced_next, turn_text}

-- the line of an instruction
closed_trace : (count address first second : ℕ) → IsClosed (trace_text count address first second)
unfolding trace_text
closed_trace count address first second = closed_feed (codes "#t " ++ decimal count ++ spaced address ++ codes " " ++ statement_text address first second)

closed_where : (passes : Bool) (count address first second : ℕ) → IsClosed (line_where passes count address first second)
closed_where true count address first second = closed_trace count address first second
closed_where false count address first second = closed_none

pub closed_turn : (answer : Bool) (turn : Turn) → IsClosed (turn_text answer turn)
closed_turn answer turns.On = closed_none
closed_turn answer (turns.Issued t) = closed_where answer t.count t.address t.first t.second
closed_turn answer (turns.End e) = closed_none
closed_turn answer turns.Memory = closed_none

closed_issued : (passes : ℕ → Bool) (s : State) (words : Option ℕ) → IsClosed (issued_line passes s words)
closed_issued passes s None = closed_none
closed_issued passes s (Some words) = closed_where (passes s.ip) s.count s.ip _ _

closed_record : (passes : ℕ → Bool) (r : Record) → IsClosed (traced_line passes r ++ text_of (record_lines r))
closed_record passes r =
    closed_join (traced_line passes r) (text_of (record_lines r)) (closed_issued passes r.before (issued_words r.kind)) (closed_text (record_lines r))

pub closed_traces : (passes : ℕ → Bool) (rs : List Record) → IsClosed (traced_lines passes rs)
closed_traces passes [] = closed_none
closed_traces passes (r ∷ rs) = closed_join (traced_lines passes rs) _ (closed_traces passes rs) (closed_record passes r)

pub closed_by : (allows : ℕ → Bool → Type 0) (rs : List Record) (text : List ℕ) → TracedBy allows rs text → IsClosed text
closed_by allows _ _ traced_none = closed_none
closed_by allows _ _ (traced_next rs text r answer traced allowed) = closed_join text _ (closed_by allows rs text traced) (closed_record (λ a. answer) r)
