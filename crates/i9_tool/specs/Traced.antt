-- The text of a run whose instructions are traced.
use Rattle.std.specs.Prelude.{ℕ, Bool, ◌==◌, ◌&&◌, nat_le, if◌then◌else◌, List, [], ◌∷◌, ◌++◌, Option, Some, None}
use Rattle.i9_isa.specs.Words.{words_of}
use Rattle.i9_model.specs.State.{State}
use Rattle.i9_model.specs.Step.{first_word, next_word}
use Rattle.i9_model.specs.Run.{Given, Kind, Instruction, Faulted, Entered, Interrupted, Reached, Record}
use Rattle.i9_model.specs.Run.{faulted_words, state_after, Finish}
use Rattle.i9_model.specs.PrintedText.{text_of, record_lines, end_lines, run_text, heading_text}
use Rattle.i9_tracer.specs.Trace.{trace_text}
use Rattle.i9_tool.specs.declared.words.Range.{Range}

-- an address of a range, both of whose ends are in it; where the end comes before the start, none is
abbrev pub is_within : Range → ℕ → Bool
is_within range address = nat_le range.low address && nat_le address range.high

-- how many words an instruction has that counts, which is done or faults; an entry is none, and no more is an event
abbrev pub issued_words : Kind → Option ℕ
issued_words (Instruction i) = Some (words_of i)
issued_words (Faulted inst fault) = Some (faulted_words inst)
issued_words (Entered e) = None
issued_words (Interrupted c e) = None
issued_words (Reached e u) = None

-- an instruction's line, where its address passes
abbrev pub line_where : Bool → ℕ → ℕ → ℕ → ℕ → List ℕ
line_where passes count address first second = if passes then trace_text count address first second else []

-- the line of an instruction of so many words that is issued in a state
abbrev pub issued_line : (ℕ → Bool) → State → Option ℕ → List ℕ
issued_line passes s None = []
issued_line passes s (Some words) =
    line_where (passes s.ip) s.count s.ip (first_word s) (if words == 2 then next_word s else 0)

-- the line of a record that counts
abbrev pub traced_line : (ℕ → Bool) → Record → List ℕ
traced_line passes r = issued_line passes r.before (issued_words r.kind)

-- the text of records, newest first: of each its own line, and then what it prints in any run
abbrev pub traced_lines : (ℕ → Bool) → List Record → List ℕ
traced_lines passes [] = []
traced_lines passes (r ∷ rs) = traced_lines passes rs ++ (traced_line passes r ++ text_of (record_lines r))

-- the text of a whole run whose instructions are traced where their addresses pass
abbrev pub traced_text : (ℕ → Bool) → Given → List Record → Finish → List ℕ
traced_text passes g rs f = traced_lines passes rs ++ text_of (end_lines (state_after g rs) f)

-- the text of a whole run of which a range is traced, or nothing
abbrev pub printed_text : Option Range → Given → List Record → Finish → List ℕ
printed_text None g rs f = run_text g rs f
printed_text (Some range) g rs f = traced_text (is_within range) g rs f

-- the same behind the line of the version of its schedule
abbrev pub headed_text : ℕ → Option Range → Given → List Record → Finish → List ℕ
headed_text version traced g rs f = heading_text version ++ printed_text traced g rs f
