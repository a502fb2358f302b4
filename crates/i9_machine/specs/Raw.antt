-- What of a machine has landed, whatever is planned and waits.
use Rattle.std.specs.Prelude.{◌≡◌, ℕ, ◌≤◌, true, List, []}
use Rattle.i9_model.specs.Alike.{is_hard}
use Rattle.i9_model.specs.Late.{raw_value, is_busy, turns}
use Rattle.i9_model.specs.Needs.{set_below}
use Rattle.i9_model.specs.PrintedText.{register_list, view_of}
use Rattle.i9_model.specs.Run.{Given, state_after}
use Rattle.i9_model.specs.State.{boot}
use Rattle.i9_model.specs.Turns.{end_turn}
use Rattle.i9_course.specs.Course.{Item, records_of, course}
use Rattle.i9_machine.specs.declared.line.Raw.{Raw}

-- The raw state at a turn: each register has the value that it has behind the last record that writes it and is done by
-- then, and is busy where an open record writes it.
abbrev pub raw_at : Given → List Item → ℕ → Raw
raw_at g h t = record {
  turn = t;
  regs = register_list (raw_value (boot g.image) t (course g h).late);
  busy = set_below 32 (is_busy t (course g h).late);
}

-- at a turn nothing is open, no frame is live, and a byte is hard: not soft, or past the last address
pub record IsFlushed (g : Given) (h : List Item) (t a : ℕ) : Type 0 where
  pub done : end_turn (turns (course g h).late) ≤ t
  pub live : (state_after g (records_of h)).frames.live ≡ []
  pub hard : is_hard (state_after g (records_of h)).frames a ≡ true

-- each register has what a drained point shows, and none is busy
pub record IsLevel (g : Given) (h : List Item) (t : ℕ) : Type 0 where
  pub registers : (raw_at g h t).regs ≡ (view_of (state_after g (records_of h))).regs
  pub free : (raw_at g h t).busy ≡ 0
