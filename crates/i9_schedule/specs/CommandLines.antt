-- Functions that answer what a line says, or the kind of its fault: what the parts of the reader give.
use Rattle.std.specs.Prelude.{ℕ, List, [], ◌∷◌, not, if◌then◌else◌, codes, Option, Some, None, Result, Ok, Err}
use Rattle.std.specs.Option.{option_map, ok_or}
use Rattle.std.specs.Str.{bytes_eq}
use Rattle.i9_text.specs.Text.{words_of}
use Rattle.i9_model.specs.Events.{Words, decimal_in, address_of, most_shown, one_of, two_of, ◌>>=◌}
use Rattle.i9_model.specs.ScheduleText.{is_ascii, is_skipped, and_then}
use Rattle.i9_schedule.specs.ScriptText.{most_turns, most_back, unknown_command, bad_operand}
use Rattle.i9_schedule.specs.declared.command.Command.{Command}
use Rattle.i9_schedule.specs.declared.command.Command.TheVariants.{Turn, Until, Regs, Raw, Held, Mem, RawMem, Back, Last}
use Rattle.i9_schedule.specs.declared.command.Command.TheVariants.{Who}

-- a command that has no operands
abbrev pub bare_of : Command → Words → Option Command
bare_of c [] = Some c
bare_of c (w ∷ ws) = None

-- a number from 1 on
unfoldable pub number_of : ℕ → Words → Option ℕ
number_of high ws = do
  w ← one_of ws
  decimal_in 1 high w

-- an address
unfoldable pub place_of : Words → Option ℕ
place_of ws = do
  w ← one_of ws
  address_of w

abbrev pub turn_of : Words → Option Command
turn_of ws = option_map Turn (number_of most_turns ws)

abbrev pub back_of : Words → Option Command
back_of ws = option_map Back (number_of most_back ws)

abbrev pub until_of : Words → Option Command
until_of ws = option_map Until (place_of ws)

abbrev pub last_of : Words → Option Command
last_of ws = option_map Last (place_of ws)

abbrev pub who_of : Words → Option Command
who_of ws = option_map Who (place_of ws)

-- an address and a number of bytes
unfoldable pub piece_of : Words → Option (ℕ × ℕ)
piece_of ws = do
  p ← two_of ws
  a ← address_of p.0
  l ← decimal_in 1 most_shown p.1
  Some (a, l)

abbrev pub mem_of : Words → Option Command
mem_of ws = option_map (λ p. Mem p.0 p.1) (piece_of ws)

abbrev pub rawmem_of : Words → Option Command
rawmem_of ws = option_map (λ p. RawMem p.0 p.1) (piece_of ws)

unfoldable pub command_of : Words → Result Command ℕ
command_of [] = Err unknown_command
command_of (name ∷ ws) =
    if bytes_eq name (codes "turn") then ok_or (turn_of ws) bad_operand
    else if bytes_eq name (codes "until") then ok_or (until_of ws) bad_operand
    else if bytes_eq name (codes "regs") then ok_or (bare_of Regs ws) bad_operand
    else if bytes_eq name (codes "raw") then ok_or (bare_of Raw ws) bad_operand
    else if bytes_eq name (codes "held") then ok_or (bare_of Held ws) bad_operand
    else if bytes_eq name (codes "mem") then ok_or (mem_of ws) bad_operand
    else if bytes_eq name (codes "rawmem") then ok_or (rawmem_of ws) bad_operand
    else if bytes_eq name (codes "back") then ok_or (back_of ws) bad_operand
    else if bytes_eq name (codes "last") then ok_or (last_of ws) bad_operand
    else if bytes_eq name (codes "who") then ok_or (who_of ws) bad_operand
    else Err unknown_command

-- nothing or a command
unfoldable pub line_of : List ℕ → Result (Option Command) ℕ
line_of line =
    if not (is_ascii line) then Err unknown_command
    else if is_skipped line then Ok None
    else and_then (command_of (words_of line)) (λ c. Ok (Some c))
