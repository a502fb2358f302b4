-- The commands of a script are in range, and not too many.
use Rattle.std.proofs.Common.{ℕ, List, [], ◌∷◌, subst, arith, length-append}
use Rattle.std.proofs.lemmas.List.Elements.{All-append, All-cons, All-nil}
use Rattle.i9_text.specs.FirstFault.{SaysAll}
use Rattle.i9_model.specs.Events.{Words, last_address, most_shown}
use Rattle.i9_replay.proofs.Plans.{in_range}
use Rattle.i9_schedule.specs.ScriptText.{IsCommand, is_turn, is_until, is_regs, is_raw, is_held, is_mem, is_rawmem, is_back, is_last, is_who, Says, says_nothing, says_command, most_turns, most_back, IsScript, IsCommandInRange, IsInLimits}
use Rattle.i9_schedule.specs.declared.command.Command.{Command}

command_in_range : (ws : Words) (c : Command) → IsCommand ws c → IsCommandInRange c
command_in_range ws c (is_turn w n h) = in_range 10 10 1 most_turns n w h
command_in_range ws c (is_until w a h) = (in_range 16 8 0 last_address a w h).1
command_in_range ws c is_regs = tt
command_in_range ws c is_raw = tt
command_in_range ws c is_held = tt
command_in_range ws c (is_mem v w a l h g) = let r = in_range 10 10 1 most_shown l w g in ((in_range 16 8 0 last_address a v h).1, r.0, r.1)
command_in_range ws c (is_rawmem v w a l h g) = let r = in_range 10 10 1 most_shown l w g in ((in_range 16 8 0 last_address a v h).1, r.0, r.1)
command_in_range ws c (is_back w n h) = in_range 10 10 1 most_back n w h
command_in_range ws c (is_last w a h) = (in_range 16 8 0 last_address a w h).1
command_in_range ws c (is_who w a h) = (in_range 16 8 0 last_address a w h).1

line_in_limits : (cs ds : List Command) (line : List ℕ) → Says cs line ds → IsInLimits cs → IsInLimits ds
line_in_limits cs ds line (says_nothing xs l ascii skipped) h = h
line_in_limits cs ds line (says_command xs l c ascii some is few) h = record {
  each = All-append IsCommandInRange xs (c ∷ []) h.each (All-cons IsCommandInRange c [] (command_in_range _ c is) (All-nil IsCommandInRange));
  few = omega (arith, length-append xs (c ∷ []), few);
}

lines_in_limits : (cs ds : List Command) (lines : List (List ℕ)) → SaysAll Says cs lines ds → IsInLimits cs → IsInLimits ds
lines_in_limits cs ds [] h limits = subst (λ (x : List Command). IsInLimits x) h limits
lines_in_limits cs ds (line ∷ lines) h limits = lines_in_limits h.0 ds lines h.2 (line_in_limits cs h.0 line h.1 limits)

pub script_in_limits : (lines : List (List ℕ)) (cs : List Command) → IsScript lines cs → IsInLimits cs
script_in_limits lines cs h = lines_in_limits [] cs lines h (record { each = All-nil IsCommandInRange; few = omega arith })
