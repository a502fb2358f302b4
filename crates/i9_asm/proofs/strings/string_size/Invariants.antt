use Rattle.std.proofs.Common.{◌≡◌, ◌+◌, ◌≤◌, length}
use Rattle.std.specs.Option.{option_map}
use Rattle.i9_asm.specs.Strings.{characters, string_of}
use Rattle.i9_asm.proofs.CharacterLoops.{counted}
use Rattle.i9_asm.proofs.strings.string_size.Given as goal

abbrev pub invariant-loop-behind : goal.invariant-loop-behind
invariant-loop-behind l = record {
  count : counted l.count (characters l.rest) ≡ option_map length (string_of l.text);
  few : l.count + length l.rest ≤ length l.initial.rest;
}

abbrev pub decreases-loop-behind : goal.decreases-loop-behind
decreases-loop-behind l = length l.rest
