use Rattle.std.proofs.Common.{◌≡◌, length}
use Rattle.i9_asm.specs.Strings.{characters, string_of}
use Rattle.i9_asm.proofs.CharacterLoops.{behind}
use Rattle.i9_asm.proofs.strings.add_string.Given as goal

abbrev pub invariant-loop-character : goal.invariant-loop-character
invariant-loop-character l = behind l.bytes.items (characters l.rest) ≡ behind l.fn.bytes.items (string_of l.text)

abbrev pub decreases-loop-character : goal.decreases-loop-character
decreases-loop-character l = length l.rest
