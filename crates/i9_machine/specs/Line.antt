-- The lines of the machine in the plain form of the definitions.
use Rattle.std.specs.Prelude.{◌≡◌, List, ◌++◌, map}
use Rattle.i9_model.specs.PrintedText.{Shown, Out, Drained, Journal, Bytes, Last}
use Rattle.i9_machine.specs.declared.line.Line.{Line}
use Rattle.i9_machine.specs.declared.line.Line.TheVariants as lines

abbrev pub shown_of : Line → Shown
shown_of (lines.Out b) = Out b
shown_of (lines.Event k e) = Journal k e
shown_of (lines.Point kind view) = Drained kind view
shown_of (lines.Bytes a list) = Bytes a list.items
shown_of (lines.End e) = Last e

-- lines were appended that show this
abbrev pub AddsLines : List Line → List Line → List Shown → Type 0
AddsLines old new shown = map shown_of new ≡ map shown_of old ++ shown
