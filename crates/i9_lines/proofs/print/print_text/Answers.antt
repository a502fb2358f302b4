use Rattle.std.proofs.Common.{◌≡◌, ◌+◌, ◌∙◌, sym, arith, Some}
use Rattle.std.specs.List.{position}
use Rattle.i9_text.specs.Text.{is_line_feed}
use Rattle.i9_text.proofs.Cuts.{position_or_len-found}
use Rattle.i9_lines.specs.declared.print.Printed.TheVariants.{Write}
use Rattle.i9_lines.proofs.TextLines.{line_alone}
use Rattle.i9_lines.proofs.Prints.{prints_same}
use Rattle.i9_lines.proofs.Lined.{line_found, rest_found, text_begins, text_goes_on, text_stops, rest_printed}
use Rattle.i9_lines.proofs.print.print_text.Goals as goal

pub loop-place-init : goal.loop-place-init
loop-place-init g c = text_begins _ _ _

pub print_piece-requires : goal.print_piece-requires
print_piece-requires g c = grind (arith, line_alone, line_found)

pub returns-in-Write-clause-prints : goal.returns-in-Write-clause-prints
returns-in-Write-clause-prints g c =
    let found : Some c.in-Some.place ≡ position is_line_feed c.loop-place.rest.now = sym c.in-Some.is ∙ c.feed_place.ensures in
    text_stops _ _ _ _ _ c.loop-place.rest.now (c.in-Some.place + 1) c.loop-place.invariant (line_found c.loop-place.rest.now c.in-Some.place found)
    Write (λ e. cc) (prints_same _ _ _ _ _ _ c.split_at.ensures.front c.in-Write.ensures.prints)

pub loop-place-smaller : goal.loop-place-smaller
loop-place-smaller g c = grind (arith, position_or_len-found)

pub loop-place-preserved : goal.loop-place-preserved
loop-place-preserved g c = grind (arith, text_goes_on, line_found, prints_same)

pub print_piece-requires-else-is_empty : goal.print_piece-requires-else-is_empty
print_piece-requires-else-is_empty g c = grind (arith, rest_found)

pub returns-else-is_empty-clause-prints : goal.returns-else-is_empty-clause-prints
returns-else-is_empty-clause-prints g c = rest_printed _ _ _ _ _ _ c.loop-place.rest.now c.loop-place.invariant c.print_piece-else-is_empty.ensures.prints
