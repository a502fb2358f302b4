use Rattle.std.proofs.Common.{arith}
use Rattle.i9_lines.proofs.Prints.{piece_printed, piece_cut}
use Rattle.i9_lines.proofs.print.print_piece.Goals as goal

pub returns-in-Ok-clause-prints : goal.returns-in-Ok-clause-prints
returns-in-Ok-clause-prints g c = grind (arith, piece_printed)

pub returns-in-Failed-clause-prints : goal.returns-in-Failed-clause-prints
returns-in-Failed-clause-prints g c =
    piece_cut _ _ _ _ c.requires.line c.write.ensures.later c.in-Failed.ensures.bytes c.in-Failed.ensures.cause c.write.ensures.once
    c.in-Failed.ensures.piece (λ n h. c.in-Failed.ensures.calm n h)
