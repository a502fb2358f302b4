use Rattle.std.proofs.Common.{◌∙◌, sym, rules, FitsSigned}
use Rattle.std.specs.Int.{w32}
use Rattle.std.proofs.lemmas.Int.{to_z-of_z}
use Rattle.i9_decode.proofs.Clear.{control_clear}
use Rattle.i9_decode.proofs.Forms.{control_form}
use Rattle.i9_decode.proofs.encoder.control_code.Goals as goal

pub returns-clause-form : goal.returns-clause-form
returns-clause-form c = λ w1.
    let e = rw c.row.ensures at c.control_word.ensures in
    let fits : FitsSigned w32 c.args.i.now.disp = search rules in
    control_form c.control_word.result w1 c.args.i.now c.requires.valid c.requires.format e.opcode
    (sym (to_z-of_z w32 c.args.i.now.disp fits) ∙ e.disp) e.hint

pub returns-clause-clear : goal.returns-clause-clear
returns-clause-clear c =
    let e = rw c.row.ensures at c.control_word.ensures in
    let fits : FitsSigned w32 c.args.i.now.disp = search rules in
    control_clear c.control_word.result c.args.i.now c.requires.valid c.requires.format
    (sym (to_z-of_z w32 c.args.i.now.disp fits) ∙ e.disp) e.hint e.rest
