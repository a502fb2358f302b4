use Rattle.i9_decode.proofs.Clear.{memory_clear}
use Rattle.i9_decode.proofs.Forms.{memory_form, address_read}
use Rattle.i9_decode.proofs.encoder.memory_code.Goals as goal

pub returns-clause-form : goal.returns-clause-form
returns-clause-form c = λ w1 d.
    let e = rw c.row.ensures at c.memory_word.ensures in
    let ia = rw c.requires.format at c.requires.valid.ea in
    memory_form c.memory_word.result w1 c.args.i.now c.requires.valid c.requires.format e.opcode e.c e.mode
    (address_read c.args.i.now.ea c.memory_word.result w1 ia e.base e.index e.scale e.offset d) ia

pub returns-clause-clear : goal.returns-clause-clear
returns-clause-clear c =
    let e = rw c.row.ensures at c.memory_word.ensures in
    let ia = rw c.requires.format at c.requires.valid.ea in
    memory_clear c.memory_word.result c.args.i.now c.requires.valid c.requires.format ia e.c e.base e.index e.scale e.gap
