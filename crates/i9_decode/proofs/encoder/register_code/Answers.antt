use Rattle.i9_decode.proofs.Clear.{register_clear}
use Rattle.i9_decode.proofs.Forms.{register_form}
use Rattle.i9_decode.proofs.encoder.register_code.Goals as goal

pub returns-clause-form : goal.returns-clause-form
returns-clause-form c = λ w1.
    let e = rw c.row.ensures at c.register_word.ensures in
    register_form c.register_word.result w1 c.args.i.now c.requires.valid c.requires.format e.opcode e.extension e.a e.m1 e.s1 e.b e.m2 e.s2 e.c e.m3

pub returns-clause-clear : goal.returns-clause-clear
returns-clause-clear c =
    let e = rw c.row.ensures at c.register_word.ensures in
    register_clear c.register_word.result c.args.i.now c.requires.valid c.requires.format e.a e.m1 e.s1 e.b e.m2 e.s2 e.c e.m3
