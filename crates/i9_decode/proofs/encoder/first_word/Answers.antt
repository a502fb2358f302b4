use Rattle.i9_decode.proofs.encoder.first_word.Goals as goal

pub returns-in-Reg-clause-form : goal.returns-in-Reg-clause-form
returns-in-Reg-clause-form c = λ w1 _. c.register_code.ensures.form w1

pub returns-in-Cobr-clause-form : goal.returns-in-Cobr-clause-form
returns-in-Cobr-clause-form c = λ w1 _. c.branch_code.ensures.form w1

pub returns-in-Ctrl-clause-form : goal.returns-in-Ctrl-clause-form
returns-in-Ctrl-clause-form c = λ w1 _. c.control_code.ensures.form w1
