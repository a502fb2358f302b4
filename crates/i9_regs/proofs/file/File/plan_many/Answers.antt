use Rattle.i9_regs.proofs.Issued.{all_issued}
use Rattle.i9_regs.proofs.file.File.plan_many.Goals as goal

pub returns : goal.returns
returns c =
    let a = c.args in
    let group = c.plan_group-left in
    let left = c.plan_left in
    let code = c.plan_code in
    all_issued a.self.now group.new.self left.new.self code.new.self a.writes group.result a.done a.register
    a.values.now a.code c.requires.range c.requires.set group.ensures.cells group.ensures.left
    left.ensures.registers left.ensures.code code.ensures.code code.ensures.registers
