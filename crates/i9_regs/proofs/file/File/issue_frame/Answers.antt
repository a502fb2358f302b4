use Rattle.std.proofs.Common.{rules, length}
use Rattle.i9_regs.proofs.Framed.{left_locals, frame_issued}
use Rattle.i9_regs.proofs.Issued.{all_issued}
use Rattle.i9_regs.proofs.file.File.issue_frame.Goals as goal

pub returns : goal.returns
returns c =
    let a = c.args in
    let pointer = c.plan_group-left in
    let group = c.plan_locals-rest in
    let left = c.plan_left in
    let code = c.plan_code in
    let set = left_locals pointer.result a.writes (length a.locals.now) (search rules) pointer.ensures.left c.requires.locals in
    let all = all_issued pointer.new.self group.new.self left.new.self code.new.self pointer.result group.result a.done 0
    a.locals.now a.code (search rules) set group.ensures.cells group.ensures.left left.ensures.registers left.ensures.code
    code.ensures.code code.ensures.registers in
    frame_issued a.self.now pointer.new.self code.new.self a.writes pointer.result a.done a.locals.now a.frame a.code
    c.requires.frame pointer.ensures.cells pointer.ensures.left all
