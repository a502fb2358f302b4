use Rattle.std.proofs.Common.{arith}
use Rattle.std.proofs.lemmas.Bool.Decides.{nat_tests}
use Rattle.i9_regs.proofs.Issued.{lone_issued, code_issued_alone}
use Rattle.i9_regs.proofs.file.File.issue.Goals as goal

pub returns-then-writes-register : goal.returns-then-writes-register
returns-then-writes-register c =
    let a = c.args in
    let group = c.plan_group in
    lone_issued a.self.now group.new.self a.writes group.result a.done a.register a.values.now a.code
    c.requires.range c.if-values-eq1.true c.if-writes-register.true c.requires.set group.ensures.cells
    group.ensures.left

pub returns-then-writes-eq0 : goal.returns-then-writes-eq0
returns-then-writes-eq0 c = grind (arith, nat_tests, code_issued_alone)
