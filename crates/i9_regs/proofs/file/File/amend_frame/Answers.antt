use Rattle.std.proofs.Common.{refl}
use Rattle.i9_regs.specs.File.{framed_value}
use Rattle.i9_regs.proofs.Issued.{amended}
use Rattle.i9_regs.proofs.file.File.amend_frame.Goals as goal

pub returns : goal.returns
returns c =
    let a = c.args in
    let olds = a.self.now in
    let mids = c.issue_frame.new.self in
    amended olds mids (record mids { before = olds.before }) a.writes a.done
    (framed_value olds a.locals.now a.frame a.code) c.issue_frame.ensures (λ r. refl) (λ r. refl)
