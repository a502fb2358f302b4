use Rattle.std.proofs.Common.{rules, ◌≡◌, length}
use Rattle.i9_model.specs.declared.layout.TheConstants.{LOCALS}
use Rattle.i9_model.specs.State.{frame_sets}
use Rattle.i9_processor.proofs.Issued.{locals_set, pointer_set, frame_past, issued_by}
use Rattle.i9_processor.proofs.registers.issue_frame.Goals as goal

pub issue_frame-requires-clause-locals : goal.issue_frame-requires-clause-locals
issue_frame-requires-clause-locals c =
    let whole : length c.args.locals.now ≡ LOCALS = search rules in
    locals_set c.args.landing.now.writes c.args.frame c.args.locals.now whole c.requires.sets

pub issue_frame-requires-clause-frame : goal.issue_frame-requires-clause-frame
issue_frame-requires-clause-frame c =
    pointer_set c.args.landing.now.writes c.args.frame c.args.locals.now c.requires.sets

pub returns : goal.returns
returns c =
    let l = c.args.landing.now in
    let locals = c.args.locals.now in
    let whole : length locals ≡ LOCALS = search rules in
    let left = issued_by c.args.file.now c.issue_frame.new.self l.writes l.done c.args.flags.now c.args.ac
    (frame_sets locals c.args.frame) (λ r past. frame_past locals c.args.frame r whole past) c.requires.sets
    c.requires.code c.issue_frame.ensures in
    record { registers = left.registers; ac = left.controls; issued = left.issued }
