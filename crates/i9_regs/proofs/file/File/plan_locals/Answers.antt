use Rattle.std.proofs.Common.{◌≡◌, length, rules}
use Rattle.i9_regs.proofs.Rows.{row_planned, row_left}
use Rattle.i9_regs.proofs.file.File.plan_locals.Goals as goal

pub returns : goal.returns
returns c =
    let old = c.args.self.now in
    let locals = c.args.locals.now in
    let size : length locals ≡ 16 = search rules in
    let whole : length old.latest ≡ 33 = search rules in
    record {
      cells = row_planned old (record { before = c.set_row.new.all; latest = c.set_row-2.new.all; due = c.set_turns.new.due })
          locals c.args.done size whole c.set_row.ensures c.set_row-2.ensures c.set_turns.ensures;
      left = λ r low. row_left c.args.writes (length locals) r size;
    }
