use Rattle.std.proofs.Common.{◌≡◌, rules, SFits, w32, to_z, of_z}
use Rattle.std.proofs.lemmas.Int.{to_z-of_z}
use Rattle.std.proofs.lemmas.Result.{IfOk-weaker}
use Rattle.i9_isa.specs.Table.{row_of}
use Rattle.i9_statement.specs.Instructions.{operand_field, last_use, operand_fields}
use Rattle.i9_statement.specs.Pieces.{Added}
use Rattle.i9_statement.proofs.Pieces.{added_both}
use Rattle.i9_statement.proofs.statement_text.add_operands.Goals as goal

pub returns : goal.returns
unfolding operand_fields
returns c =
    let e = c.row-row.ensures in
    let i = c.args.i.now in
    let fits : SFits w32 i.disp = search rules in
    let same : to_z w32 (of_z w32 i.disp) ≡ i.disp = to_z-of_z w32 i.disp fits in
    let a = rw e at c.in_ok-started.ensures in
    let b = rw e at c.in_ok-started-2.ensures in
    let first = rw (c.first_use.ensures, e) at c.in_ok-started-3.ensures in
    let place = rw e at c.in_ok-started-4.ensures in
    let branch = rw (e, same) at c.in_ok-started-5.ensures in
    let last = rw (c.last_use.ensures, e) at c.add_used-4.ensures in
    IfOk-weaker c.add_used-4.result (λ now. Added c.add_branch.new.text.items c.add_used-4.new.text.items c.in_ok-started-5.started (operand_field (last_use (row_of i.op)) i.c) now) _
    (λ now x. added_both a (added_both b (added_both first (added_both place (added_both branch x))))) last
