use Rattle.std.proofs.Common.{◌+◌, ◌≤◌, ◌^◌, [], length, sym, subst}
use Rattle.i9_asm.specs.Listing.{lists_all}
use Rattle.i9_dis.specs.Printed.{AddsLines}
use Rattle.i9_dis.proofs.Printing.{runs_turn, run_at}
use Rattle.i9_dis.proofs.lines.lines_of.Goals as goal

pub loop-run-init : goal.loop-run-init
loop-run-init c = record { lines = []; listed = lists_all; text = c.new-text.ensures.items }

pub add_lines-requires : goal.add_lines-requires
add_lines-requires c =
    let run = run_at c.args.runs.now c.loop-run.run-index c.run-item.result c.requires c.loop-run-test.true c.run-item.is in
    subst (λ bs. c.run-item.result.address + length bs ≤ 2 ^ 32) (sym c.deref.ensures.value) run.inside

pub loop-run-preserved : goal.loop-run-preserved
loop-run-preserved c =
    let s = c.run-item.result in
    runs_turn c.args.runs.now c.loop-run.run-index s c.loop-run.text.items c.add_org.new.text.items c.add_lines.new.text.items c.loop-run-test.true c.run-item.is c.loop-run.invariant c.in_ok-add_org.ensures
    (subst (λ bs. AddsLines s.address bs c.add_org.new.text.items c.add_lines.new.text.items) c.deref.ensures.value c.in_ok-add_lines.ensures)
