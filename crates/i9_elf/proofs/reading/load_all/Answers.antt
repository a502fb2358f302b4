use Rattle.std.proofs.Common.{arith, ◌∙◌, sym}
use Rattle.i9_model.specs.Image.{pairs_of}
use Rattle.i9_elf.specs.Reading.{plain}
use Rattle.i9_elf.proofs.Answers.{fine_file, header_inside}
use Rattle.i9_elf.proofs.Loads.{fits, begins_all, next-other, next-load, next-fault}
use Rattle.i9_elf.proofs.reading.load_all.Goals.{then-is_load+in_default+in-Ok, else-is_load}
use Rattle.i9_elf.proofs.reading.load_all.Goals as goal

pub of-table-requires : goal.of-table-requires
of-table-requires c = (fine_file c.args.file.now c.requires).long

pub loop-index-init : goal.loop-index-init
loop-index-init c = grind (arith, begins_all)

pub read-header-requires : goal.read-header-requires
read-header-requires c =
    header_inside c.args.file.now c.of-table.result.place c.of-table.result.count c.loop-index.index c.requires c.of-table.ensures.place c.of-table.ensures.count c.loop-index-test.true

pub returns-in-Some : goal.returns-in-Some
returns-in-Some c =
    next-fault c.args.file.now c.loop-index.size c.of-table.result.place c.of-table.result.count c.loop-index.index (pairs_of c.loop-index.segments) (plain c.read-header.result) c.in-Some.kind _ c.loop-index-test.true c.read-header.ensures
    (sym c.is_load.ensures ∙ c.if-is_load.true) (sym c.fault.ensures ∙ c.in-Some.is) c.loop-index.invariant.same

pub load-requires : goal.load-requires
load-requires c = (fits c.args.file.now c.loop-index.size (plain c.read-header.result) (sym c.fault.ensures ∙ c.in_default.is)).loadable

pub overflow_add-size : goal.overflow_add-size
overflow_add-size c = grind (arith, fits)

pub loop-index-preserved : goal.loop-index-preserved
loop-index-preserved c = elim c.if-is_load.branch [
  | then-is_load+in_default+in-Ok w ↦
      let fine = sym w.fault.ensures ∙ w.in_default.is in
      let fit = fits c.args.file.now c.loop-index.size (plain c.read-header.result) fine in
      record {
        same = rw (w.segments-is, w.size-is)
            (next-load c.args.file.now c.loop-index.size c.of-table.result.place c.of-table.result.count c.loop-index.index (pairs_of c.loop-index.segments) (pairs_of w.load.new.segments) (plain c.read-header.result) _ c.loop-index-test.true c.read-header.ensures
            (sym c.is_load.ensures ∙ w.if-is_load.true) fine w.in-Ok.ensures c.loop-index.invariant.same);
        room = omega (arith, fit.room, w.size-is);
      }
  | else-is_load w ↦ record {
    same = rw (w.segments-is, w.size-is)
        (next-other c.args.file.now c.loop-index.size c.of-table.result.place c.of-table.result.count c.loop-index.index (pairs_of c.loop-index.segments) (plain c.read-header.result) _ c.loop-index-test.true c.read-header.ensures
        (sym c.is_load.ensures ∙ w.if-is_load.false) c.loop-index.invariant.same);
    room = omega (arith, c.loop-index.invariant.room, w.size-is);
  }
]
