use Rattle.std.proofs.Common.{◌∙◌, arith}
use Rattle.i9_memory.specs.Memory.{memory_of}
use Rattle.i9_storage.specs.Storage.{memory_in, frames_in}
use Rattle.i9_storage.proofs.StoragePlans.{interrupt_laid, plan_clears}
use Rattle.i9_storage.proofs.storage.Storage.plan_interrupt.Goals as goal

pub returns-clause-entry : goal.returns-clause-entry
returns-clause-entry c = grind (arith, interrupt_laid)

pub returns-clause-clear : goal.returns-clause-clear
returns-clause-clear c =
    let s = c.args.self.now in
    plan_clears (memory_in s) (frames_in s) c.args.table c.args.stack c.args.c.now c.args.pc c.args.ac c.args.fp c.args.sp c.plan_int.result
    (c.plan_int.ensures.entry ∙ interrupt_laid (memory_of c.memory.result.now) s.behind s.watch s.sets c.args.table c.args.stack c.args.c.now c.args.pc c.args.ac c.args.fp c.args.sp c.memory.ensures s.kept)
