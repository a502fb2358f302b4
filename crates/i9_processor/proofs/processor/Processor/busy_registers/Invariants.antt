use Rattle.std.proofs.Common.{◌≡◌}
use Rattle.i9_model.specs.Late.{is_plan_open}
use Rattle.i9_model.specs.Needs.{set_below}
use Rattle.i9_regs.specs.File.{cell_in}
use Rattle.i9_processor.proofs.processor.Processor.busy_registers.Given as goal

abbrev pub invariant-loop-r : goal.invariant-loop-r
invariant-loop-r l = l.busy ≡ set_below l.r (λ r. is_plan_open l.turn (cell_in l.self.file r).plan)
