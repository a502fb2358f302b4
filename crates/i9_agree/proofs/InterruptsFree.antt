-- The entry of an interrupt that meets no hazard writes beside live frames.
use Rattle.std.proofs.Common.{◌≡◌, None, Ok, arith}
use Rattle.i9_model.specs.declared.faults.Entry.{Entry}
use Rattle.i9_model.specs.declared.interrupts.Chosen.{Chosen}
use Rattle.i9_model.specs.State.{State}
use Rattle.i9_model.specs.Hazards.{read_hazard, record_write_hazard}
use Rattle.i9_model.specs.Interrupts.{vector_place, cleared_hazard, interrupt_hazard, planned_interrupt_by}
use Rattle.i9_model.specs.Before.{interrupt_in}
use Rattle.i9_model.proofs.CallLaws.{EntersFree}

-- the entry meets no hazard, where its record has four words
pub record InterruptsFree (s : State) (c : Chosen) (e : Entry) : Type 0 where
  pub vector : read_hazard s.frames (vector_place s.tables.interrupt_table c.vector) 4 ≡ None
  pub enters : EntersFree s.frames e
  pub clears : cleared_hazard s.memory s.frames s.tables.interrupt_table c e.push e.words ≡ None

pub interrupts_free : (s : State) (c : Chosen) (e : Entry) → interrupt_in s c ≡ Ok e → InterruptsFree s c e
unfolding interrupt_in planned_interrupt_by interrupt_hazard record_write_hazard
interrupts_free s c e is = grind arith
