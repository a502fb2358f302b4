-- What is told as an instruction is one.
use Rattle.std.proofs.Common.{◌≡◌, refl}
use Rattle.i9_model.specs.State.{State}
use Rattle.i9_model.specs.Run.{Kind, Instruction, Faulted, counts_of}
use Rattle.i9_machine.specs.declared.line.Issued.{Issued}
use Rattle.i9_machine.specs.declared.line.Turn.TheVariants as answers
use Rattle.i9_machine.specs.Step.{TellsRecord}

-- a record that is told as an instruction counts
pub issued_counts : (kind : Kind) (s : State) (t : Issued) → TellsRecord kind s (answers.Issued t) → counts_of kind ≡ 1
issued_counts (Instruction i) s t h = refl
issued_counts (Faulted inst fault) s t h = refl
issued_counts _ s t h = absurd h

-- and no other one does
pub on_counts : (kind : Kind) (s : State) → TellsRecord kind s answers.On → counts_of kind ≡ 0
on_counts (Instruction i) s h = absurd h
on_counts (Faulted inst fault) s h = absurd h
on_counts _ s h = refl
