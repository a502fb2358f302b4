use Rattle.std.proofs.Common.{◌≡◌, false, ap, ◌∙◌, arith}
use Rattle.i9_memory.specs.Memory.{memory_of}
use Rattle.i9_model.specs.Image.{pairs_of}
use Rattle.i9_model.specs.Memory.{Memory, with_writes}
use Rattle.i9_model.specs.Boot.{boot_setup, boot_memory}
use Rattle.i9_model.specs.State.{Interrupts, image_memory, start_interrupts, as_zero, started, boot}
use Rattle.i9_model.specs.HeldFrames.{over, overlaid}
use Rattle.i9_model.specs.declared.layout.TheConstants.{BOOT_PC}
use Rattle.i9_processor.specs.State.{registers_of, state_of, cells_of, bytes_of}
use Rattle.i9_watch.proofs.SetBits.{bit_none}
use Rattle.i9_storage.specs.Storage.{memory_in, frames_in}
use Rattle.i9_processor.proofs.RegisterList.{registers_of-zeros}
use Rattle.i9_processor.proofs.Applying.{sets_few}
use Rattle.i9_processor.proofs.Drained.{drained_acted}
use Rattle.i9_processor.proofs.Issued.{new_still, cell_resource}
use Rattle.i9_processor.proofs.processor.Processor.boot.Goals as goal

pub set_count-requires-clause-read : goal.set_count-requires-clause-read
set_count-requires-clause-read c = sets_few (memory_of c.load.new.memory) c.boot-setup.result c.boot-setup.ensures.setup

-- what is set is what start-up leaves, and what was read is what boot reads
pub returns-clause-state : goal.returns-clause-state
unfolding state_of started boot over
returns-clause-state c =
    let pairs = pairs_of c.args.image.now in
    let loaded : memory_of c.load.new.memory ≡ image_memory pairs = c.in_ok-load.ensures.ok ∙ ap (λ (m : Memory). with_writes m pairs) c.new-memory.ensures.memory in
    let setup = c.boot-setup.ensures.setup ∙ ap boot_setup loaded in
    let storage = c.in_ok-storage.storage in
    let memory : memory_in storage ≡ boot_memory (image_memory pairs) = ap overlaid c.in_ok-storage.ensures.cache ∙ c.boot-setup.ensures.memory ∙ ap boot_memory loaded in
    let file = c.set_arithmetic.new.file in
    let high = ap (λ (x : Interrupts). x.low) c.new-ints.ensures in
    let interrupts = c.start_interrupts.ensures ∙ ap (start_interrupts c.boot-setup.result) high in
    let kept : state_of record { file = file; ip = c.aligned.result; flags = c.set_arithmetic.new.flags; marks = 0; pc = BOOT_PC; tc = c.start_trace_controls.result; check = false; ints = c.start_interrupts.new.ints; channels = c.new-2.result; breaks = c.start_breaks.result; tables = c.tables_of.result; count = 0; storage = storage } ≡ started c.boot-setup.result (registers_of c.new-file.result) 0 0 (memory_in storage) (frames_in storage) =
    λ i. record {
      regs = (c.set_arithmetic.ensures.registers ∙ c.start_registers.ensures.registers) i;
      ip = c.aligned.ensures i;
      ac = c.set_arithmetic.ensures.ac i;
      pc = BOOT_PC;
      count = 0;
      check = false;
      memory = memory_in storage;
      frames = frames_in storage;
      interrupts = interrupts i;
      dma = c.new-2.ensures i;
      trace = record { tc = c.start_trace_controls.ensures i; breaks = c.start_breaks.ensures i };
      tables = c.tables_of.ensures i;
      marks = λ r. bit_none r i;
      reading = as_zero;
    } in
    let none = registers_of-zeros c.new-file.result c.new-file.ensures in
    kept ∙ (λ i. started (setup i) (none i) 0 0 (memory i) (c.in_ok-storage.ensures.frames i))

pub returns-clause-cells : goal.returns-clause-cells
unfolding state_of cells_of
returns-clause-cells c r few = grind (arith, new_still, cell_resource, returns-clause-state)

pub returns-clause-bytes : goal.returns-clause-bytes
unfolding bytes_of boot started
returns-clause-bytes c = grind (arith, drained_acted)

-- room is made for the bytes of the image alone
pub returns-clause-pages : goal.returns-clause-pages
returns-clause-pages c = grind arith
