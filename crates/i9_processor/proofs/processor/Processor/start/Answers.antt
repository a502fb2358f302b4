use Rattle.std.proofs.Common.{◌≡◌, ℕ, ◌+◌, false, List, [], ◌∷◌, replicate, refl, ap, ◌∙◌}
use Rattle.i9_isa.specs.Words.{bit}
use Rattle.i9_model.specs.declared.layout.TheConstants.{LOCALS, FRAME_SIZE, BOOT_PC}
use Rattle.i9_model.specs.Writes.{wrapped}
use Rattle.i9_model.specs.State.{first_frame, start_sets, started}
use Rattle.i9_model.specs.Controls.{marks_after}
use Rattle.i9_storage.proofs.Saves.{none_picked}
use Rattle.i9_processor.specs.State.{state_of}
use Rattle.i9_processor.proofs.processor.Processor.start.Goals as goal

pub returns-clause-state : goal.returns-clause-state
unfolding state_of started
returns-clause-state c =
    let s = state_of c.args.self.now in
    let u = c.args.setup.now in
    let fp = first_frame u in
    let marks : bit c.with_frame-self.result ≡ marks_after s.marks (start_sets u) [] =
    c.with_frame-self.ensures (0 ∷ wrapped (fp + FRAME_SIZE) ∷ replicate 14 0) fp refl
    ∙ ap (λ (marked : List ℕ). marks_after s.marks (start_sets u) marked) (none_picked (λ r. r) 0 LOCALS) in
    λ i. record s {
      regs = c.issue_start.ensures.registers i;
      marks = marks i;
      ip = c.aligned-self.ensures i;
      ac = c.issue_start.ensures.ac i;
      pc = BOOT_PC;
      check = false;
      interrupts = c.start_interrupts.ensures i;
      dma = c.new-self.ensures i;
      trace = record { tc = c.start_trace_controls-self.ensures i; breaks = c.start_breaks-self.ensures i };
      tables = c.tables_of-self.ensures i;
    }
