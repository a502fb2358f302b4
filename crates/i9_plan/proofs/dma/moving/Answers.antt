use Rattle.std.proofs.Common.{ℕ, Bool, cond, ◌+◌, ap, ◌∙◌, Some}
use Rattle.i9_model.specs.declared.interrupts.TheConstants.{FIRST_DMA_LINE}
use Rattle.i9_model.specs.Writes.{upwards}
use Rattle.i9_model.specs.State.{Interrupts}
use Rattle.i9_model.specs.Interrupts.{posted}
use Rattle.i9_model.specs.Dma.{unit_bytes, unit, dma_behind}
use Rattle.i9_model.specs.Before.{moving_unit, receiving}
use Rattle.i9_model.specs.Step.{Action, going, moved}
use Rattle.i9_processor.specs.Effect.{posting_in}
use Rattle.i9_processor.specs.State.{state_of}
use Rattle.i9_plan.proofs.Marking.{plain_same, can_keep}
use Rattle.i9_plan.proofs.dma.moving.Goals as goal

pub returns : goal.returns
returns c given is =
    let s = state_of c.args.p.now in
    let e = c.going-effect.result in
    let goes = c.going-effect.ensures in
    let at = (s.dma.channels c.args.c).target in
    let moved_bytes = unit_bytes s.memory (s.dma.channels c.args.c) given in
    let stored = plain_same s (going s c.ip.result) e c.unit_target.result at c.args.bytes.items moved_bytes e.stale goes.effect.same goes.keeps.requests c.unit_target.ensures is goes.keeps.stale in
    let posting = c.posting_of-effect.ensures.same s.interrupts ∙ ap (λ (b : Bool). cond b (posted s.interrupts (FIRST_DMA_LINE + c.args.c)) s.interrupts) c.posts_behind_unit.ensures in
    record {
      same =
          ap (λ (a : Action). record a { interrupts = posting_in c.posting_of-effect.result s.interrupts; dma = dma_behind s.dma c.args.c }) stored
          ∙ ap (λ (i : Interrupts). record (going s c.ip.result) { writes = upwards at moved_bytes; interrupts = i; dma = dma_behind s.dma c.args.c }) posting
          ∙ ap (λ (next : ℕ). record (receiving (moving_unit s c.args.c (Some (unit s.memory s.dma c.args.c given))) s) { next = next }) c.ip.ensures;
      registers = goes.effect.registers;
      posts = c.posting_of-effect.ensures.posts;
      changes = c.requires;
      moves = goes.effect.moves;
      controls = can_keep (moved s (receiving (moving_unit s c.args.c (Some (unit s.memory s.dma c.args.c given))) s)) e.control (ap (λ (a : Action). a.control) goes.effect.same);
    }
