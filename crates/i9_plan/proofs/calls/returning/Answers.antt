use Rattle.std.proofs.Common.{ℕ, [], ap, ◌∙◌}
use Rattle.i9_model.specs.declared.layout.TheConstants.{LOCALS}
use Rattle.i9_model.specs.Memory.{words_in}
use Rattle.i9_model.specs.State.{aligned, frame_sets}
use Rattle.i9_model.specs.Stale.{picked, left_memory}
use Rattle.i9_model.specs.Step.{Action, going, moved, ret_action, Returns}
use Rattle.i9_watch.specs.Bits.{bits_of}
use Rattle.i9_processor.specs.State.{state_of}
use Rattle.i9_plan.proofs.Marking.{return_same, can_keep}
use Rattle.i9_plan.proofs.calls.returning.Goals as goal

pub returns : goal.returns
returns c =
    let s = state_of c.args.p.now in
    let pop = c.args.pop.now in
    let base = c.going-effect.ensures.effect in
    let enter = λ (a : Action). record a {
      sets = frame_sets (words_in (left_memory s.frames.live s) pop.frame LOCALS) pop.frame;
      marked = picked (λ r. r) 0 (bits_of pop.marks LOCALS);
      move = Returns;
      pc = pop.pc;
      ac = pop.ac;
      check = pop.check;
      lost = [];
    } in
    let same = ap enter base.same ∙ ap (λ (n : ℕ). enter (going s n)) (c.aligned.ensures ∙ ap aligned c.left_word.ensures) ∙ return_same s pop c.requires in
    record { same = same; registers = base.registers; posts = base.posts; changes = base.changes; moves = tt; controls = can_keep (moved s (ret_action s)) c.going-effect.result.control (ap (λ (a : Action). a.control) base.same) }
