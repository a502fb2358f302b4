use Rattle.std.proofs.Common.{◌≡◌, ℕ, take, rules, refl, ap, ◌∙◌}
use Rattle.i9_model.specs.Step.{Action, bytes_of_words, moved, pushing}
use Rattle.i9_model.specs.Frames.{record_address}
use Rattle.i9_model.specs.Interrupts.{record_writes}
use Rattle.i9_processor.specs.State.{state_of}
use Rattle.i9_plan.specs.Planned.{recording}
use Rattle.i9_plan.proofs.WordBytes.{source_rules}
use Rattle.i9_plan.proofs.Marking.{plain_same, can_keep}
use Rattle.i9_plan.proofs.calls.recording.Goals as goal

pub returns-clause-effect : goal.returns-clause-effect
returns-clause-effect c =
    let s = state_of c.args.p.now in
    let x = c.args.e.now in
    let e = c.pushing-effect.result in
    let pushes = c.pushing-effect.ensures in
    let place = record_address x.push.frame in
    let words : take 4 x.words ≡ x.words = search (rules, source_rules) in
    let bytes : c.bytes_of_words-effect.result.items ≡ bytes_of_words s.memory place x.words = c.bytes_of_words-effect.ensures ∙ ap (bytes_of_words s.memory place) words in
    let stored = plain_same s (pushing s x.push c.ip.result x.target) e place place _ (bytes_of_words s.memory place x.words) e.stale pushes.effect.same pushes.requests refl bytes pushes.stale in
    record {
      same = ap (λ (a : Action). record a { pc = x.pc }) stored ∙ ap (λ (back : ℕ). record (pushing s x.push back x.target) { writes = record_writes s.memory x.push x.words; pc = x.pc }) c.ip.ensures;
      registers = pushes.effect.registers;
      posts = pushes.effect.posts;
      changes = pushes.effect.changes;
      moves = pushes.effect.moves;
      controls = can_keep (moved s (recording x s)) e.control (ap (λ (a : Action). a.control) pushes.effect.same);
    }
