use Rattle.std.proofs.Common.{ℕ, Bool, ap, ◌∙◌}
use Rattle.i9_watch.specs.Watch.{frames_of}
use Rattle.i9_watch.proofs.watch.Watch.is_live.Goals as goal

pub returns : goal.returns
unfolding frames_of
returns c = c.is_marked.ensures ∙ ap (λ (f : ℕ → Bool). f c.args.a) c.args.self.now.marked
