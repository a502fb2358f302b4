use Rattle.std.proofs.Common.{ℕ, ◌+◌, Bool, sym, ap, ◌∙◌, rules}
use Rattle.i9_model.specs.Writes.{wrapped}
use Rattle.i9_model.specs.Frames.{in_frames}
use Rattle.i9_model.specs.Hazards.{write_hazard}
use Rattle.i9_watch.specs.Watch.{frames_of}
use Rattle.i9_watch.proofs.Watching.{least_is_none}
use Rattle.i9_watch.proofs.watch.Watch.check_write.Goals as goal

pub returns-then-not-has_any : goal.returns-then-not-has_any
unfolding write_hazard frames_of
returns-then-not-has_any c = least_is_none (in_frames c.args.self.now.live.items) c.args.a c.args.n
    (λ k h. ap (λ (f : ℕ → Bool). f (wrapped (c.args.a + k))) (sym c.args.self.now.marked) ∙ c.has_any.ensures c.if-not-has_any.true k h)

pub returns : goal.returns
unfolding write_hazard
returns c = c.first_place.ensures (in_frames (frames_of c.args.self.now).live) (λ x r h. search rules)
