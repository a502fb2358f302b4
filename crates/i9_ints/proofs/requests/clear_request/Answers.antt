use Rattle.std.proofs.Common.{◌≡◌, [], ◌∷◌, sym, ap, ◌∙◌}
use Rattle.i9_model.specs.Memory.{with_writes}
use Rattle.i9_model.specs.Frames.{wrote}
use Rattle.i9_model.specs.Interrupts.{left_pending}
use Rattle.i9_memory.specs.Memory.{memory_of}
use Rattle.i9_watch.specs.Watch.{frames_of}
use Rattle.i9_ints.proofs.Storing.{then_memory, then_frames, priority_write, pending_write, taken_last, taken_others}
use Rattle.i9_ints.proofs.requests.clear_request.Goals as goal
use Rattle.i9_ints.proofs.requests.clear_request.Goals.{then-left-eq0, else-left-eq0}

pub returns-clause-memory : goal.returns-clause-memory
returns-clause-memory c =
    let m = memory_of c.args.m.now in
    let first = priority_write m c.args.table c.args.vector in
    let last = pending_write m c.args.table c.args.vector in
    elim c.if-left-eq0.branch [
      | then-left-eq0 w ↦
          let none : left_pending m c.args.table c.args.vector ≡ 0 = cc in
          let before : memory_of c.if-left-eq0.m ≡ with_writes m (first ∷ []) = cc in
          let after : memory_of c.store-2.new.m ≡ with_writes (memory_of c.if-left-eq0.m) (last ∷ []) = cc in
          then_memory m (memory_of c.if-left-eq0.m) (memory_of c.store-2.new.m) first (last ∷ []) before after
          ∙ ap (with_writes m) (sym (taken_last m c.args.table c.args.vector none))
      | else-left-eq0 w ↦
          let after : memory_of c.store-2.new.m ≡ with_writes m (last ∷ []) = cc in
          after ∙ ap (with_writes m) (sym (taken_others m c.args.table c.args.vector (λ e. w.if-left-eq0.false (cc))))
    ]

pub returns-clause-frames : goal.returns-clause-frames
returns-clause-frames c =
    let m = memory_of c.args.m.now in
    let f = frames_of c.args.w.now in
    let first = priority_write m c.args.table c.args.vector in
    let last = pending_write m c.args.table c.args.vector in
    elim c.if-left-eq0.branch [
      | then-left-eq0 w ↦
          let none : left_pending m c.args.table c.args.vector ≡ 0 = cc in
          let before : frames_of c.if-left-eq0.w ≡ wrote f (first ∷ []) = cc in
          let after : frames_of c.store-2.new.w ≡ wrote (frames_of c.if-left-eq0.w) (last ∷ []) = cc in
          then_frames f (frames_of c.if-left-eq0.w) (frames_of c.store-2.new.w) first (last ∷ []) before after
          ∙ ap (wrote f) (sym (taken_last m c.args.table c.args.vector none))
      | else-left-eq0 w ↦
          let after : frames_of c.store-2.new.w ≡ wrote f (last ∷ []) = cc in
          after ∙ ap (wrote f) (sym (taken_others m c.args.table c.args.vector (λ e. w.if-left-eq0.false (cc))))
    ]
