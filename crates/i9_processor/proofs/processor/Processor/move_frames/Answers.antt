use Rattle.std.proofs.Common.{◌≡◌, ℕ, Bool, List, ◌∷◌, length, replicate, refl, sym, ap, ◌∙◌, subst, arith}
use Rattle.i9_isa.specs.Words.{bit}
use Rattle.i9_model.specs.declared.layout.TheConstants.{LOCALS}
use Rattle.i9_model.specs.Writes.{wrapped, written}
use Rattle.i9_model.specs.Memory.{Memory, words_in}
use Rattle.i9_model.specs.State.{State, Frames, frame_sets}
use Rattle.i9_model.specs.Frames.{saved, with_marked}
use Rattle.i9_model.specs.Controls.{marks_after}
use Rattle.i9_model.specs.Stale.{picked, byte_marks, left_memory}
use Rattle.i9_model.specs.Step.{frames_after}
use Rattle.i9_model.specs.HeldFrames.{frame_at, holding, cache_moved}
use Rattle.i9_storage.specs.Storage as stores
use Rattle.i9_storage.proofs.Saves.{none_picked}
use Rattle.i9_processor.specs.declared.effect.Effect.{Effect}
use Rattle.i9_processor.specs.declared.effect.Move.{Move}
use Rattle.i9_processor.specs.declared.effect.Move.TheVariants as moves
use Rattle.i9_processor.specs.declared.processor.Processor.{Processor}
use Rattle.i9_processor.specs.Issued.{AreCovered}
use Rattle.i9_processor.specs.Effect.{move_in, sets_by, group_in, marked_by, lost_by}
use Rattle.i9_processor.specs.State.{registers_of, state_of, cache_of, size_of}
use Rattle.i9_processor.proofs.MarkBits.{marks_stay}
use Rattle.i9_processor.proofs.processor.Processor.move_frames.Goals as goal

-- ---- by what is done to frames

-- the registers, the marks and the frames behind a move
abbrev regs_by : State → Effect → Move → ℕ → ℕ
regs_by s e m = written s.regs (sets_by s m (group_in e))

abbrev marks_by : State → Effect → Move → ℕ → Bool
marks_by s e m = marks_after s.marks (sets_by s m (group_in e)) (marked_by m e.register (length e.values.items) e.marks)

abbrev frames_by : State → Move → Frames
frames_by s m = with_marked (frames_after s.frames (move_in s m)) (lost_by s m)

-- what a return reads
left_same : (p : Processor) → stores.left_in (stores.frames_in p.storage).live p.storage ≡ left_memory (state_of p).frames.live (state_of p)
unfolding state_of
left_same p = grind arith

abbrev locals_left : Processor → ℕ → List ℕ
locals_left p frame = words_in (left_memory (state_of p).frames.live (state_of p)) frame LOCALS

-- ---- a frame is saved

pub issue_frame-requires-clause-sets : goal.issue_frame-requires-clause-sets
unfolding state_of
issue_frame-requires-clause-sets c =
    let s = state_of c.args.self.now in
    let e = c.args.e.now in
    let writes = c.args.landing.now.writes in
    let here : AreCovered writes (sets_by s (moves.Saves c.in-Saves.push c.in-Saves.back) (group_in e)) =
    subst (λ (m : Move). AreCovered writes (sets_by s m (group_in e))) c.in-Saves.is c.requires.sets in
    subst (λ (ws : List ℕ). AreCovered writes (frame_sets ws c.in-Saves.push.frame)) (sym c.new_locals.ensures) here

pub returns-in-Saves-clause-state : goal.returns-in-Saves-clause-state
unfolding state_of
returns-in-Saves-clause-state c =
    let p = c.args.self.now in
    let s = state_of p in
    let e = c.args.e.now in
    let push = c.in-Saves.push in
    let old = registers_of p.file in
    let regs : registers_of c.issue_frame.new.file ≡ regs_by s e e.frames =
    c.issue_frame.ensures.registers
    ∙ ap (λ (ws : List ℕ). written old (frame_sets ws push.frame)) c.new_locals.ensures
    ∙ ap (λ (m : Move). regs_by s e m) (sym c.in-Saves.is) in
    let marks : bit c.with_frame-self.result ≡ marks_by s e e.frames =
    c.with_frame-self.ensures (push.pfp ∷ push.sp ∷ replicate 14 0) push.frame refl
    ∙ ap (λ (marked : List ℕ). marks_after s.marks (frame_sets (push.pfp ∷ push.sp ∷ replicate 14 0) push.frame) marked) (none_picked (λ r. r) 0 LOCALS)
    ∙ ap (λ (m : Move). marks_by s e m) (sym c.in-Saves.is) in
    let frames : stores.frames_in c.save_frame.new.self ≡ frames_by s e.frames =
    c.save_frame.ensures.frames
    ∙ ap (λ (bs : List Bool). with_marked (saved s.frames push.save) (picked wrapped push.save (byte_marks bs))) (c.saved.ensures.marks s refl)
    ∙ ap (λ (m : Move). frames_by s m) (sym c.in-Saves.is) in
    λ i. record s { regs = regs i; marks = marks i; ac = c.issue_frame.ensures.ac i; memory = stores.memory_in c.save_frame.new.self; frames = frames i }

pub returns-in-Saves-clause-cache : goal.returns-in-Saves-clause-cache
unfolding state_of cache_of size_of
returns-in-Saves-clause-cache c =
    let p = c.args.self.now in
    let cache = stores.cache_of p.storage in
    let size = stores.size_of p.storage in
    c.save_frame.ensures.cache
    ∙ ap (λ (ws : List ℕ). holding size (frame_at c.in-Saves.push.save ws) cache) c.saved_locals-words.ensures
    ∙ ap (λ (m : Move). cache_moved size (move_in (state_of p) m) cache) (sym c.in-Saves.is)

-- ---- a frame is returned to

pub returns-in-Returns-clause-state : goal.returns-in-Returns-clause-state
unfolding state_of
returns-in-Returns-clause-state c =
    let p = c.args.self.now in
    let s = state_of p in
    let e = c.args.e.now in
    let frame = c.in-Returns.frame in
    let old = registers_of p.file in
    let regs : registers_of c.issue_frame-in-Returns.new.file ≡ regs_by s e e.frames =
    c.issue_frame-in-Returns.ensures.registers
    ∙ ap (λ (ws : List ℕ). written old (frame_sets ws frame)) (c.left_words-locals.ensures ∙ ap (λ (m : Memory). words_in m frame LOCALS) (left_same p))
    ∙ ap (λ (m : Move). regs_by s e m) (sym c.in-Returns.is) in
    let marks : bit c.with_frame-self-in-Returns.result ≡ marks_by s e e.frames =
    c.with_frame-self-in-Returns.ensures (locals_left p frame) frame refl ∙ ap (λ (m : Move). marks_by s e m) (sym c.in-Returns.is) in
    let frames : stores.frames_in c.restore_frame.new.self ≡ frames_by s e.frames =
    c.restore_frame.ensures.frames ∙ ap (λ (m : Move). frames_by s m) (sym c.in-Returns.is) in
    λ i. record s { regs = regs i; marks = marks i; ac = c.issue_frame-in-Returns.ensures.ac i; memory = stores.memory_in c.restore_frame.new.self; frames = frames i }

-- the registers of the frame that is returned to
pub issue_frame-requires-in-Returns-clause-sets : goal.issue_frame-requires-in-Returns-clause-sets
unfolding state_of
issue_frame-requires-in-Returns-clause-sets c =
    let p = c.args.self.now in
    let s = state_of p in
    let e = c.args.e.now in
    let writes = c.args.landing.now.writes in
    let frame = c.in-Returns.frame in
    let here : AreCovered writes (sets_by s (moves.Returns frame) (group_in e)) =
    subst (λ (m : Move). AreCovered writes (sets_by s m (group_in e))) c.in-Returns.is c.requires.sets in
    subst (λ (ws : List ℕ). AreCovered writes (frame_sets ws frame)) (sym (c.left_words-locals.ensures ∙ ap (λ (m : Memory). words_in m frame LOCALS) (left_same p))) here

-- ---- all frames go to memory

pub returns-in-Flushes-clause-state : goal.returns-in-Flushes-clause-state
unfolding state_of written
returns-in-Flushes-clause-state c =
    let p = c.args.self.now in
    let s = state_of p in
    let e = c.args.e.now in
    let regs : registers_of c.issue_group-in-Flushes.new.file ≡ regs_by s e e.frames =
    c.issue_group-in-Flushes.ensures.registers ∙ ap (λ (m : Move). regs_by s e m) (sym c.in-Flushes.is) in
    let marks : s.marks ≡ marks_by s e e.frames = sym (marks_stay s.marks) ∙ ap (λ (m : Move). marks_by s e m) (sym c.in-Flushes.is) in
    let frames : stores.frames_in c.flush.new.self ≡ frames_by s e.frames =
    c.flush.ensures.frames ∙ ap (λ (m : Move). frames_by s m) (sym c.in-Flushes.is) in
    λ i. record s { regs = regs i; marks = marks i; ac = c.issue_group-in-Flushes.ensures.ac i; memory = stores.memory_in c.flush.new.self; frames = frames i }
