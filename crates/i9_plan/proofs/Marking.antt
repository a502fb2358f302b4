-- Effects with the marks of the registers that they set, and of the bytes that they store.
use Rattle.std.proofs.Common.{◌≡◌, ℕ, ◌+◌, ◌*◌, ◌^◌, ◌<◌, Bool, false, List, [], ◌∷◌, ◌++◌, length, replicate, None, refl, sym, ap, ◌∙◌, append-nil}
use Rattle.i9_model.proofs.Reading.{length-pairs_at}
use Rattle.i9_isa.specs.declared.inst.Inst.{Inst}
use Rattle.i9_isa.specs.declared.inst.Operand.{Operand}
use Rattle.i9_isa.specs.declared.inst.Operand.TheVariants.{Reg}
use Rattle.i9_isa.specs.declared.size.Size.{Size}
use Rattle.i9_isa.specs.Transfers.{byte_count, register_count}
use Rattle.i9_model.specs.declared.calls.Pop.{Pop}
use Rattle.i9_model.specs.declared.layout.TheConstants.{LOCALS}
use Rattle.i9_model.specs.Writes.{wrapped, pairs_at, upwards}
use Rattle.i9_model.specs.Memory.{word_in, words_in}
use Rattle.i9_model.specs.State.{State, aligned, frame_sets}
use Rattle.i9_model.specs.Frames.{word_mark, left_stale}
use Rattle.i9_model.specs.Hazards.{return_place, read_hazard}
use Rattle.i9_model.specs.Calls.{popped, return_marks}
use Rattle.i9_model.specs.Operands.{assigned, address}
use Rattle.i9_model.specs.Stale.{picked, marks_for, left_memory, legible, loaded_marks}
use Rattle.i9_model.specs.Controls as plain_controls
use Rattle.i9_model.specs.Step as plain
use Rattle.i9_watch.specs.Bits.{bits_of}
use Rattle.i9_processor.specs.declared.effect.Effect.{Effect}
use Rattle.i9_processor.specs.declared.effect.Move.{Move}
use Rattle.i9_processor.specs.declared.effect.Move.TheVariants as moves
use Rattle.i9_processor.specs.declared.effect.Control.{Control}
use Rattle.i9_processor.specs.declared.effect.Control.TheVariants as controls
use Rattle.i9_processor.specs.Effect.{IsEffect, CanControl, action_in, move_in, control_in, requests_in, sets_by, marked_by, group_in}
use Rattle.i9_processor.specs.Rest.{no_requests}
use Rattle.i9_plan.proofs.MarkLists.{no_bits, none_picked as none-marked-in, set_words, hard_marks, none_given}

-- ---- the registers that are set

abbrev place_of : List (ℕ × ℕ) → ℕ
place_of [] = 0
place_of (p ∷ ps) = p.0

-- registers in a row are marked as those that stand for them
same_picked : (m a b : ℕ) (vs ws : List ℕ) → pairs_at (λ (r : ℕ). r) a vs ≡ pairs_at (λ r. r) b ws → picked (λ r. r) a (bits_of m (length vs)) ≡ picked (λ r. r) b (bits_of m (length ws))
same_picked m a b [] [] e = refl
same_picked m a b (v ∷ vs) (w ∷ ws) e =
    let long : length (v ∷ vs) ≡ length (w ∷ ws) = sym (length-pairs_at (λ r. r) a (v ∷ vs)) ∙ ap length e ∙ length-pairs_at (λ r. r) b (w ∷ ws) in
    let here : a ≡ b = ap place_of e in
    ap (λ (n : ℕ). picked (λ r. r) n (bits_of m (length (v ∷ vs)))) here ∙ ap (λ (n : ℕ). picked (λ r. r) b (bits_of m n)) long
same_picked m a b _ _ e = absurd cc

-- no register is set
none_picked : (m a : ℕ) (vs : List ℕ) → pairs_at (λ (r : ℕ). r) a vs ≡ [] → picked (λ r. r) a (bits_of m (length vs)) ≡ []
none_picked m a [] e = refl
none_picked m a (v ∷ vs) e = absurd cc

by_operand : (o : Operand) (m a : ℕ) (vs ws : List ℕ) → pairs_at (λ (r : ℕ). r) a vs ≡ assigned o ws → picked (λ r. r) a (bits_of m (length vs)) ≡ marks_for o (bits_of m (length ws))
by_operand (Reg r) m a vs ws e = same_picked m a r vs ws e
by_operand _ m a vs ws e = none_picked m a vs e

stays : (s : State) (v : Move) → move_in s v ≡ plain.Stays → v ≡ moves.Stays
stays s moves.Stays e = refl
stays s _ e = absurd cc

-- the marks of the values that go to a destination
marked_values : (s : State) (a : plain.Action) (e : Effect) (o : Operand) (vs : List ℕ) (m : ℕ) → action_in s e ≡ a → a.sets ≡ assigned o vs → a.move ≡ plain.Stays
    → marked_by e.frames e.register (length e.values.items) m ≡ marks_for o (bits_of m (length vs))
marked_values s a e o vs m same sets move =
    let still : e.frames ≡ moves.Stays = stays s e.frames (ap (λ (x : plain.Action). x.move) same ∙ move) in
    let group : group_in e ≡ assigned o vs = ap (λ (v : Move). sets_by s v (group_in e)) (sym still) ∙ ap (λ (x : plain.Action). x.sets) same ∙ sets in
    ap (λ (v : Move). marked_by v e.register (length e.values.items) m) still ∙ by_operand o m e.register e.values.items vs group

-- ---- effects

control_alike : (s : State) (a : plain.Action) (x : ℕ) (ms : List ℕ) (c : Control) → CanControl (plain.moved s a) c → CanControl (plain.moved s (record a { pc = x; marked = ms })) c
unfolding plain.moved
control_alike s a x ms controls.Keeps can = can
control_alike s a x ms _ can = can

-- the values of an effect that go to a destination get marks
pub values_marked : (s : State) (a : plain.Action) (e : Effect) (o : Operand) (vs : List ℕ) (bs : List Bool) (m : ℕ) → IsEffect s a e → a.sets ≡ assigned o vs → a.move ≡ plain.Stays
    → bits_of m (length vs) ≡ bs → IsEffect s (record a { marked = marks_for o bs }) (record e { marks = m })
unfolding plain.moved
values_marked s a e o vs bs m effect sets move bits = record {
  same =
      ap (λ (ms : List ℕ). record (action_in s e) { marked = ms }) (marked_values s a e o vs m effect.same sets move ∙ ap (marks_for o) bits)
      ∙ ap (λ (x : plain.Action). record x { marked = marks_for o bs }) effect.same;
  registers = effect.registers;
  posts = effect.posts;
  changes = effect.changes;
  moves = effect.moves;
  controls = control_alike s a a.pc (marks_for o bs) e.control effect.controls;
}

-- the process controls afterwards may be others
pub with_pc : (s : State) (a : plain.Action) (e : Effect) (x : ℕ) → IsEffect s a e → IsEffect s (record a { pc = x }) (record e { pc = x })
unfolding plain.moved
with_pc s a e x effect = record {
  same = ap (λ (y : plain.Action). record y { pc = x }) effect.same;
  registers = effect.registers;
  posts = effect.posts;
  changes = effect.changes;
  moves = effect.moves;
  controls = control_alike s a x a.marked e.control effect.controls;
}

-- nothing is asked of the controls that start-up reads
pub can_keep : (t : State) (c : Control) → control_in c ≡ plain_controls.KeepsControls → CanControl t c
can_keep t controls.Keeps keeps = tt
can_keep t _ keeps = absurd cc

-- ---- bytes in a row

-- an effect that asks for nothing besides may store bytes in a row, with their marks
pub row_same : (s : State) (a : plain.Action) (e : Effect) (x y : ℕ) (bs cs : List ℕ) (m : ℕ) (ms : List Bool) → action_in s e ≡ a → e.requests ≡ no_requests → x ≡ y → bs ≡ cs → bits_of m (length bs) ≡ ms
    → record (action_in s e) { writes = upwards x bs ++ requests_in e.requests; stale = picked wrapped x (bits_of m (length bs)) } ≡ record a { writes = upwards y cs; stale = picked wrapped y ms }
row_same s a e x y bs cs m ms same none place bytes marks =
    rw (none, append-nil, marks, bytes, place) (ap (λ (b : plain.Action). record b { writes = upwards y cs; stale = picked wrapped y ms }) same)

-- and here without marks
pub plain_same : (s : State) (a : plain.Action) (e : Effect) (x y : ℕ) (bs cs : List ℕ) (m : ℕ) → action_in s e ≡ a → e.requests ≡ no_requests → x ≡ y → bs ≡ cs → m ≡ 0
    → record (action_in s e) { writes = upwards x bs ++ requests_in e.requests; stale = picked wrapped x (bits_of m (length bs)) } ≡ record a { writes = upwards y cs; stale = [] }
plain_same s a e x y bs cs m same none place bytes clean =
    row_same s a e x y bs cs m (replicate (length bs) false) same none place bytes (ap (λ (w : ℕ). bits_of w (length bs)) clean ∙ no_bits (length bs))
    ∙ ap (λ (ns : List ℕ). record a { writes = upwards y cs; stale = ns }) (none-marked-in wrapped y (length bs))

-- ---- returns

pub return_same : (s : State) (p : Pop) → p ≡ plain.return_in s
    → record (plain.going s (aligned (word_in (left_memory s.frames.live s) (return_place p.frame)))) {
      sets = frame_sets (words_in (left_memory s.frames.live s) p.frame LOCALS) p.frame;
      marked = picked (λ r. r) 0 (bits_of p.marks LOCALS);
      move = plain.Returns;
      pc = p.pc;
      ac = p.ac;
      check = p.check;
    } ≡ plain.ret_action s
unfolding popped return_marks
return_same s p is =
    rw is (ap (λ (bs : List Bool). record (plain.ret_action s) { marked = picked (λ r. r) 0 bs })
    (set_words LOCALS (λ k. word_mark (left_stale s.frames.live s.frames) (wrapped ((plain.return_in s).frame + 4 * k)))))

-- ---- loads

-- what a load does, by the words that it reads and their marks
pub load_same : (s : State) (i : Inst) (size : Size) (signed : Bool) (vs : List ℕ) (a : ℕ) (bs : List Bool) → a ≡ address s i.ea → vs ≡ plain.loaded size signed (legible s) a → bs ≡ loaded_marks size s.frames.soft a
    → record (plain.assigning i.c vs (plain.passing i s)) { marked = marks_for i.c bs } ≡ plain.loading size signed i s
load_same s i size signed vs a bs place words marks = rw (marks, words, place)

-- nothing is marked where none of its bytes is soft
pub hard_load : (s : State) (i : Inst) (size : Size) (signed : Bool) (vs : List ℕ) (a : ℕ) → a < 2 ^ 32 → read_hazard s.frames a (byte_count size) ≡ None → a ≡ address s i.ea → vs ≡ plain.loaded size signed (legible s) a
    → plain.assigning i.c vs (plain.passing i s) ≡ plain.loading size signed i s
hard_load s i size signed vs a small none place words =
    sym (ap (λ (ms : List ℕ). record (plain.assigning i.c vs (plain.passing i s)) { marked = ms }) (ap (marks_for i.c) (hard_marks size s.frames a small none) ∙ none_given i.c (register_count size)))
    ∙ load_same s i size signed vs a (loaded_marks size s.frames.soft a) place words refl
