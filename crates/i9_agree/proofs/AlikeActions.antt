-- In states that are alike the accesses of an instruction meet the same hazard, and without one it does the same.
use Rattle.std.proofs.Common.{◌≡◌, ℕ, Bool, false, Option, None, refl, arith}
use Rattle.std.proofs.lemmas.Bool.{or_left}
use Rattle.i9_model.specs.Memory.{Memory}
use Rattle.i9_model.specs.State.{Frames}
use Rattle.i9_model.specs.Frames.{in_frames}
use Rattle.i9_model.specs.Requests.{priority_place, pending_place, byte_hazard, request_hazard, request_writes}
use Rattle.i9_model.specs.Hazards.{or_else, read_hazard}
use Rattle.i9_model.specs.Calls.{Caller, save_area, system_hazard_by, system_hazard, system_entered, controls_hazard, returned_pc, returned_ac}
use Rattle.i9_model.specs.Alike.{is_hard, is_compared, AgreeWhere, with_other}
use Rattle.i9_model.proofs.CallLaws.{first_none, second_none}
use Rattle.i9_model.proofs.Readings.{word_same, first_same}

pub hard_bytes : (f : Frames) (m : Memory) (bytes : ℕ → ℕ) → AgreeWhere (is_compared f) m bytes → AgreeWhere (is_hard f) m bytes
hard_bytes f m bytes same = λ x h. same x (or_left (is_hard f x) (in_frames f.live x) h)

-- ---- system procedures

pub or_else_same : (o p q : Option ℕ) → (o ≡ None → p ≡ q) → or_else o p ≡ or_else o q
or_else_same o p q h = grind arith

pub system_hazard_by_same : (f : Frames) (m : Memory) (bytes : ℕ → ℕ) (table n pc : ℕ) (area : Bool → Option ℕ) → AgreeWhere (is_hard f) m bytes → system_hazard_by (with_other m bytes) f table n pc area ≡ system_hazard_by m f table n pc area
system_hazard_by_same f m bytes table n pc area same = grind (arith, or_else_same, word_same)

pub system_hazard_same : (f : Frames) (m : Memory) (bytes : ℕ → ℕ) (table n pc fp : ℕ) → AgreeWhere (is_hard f) m bytes → system_hazard (with_other m bytes) f table n pc fp ≡ system_hazard m f table n pc fp
unfolding system_hazard
system_hazard_same f m bytes table n pc fp same = system_hazard_by_same f m bytes table n pc (save_area f fp) same

-- where nothing is found of a push, these are the values of fp, and of sp where the frame is on the stack in use
abbrev pub AreKnown : (Bool → Option ℕ) → ℕ → ℕ → ℕ → ℕ → Type 0
AreKnown area fp sp fp2 sp2 = (b : Bool) → area b ≡ None → (fp2 ≡ fp) × (b ≡ false → sp2 ≡ sp)

-- a caller in a memory with other bytes, and with these pointers
abbrev pub other_caller : Caller → (ℕ → ℕ) → ℕ → ℕ → Caller
other_caller c bytes fp sp = record c { memory = with_other c.memory bytes; fp = fp; sp = sp }

pub system_by_same : (c : Caller) (bytes : ℕ → ℕ) (table n fp sp extra : ℕ) (kind : Bool → ℕ) (area : Bool → Option ℕ) → AgreeWhere (is_hard c.frames) c.memory bytes → AreKnown area c.fp c.sp fp sp → system_hazard_by c.memory c.frames table n c.pc area ≡ None
    → system_entered (other_caller c bytes fp sp) table n extra kind ≡ system_entered c table n extra kind
unfolding system_entered
system_by_same c bytes table n fp sp extra kind area same known none = grind (arith, second_none, first_none, word_same)

pub system_same : (c : Caller) (bytes : ℕ → ℕ) (table n extra : ℕ) (kind : Bool → ℕ) → AgreeWhere (is_hard c.frames) c.memory bytes → system_hazard c.memory c.frames table n c.pc c.fp ≡ None
    → system_entered (other_caller c bytes c.fp c.sp) table n extra kind ≡ system_entered c table n extra kind
unfolding system_hazard
system_same c bytes table n extra kind same none = system_by_same c bytes table n c.fp c.sp extra kind (save_area c.frames c.fp) same (λ b e. (refl, λ d. refl)) none

pub saved_pc_same : (f : Frames) (m : Memory) (bytes : ℕ → ℕ) (kind fp pc : ℕ) → AgreeWhere (is_hard f) m bytes → controls_hazard f kind fp ≡ None → returned_pc (with_other m bytes) kind fp pc ≡ returned_pc m kind fp pc
saved_pc_same f m bytes kind fp pc same none = grind (arith, word_same, first_none)

pub saved_ac_same : (f : Frames) (m : Memory) (bytes : ℕ → ℕ) (kind fp ac : ℕ) → AgreeWhere (is_hard f) m bytes → controls_hazard f kind fp ≡ None → returned_ac (with_other m bytes) kind fp ac ≡ returned_ac m kind fp ac
saved_ac_same f m bytes kind fp ac same none = grind (arith, word_same, second_none)

-- ---- requests

-- a request changes two bytes that are read
pub request_same : (f : Frames) (m : Memory) (bytes : ℕ → ℕ) (table v : ℕ) → AgreeWhere (is_hard f) m bytes → request_hazard f table v ≡ None → request_writes (with_other m bytes) table v ≡ request_writes m table v
unfolding request_hazard request_writes
request_same f m bytes table v same none =
    let p = priority_place table v in
    let q = pending_place table v in
    let one = read_hazard f p 1 in
    let two = read_hazard f q 1 in
    let written = or_else (byte_hazard f p) (byte_hazard f q) in
    let first : bytes p ≡ m.bytes p = first_same f m bytes p 1 same (first_none one (or_else two written) none) (omega arith) in
    let second : bytes q ≡ m.bytes q = first_same f m bytes q 1 same (first_none two written (second_none one (or_else two written) none)) (omega arith) in
    rw (first, second) refl
