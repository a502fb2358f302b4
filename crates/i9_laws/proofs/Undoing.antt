-- A return right after a system call undoes it.
use Rattle.std.proofs.Common.{◌≡◌, ℕ, zero, suc, ◌+◌, ◌/◌, ◌%◌, ◌<◌, Bool, true, false, cond, ◌∷◌, length, Option, Some, None, Ok, Err, refl, ap, subst, ◌∙◌, arith}
use Rattle.std.specs.Prelude.{nat_le, nat_lt, ◌==◌, not, if◌then◌else◌}
use Rattle.std.proofs.lemmas.Bool.{and_parts, eqb-false, not-true}
use Rattle.i9_model.proofs.CallLaws.{second_none}
use Rattle.i9_model.specs.declared.layout.TheConstants.{FRAME_SIZE, MOST_SYSTEM_CALL}
use Rattle.i9_model.specs.declared.calls.Sys.{Sys}
use Rattle.i9_model.specs.declared.calls.CallsStop.TheVariants.{Length}
use Rattle.i9_model.specs.Memory.{Memory, word_in}
use Rattle.i9_model.specs.State.{Frames}
use Rattle.i9_model.specs.Frames.{rounded_down, pushed, saved}
use Rattle.i9_model.specs.Hazards.{or_else, unless, port_hazard, save_hazard, write_hazard, read_hazard}
use Rattle.i9_model.specs.Calls.{Caller, in_supervisor_mode, with_supervisor, entry_address, stack_address, is_switch, stack_hazard, system_hazard, entered_here, entered_switched, system_entered, call_type, calls_answer, planned_calls, return_type, takes_record, leaves_supervisor, without_supervisor, returned_pc, ret_hazard, return_marks, popped, planned_ret, Undoes}

-- a system call that is planned meets no hazard
made : (b : Bool) (o : Option ℕ) (p s : Sys) → (if b then calls_answer (unless o p) else Err Length) ≡ Ok s → (o ≡ None) × (p ≡ s)
made true None p s e = (refl, cc)
made true (Some a) p s e = absurd (cc)
made false o p s e = absurd (cc)

-- so its save area meets none, and is outside the port page
saves : (m : Memory) (f : Frames) (table n pc fp : ℕ) → system_hazard m f table n pc fp ≡ None → port_hazard (rounded_down fp) FRAME_SIZE ≡ None
unfolding system_hazard
saves m f table n pc fp e =
    let entry = entry_address table n in
    let stack = stack_hazard f table (is_switch (word_in m entry) pc) in
    let save = save_hazard f (rounded_down fp) in
    second_none (write_hazard f (rounded_down fp) FRAME_SIZE) (port_hazard (rounded_down fp) FRAME_SIZE)
    (second_none stack save (second_none (read_hazard f entry 4) (or_else stack save) e))

-- the type is in the low bits of the pfp that a push makes, the frame that was saved is the first live one, and no record is read
undoes : (m : Memory) (f : Frames) (a kind fp new pc ac : ℕ) → a % 16 ≡ 0 → kind < 8 → takes_record kind ≡ false → (kind == 7) ≡ false → returned_pc m kind fp new ≡ pc → port_hazard a FRAME_SIZE ≡ None →
    planned_ret m (saved f a) (a + kind) fp new ac ≡ Ok (record { frame = a; live = true; pc = pc; ac = ac; check = false; marks = return_marks (saved f a) a })
unfolding ret_hazard popped
undoes m f a kind fp new pc ac low small t k e none =
    let type : return_type (a + kind) ≡ kind = omega arith in
    let frame : rounded_down (a + kind) ≡ a = omega arith in
    let same : (a == a) ≡ true = grind arith in
    let live : nat_lt 0 (length (a ∷ f.live)) ≡ true = grind arith in
    rw (type, frame, e, t, k, same, none, live)

-- ---- the controls

pub either : (b : Bool) (n : ℕ) → cond b n n ≡ n
either b n = grind arith

-- type 000 leaves the process controls
local_pc : (m : Memory) (fp pc : ℕ) → returned_pc m 0 fp pc ≡ pc
local_pc m fp pc = either (not (in_supervisor_mode pc)) pc

-- types 010 and 011 leave supervisor mode, and no record is read
pub left_controls : (pc w ac x t : ℕ) (b : Bool) → t < 2
    → (cond (not b) pc (cond (takes_record (2 + t)) w (cond (leaves_supervisor (2 + t)) (without_supervisor pc ((2 + t) % 2)) pc))
    ≡ cond b (without_supervisor pc t) pc)
    × (cond (takes_record (2 + t)) x ac ≡ ac)
left_controls pc w ac x zero true h = (refl, refl)
left_controls pc w ac x zero false h = (refl, refl)
left_controls pc w ac x (suc zero) true h = (refl, refl)
left_controls pc w ac x (suc zero) false h = (refl, refl)
left_controls pc w ac x (suc (suc t)) b h = absurd (omega (arith, h))

-- and their frame has no request to look at
switched_type : (t : ℕ) → t < 2 → (takes_record (2 + t) ≡ false) × ((2 + t == 7) ≡ false)
switched_type t h = (grind (arith, h), grind (arith, h))

user_bit : (pc : ℕ) → in_supervisor_mode pc ≡ false → pc / 2 % 2 ≡ 0
user_bit pc e = let other : pc / 2 % 2 ≡ 1 → ⊥ = eqb-false _ _ e in omega arith

supervisor_bit : (pc t : ℕ) → t < 2 → in_supervisor_mode (with_supervisor pc t) ≡ true
supervisor_bit pc t h = let one : with_supervisor pc t / 2 % 2 ≡ 1 = omega arith in ap (λ (n : ℕ). n == 1) one

-- types 010 and 011 give back user mode and trace enable
switched_pc : (m : Memory) (fp pc t : ℕ) → in_supervisor_mode pc ≡ false → t < 2 → returned_pc m (2 + pc % 2) fp (with_supervisor pc t) ≡ pc
switched_pc m fp pc t user h =
    let new : ℕ = with_supervisor pc t in
    let old : pc / 2 % 2 ≡ 0 = user_bit pc user in
    (left_controls new _ 0 0 (pc % 2) (in_supervisor_mode new) (omega arith)).0
    ∙ ap (λ (b : Bool). cond b (without_supervisor new (pc % 2)) new) (supervisor_bit pc t h)
    ∙ omega arith

-- ---- both ways of a system call

here : (later : Memory) (f : Frames) (entry pc fp sp ac : ℕ) → port_hazard (rounded_down fp) FRAME_SIZE ≡ None →
    Undoes later f pc ac (entered_here entry pc fp sp 0 0)
here later f entry pc fp sp ac none =
    undoes later f (rounded_down fp) 0 _ pc pc ac (omega arith) (omega arith) refl refl (local_pc later (pushed fp sp 0 0).frame pc) none

switched : (later : Memory) (f : Frames) (entry stack pc fp ac : ℕ) → in_supervisor_mode pc ≡ false → port_hazard (rounded_down fp) FRAME_SIZE ≡ None →
    Undoes later f pc ac (entered_switched entry stack pc fp 0 (2 + pc % 2))
switched later f entry stack pc fp ac user none =
    let type = switched_type (pc % 2) (omega arith) in
    undoes later f (rounded_down fp) (2 + pc % 2) _ _ pc ac (omega arith) (omega arith) type.0 type.1
    (switched_pc later _ pc (stack % 2) user (omega arith)) none

by_switch : (b : Bool) (later : Memory) (f : Frames) (entry stack pc fp sp ac : ℕ) → (b ≡ true → in_supervisor_mode pc ≡ false) → port_hazard (rounded_down fp) FRAME_SIZE ≡ None →
    Undoes later f pc ac (if b then entered_switched entry stack pc fp 0 (2 + pc % 2) else entered_here entry pc fp sp 0 0)
by_switch true later f entry stack pc fp sp ac user none = switched later f entry stack pc fp ac (user refl) none
by_switch false later f entry stack pc fp sp ac user none = here later f entry pc fp sp ac none

entered : (c : Caller) (later : Memory) (table n ac : ℕ) → port_hazard (rounded_down c.fp) FRAME_SIZE ≡ None → Undoes later c.frames c.pc ac (system_entered c table n 0 (call_type c.pc))
unfolding system_entered
entered c later table n ac none =
    let entry : ℕ = word_in c.memory (entry_address table n) in
    by_switch (is_switch entry c.pc) later c.frames entry (word_in c.memory (stack_address table)) c.pc c.fp c.sp ac (λ e. not-true _ (and_parts _ _ e).1) none

-- a return right after a system call undoes it
pub call_undone : (c : Caller) (later : Memory) (table n ac : ℕ) (s : Sys) → planned_calls c table n ≡ Ok s → Undoes later c.frames c.pc ac s
call_undone c later table n ac s e =
    let both = made (nat_le n MOST_SYSTEM_CALL) (system_hazard c.memory c.frames table n c.pc c.fp) (system_entered c table n 0 (call_type c.pc)) s e in
    subst (Undoes later c.frames c.pc ac) both.1 (entered c later table n ac (saves c.memory c.frames table n c.pc c.fp both.0))
