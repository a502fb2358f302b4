-- What a plan of a call or of a fault's entry says of the frame that is saved and of the record.
use Rattle.std.proofs.Common.{◌≡◌, ℕ, Bool, length, Option, None, Result, Ok, refl, subst, arith}
use Rattle.i9_model.specs.declared.layout.TheConstants.{RECORD_SIZE}
use Rattle.i9_model.specs.declared.calls.Sys.{Sys}
use Rattle.i9_model.specs.declared.faults.Fault.{Fault}
use Rattle.i9_model.specs.declared.faults.Entry.{Entry}
use Rattle.i9_model.specs.declared.faults.Handler.{Handler}
use Rattle.i9_model.specs.declared.faults.FaultStop.{FaultStop}
use Rattle.i9_model.specs.Memory.{Memory, word_in}
use Rattle.i9_model.specs.State.{Frames}
use Rattle.i9_model.specs.Frames.{rounded_down, saved}
use Rattle.i9_model.specs.Hazards.{or_else, unless, write_hazard, port_hazard, save_hazard, record_write_hazard}
use Rattle.i9_model.specs.Calls.{Caller, system_hazard_by, entry_address, is_switch, system_entered, record_address}
use Rattle.i9_model.specs.Faults.{◌>>=◌, or_stop, table_entry, planned_handler, planned_frame, entry_of, planned_fault_by}

pub first_none : (o p : Option ℕ) → or_else o p ≡ None → o ≡ None
first_none o p e = grind arith

pub second_none : (o p : Option ℕ) → or_else o p ≡ None → p ≡ None
second_none o p e = grind arith

-- ---- system procedures

-- the locals are saved at fp
pub system_save : (c : Caller) (table n extra : ℕ) (kind : Bool → ℕ) → (system_entered c table n extra kind).push.save ≡ rounded_down c.fp
unfolding system_entered
system_save c table n extra kind = grind arith

-- ---- the entry of a fault

pub unless_ok : {A : Type 0} (h : Option ℕ) (x y : A) → unless h x ≡ Ok y → (h ≡ None) × (x ≡ y)
unless_ok h x y e = grind arith

pub stop_ok : {A : Type 0} (r : Result A ℕ) (x : A) → or_stop r ≡ Ok x → r ≡ Ok x
stop_ok r x e = grind arith

pub bind_ok : {A B : Type 0} (r : Result A FaultStop) (next : A → Result B FaultStop) (y : B) → (r >>= next) ≡ Ok y → (x : A) × (r ≡ Ok x) × (next x ≡ Ok y)
bind_ok r next y e = grind arith

-- what is checked of a push has its save area in it
abbrev pub ChecksSave : Frames → ℕ → (Bool → Option ℕ) → Type 0
ChecksSave f fp area = (b : Bool) → area b ≡ None → save_hazard f (rounded_down fp) ≡ None

-- and it is checked last
pub system_checks : (m : Memory) (f : Frames) (table n pc : ℕ) (area : Bool → Option ℕ) → system_hazard_by m f table n pc area ≡ None → area (is_switch (word_in m (entry_address table n)) pc) ≡ None
system_checks m f table n pc area e = grind arith

frame_free : (c : Caller) (system : ℕ) (area : Bool → Option ℕ) (h : Handler) (s : Sys) → ChecksSave c.frames c.fp area → planned_frame c system area h ≡ Ok s → save_hazard c.frames s.push.save ≡ None
unfolding planned_frame
frame_free c system area h s checks e = grind (arith, unless_ok, system_save, system_checks)

-- the save area and the record of an entry meet no hazard, and the record has four words
pub record EntersFree (f : Frames) (e : Entry) : Type 0 where
  pub save : save_hazard f e.push.save ≡ None
  pub record_free : write_hazard (saved f e.push.save) (record_address e.push.frame) RECORD_SIZE ≡ None
  pub four : length e.words ≡ 4

record_of_entry : (f : Frames) (fault : Fault) (pc ac : ℕ) (s : Sys) (e : Entry) → save_hazard f s.push.save ≡ None → record_write_hazard f s.push ≡ None → entry_of fault pc ac s ≡ e → EntersFree f e
unfolding record_write_hazard
record_of_entry f fault pc ac s e save none same =
    let here : EntersFree f (entry_of fault pc ac s) = record {
      save = save;
      record_free = first_none (write_hazard (saved f s.push.save) (record_address s.push.frame) RECORD_SIZE) (port_hazard (record_address s.push.frame) RECORD_SIZE) none;
      four = refl;
    } in
    subst (EntersFree f) same here

pub enters_free_by : (c : Caller) (table system : ℕ) (fault : Fault) (ac : ℕ) (area : Bool → Option ℕ) (e : Entry) → ChecksSave c.frames c.fp area → planned_fault_by c table system fault ac area ≡ Ok e → EntersFree c.frames e
unfolding planned_fault_by
enters_free_by c table system fault ac area e checks ok =
    let made = λ (s : Sys). unless (record_write_hazard c.frames s.push) (entry_of fault c.pc ac s) in
    let recorded = λ (s : Sys). or_stop (made s) in
    let a = bind_ok (planned_handler c.memory c.frames (table_entry table fault.kind)) (λ h. or_stop (planned_frame c system area h) >>= recorded) e ok in
    let b = bind_ok (or_stop (planned_frame c system area a.0)) recorded e a.2 in
    let d = unless_ok (record_write_hazard c.frames b.0.push) (entry_of fault c.pc ac b.0) e (stop_ok (made b.0) e b.2) in
    record_of_entry c.frames fault c.pc ac b.0 e (frame_free c system area a.0 b.0 checks (stop_ok (planned_frame c system area a.0) b.0 b.1)) d.0 d.1
