-- What is known of a fault's entry before its push tells what the entry meets.
use Rattle.std.proofs.Common.{◌≡◌, ℕ, Bool, false, Option, Some, Result, Ok, Err, refl, sym, ap, ◌∙◌}
use Rattle.i9_model.specs.declared.layout.TheConstants.{FAULT_RETURN, RECORD_SIZE}
use Rattle.i9_model.specs.declared.calls.Sys.{Sys}
use Rattle.i9_model.specs.declared.faults.Fault.{Fault}
use Rattle.i9_model.specs.declared.faults.Entry.{Entry}
use Rattle.i9_model.specs.declared.faults.Handler.{Handler}
use Rattle.i9_model.specs.declared.faults.Handler.TheVariants.{Local, System}
use Rattle.i9_model.specs.declared.faults.FaultStop.{FaultStop}
use Rattle.i9_model.specs.declared.faults.FaultStop.TheVariants.{Hazard}
use Rattle.i9_model.specs.Hazards.{unless, record_write_hazard}
use Rattle.i9_model.specs.Calls.{Caller, entered_here, system_entered}
use Rattle.i9_model.specs.Faults.{◌>>=◌, or_stop, table_entry, planned_handler, planned_frame, entry_of, planned_fault_by}
use Rattle.i9_calls.proofs.Switching.{system-stops, system-goes_on}
use Rattle.i9_faults.specs.Switches.{handler_switch, fault_switch}

-- ---- the frame of a handler

-- whether it is entered with a switch of stacks
abbrev switch : Caller → ℕ → Handler → Result Bool ℕ
switch c system h = handler_switch c.memory c.frames system c.pc h

-- the procedure that a handler is, or what is met first
abbrev unless_met : Caller → ℕ → ℕ → Option ℕ → Result Sys ℕ
unless_met c system n met = unless met (system_entered c system n RECORD_SIZE (λ _. FAULT_RETURN))

frame-stops : (c : Caller) (system : ℕ) (area : Bool → Option ℕ) (h : Handler) (a : ℕ) → switch c system h ≡ Err a → planned_frame c system area h ≡ Err a
unfolding planned_frame
frame-stops c system area (Local target) a e = absurd cc
frame-stops c system area (System n) a e = ap (unless_met c system n) (system-stops c.memory c.frames system n c.pc area a e)

same_switch : (b c : Bool) → ◌≡◌ {A = Result Bool ℕ} (Ok b) (Ok c) → b ≡ c
same_switch b c e = cc

-- it goes by what is checked of the push where stacks are switched so
frame-alike : (c : Caller) (system : ℕ) (area other : Bool → Option ℕ) (h : Handler) (b : Bool) → switch c system h ≡ Ok b → area b ≡ other b
    → planned_frame c system area h ≡ planned_frame c system other h
unfolding planned_frame
frame-alike c system area other (Local target) b e same =
    let here : false ≡ b = same_switch false b e in
    ap (λ (o : Option ℕ). unless o (entered_here target c.pc c.fp c.sp RECORD_SIZE FAULT_RETURN)) (ap area here ∙ same ∙ ap other (sym here))
frame-alike c system area other (System n) b e same =
    ap (unless_met c system n) (system-goes_on c.memory c.frames system n c.pc area b e ∙ same ∙ sym (system-goes_on c.memory c.frames system n c.pc other b e))

frame-refused : (c : Caller) (system : ℕ) (h : Handler) (a : ℕ) (b : Bool) → switch c system h ≡ Ok b → planned_frame c system (λ _. Some a) h ≡ Err a
unfolding planned_frame
frame-refused c system (Local target) a b e = refl
frame-refused c system (System n) a b e = ap (unless_met c system n) (system-goes_on c.memory c.frames system n c.pc (λ _. Some a) b e)

-- ---- the entry

stop_on : (q : Result Bool ℕ) (p : Result Sys ℕ) (next : Sys → Result Entry FaultStop) (stop : FaultStop) → ((a : ℕ) → q ≡ Err a → p ≡ Err a) → or_stop q ≡ Err stop → (or_stop p >>= next) ≡ Err stop
stop_on (Ok b) p next stop stops e = absurd cc
stop_on (Err a) p next stop stops e =
    let same : ◌≡◌ {A = Result Entry FaultStop} (Err (Hazard a)) (Err stop) = cc in
    ap (λ (r : Result Sys ℕ). or_stop r >>= next) (stops a refl) ∙ same

switch_of : (q : Result Bool ℕ) (b : Bool) → or_stop q ≡ Ok b → q ≡ Ok b
switch_of (Ok c) b e = cc
switch_of (Err a) b e = absurd cc

module _ (c : Caller) (table system : ℕ) (fault : Fault) (ac : ℕ) where
  -- whether the entry switches stacks
  abbrev pub switches : Result Bool FaultStop
  switches = fault_switch c.memory c.frames table system fault c.pc

  -- what comes after the frame, and after the handler
  abbrev recorded : Sys → Result Entry FaultStop
  recorded s = or_stop (unless (record_write_hazard c.frames s.push) (entry_of fault c.pc ac s))

  abbrev framed : (Bool → Option ℕ) → Handler → Result Entry FaultStop
  framed area h = or_stop (planned_frame c system area h) >>= recorded

  abbrev told : Result Handler FaultStop → Result Bool FaultStop
  told r = r >>= (λ h. or_stop (switch c system h))

  -- what is known to stop the entry before its push does, whatever is checked of the push
  pub fault-stops : (area : Bool → Option ℕ) (stop : FaultStop) → switches ≡ Err stop → planned_fault_by c table system fault ac area ≡ Err stop
  unfolding planned_fault_by fault_switch
  fault-stops area stop e = by_handler (planned_handler c.memory c.frames (table_entry table fault.kind)) e
    where
      by_handler : (r : Result Handler FaultStop) → told r ≡ Err stop → (r >>= framed area) ≡ Err stop
      by_handler (Err x) e = cc
      by_handler (Ok h) e = stop_on (switch c system h) (planned_frame c system area h) recorded stop (frame-stops c system area h) e

  -- else it goes by what is checked of the push where stacks are switched so
  pub fault-alike : (area other : Bool → Option ℕ) (b : Bool) → switches ≡ Ok b → area b ≡ other b → planned_fault_by c table system fault ac area ≡ planned_fault_by c table system fault ac other
  unfolding planned_fault_by fault_switch
  fault-alike area other b e same = by_handler (planned_handler c.memory c.frames (table_entry table fault.kind)) e
    where
      by_handler : (r : Result Handler FaultStop) → told r ≡ Ok b → (r >>= framed area) ≡ (r >>= framed other)
      by_handler (Err x) e = absurd cc
      by_handler (Ok h) e = ap (λ (p : Result Sys ℕ). or_stop p >>= recorded) (frame-alike c system area other h b (switch_of (switch c system h) b e) same)

  -- and a hazard of the push ends it
  pub fault-refused : (area : Bool → Option ℕ) (b : Bool) (a : ℕ) → switches ≡ Ok b → area b ≡ Some a → planned_fault_by c table system fault ac area ≡ Err (Hazard a)
  unfolding planned_fault_by fault_switch
  fault-refused area b a e met = fault-alike area (λ _. Some a) b e met ∙ by_handler (planned_handler c.memory c.frames (table_entry table fault.kind)) e
    where
      by_handler : (r : Result Handler FaultStop) → told r ≡ Ok b → (r >>= framed (λ _. Some a)) ≡ Err (Hazard a)
      by_handler (Err x) e = absurd cc
      by_handler (Ok h) e = ap (λ (p : Result Sys ℕ). or_stop p >>= recorded) (frame-refused c system h a b (switch_of (switch c system h) b e))
