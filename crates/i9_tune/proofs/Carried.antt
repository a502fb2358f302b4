-- What instructions do in a state they do in another one, where their loads and stores have no byte in which the two
-- differ.
use Rattle.std.proofs.Common.{◌≡◌, ℕ, ◌+◌, Bool, true, false, cond, ◌||◌, ◌&&◌, List, [], ◌∷◌, Option, Some, None, refl, sym, ap, ◌∙◌, subst, inl, arith}
use Rattle.std.specs.Prelude.{not}
use Rattle.std.specs.Option.{is_some}
use Rattle.std.proofs.lemmas.Bool.{both_ways, false_from_ne_true}
use Rattle.i9_isa.specs.declared.size.Size.{Size}
use Rattle.i9_isa.specs.declared.size.Direction.{Direction}
use Rattle.i9_isa.specs.declared.size.Direction.TheVariants.{Load, Store}
use Rattle.i9_isa.specs.declared.size.Transfer.{Transfer}
use Rattle.i9_isa.specs.declared.inst.Inst.{Inst}
use Rattle.i9_isa.specs.Transfers.{transfer_of, byte_count}
use Rattle.i9_model.specs.Writes.{wrapped}
use Rattle.i9_model.specs.Frames.{in_bytes, has, is_put}
use Rattle.i9_model.specs.Stale.{stored_marks}
use Rattle.i9_model.specs.State.{State}
use Rattle.i9_model.specs.Operands.{address}
use Rattle.i9_model.specs.Access.{Access, access_by, access_of, data_of, moved_access}
use Rattle.i9_model.specs.Alike.{with_memory}
use Rattle.i9_model.specs.Step.{Action, stored_of, moving, action_by, action_of}
use Rattle.i9_model.proofs.Among.{IsAmong, bytes-among}
use Rattle.i9_model.proofs.Lengths.{stored_long, marks_long}
use Rattle.i9_model.proofs.Runs.{is_put-upwards}
use Rattle.i9_model.proofs.SavedMarks.{picked-among}
use Rattle.i9_model.proofs.Storing.{stored_agree, stored_kept}
use Rattle.i9_tune.specs.Deeds.{Deed, DoesSame}
use Rattle.i9_tune.specs.Passes.{MissesBytes, stepped, ArePassed, behind, sent}
use Rattle.i9_tune.specs.Orders.{AreAllowed}
use Rattle.i9_tune.specs.Standings.{DiffersIn}
use Rattle.i9_tune.proofs.Sources.{Agree, IsAllowed, allowed_parts, does_same}
use Rattle.i9_tune.proofs.Swaps.{after_deed, stepped_by, own_deed, own_step, port_by, Fate, fate_of, passes_by}

-- ---- a store beside the area leaves it

-- a byte of the area is none of an access that misses it
missed : (area : ℕ × ℕ) (a n x : ℕ) → MissesBytes (Some (a, n)) area → in_bytes area.0 area.1 x ≡ true → IsAmong a n x → ⊥
missed area a n x miss h among = both_ways (in_bytes area.0 area.1 x) (ap (in_bytes area.0 area.1) among.2 ∙ miss among.0 among.1) h

-- the byte is not written, and does not get soft
abbrev pub LeavesByte : ℕ → Action → Type 0
LeavesByte x a = (is_put a.writes x ≡ false) × (has a.stale x ≡ false)

moving_leaves : (area : ℕ × ℕ) (d : Direction) (size : Size) (signed : Bool) (i : Inst) (s : State) (x : ℕ) → MissesBytes (data_of (moved_access d (address s i.ea) (byte_count size))) area → in_bytes area.0 area.1 x ≡ true
    → LeavesByte x (moving d size signed i s)
unfolding is_put
moving_leaves area Load size signed i s x miss h = (refl, refl)
moving_leaves area Store size signed i s x miss h =
    let a = address s i.ea in
    let bytes = stored_of size s i.c a in
    let put = is_put-upwards a bytes x ∙ ap (λ (n : ℕ). in_bytes a n x) (stored_long size s i.c a) in
    let long = marks_long size s i.c in (
      false_from_ne_true _ (λ t. missed area a (byte_count size) x miss h (bytes-among a (byte_count size) x (sym put ∙ t))),
      false_from_ne_true _ (λ t. let p = picked-among a (stored_marks size s i.c) x t in missed area a (byte_count size) x miss h (p.0, omega (arith, p.1, long), p.2)),
    )

pub leaves_byte : (area : ℕ × ℕ) (i : Inst) (s : State) (x : ℕ) → IsAllowed i → MissesBytes (data_of (access_of i s)) area → in_bytes area.0 area.1 x ≡ true → LeavesByte x (action_of i s)
unfolding action_of is_put
leaves_byte area i s x ok miss h = by_transfer (transfer_of i.op) refl
  where
    by_transfer : (o : Option Transfer) → transfer_of i.op ≡ o → LeavesByte x (action_by (transfer_of i.op) i s)
    by_transfer (Some m) e =
        subst (λ (o : Option Transfer). LeavesByte x (action_by o i s)) (sym e)
        (moving_leaves area m.direction m.size m.signed i s x (subst (λ (o : Option Transfer). MissesBytes (data_of (access_by o i s)) area) e miss) h)
    by_transfer None e =
        let y = own_deed i s ok in
        subst (LeavesByte x) (sym y.here) (rw (y.quiet (ap is_some e), y.clean (ap is_some e)) (refl, refl))

-- nor is it another one, or softer, behind the instruction
pub byte_kept : (area : ℕ × ℕ) (i : Inst) (s : State) (x : ℕ) → IsAllowed i → MissesBytes (data_of (access_of i s)) area → in_bytes area.0 area.1 x ≡ true
    → ((stepped i s).memory.bytes x ≡ s.memory.bytes x) × ((stepped i s).frames.soft x ≡ s.frames.soft x)
byte_kept area i s x ok miss h =
    let y = own_deed i s ok in
    let beside = subst (LeavesByte x) y.here (leaves_byte area i s x ok miss h) in
    let step = own_step i s ok in
    let soft : (has y.deed.stale x || (s.frames.soft x && not (is_put y.deed.writes x))) ≡ s.frames.soft x = grind (arith, beside.0, beside.1) in
    (ap (λ (t : State). t.memory.bytes x) step ∙ stored_kept s.memory.bytes y.deed.writes x (inl beside.0), ap (λ (t : State). t.frames.soft x) step ∙ soft)

-- ---- one instruction

-- other bytes in the area
agree_with : (area : ℕ × ℕ) (i : Inst) (s : State) (bytes : ℕ → ℕ) → ((x : ℕ) → in_bytes area.0 area.1 x ≡ false → bytes x ≡ s.memory.bytes x) → MissesBytes (data_of (access_of i s)) area
    → Agree i s (with_memory s bytes)
agree_with area i s bytes same miss = record {
  regs = λ k h. refl;
  marks = λ k h. refl;
  code = λ h. refl;
  beside = record {
    mask = refl;
    orders = refl;
    bytes = λ a n reads k h.
        let x = wrapped (a + k) in
        ap (λ (b : ℕ). cond (s.frames.soft x) (s.reading b) b) (sym (same x (subst (λ (y : Access). MissesBytes (data_of y) area) reads miss k h)));
    soft = λ a n reads k h. refl;
  };
}

after_differs : (area : ℕ × ℕ) (i : Inst) (s t : State) (d : Deed) → DiffersIn area s t → DiffersIn area (after_deed i s d) (after_deed i t d)
after_differs area i s t d differs = record {
  rest = ap (λ (u : State). after_deed i u d) differs.rest;
  bytes = λ x h. stored_agree t.memory.bytes s.memory.bytes d.writes x (λ e. differs.bytes x h) (λ e. differs.bytes x h);
}

pub record AllCarried (area : ℕ × ℕ) (is : List Inst) (s t : State) : Type 0 where
  pub passed : ArePassed area is t
  pub state : DiffersIn area (behind is s) (behind is t)
  pub kept : (x : ℕ) → in_bytes area.0 area.1 x ≡ true → (behind is t).memory.bytes x ≡ t.memory.bytes x
  pub port : sent is t ≡ sent is s

pub all_carried : (area : ℕ × ℕ) (is : List Inst) (s t : State) → AreAllowed is → DiffersIn area s t → ArePassed area is s → AllCarried area is s t
all_carried area [] s t ok differs passed = record { passed = tt; state = differs; kept = λ x h. refl; port = refl }
all_carried area (i ∷ is) s t ok differs passed =
    let allowed = allowed_parts i ok.0 in
    let other = with_memory s t.memory.bytes in
    let y = does_same i s other allowed (agree_with area i s t.memory.bytes differs.bytes passed.0.misses) in
    let there = passes_by area i s t (subst (Fate i s) (sym differs.rest) (fate_of i s other allowed y refl refl refl refl (λ h. refl))) passed.0 in
    let x = subst (DoesSame i s) (sym differs.rest) y in
    let state : DiffersIn area (stepped i s) (stepped i t) = rw (stepped_by i t x.deed x.there, stepped_by i s x.deed x.here) (after_differs area i s t x.deed differs) in
    let rest = all_carried area is (stepped i s) (stepped i t) ok.1 state passed.1 in
    record {
      passed = (there, rest.passed);
      state = rest.state;
      kept = λ z h. rest.kept z h ∙ (byte_kept area i t z allowed there.misses h).0;
      port = rw (port_by i t x.deed x.there, port_by i s x.deed x.here, rest.port) refl;
    }
