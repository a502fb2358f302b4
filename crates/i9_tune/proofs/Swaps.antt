-- Two instructions that are apart may change places, and so a block does the same in each of its orders.
use Rattle.std.proofs.Common.{◌≡◌, ℕ, ◌+◌, ◌*◌, ◌/◌, ◌%◌, ◌^◌, max, Bool, true, false, cond, ◌||◌, ◌&&◌, List, [], ◌∷◌, ◌++◌, Option, Some, None, unwrap_or, refl, sym, ap, ◌∙◌, subst, inl, inr, arith}
use Rattle.std.specs.Prelude.{◌==◌, not, bit_or, filter, ◌⊎◌}
use Rattle.std.specs.Int.{bit_at}
use Rattle.std.specs.Option.{is_some, option_map}
use Rattle.std.proofs.lemmas.Bool.{or_right, both_ways, cond-true, cases_Bool, and_cases, false_from_ne_true}
use Rattle.std.proofs.lemmas.Nat.Bits.{bit_at_or, bit_at-pow_other}
use Rattle.i9_isa.specs.declared.op.Op.{Op}
use Rattle.i9_isa.specs.declared.op.Op.TheVariants.{Addi}
use Rattle.i9_isa.specs.declared.size.Direction.{Direction}
use Rattle.i9_isa.specs.declared.size.Direction.TheVariants.{Load, Store}
use Rattle.i9_isa.specs.declared.size.Transfer.{Transfer}
use Rattle.i9_isa.specs.declared.inst.Inst.{Inst}
use Rattle.i9_isa.specs.declared.resources.TheConstants.{CONDITION_CODE}
use Rattle.i9_isa.specs.Resources.{writes_code, is_read, is_written}
use Rattle.i9_isa.specs.Transfers.{transfer_of, byte_count}
use Rattle.i9_isa.specs.Words.{bit, words_of}
use Rattle.i9_model.specs.Writes.{wrapped, written, or_earlier, last_put}
use Rattle.i9_model.specs.Memory.{Memory, with_writes, exit_word, in_port_page}
use Rattle.i9_model.specs.State.{State, Frames}
use Rattle.i9_model.specs.Frames.{has, is_put, wrote, softened}
use Rattle.i9_model.specs.Controls.{marks_after}
use Rattle.i9_model.specs.Stale.{legible, misuses}
use Rattle.i9_model.specs.Hazards.{write_hazard}
use Rattle.i9_model.specs.Operands.{address}
use Rattle.i9_model.specs.Conditions.{with_code}
use Rattle.i9_model.specs.Faults.{raised, uses_special, is_supervisor_only, is_invalid, is_past_table, is_unaligned}
use Rattle.i9_model.specs.Calls.{in_supervisor_mode}
use Rattle.i9_model.specs.declared.faults.TheConstants.{OPERATION, PROTECTION, TYPE, UNALIGNED, INVALID_OPERAND, LENGTH, MISMATCH}
use Rattle.i9_model.specs.declared.run.End.TheVariants.{Exit}
use Rattle.std.proofs.lemmas.Nat.{or_comm, or_shifted, or_shr, or_block}
use Rattle.i9_model.specs.Needs.{is_request_name}
use Rattle.i9_model.specs.Alike.{with_other}
use Rattle.i9_model.specs.Access.{Access, Reads, access_of, data_of, moved_access, hazard_in, hazard_of}
use Rattle.i9_model.specs.Standing.{raised_in, later_fault}
use Rattle.i9_model.specs.Step.{Action, following, action_of, moved, acted, counted}
use Rattle.i9_model.specs.Run.{exit_in}
use Rattle.i9_model.proofs.Stored.{written-last, with_none}
use Rattle.i9_turns.proofs.MaskLaws.{sets_beside}
use Rattle.i9_turns.proofs.CodeLaws.{code_beside}
use Rattle.i9_model.proofs.FrameLaws.{none_wrote}
use Rattle.i9_model.proofs.Legible.{read_as}
use Rattle.i9_tune.specs.Inputs.{Change, Keeps, Codes, Flags, changed, is_code}
use Rattle.i9_tune.specs.Blocks.{is_allowed_name, Spares, AreApart, is_allowed}
use Rattle.i9_tune.specs.Deeds.{Deed, deed_action, DoesSame}
use Rattle.i9_tune.specs.Passes.{MissesBytes, is_seen, Passes, stepped, port_bytes, ArePassed, behind, sent, AreAsGood}
use Rattle.i9_turns.proofs.Outside.{is_kept, set_with}
use Rattle.i9_tune.proofs.Sources.{Agree, IsAllowed, register_is_read, code_is_read, does_same, no_access, other_memory, same_here, unmarked, allowed_parts}
use Rattle.std.specs.List.{AllByRecursion}
use Rattle.i9_tune.specs.Orders.{IsOrder, AreAllowed}
use Rattle.i9_tune.proofs.Orders.{parts_of}

-- ---- the state behind a deed

abbrev pub after_deed : Inst → State → Deed → State
after_deed i s d = record s {
  regs = written s.regs d.sets;
  marks = marks_after s.marks d.sets d.marked;
  ac = changed d.change s.ac;
  check = false;
  memory = with_writes s.memory d.writes;
  frames = softened (wrote s.frames d.writes) d.stale;
  ip = following i s;
  count = s.count + 1;
}

pub stepped_by : (i : Inst) (s : State) (d : Deed) → action_of i s ≡ deed_action i s d → stepped i s ≡ after_deed i s d
unfolding acted moved
stepped_by i s d e = ap (λ (a : Action). counted 1 (acted s a)) e

pub own_deed : (i : Inst) (s : State) → IsAllowed i → DoesSame i s s
own_deed i s ok = does_same i s s ok (same_here i s)

pub own_step : (i : Inst) (s : State) (ok : IsAllowed i) → stepped i s ≡ after_deed i s (own_deed i s ok).deed
own_step i s ok = stepped_by i s (own_deed i s ok).deed (own_deed i s ok).here

-- ---- what it leaves

-- bit 12 of the arithmetic controls is no part of the condition code, and not the overflow flag
change_mask : (c : Change) (ac : ℕ) → bit (changed c ac) 12 ≡ bit ac 12
change_mask Keeps ac = refl
change_mask (Codes n) ac = ap (λ (x : ℕ). x == 1) (let h : (ac / 8 * 8 + n % 8) / 4096 % 2 ≡ ac / 4096 % 2 = omega arith in h)
change_mask Flags ac =
    let none : bit_at (2 ^ 8) 12 ≡ 0 = bit_at-pow_other 8 12 (λ e. absurd (omega (arith, e))) in
    let most : max (bit_at ac 12) 0 ≡ bit_at ac 12 = omega arith in
    ap (λ (x : ℕ). x == 1) (bit_at_or ac (2 ^ 8) 12 ∙ ap (max (bit_at ac 12)) none ∙ most)

-- a register that is not written is not set
unset : (i : Inst) (s : State) (d : Deed) (k : ℕ) → action_of i s ≡ deed_action i s d → is_written i k ≡ false → last_put d.sets k ≡ None
unset i s d k e h = sym (ap (λ (a : Action). last_put a.sets k) e) ∙ sets_beside i s k (is_kept i k h).outside

-- and keeps its mark
not_put : (ps : List (ℕ × ℕ)) (k : ℕ) → last_put ps k ≡ None → is_put ps k ≡ false
unfolding last_put is_put
not_put [] k e = refl
not_put (p ∷ ps) k e = by_parts (last_put ps k) (k == p.0) e (not_put ps k)
  where
    by_parts : (o : Option ℕ) (b : Bool) → or_earlier o (cond b (Some p.1) None) ≡ None → (o ≡ None → is_put ps k ≡ false) → (b || is_put ps k) ≡ false
    by_parts (Some v) b e later = absurd (cc e)
    by_parts None b e later = let rest = later refl in grind (arith, e)

marks_kept : (marks : ℕ → Bool) (sets : List (ℕ × ℕ)) (marked : List ℕ) (k : ℕ) → last_put sets k ≡ None → has marked k ≡ false → marks_after marks sets marked k ≡ marks k
marks_kept marks sets marked k e h = let none = not_put sets k e in grind (arith, none, h)

unset_mark : (i : Inst) (s : State) (d : Deed) (k : ℕ) → IsAllowed i → action_of i s ≡ deed_action i s d → is_written i k ≡ false → has d.marked k ≡ false
unset_mark i s d k ok e h = sym (ap (λ (a : Action). has a.marked k) e) ∙ unmarked i s k ok (is_kept i k h).outside

unspared : (i j : Inst) (k : ℕ) → Spares i j → is_read j k ≡ true → is_written i k ≡ false
unspared i j k spares r = false_from_ne_true _ (λ w. both_ways (is_read j k) (spares k w).0 r)

-- ---- what the other one reads is left

is_request : (i : Inst) (m : Transfer) → transfer_of i.op ≡ Some m → is_request_name i.op ≡ true
is_request i m e = ap is_some e

-- what reads is a load
load_request : (i : Inst) (s : State) (a n : ℕ) → IsAllowed i → access_of i s ≡ Reads a n → is_request_name i.op ≡ true
load_request i s a n ok reads = by_transfer (transfer_of i.op) refl
  where
    by_transfer : (o : Option Transfer) → transfer_of i.op ≡ o → is_request_name i.op ≡ true
    by_transfer (Some m) e = is_request i m e
    by_transfer None e = let none = no_access i s ok e in absurd (cc (none, reads))

-- the deed writes nothing, and makes nothing soft
pub record IsQuiet (d : Deed) : Type 0 where
  pub writes : d.writes ≡ []
  pub stale : d.stale ≡ []

quiet_frames : (f : Frames) (d : Deed) → IsQuiet d → softened (wrote f d.writes) d.stale ≡ f
quiet_frames f d q = rw (q.writes, q.stale) (none_wrote f)

quiet_memory : (m : Memory) (d : Deed) → IsQuiet d → with_writes m d.writes ≡ m
quiet_memory m d q = rw (q.writes) (with_none m)

quiet_legible : (i : Inst) (s : State) (d : Deed) → IsQuiet d → legible (after_deed i s d) ≡ legible s
quiet_legible i s d q =
    ap (λ (f : Frames). read_as (with_writes s.memory d.writes) f s.reading) (quiet_frames s.frames d q)
    ∙ ap (λ (m : Memory). read_as m s.frames s.reading) (quiet_memory s.memory d q)

quiet_deed : (i : Inst) (s t : State) (x : DoesSame i s t) → is_request_name i.op ≡ false → IsQuiet x.deed
quiet_deed i s t x h = record { writes = x.quiet h; stale = x.clean h }

pub agree_after : (i j : Inst) (s : State) → IsAllowed i → IsAllowed j → Spares i j → (is_request_name i.op && is_request_name j.op) ≡ false → Agree j s (stepped i s)
agree_after i j s own ok spares requests =
    let x = own_deed i s own in
    let d = x.deed in
    let quiet : (a n : ℕ) → access_of j s ≡ Reads a n → IsQuiet d = λ a n reads.
    let load = load_request j s a n ok reads in
    quiet_deed i s s x (grind (arith, requests, load)) in
    subst (Agree j s) (sym (own_step i s own)) (record {
      regs = λ k r. sym (written-last s.regs d.sets k ∙ ap (λ (o : Option ℕ). unwrap_or o (s.regs k)) (unset i s d k x.here (unspared i j k spares (register_is_read j k r))));
      marks = λ k r. let none = unspared i j k spares (register_is_read j k r) in
          sym (marks_kept s.marks d.sets d.marked k (unset i s d k x.here none) (unset_mark i s d k own x.here none));
      code = λ r. sym (sym (ap (λ (a : Action). a.ac % 8) x.here) ∙ code_beside i s (set_with (writes_code i.op) true refl (is_kept i CONDITION_CODE (unspared i j CONDITION_CODE spares (code_is_read j r))).code));
      beside = record {
        mask = sym (change_mask d.change s.ac);
        orders = refl;
        bytes = λ a n reads k h. sym (ap (λ (m : Memory). m.bytes (wrapped (a + k))) (quiet_legible i s d (quiet a n reads)));
        soft = λ a n reads k h. sym (ap (λ (f : Frames). f.soft (wrapped (a + k))) (quiet_frames s.frames d (quiet a n reads)));
      };
    })

-- ---- what decides whether it is done

-- of an allowed instruction only an access that is not aligned raises a fault before it does anything
names_raise : (op : Op) (a b : ℕ) → (is_supervisor_only op b || is_invalid op a || is_past_table op a) ≡ cond (is_allowed_name op) false (is_supervisor_only op b || is_invalid op a || is_past_table op a)
names_raise Addi a b = refl
names_raise _ a b = refl

by_flags : {A : Type 0} (sup only special invalid past : Bool) (w x y z : A) → special ≡ false → (only || invalid || past) ≡ false
    → cond (not sup && (only || special)) w (cond invalid x (cond past y z)) ≡ z
by_flags sup only special invalid past w x y z plain none = grind (arith, plain, none)

raised_plain : (i : Inst) (a b : ℕ) (access : Option (ℕ × ℕ)) (pc config : ℕ) → IsAllowed i → raised i a b access pc config ≡ cond (is_unaligned access config) (Some (OPERATION, UNALIGNED)) None
unfolding raised
raised_plain i a b access pc config ok =
    let special : uses_special i ≡ false = rw (ok.a, ok.b, ok.c) refl in
    by_flags (in_supervisor_mode pc) (is_supervisor_only i.op b) (uses_special i) (is_invalid i.op a) (is_past_table i.op a)
    (Some (TYPE, MISMATCH)) (Some (OPERATION, INVALID_OPERAND)) (Some (PROTECTION, LENGTH)) (cond (is_unaligned access config) (Some (OPERATION, UNALIGNED)) None)
    special (names_raise i.op a b ∙ cond-true _ _ _ ok.name)

raised_same : (i : Inst) (s t : State) → IsAllowed i → access_of i s ≡ access_of i t → s.tables ≡ t.tables → raised_in i s ≡ raised_in i t
raised_same i s t ok access tables =
    raised_plain i _ _ (data_of (access_of i s)) s.pc s.tables.fault_config ok
    ∙ rw (access, tables) (sym (raised_plain i _ _ (data_of (access_of i t)) t.pc t.tables.fault_config ok))

moved_hazard : (d : Direction) (a n : ℕ) (s t : State) → s.frames ≡ t.frames → hazard_in s (moved_access d a n) ≡ hazard_in t (moved_access d a n)
moved_hazard Load a n s t e = refl
moved_hazard Store a n s t e = ap (λ (f : Frames). write_hazard f a n) e

hazard_same : (i : Inst) (s t : State) → IsAllowed i → access_of i s ≡ access_of i t → (is_request_name i.op ≡ true → s.frames ≡ t.frames) → hazard_of i s ≡ hazard_of i t
unfolding hazard_of
hazard_same i s t ok access frames = rw (sym access) (by_transfer (transfer_of i.op) refl)
  where
    by_transfer : (o : Option Transfer) → transfer_of i.op ≡ o → hazard_in s (access_of i s) ≡ hazard_in t (access_of i s)
    by_transfer (Some m) e = rw e (moved_hazard m.direction (address s i.ea) (byte_count m.size) s t (frames (is_request i m e)))
    by_transfer None e = rw (no_access i s ok e) refl

exit_other : (m : Memory) (bytes : ℕ → ℕ) (ps : List (ℕ × ℕ)) → exit_word (with_other m bytes) ps ≡ exit_word m ps
unfolding exit_word
exit_other m bytes ps = refl

exit_same : (m n : Memory) (ps qs : List (ℕ × ℕ)) → m.mcon ≡ n.mcon → ps ≡ qs → exit_word m ps ≡ exit_word n qs
exit_same m n ps qs e f = ap (exit_word m) f ∙ sym (exit_other m n.bytes qs) ∙ ap (λ (x : Memory). exit_word x qs) (other_memory m n e)

-- all that decides whether an instruction is done is the same in both states
pub record Fate (i : Inst) (s t : State) : Type 0 where
  pub misuse : misuses i s ≡ misuses i t
  pub raised : raised_in i s ≡ raised_in i t
  pub later : later_fault i s ≡ later_fault i t
  pub hazard : hazard_of i s ≡ hazard_of i t
  pub exit : exit_in s (action_of i s) ≡ exit_in t (action_of i t)
  pub seen : is_seen i s ≡ is_seen i t
  pub access : access_of i s ≡ access_of i t

pub fate_back : (i : Inst) (s t : State) → Fate i s t → Fate i t s
fate_back i s t f = record { misuse = sym f.misuse; raised = sym f.raised; later = sym f.later; hazard = sym f.hazard; exit = sym f.exit; seen = sym f.seen; access = sym f.access }

pub passes_by : (area : ℕ × ℕ) (i : Inst) (s t : State) → Fate i s t → Passes area i s → Passes area i t
passes_by area i s t f p = record {
  proper = sym f.misuse ∙ p.proper;
  raised = sym f.raised ∙ p.raised;
  later = sym f.later ∙ p.later;
  hazard = sym f.hazard ∙ p.hazard;
  exit = sym f.exit ∙ p.exit;
  unseen = sym f.seen ∙ p.unseen;
  misses = subst (λ (x : Access). MissesBytes (data_of x) area) f.access p.misses;
}

pub fate_of : (i : Inst) (s t : State) → IsAllowed i → DoesSame i s t → s.pc ≡ t.pc → s.trace ≡ t.trace → s.tables ≡ t.tables → s.memory.mcon ≡ t.memory.mcon → (is_request_name i.op ≡ true → s.frames ≡ t.frames) → Fate i s t
fate_of i s t ok x pc trace tables orders frames = record {
  misuse = x.misuse;
  raised = raised_same i s t ok x.access tables;
  later = x.fault;
  hazard = hazard_same i s t ok x.access frames;
  exit = ap (option_map Exit) (exit_same s.memory t.memory (action_of i s).writes (action_of i t).writes orders (ap (λ (a : Action). a.writes) x.here ∙ sym (ap (λ (a : Action). a.writes) x.there)));
  seen = cc (pc, trace, x.access);
  access = x.access;
}

-- ---- two deeds

-- of each register one of two deeds leaves the value and the mark
abbrev AreBeside : Deed → Deed → Type 0
AreBeside d e = (k : ℕ) → ((last_put d.sets k ≡ None) × (has d.marked k ≡ false)) ⊎ ((last_put e.sets k ≡ None) × (has e.marked k ≡ false))

options_change : (a b : Option ℕ) (y : ℕ) → (a ≡ None) ⊎ (b ≡ None) → unwrap_or b (unwrap_or a y) ≡ unwrap_or a (unwrap_or b y)
options_change a b y (inl none) = rw none refl
options_change a b y (inr none) = rw none refl

registers_change : (f : ℕ → ℕ) (d e : Deed) → AreBeside d e → written (written f d.sets) e.sets ≡ written (written f e.sets) d.sets
registers_change f d e beside = λ r k. at k r
  where
    at : (k : ℕ) → written (written f d.sets) e.sets k ≡ written (written f e.sets) d.sets k
    at k =
        written-last (written f d.sets) e.sets k ∙ ap (unwrap_or (last_put e.sets k)) (written-last f d.sets k)
        ∙ options_change (last_put d.sets k) (last_put e.sets k) (f k) (elim (beside k) [ inl h ↦ inl h.0 | inr h ↦ inr h.0 ])
        ∙ sym (written-last (written f e.sets) d.sets k ∙ ap (unwrap_or (last_put d.sets k)) (written-last f e.sets k))

marks_change : (f : ℕ → Bool) (d e : Deed) → AreBeside d e
    → marks_after (marks_after f d.sets d.marked) e.sets e.marked ≡ marks_after (marks_after f e.sets e.marked) d.sets d.marked
marks_change f d e beside = λ r k. at k r
  where
    at : (k : ℕ) → marks_after (marks_after f d.sets d.marked) e.sets e.marked k ≡ marks_after (marks_after f e.sets e.marked) d.sets d.marked k
    at k = elim (beside k) [
      | inl h ↦ let none = not_put d.sets k h.0 in grind (arith, none, h.1)
      | inr h ↦ let none = not_put e.sets k h.0 in grind (arith, none, h.1)
    ]

-- the overflow flag and a new condition code
flag_and_code : (ac n : ℕ) → with_code (bit_or ac (2 ^ 8)) n ≡ bit_or (with_code ac n) (2 ^ 8)
flag_and_code ac n =
    let up : bit_or ac 256 / 8 ≡ bit_or (ac / 8) 32 = or_shr ac 256 3 in
    let alone : 0 + n % 8 ≡ n % 8 = omega arith in
    let zero_or : bit_or (n % 8) 0 ≡ n % 8 = or_comm (n % 8) 0 ∙ or_shifted 0 3 (n % 8) (omega arith) ∙ alone in
    let down : bit_or (ac / 8 * 8 + n % 8) 256 ≡ bit_or (ac / 8) 32 * 8 + bit_or (n % 8) 0 = or_block 3 (ac / 8) 32 (n % 8) 0 (omega arith) (omega arith) in
    ap (λ (x : ℕ). x * 8 + n % 8) up ∙ sym (down ∙ ap (λ (x : ℕ). bit_or (ac / 8) 32 * 8 + x) zero_or)

changes_change : (c d : Change) (ac : ℕ) → (is_code c ≡ true → is_code d ≡ true → ⊥) → changed d (changed c ac) ≡ changed c (changed d ac)
changes_change (Codes n) (Codes m) ac h = absurd (h refl refl)
changes_change (Codes n) Flags ac h = sym (flag_and_code ac n)
changes_change Flags (Codes m) ac h = flag_and_code ac m
changes_change _ _ ac h = refl

-- what a deed does beside registers it does before and behind another one, where one of them is quiet
quiet_change : {A : Type 0} (does : Deed → A → A) → ((d : Deed) (x : A) → IsQuiet d → does d x ≡ x) → (d e : Deed) (x : A) → IsQuiet d ⊎ IsQuiet e → does e (does d x) ≡ does d (does e x)
quiet_change does none d e x (inl q) = ap (does e) (none d x q) ∙ sym (none d (does e x) q)
quiet_change does none d e x (inr q) = none e (does d x) q ∙ sym (ap (does d) (none e x q))

abbrev pub in_port : List (ℕ × ℕ) → List (ℕ × ℕ)
in_port ps = filter (λ (p : ℕ × ℕ). in_port_page p.0) ps

deeds_change : (i j : Inst) (s : State) (d e : Deed) → AreBeside d e → changed e.change (changed d.change s.ac) ≡ changed d.change (changed e.change s.ac) → IsQuiet d ⊎ IsQuiet e
    → after_deed j (after_deed i s d) e ≡ after_deed i (after_deed j s e) d
deeds_change i j s d e beside ac one =
    let regs = registers_change s.regs d e beside in
    let marks = marks_change s.marks d e beside in
    let memory = quiet_change (λ c m. with_writes m c.writes) (λ c m q. quiet_memory m c q) d e s.memory one in
    let frames = quiet_change (λ c f. softened (wrote f c.writes) c.stale) (λ c f q. quiet_frames f c q) d e s.frames one in
    let ip : wrapped (wrapped (s.ip + 4 * words_of i) + 4 * words_of j) ≡ wrapped (wrapped (s.ip + 4 * words_of j) + 4 * words_of i) = omega arith in
    λ r. record s { regs = regs r; marks = marks r; ac = ac r; check = false; memory = memory r; frames = frames r; ip = ip r; count = s.count + 1 + 1 }

codes_written : (i : Inst) → writes_code i.op ≡ true → is_written i CONDITION_CODE ≡ true
codes_written i h = or_right _ _ (ap (λ (b : Bool). b && true) h)

pub port_by : (i : Inst) (s : State) (d : Deed) → action_of i s ≡ deed_action i s d → port_bytes i s ≡ in_port d.writes
port_by i s d e = ap (λ (a : Action). filter (λ (p : ℕ × ℕ). in_port_page p.0) a.writes) e

fate_after : (i j : Inst) (s : State) (d : Deed) → IsAllowed j → action_of i s ≡ deed_action i s d → (is_request_name i.op ≡ false → IsQuiet d) → (is_request_name i.op && is_request_name j.op) ≡ false → DoesSame j s (stepped i s)
    → Fate j s (stepped i s)
fate_after i j s d ok e quiet requests y =
    let step = stepped_by i s d e in
    subst (Fate j s) (sym step) (fate_of j s (after_deed i s d) ok (subst (DoesSame j s) step y) refl refl refl refl
    (λ r. sym (quiet_frames s.frames d (quiet (grind (arith, requests, r))))))

swapped : (a b : Bool) → (a && b) ≡ false → (b && a) ≡ false
swapped a b h = grind arith

one_quiet : (a b : Bool) (d e : Deed) → (a && b) ≡ false → (a ≡ false → IsQuiet d) → (b ≡ false → IsQuiet e) → IsQuiet d ⊎ IsQuiet e
one_quiet a b d e h p q = elim (and_cases a b h) [ inl none ↦ inl (p none) | inr none ↦ inr (q none) ]

are_beside : (i j : Inst) (s : State) (d e : Deed) → IsAllowed i → IsAllowed j → Spares i j → action_of i s ≡ deed_action i s d → action_of j s ≡ deed_action j s e → AreBeside d e
are_beside i j s d e p q spares x y k = elim (cases_Bool (is_written i k)) [
  | inl h ↦ let none = (spares k h).1 in inr (unset j s e k y none, unset_mark j s e k q y none)
  | inr none ↦ inl (unset i s d k x none, unset_mark i s d k p x none)
]

ports_change : (d e : Deed) (before behind first second rest : List (ℕ × ℕ)) → IsQuiet d ⊎ IsQuiet e → before ≡ in_port d.writes → behind ≡ in_port d.writes → first ≡ in_port e.writes → second ≡ in_port e.writes
    → first ++ (behind ++ rest) ≡ before ++ (second ++ rest)
ports_change d e before behind first second rest one h i j k = cc (quiet_change (λ c ps. in_port c.writes ++ ps) (λ c ps quiet. rw (quiet.writes) refl) d e rest one)

pub swap : (area : ℕ × ℕ) (i j : Inst) (is : List Inst) (s : State) → IsAllowed i → IsAllowed j → AreApart i j → ArePassed area (i ∷ j ∷ is) s → AreAsGood area (i ∷ j ∷ is) (j ∷ i ∷ is) s
swap area i j is s p q apart passed =
    let requests = swapped (is_request_name i.op) (is_request_name j.op) apart.requests in
    let x = does_same i s (stepped j s) p (agree_after j i s q p apart.second requests) in
    let y = does_same j s (stepped i s) q (agree_after i j s p q apart.first apart.requests) in
    let d = x.deed in
    let e = y.deed in
    let first_quiet = quiet_deed i s (stepped j s) x in
    let second_quiet = quiet_deed j s (stepped i s) y in
    let one = one_quiet _ _ d e apart.requests first_quiet second_quiet in
    let ac = changes_change d.change e.change s.ac
    (λ c g. both_ways (is_written j CONDITION_CODE) (apart.first CONDITION_CODE (codes_written i (x.coded c))).1 (codes_written j (y.coded g))) in
    let ij = stepped_by j (stepped i s) e y.there ∙ ap (λ (t : State). after_deed j t e) (stepped_by i s d x.here) in
    let ji = stepped_by i (stepped j s) d x.there ∙ ap (λ (t : State). after_deed i t d) (stepped_by j s e y.here) in
    let state = ji ∙ sym (deeds_change i j s d e (are_beside i j s d e p q apart.first x.here y.here) ac one) ∙ sym ij in
    let first = fate_after j i s e p y.here second_quiet requests x in
    let second = fate_after i j s d q x.here first_quiet apart.requests y in
    record {
      passed = (
        passes_by area j (stepped i s) s (fate_back j s (stepped i s) second) passed.1.0,
        (passes_by area i s (stepped j s) first passed.0, subst (ArePassed area is) (sym state) passed.1.1),
      );
      state = ap (behind is) state;
      port = ap (λ (t : State). port_bytes j s ++ (port_bytes i (stepped j s) ++ sent is t)) state
          ∙ ports_change d e _ _ _ _ (sent is (stepped j (stepped i s))) one (port_by i s d x.here) (port_by i (stepped j s) d x.there) (port_by j s e y.here) (port_by j (stepped i s) e y.there);
    }

-- ---- an order is reached by such changes

-- one comes to the front, past those that it is apart from
to_front : (area : ℕ × ℕ) (before : List Inst) (x : Inst) (rest : List Inst) (s : State) → AreAllowed (before ++ x ∷ rest) → AllByRecursion (λ i. AreApart i x) before → ArePassed area (before ++ x ∷ rest) s
    → AreAsGood area (before ++ x ∷ rest) (x ∷ (before ++ rest)) s
to_front area [] x rest s ok apart passed = record { passed = passed; state = refl; port = refl }
to_front area (i ∷ before) x rest s ok apart passed =
    let inner = to_front area before x rest (stepped i s) ok.1 apart.1 passed.1 in
    let parts = parts_of (λ j. is_allowed j ≡ true) before x rest ok.1 in
    let outer = swap area i x (before ++ rest) s (allowed_parts i ok.0) (allowed_parts x parts.1) apart.0 (passed.0, inner.passed) in
    record { passed = outer.passed; state = outer.state ∙ inner.state; port = outer.port ∙ ap (λ (ps : List (ℕ × ℕ)). port_bytes i s ++ ps) inner.port }

pub order_good : (area : ℕ × ℕ) (block order : List Inst) (s : State) → AreAllowed block → IsOrder block order → ArePassed area block s → AreAsGood area block order s
order_good area block [] s ok taken passed =
    subst (λ (is : List Inst). AreAsGood area is [] s) (sym taken) (record { passed = tt; state = refl; port = refl })
order_good area block (x ∷ order) s ok taken passed =
    let before = taken.0 in
    let rest = taken.1 in
    let ok_there = subst AreAllowed taken.2 ok in
    let first = to_front area before x rest s ok_there taken.3 (subst (λ (is : List Inst). ArePassed area is s) taken.2 passed) in
    let others = (parts_of (λ j. is_allowed j ≡ true) before x rest ok_there).2 in
    let later = order_good area (before ++ rest) order (stepped x s) others taken.4 first.passed.1 in
    subst (λ (is : List Inst). AreAsGood area is (x ∷ order) s) (sym taken.2) (record {
      passed = (first.passed.0, later.passed);
      state = later.state ∙ first.state;
      port = ap (λ (ps : List (ℕ × ℕ)). port_bytes x s ++ ps) later.port ∙ first.port;
    })
