-- Along every run controls keep to their masks, and the instruction address is a multiple of 4.
use Rattle.std.proofs.Common.{◌≡◌, ℕ, ◌+◌, ◌*◌, ◌/◌, ◌%◌, ◌^◌, Bool, true, false, cond, eqb, List, [], ◌∷◌, Option, Some, None, Ok, refl, sym, ap, ◌∙◌, subst, arith, rules, bit_and, bit_or, ℤ}
use Rattle.std.specs.List.{AllByRecursion}
use Rattle.std.specs.Prelude.{map, filter, IfSome, ◌++◌, ◌&&◌, not, slice_index, ◌==◌}
use Rattle.std.specs.Int.{bit_at}
use Rattle.std.specs.Int.RustNames.{int_div}
use Rattle.std.proofs.lemmas.Nat.{and_assoc, and_comm, and_mod, and_mask, and_shr}
use Rattle.std.proofs.lemmas.Nat.Bits.{bit_at_and, bit_at_or, same_from_bits}
use Rattle.i9_isa.specs.declared.op.Op.{Op}
use Rattle.i9_isa.specs.declared.op.Op.TheVariants.{Ret, Modac, Modtc, Modpc, Divi}
use Rattle.i9_isa.specs.declared.size.Size.{Size}
use Rattle.i9_isa.specs.declared.size.Direction.{Direction}
use Rattle.i9_isa.specs.declared.size.Direction.TheVariants.{Load, Store}
use Rattle.i9_isa.specs.declared.size.Transfer.{Transfer}
use Rattle.i9_isa.specs.declared.inst.Inst.{Inst}
use Rattle.i9_isa.specs.Transfers.{transfer_of}
use Rattle.i9_isa.specs.Words.{words_of}
use Rattle.i9_model.specs.declared.layout.TheConstants.{AC_MASK, PC_MASK, TC_MASK, PFP, FP}
use Rattle.i9_model.specs.declared.arith.Arith.TheVariants.{Overflow, ZeroDivide}
use Rattle.i9_model.specs.declared.calls.Sys.{Sys}
use Rattle.i9_model.specs.declared.faults.Fault.{Fault}
use Rattle.i9_model.specs.declared.faults.Entry.{Entry}
use Rattle.i9_model.specs.declared.faults.TheConstants.{TRACE_MASK}
use Rattle.i9_model.specs.Writes.{wrapped, aligned}
use Rattle.i9_model.specs.Memory.{Memory, word_in}
use Rattle.i9_model.specs.State.{State, started, boot}
use Rattle.i9_model.specs.Numbers.{signed, complement}
use Rattle.i9_model.specs.Conditions.{with_code, code_of}
use Rattle.i9_model.specs.Operands.{value}
use Rattle.i9_model.specs.Results.{Answer, word, words, code, checked, faulting, found, results_by}
use Rattle.i9_model.specs.Branches.{question_of, code_after, is_taken}
use Rattle.i9_model.specs.Boot.{setup_of, boot_setup}
use Rattle.i9_model.specs.Calls.{in_supervisor_mode, takes_record, leaves_supervisor, with_supervisor, without_supervisor, saved_pc, saved_ac, return_type, popped}
use Rattle.i9_model.specs.Tables.{group_words}
use Rattle.i9_model.specs.Controls.{Control, KeepsControls, Restarts, LoadsGroup, controlled}
use Rattle.i9_model.specs.Step.{Action, going, following, branching, resulting, controls_of, answer_in, moving, action_by_name, action_by, action_of, Message, AsksNothing, message_action, system_call, calls_action, entering, moved, flagged, acted}
use Rattle.i9_model.specs.declared.run.Due.{Due}
use Rattle.i9_model.specs.declared.interrupts.Chosen.{Chosen}
use Rattle.i9_model.specs.declared.event.Event.{Event}
use Rattle.i9_model.specs.Before.{choice_in, interrupt_in, interrupting}
use Rattle.i9_model.specs.declared.setup.Breaks.{Breaks}
use Rattle.i9_model.specs.declared.trace.Seen.{Seen}
use Rattle.i9_model.specs.declared.trace.Trace.{Trace}
use Rattle.i9_model.specs.Requests.{with_bit}
use Rattle.i9_model.specs.Tracing.{with_bits, breakpoints, break_flag_of, matches, has_match, break_flags, has_mode, comes_with, trace_events, flag_of, event_flags, is_raised, trace_made, trace_of}
use Rattle.i9_model.specs.Traced.{is_traced, seen_of}
use Rattle.i9_past.proofs.Untraced.{action_untraced}
use Rattle.i9_model.specs.Run.{Given, Record, Kind, Instruction, Faulted, Entered, Interrupted, Reached, action_by_kind, due_after, event_after, state_after, IsPast, entry_in, faulted_words}
use Rattle.i9_model.proofs.ControlLaws.{by_group}
use Rattle.i9_past.proofs.Comes.{MayCome, next_comes}
use Rattle.i9_model.proofs.KeptBits.{masked, same_above}
use Rattle.i9_laws.specs.Kept.{IsWithin}
use Rattle.i9_laws.proofs.StoredWords.{all_append}
use Rattle.i9_laws.proofs.Entered.{call_by, entry_by, interrupt_made}
use Rattle.i9_laws.proofs.Vectors.{vector_small, interrupt_kept}

-- ---- masks

-- a word that is masked once more has no other bits
pub masked_more : (mask w n : ℕ) → IsWithin mask w → IsWithin mask (bit_and w n)
masked_more mask w n h = and_assoc mask w n ∙ ap (bit_and w) (and_comm n mask) ∙ sym (and_assoc n w mask) ∙ ap (λ (x : ℕ). bit_and x n) h

-- two such words joined
pub masked_or : (mask w x : ℕ) → IsWithin mask w → IsWithin mask x → IsWithin mask (bit_or w x)
masked_or mask w x h k = same_from_bits (bit_and (bit_or w x) mask) (bit_or w x) (λ i.
    let p = sym (bit_at_and w mask i) ∙ ap (λ (n : ℕ). bit_at n i) h in
    let q = sym (bit_at_and x mask i) ∙ ap (λ (n : ℕ). bit_at n i) k in
    let r = bit_at_or w x i in
    let a = bit_at_and (bit_or w x) mask i in
    omega (arith, p, q, r, a))

-- the mask of the arithmetic controls has the condition code
coded : (ac new : ℕ) → IsWithin AC_MASK ac → IsWithin AC_MASK (with_code ac new)
coded ac new h =
    let x = with_code ac new in
    let e : x / 8 ≡ ac / 8 = omega arith in
    let high : bit_and x AC_MASK / 8 ≡ x / 8 =
    and_shr x AC_MASK 3 ∙ ap (λ (n : ℕ). bit_and n (AC_MASK / 8)) e ∙ sym (and_shr ac AC_MASK 3) ∙ ap (λ (n : ℕ). n / 8) h ∙ sym e in
    let low : bit_and x AC_MASK % 8 ≡ x % 8 = and_mod x AC_MASK 3 ∙ and_mask (x % 8) 3 ∙ omega arith in
    omega arith

-- ---- arithmetic controls

overflow_kept : (b c : Bool) (v ac : ℕ) → IsWithin AC_MASK ac
    → IsWithin AC_MASK (cond b (cond c (word v (bit_or ac (2 ^ 8))) (faulting Overflow ac)) (word v ac)).controls
overflow_kept b c v ac h = grind (arith, masked_or AC_MASK ac (2 ^ 8) h refl, h)

checked_kept : (z : ℤ) (ac : ℕ) → IsWithin AC_MASK ac → IsWithin AC_MASK (checked z ac).controls
checked_kept z ac h = overflow_kept _ _ _ ac h

divided_kept : (b : Bool) (r : Answer) (ac : ℕ) → IsWithin AC_MASK ac → IsWithin AC_MASK r.controls
    → IsWithin AC_MASK (cond b (faulting ZeroDivide ac) r).controls
divided_kept b r ac h k = grind (arith, h, k)

found_kept : (o : Option ℕ) (ac : ℕ) → IsWithin AC_MASK ac → IsWithin AC_MASK (found o ac).controls
found_kept None ac h = coded ac 0 h
found_kept (Some p) ac h = coded ac 2 h

unless_kept : (b : Bool) (new ac : ℕ) → IsWithin AC_MASK ac → IsWithin AC_MASK (cond b (words [] ac) (code new ac)).controls
unless_kept b new ac h = grind (arith, h, coded)

ruleset answer_rules = (coded, found_kept, unless_kept, checked_kept, divided_kept)

result_kept : (op : Op) (a b : List ℕ) (c ac : ℕ) → IsWithin AC_MASK ac → IsWithin AC_MASK (controls_of (results_by op a b c ac) ac)
result_kept Divi a b c ac h =
    let z = int_div (signed (slice_index b 0)) (signed (slice_index a 0)) in
    divided_kept (slice_index a 0 == 0) (checked z ac) ac h (checked_kept z ac h)
result_kept _ a b c ac h = search (rules, answer_rules)

-- ---- what an action leaves

-- arithmetic, process and trace controls within their masks, and an instruction address
pub record AreKept (a p t n : ℕ) : Type 0 where
  pub ac : IsWithin AC_MASK a
  pub pc : IsWithin PC_MASK p
  pub tc : IsWithin TC_MASK t
  pub ip : n % 4 ≡ 0

abbrev pub IsKept : State → Type 0
IsKept s = AreKept s.ac s.pc s.trace.tc s.ip

abbrev Keeps : Action → Type 0
Keeps a = AreKept a.ac a.pc a.tc a.next

-- control goes to another address
going_kept : (s : State) (to : ℕ) → IsKept s → to % 4 ≡ 0 → Keeps (going s to)
going_kept s to h e = record { ac = h.ac; pc = h.pc; tc = h.tc; ip = e }

pub following_even : (s : State) (words : ℕ) → IsKept s → wrapped (s.ip + 4 * words) % 4 ≡ 0
following_even s words h = let e = h.ip in omega (arith, e)

aligned_even : (a : ℕ) → aligned a % 4 ≡ 0
aligned_even a = omega arith

passing_kept : (s : State) (i : Inst) → IsKept s → Keeps (going s (following i s))
passing_kept s i h = going_kept s (following i s) h (following_even s (words_of i) h)

jumping_kept : (s : State) (to : ℕ) → IsKept s → Keeps (going s (aligned to))
jumping_kept s to h = going_kept s (aligned to) h (aligned_even to)

branched_even : (b : Bool) (x y : ℕ) → x % 4 ≡ 0 → y % 4 ≡ 0 → cond b x y % 4 ≡ 0
branched_even b x y h k = grind (arith, h, k)

other_kept : (b : Bool) (i : Inst) (s : State) → IsKept s → Keeps (cond b (branching i s) (resulting i s (answer_in i s)))
other_kept true i s h = record {
  ac = coded s.ac (code_after (question_of i.op) (value s i.a) (value s i.b) (code_of s.ac)) h.ac;
  pc = h.pc;
  tc = h.tc;
  ip = branched_even (is_taken i (value s i.a) (value s i.b) s.ac) _ _ (aligned_even _) (following_even s (words_of i) h);
}
other_kept false i s h = record { ac = result_kept i.op _ _ _ s.ac h.ac; pc = h.pc; tc = h.tc; ip = following_even s (words_of i) h }

-- ---- calls and returns

supervisor_kept : (pc trace : ℕ) → IsWithin PC_MASK pc → IsWithin PC_MASK (with_supervisor pc (trace % 2))
supervisor_kept pc trace h = same_above pc (with_supervisor pc (trace % 2)) (omega arith) h

calls_kept : (i : Inst) (s : State) → IsKept s → Keeps (calls_action i s)
calls_kept i s h = record { ac = h.ac; pc = both.0; tc = h.tc; ip = both.1 }
  where
    both : IsWithin PC_MASK (system_call i s).pc × ((system_call i s).target % 4 ≡ 0)
    both = call_by (λ (x : Sys). IsWithin PC_MASK x.pc × (x.target % 4 ≡ 0)) i s (record {
      switched = λ x y. (supervisor_kept s.pc (word_in s.memory y) h.pc, aligned_even (word_in s.memory x));
      here = λ x. (h.pc, aligned_even (word_in s.memory x));
    })

returned_kept : (user takes leaves : Bool) (m : Memory) (kind fp pc : ℕ) → IsWithin PC_MASK pc
    → IsWithin PC_MASK (cond user pc (cond takes (bit_and (saved_pc m fp) PC_MASK) (cond leaves (without_supervisor pc (kind % 2)) pc)))
returned_kept user takes leaves m kind fp pc h =
    grind (arith, h, masked, same_above pc (without_supervisor pc (kind % 2)) (omega arith) h)

read_kept : (b : Bool) (w ac : ℕ) → IsWithin AC_MASK ac → IsWithin AC_MASK (cond b (bit_and w AC_MASK) ac)
read_kept b w ac h = grind (arith, masked, h)

-- ---- an instruction

message_kept : (m : Message) (i : Inst) (s : State) → IsKept s → Keeps (message_action m i s)
message_kept AsksNothing i s h = passing_kept s i h
message_kept _ i s h = passing_kept s i h

ruleset action_rules = (passing_kept, jumping_kept, calls_kept, message_kept, other_kept)

name_kept : (op : Op) (i : Inst) (s : State) → IsKept s → Keeps (action_by_name op i s)
unfolding popped
name_kept Ret i s h =
    let kind = return_type (s.regs PFP) in
    let fp = s.regs FP in record {
      ac = read_kept (takes_record kind) (saved_ac s.memory fp) s.ac h.ac;
      pc = returned_kept (not (in_supervisor_mode s.pc)) (takes_record kind) (leaves_supervisor kind) s.memory kind fp s.pc h.pc;
      tc = h.tc;
      ip = aligned_even _;
    }
name_kept Modac i s h = record { ac = masked AC_MASK _; pc = h.pc; tc = h.tc; ip = following_even s (words_of i) h }
name_kept Modtc i s h = record { ac = h.ac; pc = h.pc; tc = masked TC_MASK _; ip = following_even s (words_of i) h }
name_kept Modpc i s h = record { ac = h.ac; pc = masked PC_MASK _; tc = h.tc; ip = following_even s (words_of i) h }
name_kept _ i s h = search (rules, action_rules)

moving_kept : (d : Direction) (size : Size) (signed : Bool) (i : Inst) (s : State) → IsKept s → Keeps (moving d size signed i s)
moving_kept Load size signed i s h = passing_kept s i h
moving_kept Store size signed i s h = passing_kept s i h

instruction_kept : (i : Inst) (s : State) → IsKept s → Keeps (action_of i s)
unfolding action_of
instruction_kept i s h = by_transfer (transfer_of i.op)
  where
    by_transfer : (o : Option Transfer) → Keeps (action_by o i s)
    by_transfer (Some t) = moving_kept t.direction t.size t.signed i s h
    by_transfer None = name_kept i.op i s h

-- ---- what comes next

entering_kept : (s : State) (fault : Fault) (e : Entry) → IsKept s → entry_in s fault ≡ Ok e → Keeps (entering e s)
entering_kept s fault e h ok =
    let made = entry_by (λ (x : Sys). IsWithin PC_MASK x.pc × (x.target % 4 ≡ 0)) s fault e (record {
      switched = λ x y. (supervisor_kept s.pc (word_in s.memory y) h.pc, aligned_even (word_in s.memory x));
      here = λ x. (h.pc, aligned_even (word_in s.memory x));
    }) ok in
    let pc = masked_more PC_MASK made.0.pc (complement TRACE_MASK) made.1.0 in
    subst (λ (x : Entry). Keeps (entering x s)) made.2 (record { ac = h.ac; pc = pc; tc = h.tc; ip = made.1.1 })

interrupting_kept : (s : State) (c : Chosen) (e : Entry) → IsKept s → choice_in s ≡ Ok (Some c) → interrupt_in s c ≡ Ok e
    → Keeps (interrupting c e s)
interrupting_kept s c e h chosen ok =
    let pc = interrupt_kept c.vector (vector_small s c chosen) in
    subst (λ (x : Entry). Keeps (interrupting c x s)) (interrupt_made s c e ok).0 (record { ac = h.ac; pc = pc; tc = h.tc; ip = aligned_even _ })

kind_kept : (limit : ℕ) (due : Due) (stands : Option Event) (k : Kind) (s : State) → MayCome limit due stands s k → IsKept s
    → Keeps (action_by_kind k s)
kind_kept limit due stands (Instruction i) s may h = instruction_kept i s h
kind_kept limit due stands (Faulted inst fault) s may h =
    let words = faulted_words inst in
    going_kept s (wrapped (s.ip + 4 * words)) h (following_even s words h)
kind_kept limit due stands (Entered e) s may h = entering_kept s may.0 e h may.2
kind_kept limit due stands (Interrupted c e) s may h = interrupting_kept s c e h may.2 may.3
kind_kept limit due stands (Reached e u) s may h = h

-- ---- the state after it

group_kept : (a b c : Bool) (s : State) (group : ℕ) (ws : List ℕ) → IsKept s → IsKept (by_group a b c s group ws)
group_kept true b c s group ws h = h
group_kept false true c s group ws h = h
group_kept false false true s group ws h = record { ac = h.ac; pc = h.pc; tc = masked TC_MASK (slice_index ws 2); ip = h.ip }
group_kept false false false s group ws h = h

controlled_kept : (s : State) (c : Control) → IsKept s → IsKept (controlled s c)
unfolding started setup_of
controlled_kept s KeepsControls h = h
controlled_kept s (Restarts first prcb) h = record { ac = masked AC_MASK _; pc = refl; tc = masked TC_MASK _; ip = aligned_even _ }
controlled_kept s (LoadsGroup group) h =
    group_kept (eqb group 0) (eqb group 1) (eqb group 6) s group (group_words s.memory s.tables.control_table group) h

-- the trace controls with flags, where some are set
abbrev FlagsKept : Option Trace → Type 0
FlagsKept o = IfSome o (λ t. IsWithin TC_MASK t.tc)

flagged_kept : (o : Option Trace) (s : State) → FlagsKept o → IsKept s → IsKept (flagged o s)
flagged_kept None s flags h = h
flagged_kept (Some t) s flags h = record { ac = h.ac; pc = h.pc; tc = flags; ip = h.ip }

acted_kept : (s : State) (a : Action) → FlagsKept a.trace → Keeps a → IsKept (acted s a)
unfolding acted moved
acted_kept s a flags h =
    flagged_kept a.trace (controlled (moved s a) a.control) flags
    (controlled_kept (moved s a) a.control h)

-- ---- the flags of trace events

flags_kept : (w : ℕ) (ks : List ℕ) → IsWithin TC_MASK w → AllByRecursion (λ k. IsWithin TC_MASK (2 ^ k)) ks → IsWithin TC_MASK (with_bits w ks)
flags_kept w [] h all = h
flags_kept w (k ∷ ks) h all = flags_kept (with_bit w k) ks (masked_or TC_MASK w (2 ^ k) h all.0) all.1

-- the places of those that pass a test
picked_kept : {A : Type 0} (place : A → ℕ) (p : A → Bool) (xs : List A) → AllByRecursion (λ x. IsWithin TC_MASK (2 ^ place x)) xs
    → AllByRecursion (λ k. IsWithin TC_MASK (2 ^ k)) (map place (filter p xs))
picked_kept place p [] all = tt
picked_kept place p (x ∷ xs) all = by_test (p x) (picked_kept place p xs all.1)
  where
    by_test : (b : Bool) → AllByRecursion (λ k. IsWithin TC_MASK (2 ^ k)) (map place (filter p xs))
        → AllByRecursion (λ k. IsWithin TC_MASK (2 ^ k)) (map place (cond b (x ∷ filter p xs) (filter p xs)))
    by_test true rest = (all.0, rest)
    by_test false rest = rest

made_kept : (tc : ℕ) (i : Inst) (seen : Seen) (b : Breaks) → IsWithin TC_MASK tc → IsWithin TC_MASK (trace_made tc i seen b).tc
unfolding trace_made event_flags break_flags
made_kept tc i seen b h =
    let events = event_flags tc i.op seen (has_match seen b) in
    let breaks = break_flags seen b in
    flags_kept tc (events ++ breaks) h
    (all_append (λ k. IsWithin TC_MASK (2 ^ k)) events breaks
    (picked_kept flag_of (λ e. comes_with i.op seen (has_match seen b) e && has_mode tc e) trace_events (refl, (refl, (refl, (refl, (refl, (refl, (refl, tt))))))))
    (picked_kept break_flag_of (matches seen b) breakpoints (refl, (refl, (refl, (refl, tt))))))

trace_kept : (b : Bool) (t : Trace) → IsWithin TC_MASK t.tc → FlagsKept (cond b (Some t) None)
trace_kept true t h = h
trace_kept false t h = tt

kind_flags : (k : Kind) (s : State) → Keeps (action_by_kind k s) → FlagsKept (action_by_kind k s).trace
unfolding trace_of
kind_flags (Instruction i) s h =
    let a = action_of i s in
    let left = (acted s a).trace in
    let after = acted_kept s a (subst FlagsKept (sym (action_untraced i s)) tt) h in
    let seen = seen_of i s a in
    trace_kept (is_traced s && is_raised left.tc i seen left.breaks) (trace_made left.tc i seen left.breaks)
    (made_kept left.tc i seen left.breaks after.tc)
kind_flags _ s h = tt

-- ---- a run

boot_kept : (image : List (ℕ × ℕ)) → IsKept (boot image)
unfolding boot started boot_setup setup_of
boot_kept image = record { ac = masked AC_MASK _; pc = refl; tc = masked TC_MASK _; ip = aligned_even _ }

pub kept_after : (g : Given) (rs : List Record) → IsPast g rs → IsKept (state_after g rs)
kept_after g [] past = boot_kept g.image
kept_after g (r ∷ rs) past =
    let s = state_after g rs in
    let comes = next_comes g.length (due_after rs) (event_after g rs) s r past.1 in
    let keeps = kind_kept g.length (due_after rs) (event_after g rs) r.kind s comes.1 (kept_after g rs past.0) in
    subst (λ (q : Record). IsKept q.after) (sym comes.0) (acted_kept s (action_by_kind r.kind s) (kind_flags r.kind s keeps) keeps)
