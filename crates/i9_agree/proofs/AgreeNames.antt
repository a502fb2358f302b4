-- In states that agree each instruction that marks allow, and whose access meets no hazard, does what is alike.
use Rattle.std.proofs.Common.{◌≡◌, ℕ, Bool, true, false, cond, nat_lt, List, [], ◌∷◌, length, refl, sym, ap, ◌∙◌, subst, arith}
use Rattle.std.specs.Prelude.{◌==◌, ◌&&◌, ◌||◌, replicate}
use Rattle.std.specs.List.{list_any}
use Rattle.std.proofs.lemmas.Bool.Decides.{nat_tests}
use Rattle.i9_isa.specs.declared.op.Op.{Op}
use Rattle.i9_isa.specs.declared.op.Op.TheVariants.{Lda}
use Rattle.i9_isa.specs.declared.size.Size.{Size}
use Rattle.i9_isa.specs.declared.size.Direction.{Direction}
use Rattle.i9_isa.specs.declared.size.Direction.TheVariants.{Load, Store}
use Rattle.i9_isa.specs.declared.inst.Operand.{Operand}
use Rattle.i9_isa.specs.declared.inst.Inst.{Inst}
use Rattle.i9_isa.specs.Operands.{words_read, words_written}
use Rattle.i9_isa.specs.Table.{row_of}
use Rattle.i9_isa.specs.Keeping.{keeps_marks}
use Rattle.i9_model.specs.Writes.{wrapped, upwards}
use Rattle.i9_model.specs.Memory.{word_in, word_bytes}
use Rattle.i9_model.specs.State.{State, aligned}
use Rattle.i9_model.specs.Faults.{is_special}
use Rattle.i9_model.specs.Operands.{value, word_of, address}
use Rattle.i9_model.specs.Results.{results_by, destination_words}
use Rattle.i9_model.specs.Branches.{question_of, asks, code_after, is_taken}
use Rattle.i9_model.specs.Conditions.{code_of}
use Rattle.i9_model.specs.Step.{Action, passing, assigning, marking, answering, loaded, moving, atomic_address, atomic, branching, answer_in, destination, values_of, controls_of, resulting, other_action}
use Rattle.i9_model.specs.Stale.{picked, byte_marks, marks_of, word_mark, legible, loaded_marks, stored_marks, registers_of, sources, address_registers, is_marked, moves_words, result_marks, moved_marks}
use Rattle.i9_model.specs.Alike.{is_hard, AgreeWhere, shows, is_open, with_values, AgreeBeside, ReadAlike, AreValuesAlike, AreActionsAlike}
use Rattle.i9_model.proofs.Lengths.{four_bytes}
use Rattle.i9_agree.proofs.Agreeing.{shows-first, shows-second, values-marked, writes-picked}
use Rattle.i9_agree.proofs.AgreeMoves.{open-hard}
use Rattle.i9_agree.proofs.AgreeActions.{AreShown, shown-three, operand-same, value-same, address-same, legible-word, loaded-alike, alike-by, IsAllowed, assigning-alike, writing-alike, stored-alike-of}

-- these are other values that agree with a state
pub record AreOther (hides : Bool) (s : State) (r b h : ℕ → ℕ) : Type 0 where
  pub regs : AgreeBeside hides s r
  pub bytes : AgreeWhere (is_open hides s.frames) s.memory b
  pub reading : ReadAlike hides s h

pub hard-bytes : (hides : Bool) (s : State) (regs bytes reading : ℕ → ℕ) → AreOther hides s regs bytes reading → AgreeWhere (is_hard s.frames) s.memory bytes
hard-bytes hides s regs bytes reading same = λ x h. same.bytes x (open-hard hides s.frames x h)

-- controls that are the same on both sides
ac-alike : (hides : Bool) (a b : Action) (x y : ℕ) → y ≡ x → AreActionsAlike hides a b → AreActionsAlike hides (record a { ac = x }) (record b { ac = y })
ac-alike hides a b x y e alike = grind arith

-- ---- loads, stores and atomics

stored-marks : (size : Size) (s : State) (regs bytes reading : ℕ → ℕ) (o : Operand) → stored_marks size (with_values s regs bytes reading) o ≡ stored_marks size s o
stored-marks size s regs bytes reading o = grind arith

pub moving-agree : (hides : Bool) (d : Direction) (size : Size) (signed : Bool) (i : Inst) (s : State) (regs bytes reading : ℕ → ℕ) → AreOther hides s regs bytes reading
    → AreShown hides s (address_registers i.ea) → IsAllowed i.c (moved_marks d size i s) → AreActionsAlike hides (moving d size signed i s) (moving d size signed i (with_values s regs bytes reading))
moving-agree hides Load size signed i s regs bytes reading same shown allowed =
    let t = with_values s regs bytes reading in
    let loads = λ (a : ℕ). marking i.c (loaded_marks size s.frames.soft a) (assigning i.c (loaded size signed (legible t) a) (passing i s)) in
    subst (λ (a : ℕ). AreActionsAlike hides (moving Load size signed i s) (loads a)) (sym (address-same hides s regs bytes reading i.ea same.regs shown))
    (assigning-alike hides i.c (loaded_marks size s.frames.soft (address s i.ea)) (loaded size signed (legible s) (address s i.ea)) (loaded size signed (legible t) (address s i.ea)) (passing i s) allowed
    (loaded-alike hides size signed s regs bytes reading (address s i.ea) same.bytes same.reading) refl)
moving-agree hides Store size signed i s regs bytes reading same shown allowed =
    grind (arith, stored-marks, writes-picked, stored-alike-of, address-same)

pub atomic-agree : (hides : Bool) (i : Inst) (s : State) (regs bytes reading : ℕ → ℕ) (data_marked : Bool) (change other : ℕ → ℕ) → AreOther hides s regs bytes reading
    → AreShown hides s (registers_of i.a 1) → IsAllowed i.c (word_mark s.frames.soft (atomic_address i s) ∷ []) → (shows hides data_marked ≡ true → (old : ℕ) → other old ≡ change old)
    → AreActionsAlike hides (atomic i s data_marked change) (atomic i (with_values s regs bytes reading) data_marked other)
unfolding word_bytes
atomic-agree hides i s regs bytes reading data_marked change other same shown allowed changes =
    let t = with_values s regs bytes reading in
    let m = s.memory in
    let changed = λ (a : ℕ). record (marking i.c (word_mark s.frames.soft a ∷ []) (answering i s (word_in (legible t) a))) {
      writes = upwards a (word_bytes m a (other (word_in (legible t) a)));
      stale = picked wrapped a (byte_marks ((word_mark s.frames.soft a || data_marked) ∷ []));
    } in
    let a = atomic_address i s in
    let old = word_in (legible s) a in
    let new = word_in (legible t) a in
    let mark = word_mark s.frames.soft a in
    let word : shows hides mark ≡ true → new ≡ old = λ h. legible-word hides s regs bytes reading a same.bytes same.reading h in
    let here : AreActionsAlike hides (atomic i s data_marked change) (changed a) =
    writing-alike hides (marking i.c (mark ∷ []) (answering i s old)) (marking i.c (mark ∷ []) (answering i s new))
    (upwards a (word_bytes m a (change old))) (upwards a (word_bytes m a (other new))) (picked wrapped a (byte_marks ((mark || data_marked) ∷ [])))
    (assigning-alike hides i.c (mark ∷ []) (old ∷ []) (new ∷ []) (passing i s) allowed (word, tt) refl)
    (writes-picked hides wrapped a (byte_marks ((mark || data_marked) ∷ [])) (word_bytes m a (change old)) (word_bytes m a (other new))
    (values-marked hides (mark || data_marked) 4 (word_bytes m a (change old)) (word_bytes m a (other new)) (four_bytes m a (change old)) (four_bytes m a (other new))
    (λ h. ap (word_bytes m a) (changes (shows-second hides mark data_marked h) new ∙ ap change (word (shows-first hides mark data_marked h)))))) in
    subst (λ (b : ℕ). AreActionsAlike hides (atomic i s data_marked change) (changed b)) (sym (ap aligned (value-same hides s regs bytes reading i.a same.regs shown))) here

-- ---- results go by the operands of their row alone

abbrev pub used : ℕ → ℕ → ℕ → ℕ
used n k v = cond (nat_lt k n) v 0

results-used : (op : Op) (a0 a1 a2 a3 b0 b1 c ac : ℕ)
    → results_by op (used (words_read (row_of op).a) 0 a0 ∷ used (words_read (row_of op).a) 1 a1 ∷ used (words_read (row_of op).a) 2 a2 ∷ used (words_read (row_of op).a) 3 a3 ∷ [])
    (used (words_read (row_of op).b) 0 b0 ∷ used (words_read (row_of op).b) 1 b1 ∷ []) (used (words_read (row_of op).c) 0 c) ac
    ≡ results_by op (a0 ∷ a1 ∷ a2 ∷ a3 ∷ []) (b0 ∷ b1 ∷ []) c ac
results-used op a0 a1 a2 a3 b0 b1 c ac = grind arith

used-same : (hides : Bool) (s : State) (regs bytes reading : ℕ → ℕ) (o : Operand) (n k : ℕ) → AgreeBeside hides s regs → AreShown hides s (registers_of o n) → used n k (word_of (with_values s regs bytes reading) o k) ≡ used n k (word_of s o k)
used-same hides s regs bytes reading o n k same shown = grind (arith, operand-same, nat_tests)

pub answer-same : (hides : Bool) (i : Inst) (s : State) (regs bytes reading : ℕ → ℕ) → AgreeBeside hides s regs → AreShown hides s (sources i) → answer_in i (with_values s regs bytes reading) ≡ answer_in i s
answer-same hides i s regs bytes reading same shown =
    let t = with_values s regs bytes reading in
    let na = words_read (row_of i.op).a in
    let nb = words_read (row_of i.op).b in
    let nc = words_read (row_of i.op).c in
    let all = shown-three hides s (registers_of i.a na) (registers_of i.b nb) (registers_of i.c nc) shown in
    let a : (k : ℕ) → used na k (word_of t i.a k) ≡ used na k (word_of s i.a k) = λ k. used-same hides s regs bytes reading i.a na k same all.0 in
    let b : (k : ℕ) → used nb k (word_of t i.b k) ≡ used nb k (word_of s i.b k) = λ k. used-same hides s regs bytes reading i.b nb k same all.1 in
    sym (results-used i.op (word_of t i.a 0) (word_of t i.a 1) (word_of t i.a 2) (word_of t i.a 3) (word_of t i.b 0) (word_of t i.b 1) (word_of t i.c 0) s.ac)
    ∙ rw (a 0, a 1, a 2, a 3, b 0, b 1, used-same hides s regs bytes reading i.c nc 0 same all.2) refl
    ∙ results-used i.op (word_of s i.a 0) (word_of s i.a 1) (word_of s i.a 2) (word_of s i.a 3) (word_of s i.b 0) (word_of s i.b 1) (word_of s i.c 0) s.ac

-- ---- questions too

abbrev asked_of : Op → ℕ → ℕ → ℕ
asked_of op n v = cond (asks (question_of op)) (used n 0 v) 0

after-used : (op : Op) (a b code : ℕ) → code_after (question_of op) (asked_of op (words_read (row_of op).a) a) (asked_of op (words_read (row_of op).b) b) code ≡ code_after (question_of op) a b code
after-used op a b code = grind arith

-- of a name that asks something the sources are shown
abbrev pub AsksShown : Bool → Inst → State → Type 0
AsksShown hides i s = asks (question_of i.op) ≡ true → AreShown hides s (sources i)

asked-same : (hides : Bool) (i : Inst) (s : State) (regs bytes reading : ℕ → ℕ) → AgreeBeside hides s regs → AsksShown hides i s
    → (asked_of i.op (words_read (row_of i.op).a) (value (with_values s regs bytes reading) i.a) ≡ asked_of i.op (words_read (row_of i.op).a) (value s i.a))
    × (asked_of i.op (words_read (row_of i.op).b) (value (with_values s regs bytes reading) i.b) ≡ asked_of i.op (words_read (row_of i.op).b) (value s i.b))
asked-same hides i s regs bytes reading same shown = grind (arith, shown-three, operand-same, nat_tests)

pub taken-same : (hides : Bool) (i : Inst) (s : State) (regs bytes reading : ℕ → ℕ) → AgreeBeside hides s regs → AsksShown hides i s
    → is_taken i (value (with_values s regs bytes reading) i.a) (value (with_values s regs bytes reading) i.b) s.ac ≡ is_taken i (value s i.a) (value s i.b) s.ac
taken-same hides i s regs bytes reading same shown = grind arith

branching-same : (hides : Bool) (i : Inst) (s : State) (regs bytes reading : ℕ → ℕ) → AgreeBeside hides s regs → AsksShown hides i s → branching i (with_values s regs bytes reading) ≡ branching i s
branching-same hides i s regs bytes reading same shown =
    let t = with_values s regs bytes reading in
    let e = asked-same hides i s regs bytes reading same shown in
    let code = code_of s.ac in
    let q = question_of i.op in
    let after : code_after q (value t i.a) (value t i.b) code ≡ code_after q (value s i.a) (value s i.b) code =
    sym (after-used i.op (value t i.a) (value t i.b) code) ∙ rw (e.0, e.1) (after-used i.op (value s i.a) (value s i.b) code) in
    rw (after, taken-same hides i s regs bytes reading same shown) refl

-- ---- names that keep marks

abbrev pub is_lda : Op → Bool
is_lda Lda = true
is_lda _ = false

pub keeps-asks : (op : Op) → cond (keeps_marks op) (asks (question_of op)) false ≡ false
keeps-asks op = grind arith

keeps-here : (op : Op) → cond (keeps_marks op) (words_written (row_of op).a) 0 ≡ 0
keeps-here op = grind arith

keeps-count : (op : Op) (a0 a1 a2 a3 b0 b1 c ac : ℕ) → cond (is_lda op) 0 (cond (keeps_marks op) (length (values_of (results_by op (a0 ∷ a1 ∷ a2 ∷ a3 ∷ []) (b0 ∷ b1 ∷ []) c ac))) 0) ≡ cond (is_lda op) 0 (cond (keeps_marks op) (destination_words op) 0)
keeps-count op a0 a1 a2 a3 b0 b1 c ac = grind arith

keeps-controls : (op : Op) (a0 a1 a2 a3 b0 b1 c ac : ℕ) → cond (keeps_marks op) (controls_of (results_by op (a0 ∷ a1 ∷ a2 ∷ a3 ∷ []) (b0 ∷ b1 ∷ []) c ac) ac) ac ≡ ac
keeps-controls op a0 a1 a2 a3 b0 b1 c ac = grind arith

-- where marks are hidden, no value needs to be the same
hidden-values : (n : ℕ) (b : Bool) (vs ws : List ℕ) → b ≡ true → length vs ≡ n → length ws ≡ n → AreValuesAlike true (replicate n b) vs ws
hidden-values n b vs ws e long too = values-marked true b n vs ws long too (λ h. absurd (grind arith))

-- a result, or what else its row says
resulting-agree : (hides : Bool) (i : Inst) (s : State) (regs bytes reading : ℕ → ℕ) → AgreeBeside hides s regs → is_lda i.op ≡ false → moves_words i.op ≡ false
    → is_marked s (cond (keeps_marks i.op) [] (sources i)) ≡ false → (is_special i.c && list_any (λ b. b) (result_marks i s)) ≡ false
    → AreActionsAlike hides (resulting i s (answer_in i s)) (resulting i (with_values s regs bytes reading) (answer_in i (with_values s regs bytes reading)))
resulting-agree hides i s regs bytes reading same other plain none allowed = by_shown (shows hides (is_marked s (sources i))) refl
  where
    t : State
    t = with_values s regs bytes reading

    marked_keeps : (k m : Bool) (rs : List ℕ) → is_marked s rs ≡ m → m ≡ true → is_marked s (cond k [] rs) ≡ false → k ≡ true
    marked_keeps true m rs e d h = refl
    marked_keeps false m rs e d h = cc

    hidden : (h m : Bool) → shows h m ≡ false → (h ≡ true) × (m ≡ true)
    hidden h m e = grind arith

    counts : (u : State) → keeps_marks i.op ≡ true → length (values_of (answer_in i u)) ≡ destination_words i.op
    counts u keeps = rw (other, keeps) at (keeps-count i.op (word_of u i.a 0) (word_of u i.a 1) (word_of u i.a 2) (word_of u i.a 3) (word_of u i.b 0) (word_of u i.b 1) (word_of u i.c 0) u.ac)

    controls : (u : State) → keeps_marks i.op ≡ true → controls_of (answer_in i u) u.ac ≡ u.ac
    controls u keeps = rw keeps at (keeps-controls i.op (word_of u i.a 0) (word_of u i.a 1) (word_of u i.a 2) (word_of u i.a 3) (word_of u i.b 0) (word_of u i.b 1) (word_of u i.c 0) u.ac)

    here : keeps_marks i.op ≡ true → destination i ≡ i.c
    here keeps = ap (λ (n : ℕ). cond (n == 0) i.c i.a) (rw keeps at (keeps-here i.op))

    marks : result_marks i s ≡ replicate (destination_words i.op) (is_marked s (sources i))
    marks = ap (λ (b : Bool). cond b (marks_of s i.a (destination_words i.op)) (replicate (destination_words i.op) (is_marked s (sources i)))) plain

    keeps-agree : hides ≡ true → is_marked s (sources i) ≡ true → keeps_marks i.op ≡ true → AreActionsAlike hides (resulting i s (answer_in i s)) (resulting i t (answer_in i t))
    keeps-agree hiding marked keeps =
        let vs = values_of (answer_in i s) in
        let ws = values_of (answer_in i t) in
        let n = destination_words i.op in
        let values : AreValuesAlike hides (result_marks i s) vs ws =
        rw (marks, hiding) (hidden-values n (is_marked s (sources i)) vs ws marked (counts s keeps) (counts t keeps)) in
        let fits : IsAllowed (destination i) (result_marks i s) = ap (λ (o : Operand). is_special o && list_any (λ (b : Bool). b) (result_marks i s)) (here keeps) ∙ allowed in
        ac-alike hides (marking (destination i) (result_marks i s) (assigning (destination i) vs (passing i s))) (marking (destination i) (result_marks i s) (assigning (destination i) ws (passing i s)))
        (controls_of (answer_in i s) s.ac) (controls_of (answer_in i t) s.ac) (controls t keeps ∙ sym (controls s keeps))
        (assigning-alike hides (destination i) (result_marks i s) vs ws (passing i s) fits values refl)

    by_shown : (b : Bool) → shows hides (is_marked s (sources i)) ≡ b → AreActionsAlike hides (resulting i s (answer_in i s)) (resulting i t (answer_in i t))
    by_shown true e = alike-by hides (resulting i s (answer_in i s)) (resulting i t (answer_in i t)) refl (ap (resulting i t) (answer-same hides i s regs bytes reading same e))
    by_shown false e =
        let h = hidden hides (is_marked s (sources i)) e in
        keeps-agree h.0 h.1 (marked_keeps (keeps_marks i.op) (is_marked s (sources i)) (sources i) refl h.1 none)

-- a branch, or a result
asks-sources : (hides : Bool) (i : Inst) (s : State) → is_marked s (cond (keeps_marks i.op) [] (sources i)) ≡ false → AsksShown hides i s
asks-sources hides i s none asked = grind arith

pub other-agree : (hides : Bool) (i : Inst) (s : State) (regs bytes reading : ℕ → ℕ) → AgreeBeside hides s regs → is_lda i.op ≡ false → moves_words i.op ≡ false
    → is_marked s (cond (keeps_marks i.op) [] (sources i)) ≡ false → (is_special i.c && list_any (λ b. b) (result_marks i s)) ≡ false
    → AreActionsAlike hides (other_action i.op i s) (other_action i.op i (with_values s regs bytes reading))
other-agree hides i s regs bytes reading same other plain none allowed = by_asks (asks (question_of i.op)) refl
  where
    t : State
    t = with_values s regs bytes reading

    by_asks : (b : Bool) → asks (question_of i.op) ≡ b → AreActionsAlike hides (cond b (branching i s) (resulting i s (answer_in i s))) (cond b (branching i t) (resulting i t (answer_in i t)))
    by_asks true e = alike-by hides (branching i s) (branching i t) refl (branching-same hides i s regs bytes reading same (asks-sources hides i s none))
    by_asks false e = resulting-agree hides i s regs bytes reading same other plain none allowed
