-- What an allowed instruction does depends on what it reads alone.
use Rattle.std.proofs.Common.{◌≡◌, ℕ, ◌+◌, ◌*◌, ◌%◌, ◌^◌, ◌<◌, Bool, true, false, cond, ◌||◌, ◌&&◌, List, [], ◌∷◌, length, Option, Some, None, refl, sym, ap, ◌∙◌, arith}
use Rattle.std.specs.Prelude.{◌==◌, nat_le, replicate}
use Rattle.std.proofs.lemmas.Bool.{or_left, or_right, or_parts, both_ways, eq-eqb, eqb-true, cond-true, cond_both, and_from, and_parts, not-true}
use Rattle.std.proofs.lemmas.Bool.Decides.{nat_tests}
use Rattle.i9_isa.specs.declared.op.Op.{Op}
use Rattle.i9_isa.specs.declared.op.Op.TheVariants.{Addi, Lda}
use Rattle.i9_isa.specs.declared.size.Size.{Size}
use Rattle.i9_isa.specs.declared.size.Size.TheVariants.{Byte, Half, Words}
use Rattle.i9_isa.specs.declared.size.Direction.{Direction}
use Rattle.i9_isa.specs.declared.size.Direction.TheVariants.{Load, Store}
use Rattle.i9_isa.specs.declared.size.Transfer.{Transfer}
use Rattle.i9_isa.specs.declared.inst.Operand.{Operand}
use Rattle.i9_isa.specs.declared.inst.Operand.TheVariants.{Reg, Lit, Sfr}
use Rattle.i9_isa.specs.declared.inst.Mode.{Mode}
use Rattle.i9_isa.specs.declared.inst.Mode.TheVariants.{Offset, BaseOffset, Base, Ip, BaseIndex, Disp, BaseDisp, IndexDisp, BaseIndexDisp}
use Rattle.i9_isa.specs.declared.inst.Ea.{Ea}
use Rattle.i9_isa.specs.declared.inst.Inst.{Inst}
use Rattle.i9_isa.specs.declared.resources.TheConstants.{CONDITION_CODE}
use Rattle.i9_isa.specs.Operands.{words_read, words_written, has_base, has_index}
use Rattle.i9_isa.specs.Resources.{is_in_operand, reads_code, writes_code, is_read}
use Rattle.i9_isa.specs.Keeping.{keeps_marks}
use Rattle.i9_isa.specs.Table.{row_of}
use Rattle.i9_isa.specs.Transfers.{byte_count, register_count, transfer_of}
use Rattle.i9_isa.proofs.Moved.{stores_registers, loads_registers}
use Rattle.i9_model.specs.Writes.{wrapped, upwards}
use Rattle.i9_model.specs.Memory.{Memory, half_in, half_bytes}
use Rattle.i9_model.specs.State.{State}
use Rattle.i9_model.specs.Addresses.{sum_for}
use Rattle.i9_model.specs.Operands.{value, word_of, source_words, assigned, address}
use Rattle.i9_model.specs.Results.{Answer, destination_words}
use Rattle.i9_model.specs.Faults.{is_special}
use Rattle.i9_model.specs.Stale.{picked, marks_for, legible, loaded_marks, stored_marks, marks_of, sources, address_registers, is_marked, moves_words, result_marks, deciding, stored_out, goes_out, misuses}
use Rattle.i9_model.specs.Step.{Action, filled, passing, assigning, marking, answering, loaded, stored_of, bytes_of_words, moving, destination, answer_in, values_of, controls_of, resulting, action_by_name, action_by, action_of}
use Rattle.i9_model.specs.Needs.{is_request_name}
use Rattle.std.specs.Option.{is_some}
use Rattle.std.specs.List.{list_any}
use Rattle.std.proofs.lemmas.List.Folds.{list_any-append}
use Rattle.std.proofs.lemmas.List.FromFn.{get_or-map-range_with_len}
use Rattle.i9_model.specs.Frames.{has}
use Rattle.i9_model.specs.Alike.{with_other}
use Rattle.i9_model.specs.Access.{NoAccess, access_by_name, access_by, access_of, moved_access}
use Rattle.i9_model.specs.Standing.{is_fault_name, later_fault, range_fault}
use Rattle.i9_model.proofs.Readings.{map_below, words_same}
use Rattle.i9_model.proofs.Storing.{stored_words_same}
use Rattle.i9_turns.proofs.MaskLaws.{IsOutside, one_target}
use Rattle.i9_tune.specs.Inputs.{IsSameWords, Change, Keeps, changed, is_code, AreSame}
use Rattle.i9_tune.specs.Blocks.{is_result_name, is_lda, is_relative, is_allowed_name, is_allowed}
use Rattle.i9_tune.specs.Deeds.{AreSameBytes, AreSameSoft, AgreeBeside, Deed, deed_action, DoesSame}
use Rattle.i9_tune.proofs.Inputs.{result_same}
use Rattle.i9_tune.proofs.Marked.{same_in_group, first_same, operand_marked, operand_marks, marks_same, stored_same, loaded_same, result_long, loaded_long, marks_beside}

-- ---- what is read

-- register k is read, as an operand or for the address
abbrev pub is_register_read : Inst → ℕ → Bool
is_register_read i k =
    is_in_operand i.a (words_read (row_of i.op).a) k
    || is_in_operand i.b (words_read (row_of i.op).b) k
    || is_in_operand i.c (words_read (row_of i.op).c) k
    || (has_base i.ea.mode && (k == i.ea.base))
    || (has_index i.ea.mode && (k == i.ea.index))

-- the second state has all that the instruction sees as the first one
pub record Agree (i : Inst) (s t : State) : Type 0 where
  pub regs : (k : ℕ) → is_register_read i k ≡ true → s.regs k ≡ t.regs k
  pub marks : (k : ℕ) → is_register_read i k ≡ true → s.marks k ≡ t.marks k
  pub code : reads_code i.op ≡ true → s.ac % 8 ≡ t.ac % 8
  pub beside : AgreeBeside i s t

reads_a : (i : Inst) (k : ℕ) → is_in_operand i.a (words_read (row_of i.op).a) k ≡ true → is_register_read i k ≡ true
reads_a i k h = or_left _ _ (or_left _ _ (or_left _ _ (or_left _ _ h)))

reads_b : (i : Inst) (k : ℕ) → is_in_operand i.b (words_read (row_of i.op).b) k ≡ true → is_register_read i k ≡ true
reads_b i k h = or_left _ _ (or_left _ _ (or_left _ _ (or_right _ _ h)))

reads_c : (i : Inst) (k : ℕ) → is_in_operand i.c (words_read (row_of i.op).c) k ≡ true → is_register_read i k ≡ true
reads_c i k h = or_left _ _ (or_left _ _ (or_right _ _ h))

reads_base : (i : Inst) → has_base i.ea.mode ≡ true → is_register_read i i.ea.base ≡ true
reads_base i h = or_left _ _ (or_right _ _ (and_from _ _ h (eq-eqb i.ea.base i.ea.base refl)))

reads_index : (i : Inst) → has_index i.ea.mode ≡ true → is_register_read i i.ea.index ≡ true
reads_index i h = or_right _ _ (and_from _ _ h (eq-eqb i.ea.index i.ea.index refl))

pub register_is_read : (i : Inst) (k : ℕ) → is_register_read i k ≡ true → is_read i k ≡ true
register_is_read i k h = or_left _ _ h

pub code_is_read : (i : Inst) → reads_code i.op ≡ true → is_read i CONDITION_CODE ≡ true
code_is_read i h = or_right _ _ (and_from _ _ h refl)

-- ---- sources

operand_words : (s t : State) (o : Operand) (n : ℕ) → is_special o ≡ false → ((k : ℕ) → is_in_operand o n k ≡ true → s.regs k ≡ t.regs k) → (k : ℕ) → k < n → word_of s o k ≡ word_of t o k
operand_words s t (Reg r) n plain same k h = same_in_group s.regs t.regs r n k same h
operand_words s t (Lit l) n plain same k h = refl
operand_words s t (Sfr j) n plain same k h = absurd (cc plain)

-- of so many words that are taken
taken_words : (s t : State) (o : Operand) (n m : ℕ) → nat_le n m ≡ true → is_special o ≡ false → ((k : ℕ) → is_in_operand o n k ≡ true → s.regs k ≡ t.regs k) → IsSameWords n (source_words s o m) (source_words t o m)
taken_words s t o n m few plain same k h =
    let l : k < m = grind (arith, nat_tests, few, h) in
    get_or-map-range_with_len (word_of s o) 0 m k k 0 l (omega arith) ∙ operand_words s t o n plain same k h ∙ sym (get_or-map-range_with_len (word_of t o) 0 m k k 0 l (omega arith))

-- no name reads more than are taken
abbrev pub few_read : Op → Bool
few_read op = nat_le (words_read (row_of op).a) 4 && nat_le (words_read (row_of op).b) 2 && nat_le (words_read (row_of op).c) 4

pub each_few : (op : Op) → few_read op ≡ true
each_few Addi = refl
each_few _ = refl

-- ---- addresses

sum_same : (m : Mode) (e : Ea) (b c x y ip jp : ℕ) → is_relative m ≡ false → (has_base m ≡ true → b ≡ c) → (has_index m ≡ true → x ≡ y) → sum_for m e b x ip ≡ sum_for m e c y jp
sum_same Offset e b c x y ip jp r base index = refl
sum_same BaseOffset e b c x y ip jp r base index = rw (base refl) refl
sum_same Base e b c x y ip jp r base index = base refl
sum_same Ip e b c x y ip jp r base index = absurd (cc r)
sum_same BaseIndex e b c x y ip jp r base index = rw (base refl, index refl) refl
sum_same Disp e b c x y ip jp r base index = refl
sum_same BaseDisp e b c x y ip jp r base index = rw (base refl) refl
sum_same IndexDisp e b c x y ip jp r base index = rw (index refl) refl
sum_same BaseIndexDisp e b c x y ip jp r base index = rw (base refl, index refl) refl

-- ---- an allowed instruction

pub record IsAllowed (i : Inst) : Type 0 where
  pub name : is_allowed_name i.op ≡ true
  pub a : is_special i.a ≡ false
  pub b : is_special i.b ≡ false
  pub c : is_special i.c ≡ false
  pub own : is_relative i.ea.mode ≡ false

pub allowed_parts : (i : Inst) → is_allowed i ≡ true → IsAllowed i
allowed_parts i h =
    let p = and_parts _ _ h in
    let q = and_parts _ _ p.0 in
    let u = or_parts _ _ (not-true _ q.1) in
    let v = or_parts _ _ u.0 in
    record { name = q.0; a = v.0; b = v.1; c = u.1; own = not-true _ p.1 }

pub address_same : (i : Inst) (s t : State) → IsAllowed i → Agree i s t → address s i.ea ≡ address t i.ea
address_same i s t ok same =
    ap wrapped (sum_same i.ea.mode i.ea (s.regs i.ea.base) (t.regs i.ea.base) (s.regs i.ea.index) (t.regs i.ea.index) s.ip t.ip ok.own
    (λ h. same.regs i.ea.base (reads_base i h)) (λ h. same.regs i.ea.index (reads_index i h)))

plain_target : (o : Operand) (vs : List ℕ) (a : Action) → is_special o ≡ false → assigning o vs a ≡ record a { sets = assigned o vs }
plain_target (Reg r) vs a h = refl
plain_target (Lit n) vs a h = refl
plain_target (Sfr k) vs a h = absurd (cc h)

-- ---- results

answer_same : (i : Inst) (s t : State) → IsAllowed i → Agree i s t → AreSame i.op s.ac t.ac (answer_in i s) (answer_in i t)
answer_same i s t ok same =
    let few = (and_parts _ _ (each_few i.op)).0 in
    let fewer = and_parts _ _ few in
    result_same i.op _ _ _ _ _ _ s.ac t.ac
    (taken_words s t i.a (words_read (row_of i.op).a) 4 fewer.0 ok.a (λ k h. same.regs k (reads_a i k h)))
    (taken_words s t i.b (words_read (row_of i.op).b) 2 fewer.1 ok.b (λ k h. same.regs k (reads_b i k h)))
    (λ h. operand_words s t i.c (words_read (row_of i.op).c) ok.c (λ k r. same.regs k (reads_c i k r)) 0 h)
    same.code same.beside.mask

-- By its name an allowed instruction has a result, or is lda, or moves. Where it does not move it has no access, lets no
-- mark out, and decides by its sources where it keeps no marks.
usual : (op : Op) (i : Inst) (s : State) → (action_by_name op i s ≡ cond (is_result_name op) (resulting i s (answer_in i s)) (action_by_name op i s))
    × (access_by_name op i s ≡ cond (is_allowed_name op) NoAccess (access_by_name op i s))
    × (is_fault_name op ≡ cond (is_allowed_name op) false (is_fault_name op))
    × (deciding op i s ≡ cond (is_allowed_name op) (cond (keeps_marks op) [] (sources i)) (deciding op i s))
    × (goes_out op i s ≡ cond (is_allowed_name op) false (goes_out op i s))
usual Addi i s = (refl, refl, refl, refl, refl)
usual _ i s = (refl, refl, refl, refl, refl)

pub no_access : (i : Inst) (s : State) → IsAllowed i → transfer_of i.op ≡ None → access_of i s ≡ NoAccess
no_access i s ok e = ap (λ (o : Option Transfer). access_by o i s) e ∙ (usual i.op i s).1 ∙ cond-true _ _ _ ok.name

target_plain : (i : Inst) → IsAllowed i → is_special (destination i) ≡ false
target_plain i ok = cond_both (words_written (row_of i.op).a == 0) i.c i.a (λ o. is_special o ≡ false) (λ e. ok.c) (λ e. ok.a)

-- what a result is as a deed
abbrev result_deed : Inst → List ℕ → List Bool → Change → Deed
result_deed i vs bs c = record { sets = assigned (destination i) vs; change = c; writes = []; marked = marks_for (destination i) bs; stale = [] }

resulting_deed : (i : Inst) (s : State) (o : Option Answer) (c : Change) → IsAllowed i → controls_of o s.ac ≡ changed c s.ac → resulting i s o ≡ deed_action i s (result_deed i (values_of o) (result_marks i s) c)
resulting_deed i s o c ok e = rw (sym e) (ap (λ (a : Action). record (marking (destination i) (result_marks i s) a) { ac = controls_of o s.ac }) (plain_target (destination i) (values_of o) (passing i s) (target_plain i ok)))

-- ---- loads and stores

pub other_memory : (m n : Memory) → m.mcon ≡ n.mcon → with_other m n.bytes ≡ n
other_memory m n e = ap (λ (c : ℕ → ℕ). record { bytes = n.bytes; mcon = c }) e

half_agree : (m : Memory) (bytes : ℕ → ℕ) (a : ℕ) → m.bytes a ≡ bytes a → m.bytes (wrapped (a + 1)) ≡ bytes (wrapped (a + 1)) → half_in m a ≡ half_in (with_other m bytes) a
unfolding half_in
half_agree m bytes a e f = rw (e, f) refl

loaded_other : (size : Size) (signed : Bool) (m : Memory) (bytes : ℕ → ℕ) (x : ℕ) → AreSameBytes m (with_other m bytes) (wrapped x) (byte_count size)
    → loaded size signed m (wrapped x) ≡ loaded size signed (with_other m bytes) (wrapped x)
loaded_other Byte signed m bytes x same = ap (λ (v : ℕ). filled signed 8 v ∷ []) (first_same m.bytes bytes x 1 same (omega arith))
loaded_other Half signed m bytes x same =
    ap (λ (v : ℕ). filled signed 16 v ∷ []) (half_agree m bytes (wrapped x) (first_same m.bytes bytes x 2 same (omega arith)) (same 1 (omega arith)))
loaded_other (Words n) signed m bytes x same = sym (words_same m bytes (wrapped x) (4 * n) n (λ k h. sym (same k h)) (omega arith))

loaded_agree : (size : Size) (signed : Bool) (m n : Memory) (x : ℕ) → m.mcon ≡ n.mcon → AreSameBytes m n (wrapped x) (byte_count size)
    → loaded size signed m (wrapped x) ≡ loaded size signed n (wrapped x)
loaded_agree size signed m n x e same = loaded_other size signed m n.bytes x same ∙ ap (λ (o : Memory). loaded size signed o (wrapped x)) (other_memory m n e)

half_order : (m : Memory) (bytes : ℕ → ℕ) (a v : ℕ) → half_bytes (with_other m bytes) a v ≡ half_bytes m a v
unfolding half_bytes
half_order m bytes a v = refl

stored_agree : (size : Size) (s t : State) (o : Operand) (a : ℕ) → s.memory.mcon ≡ t.memory.mcon → ((k : ℕ) → k < register_count size → word_of s o k ≡ word_of t o k)
    → stored_of size s o a ≡ stored_of size t o a
stored_agree Byte s t o a e same = ap (λ (v : ℕ). v % 2 ^ 8 ∷ []) (same 0 (omega arith))
stored_agree Half s t o a e same =
    ap (λ (v : ℕ). half_bytes s.memory a (v % 2 ^ 16)) (same 0 (omega arith))
    ∙ sym (half_order s.memory t.memory.bytes a (value t o % 2 ^ 16)) ∙ ap (λ (m : Memory). half_bytes m a (value t o % 2 ^ 16)) (other_memory s.memory t.memory e)
stored_agree (Words n) s t o a e same =
    ap (λ (ws : List ℕ). bytes_of_words s.memory a ws) (map_below (word_of s o) (word_of t o) n same)
    ∙ sym (stored_words_same s.memory t.memory.bytes a (source_words t o n)) ∙ ap (λ (m : Memory). bytes_of_words m a (source_words t o n)) (other_memory s.memory t.memory e)

-- what an action of either direction is as a deed
abbrev loading_deed : Inst → List ℕ → List Bool → Deed
loading_deed i vs bs = record { sets = assigned i.c vs; change = Keeps; writes = []; marked = marks_for i.c bs; stale = [] }

abbrev storing_deed : ℕ → List ℕ → List Bool → Deed
storing_deed a vs bs = record { sets = []; change = Keeps; writes = upwards a vs; marked = []; stale = picked wrapped a bs }

abbrev moving_deed : Direction → Size → Bool → Inst → State → Deed
moving_deed Load size signed i s = loading_deed i (loaded size signed (legible s) (address s i.ea)) (loaded_marks size s.frames.soft (address s i.ea))
moving_deed Store size signed i s = storing_deed (address s i.ea) (stored_of size s i.c (address s i.ea)) (stored_marks size s i.c)

moving_is : (d : Direction) (size : Size) (signed : Bool) (i : Inst) (s : State) → IsAllowed i → moving d size signed i s ≡ deed_action i s (moving_deed d size signed i s)
moving_is Load size signed i s ok =
    let a = address s i.ea in
    ap (marking i.c (loaded_marks size s.frames.soft a)) (plain_target i.c (loaded size signed (legible s) a) (passing i s) ok.c)
moving_is Store size signed i s ok = refl

-- the bytes that are loaded are the same, and the same of them are soft
record AreLoaded (s t : State) (a n : ℕ) : Type 0 where
  bytes : AreSameBytes (legible s) (legible t) a n
  soft : AreSameSoft s.frames.soft t.frames.soft a n

moving_agree : (d : Direction) (size : Size) (signed : Bool) (i : Inst) (s t : State) → IsAllowed i → Agree i s t
    → (d ≡ Load → AreLoaded s t (address s i.ea) (byte_count size)) → (d ≡ Store → words_read (row_of i.op).c ≡ register_count size)
    → moving_deed d size signed i s ≡ moving_deed d size signed i t
moving_agree Load size signed i s t ok same loads row =
    let values = loaded_agree size signed (legible s) (legible t) _ same.beside.orders (loads refl).bytes in
    let marks = loaded_same size s.frames.soft t.frames.soft _ (loads refl).soft in
    let at = address_same i s t ok same in
    cc (values, marks, at)
moving_agree Store size signed i s t ok same loads row =
    let count = row refl in
    let words = operand_words s t i.c (words_read (row_of i.op).c) ok.c (λ k r. same.regs k (reads_c i k r)) in
    let marks = operand_marks s t i.c (words_read (row_of i.op).c) (λ k r. same.marks k (reads_c i k r)) in
    let values = stored_agree size s t i.c (address s i.ea) same.beside.orders (λ k h. words k (omega (arith, count, h))) in
    let stale = stored_same size s t i.c (λ k h. marks k (omega (arith, count, h))) in
    let at = address_same i s t ok same in
    cc (values, stale, at)

-- ---- marks

-- where words are moved, as many are read
moved_few : (op : Op) → nat_le (cond (moves_words op) (destination_words op) 0) (words_read (row_of op).a) ≡ true
moved_few Addi = refl
moved_few _ = refl

sources_same : (i : Inst) (s t : State) → Agree i s t → is_marked s (sources i) ≡ is_marked t (sources i)
sources_same i s t same =
    let row = row_of i.op in
    let a = operand_marked s t i.a (words_read row.a) (λ k h. same.marks k (reads_a i k h)) in
    let b = operand_marked s t i.b (words_read row.b) (λ k h. same.marks k (reads_b i k h)) in
    let c = operand_marked s t i.c (words_read row.c) (λ k h. same.marks k (reads_c i k h)) in
    simp list_any-append (rw (a, b, c) refl)

result_marks_same : (i : Inst) (s t : State) → Agree i s t → result_marks i s ≡ result_marks i t
result_marks_same i s t same = by_move (moves_words i.op) refl
  where
    words : ℕ
    words = destination_words i.op

    by_move : (b : Bool) → moves_words i.op ≡ b → cond b (marks_of s i.a words) (replicate words (is_marked s (sources i))) ≡ cond b (marks_of t i.a words) (replicate words (is_marked t (sources i)))
    by_move true e =
        let few : nat_le words (words_read (row_of i.op).a) ≡ true = sym (ap (λ (b : Bool). nat_le (cond b words 0) (words_read (row_of i.op).a)) e) ∙ moved_few i.op in
        marks_same s t i.a words (λ k h. operand_marks s t i.a (words_read (row_of i.op).a) (λ j r. same.marks j (reads_a i j r)) k (grind (arith, nat_tests, few, h)))
    by_move false e = ap (replicate words) (sources_same i s t same)

one_marked : (f g : ℕ → Bool) (b : Bool) (r : ℕ) → (b ≡ true → f r ≡ g r) → list_any f (cond b (r ∷ []) []) ≡ list_any g (cond b (r ∷ []) [])
one_marked f g true r same = rw (same refl) refl
one_marked f g false r same = refl

address_marked : (i : Inst) (s t : State) → Agree i s t → is_marked s (address_registers i.ea) ≡ is_marked t (address_registers i.ea)
address_marked i s t same =
    let base = one_marked s.marks t.marks (has_base i.ea.mode) i.ea.base (λ h. same.marks i.ea.base (reads_base i h)) in
    let index = one_marked s.marks t.marks (has_index i.ea.mode) i.ea.index (λ h. same.marks i.ea.index (reads_index i h)) in
    simp list_any-append (rw (base, index) refl)

stored_out_same : (d : Direction) (size : Size) (i : Inst) (s t : State) → IsAllowed i → Agree i s t → (d ≡ Store → words_read (row_of i.op).c ≡ register_count size) → stored_out d size i s ≡ stored_out d size i t
stored_out_same Load size i s t ok same row = refl
stored_out_same Store size i s t ok same row =
    let count = row refl in
    let marked = operand_marked s t i.c (register_count size) (λ k h. same.marks k (reads_c i k (ap (λ (n : ℕ). is_in_operand i.c n k) count ∙ h))) in
    let at = address_same i s t ok same in
    cc (marked, at)

misuse_same : (i : Inst) (s t : State) → IsAllowed i → Agree i s t → misuses i s ≡ misuses i t
unfolding misuses
misuse_same i s t ok same = by_transfer (transfer_of i.op) refl
  where
    decides : (u : State) → deciding i.op i u ≡ cond (keeps_marks i.op) [] (sources i)
    decides u = (usual i.op i u).3 ∙ cond-true _ _ _ ok.name

    none_out : (u : State) → goes_out i.op i u ≡ false
    none_out u = (usual i.op i u).4 ∙ cond-true _ _ _ ok.name

    by_transfer : (o : Option Transfer) → transfer_of i.op ≡ o → misuses i s ≡ misuses i t
    by_transfer (Some m) e =
        let address = address_marked i s t same in
        let out = stored_out_same m.direction m.size i s t ok same (stores_registers i.op m e) in
        rw (e, ok.c) (rw (address, out) refl)
    by_transfer None e =
        rw (e, ok.c) (rw (decides s, decides t, none_out s, none_out t)
        (cond_both (keeps_marks i.op) [] (sources i) (λ rs. (is_marked s rs || (false || false)) ≡ (is_marked t rs || (false || false))) (λ k. refl) (λ k. rw (sources_same i s t same) refl)))

-- ---- all

pub load_address : (op : Op) (i : Inst) (s : State) → is_lda op ≡ true → action_by_name op i s ≡ marking i.c (is_marked s (address_registers i.ea) ∷ []) (answering i s (address s i.ea))
load_address Lda i s h = refl
load_address _ i s h = absurd (cc h)

range_none : (i : Inst) (s : State) → IsAllowed i → range_fault i s ≡ None
range_none i s ok = rw ((usual i.op i s).2 ∙ cond-true _ _ _ ok.name) refl

fault_agree : (i : Inst) (s t : State) → IsAllowed i → Agree i s t → later_fault i s ≡ later_fault i t
fault_agree i s t ok same = rw ((answer_same i s t ok same).fault, range_none i s ok, range_none i t ok) refl

access_agree : (i : Inst) (s t : State) → IsAllowed i → Agree i s t → access_of i s ≡ access_of i t
access_agree i s t ok same = by_transfer (transfer_of i.op) refl
  where
    by_transfer : (o : Option Transfer) → transfer_of i.op ≡ o → access_of i s ≡ access_of i t
    by_transfer (Some m) e = rw e (ap (λ (a : ℕ). moved_access m.direction a (byte_count m.size)) (address_same i s t ok same))
    by_transfer None e = no_access i s ok e ∙ sym (no_access i t ok e)

-- it does the same, and marks no register that it does not write
record Does (i : Inst) (s t : State) : Type 0 where
  same : DoesSame i s t
  beside : (k : ℕ) → IsOutside i k → has same.deed.marked k ≡ false

does_by : (i : Inst) (s t : State) (d : Deed) → IsAllowed i → Agree i s t → action_of i s ≡ deed_action i s d → action_of i t ≡ deed_action i t d → (is_code d.change ≡ true → writes_code i.op ≡ true)
    → (is_request_name i.op ≡ false → (d.writes ≡ []) × (d.stale ≡ [])) → ((k : ℕ) → IsOutside i k → has d.marked k ≡ false) → Does i s t
does_by i s t d ok same here there coded quiet beside = record {
  same = record {
    deed = d;
    here = here;
    there = there;
    coded = coded;
    quiet = λ h. (quiet h).0;
    clean = λ h. (quiet h).1;
    access = access_agree i s t ok same;
    fault = fault_agree i s t ok same;
    misuse = misuse_same i s t ok same;
  };
  beside = beside;
}

result_beside : (first : Bool) (i : Inst) (k : ℕ) (bs : List Bool) → (words_written (row_of i.op).a == 0) ≡ first → length bs ≡ destination_words i.op → IsOutside i k → has (marks_for (cond first i.c i.a) bs) k ≡ false
result_beside true i k bs e long h =
    let none : words_written (row_of i.op).a ≡ 0 = eqb-true _ _ e in
    marks_beside i.c (words_written (row_of i.op).c) k bs (omega (arith, none, long)) h.c
result_beside false i k bs e long h =
    let none : words_written (row_of i.op).c ≡ 0 = eqb-true _ _ (sym (ap (λ (b : Bool). b || (words_written (row_of i.op).c == 0)) e) ∙ one_target i.op) in
    marks_beside i.a (words_written (row_of i.op).a) k bs (omega (arith, none, long)) h.a

result_does : (i : Inst) (s t : State) → IsAllowed i → Agree i s t → transfer_of i.op ≡ None → is_result_name i.op ≡ true → Does i s t
unfolding action_of
result_does i s t ok same e r =
    let x = answer_same i s t ok same in
    let acts : (u : State) → action_of i u ≡ resulting i u (answer_in i u) = λ u. ap (λ (o : Option Transfer). action_by o i u) e ∙ (usual i.op i u).0 ∙ cond-true _ _ _ r in
    does_by i s t (result_deed i (values_of (answer_in i s)) (result_marks i s) x.change) ok same
    (acts s ∙ resulting_deed i s (answer_in i s) x.change ok x.here)
    (rw (x.values, result_marks_same i s t same) (acts t ∙ resulting_deed i t (answer_in i t) x.change ok x.there))
    x.coded (λ h. (refl, refl)) (λ k h. result_beside (words_written (row_of i.op).a == 0) i k (result_marks i s) refl (result_long i s) h)

-- lda writes one word
address_word : (op : Op) → is_lda op ≡ true → words_written (row_of op).c ≡ 1
address_word Lda h = refl
address_word _ h = absurd (cc h)

address_does : (i : Inst) (s t : State) → IsAllowed i → Agree i s t → transfer_of i.op ≡ None → is_lda i.op ≡ true → Does i s t
unfolding action_of
address_does i s t ok same e l =
    let word = address_word i.op l in
    let acts : (u : State) → action_of i u ≡ deed_action i u (loading_deed i (address u i.ea ∷ []) (is_marked u (address_registers i.ea) ∷ [])) = λ u.
    ap (λ (o : Option Transfer). action_by o i u) e ∙ load_address i.op i u l
    ∙ ap (marking i.c (is_marked u (address_registers i.ea) ∷ [])) (plain_target i.c (address u i.ea ∷ []) (passing i u) ok.c) in
    does_by i s t (loading_deed i (address s i.ea ∷ []) (is_marked s (address_registers i.ea) ∷ [])) ok same (acts s) (rw (address_same i s t ok same, address_marked i s t same) (acts t))
    (λ h. absurd (cc h)) (λ h. (refl, refl)) (λ k h. marks_beside i.c (words_written (row_of i.op).c) k (is_marked s (address_registers i.ea) ∷ []) (omega (arith, word)) h.c)

moving_beside : (d : Direction) (size : Size) (signed : Bool) (i : Inst) (s : State) (k : ℕ) → (d ≡ Load → words_written (row_of i.op).c ≡ register_count size) → IsOutside i k → has (moving_deed d size signed i s).marked k ≡ false
moving_beside Load size signed i s k row h =
    let words = row refl in
    let long = loaded_long size s.frames.soft (address s i.ea) in
    marks_beside i.c (words_written (row_of i.op).c) k (loaded_marks size s.frames.soft (address s i.ea)) (omega (arith, long, words)) h.c
moving_beside Store size signed i s k row h = refl

moving_keeps : (d : Direction) (size : Size) (signed : Bool) (i : Inst) (s : State) → is_code (moving_deed d size signed i s).change ≡ false
moving_keeps Load size signed i s = refl
moving_keeps Store size signed i s = refl

move_does : (i : Inst) (s t : State) (m : Transfer) → IsAllowed i → Agree i s t → transfer_of i.op ≡ Some m → Does i s t
unfolding action_of
move_does i s t m ok same e =
    let acts : (u : State) → action_of i u ≡ deed_action i u (moving_deed m.direction m.size m.signed i u) =
    λ u. ap (λ (o : Option Transfer). action_by o i u) e ∙ moving_is m.direction m.size m.signed i u ok in
    let loads : m.direction ≡ Load → AreLoaded s t (address s i.ea) (byte_count m.size) = λ load.
    let reads = ap (λ (o : Option Transfer). access_by o i s) e ∙ ap (λ (d : Direction). moved_access d (address s i.ea) (byte_count m.size)) load in
    record { bytes = same.beside.bytes (address s i.ea) (byte_count m.size) reads; soft = same.beside.soft (address s i.ea) (byte_count m.size) reads } in
    does_by i s t (moving_deed m.direction m.size m.signed i s) ok same (acts s)
    (rw (moving_agree m.direction m.size m.signed i s t ok same loads (stores_registers i.op m e)) (acts t))
    (λ h. absurd (both_ways _ (moving_keeps m.direction m.size m.signed i s) h)) (λ h. absurd (both_ways (is_request_name i.op) h (ap is_some e)))
    (λ k h. moving_beside m.direction m.size m.signed i s k (loads_registers i.op m e) h)

either : (a b c : Bool) → (a || b || c) ≡ true → a ≡ false → c ≡ false → b ≡ true
either a b c h x y = grind arith

does : (i : Inst) (s t : State) → IsAllowed i → Agree i s t → Does i s t
does i s t ok same = by_transfer (transfer_of i.op) refl
  where
    by_name : (b : Bool) → is_result_name i.op ≡ b → transfer_of i.op ≡ None → Does i s t
    by_name true r e = result_does i s t ok same e r
    by_name false r e = address_does i s t ok same e (either (is_result_name i.op) (is_lda i.op) (is_request_name i.op) ok.name r (ap is_some e))

    by_transfer : (o : Option Transfer) → transfer_of i.op ≡ o → Does i s t
    by_transfer (Some m) e = move_does i s t m ok same e
    by_transfer None e = by_name (is_result_name i.op) refl e

pub does_same : (i : Inst) (s t : State) → IsAllowed i → Agree i s t → DoesSame i s t
does_same i s t ok same = (does i s t ok same).same

pub same_here : (i : Inst) (s : State) → Agree i s s
same_here i s = record { regs = λ k h. refl; marks = λ k h. refl; code = λ h. refl; beside = record { mask = refl; orders = refl; bytes = λ a n e k h. refl; soft = λ a n e k h. refl } }

pub unmarked : (i : Inst) (s : State) (k : ℕ) → IsAllowed i → IsOutside i k → has (action_of i s).marked k ≡ false
unmarked i s k ok h = let own = does i s s ok (same_here i s) in ap (λ (a : Action). has a.marked k) own.same.here ∙ own.beside k h
