-- What marked registers may not decide, by names.
use Rattle.std.proofs.Common.{◌≡◌, ℕ, zero, suc, ◌+◌, Bool, true, false, cond, List, [], ◌∷◌, ◌++◌, map, replicate, Option, Some, None, refl, sym, ap, ◌∙◌, arith}
use Rattle.std.specs.Prelude.{◌==◌, ◌&&◌, ◌||◌, not}
use Rattle.std.specs.List.{list_any, range_with_len}
use Rattle.std.proofs.lemmas.Bool.{eqb-true}
use Rattle.std.proofs.lemmas.Bool.Decides.{nat_tests}
use Rattle.std.proofs.lemmas.List.Folds.{list_any-append}
use Rattle.i9_isa.specs.declared.op.Op.{Op}
use Rattle.i9_isa.specs.declared.op.Op.TheVariants.{Lda, Atadd, Atmod, Bx, Balx, Callx, Ret, Modpc, Sysctl}
use Rattle.i9_isa.specs.declared.format.Use.TheVariants.{Load, Store, Change}
use Rattle.i9_isa.specs.declared.size.Size.{Size}
use Rattle.i9_isa.specs.declared.size.Direction.{Direction}
use Rattle.i9_isa.specs.declared.size.Direction.TheVariants as directions
use Rattle.i9_isa.specs.declared.size.Transfer.{Transfer}
use Rattle.i9_isa.specs.declared.inst.Operand.{Operand}
use Rattle.i9_isa.specs.declared.inst.Operand.TheVariants.{Reg, Lit, Sfr}
use Rattle.i9_isa.specs.declared.inst.Inst.{Inst}
use Rattle.i9_isa.specs.Operands.{words_read, takes}
use Rattle.i9_isa.specs.Table.{row_of}
use Rattle.i9_isa.specs.Transfers.{transfer_of, byte_count, register_count}
use Rattle.i9_isa.specs.Valid.{IsValid}
use Rattle.i9_isa.specs.Keeping.{keeps_marks}
use Rattle.i9_model.specs.declared.layout.TheConstants.{PFP, FP}
use Rattle.i9_model.specs.State.{State, aligned}
use Rattle.i9_model.specs.Calls.{takes_record, return_type}
use Rattle.i9_model.specs.Faults.{is_special}
use Rattle.i9_model.specs.Operands.{value, address}
use Rattle.i9_model.specs.Needs.{is_barrier_name}
use Rattle.i9_model.specs.Results.{destination_words}
use Rattle.i9_model.specs.Step.{message_of}
use Rattle.i9_model.specs.Stale.{restart_registers, mark_of, marks_of, word_mark, registers_of, sources, address_registers, is_marked, moves_words, result_marks, marks_by_name, marks_by, deciding, deciding_by, touches_port, stored_out, goes_out, goes_out_by, misuses}
use Rattle.i9_isa.specs.Words.{bit}
use Rattle.i9_watch.proofs.SetBits.{bit_none}
use Rattle.i9_plan.specs.Names.{is_atomic}
use Rattle.i9_plan.proofs.MarkBits.{or_none, any_alike}

-- ---- the marks of a result

pub any_map : (f : ℕ → Bool) (ns : List ℕ) → list_any (λ (b : Bool). b) (map f ns) ≡ list_any f ns
any_map f [] = refl
any_map f (n ∷ ns) = ap (λ (b : Bool). f n || b) (any_map f ns)

none_in : (ns : List ℕ) → list_any (λ (n : ℕ). false) ns ≡ false
none_in [] = refl
none_in (n ∷ ns) = none_in ns

-- the words of an operand are its registers
pub operand_marked : (s : State) (o : Operand) (n : ℕ) → list_any (mark_of s o) (range_with_len 0 n) ≡ is_marked s (registers_of o n)
operand_marked s (Reg r) n = any_alike (mark_of s (Reg r)) s.marks 0 r n (λ k h. at k)
  where
    by : (b : Bool) (k : ℕ) → (k == 0) ≡ b → cond b (s.marks r) (s.marks (r + k)) ≡ s.marks (r + k)
    by true k t = let none = eqb-true k 0 t in let here : r ≡ r + k = omega (arith, none) in ap s.marks here
    by false k t = refl

    at : (k : ℕ) → mark_of s (Reg r) (0 + k) ≡ s.marks (r + k)
    at k = let here : 0 + k ≡ k = omega arith in ap (mark_of s (Reg r)) here ∙ by (k == 0) k refl
operand_marked s (Lit l) n = none_in (range_with_len 0 n)
operand_marked s (Sfr j) n = none_in (range_with_len 0 n)

pub any_of : (s : State) (o : Operand) (n : ℕ) → list_any (λ (b : Bool). b) (marks_of s o n) ≡ is_marked s (registers_of o n)
any_of s o n = any_map (mark_of s o) (range_with_len 0 n) ∙ operand_marked s o n

same_none : (n : ℕ) → list_any (λ (x : Bool). x) (replicate n false) ≡ false
same_none zero = refl
same_none (suc n) = same_none n

and_none : (b : Bool) → (b && false) ≡ false
and_none b = grind arith

any_same : (n : ℕ) (b : Bool) → list_any (λ (x : Bool). x) (replicate n b) ≡ (not (n == 0) && b)
any_same zero b = refl
any_same (suc n) true = grind (arith, nat_tests)
any_same (suc n) false = same_none n ∙ sym (and_none (not (suc n == 0)))

-- words that are moved are the first source, and there is no other
moved_alone : (op : Op) → moves_words op ≡ true
    → (words_read (row_of op).a ≡ destination_words op) × (words_read (row_of op).b ≡ 0) × (words_read (row_of op).c ≡ 0) × ((destination_words op == 0) ≡ false)
moved_alone Lda t = absurd cc
moved_alone _ t = (cc, cc, cc, cc)

none_read : (s : State) (o : Operand) → is_marked s (registers_of o 0) ≡ false
none_read s (Reg r) = refl
none_read s (Lit l) = refl
none_read s (Sfr j) = refl

pub sources_parts : (i : Inst) (s : State) → is_marked s (sources i)
    ≡ (is_marked s (registers_of i.a (words_read (row_of i.op).a)) || (is_marked s (registers_of i.b (words_read (row_of i.op).b)) || is_marked s (registers_of i.c (words_read (row_of i.op).c))))
sources_parts i s =
    let first = registers_of i.a (words_read (row_of i.op).a) in
    let second = registers_of i.b (words_read (row_of i.op).b) in
    let third = registers_of i.c (words_read (row_of i.op).c) in
    list_any-append s.marks first (second ++ third) ∙ ap (λ (b : Bool). list_any s.marks first || b) (list_any-append s.marks second third)

alone : (s : State) (o p : Operand) (x : Bool) (b c : ℕ) → b ≡ 0 → c ≡ 0 → (x || (is_marked s (registers_of o b) || is_marked s (registers_of p c))) ≡ x
alone s o p x b c e h = let first = none_read s o in let second = none_read s p in rw (e, h, first, second) (or_none x)

-- a result is marked where it has words and a source is marked
pub any_result : (i : Inst) (s : State) → list_any (λ (b : Bool). b) (result_marks i s) ≡ (not (destination_words i.op == 0) && is_marked s (sources i))
any_result i s = by (moves_words i.op) refl
  where
    by : (m : Bool) → moves_words i.op ≡ m → list_any (λ (b : Bool). b) (cond m (marks_of s i.a (destination_words i.op)) (replicate (destination_words i.op) (is_marked s (sources i)))) ≡ (not (destination_words i.op == 0) && is_marked s (sources i))
    by true e =
        let row = moved_alone i.op e in
        any_of s i.a (destination_words i.op)
        ∙ ap (λ (n : ℕ). is_marked s (registers_of i.a n)) (sym row.0)
        ∙ sym (sources_parts i s ∙ alone s i.b i.c (is_marked s (registers_of i.a (words_read (row_of i.op).a))) _ _ row.1 row.2)
        ∙ sym (ap (λ (b : Bool). not b && is_marked s (sources i)) row.3)
    by false e = any_same (destination_words i.op) (is_marked s (sources i))

-- ---- names that move nothing between registers and memory

-- what is misused by a name
abbrev misused : Op → Inst → State → Bool
misused op i s = is_marked s (deciding op i s) || ((is_special i.c && list_any (λ b. b) (marks_by_name op i s)) || goes_out op i s)

-- of an instruction of that name
still_misused : (n : Op) (i : Inst) (s : State) → transfer_of n ≡ None → i.op ≡ n → misuses i s ≡ misused n i s
unfolding misuses
still_misused n i s still is =
    ap (λ (t : Option Transfer). is_marked s (deciding_by t i s) || ((is_special i.c && list_any (λ (b : Bool). b) (marks_by t i s)) || goes_out_by t i s)) (ap (λ (op : Op). transfer_of op) is ∙ still)
    ∙ ap (λ (op : Op). misused op i s) is

-- a result of no words, or without sources, has no mark
no_words : (i : Inst) (s : State) (n : Op) → i.op ≡ n → destination_words n ≡ 0 → list_any (λ (b : Bool). b) (result_marks i s) ≡ false
no_words i s n is none = any_result i s ∙ ap (λ (op : Op). not (destination_words op == 0) && is_marked s (sources i)) is ∙ ap (λ (k : ℕ). not (k == 0) && is_marked s (sources i)) none

-- names that decide by more than their sources, or by less
abbrev pub is_listed : Op → Bool
is_listed Lda = true
is_listed Atadd = true
is_listed Atmod = true
is_listed Bx = true
is_listed Balx = true
is_listed Callx = true
is_listed Ret = true
is_listed Modpc = true
is_listed Sysctl = true
is_listed _ = false

-- the other ones decide by their sources, and give the marks of their result
unlisted_uses : (op : Op) (i : Inst) (s : State) → is_listed op ≡ false
    → (deciding op i s ≡ cond (keeps_marks op) [] (sources i)) × (marks_by_name op i s ≡ result_marks i s) × (goes_out op i s ≡ false)
unlisted_uses Lda i s e = absurd cc
unlisted_uses _ i s e = (cc, cc, cc)

kept_words : (op : Op) → keeps_marks op ≡ true → (destination_words op == 0) ≡ false
kept_words Lda e = cc
kept_words _ e = cc

-- by whether the name keeps marks, its result has words, and a source is marked
by_keeping : (s : State) (rs : List ℕ) (keeps special none marked : Bool) → is_marked s rs ≡ marked → (keeps ≡ true → none ≡ false)
    → (is_marked s (cond keeps [] rs) || ((special && (not none && marked)) || false)) ≡ (marked && (not keeps || special))
by_keeping s rs true special none marked e t = grind arith
by_keeping s rs false special none marked e t = grind arith

-- every other name: a marked source, unless marks are kept and go to a register
pub other_misuses : (i : Inst) (s : State) → transfer_of i.op ≡ None → is_listed i.op ≡ false → (is_marked s (sources i) && (not (keeps_marks i.op) || is_special i.c)) ≡ misuses i s
other_misuses i s still other =
    let op = i.op in
    let uses = unlisted_uses op i s other in
    sym (still_misused op i s still refl ∙ rw (uses.0, uses.1, any_result i s, uses.2) (by_keeping s (sources i) (keeps_marks op) (is_special i.c) _ _ refl (kept_words op)))

pub unlisted : (op : Op) → (op ≡ Lda → ⊥) → (op ≡ Atadd → ⊥) → (op ≡ Atmod → ⊥) → (op ≡ Bx → ⊥) → (op ≡ Balx → ⊥) → (op ≡ Callx → ⊥) → (op ≡ Ret → ⊥) → (op ≡ Modpc → ⊥) → (op ≡ Sysctl → ⊥) → is_listed op ≡ false
unlisted Lda a b c d e f g h k = absurd (a refl)
unlisted _ a b c d e f g h k = grind arith

-- ---- the names that are listed

-- lda gives its mark to no special function register
pub lda_misuses : (i : Inst) (s : State) → i.op ≡ Lda → (is_special i.c && is_marked s (address_registers i.ea)) ≡ misuses i s
lda_misuses i s is =
    let m = is_marked s (address_registers i.ea) in
    sym (still_misused Lda i s refl is ∙ or_none (is_special i.c && (m || false)) ∙ ap (λ (b : Bool). is_special i.c && b) (or_none m))

address_alone : (x y m : Bool) → x ≡ false → (m || ((y && x) || false)) ≡ m
address_alone x y m e = grind arith

-- a jump to an address that is not known
pub bx_misuses : (i : Inst) (s : State) → i.op ≡ Bx → is_marked s (address_registers i.ea) ≡ misuses i s
bx_misuses i s is = sym (still_misused Bx i s refl is ∙ address_alone _ (is_special i.c) (is_marked s (address_registers i.ea)) (no_words i s Bx is refl))

pub callx_misuses : (i : Inst) (s : State) → i.op ≡ Callx → is_marked s (address_registers i.ea) ≡ misuses i s
callx_misuses i s is = sym (still_misused Callx i s refl is ∙ address_alone _ (is_special i.c) (is_marked s (address_registers i.ea)) (no_words i s Callx is refl))

no_sources : (i : Inst) (s : State) (n : Op) → i.op ≡ n → words_read (row_of n).a ≡ 0 → words_read (row_of n).b ≡ 0 → words_read (row_of n).c ≡ 0 → is_marked s (sources i) ≡ false
no_sources i s n is a b c =
    sources_parts i s
    ∙ alone s i.b i.c _ _ _ (ap (λ (op : Op). words_read (row_of op).b) is ∙ b) (ap (λ (op : Op). words_read (row_of op).c) is ∙ c)
    ∙ ap (λ (k : ℕ). is_marked s (registers_of i.a k)) (ap (λ (op : Op). words_read (row_of op).a) is ∙ a)
    ∙ none_read s i.a

pub balx_misuses : (i : Inst) (s : State) → i.op ≡ Balx → is_marked s (address_registers i.ea) ≡ misuses i s
balx_misuses i s is =
    let none = any_result i s ∙ ap (λ (b : Bool). not (destination_words i.op == 0) && b) (no_sources i s Balx is refl refl refl) ∙ and_none (not (destination_words i.op == 0)) in
    sym (still_misused Balx i s refl is ∙ address_alone _ (is_special i.c) (is_marked s (address_registers i.ea)) none)

-- a return uses pfp, and fp where its record is read
pub ret_misuses : (i : Inst) (s : State) → i.op ≡ Ret → (s.marks PFP || (takes_record (return_type (s.regs PFP)) && s.marks FP)) ≡ misuses i s
ret_misuses i s is =
    sym (still_misused Ret i s refl is ∙ address_alone _ (is_special i.c) (s.marks PFP || list_any s.marks (cond (takes_record (return_type (s.regs PFP))) (FP ∷ []) [])) (no_words i s Ret is refl)
    ∙ ap (λ (b : Bool). s.marks PFP || b) (by (takes_record (return_type (s.regs PFP))) (s.marks FP)))
  where
    by : (t m : Bool) → list_any s.marks (cond t (FP ∷ []) []) ≡ (t && s.marks FP)
    by true m = or_none (s.marks FP)
    by false m = refl

change_registers : (o : Operand) → takes Change o ≡ true → is_special o ≡ false
change_registers (Reg r) t = refl
change_registers _ t = cc

-- modpc uses its mask and src/dst
pub modpc_misuses : (i : Inst) (s : State) → IsValid i → i.op ≡ Modpc → (is_marked s (registers_of i.b 1) || is_marked s (registers_of i.c 1)) ≡ misuses i s
modpc_misuses i s valid is =
    let plain = change_registers i.c (sym (ap (λ (op : Op). takes (row_of op).c i.c) is) ∙ valid.c) in
    sym (still_misused Modpc i s refl is
    ∙ ap (λ (b : Bool). is_marked s (registers_of i.b 1 ++ registers_of i.c 1) || ((b && list_any (λ (x : Bool). x) (result_marks i s)) || false)) plain
    ∙ or_none (is_marked s (registers_of i.b 1 ++ registers_of i.c 1))
    ∙ list_any-append s.marks (registers_of i.b 1) (registers_of i.c 1))

-- sysctl uses src1, and the other two where it restarts
pub sysctl_misuses : (i : Inst) (s : State) → i.op ≡ Sysctl
    → (is_marked s (registers_of i.a 1) || ((message_of i s == 3) && (is_marked s (registers_of i.b 1) || is_marked s (registers_of i.c 1)))) ≡ misuses i s
sysctl_misuses i s is =
    sym (still_misused Sysctl i s refl is ∙ address_alone _ (is_special i.c) (is_marked s (deciding Sysctl i s)) (no_words i s Sysctl is refl)
    ∙ list_any-append s.marks (registers_of i.a 1) (restart_registers i s)
    ∙ ap (λ (b : Bool). is_marked s (registers_of i.a 1) || b) (by (message_of i s == 3)))
  where
    by : (b : Bool) → list_any s.marks (cond b (registers_of i.b 1 ++ registers_of i.c 1) []) ≡ (b && (is_marked s (registers_of i.b 1) || is_marked s (registers_of i.c 1)))
    by true = list_any-append s.marks (registers_of i.b 1) (registers_of i.c 1)
    by false = refl

-- an atomic instruction gives a marked word to no port and to no special function register
atomic_parts : (a x w d p : Bool) → (a || ((x && (w || false)) || ((w || d) && p || d && x))) ≡ (a || ((w || d) && (x || p)))
atomic_parts a x w d p = grind arith

-- what an atomic instruction with marked data, or with none, misuses
abbrev pub atomic_misused : Inst → State → Bool → Bool
atomic_misused i s data_marked =
    let a = aligned (value s i.a) in
    (word_mark s.frames.soft a || data_marked) && (is_special i.c || touches_port a 4)

pub atadd_misuses : (i : Inst) (s : State) → i.op ≡ Atadd → (is_marked s (registers_of i.a 1) || atomic_misused i s (is_marked s (registers_of i.b 1))) ≡ misuses i s
atadd_misuses i s is =
    let a = aligned (value s i.a) in
    sym (still_misused Atadd i s refl is
    ∙ atomic_parts (is_marked s (registers_of i.a 1)) (is_special i.c) (word_mark s.frames.soft a) (is_marked s (registers_of i.b 1)) (touches_port a 4))

pub atmod_misuses : (i : Inst) (s : State) → i.op ≡ Atmod
    → (is_marked s (registers_of i.a 1) || atomic_misused i s (is_marked s (registers_of i.b 1) || is_marked s (registers_of i.c 1))) ≡ misuses i s
atmod_misuses i s is =
    let a = aligned (value s i.a) in
    let datas = registers_of i.b 1 ++ registers_of i.c 1 in
    sym (still_misused Atmod i s refl is
    ∙ atomic_parts (is_marked s (registers_of i.a 1)) (is_special i.c) (word_mark s.frames.soft a) (is_marked s datas) (touches_port a 4)
    ∙ ap (λ (b : Bool). is_marked s (registers_of i.a 1) || atomic_misused i s b) (list_any-append s.marks (registers_of i.b 1) (registers_of i.c 1)))

-- ---- loads and stores

-- their registers are no special function registers
transfer_registers : (op : Op) (t : Transfer) (o : Operand) → transfer_of op ≡ Some t → takes (row_of op).c o ≡ true → is_special o ≡ false
transfer_registers op t (Reg r) is e = refl
transfer_registers op t (Lit l) is e = refl
transfer_registers Lda t (Sfr j) is e = absurd cc
transfer_registers _ t (Sfr j) is e = cc

transfer_plain : (i : Inst) (t : Transfer) → IsValid i → transfer_of i.op ≡ Some t → is_special i.c ≡ false
transfer_plain i t valid is = transfer_registers i.op t i.c is valid.c

-- a load or a store uses its address, and a store to the port page its data
pub transfer_misuses : (i : Inst) (s : State) (t : Transfer) → IsValid i → transfer_of i.op ≡ Some t
    → (is_marked s (address_registers i.ea) || stored_out t.direction t.size i s) ≡ misuses i s
unfolding misuses
transfer_misuses i s t valid is =
    sym (ap (λ (o : Option Transfer). is_marked s (deciding_by o i s) || ((is_special i.c && list_any (λ (b : Bool). b) (marks_by o i s)) || goes_out_by o i s)) is
    ∙ ap (λ (b : Bool). is_marked s (address_registers i.ea) || ((b && list_any (λ (x : Bool). x) (marks_by (Some t) i s)) || stored_out t.direction t.size i s)) (transfer_plain i t valid is))

pub address_misused : (i : Inst) (s : State) (t : Transfer) → IsValid i → transfer_of i.op ≡ Some t → is_marked s (address_registers i.ea) ≡ true → true ≡ misuses i s
address_misused i s t valid is marked = grind (arith, transfer_misuses i s t valid is)

pub data_misused : (i : Inst) (s : State) (t : Transfer) → IsValid i → transfer_of i.op ≡ Some t → is_marked s (address_registers i.ea) ≡ false → stored_out t.direction t.size i s ≡ misuses i s
data_misused i s t valid is none = sym (ap (λ (b : Bool). b || stored_out t.direction t.size i s) none) ∙ transfer_misuses i s t valid is

-- what goes out where the data are marked
pub data_goes_out : (d : Direction) (size : Size) (i : Inst) (s : State) → d ≡ directions.Store → is_marked s (registers_of i.c (register_count size)) ≡ true → touches_port (address s i.ea) (byte_count size) ≡ stored_out d size i s
data_goes_out directions.Store size i s is marked = sym (ap (λ (b : Bool). b && touches_port (address s i.ea) (byte_count size)) marked)
data_goes_out directions.Load size i s is marked = absurd cc

-- ---- where no register is marked

abbrev pub NoMarks : State → Type 0
NoMarks s = (r : ℕ) → s.marks r ≡ false

pub zero_marks : (s : State) (w : ℕ) → bit w ≡ s.marks → w ≡ 0 → NoMarks s
zero_marks s w marks none r = ap (λ (f : ℕ → Bool). f r) (sym marks) ∙ ap (λ (x : ℕ). bit x r) none ∙ bit_none r

-- no atomic instruction passes others
pub not_atomic : (op : Op) → is_barrier_name op ≡ false → is_atomic op ≡ false
not_atomic Lda none = refl
not_atomic _ none = cc

pub none_marked : (s : State) (rs : List ℕ) → NoMarks s → is_marked s rs ≡ false
none_marked s [] none = refl
none_marked s (r ∷ rs) none = ap (λ (b : Bool). b || is_marked s rs) (none r) ∙ none_marked s rs none

clean_marks : (op : Op) (i : Inst) (s : State) → NoMarks s → is_atomic op ≡ false → list_any (λ (b : Bool). b) (marks_by_name op i s) ≡ false
clean_marks Lda i s none plain = ap (λ (b : Bool). b || false) (none_marked s (address_registers i.ea) none)
clean_marks Atadd i s none plain = absurd cc
clean_marks Atmod i s none plain = absurd cc
clean_marks _ i s none plain = any_result i s ∙ ap (λ (b : Bool). not (destination_words i.op == 0) && b) (none_marked s (sources i) none) ∙ and_none (not (destination_words i.op == 0))

clean_out : (op : Op) (i : Inst) (s : State) → is_atomic op ≡ false → goes_out op i s ≡ false
clean_out Atadd i s plain = absurd cc
clean_out _ i s plain = cc

clean_stored : (d : Direction) (size : Size) (i : Inst) (s : State) → NoMarks s → stored_out d size i s ≡ false
clean_stored directions.Load size i s none = refl
clean_stored directions.Store size i s none = ap (λ (b : Bool). b && touches_port (address s i.ea) (byte_count size)) (none_marked s (registers_of i.c (register_count size)) none)

-- nothing is misused, but by an atomic instruction
pub clean_misuses : (i : Inst) (s : State) → IsValid i → NoMarks s → is_atomic i.op ≡ false → misuses i s ≡ false
clean_misuses i s valid none plain = by (transfer_of i.op) refl
  where
    by : (o : Option Transfer) → transfer_of i.op ≡ o → misuses i s ≡ false
    by (Some t) is =
        sym (transfer_misuses i s t valid is)
        ∙ ap (λ (b : Bool). b || stored_out t.direction t.size i s) (none_marked s (address_registers i.ea) none)
        ∙ clean_stored t.direction t.size i s none
    by None is =
        still_misused i.op i s is refl
        ∙ ap (λ (b : Bool). b || ((is_special i.c && list_any (λ (x : Bool). x) (marks_by_name i.op i s)) || goes_out i.op i s)) (none_marked s (deciding i.op i s) none)
        ∙ ap (λ (b : Bool). (is_special i.c && b) || goes_out i.op i s) (clean_marks i.op i s none plain)
        ∙ ap (λ (b : Bool). b || goes_out i.op i s) (and_none (is_special i.c))
        ∙ clean_out i.op i s plain
