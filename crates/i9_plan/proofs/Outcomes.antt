-- What an instruction comes to that raises nothing before it does anything: by its result, by its condition, or by its
-- access alone.
use Rattle.std.proofs.Common.{◌≡◌, ℕ, Bool, true, false, cond, ◌&&◌, List, [], replicate, Option, Some, None, Result, Ok, refl, sym, ap, ◌∙◌, subst}
use Rattle.std.specs.Prelude.{is_some, not, ◌||◌}
use Rattle.std.specs.Option.{option_map}
use Rattle.std.proofs.lemmas.Bool.{or_right, and_left, and_from, and_parts, cond-true, cond-false}
use Rattle.i9_isa.specs.declared.op.Op.{Op}
use Rattle.i9_isa.specs.declared.op.Op.TheVariants.{Lda, Atadd, Atmod, Bx, Balx, Bal, Call, Callx, Calls, Ret, Flushreg, Modac, Modtc, Modpc, Sysctl, Sdma}
use Rattle.i9_isa.specs.declared.inst.Inst.{Inst}
use Rattle.i9_isa.specs.declared.size.Transfer.{Transfer}
use Rattle.i9_isa.specs.Transfers.{transfer_of, byte_count}
use Rattle.i9_isa.specs.declared.size.Direction.{Direction}
use Rattle.i9_model.specs.declared.arith.Arith.{Arith}
use Rattle.i9_model.specs.declared.faults.TheConstants.{CONSTRAINT, RANGE, TYPE, MISMATCH, OPERATION, INVALID_OPERAND, PROTECTION, LENGTH, UNALIGNED}
use Rattle.i9_model.specs.State.{State}
use Rattle.i9_isa.specs.declared.inst.Operand.{Operand}
use Rattle.i9_isa.specs.declared.inst.Operand.TheVariants.{Reg, Lit, Sfr}
use Rattle.i9_model.specs.Operands.{value, address, assigned, interrupts_assigned, dma_assigned}
use Rattle.i9_model.specs.Branches.{is_taken}
use Rattle.i9_model.specs.Needs.{is_barrier_name, has_access}
use Rattle.i9_model.specs.Results.{Answer, words, has_result, destination_words}
use Rattle.i9_model.specs.Stale.{misuses, marks_for, marks_of, sources, is_marked, moves_words}
use Rattle.i9_model.specs.Step.{Action, passing, destination, answer_in, resulting, branching, action_by_name, action_by, action_of}
use Rattle.i9_model.specs.Access.{NoAccess, moved_access, access_by_name, access_by, access_of, data_of, hazard_in, hazard_of}
use Rattle.i9_model.specs.Calls.{in_supervisor_mode}
use Rattle.i9_model.specs.Faults.{is_supervisor_only, uses_special, is_invalid, is_past_table, is_unaligned, raised}
use Rattle.i9_model.specs.Standing.{Standing, Meets, Faults, Runs, arithmetic_fault, answer_fault, is_fault_name, range_fault, raised_in, first_fault, by_access, by_later, by_raised, by_word}
use Rattle.i9_processor.specs.declared.effect.Effect.{Effect}
use Rattle.i9_processor.specs.Effect.{IsEffect}
use Rattle.i9_plan.specs.Names.{is_branch}
use Rattle.i9_plan.specs.Planned.{IsPlanFor}
use Rattle.i9_plan.proofs.KnownFacts.{no_access, none_of}

-- ---- what names do and access

-- a name with a result moves nothing and faults by no condition
result_kind : (op : Op) (i : Inst) (s : State) → has_result op ≡ true
    → (transfer_of op ≡ None) × (is_fault_name op ≡ false) × (action_by_name op i s ≡ resulting i s (answer_in i s)) × (access_by_name op i s ≡ NoAccess)
result_kind Lda i s t = absurd cc
result_kind _ i s t = (cc, cc, cc, cc)

branch_kind : (op : Op) (i : Inst) (s : State) → is_branch op ≡ true
    → (transfer_of op ≡ None) × (has_result op ≡ false) × (action_by_name op i s ≡ branching i s) × (access_by_name op i s ≡ NoAccess)
branch_kind Lda i s t = absurd cc
branch_kind _ i s t = (cc, cc, cc, cc)

fault_branches : (op : Op) → is_branch op ≡ false → is_fault_name op ≡ false
fault_branches Lda e = refl
fault_branches _ e = cc

-- a barrier neither moves data, nor branches, nor has a result
pub barrier_kind : (op : Op) → is_barrier_name op ≡ true → (transfer_of op ≡ None) × (has_result op ≡ false) × (is_branch op ≡ false)
barrier_kind Lda b = absurd cc
barrier_kind _ b = (cc, cc, cc)

-- what needs no supervisor mode, and whose source names nothing that there is not
abbrev Unasked : Op → ℕ → ℕ → Type 0
Unasked op a b = (is_supervisor_only op b ≡ false) × (is_invalid op a ≡ false) × (is_past_table op a ≡ false)

moved_kind : (op : Op) (t : Transfer) (a b : ℕ) → transfer_of op ≡ Some t → Unasked op a b × (has_result op ≡ false) × (is_branch op ≡ false)
moved_kind Lda t a b e = absurd cc
moved_kind _ t a b e = ((cc, cc, cc), cc, cc)

still_kind : (op : Op) (a b : ℕ) → is_barrier_name op ≡ false → transfer_of op ≡ None → Unasked op a b × (has_access op ≡ false)
still_kind Lda a b e f = ((refl, refl, refl), refl)
still_kind _ a b e f = ((cc, cc, cc), cc)

-- a name that moves nothing between registers and memory goes by itself
pub by_itself : (i : Inst) (s : State) → transfer_of i.op ≡ None → action_of i s ≡ action_by_name i.op i s
unfolding action_of
by_itself i s none = ap (λ (t : Option Transfer). action_by t i s) none

no_hazard : (i : Inst) (s : State) → transfer_of i.op ≡ None → access_by_name i.op i s ≡ NoAccess → hazard_of i s ≡ None
unfolding hazard_of
no_hazard i s none access = ap (λ (t : Option Transfer). hazard_in s (access_by t i s)) none ∙ ap (hazard_in s) access

-- ---- what is raised before they do anything

-- what is raised outside supervisor mode, or by what src1 names, or by an access
abbrev pub fault_by : (m v u q r : Bool) → Option (ℕ × ℕ) → ℕ → Option (ℕ × ℕ)
fault_by m v u q r access config =
    cond (m && (v || u)) (Some (TYPE, MISMATCH))
    (cond q (Some (OPERATION, INVALID_OPERAND))
    (cond r (Some (PROTECTION, LENGTH))
    (cond (is_unaligned access config) (Some (OPERATION, UNALIGNED)) None)))

-- by a special function register that is used, or by an access
unasked_raises : (i : Inst) (s : State) (access : Option (ℕ × ℕ)) → Unasked i.op (value s i.a) (value s i.b) → data_of (access_of i s) ≡ access
    → raised_in i s ≡ fault_by (not (in_supervisor_mode s.pc)) false (uses_special i) false false access s.tables.fault_config
unfolding raised
unasked_raises i s access none accessed = rw (accessed, none.2, none.1, none.0)

-- no special function register is used outside supervisor mode
abbrev Matches : Inst → State → Type 0
Matches i s = (not (in_supervisor_mode s.pc) && uses_special i) ≡ false

-- an instruction that is no barrier, and no load or store, raises nothing before it does anything
pub still_calm : (i : Inst) (s : State) → Matches i s → is_barrier_name i.op ≡ false → transfer_of i.op ≡ None → raised_in i s ≡ None
still_calm i s fits b still =
    let kind = still_kind i.op (value s i.a) (value s i.b) b still in
    unasked_raises i s None kind.0 (no_access i s kind.1) ∙ cond-false _ _ _ fits

moved_data : (d : Direction) (a n : ℕ) → data_of (moved_access d a n) ≡ Some (a, n)
moved_data Direction.Load a n = refl
moved_data Direction.Store a n = refl

-- a load or a store raises by a special function register that it uses, or by its access alone
pub transfer_raises : (i : Inst) (s : State) (t : Transfer) → transfer_of i.op ≡ Some t
    → fault_by (not (in_supervisor_mode s.pc)) false (uses_special i) false false (Some (address s i.ea, byte_count t.size)) s.tables.fault_config
    ≡ raised_in i s
transfer_raises i s t e =
    let accessed = ap (λ (o : Option Transfer). data_of (access_by o i s)) e ∙ moved_data t.direction (address s i.ea) (byte_count t.size) in
    sym (unasked_raises i s _ (moved_kind i.op t (value s i.a) (value s i.b) e).0 accessed)

-- where one is used there, that is what is raised
pub mismatch_raised : (i : Inst) (s : State) → (not (in_supervisor_mode s.pc) && uses_special i) ≡ true → raised_in i s ≡ Some (TYPE, MISMATCH)
unfolding raised
mismatch_raised i s used =
    let m = not (in_supervisor_mode s.pc) in
    let v = is_supervisor_only i.op (value s i.b) in
    let both = and_parts m (uses_special i) used in
    cond-true (m && (v || uses_special i)) _ _ (and_from m (v || uses_special i) both.0 (or_right v (uses_special i) both.1))

-- ---- by its result

-- what an instruction comes to whose result is this fault, or none
abbrev pub by_result : Inst → Option Arith → Standing
by_result i None = Runs i
by_result i (Some f) = Faults i (arithmetic_fault f)

result_by : (i : Inst) (s : State) (f : Option Arith) (r : Option (ℕ × ℕ)) → r ≡ None → hazard_of i s ≡ None
    → by_later i s (first_fault (option_map arithmetic_fault f) r) ≡ by_result i f
result_by i s None r none clear = ap (by_later i s) none ∙ ap (by_access i) clear
result_by i s (Some f) r none clear = refl

no_range : (b c : Bool) → b ≡ false → ◌≡◌ {A = Option (ℕ × ℕ)} (cond (b && c) (Some (CONSTRAINT, RANGE)) None) None
no_range b c e = cond-false (b && c) _ _ (and_left b c e)

pub result_stands : (i : Inst) (s : State) (r : Answer) → has_result i.op ≡ true → Some r ≡ answer_in i s → by_raised i s None ≡ by_result i r.fault
result_stands i s r t e =
    let kind = result_kind i.op i s t in
    ap (λ (o : Option Answer). by_later i s (first_fault (answer_fault o) (range_fault i s))) (sym e)
    ∙ result_by i s r.fault (range_fault i s) (no_range _ _ kind.1) (no_hazard i s kind.0 kind.3)

pub result_does : (i : Inst) (s : State) (r : Answer) → has_result i.op ≡ true → Some r ≡ answer_in i s → resulting i s (Some r) ≡ action_of i s
result_does i s r t e =
    let kind = result_kind i.op i s t in
    ap (resulting i s) e ∙ sym (by_itself i s kind.0 ∙ kind.2)

-- ---- by its condition

-- where nothing has a result, only the condition may fault
calm_answer : (i : Inst) (s : State) → answer_in i s ≡ None → by_raised i s None ≡ by_later i s (range_fault i s)
calm_answer i s none =
    ap (λ (o : Option Answer). by_later i s (first_fault (answer_fault o) (range_fault i s))) none

ranged : (i : Inst) (s : State) (b : Bool) → hazard_of i s ≡ None → by_later i s (cond b (Some (CONSTRAINT, RANGE)) None) ≡ cond b (Faults i (CONSTRAINT, RANGE)) (Runs i)
ranged i s true clear = refl
ranged i s false clear = ap (by_access i) clear

pub branch_stands : (i : Inst) (s : State) → is_branch i.op ≡ true → is_some (answer_in i s) ≡ has_result i.op
    → by_raised i s None ≡ cond (is_fault_name i.op && is_taken i (value s i.a) (value s i.b) s.ac) (Faults i (CONSTRAINT, RANGE)) (Runs i)
branch_stands i s t e =
    let kind = branch_kind i.op i s t in
    calm_answer i s (none_of (answer_in i s) (e ∙ kind.1)) ∙ ranged i s _ (no_hazard i s kind.0 kind.3)

pub branch_does : (i : Inst) (s : State) → is_branch i.op ≡ true → branching i s ≡ action_of i s
branch_does i s t =
    let kind = branch_kind i.op i s t in
    sym (by_itself i s kind.0 ∙ kind.2)

-- ---- by its access alone

pub plain_stands : (i : Inst) (s : State) → has_result i.op ≡ false → is_branch i.op ≡ false → is_some (answer_in i s) ≡ has_result i.op → by_raised i s None ≡ by_access i (hazard_of i s)
plain_stands i s r b e =
    calm_answer i s (none_of (answer_in i s) (e ∙ r)) ∙ ap (by_later i s) (no_range _ _ (fault_branches i.op b))

-- where it goes by its name alone
pub named_stands : (i : Inst) (s : State) (h : Option ℕ) → has_result i.op ≡ false → is_branch i.op ≡ false
    → transfer_of i.op ≡ None → is_some (answer_in i s) ≡ has_result i.op → hazard_in s (access_by_name i.op i s) ≡ h → by_raised i s None ≡ by_access i h
unfolding hazard_of
named_stands i s h r b still answers is =
    plain_stands i s r b answers
    ∙ ap (λ (t : Option Transfer). by_access i (hazard_in s (access_by t i s))) still
    ∙ ap (by_access i) is

pub named_does : (i : Inst) (s : State) (e : Effect) → transfer_of i.op ≡ None
    → IsEffect s (action_by_name i.op i s) e → IsEffect s (action_of i s) e
named_does i s e still is = subst (λ (a : Action). IsEffect s a e) (sym (by_itself i s still)) is

-- where it is a load or a store
pub transfer_stands : (i : Inst) (s : State) (t : Transfer) (h : Option ℕ) → transfer_of i.op ≡ Some t
    → is_some (answer_in i s) ≡ has_result i.op → hazard_in s (moved_access t.direction (address s i.ea) (byte_count t.size)) ≡ h
    → by_raised i s None ≡ by_access i h
unfolding hazard_of
transfer_stands i s t h e answers is =
    let kind = moved_kind i.op t (value s i.a) (value s i.b) e in
    plain_stands i s kind.1 kind.2 answers
    ∙ ap (λ (o : Option Transfer). by_access i (hazard_in s (access_by o i s))) e
    ∙ ap (by_access i) is

-- what an instruction of a name comes to
pub by_name : (n : Op) (i : Inst) (s : State) (r : Result Effect ℕ) → i.op ≡ n → IsPlanFor s (access_by_name n i s) (action_by_name n i s) r → IsPlanFor s (access_by_name i.op i s) (action_by_name i.op i s) r
by_name n i s r is planned = subst (λ (op : Op). IsPlanFor s (access_by_name op i s) (action_by_name op i s) r) (sym is) planned

-- names that have nothing to write, and that access nothing
abbrev pub DoesNothing : Op → Inst → State → Type 0
DoesNothing op i s = (destination_words op ≡ 0) × (action_by_name op i s ≡ resulting i s (answer_in i s)) × (access_by_name op i s ≡ NoAccess)

-- one that is no barrier, and neither moves data, nor branches, nor has a result, but for four that go to an address, or
-- answer with one
pub plain_nothing : (op : Op) (i : Inst) (s : State) → is_barrier_name op ≡ false → transfer_of op ≡ None → has_result op ≡ false → is_branch op ≡ false
    → (op ≡ Lda → ⊥) → (op ≡ Bx → ⊥) → (op ≡ Balx → ⊥) → (op ≡ Bal → ⊥) → DoesNothing op i s
plain_nothing Lda i s e f g h l x y z = absurd (l refl)
plain_nothing Bx i s e f g h l x y z = absurd (x refl)
plain_nothing Balx i s e f g h l x y z = absurd (y refl)
plain_nothing Bal i s e f g h l x y z = absurd (z refl)
plain_nothing _ i s e f g h l x y z = (cc, cc, cc)

-- none of the barriers that do something of their own
abbrev pub IsOther : Op → Type 0
IsOther op = (op ≡ Atadd → ⊥) × (op ≡ Atmod → ⊥) × (op ≡ Call → ⊥) × (op ≡ Callx → ⊥) × (op ≡ Calls → ⊥) × (op ≡ Ret → ⊥)
    × (op ≡ Flushreg → ⊥) × (op ≡ Modac → ⊥) × (op ≡ Modtc → ⊥) × (op ≡ Modpc → ⊥) × (op ≡ Sdma → ⊥) × (op ≡ Sysctl → ⊥)

-- every other name does nothing, where it neither branches nor has a result
nothing_to : (o : Operand) (i : Inst) (s : State)
    → record (passing i s) { sets = assigned o []; interrupts = interrupts_assigned o [] s.interrupts; dma = dma_assigned o [] s.dma; marked = marks_for o [] }
    ≡ passing i s
nothing_to (Reg r) i s = refl
nothing_to (Lit l) i s = refl
nothing_to (Sfr k) i s = refl

nothing_given : (i : Inst) (s : State) → destination_words i.op ≡ 0 → resulting i s None ≡ passing i s
nothing_given i s none =
    let o = destination i in
    ap (λ (ms : List Bool). record (passing i s) { sets = assigned o []; interrupts = interrupts_assigned o [] s.interrupts; dma = dma_assigned o [] s.dma; marked = marks_for o ms }) (by (moves_words i.op))
    ∙ nothing_to o i s
  where
    by : (m : Bool) → cond m (marks_of s i.a (destination_words i.op)) (replicate (destination_words i.op) (is_marked s (sources i))) ≡ []
    by true = ap (marks_of s i.a) none
    by false = ap (λ (n : ℕ). replicate n (is_marked s (sources i))) none

-- where nothing is written, a result changes the controls alone
pub code_given : (i : Inst) (s : State) (n : ℕ) → destination_words i.op ≡ 0 → resulting i s (Some (words [] n)) ≡ record (passing i s) { ac = n }
code_given i s n none = ap (λ (a : Action). record a { ac = n }) (nothing_given i s none)

pub barrier_nothing : (op : Op) (i : Inst) (s : State) → is_barrier_name op ≡ true → IsOther op → DoesNothing op i s
barrier_nothing Lda i s b other = absurd cc
barrier_nothing Atadd i s b other = absurd (other.0 refl)
barrier_nothing Atmod i s b other = absurd (other.1 refl)
barrier_nothing Call i s b other = absurd (other.2 refl)
barrier_nothing Callx i s b other = absurd (other.3 refl)
barrier_nothing Calls i s b other = absurd (other.4 refl)
barrier_nothing Ret i s b other = absurd (other.5 refl)
barrier_nothing Flushreg i s b other = absurd (other.6 refl)
barrier_nothing Modac i s b other = absurd (other.7 refl)
barrier_nothing Modtc i s b other = absurd (other.8 refl)
barrier_nothing Modpc i s b other = absurd (other.9 refl)
barrier_nothing Sdma i s b other = absurd (other.10 refl)
barrier_nothing Sysctl i s b other = absurd (other.11 refl)
barrier_nothing _ i s b other = (cc, cc, cc)

pub other_plan : (i : Inst) (s : State) (e : Effect) → DoesNothing i.op i s → has_result i.op ≡ false → is_some (answer_in i s) ≡ has_result i.op
    → IsEffect s (passing i s) e → (hazard_in s (access_by_name i.op i s) ≡ None) × IsEffect s (action_by_name i.op i s) e
other_plan i s e nothing r answers is =
    let does = nothing.1 ∙ ap (resulting i s) (none_of (answer_in i s) (answers ∙ r)) ∙ nothing_given i s nothing.0 in
    (ap (hazard_in s) nothing.2, subst (λ (a : Action). IsEffect s a e) (sym does) is)

-- ---- what marks forbid comes first

pub allowed_stands : (i : Inst) (s : State) → misuses i s ≡ false → by_raised i s (raised_in i s) ≡ by_word s (Ok i)
allowed_stands i s allowed = sym (ap (λ (b : Bool). cond b (Meets s.ip) (by_raised i s (raised_in i s))) allowed)

-- ---- barriers

-- one that raises nothing is done, or meets the hazard of its access
pub barrier_stands : (i : Inst) (s : State) (h : Option ℕ) → is_barrier_name i.op ≡ true
    → is_some (answer_in i s) ≡ has_result i.op → hazard_in s (access_by_name i.op i s) ≡ h → by_raised i s None ≡ by_access i h
barrier_stands i s h b answers is =
    let kind = barrier_kind i.op b in
    named_stands i s h kind.1 kind.2 kind.0 answers is

pub barrier_does : (i : Inst) (s : State) (e : Effect) → is_barrier_name i.op ≡ true
    → IsEffect s (action_by_name i.op i s) e → IsEffect s (action_of i s) e
barrier_does i s e b is = named_does i s e (barrier_kind i.op b).0 is
