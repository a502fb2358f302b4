-- What waits for all before it: a barrier, whatever it comes to, a word that is refused, a hazard, and a fault that is
-- raised before anything is done; and what others need.
use Rattle.std.proofs.Common.{◌≡◌, ℕ, ◌+◌, ◌*◌, Bool, true, false, cond, Option, Some, None, Ok, refl, sym, ap, ◌∙◌, subst, arith}
use Rattle.std.specs.Prelude.{not, ◌||◌, ◌==◌, if◌then◌else◌}
use Rattle.std.specs.Option.{is_some}
use Rattle.i9_isa.specs.declared.op.Op.{Op}
use Rattle.i9_isa.specs.declared.op.Op.TheVariants.{Lda}
use Rattle.i9_isa.specs.Costs.{latency_of}
use Rattle.i9_isa.specs.Valid.{IsValid}
use Rattle.i9_isa.specs.Words.{words_of}
use Rattle.i9_isa.specs.declared.inst.Inst.{Inst}
use Rattle.i9_model.specs.declared.faults.TheConstants.{ARITHMETIC}
use Rattle.i9_model.specs.State.{State}
use Rattle.i9_model.specs.Access.{hazard_of}
use Rattle.i9_model.specs.Stale.{misuses}
use Rattle.i9_model.specs.Needs.{has_access, moves_frames, is_barrier_name, writes_sfr, inst_need}
use Rattle.i9_model.specs.Standing.{Standing, Meets, Refused, Faults, Runs, word_fault, raised_in, later_fault, by_access, by_later, by_raised, by_word, by_fetch, stands_at}
use Rattle.i9_model.specs.HeldFrames.{Cache, sets_in}
use Rattle.i9_model.specs.Traced.{traced_action}
use Rattle.i9_model.specs.Run.{Instruction, next_by_standing}
use Rattle.i9_course.specs.NeedOf.{facts_of, frames_of, need_of, need_ahead}
use Rattle.i9_plan.specs.declared.decode_cache.DecodeCache.{DecodeCache}
use Rattle.i9_plan.specs.declared.kept.Kept.{Kept}
use Rattle.i9_plan.specs.declared.fetched.Unread.{Unread}
use Rattle.i9_plan.specs.declared.fetched.Unread.TheVariants as unreads
use Rattle.i9_plan.specs.declared.outcome.Outcome.{Outcome}
use Rattle.i9_plan.specs.declared.outcome.Outcome.TheVariants as outcomes
use Rattle.i9_plan.specs.Kept.{last_of, inst_in}
use Rattle.i9_plan.specs.Planned.{TellsWords, IsRead, IsUnread, standing_in}
use Rattle.i9_plan.specs.Open.{WaitsForAll, IsNoBarrier, NeedsAhead}

-- ---- which wait

-- a barrier by its name, or by a special function register that it writes
abbrev pub IsBarrier : Inst → Type 0
IsBarrier i = (is_barrier_name i.op || writes_sfr i) ≡ true

runs_waits : (i : Inst) (s : State) → IsBarrier i → WaitsForAll s (Runs i)
unfolding need_of
runs_waits i s b asked c = grind arith

faults_waits : (i : Inst) (s : State) (number : ℕ × ℕ) → IsBarrier i → WaitsForAll s (Faults i number)
unfolding need_of
faults_waits i s number b asked c = grind arith

meets_waits : (s : State) (a : ℕ) → WaitsForAll s (Meets a)
meets_waits s a asked c = refl

refused_waits : (s : State) (number : ℕ × ℕ) → WaitsForAll s (Refused number)
unfolding need_of
refused_waits s number asked c = refl

early_waits : (i : Inst) (s : State) (number : ℕ × ℕ) → (number.0 == ARITHMETIC) ≡ false
    → WaitsForAll s (Faults i number)
unfolding need_of
early_waits i s number early asked c = grind arith

access_waits : (i : Inst) (s : State) (h : Option ℕ) → IsBarrier i → WaitsForAll s (by_access i h)
access_waits i s None b = runs_waits i s b
access_waits i s (Some a) b = meets_waits s a

later_waits : (i : Inst) (s : State) (f : Option (ℕ × ℕ)) → IsBarrier i → WaitsForAll s (by_later i s f)
later_waits i s None b = access_waits i s (hazard_of i s) b
later_waits i s (Some number) b = faults_waits i s number b

raised_waits : (i : Inst) (s : State) (f : Option (ℕ × ℕ)) → IsBarrier i → WaitsForAll s (by_raised i s f)
raised_waits i s None b = later_waits i s (later_fault i s) b
raised_waits i s (Some number) b = faults_waits i s number b

word_waits : (i : Inst) (s : State) → IsBarrier i → WaitsForAll s (by_word s (Ok i))
word_waits i s b = by (misuses i s)
  where
    by : (m : Bool) → WaitsForAll s (cond m (Meets s.ip) (by_raised i s (raised_in i s)))
    by true = meets_waits s s.ip
    by false = raised_waits i s (raised_in i s) b

-- ---- what stands there

-- what was read stays so while the instruction does
pub still_read : (s : State) (m n : DecodeCache) → last_of n ≡ last_of m → IsRead s m → IsRead s n
still_read s m n e read = record {
  clear = read.clear;
  read = read.read ∙ sym (ap (λ (k : Kept). Ok k.inst) e);
  valid = subst (λ (k : Kept). IsValid k.inst) (sym e) read.valid;
  words = subst (λ (k : Kept). TellsWords (words_of k.inst) s k.words) (sym e) read.words;
}

-- by an instruction that is read
pub read_stands : (s : State) (m : DecodeCache) → IsRead s m → stands_at s ≡ by_word s (Ok (inst_in m))
unfolding stands_at
read_stands s m read = ap (by_fetch s) read.clear ∙ ap (by_word s) read.read

pub barrier_waits : (s : State) (m : DecodeCache) → IsRead s m → IsBarrier (inst_in m) → WaitsForAll s (stands_at s)
barrier_waits s m read b =
    subst (WaitsForAll s) (sym (read_stands s m read)) (word_waits (inst_in m) s b)

-- where none is read
pub unread_waits : (s : State) (e : Unread) → IsUnread s e → WaitsForAll s (stands_at s)
unfolding stands_at
unread_waits s (unreads.Meets a) meets = subst (WaitsForAll s) (sym (ap (by_fetch s) meets)) (meets_waits s a)
unread_waits s (unreads.Refused first why) is =
    subst (WaitsForAll s) (sym (ap (by_fetch s) is.0 ∙ ap (by_word s) is.1)) (refused_waits s (word_fault why))

-- by what it comes to: a hazard, or a fault that is raised before anything is done
abbrev pub Stops : Outcome → Type 0
Stops (outcomes.Meets a) = Unit {0}
Stops (outcomes.Faults number) = (number.0 == ARITHMETIC) ≡ false
Stops outcomes.Runs = ⊥

stop_waits : (s : State) (i : Inst) (o : Outcome) → Stops o → WaitsForAll s (standing_in i o)
stop_waits s i (outcomes.Meets a) stops = meets_waits s a
stop_waits s i (outcomes.Faults number) stops = early_waits i s number stops
stop_waits s i outcomes.Runs stops = absurd stops

-- what the instruction that was read comes to is what stands there
pub outcome_stands : (s : State) (m : DecodeCache) (i : Inst) (o : Outcome) → IsRead s m → i ≡ inst_in m
    → standing_in i o ≡ by_word s (Ok i) → stands_at s ≡ standing_in (inst_in m) o
outcome_stands s m i o read is stands =
    read_stands s m read ∙ sym (subst (λ (x : Inst). standing_in x o ≡ by_word s (Ok x)) is stands)

pub outcome_waits : (s : State) (m : DecodeCache) (i : Inst) (o : Outcome) → IsRead s m → i ≡ inst_in m
    → standing_in i o ≡ by_word s (Ok i) → Stops o → WaitsForAll s (stands_at s)
outcome_waits s m i o read is stands stops =
    subst (WaitsForAll s) (sym (outcome_stands s m i o read is stands)) (stop_waits s (inst_in m) o stops)

-- ---- which do not

pub no_barrier : (i : Inst) → (is_barrier_name i.op || writes_sfr i) ≡ false → IsNoBarrier i
no_barrier i h =
    record { named = grind arith; written = grind arith }

-- ---- what is needed

frames_move : (op : Op) → is_barrier_name op ≡ false → moves_frames op ≡ false
frames_move Lda e = refl
frames_move _ e = cc

not_counted : (b : Bool) (n : ℕ) → b ≡ false → (if b then n else 0) ≡ (if b then 0 else 0)
not_counted b n e = grind arith

-- frames count for nothing where no barrier moves them
frames_free : (i : Inst) (s : State) (n : ℕ) (trace : Bool) → is_barrier_name i.op ≡ false
    → inst_need i (facts_of i s n false trace) ≡ inst_need i (facts_of i s 0 false trace)
frames_free i s n trace named =
    let need = inst_need i (facts_of i s 0 false trace) in
    let turns = latency_of i.op + (if has_access i.op then (facts_of i s 0 false trace).waits else 0) in
    ap (λ (k : ℕ). record need { cost = turns + 16 * k }) (not_counted (moves_frames i.op) n (frames_move i.op named))

runs_need : (i : Inst) (s : State) → is_barrier_name i.op ≡ false → (asked : Option ℕ) (c : Cache)
    → need_ahead asked c (next_by_standing s (Runs i))
    ≡ inst_need i (facts_of i s 0 false (is_some (traced_action i s).trace))
unfolding need_of
runs_need i s named asked c = frames_free i s (frames_of (sets_in asked s) c s (Instruction i)) _ named

faults_need : (i : Inst) (s : State) (number : ℕ × ℕ) → number.0 ≡ ARITHMETIC → (asked : Option ℕ) (c : Cache)
    → need_ahead asked c (next_by_standing s (Faults i number)) ≡ inst_need i (facts_of i s 0 false false)
unfolding need_of
faults_need i s number late asked c =
    ap (λ (kind : ℕ). inst_need i (facts_of i s 0 (not (kind == ARITHMETIC)) false)) late

pub runs_needs : (i : Inst) (s : State) → stands_at s ≡ Runs i → IsNoBarrier i
    → NeedsAhead s (inst_need i (facts_of i s 0 false (is_some (traced_action i s).trace)))
runs_needs i s stands apart asked c =
    ap (λ (x : Standing). need_ahead asked c (next_by_standing s x)) stands ∙ runs_need i s apart.named asked c

pub faults_needs : (i : Inst) (s : State) (number : ℕ × ℕ) → stands_at s ≡ Faults i number → number.0 ≡ ARITHMETIC
    → NeedsAhead s (inst_need i (facts_of i s 0 false false))
faults_needs i s number stands late asked c =
    ap (λ (x : Standing). need_ahead asked c (next_by_standing s x)) stands ∙ faults_need i s number late asked c
