-- What stands at the instruction address while something is open.
use Rattle.std.specs.Prelude.{◌≡◌, ℕ, true, false, Option, IsTrue}
use Rattle.std.specs.Option.{is_some}
use Rattle.i9_isa.specs.declared.inst.Inst.{Inst}
use Rattle.i9_isa.specs.Valid.{IsValid}
use Rattle.i9_isa.specs.Words.{words_of}
use Rattle.i9_model.specs.declared.faults.TheConstants.{ARITHMETIC}
use Rattle.i9_model.specs.State.{State}
use Rattle.i9_model.specs.declared.need.Need.{Need}
use Rattle.i9_model.specs.Needs.{is_barrier_name, writes_sfr, inst_need}
use Rattle.i9_model.specs.Traced.{traced_action}
use Rattle.i9_model.specs.HeldFrames.{Cache}
use Rattle.i9_model.specs.Standing.{Standing, Faults, Runs, stands_at}
use Rattle.i9_model.specs.Run.{next_by_standing}
use Rattle.i9_course.specs.NeedOf.{facts_of, need_ahead}
use Rattle.i9_processor.specs.declared.effect.Effect.{Effect}
use Rattle.i9_processor.specs.Effect.{IsEffect}
use Rattle.i9_plan.specs.declared.decode_cache.DecodeCache.{DecodeCache}
use Rattle.i9_plan.specs.declared.open.Open.{Open}
use Rattle.i9_plan.specs.declared.open.Open.TheVariants as opens
use Rattle.i9_plan.specs.Kept.{inst_in, words_in, Locates}
use Rattle.i9_plan.specs.Planned.{TellsWords, IsRead, AreRequestsInRow}

-- what stands there waits for all before it, whatever number of sets is asked for, and whatever is held
abbrev pub WaitsForAll : State → Standing → Type 0
WaitsForAll s x = (asked : Option ℕ) (c : Cache) → IsTrue (need_ahead asked c (next_by_standing s x)).barrier

-- an instruction that is no barrier by its name, and that writes no special function register
pub record IsNoBarrier (i : Inst) : Type 0 where
  pub named : is_barrier_name i.op ≡ false
  pub written : writes_sfr i ≡ false

-- what is told to wait does wait, and was read where that is told; an instruction that is told runs, or faults by its
-- result, and is no barrier
abbrev pub OpenStands : State → DecodeCache → Open → Type 0
OpenStands s m (opens.Waits read) = WaitsForAll s (stands_at s) × (read ≡ true → IsRead s m)
OpenStands s m opens.Runs = (stands_at s ≡ Runs (inst_in m)) × IsNoBarrier (inst_in m)
OpenStands s m (opens.Faults number) =
    (stands_at s ≡ Faults (inst_in m) number) × (number.0 ≡ ARITHMETIC) × IsNoBarrier (inst_in m)

-- its words are told, and its effect is its action, with its trace events
abbrev pub OpenPlanned : State → DecodeCache → Open → Effect → Type 0
OpenPlanned s m (opens.Waits read) e = Unit {0}
OpenPlanned s m opens.Runs e =
    TellsWords (words_of (inst_in m)) s (words_in m) × IsEffect s (traced_action (inst_in m) s) e
    × AreRequestsInRow (inst_in m) e × IsValid (inst_in m)
OpenPlanned s m (opens.Faults number) e = TellsWords (words_of (inst_in m)) s (words_in m) × IsValid (inst_in m)

-- where an instruction is told, its load or store was worked out
abbrev pub OpenLocated : State → DecodeCache → Open → Type 0
OpenLocated s m (opens.Waits read) = Unit {0}
OpenLocated s m _ = Locates s m

-- what stands there needs this, whatever number of sets is asked for, and whatever is held
abbrev pub NeedsAhead : State → Need → Type 0
NeedsAhead s need = (asked : Option ℕ) (c : Cache) → need_ahead asked c (next_by_standing s (stands_at s)) ≡ need

-- an instruction that is told moves no frame, and its need is by its facts
abbrev pub OpenNeeds : State → DecodeCache → Open → Type 0
OpenNeeds s m (opens.Waits read) = Unit {0}
OpenNeeds s m opens.Runs = let i = inst_in m in
    NeedsAhead s (inst_need i (facts_of i s 0 false (is_some (traced_action i s).trace)))
OpenNeeds s m (opens.Faults number) = let i = inst_in m in NeedsAhead s (inst_need i (facts_of i s 0 false false))
