-- What comes next while something is open.
use Rattle.std.specs.Prelude.{◌≡◌, ◌⊎◌, ℕ, ◌<◌, ◌≤◌, true, Option, Some, None, Ok, IsTrue}
use Rattle.i9_model.specs.declared.need.Need.{Need}
use Rattle.i9_model.specs.declared.run.Due.{Due}
use Rattle.i9_model.specs.Before.{choice_in}
use Rattle.i9_model.specs.HeldFrames.{Cache}
use Rattle.i9_schedule.specs.Plan.{Plan}
use Rattle.i9_model.specs.Run.{Kind, Instruction, Faulted, fault_at}
use Rattle.i9_model.specs.Turns.{HasCost, waiting_until}
use Rattle.i9_course.specs.NeedOf.{need_of, need_ahead}
use Rattle.i9_plan.specs.declared.decode_cache.DecodeCache.{DecodeCache}
use Rattle.i9_plan.specs.declared.open.Open.{Open}
use Rattle.i9_plan.specs.declared.open.Open.TheVariants as opens
use Rattle.i9_plan.specs.Kept.{inst_in}
use Rattle.i9_plan.specs.Open.{NeedsAhead}
use Rattle.i9_machine.specs.Contents.{Situation}
use Rattle.i9_pipeline.specs.Issuing.{most_turns}
use Rattle.i9_machine.specs.Step.{turn_at, event_for, next_for}

-- nothing comes before the instruction at the instruction address but an event whose time has come
pub record IsFreeToIssue (at : Situation) : Type 0 where
  pub due : at.due ≡ Due.Nothing
  pub below : at.state.count < at.length
  pub chosen : choice_in at.state ≡ Ok None

-- Where nothing is open, the turn has come at which the instruction would issue; and it is not past where the
-- instruction comes next.
pub record IsTimely (at : Situation) (turn : ℕ) (plan : Plan) : Type 0 where
  pub come : turn_at at ≤ turn
  pub early : IsFreeToIssue at → event_for at plan ≡ None → turn ≤ turn_at at

-- what comes next is a barrier, whatever number of sets is asked for and whatever is held, or stands behind one that is
-- open, since software's requests are to be looked at
abbrev pub NextWaits : Situation → Plan → Type 0
NextWaits at plan =
    (at.state.check ≡ true) ⊎ ((asked : Option ℕ) (c : Cache) → IsTrue (need_ahead asked c (next_for at plan)).barrier)

-- ---- the need that is kept

-- a need that is kept has a cost, stands behind the last fence, at this turn, and waits for no turn of its own
pub record HasKept (floor : ℕ) (kept : Need) : Type 0 where
  pub need : Need
  pub fenced : kept ≡ waiting_until floor need
  pub some : HasCost need
  pub cost : need.cost ≤ most_turns
  pub none : need.not_before ≡ 0

-- it is that of the instruction at the instruction address, as a record of this kind
pub record HasNeed (at : Situation) (kind : Kind) (kept : Need) : Type 0 where
  pub need : Need
  pub fenced : kept ≡ waiting_until at.floor need
  pub is_need : need ≡ need_of at.size at.cache at.state kind
  pub cost : need.cost ≤ most_turns
  pub ahead : NeedsAhead at.state need

-- where what stands there does not wait
abbrev pub HasOpenNeed : Situation → Open → DecodeCache → Need → Type 0
HasOpenNeed at (opens.Waits read) decodes kept = Unit {0}
HasOpenNeed at opens.Runs decodes kept = HasNeed at (Instruction (inst_in decodes)) kept
HasOpenNeed at (opens.Faults number) decodes kept =
    HasNeed at (Faulted (Some (inst_in decodes)) (fault_at at.state number)) kept
