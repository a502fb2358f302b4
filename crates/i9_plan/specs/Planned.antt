-- What is planned, in the plain forms of the definitions.
use Rattle.std.specs.Prelude.{◌≡◌, ℕ, ◌==◌, true, if◌then◌else◌, Option, Some, None, Result, Ok, Err}
use Rattle.i9_isa.specs.declared.inst.Inst.{Inst}
use Rattle.i9_isa.specs.Valid.{IsValid}
use Rattle.i9_isa.specs.Words.{words_of, decoded}
use Rattle.i9_model.specs.declared.faults.Fault.{Fault}
use Rattle.i9_model.specs.declared.faults.Entry.{Entry}
use Rattle.i9_model.specs.declared.faults.FaultStop.{FaultStop}
use Rattle.i9_model.specs.State.{State}
use Rattle.i9_model.specs.declared.event.Event.{Event}
use Rattle.i9_model.specs.declared.interrupts.Chosen.{Chosen}
use Rattle.i9_model.specs.Step.{Action, Message, passing, pushing, message_action, entering, action_of, first_word}
use Rattle.i9_model.specs.Step.{next_word}
use Rattle.i9_model.specs.Needs.{is_request_name}
use Rattle.i9_model.specs.Traced.{traced_action}
use Rattle.i9_model.specs.Interrupts.{record_writes}
use Rattle.i9_model.specs.Before.{Received, interrupt_in, interrupting, received_in, receiving}
use Rattle.i9_model.specs.Access.{Access, message_access, hazard_in, fetch_hazard}
use Rattle.i9_model.specs.Standing as plain
use Rattle.i9_model.specs.Run.{entry_in}
use Rattle.i9_processor.specs.declared.effect.Effect.{Effect}
use Rattle.i9_processor.specs.declared.effect.Move.{Move}
use Rattle.i9_processor.specs.declared.effect.Control.{Control}
use Rattle.i9_processor.specs.declared.effect.Posting.{Posting}
use Rattle.i9_processor.specs.declared.effect.DmaChange.{DmaChange}
use Rattle.i9_processor.specs.Effect.{IsEffect}
use Rattle.i9_processor.specs.Rest.{no_requests}
use Rattle.i9_plan.specs.declared.fetched.Words.{Words}
use Rattle.i9_plan.specs.declared.fetched.Unread.{Unread}
use Rattle.i9_plan.specs.declared.fetched.Unread.TheVariants as unreads
use Rattle.i9_plan.specs.declared.planned.Planned.{Planned}
use Rattle.i9_plan.specs.declared.planned.Planned.TheVariants as plans
use Rattle.i9_plan.specs.declared.decode_cache.DecodeCache.{DecodeCache}
use Rattle.i9_plan.specs.declared.outcome.Outcome.{Outcome}
use Rattle.i9_plan.specs.declared.outcome.Outcome.TheVariants as outcomes
use Rattle.i9_plan.specs.Kept.{inst_in, words_in, Locates}

-- what stands at the instruction address
abbrev pub standing_of : DecodeCache → Planned → plain.Standing
standing_of m (plans.Meets a) = plain.Meets a
standing_of m (plans.Refused words number) = plain.Refused number
standing_of m (plans.Faults number) = plain.Faults (inst_in m) number
standing_of m plans.Runs = plain.Runs (inst_in m)

-- the words of an instruction of so many, the second one as 0 where there is none
pub record TellsWords (count : ℕ) (s : State) (words : Words) : Type 0 where
  pub first : words.first ≡ first_word s
  pub second : words.second ≡ (if count == 2 then next_word s else 0)

-- the instruction that stands at the instruction address was read, with its words
pub record IsRead (s : State) (m : DecodeCache) : Type 0 where
  pub clear : fetch_hazard s ≡ None
  pub read : decoded (first_word s) (next_word s) ≡ Ok (inst_in m)
  pub valid : IsValid (inst_in m)
  pub words : TellsWords (words_of (inst_in m)) s (words_in m)

-- why none was read: the hazard that its fetch meets, or a first word that is refused
abbrev pub IsUnread : State → Unread → Type 0
IsUnread s (unreads.Meets a) = fetch_hazard s ≡ Some a
IsUnread s (unreads.Refused first why) = (fetch_hazard s ≡ None) × (decoded (first_word s) (next_word s) ≡ Err why)
    × (first ≡ first_word s)

-- what a fetch gives
abbrev pub IsFetched : State → DecodeCache → Result (Unit {0}) Unread → Type 0
IsFetched s m (Ok done) = IsRead s m
IsFetched s m (Err why) = IsUnread s why

-- bytes are stored in a row alone, and frames and controls stay
pub record IsInRow (e : Effect) : Type 0 where
  pub requests : e.requests ≡ no_requests
  pub frames : e.frames ≡ Move.Stays
  pub control : e.control ≡ Control.Keeps

-- the effect of a load or a store
abbrev pub AreRequestsInRow : Inst → Effect → Type 0
AreRequestsInRow i e = is_request_name i.op ≡ true → IsInRow e

-- its words are told, and its effect is its action, with its trace events
abbrev pub IsPlanned : State → DecodeCache → Planned → Effect → Type 0
IsPlanned s m (plans.Meets a) e = Unit {0}
IsPlanned s m (plans.Refused words number) e = TellsWords 1 s words
IsPlanned s m (plans.Faults number) e = TellsWords (words_of (inst_in m)) s (words_in m) × IsValid (inst_in m)
IsPlanned s m plans.Runs e =
    TellsWords (words_of (inst_in m)) s (words_in m) × IsEffect s (traced_action (inst_in m) s) e
    × AreRequestsInRow (inst_in m) e × IsValid (inst_in m)

-- where an instruction stands there, its load or store was worked out
abbrev pub IsLocated : State → DecodeCache → Planned → Type 0
IsLocated s m (plans.Faults number) = Locates s m
IsLocated s m plans.Runs = Locates s m
IsLocated s m _ = Unit {0}

-- an effect by which nothing is done, but control goes on behind an instruction
pub record Passes (s : State) (i : Inst) (e : Effect) : Type 0 where
  pub effect : IsEffect s (passing i s) e
  pub marks : e.marks ≡ 0
  pub stale : e.stale ≡ 0
  pub requests : e.requests ≡ no_requests
  pub posting : e.posting ≡ Posting.Keeps
  pub dma : e.dma ≡ DmaChange.Keeps
  pub frames : e.frames ≡ Move.Stays
  pub control : e.control ≡ Control.Keeps

-- what an instruction comes to that is read
abbrev pub standing_in : Inst → Outcome → plain.Standing
standing_in i (outcomes.Meets a) = plain.Meets a
standing_in i (outcomes.Faults number) = plain.Faults i number
standing_in i outcomes.Runs = plain.Runs i

-- where it runs, an effect is its action
abbrev pub HasEffect : State → Inst → Outcome → Effect → Type 0
HasEffect s i (outcomes.Meets a) e = Unit {0}
HasEffect s i (outcomes.Faults number) e = Unit {0}
HasEffect s i outcomes.Runs e = IsEffect s (action_of i s) e

-- where it runs, and is a load or a store
abbrev pub RunsInRow : Inst → Outcome → Effect → Type 0
RunsInRow i (outcomes.Meets a) e = Unit {0}
RunsInRow i (outcomes.Faults number) e = Unit {0}
RunsInRow i outcomes.Runs e = AreRequestsInRow i e

-- an action whose access meets no hazard, or the hazard
abbrev pub IsPlanFor : State → Access → Action → Result Effect ℕ → Type 0
IsPlanFor s access action (Ok e) = (hazard_in s access ≡ None) × IsEffect s action e
IsPlanFor s access action (Err a) = hazard_in s access ≡ Some a

-- the hazard of an access, or none where an effect is the action
abbrev pub Plans : State → Access → Action → Option ℕ → Effect → Type 0
Plans s access action None e = (hazard_in s access ≡ None) × IsEffect s action e
Plans s access action (Some a) e = hazard_in s access ≡ Some a

-- what a message of sysctl does, or the hazard of its tables
abbrev pub PlansMessage : Message → Inst → State → Result Effect ℕ → Type 0
PlansMessage m i s r = IsPlanFor s (message_access m i s) (message_action m i s) r

-- the entry of a fault, or what stops it
abbrev pub PlansEntry : State → Fault → Result Effect FaultStop → Type 0
PlansEntry s fault (Ok e) = (x : Entry) × (entry_in s fault ≡ Ok x) × IsEffect s (entering x s) e
PlansEntry s fault (Err stop) = entry_in s fault ≡ Err stop

-- a handler is entered: its frame is made, and its record is written below it
abbrev pub recording : Entry → State → Action
recording x s = record (pushing s x.push s.ip x.target) { writes = record_writes s.memory x.push x.words; pc = x.pc }

-- the entry of an interrupt that is chosen, or the hazard that it meets
abbrev pub PlansInterrupt : State → Chosen → Result Effect ℕ → Type 0
PlansInterrupt s c (Ok e) = (x : Entry) × (interrupt_in s c ≡ Ok x) × IsEffect s (interrupting c x s) e
PlansInterrupt s c (Err a) = interrupt_in s c ≡ Err a

-- what an event does, or the hazard that it meets
abbrev pub PlansReceived : State → Result Received ℕ → Result Effect ℕ → Type 0
PlansReceived s received (Ok e) = (u : Received) × (received ≡ Ok u) × IsEffect s (receiving u s) e
PlansReceived s received (Err a) = received ≡ Err a

abbrev pub PlansEvent : State → Event → Result Effect ℕ → Type 0
PlansEvent s event r = PlansReceived s (received_in s event) r
