-- What a machine contains: its pipeline, and what decides what comes next.
use Rattle.std.specs.Prelude.{◌≡◌, ℕ, ◌<◌, ◌≤◌, Option}
use Rattle.i9_model.specs.declared.need.Need.{Need}
use Rattle.i9_model.specs.declared.run.Due.{Due}
use Rattle.i9_model.specs.declared.run.End.{End}
use Rattle.i9_model.specs.HeldFrames.{Cache}
use Rattle.i9_model.specs.State.{State}
use Rattle.i9_model.specs.Turns.{Pending}
use Rattle.i9_pipeline.specs.Flow.{Flow, flow_of, moved_to, settled_to}
use Rattle.i9_plan.specs.declared.decode_cache.DecodeCache.{DecodeCache}
use Rattle.i9_processor.specs.declared.effect.Effect.{Effect}
use Rattle.i9_machine.specs.declared.machine.Machine.{Machine}

-- All of a machine but its room, and what it has of instructions and of what is planned: the value of its pipeline, the
-- length of the run, what is due, the sets that are asked for, the end that was answered, and the turn that is waited
-- for.
pub record Contents : Type 0 where
  pub pipeline : Flow
  pub length : ℕ
  pub due : Due
  pub sets : Option ℕ
  pub ended : Option End
  pub wait : ℕ

abbrev pub contents_of : Machine → Contents
contents_of m = record {
  pipeline = flow_of m.pipeline;
  length = m.length;
  due = m.due;
  sets = m.sets;
  ended = m.ended;
  wait = m.wait;
}

-- what decides what comes next, and when: the length of the run, what is due, the state, the number of sets, the frames
-- in them and the memory behind, the open needs, and the turn of the last fence
pub record Situation : Type 0 where
  pub length : ℕ
  pub due : Due
  pub state : State
  pub size : ℕ
  pub cache : Cache
  pub board : Pending
  pub floor : ℕ

abbrev pub situation_in : Contents → Situation
situation_in k = record {
  length = k.length;
  due = k.due;
  state = k.pipeline.state;
  size = k.pipeline.size;
  cache = k.pipeline.cache;
  board = k.pipeline.board;
  floor = k.pipeline.floor;
}

-- that of a machine
abbrev pub situation : Machine → Situation
situation m = situation_in (contents_of m)

-- a situation, with what was decoded and what is planned in it
pub record Outlook : Type 0 where
  pub at : Situation
  pub decodes : DecodeCache
  pub effect : Effect
  pub need : Need

abbrev pub outlook : Machine → Outlook
outlook m = record { at = situation m; decodes = m.decodes; effect = m.effect; need = m.need }

-- ---- what stays

-- the same machine, but for what it has of instructions and of what is planned
abbrev pub IsLike : Machine → Machine → Type 0
IsLike before mid = mid ≡ record before { decodes = mid.decodes; effect = mid.effect; need = mid.need }

-- the turn becomes this one, and what is due by then lands
abbrev pub at_turn : ℕ → Contents → Contents
at_turn t k = record k { pipeline = moved_to t k.pipeline }

-- the turn moved to this one
abbrev pub IsMovedTo : ℕ → Machine → Machine → Type 0
IsMovedTo t before m = contents_of m ≡ at_turn t (contents_of before)

-- all is done by a turn, nothing is waited for, and the last fence is at another
abbrev pub settled_by : ℕ → ℕ → Contents → Contents
settled_by until floor k = record k { pipeline = settled_to until floor k.pipeline; wait = 0 }

-- the turn moved to this one where it was below it, and else nothing changed
pub record IsPassedTo (t : ℕ) (before m : Machine) : Type 0 where
  pub moved : before.pipeline.turn < t → IsMovedTo t before m
  pub stays : t ≤ before.pipeline.turn → m ≡ before
