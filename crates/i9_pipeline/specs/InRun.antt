-- A pipeline in a run.
use Rattle.std.specs.Prelude.{◌≡◌, ◌≤◌, List, ◌∷◌, None}
use Rattle.i9_model.specs.declared.need.Need.{Need}
use Rattle.i9_model.specs.Alike.{AreAlike, AreRecordsAlike}
use Rattle.i9_model.specs.HeldFrames.{sets_in, cache_after}
use Rattle.i9_model.specs.Late.{Shows, turns}
use Rattle.i9_model.specs.Run.{Given, Record, Does, action_done, state_after}
use Rattle.i9_model.specs.State.{boot}
use Rattle.i9_model.specs.Turns.{StandsFor, last_issue}
use Rattle.i9_course.specs.Course.{Item, records_of, course, last_done, comes_next, ahead}
use Rattle.i9_course.specs.NeedOf.{record_need}
use Rattle.i9_pipeline.specs.declared.pipeline.Pipeline.{Pipeline}
use Rattle.i9_pipeline.specs.Flow.{Flow, flow_of, kernel_of}
use Rattle.i9_pipeline.specs.Issuing.{IsIssued}
use Rattle.i9_pipeline.specs.Raw.{IsShaded}

-- A flow is that of the first items of the run of what is given, its records and the fences between them: the state is
-- the one after them but for bytes that are not compared; there are as many sets as are asked for, or as the PRCB asks
-- for, and the frames in them and the memory behind, with all that waits, are those of the run; what lands late is as
-- the course of the items has it at the turn, which is not below the last issue; and what stood under an open barrier's
-- writes is kept.
pub record IsFlowOf (g : Given) (h : List Item) (f : Flow) : Type 0 where
  pub state : AreAlike (state_after g (records_of h)) f.state
  pub size : f.size ≡ sets_in g.sets (state_after g (records_of h))
  pub cache : f.cache ≡ cache_after g (records_of h)
  pub board : StandsFor f.board (turns (course g h).late)
  pub fence : f.floor ≡ (course g h).fence
  pub last : f.done ≡ last_done (course g h).late
  pub begun : last_issue (turns (course g h).late) ≤ f.turn
  pub shows : Shows (boot g.image) f.turn (course g h).late (kernel_of f).cells f.bytes f.queue
  pub shaded : IsShaded (boot g.image).memory.bytes (course g h).late f.shade

-- A pipeline issues what comes next in a run, by a record that is like it and has its need: its turn has come, no fault
-- is imprecise, and what it leaves is what the run leaves.
pub record IssuesNext (g : Given) (h : List Item) (r q : Record) (need : Need) (old new : Pipeline) : Type 0 where
  pub is_next : comes_next g h ≡ Does r
  pub starts : r.before ≡ state_after g (records_of h)
  pub same : AreRecordsAlike r q
  pub precise : (ahead g h).imprecise ≡ None
  pub now : (ahead g h).turn ≤ old.turn
  pub in_time : old.turn ≤ (ahead g h).turn
  pub is_need : record_need g.sets (cache_after g (records_of h)) r ≡ need
  pub issued : IsIssued (flow_of old) need (action_done q) (flow_of new)
  pub state : AreAlike r.after (flow_of new).state
  pub size : (flow_of new).size ≡ sets_in g.sets r.after
  pub cache : (flow_of new).cache ≡ cache_after g (r ∷ records_of h)
