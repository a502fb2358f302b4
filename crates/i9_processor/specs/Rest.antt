-- What most effects leave as it is.
use Rattle.std.specs.Prelude.{◌≡◌, ℕ, ◌^◌, ◌<◌, Option, None}
use Rattle.i9_model.specs.declared.trace.Trace.{Trace}
use Rattle.i9_processor.specs.declared.effect.Requests.{Requests}
use Rattle.i9_processor.specs.declared.effect.Move.{Move}
use Rattle.i9_processor.specs.declared.effect.Move.TheVariants as moves
use Rattle.i9_processor.specs.declared.effect.Posting.{Posting}
use Rattle.i9_processor.specs.declared.effect.Posting.TheVariants as postings
use Rattle.i9_processor.specs.declared.effect.DmaChange.{DmaChange}
use Rattle.i9_processor.specs.declared.effect.DmaChange.TheVariants as changes
use Rattle.i9_processor.specs.declared.effect.Control.{Control}
use Rattle.i9_processor.specs.declared.effect.Control.TheVariants as controls

abbrev pub no_requests : Requests
no_requests = record { first = None; second = None }

-- where bytes are marked, one of so many is, and no bits of requests are stored
pub record AreMarked (stale count : ℕ) (asked : Requests) : Type 0 where
  pub some : stale < 2 ^ count
  pub requests : asked ≡ no_requests

-- no bits of requests are stored; frames, interrupts, DMA and the controls that start-up reads stay; and no trace event
-- counts
pub record LeavesRest (asked : Requests) (move : Move) (post : Posting) (change : DmaChange)
    (done : Control) (event : Option Trace) : Type 0 where
  pub requests : asked ≡ no_requests
  pub frames : move ≡ moves.Stays
  pub posting : post ≡ postings.Keeps
  pub dma : change ≡ changes.Keeps
  pub control : done ≡ controls.Keeps
  pub trace : event ≡ None
