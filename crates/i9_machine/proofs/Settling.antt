-- A machine settles: all that is open lands, a fence is set where no end was answered, and it shows raw what a drained
-- point shows.
use Rattle.std.proofs.Common.{◌≡◌, ℕ, max, Bool, not, if◌then◌else◌, ◌∷◌, Option, Some, None, is_some, List, sym, ◌∙◌, subst, arith}
use Rattle.i9_model.specs.declared.run.End.{End}
use Rattle.i9_model.specs.Late.{turns}
use Rattle.i9_model.specs.Run.{Given, Finish}
use Rattle.i9_model.specs.Turns.{end_turn}
use Rattle.i9_course.specs.Course.{Item, Fence, course}
use Rattle.i9_pipeline.specs.Flow.{Flow, moved_to, IsEndTurn, IsSettled, IsQuiet}
use Rattle.i9_pipeline.proofs.InRun.{flow_moves, flow_fenced, fence_in_time, flow_quiet}
use Rattle.i9_pipeline.proofs.Paced.{paced_moves}
use Rattle.i9_pipeline.proofs.Shown.{registers_level, none_busy}
use Rattle.i9_machine.specs.Contents.{Contents, settled_by}
use Rattle.i9_machine.specs.Raw.{IsLevel}
use Rattle.i9_machine.specs.StandsFor.{Stand}

-- a fence is set
pub settled_fenced : (g : Given) (h : List Item) (k : Contents) (until : ℕ) → IsEndTurn k.pipeline.board until
    → Stand g h None k → Stand g (Fence ∷ h) None (settled_by until until k)
settled_fenced g h k until end stands =
    let rs = turns (course g h).late in
    let is : until ≡ end_turn rs = end rs stands.flow.board in
    record {
      past = stands.past;
      flow = flow_fenced g h k.pipeline until end stands.flow;
      in_time = fence_in_time g h k.pipeline until end stands.flow stands.in_time;
      early = omega arith;
      paced = paced_moves k.pipeline rs (max k.pipeline.turn until) until _ stands.flow.board (omega (arith, is))
          (omega (arith, is)) stands.paced;
      due = stands.due;
      length = stands.length;
      sets = stands.sets;
      ended = stands.ended;
      over = tt;
    }

-- none is set once an end was answered
pub settled_ended : (g : Given) (h : List Item) (f : Finish) (k : Contents) (until : ℕ)
    → IsEndTurn k.pipeline.board until
    → Stand g h (Some f) k → Stand g h (Some f) (settled_by until k.pipeline.floor k)
settled_ended g h f k until end stands =
    let rs = turns (course g h).late in
    let is : until ≡ end_turn rs = end rs stands.flow.board in
    record {
      past = stands.past;
      flow = flow_moves g h (max k.pipeline.turn until) k.pipeline (omega arith) stands.flow;
      in_time = tt;
      early = tt;
      paced = paced_moves k.pipeline rs (max k.pipeline.turn until) k.pipeline.floor _ stands.flow.board
          (omega (arith, is)) (omega arith) stands.paced;
      due = stands.due;
      length = stands.length;
      sets = stands.sets;
      ended = stands.ended;
      over = stands.over;
    }

-- a fence is set where no end was answered, and only there
fence_set : (b : Bool) (o : Option End) (x y : ℕ) → is_some o ≡ not b → o ≡ None → (if b then x else y) ≡ x
fence_set b o x y is none = grind arith

fence_kept : (b : Bool) (o : Option End) (e : End) (x y : ℕ) → is_some o ≡ not b → o ≡ Some e
    → (if b then x else y) ≡ y
fence_kept b o e x y is some = grind arith

-- so it is quiet, and shows what a drained point shows
module _ (g : Given) (h : List Item) (b : Bool) (k : Contents) (f : Flow) (s : IsSettled b k.pipeline f)
    (ended : is_some k.ended ≡ not b) where
  abbrev j : Contents
  j = record k { pipeline = f; wait = 0 }

  settled : (floor : ℕ) → (if b then s.until else k.pipeline.floor) ≡ floor → j ≡ settled_by s.until floor k
  settled floor is =
      (λ i. record k { pipeline = s.settled i; wait = 0 }) ∙ λ i. settled_by s.until (is i) k

  pub fenced : Stand g h None k → Stand g (Fence ∷ h) None j
  fenced stands =
      subst (Stand g (Fence ∷ h) None)
      (sym (settled s.until (fence_set b k.ended s.until k.pipeline.floor ended stands.ended)))
      (settled_fenced g h k s.until s.end stands)

  pub over : (x : Finish) → Stand g h (Some x) k → Stand g h (Some x) j
  over x stands =
      subst (Stand g h (Some x))
      (sym (settled k.pipeline.floor (fence_kept b k.ended x.end s.until k.pipeline.floor ended stands.ended)))
      (settled_ended g h x k s.until s.end stands)

  -- at the turn at which all is done
  pub levels : (o : Option Finish) → Stand g h o k → IsQuiet f × IsLevel g h f.turn
  levels o stands =
      let rs = turns (course g h).late in
      let at = moved_to (max k.pipeline.turn s.until) k.pipeline in
      let flow = flow_moves g h (max k.pipeline.turn s.until) k.pipeline (omega arith) stands.flow in
      let done : s.until ≡ end_turn rs = s.end rs stands.flow.board in
      let quiet = flow_quiet g h at flow (omega (arith, done)) in
      subst (λ (x : Flow). IsQuiet x × IsLevel g h x.turn) (sym s.settled) (
        record { planned = quiet.planned; waiting = quiet.waiting },
        record {
          registers = registers_level g h at flow stands.past quiet;
          free = none_busy g h at flow quiet;
        },
      )
