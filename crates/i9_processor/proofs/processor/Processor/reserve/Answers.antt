use Rattle.std.proofs.Common.{arith}
use Rattle.std.proofs.lemmas.Result.{on_err_weaker}
use Rattle.i9_processor.specs.State.{state_of}
use Rattle.i9_processor.specs.Effect.{run_in, requests_in}
use Rattle.i9_processor.proofs.Rooms.{move_kept}
use Rattle.i9_processor.proofs.NewPages.{first_apart, later_apart, row_apart, run_apart, move_bytes, move_marks}
use Rattle.i9_processor.proofs.processor.Processor.reserve.Goals as goal

pub returns-clause-lacking : goal.returns-clause-lacking
returns-clause-lacking c =
    let old = c.args.self.now.storage in
    let mid = c.reserve_run.new.storage in
    let late = c.reserve_requests.new.storage in
    let e = c.args.e.now in
    on_err_weaker c.reserve_move.result (λ lacks space. lacks (move_kept mid late e.frames c.reserve_requests.ensures.keeps.frame_space (move_kept old mid e.frames c.reserve_run.ensures.keeps.frame_space space.frames))) c.reserve_move.ensures.lacking

-- where room is made for the run alone
pub returns-in_err-reserve_run-clause-only : goal.returns-in_err-reserve_run-clause-only
returns-in_err-reserve_run-clause-only c =
    let e = c.args.e.now in
    record {
      bytes = λ x writes move has. c.reserve_run.ensures.only.bytes x (row_apart e.address e.bytes.items x (first_apart (run_in e) (requests_in e.requests) x writes)) has;
      marks = λ x marked move has. c.reserve_run.ensures.only.marks x (run_apart e (state_of c.args.self.now) x marked) has;
    }

pub returns-then-is_plain-clause-only : goal.returns-then-is_plain-clause-only
returns-then-is_plain-clause-only c =
    let e = c.args.e.now in
    record {
      bytes = λ x writes move has. c.reserve_run.ensures.only.bytes x (row_apart e.address e.bytes.items x (first_apart (run_in e) (requests_in e.requests) x writes)) has;
      marks = λ x marked move has. c.reserve_run.ensures.only.marks x (run_apart e (state_of c.args.self.now) x marked) has;
    }

-- and for bits of requests
pub returns-in_err-reserve_requests-clause-only : goal.returns-in_err-reserve_requests-clause-only
returns-in_err-reserve_requests-clause-only c = grind (arith, row_apart, first_apart, later_apart, run_apart)

-- and for a frame
pub returns-clause-only : goal.returns-clause-only
returns-clause-only c =
    let e = c.args.e.now in
    let s = state_of c.args.self.now in
    let mid = c.reserve_requests.new.storage in
    let last = c.reserve_move.new.storage in
    record {
      bytes = λ x writes move has.
          c.reserve_run.ensures.only.bytes x (row_apart e.address e.bytes.items x (first_apart (run_in e) (requests_in e.requests) x writes))
          (c.reserve_requests.ensures.only.bytes x (later_apart (run_in e) (requests_in e.requests) x writes)
          (move_bytes e.frames s mid last x c.reserve_move.ensures.only move has));
      marks = λ x marked move has.
          c.reserve_run.ensures.only.marks x (run_apart e s x marked) (c.reserve_requests.ensures.only.marks x (move_marks e.frames s mid last x c.reserve_move.ensures.only move has));
    }
