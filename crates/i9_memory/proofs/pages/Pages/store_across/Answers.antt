use Rattle.std.proofs.Common.{◌≡◌, ℕ, List, ◌+◌, length, sym, ap, ◌∙◌, subst, arith}
use Rattle.std.proofs.lemmas.Bool.Decides.{nat_tests}
use Rattle.i9_model.specs.Writes.{wrapped, upwards}
use Rattle.i9_model.specs.Memory.{stored}
use Rattle.i9_memory.specs.Pages.{byte_of, HasByte}
use Rattle.i9_memory.proofs.Runs.{stored_runs, stored_none}
use Rattle.i9_memory.proofs.pages.Pages.store_across.Goals as goal

pub loop-rest-preserved : goal.loop-rest-preserved
loop-rest-preserved c =
    let f = byte_of c.loop-rest.self in
    let at = c.loop-rest.at in
    let run = c.split_at.result.0.now in
    let later = c.split_at.result.1.now in
    let parts = c.split_at.ensures.by_index.0 in
    record {
      rest =
          ap (λ (g : ℕ → ℕ). stored g (upwards (wrapped (at + length run)) later)) c.store_run.ensures.bytes
          ∙ sym (stored_runs f at run later)
          ∙ ap (λ (bs : List ℕ). stored f (upwards at bs)) (sym parts)
          ∙ c.loop-rest.invariant.rest;
      room = λ k h.
          let place : wrapped (at + (length run + k)) ≡ wrapped (wrapped (at + length run) + k) = omega arith in
          subst (HasByte c.store_run.new.self) place (c.store_run.ensures.keeps _ (c.loop-rest.invariant.room (length run + k) (omega arith)));
      keeps = λ p h. c.store_run.ensures.keeps p (c.loop-rest.invariant.keeps p h);
      no_more = λ p h. c.loop-rest.invariant.no_more p (c.store_run.ensures.no_more p h);
    }

pub returns-clause-bytes : goal.returns-clause-bytes
returns-clause-bytes c =
    sym (stored_none (byte_of c.loop-rest.self) c.loop-rest.at c.loop-rest.rest.now (grind (arith, nat_tests))) ∙ c.loop-rest.invariant.rest
