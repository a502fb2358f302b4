use Rattle.std.proofs.Common.{◌≡◌, ℕ, ◌+◌, ◌*◌, ◌++◌, ◌∷◌, [], Bool, cond, Err, ap, ◌∙◌}
use Rattle.std.specs.Prelude.{not}
use Rattle.std.proofs.lemmas.List.{length-append}
use Rattle.i9_model.specs.Writes.{wrapped, last_put}
use Rattle.i9_model.specs.Image.{pairs_of}
use Rattle.i9_tune.proofs.Depend.{tunable_push}
use Rattle.i9_tune.proofs.InBlock.{next_read, one_read, all_read}
use Rattle.i9_tune.proofs.block.block_in.Goals as goal

pub returns-in-Err-clause-block : goal.returns-in-Err-clause-block
returns-in-Err-clause-block c =
    next_read (last_put (pairs_of c.args.image.now)) c.args.count c.args.address c.more.counter c.more.block.items c.more.at (Err c.in-Err.flaw) c.more-test.true
    (rw c.as_slice.ensures.segments at c.in-Err.ensures.inst) c.more.invariant.read

pub more-preserved : goal.more-preserved
more-preserved c =
    let block = c.more.block.items in
    let inst = c.in-Ok.inst in
    let pushed : c.push.new.self.items ≡ block ++ inst ∷ [] =
    c.push.ensures.items ∙ ap (λ (b : Bool). cond b (block ++ inst ∷ []) block) (c.is_err.ensures.negation ∙ ap not c.if-is_err.false) in
    record {
      read = rw pushed (one_read (last_put (pairs_of c.args.image.now)) c.args.count c.args.address c.more.counter block c.more.at (wrapped (c.more.at + 4 * c.word_count.result)) inst c.more-test.true
          (rw c.as_slice.ensures.segments at c.in-Ok.ensures.inst) (ap (λ (n : ℕ). wrapped (c.more.at + 4 * n)) c.word_count.ensures) c.more.invariant.read);
      tunable = rw pushed (tunable_push block inst c.more.invariant.tunable c.in-Ok.ensures.fits.valid c.in-Ok.ensures.fits.allowed);
      long = rw pushed (length-append block (inst ∷ []) ∙ ap (λ (n : ℕ). n + 1) c.more.invariant.long);
    }

pub returns-clause-block : goal.returns-clause-block
returns-clause-block c =
    all_read (last_put (pairs_of c.args.image.now)) c.args.count c.args.address c.more.counter c.more.block.items c.more.at c.more-test.false c.more.invariant.read
