use Rattle.std.proofs.Common.{◌+◌, sym, ap, ◌∙◌, arith}
use Rattle.std.proofs.lemmas.List.{at_drop_all}
use Rattle.i9_model.specs.Late.{all_puts}
use Rattle.i9_model.specs.Writes.{wrapped, upwards, last_put}
use Rattle.i9_queue.specs.declared.queue.Request.{Request}
use Rattle.i9_queue.specs.Queue.{waits_in}
use Rattle.i9_queue.proofs.Beside.{request_beside}
use Rattle.i9_queue.proofs.queue.are_beside.Goals as goal

pub loop-r-preserved : goal.loop-r-preserved
loop-r-preserved c k lt =
    let rs = c.args.requests.now in
    let x = wrapped (c.args.a + k) in
    let item = c.r-item.result in
    let beside = c.is_beside.ensures c.if-not-is_beside.false k lt in
    request_beside rs c.loop-r.r-index item x (omega arith) (ap (λ (r : Request). last_put (upwards r.address r.bytes.items) x) (sym c.r-item.is) ∙ beside)
    ∙ c.loop-r.invariant k lt

pub returns : goal.returns
unfolding last_put
returns c t k lt =
    let rs = c.args.requests.now in
    let x = wrapped (c.args.a + k) in
    sym (c.loop-r.invariant k lt) ∙ at_drop_all (λ zs. last_put (all_puts (waits_in zs)) x) rs c.loop-r.r-index (omega arith)
