use Rattle.std.proofs.Common.{◌≡◌, ◌+◌, ◌*◌, ◌++◌, ◌∷◌, [], Bool, cond, length, reverse, ap, ◌∙◌, arith}
use Rattle.std.specs.Prelude.{not}
use Rattle.std.proofs.lemmas.List.{reverse-append}
use Rattle.i9_tune.proofs.Plain.{stands_next, done_more}
use Rattle.i9_tune.proofs.Extended.{is_taken, continues, ends, fewer_left}
use Rattle.i9_tune.proofs.greedy.greedy.Goals as goal

pub more-preserved : goal.more-preserved
more-preserved c =
    let k = c.more.counter in
    let next = c.remove-next.result in
    let order = c.more.order.items in
    let left = c.more.left.items in
    let rest = c.remove-next.new.self.items in
    let at = rw c.deref.ensures.value at (c.choose.ensures.chosen (reverse order) c.more.invariant.stands) in
    let within = rw c.deref.ensures.value at c.choose.ensures.within in
    let taken = is_taken (reverse order) left c.choose.result next rest at c.remove-next.ensures.value c.remove-next.ensures.items in
    let pushed : c.push.new.self.items ≡ order ++ next ∷ [] =
    c.push.ensures.items ∙ ap (λ (b : Bool). cond b (order ++ next ∷ []) order) (c.is_err.ensures.negation ∙ ap not c.if-is_err.false) in
    let waited = c.plain_need.ensures.early in
    record {
      stands = stands_next (reverse order) _ next c.place.new.self c.plain_need.result (ap reverse pushed ∙ reverse-append order (next ∷ [])) c.plain_need.ensures.need
          (c.place.ensures.computed _ c.more.invariant.stands).0;
      early = done_more c.place.new.self k c.plain_need.result.cost c.plain_need.ensures.few (c.place.ensures.bound (1 + 248 * k) c.more.invariant.early (omega (arith, waited)));
      left = fewer_left left rest c.choose.result k (length c.args.block.now) within c.remove-next.ensures.items c.more.invariant.left;
      tunable = taken.tunable c.more.invariant.tunable;
      greedy = rw pushed (continues c.args.block.now order left rest next taken c.more.invariant.greedy);
    }

pub returns : goal.returns
returns c =
    let long = c.more.invariant.left in
    let done = c.more-test.false in
    record { order = ends c.args.block.now c.more.order.items c.more.left.items c.more.invariant.greedy (omega (arith, long, done)) }
