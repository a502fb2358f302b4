use Rattle.std.proofs.Common.{◌≡◌, ◌+◌, Some, inl, inr, ap, sym, ◌∙◌, arith}
use Rattle.i9_model.specs.Writes.{wrapped}
use Rattle.i9_model.specs.Hazards.{port_hazard}
use Rattle.i9_model.specs.Memory.{in_port_page}
use Rattle.i9_watch.proofs.Watching.{least-is, port_above}
use Rattle.i9_watch.proofs.watch.Watch.touches_port.Goals as goal
use Rattle.i9_watch.proofs.watch.Watch.touches_port.Goals.{else-n-gt0-via-then-n-gt0+else-in_port_page, else-n-gt0-via-else-n-gt0}

pub returns-then-in_port_page : goal.returns-then-in_port_page
unfolding port_hazard
returns-then-in_port_page c =
    let here : wrapped (c.args.a + 0) ≡ c.args.a = omega arith in
    ap Some (sym here)
    ∙ least-is in_port_page c.args.a c.args.n 0 c.if-n-gt0.true (λ k h. absurd (omega arith)) (ap in_port_page here ∙ sym c.in_port_page.ensures ∙ c.if-in_port_page.true)

pub returns : goal.returns
unfolding port_hazard
returns c =
    c.then_some.ensures
    ∙ port_above c.args.a c.args.n (omega arith) (elim c.else-n-gt0.branch [
      | else-n-gt0-via-then-n-gt0+else-in_port_page w ↦ inl (sym w.in_port_page.ensures ∙ w.if-in_port_page.false)
      | else-n-gt0-via-else-n-gt0 w ↦ inr (omega arith)
    ])
