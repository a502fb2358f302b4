use Rattle.std.proofs.Common.{◌≡◌, Bool, ap, ◌∙◌, refl, bit_or}
use Rattle.i9_model.specs.Tracing.{comes_with, Branch, Call, Return, Prereturn, Supervisor, Mark}
use Rattle.i9_events.specs.Tracing.{coming_modes}
use Rattle.i9_events.proofs.Masks.{bit_if}
use Rattle.i9_events.proofs.Events.{seven}
use Rattle.i9_events.proofs.raised.coming_modes.Goals as goal

pub returns : goal.returns
unfolding coming_modes
returns c =
    let p = comes_with c.args.op c.args.s.now c.args.matched in
    let branch : c.bit_where.result ≡ bit_if (p Branch) 2 = c.bit_where.ensures ∙ ap (λ (v : Bool). bit_if v 2) c.branches.ensures in
    let call : c.bit_where-2.result ≡ bit_if (p Call) 3 = c.bit_where-2.ensures ∙ ap (λ (v : Bool). bit_if v 3) c.is_call.ensures in
    let return : c.bit_where-3.result ≡ bit_if (p Return) 4 = c.bit_where-3.ensures ∙ ap (λ (v : Bool). bit_if v 4) c.is_return-returns.ensures in
    let prereturn : c.bit_where-4.result ≡ bit_if (p Prereturn) 5 = c.bit_where-4.ensures ∙ ap (λ (v : Bool). bit_if v 5) c.is_return-returns.ensures in
    let supervisor : c.bit_where-5.result ≡ bit_if (p Supervisor) 6 = c.bit_where-5.ensures in
    let mark : c.bit_where-6.result ≡ bit_if (p Mark) 7 = c.bit_where-6.ensures ∙ ap (λ (v : Bool). bit_if v 7) c.marks.ensures in
    (λ k. bit_or (bit_or (bit_or (bit_or (bit_or (bit_or 2 (branch k)) (call k)) (return k)) (prereturn k)) (supervisor k)) (mark k)) ∙ seven p refl
