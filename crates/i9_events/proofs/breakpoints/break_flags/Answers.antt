use Rattle.std.proofs.Common.{◌≡◌, Bool, ap, ◌∙◌, bit_or, get_or}
use Rattle.std.specs.Prelude.{◌&&◌}
use Rattle.i9_model.specs.Tracing.{is_at_access, break_flags, matches, Ipb0, Ipb1, Dab0, Dab1}
use Rattle.i9_events.proofs.Masks.{bit_if}
use Rattle.i9_events.proofs.Events.{four}
use Rattle.i9_events.proofs.breakpoints.break_flags.Goals as goal

pub returns : goal.returns
unfolding break_flags
returns c =
    let s = c.args.s.now in
    let b = c.args.b.now in
    let p = matches s b in
    let first : c.bit_where.result ≡ bit_if (p Ipb0) 24 = c.bit_where.ensures ∙ ap (λ (v : Bool). bit_if v 24) c.is_at_address.ensures in
    let second : c.bit_where-2.result ≡ bit_if (p Ipb1) 25 = c.bit_where-2.ensures ∙ ap (λ (v : Bool). bit_if v 25) c.is_at_address-2.ensures in
    let third : c.bit_where-3.result ≡ bit_if (p Dab0) 26 =
    c.bit_where-3.ensures ∙ ap (λ (v : Bool). bit_if v 26) (c.is_at_access.ensures ∙ ap (λ (v : Bool). v && is_at_access (get_or b.dab 0 0) s.access) c.has_bit-first_enabled.ensures) in
    let fourth : c.bit_where-4.result ≡ bit_if (p Dab1) 27 =
    c.bit_where-4.ensures ∙ ap (λ (v : Bool). bit_if v 27) (c.is_at_access-2.ensures ∙ ap (λ (v : Bool). v && is_at_access (get_or b.dab 1 0) s.access) c.has_bit-second_enabled.ensures) in
    (λ k. bit_or (bit_or (bit_or (first k) (second k)) (third k)) (fourth k)) ∙ four p
