use Rattle.std.proofs.Common.{◌≡◌, ℕ, ◌+◌, ◌-◌, ◌*◌, ◌/◌, ◌%◌, ◌^◌, List, length, sym, ap, ◌∙◌, arith}
use Rattle.i9_model.proofs.Copies.{option_copied-get}
use Rattle.i9_tune.proofs.Loaded.{last_from}
use Rattle.i9_tune.proofs.block.byte_of.Goals as goal

pub returns : goal.returns
returns c =
    let segment = c.args.segment.now in
    let bytes = segment.bytes.items in
    let above = (c.args.a + (2 ^ 32 - segment.address)) % 2 ^ 32 in
    let n = c.saturating_sub-behind.result in
    let behind : n ≡ length bytes - (above + 1) = c.saturating_sub-behind.ensures
    ∙ ap (λ (k : ℕ). k - (above + 1)) (c.len.ensures ∙ sym c.deref.ensures.len ∙ ap (λ (bs : List ℕ). length bs) c.deref.ensures.value) in
    c.copied.ensures
    ∙ option_copied-get c.deref.result.now (above + n / 2 ^ 32 * 2 ^ 32) c.get.result c.get.ensures.lookup.0 c.get.ensures.lookup.1
    ∙ rw (c.deref.ensures.value, behind) (sym (last_from segment.address bytes c.args.a (omega arith) (omega arith)))
