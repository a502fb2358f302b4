use Rattle.std.proofs.Common.{◌≡◌, ℕ, ◌+◌, ◌-◌, ◌%◌, eqb, length, sym, ap, ◌∙◌, arith}
use Rattle.i9_model.specs.Image.{address_count}
use Rattle.i9_hex.proofs.PartLemmas.{ends_before-last}
use Rattle.i9_hex.proofs.segments.ends_before.Goals as goal

pub returns-in-Some : goal.returns-in-Some
returns-in-Some c =
    let last = c.in-Some.last.now in
    let item = c.in-Some.ensures.item in
    let count : c.len.result ≡ length last.bytes.items = c.len.ensures ∙ last.bytes.ok.0 in
    let next : (last.address + c.len.result % address_count) % address_count ≡ (last.address + length last.bytes.items) % address_count = rw count (omega arith) in
    ap (λ (n : ℕ). eqb n c.args.address) next ∙ sym (ends_before-last c.args.segments.now (length c.args.segments.now - 1) c.args.address last last (omega (arith, item.3.0)) item.1)
