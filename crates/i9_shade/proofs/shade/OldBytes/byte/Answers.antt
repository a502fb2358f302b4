use Rattle.std.proofs.Common.{◌+◌, ◌-◌, ◌%◌, ◌^◌, List, ℕ, ap, sym, ◌∙◌, arith}
use Rattle.std.proofs.lemmas.Option.{slice_get-get_or, slice_get_past}
use Rattle.i9_model.specs.Writes.{upwards, last_put}
use Rattle.i9_model.proofs.Upwards.{last_put-from}
use Rattle.i9_shade.proofs.shade.OldBytes.byte.Goals as goal

pub returns-then-above-bytes : goal.returns-then-above-bytes
returns-then-above-bytes c =
    let bytes = c.as_slice-bytes.result.now in
    let above = (c.args.a + (2 ^ 32 - c.args.self.now.address)) % 2 ^ 32 in
    sym (slice_get-get_or bytes above 0 c.if-above-bytes.true)
    ∙ sym (last_put-from c.args.self.now.address bytes c.args.a (omega arith) (omega arith) (omega (arith, c.as_slice-bytes.ensures.fits)))
    ∙ ap (λ (bs : List ℕ). last_put (upwards c.args.self.now.address bs) c.args.a) c.as_slice-bytes.ensures.value

pub returns-else-above-bytes : goal.returns-else-above-bytes
returns-else-above-bytes c =
    let bytes = c.as_slice-bytes.result.now in
    let above = (c.args.a + (2 ^ 32 - c.args.self.now.address)) % 2 ^ 32 in
    sym (slice_get_past bytes above c.if-above-bytes.false)
    ∙ sym (last_put-from c.args.self.now.address bytes c.args.a (omega arith) (omega arith) (omega (arith, c.as_slice-bytes.ensures.fits)))
    ∙ ap (λ (bs : List ℕ). last_put (upwards c.args.self.now.address bs) c.args.a) c.as_slice-bytes.ensures.value
