use Rattle.std.proofs.Common.{◌+◌, ◌-◌, ◌%◌, ◌^◌, ◌∙◌, sym, arith}
use Rattle.i9_model.proofs.Upwards.{last_put-from}
use Rattle.i9_model.proofs.Copies.{option_copied-get}
use Rattle.i9_queue.proofs.queue.byte_of_run.Goals as goal

pub returns : goal.returns
returns c =
    let above = (c.args.place + (2 ^ 32 - c.args.address)) % 2 ^ 32 in
    c.copied.ensures
    ∙ option_copied-get c.args.bytes.now above c.get.result c.get.ensures.lookup.0 c.get.ensures.lookup.1
    ∙ sym (last_put-from c.args.address c.args.bytes.now c.args.place (omega arith) (omega arith) (omega arith))
