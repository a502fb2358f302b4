use Rattle.std.proofs.Common.{option_map, sym, ◌∙◌, ap}
use Rattle.i9_buffers.specs.SlotFiles.{slot_file}
use Rattle.i9_buffers.proofs.Refused.{refused_fetch}
use Rattle.i9_buffers.proofs.slots.SlotFilesFiles.fetch.Goals as goal

pub returns-in-Err-clause-bytes : goal.returns-in-Err-clause-bytes
returns-in-Err-clause-bytes c =
    refused_fetch (slot_file c.args.self.now c.args.name.now) c.in-Some.bytes.now c.args.into.now.items c.extend_from_slice.new.self.items
    (sym c.slot.ensures ∙ ap (option_map (λ f. f.now)) c.in-Some.is) c.in-Err.ensures.items
