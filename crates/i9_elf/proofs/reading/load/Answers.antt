use Rattle.std.proofs.Common.{◌++◌, ℕ, List, ap, ◌∙◌}
use Rattle.std.proofs.lemmas.Result.{on_ok_weaker}
use Rattle.i9_model.specs.Image.{upwards, pairs_of}
use Rattle.i9_hex.proofs.PairCounts.{pairs_of-with_part}
use Rattle.i9_elf.proofs.reading.load.Goals as goal

pub returns-in-Ok : goal.returns-in-Ok
returns-in-Ok c = on_ok_weaker c.push.result (λ parts. ap pairs_of parts ∙ pairs_of-with_part c.args.segments.now c.args.header.now.address c.in-Ok.bytes.items ∙ ap (λ (bs : List ℕ). pairs_of c.args.segments.now ++ upwards c.args.header.now.address bs) c.in-Ok.ensures) c.push.ensures.parts
