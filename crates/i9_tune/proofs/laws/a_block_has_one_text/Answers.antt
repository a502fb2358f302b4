use Rattle.i9_tune.proofs.OneText.{image_tunable, some_tuning, one_tuning}
use Rattle.i9_tune.proofs.laws.a_block_has_one_text.Goals as goal

pub returns : goal.returns
returns c = record { tunable = image_tunable; some = some_tuning; one = one_tuning }
