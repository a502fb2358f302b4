-- What is known of a procedure's entry before its push: whether stacks are switched, or the hazard of a word that tells
-- it.
use Rattle.std.specs.Prelude.{ℕ, Bool, None, Result}
use Rattle.i9_model.specs.Memory.{Memory, word_in}
use Rattle.i9_model.specs.State.{Frames}
use Rattle.i9_model.specs.Hazards.{unless}
use Rattle.i9_model.specs.Calls.{entry_address, is_switch, system_hazard_by}

abbrev pub system_switch : Memory → Frames → ℕ → ℕ → ℕ → Result Bool ℕ
system_switch m f table n pc =
    unless (system_hazard_by m f table n pc (λ _. None)) (is_switch (word_in m (entry_address table n)) pc)
