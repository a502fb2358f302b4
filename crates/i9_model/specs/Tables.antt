-- The tables of start-up as sysctl reads them: with the hazards of these reads.
use Rattle.std.specs.Prelude.{ℕ, ◌+◌, ◌*◌, List, Option, Result}
use Rattle.i9_model.specs.declared.layout.TheConstants.{PRCB_SIZE, CONTROL_TABLE_SIZE, CONTROL_GROUP_SIZE}
use Rattle.i9_model.specs.declared.setup.Setup.{Setup}
use Rattle.i9_model.specs.Writes.{wrapped}
use Rattle.i9_model.specs.Memory.{Memory, words_in}
use Rattle.i9_model.specs.State.{Frames}
use Rattle.i9_model.specs.Hazards.{or_else, unless, read_hazard}
use Rattle.i9_model.specs.Boot.{table_word, setup_of}

-- the whole PRCB is read, and then the whole control table
unfoldable pub tables_hazard : Memory → Frames → ℕ → Option ℕ
tables_hazard m f prcb = or_else (read_hazard f prcb PRCB_SIZE) (read_hazard f (table_word m prcb 1) CONTROL_TABLE_SIZE)

abbrev pub planned_setup : Memory → Frames → ℕ → ℕ → Result Setup ℕ
planned_setup m f first prcb = unless (tables_hazard m f prcb) (setup_of m first prcb)

-- the seven control groups stand one after another
abbrev pub group_address : ℕ → ℕ → ℕ
group_address table group = wrapped (table + CONTROL_GROUP_SIZE * group)

unfoldable pub group_hazard : Frames → ℕ → ℕ → Option ℕ
group_hazard f table group = read_hazard f (group_address table group) CONTROL_GROUP_SIZE

-- the four words of a control group
unfoldable pub group_words : Memory → ℕ → ℕ → List ℕ
group_words m table group = words_in m (group_address table group) 4

abbrev pub planned_group : Memory → Frames → ℕ → ℕ → Result (List ℕ) ℕ
planned_group m f table group = unless (group_hazard f table group) (group_words m table group)
