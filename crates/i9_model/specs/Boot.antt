-- Start-up: the boot record, the processor control block (PRCB) and the control table that it names.
use Rattle.std.specs.Prelude.{ℕ, ◌+◌, ◌*◌, ◌%◌, bit_and, max, List, map, take, drop}
use Rattle.std.specs.Int.{w32, from_le_bytes}
use Rattle.i9_model.specs.declared.layout.TheConstants.{BOOT_BYTES, FIRST_INSTRUCTION, PRCB_POINTER, AC_MASK}
use Rattle.i9_model.specs.declared.layout.TheConstants.{LEAST_SETS}
use Rattle.i9_model.specs.declared.setup.TheConstants.{CONTROL_WORDS}
use Rattle.i9_model.specs.declared.setup.Setup.{Setup}
use Rattle.i9_model.specs.declared.setup.Tables.{Tables}
use Rattle.i9_model.specs.Writes.{wrapped, written, pairs_at}
use Rattle.i9_model.specs.Memory.{Memory, word_in, words_in, with_mcon}

-- the word of a table with so many before it
abbrev pub table_word : Memory → ℕ → ℕ → ℕ
table_word m table k = word_in m (wrapped (table + 4 * k))

-- what start-up reads of a PRCB, and of the control table that its second word names
unfoldable pub setup_of : Memory → ℕ → ℕ → Setup
setup_of m first prcb = record {
  first = first;
  fault_table = table_word m prcb 0;
  control_table = table_word m prcb 1;
  ac = bit_and (table_word m prcb 2) AC_MASK;
  fault_config = table_word m prcb 3;
  interrupt_table = table_word m prcb 4;
  system_table = table_word m prcb 5;
  interrupt_stack = table_word m prcb 7;
  sets = max LEAST_SETS (table_word m prcb 9 % 16);
  control = words_in m (table_word m prcb 1) CONTROL_WORDS;
}

-- the words of the PRCB that are used afterwards
abbrev pub tables_of : Setup → Tables
tables_of u = record {
  fault_table = u.fault_table;
  control_table = u.control_table;
  fault_config = u.fault_config;
  interrupt_table = u.interrupt_table;
  system_table = u.system_table;
  interrupt_stack = u.interrupt_stack;
  sets = u.sets;
}

-- configuration words of regions, from one up
abbrev pub with_regions : Memory → ℕ → List ℕ → Memory
with_regions m region ws = record m { mcon = written m.mcon (pairs_at (λ k. k) region ws) }

-- control words 8 to 23 are the configuration words of the sixteen regions
unfoldable pub configured : Memory → List ℕ → Memory
configured m control = with_regions m 0 (take 16 (drop 8 control))

-- until the control table is read, region 15 goes by the four boot bytes, the first one lowest
unfoldable pub with_boot_bytes : Memory → Memory
with_boot_bytes m = with_mcon m 15 (from_le_bytes w32 (map m.bytes BOOT_BYTES))

-- what boot reads: the boot record, with the boot bytes in effect, names the first instruction and the PRCB
unfoldable pub boot_setup : Memory → Setup
boot_setup m = let b = with_boot_bytes m in setup_of b (word_in b FIRST_INSTRUCTION) (word_in b PRCB_POINTER)

-- the memory after boot
unfoldable pub boot_memory : Memory → Memory
boot_memory m = configured (with_boot_bytes m) (boot_setup m).control
