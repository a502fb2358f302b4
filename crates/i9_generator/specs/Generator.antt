-- The job that is made from a number: a source whose run calls itself deep and often while interrupts come, and the
-- schedule of these. Both are this project's own.
use Rattle.std.specs.Prelude.{ℕ, zero, suc, ◌+◌, ◌*◌, ◌%◌, ◌^◌, List, ◌++◌, codes}
use Rattle.std.specs.List.{flat_map, range_with_len}
use Rattle.std.specs.Fmt.{decimal}

-- ---- what is drawn

-- the numbers that are drawn, each from the one before, of which the one at 0 is given
unfoldable pub drawn : ℕ → ℕ → ℕ
drawn number zero = number
drawn number (suc k) = (1664525 * drawn number k + 1013904223) % 2 ^ 32

-- how many calls stand within one another
abbrev pub depth_of : ℕ → ℕ
depth_of number = 8 + drawn number 1 % 56

-- how often the outermost call is made
abbrev pub rounds_of : ℕ → ℕ
rounds_of number = 500 + drawn number 2 % 2000

-- the word that the calls begin with
abbrev pub start_of : ℕ → ℕ
start_of number = drawn number 3

-- ---- the source

-- the boot record, the PRCB, the control table and the handlers of the eight pins
unfoldable pub tables_text : List ℕ
tables_text =
    codes ".org 0xFFFFFF10\n"
    ++ codes ".word 0x1000, 0x800\n"
    ++ codes ".org 0x800\n"
    ++ codes ".word 0x900, 0xA00, 0, 0x40000000, 0x2000, 0xB00, 0, 0x200000, 0, 0\n"
    ++ codes ".org 0xA10\n"
    ++ codes ".word 0x4321, 0x8765\n"
    ++ codes ".org 0x204C\n"
    ++ codes ".word tick\n"
    ++ codes ".org 0x208C\n"
    ++ codes ".word tick\n"
    ++ codes ".org 0x20CC\n"
    ++ codes ".word tick\n"
    ++ codes ".org 0x210C\n"
    ++ codes ".word tick\n"
    ++ codes ".org 0x214C\n"
    ++ codes ".word tick\n"
    ++ codes ".org 0x218C\n"
    ++ codes ".word tick\n"
    ++ codes ".org 0x21CC\n"
    ++ codes ".word tick\n"
    ++ codes ".org 0x220C\n"
    ++ codes ".word tick\n"

-- sets up the stack, unmasks the pins, and lowers the priority
unfoldable pub set_up_text : List ℕ
set_up_text =
    codes ".org 0x1000\n"
    ++ codes "lda 0x100000, fp\n"
    ++ codes "lda 64(fp), sp\n"
    ++ codes "lda 0xFF, g8\n"
    ++ codes "mov g8, sf1\n"
    ++ codes "lda 0x1F2000, g9\n"
    ++ codes "mov 0, g10\n"
    ++ codes "modpc g10, g9, g10\n"

-- the end of the loop and of the run, whose word is the number of interrupts; the procedure; and the handler of the
-- pins
unfoldable pub calls_text : List ℕ
calls_text =
    codes "call f\n"
    ++ codes "subo 1, g6, g6\n"
    ++ codes "cmpobne 0, g6, loop\n"
    ++ codes "lda 0xE0000000, g5\n"
    ++ codes "st g12, 4(g5)\n"
    ++ codes "f: addo g0, g7, g7\n"
    ++ codes "rotate 5, g7, g7\n"
    ++ codes "mov g0, r4\n"
    ++ codes "cmpobe 0, g0, leaf\n"
    ++ codes "subo 1, g0, g0\n"
    ++ codes "call f\n"
    ++ codes "leaf: xor r4, g7, g7\n"
    ++ codes "ret\n"
    ++ codes "tick: addo 1, g12, g12\n"
    ++ codes "ret\n"

-- the whole source, with three lines that go by the number
unfoldable pub generated_source : ℕ → List ℕ
generated_source number =
    tables_text
    ++ set_up_text
    ++ codes "lda " ++ decimal (rounds_of number) ++ codes ", g6\n"
    ++ codes "lda " ++ decimal (start_of number) ++ codes ", g7\n"
    ++ codes "loop: lda " ++ decimal (depth_of number) ++ codes ", g0\n"
    ++ calls_text

-- ---- the schedule

-- how many events there are
abbrev pub event_number : ℕ
event_number = 2000

-- a pin after so many instructions
abbrev pub pin_line : ℕ → ℕ → List ℕ
pin_line count pin = codes "at " ++ decimal count ++ codes " pin " ++ decimal pin ++ codes "\n"

-- the event at a place, of which the first is 1
abbrev pub event_line : ℕ → ℕ → List ℕ
event_line number j = pin_line (100 * j) (drawn number (3 + j) % 8)

unfoldable pub generated_schedule : ℕ → List ℕ
generated_schedule number = flat_map (event_line number) (range_with_len 1 event_number)
