-- The lines that tell of the place at which a machine stands.
use Rattle.std.specs.Prelude.{ℕ, ◌+◌, List, [], ◌∷◌, ◌++◌, codes, take, drop, map, length, reverse, Option, Some, None}
use Rattle.std.specs.Fmt.{decimal}
use Rattle.std.specs.List.{flat_map, range_with_len}
use Rattle.i9_model.specs.declared.frame.Frame.{Frame}
use Rattle.i9_model.specs.declared.view.View.{View}
use Rattle.i9_model.specs.PrintedText.{words_text, spaced, spaced_byte, line_feed, registers_text}
use Rattle.i9_model.specs.Run.{Given}
use Rattle.i9_model.specs.State.{boot}
use Rattle.i9_model.specs.Writes.{wrapped}
use Rattle.i9_course.specs.Course.{Item, course}
use Rattle.i9_pipeline.specs.Raw.{raw_memory}
use Rattle.i9_machine.specs.declared.line.Raw.{Raw}

-- the global and the local registers of a view, with dashes for those that are marked
abbrev pub view_registers : View → List ℕ
view_registers v = registers_text (codes "#g") v 16 ++ registers_text (codes "#l") v 0

-- the turn, and how many instructions have issued
unfoldable pub turn_text : ℕ → ℕ → List ℕ
turn_text t k = codes "#turn " ++ decimal t ++ codes " " ++ decimal k ++ line_feed

-- the count, the address, AC and PC of a view, and its registers
unfoldable pub view_text : View → List ℕ
view_text v =
    words_text (codes "#view " ++ decimal v.count) (v.ip ∷ v.ac ∷ v.pc ∷ []) ++ view_registers v

-- the turn, which registers are busy, and the registers as they stand
unfoldable pub raw_text : Raw → List ℕ
raw_text raw =
    words_text (codes "#raw " ++ decimal raw.turn) (raw.busy ∷ [])
    ++ (words_text (codes "#rg") (drop 16 raw.regs) ++ words_text (codes "#rl") (take 16 raw.regs))

-- how many sets there are, how many of them hold a frame, and the addresses to which these frames are saved; frames are
-- given the oldest first, and told the youngest first
unfoldable pub held_text : ℕ → List Frame → List ℕ
held_text n fs =
    words_text (codes "#held " ++ decimal n ++ codes " " ++ decimal (length fs)) (map (λ f. f.address) (reverse fs))

-- the bytes from an address on as they stand
unfoldable pub raw_bytes_text : ℕ → List (Option ℕ) → List ℕ
raw_bytes_text a bs = codes "#rawmem" ++ spaced a ++ flat_map spaced_byte bs ++ line_feed

-- the bytes of raw memory from an address up, at a turn behind items
abbrev pub raw_bytes : Given → List Item → ℕ → ℕ → ℕ → List (Option ℕ)
raw_bytes g h t a n = map (λ k. Some (raw_memory (boot g.image).memory.bytes t (course g h).late (wrapped (a + k))))
    (range_with_len 0 n)

-- what last changed a byte: how many instructions there are up to it, and its address
unfoldable pub who_text : Option (ℕ × ℕ) → List ℕ
who_text None = codes "#who none" ++ line_feed
who_text (Some change) = codes "#who " ++ decimal change.0 ++ spaced change.1 ++ line_feed
