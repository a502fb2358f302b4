-- The bits of a first word that are ignored.
use Rattle.std.specs.Prelude.{◌≡◌, ℕ, ◌+◌, ◌-◌, ◌*◌, ◌^◌, ◌<◌, Bool, true, false, not, if◌then◌else◌, List, [], ◌∷◌}
use Rattle.std.specs.Int.{bit_at}
use Rattle.i9_isa.specs.declared.inst.Inst.{Inst}
use Rattle.i9_isa.specs.declared.inst.Mode.{Mode}
use Rattle.i9_isa.specs.declared.format.Row.{Row}
use Rattle.i9_isa.specs.declared.format.Format.{Format}
use Rattle.i9_isa.specs.declared.format.Use.{Use}
use Rattle.i9_isa.specs.Operands.{is_unused, has_base, has_index, has_offset}
use Rattle.i9_isa.specs.Table.{row_of}

-- a field of a word: its lowest bit, its width, and whether it counts
pub record Field : Type 0 where
  pub low : ℕ
  pub width : ℕ
  pub counts : Bool

abbrev pub at : ℕ → ℕ → Bool → Field
at l n c = record { low = l; width = n; counts = c }

-- the fields of the register format, by whether the row uses src1, src2 and src/dst
abbrev pub reg_fields : Bool → Bool → Bool → List Field
reg_fields a b c =
    at 24 8 true ∷ at 19 5 c ∷ at 14 5 b ∷ at 13 1 c ∷ at 12 1 b ∷ at 11 1 a
    ∷ at 7 4 true ∷ at 6 1 b ∷ at 5 1 a ∷ at 0 5 a ∷ []

-- those of the compare-and-branch format, by whether the row uses src2, a displacement and a prediction
abbrev pub cobr_fields : Bool → Bool → Bool → List Field
cobr_fields b disp hint = at 24 8 true ∷ at 19 5 true ∷ at 14 5 b ∷ at 13 1 true ∷ at 2 11 disp ∷ at 1 1 hint
    ∷ at 0 1 b ∷ []

-- those of the control format, by whether the row uses a displacement and a prediction
abbrev pub ctrl_fields : Bool → Bool → List Field
ctrl_fields disp hint = at 24 8 true ∷ at 2 22 disp ∷ at 1 1 hint ∷ at 0 1 false ∷ []

-- the low bits of the memory format: an offset, or the rest of the mode with a scale and an index
abbrev pub low_fields : Mode → List Field
low_fields m =
    if has_offset m then at 0 12 true ∷ []
    else at 10 2 true ∷ at 7 3 (has_index m) ∷ at 5 2 false ∷ at 0 5 (has_index m) ∷ []

-- those of the memory format, by whether the row uses src/dst, and by the mode
abbrev pub mem_fields : Bool → Mode → List Field
mem_fields c m = at 24 8 true ∷ at 19 5 c ∷ at 14 5 (has_base m) ∷ at 13 1 true ∷ at 12 1 true ∷ low_fields m

abbrev pub is_used : Use → Bool
is_used u = not (is_unused u)

-- the fields of a word of this format, row and mode
abbrev pub fields_of : Format → Row → Mode → List Field
fields_of Format.Reg r m = reg_fields (is_used r.a) (is_used r.b) (is_used r.c)
fields_of Format.Cobr r m = cobr_fields (is_used r.b) r.disp r.hint
fields_of Format.Ctrl r m = ctrl_fields r.disp r.hint
fields_of Format.Mem r m = mem_fields (is_used r.c) m

-- the bits of the fields that don't count
abbrev pub ignored_in : List Field → ℕ
ignored_in [] = 0
ignored_in (f ∷ fs) = (if f.counts then 0 else (2 ^ f.width - 1) * 2 ^ f.low) + ignored_in fs

-- the bits of an instruction's first word that are ignored
abbrev pub ignored_bits : Inst → ℕ
ignored_bits i = ignored_in (fields_of (row_of i.op).format (row_of i.op) i.ea.mode)

-- two words have the same bits outside of s
abbrev pub SameOutside : ℕ → ℕ → ℕ → Type 0
SameOutside s w v = (k : ℕ) → k < 32 → bit_at s k ≡ 0 → bit_at w k ≡ bit_at v k

-- the word has none of the bits of s
abbrev pub HasNone : ℕ → ℕ → Type 0
HasNone s w = (k : ℕ) → k < 32 → bit_at s k ≡ 1 → bit_at w k ≡ 0
