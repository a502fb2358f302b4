-- What the laws of sources and listings speak of.
use Rattle.std.specs.Prelude.{◌≡◌, ℕ, List, None}
use Rattle.i9_text.specs.FirstFault.{SaysAll, IsRefused}
use Rattle.i9_text.specs.Text.{lines_of}
use Rattle.i9_model.specs.Image.{Part, pairs_of}
use Rattle.i9_hex.specs.Runs.{SaySameBytes}
use Rattle.i9_asm.specs.Lines.{label_of}
use Rattle.i9_asm.specs.Places.{Place, past_label, all_names}
use Rattle.i9_asm.specs.Source.{Source, start_source, fault_of, Assembles, segments_of}

-- where a line of a source stands behind its label
abbrev pub item_place : Source → List ℕ → Place
item_place s line = past_label (label_of line) s.place

-- the lines of a source without fault, under the values that its names have in it, and its segments
pub record IsAssembly (lines : List (List ℕ)) (segments : List Part) : Type 0 where
  pub end : Source
  pub assembled : SaysAll (Assembles (all_names lines)) start_source lines end
  pub kept : segments_of end ≡ segments

-- a text whose lines assemble without fault, to the bytes of an image
pub record Reassembles (image : List Part) (text : List ℕ) : Type 0 where
  pub segments : List Part
  pub assembled : IsAssembly (lines_of text) segments
  pub same : SaySameBytes (pairs_of image) (pairs_of segments)

-- the first line at fault, counted from 1, and its least kind
abbrev pub IsRefusedSource : List (List ℕ) → ℕ × ℕ → Type 0
IsRefusedSource lines f = IsRefused (Assembles (all_names lines)) (fault_of (all_names lines))
    (λ _. None) start_source lines f
