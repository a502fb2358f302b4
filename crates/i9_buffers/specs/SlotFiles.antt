-- Files that lie in three buffers.
use Rattle.std.specs.Prelude.{ℕ, List, Option, Some, None, IsSome, if◌then◌else◌, codes}
use Rattle.std.specs.Str.{bytes_eq}
use Rattle.i9_buffers.specs.declared.slots.SlotFiles.{SlotFiles}

-- the file of a name, of three files that are named 1, 2 and 3
unfoldable pub slot_of : List ℕ → List ℕ → List ℕ → List ℕ → Option (List ℕ)
slot_of first second third name =
    if bytes_eq name (codes "1") then Some first
    else if bytes_eq name (codes "2") then Some second
    else if bytes_eq name (codes "3") then Some third
    else None

-- the same of files in buffers
abbrev pub slot_file : SlotFiles → List ℕ → Option (List ℕ)
slot_file s name = slot_of s.first.now s.second.now s.third.now name

-- how many fetches were begun
abbrev pub fetch_count : SlotFiles → ℕ
fetch_count s = s.fetches

-- how many names had no file
abbrev pub miss_count : SlotFiles → ℕ
miss_count s = s.misses

-- no fetch of the name can fail: there is such a file
abbrev pub IsSureOf : SlotFiles → List ℕ → Type 0
IsSureOf s name = IsSome (slot_file s name)
