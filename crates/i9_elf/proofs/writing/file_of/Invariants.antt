use Rattle.std.proofs.Common.{◌≡◌, ◌++◌, length, map, take}
use Rattle.std.specs.List.{flat_map}
use Rattle.i9_model.specs.Image.{Part}
use Rattle.i9_hex.specs.Shown.{part_of}
use Rattle.i9_elf.specs.Written.{file_header, program_headers, bytes_place}
use Rattle.i9_elf.proofs.writing.file_of.Given as goal

abbrev pub invariant-loop-run : goal.invariant-loop-run
invariant-loop-run l =
    l.file.items ≡ (file_header (length l.runs) ++ program_headers (bytes_place (length l.runs)) (map part_of l.runs)) ++ flat_map (λ (run : Part). run.bytes) (map part_of (take l.run-index l.runs))
