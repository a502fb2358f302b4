use Rattle.std.proofs.Common.{◌≡◌, ◌+◌, ◌++◌, drop, map}
use Rattle.i9_hex.specs.Shown.{part_of}
use Rattle.i9_hex.specs.Runs.{bytes_in}
use Rattle.i9_elf.specs.Written.{program_headers}
use Rattle.i9_elf.proofs.writing.add_headers.Given as goal

abbrev pub invariant-loop-run : goal.invariant-loop-run
invariant-loop-run l = record {
  same : l.file.items ++ program_headers l.place (map part_of (drop l.run-index l.runs)) ≡ l.fn.file.items ++ program_headers l.start (map part_of l.runs);
  room : l.place + bytes_in (map part_of (drop l.run-index l.runs)) ≡ l.start + bytes_in (map part_of l.runs);
}
