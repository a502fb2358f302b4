use Rattle.std.proofs.Common.{◌≡◌, ◌++◌, take}
use Rattle.i9_elf.specs.Written.{words}
use Rattle.i9_elf.proofs.writing.add_words.Given as goal

abbrev pub invariant-loop-number : goal.invariant-loop-number
invariant-loop-number l = l.file.items ≡ l.fn.file.items ++ words (take l.number-index l.numbers)
