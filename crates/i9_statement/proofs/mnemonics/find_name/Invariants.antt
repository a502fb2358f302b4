use Rattle.std.proofs.Common.{◌≡◌, drop, find}
use Rattle.std.specs.Str.{bytes_eq}
use Rattle.i9_statement.specs.Mnemonics.{mnemonic}
use Rattle.i9_statement.proofs.mnemonics.find_name.Given as goal

abbrev pub invariant-loop-op : goal.invariant-loop-op
invariant-loop-op l = find (λ op. bytes_eq l.text (mnemonic op)) (drop l.op-index l.ops) ≡ find (λ op. bytes_eq l.text (mnemonic op)) l.ops
