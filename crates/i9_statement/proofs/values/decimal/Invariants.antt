use Rattle.std.proofs.Common.{◌≡◌, take}
use Rattle.std.specs.Str.Parse.{AllDigits, digits_value}
use Rattle.i9_statement.specs.Values.{capped}
use Rattle.i9_statement.proofs.values.decimal.Given as goal

abbrev pub invariant-loop-byte : goal.invariant-loop-byte
invariant-loop-byte l = record {
  value : l.value ≡ capped (digits_value 10 (take l.byte-index l.text));
  digits : AllDigits 10 (take l.byte-index l.text);
}
