-- What the first word decides of an instruction whatever the second one is: whether it is refused, and whether it has a
-- second word; where it has none, all of it.
use Rattle.std.proofs.Common.{◌≡◌, ℕ, Bool, false, cond, eqb, Option, Some, None, option_and_then, Result, Ok, Err, arith}
use Rattle.std.specs.Prelude.{ℤ, find}
use Rattle.i9_isa.specs.declared.op.Op.{Op}
use Rattle.i9_isa.specs.declared.inst.Operand.{Operand}
use Rattle.i9_isa.specs.declared.inst.Mode.{Mode}
use Rattle.i9_isa.specs.declared.inst.Ea.{Ea}
use Rattle.i9_isa.specs.declared.inst.Inst.{Inst}
use Rattle.i9_isa.specs.declared.inst.BadWord.{BadWord}
use Rattle.i9_isa.specs.declared.format.Format.{Format}
use Rattle.i9_isa.specs.Table.{names}
use Rattle.i9_isa.specs.Words.{words_of_mode, words_of, address_in, if_scaled, ea_in, with_operands, is_named, read_as, decoded_as, decoded}

-- addresses of one mode, the same where it has no second word
abbrev pub AreOfMode : Option Ea → Option Ea → Type 0
AreOfMode (Some e) (Some d) = (d.mode ≡ e.mode) × (eqb (words_of_mode e.mode) 2 ≡ false → d ≡ e)
AreOfMode None None = Unit {0}
AreOfMode _ _ = ⊥

-- instructions of as many words, the same where there is one, or the same refusal
abbrev pub AreOfWord : Result Inst BadWord → Result Inst BadWord → Type 0
AreOfWord (Ok i) (Ok j) = (words_of j ≡ words_of i) × (eqb (words_of i) 2 ≡ false → j ≡ i)
AreOfWord (Err e) (Err d) = d ≡ e
AreOfWord _ _ = ⊥

scaled_alike : (m : Mode) (w x y : ℕ) (b : Bool) → AreOfMode (cond b (Some (address_in m w x)) None) (cond b (Some (address_in m w y)) None)
scaled_alike m w x y b = grind arith

modes_alike : (o : Option Mode) (w x y : ℕ) → AreOfMode (option_and_then (λ m. if_scaled (address_in m w x)) o) (option_and_then (λ m. if_scaled (address_in m w y)) o)
modes_alike o w x y = grind (arith, scaled_alike)

addresses_alike : (f : Format) (w x y : ℕ) → AreOfMode (ea_in f w x) (ea_in f w y)
addresses_alike f w x y = grind (arith, modes_alike)

operands_alike : (op : Op) (a b c : Option Operand) (e d : Option Ea) (disp : ℤ) (hint : Bool) → AreOfMode e d → AreOfWord (with_operands op a b c e disp hint) (with_operands op a b c d disp hint)
operands_alike op a b c e d disp hint same = grind arith

read_alike : (op : Op) (w x y : ℕ) → AreOfWord (read_as op w x) (read_as op w y)
read_alike op w x y = grind (arith, operands_alike, addresses_alike)

formed_alike : (b : Bool) (op : Op) (w x y : ℕ) → AreOfWord (cond b (read_as op w x) (Err BadWord.Opcode)) (cond b (read_as op w y) (Err BadWord.Opcode))
formed_alike b op w x y = grind (arith, read_alike)

named_alike : (o : Option Op) (w x y : ℕ) → AreOfWord (decoded_as o w x) (decoded_as o w y)
named_alike o w x y = grind (arith, formed_alike)

pub decoded_alike : (w x y : ℕ) → AreOfWord (decoded w x) (decoded w y)
unfolding decoded
decoded_alike w x y = named_alike (find (is_named w) names) w x y
