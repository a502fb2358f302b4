-- The bytes of which printed operands are made.
use Rattle.std.proofs.Common.{◌≡◌, ℕ, ◌+◌, ◌^◌, ◌<◌, Bool, true, false, cond, ◌||◌, List, [], ◌∷◌, ◌++◌, refl, arith}
use Rattle.std.specs.Prelude.{ℤ, get_or}
use Rattle.std.specs.List.{list_all, AllByRecursion}
use Rattle.i9_isa.specs.declared.inst.Operand.{Operand}
use Rattle.i9_isa.specs.declared.inst.Operand.TheVariants.{Reg, Lit, Sfr}
use Rattle.i9_isa.specs.declared.inst.Mode.{Mode}
use Rattle.i9_isa.specs.declared.inst.Mode.TheVariants.{BaseIndex, IndexDisp, BaseIndexDisp}
use Rattle.i9_isa.specs.declared.inst.Ea.{Ea}
use Rattle.i9_isa.specs.declared.inst.Inst.{Inst}
use Rattle.i9_isa.specs.Operands.{is_address}
use Rattle.i9_isa.specs.Valid.{IsValid}
use Rattle.i9_text.specs.Text.{is_blank}
use Rattle.std.specs.Fmt.{decimal}
use Rattle.i9_statement.specs.Cut.{is_byte}
use Rattle.i9_statement.specs.Registers.{register_text}
use Rattle.i9_statement.specs.Values.{is_name_byte}
use Rattle.i9_statement.specs.Addresses.{scale_names}
use Rattle.i9_statement.specs.NumberText.{hex_text, hex_byte_text}
use Rattle.i9_statement.specs.Printed.{HasText, needs_bang, operand_text, front_text, base_text, index_text, bang_text, address_text, target, target_text}
use Rattle.i9_statement.specs.Instructions.{Fields, operand_fields}
use Rattle.i9_statement.proofs.Cutting.{is_free, free_by, all_by, all_append}
pub use Rattle.i9_statement.proofs.Cutting.{apart_by, free_in}
use Rattle.i9_statement.proofs.ReadValues.{has_byte, has_byte-some, register_bytes, register_some, decimal_bytes, decimal_some, hex_bytes, hex_byte_bytes}
use Rattle.i9_statement.proofs.ReadOperands.{taken_in_range}
use Rattle.i9_statement.proofs.ReadAddresses.{scale_name_bytes, ea, Within, within}

-- a letter, a digit, `_`, or a sign of an address
abbrev pub is_operand_byte : ℕ → Bool
is_operand_byte b = is_name_byte b || (is_byte 33 b || (is_byte 40 b || (is_byte 41 b || (is_byte 42 b || (is_byte 91 b || is_byte 93 b)))))

pub free_of_blanks : (q : ℕ → Bool) (w : List ℕ) → q 32 ≡ false → q 9 ≡ false → list_all q w ≡ true → is_free is_blank w ≡ true
free_of_blanks q w space tab h = free_by q is_blank (λ b in_q. rw (apart_by q 32 b space in_q, apart_by q 9 b tab in_q) refl) w h

-- an operand as it is printed
pub record IsField (f : List ℕ) : Type 0 where
  pub bytes : list_all is_operand_byte f ≡ true
  pub some : has_byte f ≡ true

named_bytes : (w : List ℕ) → list_all is_name_byte w ≡ true → list_all is_operand_byte w ≡ true
named_bytes w h = all_by is_name_byte is_operand_byte (λ b in_q. rw in_q refl) w h

pub has_front : (v w : List ℕ) → has_byte v ≡ true → has_byte (v ++ w) ≡ true
has_front v w h = grind arith

pub has_back : (v w : List ℕ) → has_byte w ≡ true → has_byte (v ++ w) ≡ true
has_back [] w h = h
has_back (b ∷ v) w h = refl

register_field : (k : ℕ) → k < 39 → IsField (register_text k)
register_field k h = record { bytes = named_bytes (register_text k) (register_bytes k h); some = register_some k h }

pub field_of_operand : (o : Operand) → HasText o → IsField (operand_text o)
unfolding operand_text
field_of_operand (Reg r) h = register_field r (omega arith)
field_of_operand (Sfr s) h = register_field (32 + s) (omega arith)
field_of_operand (Lit l) h = record { bytes = named_bytes (decimal l) (decimal_bytes l (omega arith)); some = has_byte-some (decimal l) (decimal_some l (omega arith)) }

pub hex_field : (n : ℕ) → IsField (hex_text n)
unfolding hex_text
hex_field n = record { bytes = named_bytes (hex_text n) (hex_bytes n); some = refl }

pub hex_byte_field : (b : ℕ) → b < 256 → IsField (hex_byte_text b)
unfolding hex_byte_text
hex_byte_field b h = record { bytes = named_bytes (hex_byte_text b) (hex_byte_bytes b h); some = refl }

pub field_of_target : (ip : ℕ) (z : ℤ) → IsField (target_text ip z)
unfolding target_text
field_of_target ip z = hex_field (target ip z)

-- ---- addresses

-- the texts of the parts of an address
bang_bytes : (q : Bool) → list_all is_operand_byte (cond q (33 ∷ []) []) ≡ true
bang_bytes q = grind arith

front_decimal : (q : Bool) (d : ℕ) → d < 2 ^ 32 → list_all is_operand_byte (cond q [] (decimal d)) ≡ true
front_decimal q d h = grind (arith, named_bytes, decimal_bytes)

front_bytes : (m : Mode) (d : ℕ) → d < 2 ^ 32 → list_all is_operand_byte (front_text m d) ≡ true
front_bytes m d h = grind (arith, named_bytes, decimal_bytes, front_decimal, hex_bytes)

round_bytes : (r : ℕ) → r < 32 → list_all is_operand_byte (40 ∷ register_text r ++ 41 ∷ []) ≡ true
round_bytes r h = all_append is_operand_byte (register_text r) (41 ∷ []) (named_bytes (register_text r) (register_bytes r (omega arith))) refl

base_bytes : (m : Mode) (r : ℕ) → r < 32 → list_all is_operand_byte (base_text m r) ≡ true
base_bytes m r h = grind (arith, round_bytes)

square_bytes : (r s : ℕ) → r < 32 → s < 5 → list_all is_operand_byte (91 ∷ (register_text r ++ 42 ∷ get_or scale_names s []) ++ 93 ∷ []) ≡ true
square_bytes r s hr hs = grind (arith, all_append, named_bytes, register_bytes, scale_name_bytes)

index_bytes : (m : Mode) (r s : ℕ) → r < 32 → s < 5 → list_all is_operand_byte (index_text m r s) ≡ true
index_bytes BaseIndex r s hr hs = square_bytes r s hr hs
index_bytes IndexDisp r s hr hs = square_bytes r s hr hs
index_bytes BaseIndexDisp r s hr hs = square_bytes r s hr hs
index_bytes _ r s hr hs = refl

-- what is printed of an address is not empty
address_some : (m : Mode) (b i s d : ℕ) → d < 2 ^ 32 → has_byte (bang_text m d ++ (front_text m d ++ (base_text m b ++ index_text m i s))) ≡ true
unfolding hex_text
address_some m b i s d h = grind (arith, has_front, has_byte-some, decimal_some, has_back)

address_bytes : (m : Mode) (b i s d : ℕ) → Within (ea m b i s d) → list_all is_operand_byte (bang_text m d ++ (front_text m d ++ (base_text m b ++ index_text m i s))) ≡ true
address_bytes m b i s d w =
    all_append is_operand_byte (bang_text m d) _ (bang_bytes (needs_bang m d))
    (all_append is_operand_byte (front_text m d) _ (front_bytes m d w.disp)
    (all_append is_operand_byte (base_text m b) (index_text m i s) (base_bytes m b w.base) (index_bytes m i s w.index w.scale)))

pub field_of_address : (e : Ea) → is_address e ≡ true → IsField (address_text e)
unfolding address_text
field_of_address e h = record {
  bytes = address_bytes e.mode e.base e.index e.scale e.disp (within e h);
  some = address_some e.mode e.base e.index e.scale e.disp (within e h).disp;
}

-- ---- the operands of an instruction

fields_append : (fs gs : Fields) → AllByRecursion IsField fs → AllByRecursion IsField gs → AllByRecursion IsField (fs ++ gs)
fields_append [] gs hf hg = hg
fields_append (f ∷ fs) gs hf hg = (hf.0, fields_append fs gs hf.1 hg)

pub operand_fields-fields : (ip : ℕ) (i : Inst) → IsValid i → AllByRecursion IsField (operand_fields ip i)
unfolding operand_fields
operand_fields-fields ip i v =
    grind (arith, field_of_operand, taken_in_range, fields_append, field_of_address, field_of_target)
