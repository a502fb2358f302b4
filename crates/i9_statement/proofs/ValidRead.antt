-- What is read as an instruction is always a valid one: what is at fault stands for register 0, address 0 or
-- distance 0.
use Rattle.std.proofs.Common.{◌≡◌, ℕ, ◌^◌, ◌<◌, Bool, true, false, cond, ltb, List, Option, Some, None, IfSome, refl, arith}
use Rattle.std.specs.Option.{option_map, option_and_then}
use Rattle.std.proofs.lemmas.Bool.{lt-ltb}
use Rattle.std.proofs.lemmas.Bool.Decides.{nat_tests}
use Rattle.i9_isa.specs.declared.inst.Operand.{Operand}
use Rattle.i9_isa.specs.declared.inst.Operand.TheVariants.{Reg}
use Rattle.i9_isa.specs.declared.format.Format.{Format}
use Rattle.i9_isa.specs.declared.format.Format.TheVariants as format
use Rattle.i9_isa.specs.declared.format.Use.{Use}
use Rattle.i9_isa.specs.declared.format.Use.TheVariants.{Unused}
use Rattle.i9_isa.specs.Operands.{takes, is_address}
use Rattle.i9_isa.specs.declared.op.Op.{Op}
use Rattle.i9_isa.specs.Table.{row_of}
use Rattle.i9_isa.specs.Valid.{is_within, FitsDisp, FitsAddress, IsValid}
use Rattle.i9_statement.specs.declared.values.Value.{Value}
use Rattle.i9_statement.specs.declared.values.Value.TheVariants.{Number, Named}
use Rattle.i9_statement.specs.declared.parts.Front.{Front}
use Rattle.i9_statement.specs.declared.parts.Front.TheVariants.{Valued}
use Rattle.i9_statement.specs.declared.parts.Base.{Base}
use Rattle.i9_statement.specs.declared.parts.Index.{Index}
use Rattle.i9_statement.specs.declared.parts.Index.TheVariants as index
use Rattle.i9_statement.specs.Cut.{before, from}
use Rattle.i9_statement.specs.Registers.{register_of}
use Rattle.i9_statement.specs.Values.{Names, value_of, value_noted}
use Rattle.i9_statement.specs.Operands.{operand_as, operand_of}
use Rattle.i9_statement.specs.Addresses.{opens, base_of, scale_of, index_of, front_of, with_index, with_base, address_behind, address_of, is_short, mode_of, plain_register, address_by}
use Rattle.i9_statement.specs.Targets.{reach, target_of}
use Rattle.i9_statement.specs.Instructions.{Fields, take_operand, take_address, take_target, chosen, instruction_of}
use Rattle.i9_statement.proofs.ReadInstructions.{is_branching, disp_branching}

-- ---- operands

zero_taken : (u : Use) → takes u (Reg 0) ≡ true
zero_taken u = grind arith

as_taken : (u : Use) (o : Option Operand) (v : Option Value) → takes u (operand_as u o v).value ≡ true
as_taken u o v = grind arith

operand_valid : (u : Use) (names : Names) (s : List ℕ) → takes u (operand_of u names s).value ≡ true
unfolding operand_of
operand_valid u names s = as_taken u (register_of s) (value_of names s)

pub taken_operand : (u : Use) (names : Names) (fs : Fields) → takes u (take_operand u names fs).0.value ≡ true
taken_operand u names fs = grind (arith, zero_taken, operand_valid)

-- ---- targets

pub taken_target : (ip : ℕ) (f : Format) (names : Names) (fs : Fields) → is_within (reach f) (take_target true ip f names fs).0.value ≡ true
unfolding target_of
taken_target ip f names fs = grind arith

-- ---- addresses

plain_low : (k : ℕ) → ltb (plain_register k).value 32 ≡ true
plain_low k = grind (arith, nat_tests)

-- a value that fits 32 bits
abbrev IsSmall : Value → Type 0
IsSmall (Number n) = n < 2 ^ 32
IsSmall (Named n) = n < 2 ^ 32
IsSmall _ = Unit {0}

abbrev FrontSmall : Front → Type 0
FrontSmall (Valued v) = IsSmall v
FrontSmall _ = Unit {0}

abbrev IndexSmall : Index → Type 0
IndexSmall (index.Scaled r k) = k < 5
IndexSmall index.Nothing = Unit {0}

noted_small : (v : Value) → IsSmall v → ltb (value_noted v).value (2 ^ 32) ≡ true
noted_small v h = grind arith

short_small : (v : Value) → is_short v ≡ true → ltb (value_noted v).value 4096 ≡ true
short_small v h = grind arith

abbrev IsValidAddress : Bool → Front → Base → Index → Type 0
IsValidAddress forced f b i = is_address (address_by (mode_of forced f b i) f b i).value ≡ true

address_valid : (forced : Bool) (f : Front) (b : Base) (i : Index) → FrontSmall f → IndexSmall i → IsValidAddress forced f b i
address_valid forced f b i hf hi = grind (arith, plain_low, lt-ltb, short_small, noted_small)

-- ---- values and scales are small

-- what holds of all that a function gives, holds of what it gives for an option
pub if_some-map : {A B : Type 0} (P : B → Type 0) (f : A → B) (o : Option A) → ((x : A) → P (f x)) → IfSome (option_map f o) P
if_some-map P f None h = tt
if_some-map P f (Some x) h = h x

pub if_some-then : {A B : Type 0} (P : B → Type 0) (f : A → Option B) (o : Option A) → ((x : A) → IfSome (f x) P) → IfSome (option_and_then f o) P
if_some-then P f None h = tt
if_some-then P f (Some x) h = h x

front_small : (names : Names) (s : List ℕ) → FrontSmall (front_of names s)
unfolding value_of
front_small names s = grind (arith, if_some-map, nat_tests)

index_small : (s : List ℕ) → IfSome (index_of s) IndexSmall
unfolding index_of scale_of
index_small s = grind arith

-- ---- whole addresses

with_valid : (forced : Bool) (f : Front) (b : Option (Base × List ℕ)) → FrontSmall f → is_address (with_base forced f b).value ≡ true
with_valid forced f None h = refl
with_valid forced f (Some b) h = by_index (index_of b.1) (index_small b.1)
  where
    by_index : (o : Option Index) → IfSome o IndexSmall → is_address (with_index forced f b.0 o).value ≡ true
    by_index None i = refl
    by_index (Some i) small = address_valid forced f b.0 i h small

behind_valid : (forced : Bool) (names : Names) (s : List ℕ) → is_address (address_behind forced names s).value ≡ true
unfolding address_behind
behind_valid forced names s = with_valid forced (front_of names (before opens s)) (base_of (from opens s)) (front_small names (before opens s))

read_address : (names : Names) (s : List ℕ) → is_address (address_of names s).value ≡ true
unfolding address_of
read_address names s = grind (arith, behind_valid)

-- ---- whole instructions

taken_address : (f : Format) (names : Names) (fs : Fields) → FitsAddress f (take_address f names fs).0.value
taken_address f names fs = grind (arith, read_address)

taken_disp : (f : Format) (uses : Bool) (ip : ℕ) (names : Names) (fs : Fields) → cond uses (is_branching f) true ≡ true → FitsDisp f uses (take_target uses ip f names fs).0.value
taken_disp format.Cobr true ip names fs h = taken_target ip format.Cobr names fs
taken_disp format.Ctrl true ip names fs h = taken_target ip format.Ctrl names fs
taken_disp _ true ip names fs h = absurd cc
taken_disp format.Reg false ip names fs h = refl
taken_disp _ false ip names fs h = refl

taken_chosen : (q : Bool) (u : Use) (names : Names) (fs gs : Fields) → takes u (chosen q (take_operand (cond q u Unused) names fs).0.value (take_operand (cond q Unused u) names gs).0.value) ≡ true
taken_chosen q u names fs gs = grind (arith, taken_operand)

-- what is read as an instruction is a valid one
pub instruction_valid : (ip : ℕ) (op : Op) (hint : Bool) (names : Names) (fs : Fields) → (hint ≡ true → (row_of op).hint ≡ true) → IsValid (instruction_of ip op hint names fs).value
unfolding instruction_of
instruction_valid ip op hint names fs h =
    grind (arith, taken_operand, taken_chosen, taken_address, taken_disp, disp_branching)
