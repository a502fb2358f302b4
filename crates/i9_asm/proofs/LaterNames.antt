-- A statement counts the same bytes before names have values: a name that has none yet changes no form and no mode.
use Rattle.std.proofs.Common.{◌≡◌, ℕ, ◌+◌, ◌*◌, ◌%◌, ◌^◌, Bool, false, List, [], ◌∷◌, Option, Some, None, refl, ap, inl, inr, arith}
use Rattle.std.specs.Prelude.{ℤ}
use Rattle.std.specs.Option.{option_map}
use Rattle.std.proofs.lemmas.Bool.{cases_Bool}
use Rattle.i9_isa.specs.declared.op.Op.{Op}
use Rattle.i9_isa.specs.declared.inst.Operand.{Operand}
use Rattle.i9_isa.specs.declared.inst.Ea.{Ea}
use Rattle.i9_isa.specs.declared.inst.Inst.{Inst}
use Rattle.i9_isa.specs.declared.format.Format.{Format}
use Rattle.i9_isa.specs.declared.format.Use.{Use}
use Rattle.i9_isa.specs.Table.{row_of}
use Rattle.i9_isa.specs.Words.{words_of}
use Rattle.i9_decode.specs.Ignored.{ignored_bits}
use Rattle.i9_statement.specs.declared.fault.Fault.{Fault}
use Rattle.i9_statement.specs.declared.fault.Noted.{Noted}
use Rattle.i9_statement.specs.declared.values.Value.{Value}
use Rattle.i9_statement.specs.declared.values.Value.TheVariants.{Number, Named, Beyond, Unknown}
use Rattle.i9_statement.specs.Cut.{before, from}
use Rattle.i9_statement.specs.Noted.{least}
use Rattle.i9_statement.specs.Values.{Names, is_name, has_name_start, is_sign, number_text, named, tail_number, name_text, value_of}
use Rattle.i9_statement.specs.declared.parts.Front.{Front}
use Rattle.i9_statement.specs.declared.parts.Front.TheVariants.{Absent, Valued}
use Rattle.i9_statement.specs.declared.parts.Base.{Base}
use Rattle.i9_statement.specs.declared.statements.Statement.{Statement}
use Rattle.i9_statement.specs.Operands.{operand_as, operand_of}
use Rattle.i9_statement.specs.Addresses.{opens, base_of, valued, front_of, with_base, address_behind, address_of}
use Rattle.i9_statement.specs.Targets.{target_by, target_of}
use Rattle.i9_statement.specs.Instructions.{Fields, Taken, take_operand, take_address, take_target, first_use, last_use, left_over, instruction_of}
use Rattle.i9_statement.specs.Statements.{spare_noted, statement_of}
use Rattle.i9_asm.specs.Places.{no_names, is_form_fault, statement_size}
use Rattle.i9_asm.proofs.TakenLines.{least_left, least_right}

-- ---- faults

form_least : (a b : Option Fault) → is_form_fault a ≡ false → is_form_fault b ≡ false → is_form_fault (least a b) ≡ false
form_least None b x y = y
form_least (Some a) None x y = x
form_least (Some a) (Some b) x y = grind (arith, cases_Bool)

-- where a fault is none with the values of names, without them it is no fault of form
record Late (early final : Option Fault) : Type 0 where
  late : final ≡ None → is_form_fault early ≡ false

late_same : (a : Option Fault) → Late a a
late_same a = record { late = λ h. ap is_form_fault h }

both : {a b c d : Option Fault} → Late a c → Late b d → Late (least a b) (least c d)
both {a} {b} {c} {d} x y = record { late = λ h. let none = least_left c d h in form_least a b (x.late none) (y.late (least_right c d none h)) }

-- ---- values

-- what a text says without the values of names, and with them
pub data Later : Option Value → Option Value → Type 0 where
  later_same : (o : Option Value) → Later o o
  later_named : (n : ℕ) → Later (Some Unknown) (Some (Named n))

later_tail : (o : Option ℕ) (t : Option Value) → Later (option_map (named None) t) (option_map (named o) t)
later_tail None t = later_same (option_map (named None) t)
later_tail (Some x) None = later_same None
later_tail (Some x) (Some (Number n)) = later_named ((x + n) % 2 ^ 32)
later_tail (Some x) (Some (Named n)) = later_same (Some Beyond)
later_tail (Some x) (Some Beyond) = later_same (Some Beyond)
later_tail (Some x) (Some Unknown) = later_same (Some Beyond)

later_name : (names : Names) (name rest : List ℕ) → Later (name_text no_names name rest) (name_text names name rest)
later_name names name rest = elim (cases_Bool (is_name name)) [
  | inl good ↦ rw good (later_tail (names name) (tail_number rest))
  | inr bad ↦ rw bad (later_same None)
]

pub later_value : (names : Names) (s : List ℕ) → Later (value_of no_names s) (value_of names s)
unfolding value_of
later_value names s = elim (cases_Bool (has_name_start s)) [
  | inl name ↦ rw name (later_name names (before is_sign s) (from is_sign s))
  | inr number ↦ rw number (later_same (number_text s))
]

-- ---- operands

-- a part of the operands without the values of names, and with them
record PartLater (X : Type 0) (m n : Taken X) : Type 0 where
  rest : m.1 ≡ n.1
  late : Late m.0.fault n.0.fault

operand_late : (u : Use) (r : Option Operand) (a b : Option Value) → Later a b → Late (operand_as u r a).fault (operand_as u r b).fault
operand_late u r a b h = grind arith

operand_part : (u : Use) (names : Names) (fs gs : Fields) → fs ≡ gs → PartLater Operand (take_operand u no_names fs) (take_operand u names gs)
unfolding operand_of
operand_part u names fs gs same = grind (arith, late_same, operand_late, later_value)

-- ---- addresses

data FrontLater : Front → Front → Type 0 where
  front_same : (f : Front) → FrontLater f f
  front_named : (n : ℕ) → FrontLater (Valued Unknown) (Valued (Named n))

front_later : (names : Names) (s : List ℕ) → FrontLater (front_of no_names s) (front_of names s)
front_later names [] = front_same Absent
front_later names (b ∷ s) = by_value (value_of no_names (b ∷ s)) (value_of names (b ∷ s)) (later_value names (b ∷ s))
  where
    by_value : (a b : Option Value) → Later a b → FrontLater (valued a) (valued b)
    by_value _ _ (later_same o) = front_same (valued o)
    by_value _ _ (later_named n) = front_named n

record EaLater (m n : Noted Ea) : Type 0 where
  mode : m.value.mode ≡ n.value.mode
  late : Late m.fault n.fault

ea_same : (m : Noted Ea) → EaLater m m
ea_same m = record { mode = refl; late = late_same m.fault }

ea_behind : (forced : Bool) (f g : Front) (b : Option (Base × List ℕ)) → FrontLater f g → EaLater (with_base forced f b) (with_base forced g b)
ea_behind forced f g b h = grind (arith, least_left, cases_Bool, least_right)

behind_later : (forced : Bool) (names : Names) (s : List ℕ) → EaLater (address_behind forced no_names s) (address_behind forced names s)
unfolding address_behind
behind_later forced names s = ea_behind forced (front_of no_names (before opens s)) (front_of names (before opens s)) (base_of (from opens s)) (front_later names (before opens s))

address_later : (names : Names) (s : List ℕ) → EaLater (address_of no_names s) (address_of names s)
unfolding address_of
address_later names s = grind (arith, behind_later, cases_Bool)

record AddressLater (m n : Taken Ea) : Type 0 where
  rest : m.1 ≡ n.1
  ea : EaLater m.0 n.0

address_part : (f : Format) (names : Names) (fs gs : Fields) → fs ≡ gs → AddressLater (take_address f no_names fs) (take_address f names gs)
address_part f names fs gs same = grind (arith, ea_same, address_later)

-- ---- targets

target_late : (ip : ℕ) (f : Format) (a b : Option Value) → Later a b → Late (target_by ip f a).fault (target_by ip f b).fault
target_late ip f a b h = grind arith

target_part : (uses : Bool) (ip : ℕ) (f : Format) (names : Names) (fs gs : Fields) → fs ≡ gs → PartLater ℤ (take_target uses ip f no_names fs) (take_target uses ip f names gs)
unfolding target_of
target_part uses ip f names fs gs same = grind (arith, late_same, target_late, later_value)

-- ---- instructions

record InstLater (m n : Noted Inst) : Type 0 where
  op : m.value.op ≡ n.value.op
  mode : m.value.ea.mode ≡ n.value.ea.mode
  late : Late m.fault n.fault

left_later : (fs gs : Fields) → fs ≡ gs → Late (left_over fs) (left_over gs)
left_later fs gs same = rw (← same) (late_same (left_over fs))

instruction_later : (ip : ℕ) (op : Op) (hint : Bool) (names : Names) (fs : Fields) → InstLater (instruction_of ip op hint no_names fs) (instruction_of ip op hint names fs)
unfolding instruction_of
instruction_later ip op hint names fs =
    let r = row_of op in
    let a = operand_part r.a names fs fs refl in
    let b = operand_part r.b names _ _ a.rest in
    let first = operand_part (first_use r) names _ _ b.rest in
    let ea = address_part r.format names _ _ first.rest in
    let disp = target_part r.disp ip r.format names _ _ ea.rest in
    let last = operand_part (last_use r) names _ _ disp.rest in
    let left = left_later _ _ last.rest in
    record { op = refl; mode = ea.ea.mode; late = both a.late (both b.late (both first.late (both ea.ea.late (both disp.late (both last.late left))))) }

-- ---- statements

same_ignored : (i j : Inst) → i.op ≡ j.op → i.ea.mode ≡ j.ea.mode → ignored_bits i ≡ ignored_bits j
same_ignored i j op mode = grind arith

spare_fault : (i j : Inst) (o : Option ℕ) → ignored_bits i ≡ ignored_bits j → Late (spare_noted i o).fault (spare_noted j o).fault
spare_fault i j o same = grind arith

sound_size : (n : Noted Statement) → is_form_fault n.fault ≡ false → statement_size n ≡ 4 * words_of n.value.inst
sound_size n h = rw h refl

-- what a statement without fault counts before names have values
pub statement_counts : (ip : ℕ) (names : Names) (s : List ℕ) → (statement_of ip names s).fault ≡ None → statement_size (statement_of ip no_names s) ≡ 4 * words_of (statement_of ip names s).value.inst
unfolding statement_of
statement_counts ip names s h = grind (arith, instruction_later, spare_fault, same_ignored, both, sound_size)
