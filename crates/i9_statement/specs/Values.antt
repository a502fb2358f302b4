-- Values: numbers and names.
use Rattle.std.specs.Prelude.{ℕ, ◌+◌, ◌-◌, ◌%◌, ◌^◌, Bool, true, false, not, ◌==◌, ◌||◌, ◌&&◌, nat_lt, nat_le, List, []}
use Rattle.std.specs.Prelude.{◌∷◌, length, codes, drop, Option, Some, None, is_some, if◌then◌else◌}
use Rattle.std.specs.Option.{option_map}
use Rattle.std.specs.List.{list_all}
use Rattle.std.specs.Str.{bytes_eq}
use Rattle.std.specs.Str.Parse.{digits_value}
use Rattle.i9_text.specs.Text.{number_of, are_digits}
use Rattle.i9_statement.specs.declared.fault.Noted.{Noted}
use Rattle.i9_statement.specs.declared.fault.Fault.TheVariants as fault
use Rattle.i9_statement.specs.declared.values.Value.{Value}
use Rattle.i9_statement.specs.declared.values.Value.TheVariants.{Number, Named, Beyond, Unknown}
use Rattle.i9_statement.specs.Noted.{fine, wrong}
use Rattle.i9_statement.specs.Cut.{before, from}
use Rattle.i9_statement.specs.Registers.{register_place}

-- the values of names
abbrev pub Names : Type 0
Names = List ℕ → Option ℕ

-- `0` to `9`
abbrev pub is_decimal_digit : ℕ → Bool
is_decimal_digit b = nat_le 48 b && nat_le b 57

-- a byte with which a name may begin
abbrev pub begins_name : ℕ → Bool
begins_name b = (nat_le 65 b && nat_le b 90) || (nat_le 97 b && nat_le b 122) || (b == 95)

-- a byte that a name has
abbrev pub is_name_byte : ℕ → Bool
is_name_byte b = begins_name b || is_decimal_digit b

-- the text begins as a name
abbrev pub has_name_start : List ℕ → Bool
has_name_start [] = false
has_name_start (b ∷ s) = begins_name b

-- A name has at most 63 letters, digits and `_`, begins with no digit, and is no register's name and not `ip`.
unfoldable pub is_name : List ℕ → Bool
is_name s =
    has_name_start s && nat_le (length s) 63 && list_all is_name_byte s
    && not (is_some (register_place s)) && not (bytes_eq s (codes "ip"))

-- the text begins with `0x`
abbrev pub is_hexadecimal : List ℕ → Bool
is_hexadecimal (a ∷ b ∷ s) = (a == 48) && (b == 120)
is_hexadecimal _ = false

-- a decimal number of any length
unfoldable pub decimal_of : List ℕ → Option ℕ
decimal_of s = if nat_lt 0 (length s) && are_digits 10 s then Some (digits_value 10 s) else None

-- a number without its sign: decimal, or `0x` and one to eight hexadecimal digits
unfoldable pub magnitude : List ℕ → Option ℕ
magnitude s = if is_hexadecimal s then number_of 16 8 (drop 2 s) else decimal_of s

-- a number from -2147483648 to 4294967295, by whether it is negative
abbrev pub in_range : Bool → ℕ → Value
in_range false m = if nat_lt m (2 ^ 32) then Number m else Beyond
in_range true m = if nat_le m (2 ^ 31) then Number ((2 ^ 32 - m) % 2 ^ 32) else Beyond

-- `-` and `+`
abbrev pub minus : ℕ
minus = 45

abbrev pub plus : ℕ
plus = 43

abbrev pub is_sign : ℕ → Bool
is_sign b = (b == minus) || (b == plus)

-- a number with or without a minus
abbrev pub number_text : List ℕ → Option Value
number_text [] = None
number_text (b ∷ s) = if b == minus then option_map (in_range true) (magnitude s) else option_map (in_range false)
    (magnitude (b ∷ s))

-- the value of a name with a number
abbrev pub named : Option ℕ → Value → Value
named (Some v) (Number n) = Named ((v + n) % 2 ^ 32)
named None (Number n) = Unknown
named _ _ = Beyond

-- what stands behind a name: nothing, or a sign and a number
abbrev pub tail_number : List ℕ → Option Value
tail_number [] = Some (Number 0)
tail_number (b ∷ s) = option_map (in_range (b == minus)) (magnitude s)

-- a name, perhaps with a number
abbrev pub name_text : Names → List ℕ → List ℕ → Option Value
name_text names name rest = if is_name name then option_map (named (names name)) (tail_number rest) else None

-- the value that a text says; None where it has no form of a value
unfoldable pub value_of : Names → List ℕ → Option Value
value_of names s = if has_name_start s then name_text names (before is_sign s) (from is_sign s) else number_text s

-- a value, or the fault that it has
abbrev pub value_noted : Value → Noted ℕ
value_noted (Number n) = fine n
value_noted (Named n) = fine n
value_noted Beyond = wrong fault.Range 0
value_noted Unknown = wrong fault.UnknownName 0

-- the same of a text, which may have no form of a value
abbrev pub settled : Option Value → Noted ℕ
settled (Some v) = value_noted v
settled None = wrong fault.Form 0

-- a number, or the limit of all numbers where it is larger
abbrev pub capped : ℕ → ℕ
capped n = if nat_lt n (2 ^ 32) then n else 2 ^ 32
