-- Scripts of the debugger: which commands their lines say, and which fault a line has.
use Rattle.std.specs.Prelude.{◌≡◌, ℕ, ◌+◌, ◌<◌, ◌≤◌, List, [], ◌∷◌, ◌++◌, length, Bool, true, false, codes, Some, All}
use Rattle.std.specs.List.{list_any}
use Rattle.std.specs.Str.{bytes_eq}
use Rattle.i9_text.specs.Text.{words_of}
use Rattle.i9_text.specs.FirstFault as texts
use Rattle.i9_model.specs.Events.{Words, decimal_in, address_of, last_address, most_shown}
use Rattle.i9_model.specs.ScheduleText.{is_ascii, is_skipped}
use Rattle.i9_schedule.specs.declared.command.Command.{Command}
use Rattle.i9_schedule.specs.declared.command.Command.TheVariants.{Turn, Until, Regs, Raw, Held, Mem, RawMem, Back, Last}
use Rattle.i9_schedule.specs.declared.command.Command.TheVariants.{Who}

-- ---- limits, with those of an event

abbrev pub most_turns : ℕ
most_turns = 1000000

abbrev pub most_back : ℕ
most_back = 10000000

abbrev pub most_commands : ℕ
most_commands = 100000

-- ---- the kinds of faults

abbrev pub unknown_command : ℕ
unknown_command = 1

abbrev pub bad_operand : ℕ
bad_operand = 2

abbrev pub too_many_commands : ℕ
too_many_commands = 3

-- ---- words

-- which words say a command, one case for each
pub data IsCommand : Words → Command → Type 0 where
  is_turn : (w : List ℕ) (n : ℕ) → decimal_in 1 most_turns w ≡ Some n → IsCommand (codes "turn" ∷ w ∷ []) (Turn n)
  is_until : (w : List ℕ) (a : ℕ) → address_of w ≡ Some a → IsCommand (codes "until" ∷ w ∷ []) (Until a)
  is_regs : IsCommand (codes "regs" ∷ []) Regs
  is_raw : IsCommand (codes "raw" ∷ []) Raw
  is_held : IsCommand (codes "held" ∷ []) Held
  is_mem : (v w : List ℕ) (a l : ℕ) → address_of v ≡ Some a → decimal_in 1 most_shown w ≡ Some l
      → IsCommand (codes "mem" ∷ v ∷ w ∷ []) (Mem a l)
  is_rawmem : (v w : List ℕ) (a l : ℕ) → address_of v ≡ Some a → decimal_in 1 most_shown w ≡ Some l
      → IsCommand (codes "rawmem" ∷ v ∷ w ∷ []) (RawMem a l)
  is_back : (w : List ℕ) (n : ℕ) → decimal_in 1 most_back w ≡ Some n → IsCommand (codes "back" ∷ w ∷ []) (Back n)
  is_last : (w : List ℕ) (a : ℕ) → address_of w ≡ Some a → IsCommand (codes "last" ∷ w ∷ []) (Last a)
  is_who : (w : List ℕ) (a : ℕ) → address_of w ≡ Some a → IsCommand (codes "who" ∷ w ∷ []) (Who a)

-- the names of the commands
abbrev pub names : Words
names =
    codes "turn" ∷ codes "until" ∷ codes "regs" ∷ codes "raw" ∷ codes "held" ∷ codes "mem" ∷ codes "rawmem"
    ∷ codes "back" ∷ codes "last" ∷ codes "who" ∷ []

-- the first word is one of them
abbrev pub is_named : Words → Bool
is_named [] = false
is_named (first ∷ operands) = list_any (bytes_eq first) names

-- ---- one line, behind the commands of the lines before

-- what a line without fault says: nothing where it is skipped, else a command
pub data Says : List Command → List ℕ → List Command → Type 0 where
  says_nothing : (cs : List Command) (line : List ℕ) → is_ascii line ≡ true → is_skipped line ≡ true → Says cs line cs
  says_command : (cs : List Command) (line : List ℕ) (c : Command) → is_ascii line ≡ true → is_skipped line ≡ false
      → IsCommand (words_of line) c → length cs < most_commands → Says cs line (cs ++ c ∷ [])

-- The kind of the fault of a line: 1, it is not ASCII, or its first word is no command; 2, it is one, but the words say
-- none with these operands; 3, they do, but there are too many commands.
pub data HasFault : List Command → List ℕ → ℕ → Type 0 where
  not_ascii : (cs : List Command) (line : List ℕ) → is_ascii line ≡ false → HasFault cs line unknown_command
  not_named : (cs : List Command) (line : List ℕ) → is_ascii line ≡ true → is_skipped line ≡ false
      → is_named (words_of line) ≡ false → HasFault cs line unknown_command
  not_formed : (cs : List Command) (line : List ℕ) → is_ascii line ≡ true → is_skipped line ≡ false
      → is_named (words_of line) ≡ true → ((c : Command) → ¬ IsCommand (words_of line) c) → HasFault cs line bad_operand
  not_few : (cs : List Command) (line : List ℕ) (c : Command) → is_ascii line ≡ true → is_skipped line ≡ false
      → IsCommand (words_of line) c → most_commands ≤ length cs → HasFault cs line too_many_commands

-- ---- whole texts

-- the lines say these commands
abbrev pub IsScript : List (List ℕ) → List Command → Type 0
IsScript lines cs = texts.SaysAll Says [] lines cs

-- the first line at fault, counted from 1, with its kind: the lines before it say commands
pub data IsRefused : List (List ℕ) → ℕ × ℕ → Type 0 where
  at_line : (front : List (List ℕ)) (line : List ℕ) (back : List (List ℕ)) (cs : List Command) (kind : ℕ)
      → IsScript front cs → HasFault cs line kind → IsRefused (front ++ line ∷ back) (length front + 1, kind)

-- ---- which commands a script may have

-- the operands are in their ranges
abbrev pub IsCommandInRange : Command → Type 0
IsCommandInRange (Turn n) = (1 ≤ n) × (n ≤ most_turns)
IsCommandInRange (Until a) = a ≤ last_address
IsCommandInRange Regs = Unit {0}
IsCommandInRange Raw = Unit {0}
IsCommandInRange Held = Unit {0}
IsCommandInRange (Mem a l) = (a ≤ last_address) × (1 ≤ l) × (l ≤ most_shown)
IsCommandInRange (RawMem a l) = (a ≤ last_address) × (1 ≤ l) × (l ≤ most_shown)
IsCommandInRange (Back n) = (1 ≤ n) × (n ≤ most_back)
IsCommandInRange (Last a) = a ≤ last_address
IsCommandInRange (Who a) = a ≤ last_address

-- what the commands of a script are
pub record IsInLimits (cs : List Command) : Type 0 where
  pub each : All IsCommandInRange cs
  pub few : length cs ≤ most_commands
