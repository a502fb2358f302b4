-- What the reader keeps and answers.
use Rattle.std.specs.Prelude.{◌≡◌, ℕ, List, Option, Some, None, Result, Ok, Err}
use Rattle.i9_model.specs.Image.{Part, pairs_of}
use Rattle.i9_model.specs.HexText.{Origin, Upper, Base, HexState}
use Rattle.i9_hex.specs.declared.reader.Place.{Place}
use Rattle.i9_hex.specs.declared.reader.Place.TheVariants as places
use Rattle.i9_hex.specs.declared.reader.Reader.{Reader}
use Rattle.i9_hex.specs.declared.reader.LineError.{LineError}
use Rattle.i9_hex.specs.declared.reader.LineError.TheVariants as lines
use Rattle.i9_hex.specs.declared.error.HexFault.{HexFault}
use Rattle.i9_hex.specs.declared.error.HexError.{HexError}
use Rattle.i9_hex.specs.declared.error.HexError.TheVariants.{Bad, Memory}

-- ---- a line

abbrev pub origin_of : Place → Origin
origin_of (places.Upper half) = Upper half
origin_of (places.Base base) = Base base

-- the state that a reader stands for
abbrev pub state_of : Reader → HexState
state_of r = record { pairs = pairs_of r.segments; origin = origin_of r.place; ended = r.ended }

-- the error is this fault, or want of memory
abbrev pub Fails : LineError → Option ℕ → Type 0
Fails lines.Memory fault = Unit {0}
Fails (lines.Bad kind) fault = fault ≡ Some kind

-- the reader is in the wanted state where there is no fault, else the error is the fault, or want of memory
abbrev pub Takes : Result Reader LineError → Option ℕ → HexState → Type 0
Takes (Ok r) fault wanted = (fault ≡ None) × (state_of r ≡ wanted)
Takes (Err e) fault wanted = Fails e fault

-- the reader's error for a line of this number
abbrev pub error_at : LineError → ℕ → HexError
error_at lines.Memory number = Memory
error_at (lines.Bad k) number = Bad (record { line = number; kind = k })

-- ---- a text

-- the line and kind of a fault
abbrev pub place_of : HexFault → ℕ × ℕ
place_of f = (f.line, f.kind)

-- the error is this fault, or want of memory
abbrev pub Refuses : HexError → Result (List (ℕ × ℕ)) (ℕ × ℕ) → Type 0
Refuses Memory answer = Unit {0}
Refuses (Bad f) answer = answer ≡ Err (place_of f)

-- the result is this answer, the pairs of an image or a first fault, or want of memory
abbrev pub Reads : Result (List Part) HexError → Result (List (ℕ × ℕ)) (ℕ × ℕ) → Type 0
Reads (Ok image) answer = answer ≡ Ok (pairs_of image)
Reads (Err e) answer = Refuses e answer

-- the fact holds of the fault, where the error is one
abbrev pub IfBad : HexError → (HexFault → Type 0) → Type 0
IfBad Memory P = Unit {0}
IfBad (Bad f) P = P f
