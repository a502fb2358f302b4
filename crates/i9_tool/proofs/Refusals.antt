-- What is printed of what is refused.
use Rattle.std.proofs.Common.{◌≡◌, ◌≢◌, ℕ, ◌<◌, inl, inr, refl, sym, ◌∙◌, arith}
use Rattle.i9_lines.specs.Lines.{refused_line}
use Rattle.i9_lines.specs.Print.{IsLine}
use Rattle.i9_lines.specs.declared.print.Printed.{Printed}
use Rattle.i9_lines.specs.declared.print.Printed.TheVariants.{Done, Write, Memory}
use Rattle.i9_lines.proofs.LineCounts.{line-refused}
use Rattle.i9_tool.specs.declared.refusal.FileKind.{FileKind}
use Rattle.i9_tool.specs.declared.refusal.FileKind.TheVariants.{Image, Schedule, Source, Script}
use Rattle.i9_tool.specs.FileKinds.{word_of, refusal_of}
use Rattle.i9_tool.specs.Refusals.{Refusal, Unread, TooLong, Faulty, refusal_code}
use Rattle.i9_tool.specs.Fetches.{Follows, Refused}
use Rattle.i9_tool.specs.Outcome.{code_for}

-- the line of a text is one line
pub line-file : (kind : FileKind) (fault : ℕ × ℕ) → IsLine (refused_line (word_of kind) fault)
line-file Image fault = line-refused (word_of Image) fault refl
line-file Schedule fault = line-refused (word_of Schedule) fault refl
line-file Source fault = line-refused (word_of Source) fault refl
line-file Script fault = line-refused (word_of Script) fault refl

-- ---- statuses

-- that of a kind of file is neither 5 nor above
refusal_low : (kind : FileKind) → refusal_of kind < 5
refusal_low Image = omega arith
refusal_low Schedule = omega arith
refusal_low Source = omega arith
refusal_low Script = omega arith

pub known_refusal : (r : Refusal) → refusal_code r < 6
known_refusal Unread = omega arith
known_refusal (TooLong kind) = let low = refusal_low kind in omega (arith, low)
known_refusal (Faulty kind fault) = let low = refusal_low kind in omega (arith, low)

-- 5 is the status of nothing but a file that was not read
pub other_status : (p : Printed) (n code : ℕ) → n ≢ 5 → code ≡ code_for p n → code ≢ 5
other_status Done n code other e five = other (sym e ∙ five)
other_status Write n code other e five = absurd (omega arith)
other_status Memory n code other e five = absurd (omega arith)

other_refusal : (kind : FileKind) → refusal_of kind ≢ 5
other_refusal kind five = let low = refusal_low kind in omega (arith, low, five)

-- the status for the line of a refusal; that of a file that was not read takes no memory
pub follows : (r : Refusal) (p : Printed) (code : ℕ) → (r ≡ Unread → p ≢ Memory) → code ≡ code_for p (refusal_code r) → Follows (Refused r) code
follows Unread Done code some e = inl e
follows Unread Write code some e = inr e
follows Unread Memory code some e = absurd (some refl refl)
follows (TooLong kind) p code some e = other_status p (refusal_of kind) code (other_refusal kind) e
follows (Faulty kind fault) p code some e = other_status p (refusal_of kind) code (other_refusal kind) e
