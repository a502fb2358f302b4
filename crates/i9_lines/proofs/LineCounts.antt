-- Each printed line has one line feed, which is its last byte.
use Rattle.std.proofs.Common.{◌≡◌, ℕ, ◌≤◌, length, true, false, List, [], ◌∷◌, ◌++◌, Option, Some, None, eqb, codes, refl, arith, rules}
use Rattle.std.specs.List.{flat_map, range_with_len}
use Rattle.std.specs.Fmt.{decimal}
use Rattle.std.proofs.lemmas.Bool.{and_parts}
use Rattle.i9_text.specs.Written.{byte_text}
use Rattle.i9_text.proofs.WrittenLines.{is_plain_byte, is_plain, plain-append, plain-decimal, plain-word_text, plain-byte_text}
use Rattle.i9_model.specs.declared.view.View.{View}
use Rattle.i9_model.specs.declared.run.Point.{Point}
use Rattle.i9_model.specs.declared.run.End.{End}
use Rattle.i9_model.specs.declared.run.End.TheVariants.{Exit, Limit, Hazard, Dead, Imprecise}
use Rattle.i9_model.specs.PrintedText.{out_text, spaced, spaced_byte, spaced_register, words_text, registers_text, drained_text, point_text, event_text, bytes_text, end_text}
use Rattle.i9_model.specs.declared.event.Event.{Event}
use Rattle.i9_model.specs.Events.{journal_text}
use Rattle.i9_replay.proofs.ReadBack.{journal_plain}
use Rattle.i9_replay.proofs.Replay.{plain_words, plain_drained, plain_bytes, plain_registers}
use Rattle.i9_lines.specs.Lines.{refused_line, elf_line, ending, generated_line}
use Rattle.i9_model.specs.declared.frame.Frame.{Frame}
use Rattle.i9_lines.specs.PlaceText.{turn_text, held_text, raw_bytes_text, who_text}
use Rattle.i9_lines.specs.Print.{IsLine}
use Rattle.i9_lines.proofs.TextLines.{line_alone}

not_feed : (b : ℕ) → is_plain_byte b ≡ true → eqb b 10 ≡ false
not_feed b h = grind (arith)

-- a plain text in front of a line
after_plain : (xs ys : List ℕ) → is_plain xs ≡ true → IsLine ys → IsLine (xs ++ ys)
after_plain [] ys h line = line
after_plain (b ∷ xs) ys h line =
    let p = and_parts (is_plain_byte b) (is_plain xs) h in
    let rest : IsLine (xs ++ ys) = after_plain xs ys p.1 line in
    rw (not_feed b p.0) (omega (arith, rest))

ruleset plain_rules = (plain-append, plain-decimal, plain-word_text, plain_words, plain_drained, plain_bytes, plain_registers)

-- a plain text, and its line feed behind it
line_of : (text : List ℕ) → is_plain text ≡ true → IsLine (text ++ 10 ∷ [])
line_of text plain = after_plain text (10 ∷ []) plain refl

pub line-words : (label ws : List ℕ) → is_plain label ≡ true → IsLine (words_text label ws)
unfolding words_text
line-words label ws h = line_of (label ++ flat_map spaced ws) (search (rules, plain_rules))

pub line-out : (b : ℕ) → IsLine (out_text b)
unfolding out_text
line-out b = after_plain (codes "#out ") (byte_text b ++ 10 ∷ []) refl (line_of (byte_text b) (plain-byte_text b))

pub line-point : (k : Point) (v : View) → IsLine (point_text k v)
unfolding point_text
line-point k v =
    line-words (codes "#point " ++ decimal v.count ++ codes " " ++ drained_text k) (v.ip ∷ v.ac ∷ v.pc ∷ [])
    (search (rules, plain_rules))

pub line-event : (k : ℕ) (e : Event) → IsLine (event_text k e)
unfolding event_text
line-event k e = line_of (journal_text k e) (journal_plain k e)

pub line-bytes : (a : ℕ) (bs : List (Option ℕ)) → IsLine (bytes_text a bs)
unfolding bytes_text
line-bytes a bs = line_of (codes "#mem" ++ spaced a ++ flat_map spaced_byte bs) (search (rules, plain_rules))

pub line-end : (f : End) → IsLine (end_text f)
unfolding end_text
line-end f = grind (arith, line-words, plain-decimal)

pub end_labelled : (f : End) → length (codes "#end ") ≤ length (end_text f)
unfolding end_text words_text
end_labelled f = grind arith

-- the end of the run that was made from a number
line-ending : (f : End) → IsLine (ending f)
unfolding ending end_text words_text
line-ending (Exit w) = line-words (codes "exit") (w ∷ []) refl
line-ending Limit = refl
line-ending (Hazard a) = line-words (codes "hazard") (a ∷ []) refl
line-ending (Dead code a) = line-words (codes "dead " ++ decimal code) (a ∷ []) (plain-decimal code)
line-ending (Imprecise a) = line-words (codes "imprecise") (a ∷ []) refl

pub line-generated : (number count events : ℕ) (f : End) → IsLine (generated_line number count events f)
unfolding generated_line
line-generated number count events f =
    after_plain (codes "#gen " ++ decimal number ++ codes " " ++ decimal count ++ codes " " ++ decimal events ++ codes " ")
    (ending f) (search (rules, plain_rules)) (line-ending f)

line-registers : (label : List ℕ) (v : View) (first : ℕ) → is_plain label ≡ true → IsLine (registers_text label v first)
unfolding registers_text
line-registers label v first h =
    line_of (label ++ flat_map (spaced_register v) (range_with_len first 16)) (search (rules, plain_rules))

pub line-globals : (v : View) → IsLine (registers_text (codes "#g") v 16)
line-globals v = line-registers (codes "#g") v 16 refl

pub line-locals : (v : View) → IsLine (registers_text (codes "#l") v 0)
line-locals v = line-registers (codes "#l") v 0 refl

-- what was refused, by a plain name
pub line-refused : (what : List ℕ) (fault : ℕ × ℕ) → is_plain what ≡ true → IsLine (refused_line what fault)
unfolding refused_line
line-refused what fault plain =
    line_of (codes "#" ++ what ++ codes " line " ++ decimal fault.0 ++ codes " kind " ++ decimal fault.1)
    (search (rules, plain_rules))

pub line-elf : (kind : ℕ) → IsLine (elf_line kind)
unfolding elf_line
line-elf kind = line_of (codes "#image elf kind " ++ decimal kind) (plain-decimal kind)

pub ruleset line_rules = (line_alone, line-generated, line-elf)

-- ---- the lines of a session

pub line-turn : (t k : ℕ) → IsLine (turn_text t k)
unfolding turn_text
line-turn t k = line_of (codes "#turn " ++ decimal t ++ codes " " ++ decimal k) (search (rules, plain_rules))

pub line-held : (n : ℕ) (fs : List Frame) → IsLine (held_text n fs)
unfolding held_text
line-held n fs = line-words (codes "#held " ++ decimal n ++ codes " " ++ decimal (length fs)) _ (search (rules, plain_rules))

pub line-raw_bytes : (a : ℕ) (bs : List (Option ℕ)) → IsLine (raw_bytes_text a bs)
unfolding raw_bytes_text
line-raw_bytes a bs = line_of (codes "#rawmem" ++ spaced a ++ flat_map spaced_byte bs) (search (rules, plain_rules))

pub line-who : (change : Option (ℕ × ℕ)) → IsLine (who_text change)
unfolding who_text
line-who None = refl
line-who (Some change) = line_of (codes "#who " ++ decimal change.0 ++ spaced change.1) (search (rules, plain_rules))
