-- What the reader of a text answers: the version and the events that the lines say, or the first fault.
use Rattle.std.proofs.Common.{◌≡◌, ℕ, true, false, List, [], ◌∷◌, Option, Some, None, Result, Ok, Err, refl, sym, ap, subst, inl, inr, IfOk, IfErr, codes, arith}
use Rattle.std.specs.Str.{bytes_eq}
use Rattle.i9_text.specs.Text.{lines_of, words_of}
use Rattle.i9_text.proofs.FirstFault.{read_from, SaysAll-read, read_from-says, read_from-refused, refused-read}
use Rattle.std.proofs.lemmas.Bool.{cases_Bool}
use Rattle.std.proofs.lemmas.Slice.Eq.{bytes_eq-Decides}
use Rattle.i9_model.specs.Events.{Words}
use Rattle.i9_model.specs.ScheduleText.{levels_version, version_in, heading, heading_of, event_said, opening_of, said_of, SoFar, nothing_yet, Contents, contents_of, is_ascii, is_skipped, timed_of, line_of, fault_of_said, fault_of, Says, says_nothing, says_version, says_event, nothing_missing, IsSchedule, IsRefused}
use Rattle.i9_model.specs.declared.event.Timed.{Timed}
use Rattle.i9_model.specs.declared.event.Said.{Said}
use Rattle.i9_model.specs.declared.event.Said.TheVariants as said
use Rattle.i9_replay.proofs.EventForms.{timed_case, timed_is}
use Rattle.i9_schedule.specs.Lines.{with_said, with_line}
use Rattle.i9_schedule.specs.Reading.{Reads, IfBad, place_of}
use Rattle.i9_schedule.specs.declared.error.LineError.{LineError}
use Rattle.i9_schedule.specs.declared.error.LineError.TheVariants as errors

-- ---- what words say by themselves

-- what a line of these words says: the version, in the words of its heading and where none was told, or an event
abbrev Tells : Option ℕ → Words → Result Said ℕ → Type 0
Tells told ws (Err kind) = Unit {0}
Tells told ws (Ok said.Nothing) = ⊥
Tells told ws (Ok (said.Version version)) = (told ≡ None) × (ws ≡ heading) × (version ≡ levels_version)
Tells told ws (Ok (said.Event t)) = timed_of (version_in told) ws ≡ Ok t

event_tells : (told : Option ℕ) (ws : Words) (r : Result Timed ℕ) → timed_of (version_in told) ws ≡ r → Tells told ws (event_said (version_in told) ws)
event_tells told ws r is = grind arith

heading_tells : (ws : Words) → Tells None (codes "schedule" ∷ ws) (heading_of ws)
unfolding heading_of
heading_tells [] = tt
heading_tells (w ∷ []) = elim (cases_Bool (bytes_eq w (codes "2"))) [
  | inl same ↦ rw same (refl, ap (λ (x : List ℕ). codes "schedule" ∷ x ∷ []) ((bytes_eq-Decides w (codes "2")).0 same), refl)
  | inr other ↦ rw other tt
]
heading_tells (w ∷ x ∷ ws) = tt

opening_tells : (ws : Words) → Tells None ws (opening_of ws)
unfolding opening_of
opening_tells [] = tt
opening_tells (first ∷ rest) = elim (cases_Bool (bytes_eq first (codes "schedule"))) [
  | inl same ↦ rw same (subst (λ (x : List ℕ). Tells None (x ∷ rest) (heading_of rest)) (sym ((bytes_eq-Decides first (codes "schedule")).0 same)) (heading_tells rest))
  | inr other ↦ rw other (event_tells None (first ∷ rest) (timed_of (version_in None) (first ∷ rest)) refl)
]

said_tells : (told : Option ℕ) (ws : Words) → Tells told ws (said_of told ws)
said_tells None ws = opening_tells ws
said_tells (Some version) ws = event_tells (Some version) ws (timed_of version ws) refl

-- ---- one line: the functions answer the relation, both ways

words_case : (s : SoFar) (line : List ℕ) (r : Result Said ℕ) → is_ascii line ≡ true → is_skipped line ≡ false → Tells s.version (words_of line) r → fault_of_said s.events r ≡ None → Says s line (with_said s r)
words_case s line (Ok (said.Version version)) ascii some tells fine =
    subst (λ (v : ℕ). Says s line (record s { version = Some v })) (sym tells.2) (says_version s line ascii some tells.0 tells.1)
words_case s line (Ok (said.Event t)) ascii some tells fine = says_event s line t ascii some (timed_case (version_in s.version) (words_of line) t tells) fine
words_case s line (Ok said.Nothing) ascii some tells fine = absurd tells
words_case s line (Err k) ascii some tells fine = absurd cc

pub says_line : (s : SoFar) (line : List ℕ) → fault_of s line ≡ None → Says s line (with_line s line)
unfolding line_of
says_line s line fine =
    elim (cases_Bool (is_ascii line)) [
      | inr other ↦ absurd (cc (rw other at fine))
      | inl ascii ↦ elim (cases_Bool (is_skipped line)) [
        | inl skipped ↦ rw (ascii, skipped) (says_nothing s line ascii skipped)
        | inr some ↦ rw (ascii, some) (words_case s line (said_of s.version (words_of line)) ascii some (said_tells s.version (words_of line)) (rw (ascii, some) at fine))
      ]
    ]

heading_said : opening_of heading ≡ Ok (said.Version levels_version)
unfolding opening_of heading_of
heading_said = refl

no_words : (t : Timed) → timed_of (version_in None) [] ≡ Ok t → ⊥
unfolding timed_of
no_words t h = cc

-- an event's first word is not that of the heading
no_event : (rest : Words) (t : Timed) → timed_of (version_in None) (codes "schedule" ∷ rest) ≡ Ok t → ⊥
unfolding timed_of
no_event rest t h = cc

opening_is_event : (ws : Words) (t : Timed) → timed_of (version_in None) ws ≡ Ok t → opening_of ws ≡ Ok (said.Event t)
unfolding opening_of
opening_is_event [] t is = absurd (no_words t is)
opening_is_event (first ∷ rest) t is = elim (cases_Bool (bytes_eq first (codes "schedule"))) [
  | inl same ↦ absurd (no_event rest t (subst (λ (x : List ℕ). timed_of (version_in None) (x ∷ rest) ≡ Ok t) ((bytes_eq-Decides first (codes "schedule")).0 same) is))
  | inr other ↦ rw (other, is) refl
]

event_is_said : (told : Option ℕ) (ws : Words) (t : Timed) → timed_of (version_in told) ws ≡ Ok t → said_of told ws ≡ Ok (said.Event t)
event_is_said (Some version) ws t is = rw is refl
event_is_said None ws t is = opening_is_event ws t is

pub line_says : (s : SoFar) (line : List ℕ) (u : SoFar) → Says s line u → (fault_of s line ≡ None) × (with_line s line ≡ u)
unfolding line_of
line_says s line u (says_nothing x l ascii skipped) = (rw (ascii, skipped) refl, rw (ascii, skipped) refl)
line_says s line u (says_version x l ascii some none is) = (rw (ascii, some, none, is, heading_said) refl, rw (ascii, some, none, is, heading_said) refl)
line_says s line u (says_event x l t ascii some is fine) =
    let e = event_is_said x.version (words_of l) t (timed_is (version_in x.version) (words_of l) t is) in
    (rw (ascii, some, e) fine, rw (ascii, some, e) refl)

-- ---- a text

-- what the lines say that were read, or the first fault
abbrev pub told_of : Result SoFar (ℕ × ℕ) → Result Contents (ℕ × ℕ)
told_of (Ok s) = Ok (contents_of s)
told_of (Err f) = Err f

-- what reading the whole text gives
abbrev pub read_lines : List ℕ → Result SoFar (ℕ × ℕ)
read_lines text = read_from fault_of with_line nothing_missing 0 nothing_yet (lines_of text)

abbrev pub read_text : List ℕ → Result Contents (ℕ × ℕ)
read_text text = told_of (read_lines text)

told_ok : (r : Result SoFar (ℕ × ℕ)) (c : Contents) → told_of r ≡ Ok c → (s : SoFar) × (r ≡ Ok s) × (contents_of s ≡ c)
told_ok r c h = grind arith

told_err : (r : Result SoFar (ℕ × ℕ)) (f : ℕ × ℕ) → told_of r ≡ Err f → r ≡ Err f
told_err r f h = grind arith

-- ---- and what it says, both ways

pub read_says : (text : List ℕ) (c : Contents) → read_text text ≡ Ok c → IsSchedule (lines_of text) c
read_says text c h =
    let t = told_ok (read_lines text) c h in
    (t.0, (SaysAll-read Says fault_of with_line nothing_missing nothing_yet says_line line_says 0 nothing_yet t.0 (lines_of text) t.1).0, t.2)

pub says_read : (text : List ℕ) (c : Contents) → IsSchedule (lines_of text) c → read_text text ≡ Ok c
says_read text c says =
    let is = read_from-says Says fault_of with_line nothing_missing nothing_yet says_line line_says 0 nothing_yet says.0 (lines_of text) says.1 refl in
    rw is (ap Ok says.2)

pub read_refuses : (text : List ℕ) (f : ℕ × ℕ) → read_text text ≡ Err f → IsRefused (lines_of text) f
read_refuses text f h = refused-read Says fault_of with_line nothing_missing nothing_yet says_line line_says (lines_of text) f (told_err (read_lines text) f h)

pub refused_read : (text : List ℕ) (f : ℕ × ℕ) → IsRefused (lines_of text) f → read_text text ≡ Err f
refused_read text f bad =
    let is = read_from-refused Says fault_of with_line nothing_missing nothing_yet says_line line_says (lines_of text) f bad in
    rw is refl

pub found : {X : Type 0} (view : X → Contents) (text : List ℕ) (r : Result X LineError) → Reads view r (read_text text) → IfOk r (λ x. IsSchedule (lines_of text) (view x))
found view text (Ok x) h = read_says text (view x) h
found view text (Err e) h = tt

pub only : {X : Type 0} (view : X → Contents) (text : List ℕ) (r : Result X LineError) → Reads view r (read_text text) → (c : Contents) → IsSchedule (lines_of text) c → Reads view r (Ok c)
only view text r h c says = subst (λ (a : Result Contents (ℕ × ℕ)). Reads view r a) (says_read text c says) h

pub refused : {X : Type 0} (view : X → Contents) (text : List ℕ) (r : Result X LineError) → Reads view r (read_text text) → IfErr r (λ e. IfBad e (λ f. IsRefused (lines_of text) f))
refused view text (Ok x) h = tt
refused view text (Err errors.Memory) h = tt
refused view text (Err (errors.Bad f)) h = read_refuses text (place_of f) h

pub first : {X : Type 0} (view : X → Contents) (text : List ℕ) (r : Result X LineError) → Reads view r (read_text text) → (f : ℕ × ℕ) → IsRefused (lines_of text) f → Reads {Y = Contents} view r (Err f)
first view text r h f bad = subst (λ (a : Result Contents (ℕ × ℕ)). Reads view r a) (refused_read text f bad) h
