-- The lines and the text of records are the front of those of every longer run.
use Rattle.std.proofs.Common.{◌≡◌, ℕ, List, [], ◌∷◌, ◌++◌, sym, ap, ◌∙◌, append_assoc}
use Rattle.std.proofs.lemmas.List.{append-nil}
use Rattle.std.proofs.lemmas.Grind.{flat_map-append}
use Rattle.i9_model.specs.Run.{Given, Record, IsPast, IsRun, state_after, Finish}
use Rattle.i9_model.specs.PrintedText.{Shown, shown_text, text_of, record_lines, lines_of, end_lines, run_text}
use Rattle.i9_past.proofs.Ends.{run_goes_on}

pub lines_of-later : (later rs : List Record) → (more : List Shown) × (lines_of (later ++ rs) ≡ lines_of rs ++ more)
lines_of-later [] rs = ([], sym (append-nil (lines_of rs)))
lines_of-later (r ∷ later) rs =
    let l = lines_of-later later rs in
    let mine = record_lines r in
    (l.0 ++ mine, ap (λ (ls : List Shown). ls ++ mine) l.1 ∙ append_assoc (lines_of rs) l.0 mine)

pub text_of-append : (xs ys : List Shown) → text_of (xs ++ ys) ≡ text_of xs ++ text_of ys
text_of-append xs ys = flat_map-append shown_text xs ys

-- the text of the records so far, and the rest of the run's
pub text_goes_on : (g : Given) (rs : List Record) → IsPast g rs
    → (later : List Record) × (f : Finish) × (rest : List ℕ) × IsRun g (later ++ rs) f × (text_of (lines_of rs) ++ rest ≡ run_text g (later ++ rs) f)
text_goes_on g rs past =
    let on = run_goes_on g rs past in
    let l = lines_of-later on.0 rs in
    let last = end_lines (state_after g (on.0 ++ rs)) on.1 in (
      on.0,
      on.1,
      text_of (l.0 ++ last),
      on.2,
      sym (text_of-append (lines_of rs) (l.0 ++ last)) ∙ ap text_of (sym (append_assoc (lines_of rs) l.0 last) ∙ ap (λ (ls : List Shown). ls ++ last) (sym l.1)),
    )
