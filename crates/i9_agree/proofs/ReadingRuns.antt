-- What is printed of a run does not depend on how soft bytes are read.
use Rattle.std.proofs.Common.{◌≡◌, ℕ, true, List, [], ◌∷◌, refl, ◌∙◌, arith}
use Rattle.std.proofs.lemmas.Grind.{flat_map-append}
use Rattle.i9_model.specs.State.{State}
use Rattle.i9_model.specs.Run.{Given, Finish, Record, Next, Does, Ends, state_after, due_after, reached_after, next, IsPast, IsPastOf, IsRun}
use Rattle.i9_model.specs.PrintedText.{lines_of, text_of, run_text}
use Rattle.i9_model.specs.Alike.{Agree, DoAgree, NextsAgree}
use Rattle.i9_model.specs.ReadingRuns.{boot_reading, state_from, next_from, IsRunReading, reading_text}
use Rattle.i9_agree.proofs.SoundRuns.{sound-after}
use Rattle.i9_past.proofs.Heedful.{past_of_some}
use Rattle.i9_past.proofs.Unique.{same_records, same_end}
use Rattle.i9_agree.proofs.AgreeSteps.{next-agree}
use Rattle.i9_agree.proofs.AgreeTexts.{record-text-same, reached-same, end-text-same}

-- ---- records of one machine beside those of another

record AreBeside (g : Given) (b : State) (rs qs : List Record) : Type 0 where
  pub state : Agree true (state_after g rs) (state_from b qs)
  pub due : due_after qs ≡ due_after rs
  pub reached : reached_after qs ≡ reached_after rs
  pub text : text_of (lines_of qs) ≡ text_of (lines_of rs)

none-beside : (reading : ℕ → ℕ) (g : Given) → AreBeside g (boot_reading reading g.image) [] []
none-beside reading g = grind arith

next-beside : (g : Given) (b : State) (rs qs : List Record) → IsPast g rs → AreBeside g b rs qs → NextsAgree true (next g rs) (next_from b g qs)
next-beside g b rs qs past beside = grind (arith, next-agree, sound-after, past_of_some)

one-beside : (g : Given) (b : State) (rs qs : List Record) (r q : Record) → AreBeside g b rs qs → DoAgree true r q → AreBeside g b (r ∷ rs) (q ∷ qs)
one-beside g b rs qs r q beside same = grind (arith, reached-same, flat_map-append, record-text-same)

does-beside : (o p : Next) (r : Record) → NextsAgree true o p → o ≡ Does r → (q : Record) × (p ≡ Does q) × DoAgree true r q
does-beside o p r agree e = grind arith

does-behind : (o p : Next) (q : Record) → NextsAgree true o p → p ≡ Does q → (r : Record) × (o ≡ Does r) × DoAgree true r q
does-behind o p q agree e = grind arith

ends-beside : (o p : Next) (f : Finish) → NextsAgree true o p → o ≡ Ends f → p ≡ Ends f
ends-beside o p f agree e = grind arith

ends-behind : (o p : Next) (f : Finish) → NextsAgree true o p → p ≡ Ends f → o ≡ Ends f
ends-behind o p f agree e = grind arith

-- ---- runs

past-beside : (reading : ℕ → ℕ) (g : Given) (rs : List Record) → IsPast g rs → (qs : List Record) × IsPastOf (next_from (boot_reading reading g.image) g) qs × AreBeside g (boot_reading reading g.image) rs qs
past-beside reading g [] past = ([], tt, none-beside reading g)
past-beside reading g (r ∷ rs) past =
    let b = boot_reading reading g.image in
    let before = past-beside reading g rs past.0 in
    let found = does-beside (next g rs) (next_from b g before.0) r (next-beside g b rs before.0 past.0 before.2) past.1 in
    (found.0 ∷ before.0, (before.1, found.1), one-beside g b rs before.0 r found.0 before.2 found.2)

past-behind : (reading : ℕ → ℕ) (g : Given) (qs : List Record) → IsPastOf (next_from (boot_reading reading g.image) g) qs → (rs : List Record) × IsPast g rs × AreBeside g (boot_reading reading g.image) rs qs
past-behind reading g [] past = ([], tt, none-beside reading g)
past-behind reading g (q ∷ qs) past =
    let b = boot_reading reading g.image in
    let before = past-behind reading g qs past.0 in
    let found = does-behind (next g before.0) (next_from b g qs) q (next-beside g b before.0 qs before.1 before.2) past.1 in
    (found.0 ∷ before.0, (before.1, found.1), one-beside g b before.0 qs found.0 q before.2 found.2)

whole-text : (reading : ℕ → ℕ) (g : Given) (rs qs : List Record) (f : Finish) → AreBeside g (boot_reading reading g.image) rs qs → reading_text reading g qs f ≡ run_text g rs f
whole-text reading g rs qs f beside = grind (arith, flat_map-append, end-text-same)

-- a run has one of each reading, of the same text
pub run-beside : (reading : ℕ → ℕ) (g : Given) (rs : List Record) (f : Finish) → IsRun g rs f
    → (qs : List Record) × IsRunReading reading g qs f × (reading_text reading g qs f ≡ run_text g rs f) × Agree true (state_after g rs) (state_from (boot_reading reading g.image) qs)
run-beside reading g rs f run =
    let b = boot_reading reading g.image in
    let found = past-beside reading g rs run.past in
    let ends = ends-beside (next g rs) (next_from b g found.0) f (next-beside g b rs found.0 run.past found.2) run.ends in
    (found.0, record { past = found.1; ends = ends }, whole-text reading g rs found.0 f found.2, found.2.state)

-- and each run of another reading ends as the run does, and has its text
pub run-behind : (reading : ℕ → ℕ) (g : Given) (qs rs : List Record) (e f : Finish) → IsRunReading reading g qs e → IsRun g rs f → (e ≡ f) × (reading_text reading g qs e ≡ run_text g rs f)
run-behind reading g qs rs e f other run =
    let b = boot_reading reading g.image in
    let found = past-behind reading g qs other.past in
    let here : IsRun g found.0 e = record { past = found.1; ends = ends-behind (next g found.0) (next_from b g qs) e (next-beside g b found.0 qs found.1 found.2) other.ends } in
    let end = same_end g found.0 rs e f here run in (
      end,
      whole-text reading g found.0 qs e found.2 ∙ rw (same_records g found.0 rs e f here run, end) refl,
    )
