-- A machine that keeps its frames in sets has a run beside each run, which prints the same.
use Rattle.std.proofs.Common.{◌≡◌, ℕ, Option, List, [], ◌∷◌, ◌++◌, refl, sym, ap, ◌∙◌, subst, arith}
use Rattle.i9_model.specs.Memory.{Memory}
use Rattle.i9_model.specs.State.{State}
use Rattle.i9_model.specs.Run.{Given, Record, state_after, due_after, reached_after, next, IsPast, IsRun, Finish}
use Rattle.i9_model.specs.PrintedText.{lines_of, run_text}
use Rattle.i9_model.specs.Alike.{AreAlike, AreRecordsAlike, AreNextAlike}
use Rattle.i9_model.specs.HeldFrames.{Cache, overlaid, cache_after}
use Rattle.i9_model.specs.RunInSets.{in_sets, IsPastInSets, IsRunInSets}
use Rattle.i9_past.proofs.Ends.{run_goes_on}
use Rattle.i9_past.proofs.Cuts.{state_by}
use Rattle.i9_past.proofs.Unique.{same_records, same_end}
use Rattle.i9_agree.proofs.Overlays.{over_mcon}
use Rattle.i9_agree.proofs.AlikeSteps.{alike_same, due_alike, reached_alike, next_alike, does_alike, does_beside, ends_alike, ends_beside, lines_alike}
use Rattle.i9_agree.proofs.HeldRuns.{configured_by, overlaid_memory, cached-after}
use Rattle.i9_past.proofs.Heedful.{past_of_some}
use Rattle.i9_agree.proofs.SoundRuns.{sound-after}
use Rattle.i9_agree.proofs.BlindRuns.{blind-after}

-- records of a machine with sets beside records of the one-at-a-time machine
record AreBeside (g : Given) (rs qs : List Record) : Type 0 where
  pub state : AreAlike (state_after g rs) (state_after g qs)
  pub due : due_after qs ≡ due_after rs
  pub reached : reached_after qs ≡ reached_after rs
  pub cache : cache_after g qs ≡ cache_after g rs
  pub lines : lines_of qs ≡ lines_of rs

none_beside : (g : Given) → AreBeside g [] []
none_beside g = record { state = alike_same (state_after g []); due = refl; reached = refl; cache = refl; lines = refl }

next_beside : (g : Given) (rs qs : List Record) → IsPast g rs → AreBeside g rs qs → AreNextAlike (next g rs) (next g qs)
next_beside g rs qs past beside = grind (arith, next_alike, sound-after, past_of_some, blind-after)

-- what is held after records that are alike
same_cache : (g : Given) (rs qs : List Record) (r p : Record) → AreBeside g rs qs → AreRecordsAlike r p → cache_after g (p ∷ qs) ≡ cache_after g (r ∷ rs)
same_cache g rs qs r p beside same = grind arith

-- what is held does not depend on the bytes of the last state
cache_in_sets : (g : Given) (qs : List Record) (p : Record) → cache_after g (in_sets g qs p ∷ qs) ≡ cache_after g (p ∷ qs)
cache_in_sets g qs p = grind (arith, configured_by, over_mcon)

-- memory that is held over what is behind is memory as far as it is compared
laid_alike : (g : Given) (rs : List Record) (r p : Record) → IsPast g (r ∷ rs) → AreAlike r.after p.after → AreAlike r.after (record p.after { memory = overlaid (cache_after g (r ∷ rs)) })
laid_alike g rs r p past same =
    let c = cache_after g (r ∷ rs) in
    let cached = cached-after g (r ∷ rs) (past_of_some g (r ∷ rs) past) in
    record {
      rest =
          ap (λ (u : State). record u { memory = overlaid c }) same.rest
          ∙ ap (λ (m : Memory). record r.after { memory = m }) (sym (overlaid_memory r.after c cached.regions));
      bytes = cached.bytes;
    }

-- one record more
one_beside : (g : Given) (rs qs : List Record) (r p : Record) → IsPast g (r ∷ rs) → AreBeside g rs qs → AreRecordsAlike r p → AreBeside g (r ∷ rs) (in_sets g qs p ∷ qs)
one_beside g rs qs r p past beside same =
    let q = in_sets g qs p in
    let cache = same_cache g rs qs r p beside same in
    let after : AreAlike r.after q.after = subst (λ (c : Cache). AreAlike r.after (record p.after { memory = overlaid c })) (sym cache) (laid_alike g rs r p past same.after) in
    let alike : AreRecordsAlike r q = record { kind = same.kind; before = same.before; words = same.words; action = same.action; after = after } in
    record {
      state = after;
      due = due_alike r q alike;
      reached = cc (reached_alike r q alike, beside.reached);
      cache = cache_in_sets g qs p ∙ cache;
      lines = cc (lines_alike r q alike, beside.lines);
    }

-- each past of the machine with sets stands beside one of the one-at-a-time machine, and the other way round
past_beside : (g : Given) (qs : List Record) → IsPastInSets g qs → (rs : List Record) × IsPast g rs × AreBeside g rs qs
past_beside g [] past = ([], tt, none_beside g)
past_beside g (q ∷ qs) past =
    let before = past_beside g qs past.0 in
    let rs = before.0 in
    let p = past.1 in
    let found = does_alike (next g rs) (next g qs) p (next_beside g rs qs before.1 before.2) past.2 in
    let there : IsPast g (found.0 ∷ rs) = (before.1, found.1) in
    (found.0 ∷ rs, there, subst (λ (x : Record). AreBeside g (found.0 ∷ rs) (x ∷ qs)) (sym past.3) (one_beside g rs qs found.0 p there before.2 found.2))

past_in_sets : (g : Given) (rs : List Record) → IsPast g rs → (qs : List Record) × IsPastInSets g qs × AreBeside g rs qs
past_in_sets g [] past = ([], tt, none_beside g)
past_in_sets g (r ∷ rs) past =
    let before = past_in_sets g rs past.0 in
    let qs = before.0 in
    let found = does_beside (next g rs) (next g qs) r (next_beside g rs qs past.0 before.2) past.1 in
    let q = in_sets g qs found.0 in
    (q ∷ qs, (before.1, found.0, found.1, refl), one_beside g rs qs r found.0 past before.2 found.2)

text_beside : (g : Given) (rs qs : List Record) (e : Finish) → AreBeside g rs qs → run_text g qs e ≡ run_text g rs e
text_beside g rs qs e beside = grind arith

-- a run has one in sets, with the same text
pub run_in_sets : (g : Given) (rs : List Record) (e : Finish) → IsRun g rs e → (qs : List Record) × IsRunInSets g qs e × (run_text g qs e ≡ run_text g rs e)
run_in_sets g rs e run =
    let found = past_in_sets g rs run.past in
    let qs = found.0 in
    (qs, record { past = found.1; ends = ends_beside (next g rs) (next g qs) e (next_beside g rs qs run.past found.2) run.ends }, text_beside g rs qs e found.2)

-- and each run in sets has the end and the text of the run
pub sets_same : (g : Given) (qs rs : List Record) (e f : Finish) → IsRunInSets g qs e → IsRun g rs f → (e ≡ f) × (run_text g qs e ≡ run_text g rs f)
sets_same g qs rs e f sets run =
    let found = past_beside g qs sets.past in
    let xs = found.0 in
    let here : IsRun g xs e = record { past = found.1; ends = ends_alike (next g xs) (next g qs) e (next_beside g xs qs found.1 found.2) sets.ends } in
    let end = same_end g xs rs e f here run in (
      end,
      text_beside g xs qs e found.2 ∙ rw (same_records g xs rs e f here run, end) refl,
    )

-- ---- other numbers of sets

abbrev with_sets : Given → Option ℕ → Given
with_sets g others = record g { sets = others }

-- the run of the one-at-a-time machine is the same
run_same : (g : Given) (others : Option ℕ) (rs : List Record) (e : Finish) → IsRun g rs e → IsRun (with_sets g others) rs e
run_same g others rs e run = grind arith

-- so two runs in sets, in any numbers of them, have one text
pub any_sets : (g : Given) (others : Option ℕ) (qs ps : List Record) (e f : Finish) → IsRunInSets g qs e → IsRunInSets (with_sets g others) ps f → run_text g qs e ≡ run_text (with_sets g others) ps f
any_sets g others qs ps e f one two =
    let plain = run_goes_on g [] tt in
    let rs = plain.0 ++ [] in
    cc (
      (sets_same g qs rs e plain.1 one plain.2).1,
      state_by g (with_sets g others) rs refl,
      (sets_same (with_sets g others) ps rs f plain.1 two (run_same g others rs plain.1 plain.2)).1,
    )
