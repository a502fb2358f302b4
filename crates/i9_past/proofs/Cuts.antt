-- What is done before the length of a run is reached does not depend on that length.
use Rattle.std.proofs.Common.{◌≡◌, ◌≢◌, ℕ, ◌≤◌, List, [], ◌∷◌, length, Option, refl, ap, ◌∙◌, arith}
use Rattle.i9_model.specs.State.{State}
use Rattle.i9_model.specs.declared.event.Event.{Event}
use Rattle.i9_model.specs.ScheduleText.{standing}
use Rattle.i9_model.specs.Run.{Given, Record, Next, Does, Ends, next_in, due_after, reached_after, event_after, state_after, next, IsPast, IsRun, finish, Finish}
use Rattle.i9_model.specs.declared.run.End.TheVariants.{Limit}
use Rattle.i9_model.specs.declared.run.Due.{Due}
use Rattle.i9_past.proofs.Ends.{count_within}
use Rattle.i9_model.specs.declared.run.Due.TheVariants as dues

-- what is done at one thing given is done at another, where it comes next there too
pub past_by : (g k : Given) → ((rs : List Record) (r : Record) → IsPast g rs → next g rs ≡ Does r → next k rs ≡ Does r) → (rs : List Record) → IsPast g rs → IsPast k rs
past_by g k same [] past = tt
past_by g k same (r ∷ rs) past = (past_by g k same rs past.0, same rs r past.0 past.1)

-- a state goes by the image alone
pub state_by : (g k : Given) (rs : List Record) → k.image ≡ g.image → state_after k rs ≡ state_after g rs
state_by g k rs e = grind arith

-- what comes next, from the state that it comes in
abbrev pub next_from : Given → List Record → State → Next
next_from g rs s = next_in g.length (due_after rs) (standing g.plan (length (reached_after rs)) s.count) s

pub next_by_state : (g : Given) (rs : List Record) (s : State) → state_after g rs ≡ s → next g rs ≡ next_from g rs s
next_by_state g rs s e = ap (next_from g rs) e

-- what comes next but for the end of the length
pub next_longer : (limit more : ℕ) (due : Due) (stands : Option Event) (s : State) (o : Next) → s.count ≤ limit → limit ≤ more → o ≢ Ends (finish Limit) → next_in limit due stands s ≡ o → next_in more due stands s ≡ o
next_longer limit more due stands s o within longer other e = grind arith

abbrev at_length : Given → ℕ → Given
at_length g more = record g { length = more }

next_more : (g : Given) (more : ℕ) (rs : List Record) (o : Next) → g.length ≤ more → IsPast g rs → o ≢ Ends (finish Limit) → next g rs ≡ o → next (at_length g more) rs ≡ o
next_more g more rs o longer past other e =
    next_by_state (at_length g more) rs (state_after g rs) (state_by g (at_length g more) rs refl)
    ∙ next_longer g.length more (due_after rs) (event_after g rs) (state_after g rs) o (count_within g rs past) longer other e

pub past_more : (g : Given) (more : ℕ) (rs : List Record) → g.length ≤ more → IsPast g rs → IsPast (at_length g more) rs
past_more g more rs longer past = past_by g (at_length g more) (λ qs r before e. next_more g more qs (Does r) longer before (λ no. cc no) e) rs past

at_limit : (f : Finish) → Ends f ≡ Ends (finish Limit) → f.end ≡ Limit
at_limit f e = let same : f ≡ finish Limit = cc in ap (λ (x : Finish). x.end) same

pub run_more : (g : Given) (more : ℕ) (rs : List Record) (f : Finish) → g.length ≤ more → f.end ≢ Limit → IsRun g rs f → IsRun (at_length g more) rs f
run_more g more rs f longer other run = record {
  past = past_more g more rs longer run.past;
  ends = next_more g more rs (Ends f) longer run.past (λ no. other (at_limit f no)) run.ends;
}
