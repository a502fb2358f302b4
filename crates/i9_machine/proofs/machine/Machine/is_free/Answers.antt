use Rattle.std.proofs.Common.{inl, sym, refl, ◌∙◌}
use Rattle.i9_machine.specs.Contents.{situation}
use Rattle.i9_machine.specs.Step.{event_for}
use Rattle.i9_machine.proofs.Opening.{choice_waits}
use Rattle.i9_machine.proofs.Stepping.{goes_on}
use Rattle.i9_machine.proofs.machine.Machine.is_free.Goals as goal
use Rattle.i9_machine.proofs.machine.Machine.is_free.Goals.{then-not-goes_on-via-then-not-goes_on, then-not-goes_on-via-else-not-goes_on+then-check}

pub returns-in-Ok-Some-clause-waits : goal.returns-in-Ok-Some-clause-waits
returns-in-Ok-Some-clause-waits c = λ plan no.
    let at = situation c.args.self.now in
    let within = c.if-not-goes_on.ensures.free refl in
    choice_waits at plan (goes_on at (event_for at plan) within.0 within.1)
    (λ none. absurd (cc (c.in-Ok-Some.ensures ∙ none)))

pub returns-in-Err-clause-waits : goal.returns-in-Err-clause-waits
returns-in-Err-clause-waits c = λ plan no.
    let at = situation c.args.self.now in
    let within = c.if-not-goes_on.ensures.free refl in
    choice_waits at plan (goes_on at (event_for at plan) within.0 within.1)
    (λ none. absurd (cc (c.in-Err.ensures ∙ none)))

pub returns-then-not-goes_on-clause-waits : goal.returns-then-not-goes_on-clause-waits
returns-then-not-goes_on-clause-waits c = λ plan no.
    elim c.then-not-goes_on.branch [
      | then-not-goes_on-via-then-not-goes_on w ↦ w.if-not-goes_on.ensures.waits plan refl
      | then-not-goes_on-via-else-not-goes_on+then-check w ↦ inl (sym w.check.ensures ∙ w.if-check.true)
    ]
