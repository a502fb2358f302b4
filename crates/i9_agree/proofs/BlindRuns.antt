-- Along a run soft bytes are read as 0.
use Rattle.std.proofs.Common.{◌≡◌, ℕ, List, [], ◌∷◌, Option, refl, ◌∙◌, arith}
use Rattle.i9_model.specs.declared.event.Event.{Event}
use Rattle.i9_model.specs.State.{State, as_zero, started, boot}
use Rattle.i9_model.specs.Step.{Action, moved, acted}
use Rattle.i9_model.specs.Run.{Given, Record, Does, state_after, due_after, next_in, next_with, IsPastOfSome}
use Rattle.i9_model.specs.declared.run.Due.{Due}
use Rattle.i9_past.proofs.Comes.{next_comes}

-- no action changes how soft bytes are read
pub acted-reading : (s : State) (a : Action) → (acted s a).reading ≡ s.reading
unfolding acted moved started
acted-reading s a = grind arith

next-reading : (limit : ℕ) (due : Due) (stands : Option Event) (s : State) (r : Record) → next_in limit due stands s ≡ Does r → r.after.reading ≡ s.reading
next-reading limit due stands s r e = grind (arith, next_comes, acted-reading)

boot-reading : (image : List (ℕ × ℕ)) → (boot image).reading ≡ as_zero
unfolding boot started
boot-reading image = refl

pub blind-after : (g : Given) (rs : List Record) → IsPastOfSome (next_with g) rs → (state_after g rs).reading ≡ as_zero
blind-after g [] past = boot-reading g.image
blind-after g (r ∷ rs) past = next-reading g.length (due_after rs) past.1.0 (state_after g rs) r past.1.1 ∙ blind-after g rs past.0
