use Rattle.std.proofs.Common.{ap}
use Rattle.i9_storage.specs.declared.words.Places.{Places}
use Rattle.i9_storage.proofs.KeptWords.{none_named}
use Rattle.i9_storage.proofs.words.Words.new.Goals as goal

pub invariant_of-result : goal.invariant_of-result
invariant_of-result c = record { within = λ a named. absurd (none_named c.in-Ok.places.value.addresses a (ap (λ (p : Places). p.addresses) c.in-Ok.ensures.ok) named) }
