-- A fetch that memory is refused.
use Rattle.std.proofs.Common.{◌≡◌, ℕ, List, [], Option, Some, refl, sym, ◌∙◌, subst}
use Rattle.std.proofs.lemmas.List.{append-nil}
use Rattle.i9_outside.specs.declared.traits.Fetch.TheVariants as fetches
use Rattle.i9_outside.specs.Traits.{Fetches, IsFile}

-- nothing of the file is there
pub refused_fetch : (told : Option (List ℕ)) (file old new : List ℕ) → told ≡ Some file → new ≡ old → Fetches fetches.Memory told old new
refused_fetch told file old new is same = record {
  file = file;
  is_file = subst (λ (o : Option (List ℕ)). IsFile o file) (sym is) refl;
  leaves = record { front = []; rest = file; parts = refl; grows = same ∙ sym (append-nil old) };
}
