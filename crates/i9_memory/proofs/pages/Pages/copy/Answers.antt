use Rattle.i9_memory.proofs.Paged.{copied_bytes}
use Rattle.i9_memory.proofs.pages.Pages.copy.Goals as goal

pub returns-clause-bytes : goal.returns-clause-bytes
returns-clause-bytes c =
    copied_bytes c.args.self.now _ _ c.in_ok-pages.ensures (λ x y h. h)
