use Rattle.std.proofs.Common.{length, sym, ap, ◌∙◌, eq-eqb}
use Rattle.std.proofs.lemmas.Bool.{eqb-true}
use Rattle.i9_queue.specs.Queue.{waits_in}
use Rattle.i9_queue.proofs.Bytes.{no-requests, none-waits}
use Rattle.i9_queue.proofs.queue.Queue.is_empty.Goals as goal

pub returns : goal.returns
returns c =
    let items = c.self.inside.items.items in (
      λ t. sym c.self.view_is ∙ ap waits_in (no-requests items (eqb-true (length items) 0 (sym c.is_empty.ensures ∙ t))),
      λ none. c.is_empty.ensures ∙ eq-eqb (length items) 0 (ap length (none-waits items (c.self.view_is ∙ none))),
    )
