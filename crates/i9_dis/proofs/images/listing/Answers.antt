use Rattle.std.proofs.Common.{List, [], subst}
use Rattle.i9_model.specs.Image.{Part}
use Rattle.i9_dis.specs.Printed.{AddsRuns}
use Rattle.i9_asm.specs.Listing.{IsListing}
use Rattle.i9_dis.proofs.Listed.{printed_listing, listing_reassembles}
use Rattle.i9_dis.proofs.images.listing.Goals as goal

printed : (c : goal.After-drop-runs-inside) → IsListing c.args.segments.now c.in-Ok.text.items
printed c = printed_listing c.args.segments.now c.in_ok-runs.runs c.in-Ok.text.items c.in_ok-runs.ensures (subst (λ (rs : List Part). AddsRuns rs [] c.in-Ok.text.items) c.as_slice.ensures.segments c.in-Ok.ensures)

pub returns-in-Ok-clause-again : goal.returns-in-Ok-clause-again
returns-in-Ok-clause-again c = λ runs are few. listing_reassembles c.args.segments.now runs c.in-Ok.text.items (printed c) are few
