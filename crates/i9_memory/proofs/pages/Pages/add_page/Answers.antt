use Rattle.std.proofs.Common.{◌∙◌}
use Rattle.i9_memory.specs.declared.pages.Page.{Page}
use Rattle.i9_memory.specs.declared.pages.Pages.{Pages}
use Rattle.i9_memory.proofs.Paged.{updated_bytes, zero_page, same_pages}
use Rattle.i9_memory.proofs.pages.Pages.add_page.Goals as goal

pub returns-clause-same : goal.returns-clause-same
returns-clause-same c =
    let old = c.args.self.now in
    let new : Pages = record { alloc = old.alloc; pages = c.insert.new.self } in
    let page : Page = record { bytes = c.in-Ok.bytes } in
    updated_bytes old new c.args.number page c.in_ok-insert.ensures.ok ∙ zero_page old c.args.number page c.requires.lacking c.in-Ok.ensures.ok

pub returns-in_err-insert-clause-same : goal.returns-in_err-insert-clause-same
returns-in_err-insert-clause-same c =
    let old = c.args.self.now in
    let new : Pages = record { alloc = old.alloc; pages = c.insert.new.self } in
    same_pages old new c.in_err-insert.ensures.same
