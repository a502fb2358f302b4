use Rattle.std.proofs.Common.{◌≡◌, ℕ, ◌/◌, sym, ap, ◌∙◌, arith}
use Rattle.std.specs.Prelude.{Some}
use Rattle.i9_memory.specs.Table.{Updates}
use Rattle.i9_memory.proofs.Updated.{at_some, updated_keeps, updated_adds_none}
use Rattle.i9_memory.specs.declared.pages.Pages.{Pages}
use Rattle.i9_model.specs.Writes.{upwards}
use Rattle.i9_model.specs.Memory.{stored}
use Rattle.i9_memory.specs.Pages.{byte_in, byte_of, page_of}
use Rattle.i9_memory.proofs.Paged.{with_page, updated_bytes, own_bytes}
use Rattle.i9_memory.proofs.Runs.{run_in_port, run_in_page}
use Rattle.i9_memory.proofs.pages.Pages.store_run.Goals as goal

pub returns-then-in_port_page-clause-bytes : goal.returns-then-in_port_page-clause-bytes
returns-then-in_port_page-clause-bytes c =
    sym (run_in_port (byte_of c.args.self.now) c.args.a c.args.bytes.now (omega arith) c.requires.within (sym c.in_port_page.ensures ∙ c.if-in_port_page.true))

pub returns-in-Some-clause-bytes : goal.returns-in-Some-clause-bytes
returns-in-Some-clause-bytes c =
    let old = c.args.self.now in
    let n = c.args.a / 256 in
    let before = c.in-Some.page.now in
    let after = c.store.new.self in
    let new : Pages = record { alloc = old.alloc; pages = c.get_mut.follows.lender after } in
    let updates : Updates old.pages n (Some after) new.pages = at_some c.get_mut.result c.in-Some.page c.in-Some.is (c.get_mut.follows.holds after) in
    let was : page_of old n ≡ Some before = sym c.in-Some.ensures.value in
    updated_bytes old new n after updates
    ∙ ap (with_page (byte_of old) n) c.store.ensures
    ∙ run_in_page (byte_of old) (byte_in (Some before)) c.args.a c.args.bytes.now (omega arith) c.requires.within (sym c.in_port_page.ensures ∙ c.if-in_port_page.false)
    ∙ ap (λ (f : ℕ → ℕ). stored f (upwards c.args.a c.args.bytes.now)) (own_bytes old n before was)

pub returns-in-Some-clause-keeps : goal.returns-in-Some-clause-keeps
returns-in-Some-clause-keeps c =
    let after = c.store.new.self in
    updated_keeps c.args.self.now.pages (c.get_mut.follows.lender after) (c.args.a / 256) after
    (at_some c.get_mut.result c.in-Some.page c.in-Some.is (c.get_mut.follows.holds after))

pub returns-in-Some-clause-no_more : goal.returns-in-Some-clause-no_more
returns-in-Some-clause-no_more c =
    let after = c.store.new.self in
    updated_adds_none c.args.self.now.pages (c.get_mut.follows.lender after) (c.args.a / 256) (Some after)
    (at_some c.get_mut.result c.in-Some.page c.in-Some.is (c.get_mut.follows.holds after)) c.requires.room
