use Rattle.std.proofs.Common.{◌%◌, ◌<◌, Some, length, arith}
use Rattle.i9_memory.specs.Table.{page_at}
use Rattle.i9_memory.proofs.Places.{on_err, leads_by, page_put, page_kept}
use Rattle.i9_memory.proofs.table.PageTable.insert.Goals as goal

pub returns-in_err-grow_places-clause-same : goal.returns-in_err-grow_places-clause-same
unfolding page_at
returns-in_err-grow_places-clause-same g c =
    let number = c.args.number in
    let us = c.args.self.now.levels in
    let vs = c.grow_lists.new.lists in
    let middle = c.grow_lists-2.new.lists in
    let low = c.grow_places.new.places in
    let leads =
    leads_by us.items vs.items c.index_mut-middle.result.now middle c.index_mut-low.result.now low number
    (omega (arith, c.in_ok-grow_lists.ensures.ok, vs.ok.0)) c.grow_lists.ensures.same c.index_mut-middle.ensures.value
    (omega (arith, c.in_ok-grow_lists-2.ensures.ok, middle.ok.0)) c.grow_lists-2.ensures.same c.index_mut-low.ensures.value
    c.grow_places.ensures.same in
    on_err _ (page_kept us.items vs.items middle low number leads)

pub returns-clause-ok : goal.returns-clause-ok
unfolding page_at
returns-clause-ok g c =
    let number = c.args.number in
    let us = c.args.self.now.levels in
    let vs = c.grow_lists.new.lists in
    let middle = c.grow_lists-2.new.lists in
    let low = c.grow_places.new.places in
    let within : number % 256 < length low.items = omega (arith, c.in_ok-grow_places.ensures.ok, low.ok.0) in
    let leads =
    leads_by us.items vs.items c.index_mut-middle.result.now middle c.index_mut-low.result.now low number
    (omega (arith, c.in_ok-grow_lists.ensures.ok, vs.ok.0)) c.grow_lists.ensures.same c.index_mut-middle.ensures.value
    (omega (arith, c.in_ok-grow_lists-2.ensures.ok, middle.ok.0)) c.grow_lists-2.ensures.same c.index_mut-low.ensures.value
    c.grow_places.ensures.same in
    page_put us.items vs.items middle low number leads within (Some c.args.page)
