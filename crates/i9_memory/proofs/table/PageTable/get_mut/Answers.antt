use Rattle.std.proofs.Common.{◌≡◌, ◌%◌, ◌<◌, Some, length, refl, sym, ◌∙◌, arith}
use Rattle.std.proofs.lemmas.List.{get_or_default}
use Rattle.std.specs.Prelude.{None}
use Rattle.i9_memory.specs.Table.{page_at}
use Rattle.i9_memory.proofs.Places.{on_some, leads_by, page_put, page_is, put_back}
use Rattle.i9_memory.proofs.table.PageTable.get_mut.Goals as goal

pub returns : goal.returns
unfolding page_at
returns g c =
    let number = c.args.number in
    let us = c.args.self.now.levels in
    let middle = c.in_ok-middle.middle.now in
    let low = c.in_ok-low.low.now in
    let page = c.in_ok-self.field-0.now in
    let within : number % 256 < length low.items = omega (arith, c.in_ok-self.ensures.variant.0 refl, low.ok.0) in
    let leads =
    leads_by us.items us.items middle middle low low number
    (omega (arith, c.in_ok-middle.ensures.variant.0 refl, us.ok.0)) (λ k. refl) c.in_ok-middle.ensures.value
    (omega (arith, c.in_ok-low.ensures.variant.0 refl, middle.ok.0)) (λ k. refl) c.in_ok-low.ensures.value
    (λ k. refl) in
    let is : page ≡ page_at c.args.self.now number =
    c.in_ok-self.ensures.value ∙ get_or_default low.items (number % 256) page None within ∙ sym (page_is us.items us.items middle low number leads) in
    let put = page_put us.items us.items middle low number leads within in (
      (refl, λ w. on_some c.as_mut.result (put (Some w)), λ n. put page n ∙ put_back (page_at c.args.self.now) number n page is),
      record { ends = tt; value = c.as_mut.ensures.value ∙ is },
    )
