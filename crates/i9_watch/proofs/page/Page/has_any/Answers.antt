use Rattle.std.proofs.Common.{◌≡◌, ◌+◌, ◌/◌, false, get_or, sym, ◌∙◌, arith, rules}
use Rattle.i9_watch.proofs.Marking.{unmarked_part}
use Rattle.i9_watch.proofs.page.Page.has_any.Goals as goal

pub returns-in-Soft : goal.returns-in-Soft
returns-in-Soft c = λ none k low high.
    let clear : get_or c.deref.result.now k false ≡ false = unmarked_part c.deref.result.now c.args.place (c.args.place + c.args.n) k (sym c.contains.ensures.value ∙ none) low high in
    rw c.in-Soft.is (search (rules, clear))

pub returns-in-Live : goal.returns-in-Live
returns-in-Live c = λ none k low high.
    let end = c.div_ceil-last.ensures in
    let clear : get_or c.args.self.now.live (k / 16) false ≡ false = unmarked_part c.args.self.now.live (c.args.place / 16) c.div_ceil-last.result (k / 16) (sym c.contains-in-Live.ensures.value ∙ none) (omega arith) (omega (arith, end)) in
    rw c.in-Live.is clear

pub returns-in-Lost : goal.returns-in-Lost
returns-in-Lost c = λ none k low high.
    let clear : get_or c.deref-in-Lost.result.now k false ≡ false = unmarked_part c.deref-in-Lost.result.now c.args.place (c.args.place + c.args.n) k (sym c.contains-in-Lost.ensures.value ∙ none) low high in
    rw c.in-Lost.is (search (rules, clear))
