use Rattle.std.proofs.Common.{◌≡◌, ℕ, ◌*◌, List, Option, refl, ap, ◌∙◌}
use Rattle.std.proofs.lemmas.Result.{IfOk-weaker}
use Rattle.i9_statement.specs.Known.{definitions}
use Rattle.i9_asm.specs.Said.{item_as}
use Rattle.i9_asm.specs.Lines.{Item, label_of}
use Rattle.i9_asm.specs.Places.{Place, address_at, past_label, past_item, past_line}
use Rattle.i9_asm.specs.Numbered.{label_entered, line_entered}
use Rattle.i9_asm.specs.Reading.{naming_place}
use Rattle.i9_asm.proofs.NumberedNames.{labelled_place, line_is}
use Rattle.i9_asm.proofs.naming.Naming.with_line.Goals as goal

pub returns : goal.returns
returns c =
    let p = naming_place c.args.self in
    let q = naming_place c.in_ok-labelled.labelled in
    let line = c.args.text.now in
    let step = 2 * c.from-step.result in
    let table = definitions c.args.self.table in
    let more = definitions c.in_ok-labelled.labelled.table in
    let label = ap (λ (l : Option (List ℕ)). label_entered l (address_at p) step table) c.read_line-line.ensures.label in
    let is = c.in_ok-labelled.ensures.table ∙ label in
    let place = labelled_place p q (label_of line) step table more c.in_ok-labelled.ensures.location refl refl is in
    record {
      location = IfOk-weaker c.with_item.result _ (λ n. n.location ≡ (past_line p line).location) (λ n h. h ∙ ap (λ (x : Place). (past_item x (item_as c.effect_of.result)).location) place
          ∙ ap (λ (i : Item). (past_item (past_label (label_of line) p) i).location) c.effect_of.ensures) c.with_item.ensures.location;
      table = IfOk-weaker c.with_item.result _ (λ n. definitions n.table ≡ line_entered p (2 * c.args.number) line table) (λ n h. h ∙ line_is p q step line (item_as c.effect_of.result) table more place c.effect_of.ensures is
          ∙ ap (λ (k : ℕ). line_entered p (2 * k) line table) c.from-step.ensures) c.with_item.ensures.table;
    }
