use Rattle.std.proofs.Common.{◌≡◌, List, map, ap, sym, ◌∙◌, arith}
use Rattle.i9_shade.specs.declared.shade.OldBytes.{OldBytes}
use Rattle.i9_shade.specs.Shade.{Kept, piece_in, first_byte}
use Rattle.i9_shade.proofs.First.{shows-none}
use Rattle.i9_shade.proofs.shade.Shade.look.Goals as goal

pub returns-then-turn-self-clause-none : goal.returns-then-turn-self-clause-none
returns-then-turn-self-clause-none c =
    let kept = c.args.self.now in
    let seen : c.first_byte.result ≡ first_byte kept.pieces c.args.a =
    c.first_byte.ensures
    ∙ ap (λ (olds : List OldBytes). first_byte (map piece_in olds) c.args.a) c.as_slice.ensures.value
    ∙ ap (λ (k : Kept). first_byte k.pieces c.args.a) c.self.view_is in
    let due : c.self.inside.due ≡ kept.due = ap (λ (k : Kept). k.due) c.self.view_is in
    let both = shows-none kept c.args.a c.args.turn (omega (arith, due, c.if-turn-self.true)) in
    (λ e. both.0 (sym seen ∙ e), λ h. seen ∙ both.1 h)
