use Rattle.std.proofs.Common.{◌≡◌, ap, ◌∙◌}
use Rattle.i9_model.specs.Turns.{Pending, done_from}
use Rattle.i9_issue.proofs.Loops.{all_done-is}
use Rattle.i9_turns.proofs.TurnStands.{stands-end, stands-all_done, all_done-stands}
use Rattle.i9_issue.proofs.board.Board.all_done.Goals as goal

pub returns : goal.returns
returns c =
    let until = c.self.inside.until in
    let end : until ≡ done_from c.args.self.now.last c.args.self.now.records = c.self.invariant.end ∙ ap (λ (p : Pending). done_from p.last p.records) c.self.view_is in
    let both = all_done-is c.args.self.now until end in
    record { done = both.0; least = both.1; computed = λ rs s. stands-end c.args.self.now rs until s both.0 both.1; of_all = λ rs s. (stands-all_done c.args.self.now rs until s both.0, λ t a. both.1 t (all_done-stands c.args.self.now rs t s a)) }
