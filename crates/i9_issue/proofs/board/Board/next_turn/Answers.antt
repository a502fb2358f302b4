use Rattle.std.proofs.Common.{◌≡◌, ℕ, reverse, take, subst, ap, ◌∙◌}
use Rattle.i9_model.specs.Turns.{Pending, issue_turn, turn_from}
use Rattle.i9_issue.specs.Room.{Fits}
use Rattle.i9_issue.proofs.Loops.{issues-computed, issues-early}
use Rattle.i9_turns.proofs.TurnStands.{stands-issues, stands-issue_turn}
use Rattle.i9_issue.proofs.Early.{held-done, held-time}
use Rattle.i9_issue.proofs.board.Board.next_turn.Goals as goal

pub returns : goal.returns
returns c =
    let p = c.args.self.now in
    let n = c.args.n.now in
    let t = c.turn_by.result in
    let fits = subst (λ (p : Pending). Fits p.last p.records) c.self.view_is c.self.invariant.fits in
    let computed : t ≡ issue_turn p.last p.records n =
    c.turn_by.ensures ∙ ap (λ (from : ℕ). turn_from n from 0 (reverse (take c.self.inside.count c.self.inside.records))) c.max-from.ensures ∙ ap (λ (p : Pending). issue_turn p.last p.records n) c.self.view_is in
    let least = issues-computed p n t fits computed in
    record { least = least; computed = λ rs s. stands-issue_turn p rs n t s least; of_all = λ rs s. stands-issues p rs n t s least; early = issues-early p n t fits c.requires.early least }

pub turn_by-requires-clause-time : goal.turn_by-requires-clause-time
turn_by-requires-clause-time c = held-time c.self.inside.last c.self.inside.until c.self.inside.asked c.self.inside.count c.self.inside.records c.self.invariant

pub turn_by-requires-clause-done : goal.turn_by-requires-clause-done
turn_by-requires-clause-done c = held-done c.self.inside.last c.self.inside.until c.self.inside.asked c.self.inside.count c.self.inside.records c.self.invariant
