use Rattle.std.proofs.Common.{sym, ◌∙◌}
use Rattle.i9_machine.specs.Contents.{situation}
use Rattle.i9_machine.proofs.Opening.{due_waits}
use Rattle.i9_machine.proofs.machine.Machine.goes_on.Goals as goal

pub returns-in-Entry-clause-waits : goal.returns-in-Entry-clause-waits
returns-in-Entry-clause-waits c =
    λ plan no. due_waits (situation c.args.self.now) plan (λ none. absurd (cc (sym c.in-Entry.is ∙ none)))
