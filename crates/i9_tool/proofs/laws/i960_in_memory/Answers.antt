use Rattle.std.proofs.Common.{[]}
use Rattle.i9_tool.specs.Outcome.{names_of, asked_for}
use Rattle.i9_outside.proofs.Failing.{all_sure}
use Rattle.i9_tool.proofs.laws.i960_in_memory.Goals as goal

pub returns-clause-calm_files : goal.returns-clause-calm_files
returns-clause-calm_files c = λ none held.
    let calm = c.i960.ensures.calm_files (all_sure c.args.files.now (names_of (asked_for c.args.words.now.items)) none held) in
    (calm.0, calm.1 [])
