use Rattle.i9_plan.proofs.Fetching.{second_given, decoded_valid}
use Rattle.i9_plan.proofs.kept.Kept.lengthen.Goals as goal

pub invariant_of-self-clause-read : goal.invariant_of-self-clause-read
invariant_of-self-clause-read c =
    let kept = c.args.self.now in
    second_given kept.words.first kept.words.second c.args.second kept.inst c.requires kept.read

pub returns-clause-valid : goal.returns-clause-valid
returns-clause-valid c =
    let kept = c.args.self.now in
    decoded_valid kept.words.first c.args.second _ c.ranges.second.fits (second_given kept.words.first kept.words.second c.args.second kept.inst c.requires kept.read)
