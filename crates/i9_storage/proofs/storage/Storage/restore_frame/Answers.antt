use Rattle.std.proofs.Common.{refl, arith}
use Rattle.i9_storage.proofs.Keeping.{kept_return, return_laid}
use Rattle.i9_storage.proofs.Current.{current_return}
use Rattle.i9_storage.proofs.storage.Storage.restore_frame.Goals as goal

pub invariant_of-self : goal.invariant_of-self
invariant_of-self c =
    let old = c.args.self.now in
    record { kept = kept_return old.behind old.watch c.drop_frame.new.watch old.sets c.pop.new.self old.kept c.drop_frame.ensures.frames c.pop.ensures.left; current = current_return old.words old.words old.behind old.behind old.watch c.drop_frame.new.watch old.sets c.pop.new.self old.current (λ a u keeps. keeps) refl c.drop_frame.ensures.frames (return_laid old.behind old.watch old.sets c.pop.new.self old.kept c.pop.ensures.left) }

pub returns-clause-memory : goal.returns-clause-memory
returns-clause-memory c = grind (arith, return_laid)
