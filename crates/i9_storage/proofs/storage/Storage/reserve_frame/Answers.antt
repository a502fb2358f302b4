use Rattle.std.proofs.Common.{◌≡◌, ℕ, ◌⊎◌, refl, arith}
use Rattle.i9_watch.specs.Watch.{spare_of, HasFrameMarks}
use Rattle.i9_storage.specs.declared.storage.Storage.{Storage}
use Rattle.i9_storage.specs.Storage.{HasFrameSpace}
use Rattle.i9_storage.proofs.Keeping.{kept_reserve}
use Rattle.i9_storage.proofs.Current.{current_settled}
use Rattle.i9_storage.proofs.storage.Storage.reserve_frame.Goals as goal

no_marks : (s : Storage) (a : ℕ) → (spare_of s.watch ≡ 0) ⊎ (HasFrameMarks s.watch a → ⊥) → HasFrameSpace s a → ⊥
no_marks s a h space = grind arith

pub returns-clause-lacking : goal.returns-clause-lacking
returns-clause-lacking c = grind arith

pub invariant_of-self : goal.invariant_of-self
invariant_of-self c =
    let old = c.args.self.now in
    record {
      kept = kept_reserve old.behind c.reserve.new.self old.watch old.watch old.sets old.kept c.reserve.ensures.keeps refl;
      current = current_settled old.words old.behind c.reserve.new.self old.watch old.watch old.sets old.current refl c.reserve.ensures.settled;
    }

pub invariant_of-self-2 : goal.invariant_of-self-2
invariant_of-self-2 c =
    let old = c.args.self.now in
    record {
      kept = kept_reserve old.behind c.reserve.new.self old.watch c.reserve-2.new.self old.sets old.kept c.reserve.ensures.keeps c.reserve-2.ensures.frames;
      current = current_settled old.words old.behind c.reserve.new.self old.watch c.reserve-2.new.self old.sets old.current c.reserve-2.ensures.frames c.reserve.ensures.settled;
    }
