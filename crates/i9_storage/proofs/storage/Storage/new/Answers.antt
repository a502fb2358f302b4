use Rattle.std.proofs.Common.{ap}
use Rattle.i9_frames.specs.Sets.{Held}
use Rattle.i9_storage.proofs.Keeping.{kept_new}
use Rattle.i9_storage.proofs.Current.{current_none}
use Rattle.i9_storage.proofs.storage.Storage.new.Goals as goal

pub invariant_of-result : goal.invariant_of-result
invariant_of-result c = record { kept = kept_new c.new.result c.new-2.result c.in_ok-new.field-0 c.new-2.ensures.frames (ap (λ (h : Held). h.frames) c.in_ok-new.ensures.empty); current = current_none c.in_ok-new-2.field-0 c.new.result c.new-2.result c.in_ok-new.field-0 c.in_ok-new-2.ensures }
