use Rattle.std.proofs.Common.{◌≡◌, drop, take}
use Rattle.i9_model.specs.Boot.{with_regions, configured}
use Rattle.i9_memory.specs.Memory.{memory_of, KeepsRoom}
use Rattle.i9_boot.proofs.regions.configure_all.Given as goal

-- the configuration words that are left make the memory that is wanted
abbrev pub invariant-loop-region : goal.invariant-loop-region
invariant-loop-region l = record {
  memory : with_regions (memory_of l.m) l.region (drop l.region (take 16 (drop 8 l.control))) ≡ configured (memory_of l.fn.m) l.control;
  bytes : (memory_of l.m).bytes ≡ (memory_of l.fn.m).bytes;
  keeps : KeepsRoom l.fn.m l.m;
  no_more : KeepsRoom l.m l.fn.m;
}
