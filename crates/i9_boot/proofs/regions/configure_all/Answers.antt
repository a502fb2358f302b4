use Rattle.std.proofs.Common.{◌+◌, ◌≤◌, length, take, drop, sym, ap, ◌∙◌, arith, rules}
use Rattle.i9_model.specs.Memory.{Memory}
use Rattle.i9_model.specs.Boot.{with_regions}
use Rattle.i9_memory.specs.Memory.{memory_of}
use Rattle.i9_boot.proofs.Configuring.{length_regions, regions_next, regions_done}
use Rattle.i9_boot.proofs.regions.configure_all.Goals as goal

pub loop-region-preserved : goal.loop-region-preserved
loop-region-preserved c =
    let control = c.args.control.now in
    let i = c.loop-region.region in
    record {
      memory =
          ap (λ (m : Memory). with_regions m (i + 1) (drop (i + 1) (take 16 (drop 8 control)))) c.configure.ensures.word
          ∙ sym (regions_next (memory_of c.loop-region.m) control i c.told-control (omega arith))
          ∙ c.loop-region.invariant.memory;
      bytes = ap (λ (m : Memory). m.bytes) c.configure.ensures.word ∙ c.loop-region.invariant.bytes;
      keeps = search rules;
      no_more = search rules;
    }

pub returns-clause-memory : goal.returns-clause-memory
returns-clause-memory c =
    let ws = take 16 (drop 8 c.args.control.now) in
    let all : length ws ≤ c.loop-region.region = omega (arith, length_regions c.args.control.now c.told-control) in
    sym (regions_done (memory_of c.loop-region.m) ws c.loop-region.region all) ∙ c.loop-region.invariant.memory
