use Rattle.std.proofs.Common.{sym, ◌∙◌}
use Rattle.i9_memory.specs.Memory.{memory_of}
use Rattle.i9_watch.specs.Watch.{frames_of}
use Rattle.i9_dma.specs.Channels.{dma_of, channel_of}
use Rattle.i9_dma.specs.Units.{given_in}
use Rattle.i9_dma.proofs.Planned.{idle, meets, moves}
use Rattle.i9_dma.proofs.channels.Channels.plan_unit.Goals as goal

pub returns-then-is_idle : goal.returns-then-is_idle
returns-then-is_idle c =
    idle (dma_of c.args.self.now) c.args.c (memory_of c.args.m.now) (frames_of c.args.w.now) (given_in c.args.given) (sym c.is_idle.ensures ∙ c.if-is_idle.true)

pub returns-in-Some : goal.returns-in-Some
returns-in-Some c =
    meets (dma_of c.args.self.now) c.args.c (memory_of c.args.m.now) (frames_of c.args.w.now) (given_in c.args.given) (channel_of c.channel-channel.result) c.in-Some.hazard
    c.channel-channel.ensures (sym c.if-is_idle.ensures) c.in-Some.ensures

pub returns-in-None : goal.returns-in-None
returns-in-None c =
    moves (dma_of c.args.self.now) c.args.c (memory_of c.args.m.now) (frames_of c.args.w.now) (given_in c.args.given) (channel_of c.channel-channel.result) c.bytes.result.items
    c.channel-channel.ensures (sym c.if-is_idle.ensures) c.in-None.ensures c.bytes.ensures
