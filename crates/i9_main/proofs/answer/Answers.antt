use Rattle.std.proofs.Common.{IfOk, sym, subst}
use Rattle.std.specs.Process.{exit_status}
use Rattle.i9_lines.specs.Print.{account, output}
use Rattle.i9_main.specs.Program.{EndsWith}
use Rattle.i9_tool.specs.Fetches.{shelf, stock}
use Rattle.i9_main.proofs.answer.Goals as goal

pub returns-in-Ok-clause-given : goal.returns-in-Ok-clause-given
returns-in-Ok-clause-given g c =
    let e = c.i960.ensures in
    let s = stock (shelf g.F.Files.told g.F.Files.faults g.F.Files.fetches g.F.Files.sure) c.args.files.now c.i960.new.files in
    let k = output (account g.K.Sink.told g.K.Sink.faults g.K.Sink.writes g.K.Sink.sure g.K.Sink.pieces) c.args.out.now c.i960.new.out in
    subst (λ words. IfOk words (λ w. EndsWith w.items (exit_status c.exit_of.result) s k)) (sym c.in-Ok.is)
    (subst (λ code. EndsWith c.in-Ok.words.items code s k) (sym c.exit_of.ensures)
    (record {
      answers = record { known = e.known; whole = e.whole; front = e.front; write = e.write; failed = e.failed; calm = e.calm_sink };
      fetched = e.fetched;
      read = e.read;
    }))
