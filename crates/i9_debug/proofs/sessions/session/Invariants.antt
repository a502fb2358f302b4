use Rattle.std.proofs.Common.{[], take}
use Rattle.i9_back.specs.Trail.{IsTrail}
use Rattle.i9_lines.specs.declared.print.Printed.TheVariants.{Done}
use Rattle.i9_lines.specs.Print.{account, output}
use Rattle.i9_debug.specs.Session.{at, IsText}
use Rattle.i9_debug.specs.Driven.{given_of, Drives, CutInScript, target}
use Rattle.i9_debug.proofs.sessions.session.Given as goal

abbrev pub invariant-loop-c : goal.invariant-loop-c
invariant-loop-c g l =
    let what = given_of l.fn.image l.fn.sets l.fn.plan in
    record {
      drives : Drives (IsText what (take l.c-index l.commands) (at [] 1)) (CutInScript what (take l.c-index l.commands) (at [] 1)) Done what
          (output (account g.K.Sink.told g.K.Sink.faults g.K.Sink.writes g.K.Sink.sure g.K.Sink.pieces) l.fn.out l.out) (target l.m l.plan);
      trail : IsTrail what l.trail;
    }
