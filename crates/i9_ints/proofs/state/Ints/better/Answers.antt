use Rattle.std.proofs.Common.{◌≡◌, ◌<◌, ◌≤◌, true, subst, arith}
use Rattle.i9_model.specs.Interrupts.{line_vector}
use Rattle.i9_ints.specs.Ints.{interrupts_of}
use Rattle.i9_ints.specs.Best.{is_ready, IsBestLine}
use Rattle.i9_ints.proofs.BestLines.{best_kept, best_stays, best_changes}
use Rattle.i9_ints.proofs.state.Ints.better.Goals as goal

pub returns-then-not-is_ready : goal.returns-then-not-is_ready
returns-then-not-is_ready c = best_kept (interrupts_of c.args.self.now) c.args.pc c.args.k c.args.best c.requires.best (cc)

pub returns-in-Some : goal.returns-in-Some
returns-in-Some c =
    let s = interrupts_of c.args.self.now in
    let best = subst (IsBestLine s c.args.pc c.args.k) c.in-Some.is c.requires.best in
    let le : line_vector s.maps c.args.k ≤ line_vector s.maps c.in-Some.b = omega arith in
    best_stays s c.args.pc c.args.k c.in-Some.b best le

pub returns-in_default : goal.returns-in_default
returns-in_default c =
    let s = interrupts_of c.args.self.now in
    let best = subst (IsBestLine s c.args.pc c.args.k) c.in-Some.is c.requires.best in
    let ready : is_ready s c.args.pc c.args.k ≡ true = cc in
    let less : line_vector s.maps c.in-Some.b < line_vector s.maps c.args.k = omega arith in
    best_changes s c.args.pc c.args.k c.in-Some.b best ready less

pub returns-in_default-2 : goal.returns-in_default-2
returns-in_default-2 c = grind arith
