use Rattle.std.proofs.Common.{map, sym, ap, subst}
use Rattle.std.specs.String.{string_bytes}
use Rattle.i9_buffers.specs.Line.{AsksWith}
use Rattle.i9_buffers.proofs.Taken.{takes_bad, takes_all}
use Rattle.i9_buffers.proofs.line.read_words.Goals as goal

pub returns-in-Err : goal.returns-in-Err
returns-in-Err c =
    subst (AsksWith c.args.text.now) (sym (ap (map string_bytes) c.new.ensures.items))
    (takes_bad (map string_bytes c.loop-rest.words.items) c.args.text.now c.loop-rest.rest c.in-Some.lines c.split_line.result.0.now c.split_line.result.1
    c.loop-rest.invariant c.in-Some.is c.split_line.ensures.lines c.in-Err.ensures.cases.0)

pub returns : goal.returns
returns c = takes_all c.args.text.now (map string_bytes c.loop-rest.words.items) c.loop-rest.rest c.loop-rest.invariant c.in_default.is
