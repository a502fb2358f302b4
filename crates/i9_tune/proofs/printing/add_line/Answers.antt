use Rattle.std.proofs.Common.{rules}
use Rattle.std.proofs.lemmas.List.{append_assoc}
use Rattle.i9_tune.proofs.Lines.{coded_line}
use Rattle.i9_tune.proofs.printing.add_line.Goals as goal

pub returns : goal.returns
returns c =
    let code = c.code_of-code in
    let line = coded_line c.args.address c.args.inst.now code.result.first code.result.second c.requires.aligned
    (record { one = code.ensures.one; two = code.ensures.two; count = code.ensures.count.1; counted = code.ensures.count.0; small = search rules }) in
    record {
      words = line.0;
      is = line.1;
      text = rw (c.in_ok-push.ensures.items, c.in_ok-add_words.ensures, c.in_ok-add_word.ensures, c.in_ok-extend_from_slice.ensures.items, c.in_ok-add_statement.ensures, line.2) (simp append_assoc);
    }
