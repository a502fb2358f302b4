use Rattle.std.proofs.Common.{◌≡◌, ℕ, ◌+◌, List, Option, Some, Result, Ok, Err, sym, ap, subst, ◌∙◌, arith}
use Rattle.i9_text.specs.FirstFault.{or_fault}
use Rattle.i9_text.proofs.Loop.{left_len-split, turn-fine, turn-fault, turn-end}
use Rattle.i9_model.specs.HexText.{fault_of, missing_end}
use Rattle.i9_hex.specs.declared.reader.LineError.{LineError}
use Rattle.i9_hex.specs.declared.reader.LineError.TheVariants as lines
use Rattle.i9_hex.specs.Lines.{with_line}
use Rattle.i9_hex.specs.Reading.{state_of, Fails, error_at, Refuses, Reads}
use Rattle.i9_hex.proofs.WholeText.{pairs_or_fault, state_or_fault, answer_of, pairs-at_end, found, only, refused, first}
use Rattle.i9_hex.proofs.reading.read.Goals as goal

-- an error at a line, where its fault is the answer
refuses_line : (error : LineError) (fault : Option ℕ) (number : ℕ) (answer : Result (List (ℕ × ℕ)) (ℕ × ℕ)) → Fails error fault → ((kind : ℕ) → fault ≡ Some kind → answer ≡ Err (number, kind)) → Refuses (error_at error number) answer
refuses_line lines.Memory fault number answer fails known = tt
refuses_line (lines.Bad kind) fault number answer fails known = known kind fails

-- a line at fault is what reading the whole text gives
at_line : (c : goal.After-at) → Refuses c.at.result (answer_of c.args.text.now)
at_line c =
    let s = state_of c.loop-rest.reader in
    let line = c.split_line.result.0.now in
    let answered = λ (kind : ℕ) (wrong : fault_of s line ≡ Some kind). ap pairs_or_fault (turn-fault fault_of with_line missing_end c.loop-rest.number kind s c.loop-rest.rest c.in-Some.lines line c.split_line.result.1 (state_or_fault c.args.text.now) c.in-Some.is c.split_line.ensures.lines c.loop-rest.invariant.same wrong) in
    rw c.at.ensures (refuses_line c.in-Err.error (fault_of s line) (c.loop-rest.number + 1) (answer_of c.args.text.now) c.in-Err.ensures answered)

-- so is the end of the text
at_end : (c : goal.After-finish) → Reads c.finish.result (answer_of c.args.text.now)
at_end c =
    let s = state_of c.loop-rest.reader in
    let total = turn-end fault_of with_line missing_end c.loop-rest.number s c.loop-rest.rest (state_or_fault c.args.text.now) c.in_default.is c.loop-rest.invariant.same in
    let answer : answer_of c.args.text.now ≡ or_fault (missing_end s) c.loop-rest.number (Ok s.pairs) = ap pairs_or_fault total ∙ pairs-at_end (missing_end s) c.loop-rest.number s in
    subst (λ (a : Result (List (ℕ × ℕ)) (ℕ × ℕ)). Reads c.finish.result a) (sym answer) c.finish.ensures

pub loop-rest-preserved : goal.loop-rest-preserved
loop-rest-preserved c =
    let shorter = left_len-split c.loop-rest.rest c.in-Some.lines c.split_line.result.1 c.in-Some.is c.split_line.ensures.shorter in
    record {
      same = turn-fine fault_of with_line missing_end c.loop-rest.number (state_of c.loop-rest.reader) (state_of c.in-Ok.next) c.loop-rest.rest c.in-Some.lines c.split_line.result.0.now c.split_line.result.1 (state_or_fault c.args.text.now) c.in-Some.is c.split_line.ensures.lines c.loop-rest.invariant.same c.in-Ok.ensures;
      few = omega (arith, shorter);
    }

pub returns-in-Err-clause-only : goal.returns-in-Err-clause-only
returns-in-Err-clause-only c = only c.args.text.now (Err c.at.result) (at_line c)

pub returns-in-Err-clause-refused : goal.returns-in-Err-clause-refused
returns-in-Err-clause-refused c = refused c.args.text.now (Err c.at.result) (at_line c)

pub returns-in-Err-clause-first : goal.returns-in-Err-clause-first
returns-in-Err-clause-first c = first c.args.text.now (Err c.at.result) (at_line c)

pub returns : goal.returns
returns c = record {
  found = found c.args.text.now c.finish.result (at_end c);
  only = only c.args.text.now c.finish.result (at_end c);
  refused = refused c.args.text.now c.finish.result (at_end c);
  first = first c.args.text.now c.finish.result (at_end c);
}
