use Rattle.std.proofs.Common.{◌≡◌, ℕ, ◌+◌, ◌*◌, Some, None, sym, subst, arith}
use Rattle.i9_statement.specs.Known.{definitions, values_of, values_before}
use Rattle.i9_text.specs.Text.{lines_of}
use Rattle.i9_text.specs.FirstFault.{IsRefused, SaysAll}
use Rattle.i9_text.proofs.Loop.{left_len-split}
use Rattle.i9_statement.specs.Values.{Names}
use Rattle.i9_asm.specs.Source.{start_source, line_fault, fault_of, Assembles}
use Rattle.i9_asm.specs.Reading.{source_at}
use Rattle.i9_asm.proofs.TakenLines.{refused_at}
use Rattle.i9_asm.proofs.RelationLoop.{wrong, done}
use Rattle.i9_asm.proofs.ReadNames.{starts_at, all_told, known_here, stands_on}
use Rattle.i9_asm.proofs.assembling.segments_of.Goals as goal

pub loop-rest-init : goal.loop-rest-init
loop-rest-init c = record { stands = starts_at (definitions c.args.table.now) c.new-source.result c.args.text c.requires c.new-source.ensures; few = omega arith }

pub with_line-requires : goal.with_line-requires
with_line-requires c = grind arith

pub loop-rest-preserved : goal.loop-rest-preserved
loop-rest-preserved c =
    let l = c.loop-rest in
    let after = c.split_line.result.1 in
    let shorter = left_len-split l.rest c.in-Some.lines after c.in-Some.is c.split_line.ensures.shorter in
    record {
      stands = stands_on (definitions c.args.table.now) l.number l.source l.rest c.in-Some.lines c.split_line.result.0.now after (lines_of c.args.text.now) c.in-Some.is c.split_line.ensures.lines l.invariant.stands c.in-Ok.next c.in-Ok.ensures;
      few = omega (arith, shorter, l.invariant.few);
    }

pub returns-in-Err-clause-refused : goal.returns-in-Err-clause-refused
returns-in-Err-clause-refused c =
    let l = c.loop-rest in
    let all = definitions c.args.table.now in
    let names = values_of all in
    let source = lines_of c.args.text.now in
    let line = c.split_line.result.0.now in
    let h = l.invariant.stands in
    let known = values_before (2 * l.number) all in
    let is = known_here all l.number l.source l.rest c.in-Some.lines line c.split_line.result.1 source c.in-Some.is c.split_line.ensures.lines h in
    let answered = λ (k : ℕ) (e : fault_of names (source_at known l.source) line ≡ Some k). subst (λ (ns : Names). IsRefused (Assembles ns) (fault_of ns) (λ _. None) start_source source (l.number + 1, k)) (all_told all source c.requires)
    (wrong (Assembles names) (fault_of names) start_source l.number k (source_at h.place.known l.source) l.rest c.in-Some.lines line c.split_line.result.1 source c.in-Some.is c.split_line.ensures.lines h.so_far
    (subst (λ (x : Names). fault_of names (source_at x l.source) line ≡ Some k) is e)) in
    rw c.at.ensures (refused_at source c.in-Err.error (line_fault names (source_at known l.source) line) (l.number + 1) c.in-Err.ensures answered)

pub returns-in-Ok-finish-clause-found : goal.returns-in-Ok-finish-clause-found
returns-in-Ok-finish-clause-found c =
    let l = c.loop-rest in
    let all = definitions c.args.table.now in
    let names = values_of all in
    let source = lines_of c.args.text.now in
    let h = l.invariant.stands in
    let end = source_at h.place.known l.source in
    record {
      end = end;
      assembled = subst (λ (ns : Names). SaysAll (Assembles ns) start_source source end) (all_told all source c.requires)
          (done (Assembles names) (fault_of names) start_source l.number end l.rest source c.in_default.is h.so_far);
      kept = sym (c.in-Ok-finish.ensures h.place.known);
    }
