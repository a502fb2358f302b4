use Rattle.std.proofs.Common.{refl, sym, ap, ◌∙◌}
use Rattle.i9_statement.specs.Known.{known_in}
use Rattle.i9_statement.specs.Noted.{least}
use Rattle.i9_statement.specs.Fields.{fields_left}
use Rattle.i9_asm.specs.Said.{bytes_of}
use Rattle.i9_asm.specs.Source.{data_fault}
use Rattle.i9_asm.proofs.FieldLoops.{split_fields, bytes-on, data_fault-on}
use Rattle.i9_asm.proofs.data.add_data.Goals as goal

pub loop-rest-preserved : goal.loop-rest-preserved
loop-rest-preserved c =
    let l = c.loop-rest in
    let width = bytes_of c.args.width in
    let names = known_in c.args.names in
    let f = c.split_field.result.0.now in
    let fs = fields_left c.split_field.result.1 in
    let split = split_fields l.rest c.in-Some.fields f c.split_field.result.1 c.in-Some.is c.split_field.ensures.fields in
    record {
      fault = rw (c.least-fault.ensures, c.data_value-read.ensures, c.value_of.ensures) (data_fault-on width names l.fault f fs ∙ ap (λ gs. least l.fault (data_fault width names gs)) (sym split) ∙ l.invariant.fault);
      bytes = bytes-on width names l.bytes.items c.extend_from_slice.new.self.items _ _ f fs (fields_left l.rest) split c.in_ok-extend_from_slice.ensures.items
          (rw (c.bytes.ensures, c.to_le_bytes.ensures, c.data_value-read.ensures, c.value_of.ensures) refl) l.invariant.bytes;
    }
