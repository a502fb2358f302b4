use Rattle.std.proofs.Common.{map, ap, arith}
use Rattle.std.proofs.lemmas.List.{take_rest}
use Rattle.i9_text.proofs.Cuts.{slice_split-found, slice_split-missing}
use Rattle.i9_statement.specs.Fields.{is_comma, field_of}
use Rattle.i9_statement.proofs.fields.split_field.Goals as goal

pub returns-in-Some-clause-fields : goal.returns-in-Some-clause-fields
returns-in-Some-clause-fields c = grind (arith, take_rest, slice_split-found)

pub returns-in-None-clause-fields : goal.returns-in-None-clause-fields
returns-in-None-clause-fields c = rw c.field_of-in-None.ensures (ap (map field_of) (slice_split-missing is_comma c.args.text.now c.in-None.ensures.place))
