use Rattle.std.proofs.Common.{ap, ◌∙◌, arith}
use Rattle.std.proofs.lemmas.Result.{on_ok_weaker}
use Rattle.i9_statement.specs.Known.{known_in}
use Rattle.i9_asm.specs.Lines.{Empty, Org, Align, Set}
use Rattle.i9_asm.specs.Said.{item_as, bytes_of}
use Rattle.i9_asm.specs.Places.{space_of}
use Rattle.i9_asm.specs.Source.{gives_nothing, gives_move, gives_alignment, gives_assignment}
use Rattle.i9_asm.specs.Reading.{place_of}
use Rattle.i9_asm.proofs.FieldLoops.{fields_in}
use Rattle.i9_asm.proofs.GivenBytes.{code_adds, data_adds, string_adds, zeros_add, no_bytes}
use Rattle.i9_asm.proofs.places.Place.add_item.Goals as goal

pub returns-in-Instruction-clause-bytes : goal.returns-in-Instruction-clause-bytes
returns-in-Instruction-clause-bytes c = grind (arith, on_ok_weaker, code_adds)

pub returns-in-Data-clause-bytes : goal.returns-in-Data-clause-bytes
returns-in-Data-clause-bytes c = on_ok_weaker c.add_data.result
    (λ h sound. data_adds (known_in c.args.names) (place_of c.args.self.now) (bytes_of c.in-Data.width) (fields_in c.in-Data.text.now) c.args.bytes.now.items c.add_data.new.bytes.items (item_as c.args.said.now) (ap item_as c.in-Data.is) h)
    c.add_data.ensures.bytes

pub returns-in_ok-add_string-in-Ascii-clause-bytes : goal.returns-in_ok-add_string-in-Ascii-clause-bytes
returns-in_ok-add_string-in-Ascii-clause-bytes c =
    string_adds (known_in c.args.names) (place_of c.args.self.now) c.in-Ascii.text.now c.args.bytes.now.items c.add_string.new.bytes.items (item_as c.args.said.now) (ap item_as c.in-Ascii.is) c.in_ok-add_string-in-Ascii.ensures

pub returns-in_ok-add_zeros-in-Space-clause-bytes : goal.returns-in_ok-add_zeros-in-Space-clause-bytes
returns-in_ok-add_zeros-in-Space-clause-bytes c =
    λ sound. zeros_add (known_in c.args.names) (place_of c.args.self.now) c.in-Space.field.now c.space_of-read.result.value c.args.bytes.now.items c.add_zeros.new.bytes.items (item_as c.args.said.now) (ap item_as c.in-Space.is)
    (ap (λ n. n.value) (c.space_of-read.ensures ∙ ap space_of c.value_of.ensures)) c.in_ok-add_zeros-in-Space.ensures

pub returns-in-Set-clause-bytes : goal.returns-in-Set-clause-bytes
returns-in-Set-clause-bytes c =
    λ sound. no_bytes (known_in c.args.names) (place_of c.args.self.now) (item_as c.args.said.now) (Set c.in-Set.name.now c.in-Set.field.now) c.args.bytes.now.items (ap item_as c.in-Set.is) (gives_assignment c.in-Set.name.now c.in-Set.field.now)

pub returns-in-Org-clause-bytes : goal.returns-in-Org-clause-bytes
returns-in-Org-clause-bytes c =
    λ sound. no_bytes (known_in c.args.names) (place_of c.args.self.now) (item_as c.args.said.now) (Org c.in-Org.field.now) c.args.bytes.now.items (ap item_as c.in-Org.is) (gives_move c.in-Org.field.now)

pub returns-in-Align-clause-bytes : goal.returns-in-Align-clause-bytes
returns-in-Align-clause-bytes c =
    λ sound. no_bytes (known_in c.args.names) (place_of c.args.self.now) (item_as c.args.said.now) (Align c.in-Align.field.now) c.args.bytes.now.items (ap item_as c.in-Align.is) (gives_alignment c.in-Align.field.now)

pub returns-in-Empty-clause-bytes : goal.returns-in-Empty-clause-bytes
returns-in-Empty-clause-bytes c =
    λ sound. no_bytes (known_in c.args.names) (place_of c.args.self.now) (item_as c.args.said.now) Empty c.args.bytes.now.items (ap item_as c.in-Empty.is) gives_nothing
