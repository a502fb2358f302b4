-- The cells of a register file.
use Rattle.std.specs.Prelude.{ℕ, ◌+◌, ◌-◌, Bool, ◌&&◌, ◌==◌, nat_le, nat_lt, if◌then◌else◌, List, Some}
use Rattle.std.specs.Prelude.{slice_index}
use Rattle.std.specs.Int.{bit_at}
use Rattle.i9_isa.specs.declared.resources.TheConstants.{CONDITION_CODE}
use Rattle.i9_model.specs.declared.need.Cell.{Cell}
use Rattle.i9_model.specs.Writes.{written, pairs_at}
use Rattle.i9_model.specs.State.{frame_sets}
use Rattle.i9_model.specs.Late.{cell, latest}
use Rattle.i9_regs.specs.declared.file.File.{File}

-- the cell of a resource: the value that it had, and the latest one, which takes its place at a turn; what shows at a
-- turn is the cell landed by then
abbrev pub cell_in : File → ℕ → Cell
cell_in f r = cell (slice_index f.before r) (Some (slice_index f.latest r, slice_index f.due r))

-- a cell that shows one value at every turn
abbrev pub still : ℕ → Cell
still v = cell v (Some (v, 0))

-- ---- a record that is issued

-- one of so many resources from a register up
abbrev pub in_group : ℕ → ℕ → ℕ → Bool
in_group register n r = nat_le register r && nat_lt r (register + n)

-- a cell after a value is planned for it: until then it has the latest value
abbrev pub with_plan : ℕ → ℕ → Cell → Cell
with_plan v done c = cell (latest c) (Some (v, done))

-- a cell after a record of these writes was issued, which leaves this value and is done at a turn
abbrev pub issued_over : ℕ → ℕ → ℕ → ℕ → Cell → Cell
issued_over writes done r v c = if bit_at writes r == 1 then with_plan v done c else c

-- a cell after the first n of these values are planned from a register up
abbrev pub planned_cell : ℕ → ℕ → List ℕ → ℕ → ℕ → Cell → Cell
planned_cell register n values done r c =
    if in_group register n r then with_plan (slice_index values (r - register)) done c else c

-- a bit of a set without those
abbrev pub rest_bit : ℕ → ℕ → ℕ → ℕ → ℕ
rest_bit register n writes r = if in_group register n r then 0 else bit_at writes r

-- the latest value of a resource
abbrev pub latest_of : File → ℕ → ℕ
latest_of f r = latest (cell_in f r)

-- the value that a record leaves: these values from a register up and this condition code are new
abbrev pub issued_value : File → ℕ → List ℕ → ℕ → ℕ → ℕ
issued_value f register values code r =
    if r == CONDITION_CODE then code else written (latest_of f) (pairs_at (λ k. k) register values) r

-- and one that enters a frame: its locals, its frame pointer and this condition code are new
abbrev pub framed_value : File → List ℕ → ℕ → ℕ → ℕ → ℕ
framed_value f locals frame code r =
    if r == CONDITION_CODE then code else written (latest_of f) (frame_sets locals frame) r
