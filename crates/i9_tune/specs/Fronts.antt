-- What the instructions that stand before another one read and write, taken together.
use Rattle.std.specs.Prelude.{◌≡◌, ◌==◌, ◌&&◌, ◌||◌, not, bit_and, bit_or, Bool, List}
use Rattle.std.specs.List.{list_any}
use Rattle.i9_isa.specs.declared.inst.Inst.{Inst}
use Rattle.i9_model.specs.declared.need.Need.{Need}
use Rattle.i9_tune.specs.declared.front.Front.{Front}
use Rattle.i9_tune.specs.Greedy.{plain_need, depends}

-- what needs this has to stay behind the front
abbrev pub binds : Front → Need → Bool
binds f n =
    not (bit_and f.written (bit_or n.reads n.writes) == 0) || not (bit_and n.writes f.touched == 0)
    || (f.request && n.request)

-- it binds exactly what depends on one of these instructions
abbrev pub IsFront : List Inst → Front → Type 0
IsFront before f = (i : Inst) → binds f (plain_need i) ≡ list_any (λ e. depends e i) before
