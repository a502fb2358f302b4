-- Overlaid memory: the bytes that are compared, with the words of live frames.
use Rattle.std.specs.Prelude.{ℕ, ◌&&◌, not, if◌then◌else◌, Option, Some, None}
use Rattle.i9_model.specs.Memory.{in_port_page}
use Rattle.i9_model.specs.State.{State}
use Rattle.i9_model.specs.Frames.{is_kept}

-- A byte of a state: 0 in the port page; not compared where it is soft and in no word of a live frame that is not
-- marked; else the byte of memory, where the words of live frames are.
unfoldable pub overlay : State → ℕ → Option ℕ
overlay s a =
    if in_port_page a then Some 0
    else if s.frames.soft a && not (is_kept s.frames a) then None
    else Some (s.memory.bytes a)
