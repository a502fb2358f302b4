-- What is known of a procedure's entry before its push tells what the entry meets.
use Rattle.std.proofs.Common.{◌≡◌, ℕ, Bool, Option, None, Some, Ok, Err, ap}
use Rattle.i9_model.specs.Memory.{Memory, word_in}
use Rattle.i9_model.specs.State.{Frames}
use Rattle.i9_model.specs.Hazards.{or_else, unless, read_hazard}
use Rattle.i9_model.specs.Calls.{entry_address, is_switch, stack_hazard, system_hazard_by}
use Rattle.i9_model.proofs.CallLaws.{unless_ok}
use Rattle.i9_calls.specs.Switches.{system_switch}

by_stop : (entry stack area : Option ℕ) (b : Bool) (a : ℕ) → unless (or_else entry (or_else stack None)) b ≡ Err a → or_else entry (or_else stack area) ≡ Some a
by_stop (Some x) stack area b a e = cc
by_stop None (Some x) area b a e = cc
by_stop None None area b a e = absurd cc

by_push : (entry stack : Option ℕ) (area : Bool → Option ℕ) (b c : Bool) → unless (or_else entry (or_else stack None)) b ≡ Ok c → or_else entry (or_else stack (area b)) ≡ area c
by_push (Some x) stack area b c e = absurd cc
by_push None (Some x) area b c e = absurd cc
by_push None None area b c e = ap area (unless_ok None b c e).1

-- a word that is not known stops the entry, whatever is checked of its push
pub system-stops : (m : Memory) (f : Frames) (table n pc : ℕ) (area : Bool → Option ℕ) (a : ℕ) → system_switch m f table n pc ≡ Err a → system_hazard_by m f table n pc area ≡ Some a
system-stops m f table n pc area a e =
    let at = entry_address table n in
    let switched = is_switch (word_in m at) pc in
    by_stop (read_hazard f at 4) (stack_hazard f table switched) (area switched) switched a e

-- and else the push alone can
pub system-goes_on : (m : Memory) (f : Frames) (table n pc : ℕ) (area : Bool → Option ℕ) (b : Bool) → system_switch m f table n pc ≡ Ok b → system_hazard_by m f table n pc area ≡ area b
system-goes_on m f table n pc area b e =
    let at = entry_address table n in
    let switched = is_switch (word_in m at) pc in
    by_push (read_hazard f at 4) (stack_hazard f table switched) area switched b e
