-- What an allowed instruction does to registers, controls, memory and marks, and of what it depends.
use Rattle.std.specs.Prelude.{◌≡◌, ℕ, ◌+◌, ◌<◌, Bool, true, false, List, []}
use Rattle.std.specs.Int.{bit_at}
use Rattle.i9_isa.specs.declared.inst.Inst.{Inst}
use Rattle.i9_isa.specs.declared.resources.TheConstants.{CONDITION_CODE}
use Rattle.i9_isa.specs.Resources.{writes_code}
use Rattle.i9_isa.specs.Words.{bit}
use Rattle.i9_model.specs.Writes.{wrapped}
use Rattle.i9_model.specs.Memory.{Memory}
use Rattle.i9_model.specs.State.{State}
use Rattle.i9_model.specs.Needs.{is_request_name}
use Rattle.i9_model.specs.Late.{resource, resources}
use Rattle.i9_model.specs.Access.{Reads, access_of}
use Rattle.i9_model.specs.Standing.{later_fault}
use Rattle.i9_model.specs.Stale.{legible, misuses}
use Rattle.i9_model.specs.Step.{Action, passing, action_of}
use Rattle.i9_tune.specs.Inputs.{Change, changed, is_code}

-- two memories have the same bytes from an address on, so many
abbrev pub AreSameBytes : Memory → Memory → ℕ → ℕ → Type 0
AreSameBytes m n a count = (k : ℕ) → k < count → m.bytes (wrapped (a + k)) ≡ n.bytes (wrapped (a + k))

-- the same of them are soft
abbrev pub AreSameSoft : (ℕ → Bool) → (ℕ → Bool) → ℕ → ℕ → Type 0
AreSameSoft f g a count = (k : ℕ) → k < count → f (wrapped (a + k)) ≡ g (wrapped (a + k))

-- What the instruction sees beside registers with their marks and the condition code, the second state has as the first
-- one: bit 12 of the arithmetic controls, the orders of bytes, and the bytes that it loads, as a load finds them, of
-- which the same are soft.
pub record AgreeBeside (i : Inst) (s t : State) : Type 0 where
  pub mask : bit s.ac 12 ≡ bit t.ac 12
  pub orders : s.memory.mcon ≡ t.memory.mcon
  pub bytes : (a n : ℕ) → access_of i s ≡ Reads a n → AreSameBytes (legible s) (legible t) a n
  pub soft : (a n : ℕ) → access_of i s ≡ Reads a n → AreSameSoft s.frames.soft t.frames.soft a n

-- two states have the same in the resources of a set, and the same of its registers are marked
pub record AreSameIn (set : ℕ) (s t : State) : Type 0 where
  pub values : (r : ℕ) → r < resources → bit_at set r ≡ 1 → resource s r ≡ resource t r
  pub marks : (r : ℕ) → r < CONDITION_CODE → bit_at set r ≡ 1 → s.marks r ≡ t.marks r

-- the registers that are set, what is made of the arithmetic controls, the bytes that are written, the registers that
-- get marks, and the bytes that get soft
pub record Deed : Type 0 where
  pub sets : List (ℕ × ℕ)
  pub change : Change
  pub writes : List (ℕ × ℕ)
  pub marked : List ℕ
  pub stale : List ℕ

-- a deed as an action: all else stays, and control goes behind the instruction
abbrev pub deed_action : Inst → State → Deed → Action
deed_action i s d = record (passing i s) {
  sets = d.sets;
  ac = changed d.change s.ac;
  writes = d.writes;
  marked = d.marked;
  stale = d.stale;
}

-- The instruction does the same deed in both states, which writes to memory and makes bytes soft only where it is a
-- store; and it has the same access, the same fault of its result, and the same misuse of marked registers.
pub record DoesSame (i : Inst) (s t : State) : Type 0 where
  pub deed : Deed
  pub here : action_of i s ≡ deed_action i s deed
  pub there : action_of i t ≡ deed_action i t deed
  pub coded : is_code deed.change ≡ true → writes_code i.op ≡ true
  pub quiet : is_request_name i.op ≡ false → deed.writes ≡ []
  pub clean : is_request_name i.op ≡ false → deed.stale ≡ []
  pub access : access_of i s ≡ access_of i t
  pub fault : later_fault i s ≡ later_fault i t
  pub misuse : misuses i s ≡ misuses i t
