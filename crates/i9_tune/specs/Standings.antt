-- Instructions whose words stand in memory one behind the other, and which are fetched and done there.
use Rattle.std.specs.Prelude.{◌≡◌, ℕ, ◌+◌, ◌*◌, ◌^◌, ◌<◌, true, false, None, Ok, List, [], ◌∷◌, ◌++◌, filter}
use Rattle.i9_isa.specs.declared.inst.Inst.{Inst}
use Rattle.i9_isa.specs.Words.{words_of, decoded}
use Rattle.i9_model.specs.Writes.{wrapped}
use Rattle.i9_model.specs.Memory.{Memory, word_in, in_port_page}
use Rattle.i9_model.specs.Frames.{in_bytes}
use Rattle.i9_model.specs.State.{State}
use Rattle.i9_model.specs.Access.{access_of, data_of}
use Rattle.i9_model.specs.Standing.{Runs, stands_at}
use Rattle.i9_model.specs.Traced.{traced_action}
use Rattle.i9_model.specs.Alike.{with_memory}
use Rattle.i9_model.specs.Run.{Instruction, after_kind, exit_in}
use Rattle.i9_tune.specs.Passes.{MissesBytes, is_broken}

-- how many bytes their words have
abbrev pub byte_length : List Inst → ℕ
byte_length [] = 0
byte_length (i ∷ is) = 4 * words_of i + byte_length is

-- their words stand in memory from an address on
abbrev pub StandAt : Memory → ℕ → List Inst → Type 0
StandAt m a [] = Unit {0}
StandAt m a (i ∷ is) =
    (decoded (word_in m a) (word_in m (wrapped (a + 4))) ≡ Ok i) × StandAt m (wrapped (a + 4 * words_of i)) is

-- these are words of instructions, one behind the other
pub data AreWords : List Inst → List ℕ → Type 0 where
  none : AreWords [] []
  short : {i : Inst} {is : List Inst} {w : ℕ} {ws : List ℕ} → words_of i ≡ 1 → decoded w 0 ≡ Ok i → AreWords is ws
      → AreWords (i ∷ is) (w ∷ ws)
  long : {i : Inst} {is : List Inst} {w v : ℕ} {ws : List ℕ} → words_of i ≡ 2 → decoded w v ≡ Ok i → AreWords is ws
      → AreWords (i ∷ is) (w ∷ v ∷ ws)

-- words are in memory from an address on
abbrev pub HoldsWords : Memory → ℕ → List ℕ → Type 0
HoldsWords m a [] = Unit {0}
HoldsWords m a (w ∷ ws) = (word_in m a ≡ w) × HoldsWords m (wrapped (a + 4)) ws

-- The instruction stands at the instruction address of a state and is done, without hazard, fault, exit or trace event,
-- and its load or store has no byte of the area.
pub record IsDone (area : ℕ × ℕ) (i : Inst) (s : State) : Type 0 where
  pub stands : stands_at s ≡ Runs i
  pub untraced : (traced_action i s).trace ≡ None
  pub exit : exit_in s (traced_action i s) ≡ None
  pub misses : MissesBytes (data_of (access_of i s)) area

-- each is done in the state behind those before it
abbrev pub AreDone : ℕ × ℕ → List Inst → State → Type 0
AreDone area [] s = Unit {0}
AreDone area (i ∷ is) s = IsDone area i s × AreDone area is (after_kind (Instruction i) s)

-- the state behind all
abbrev pub after_all : List Inst → State → State
after_all [] s = s
after_all (i ∷ is) s = after_all is (after_kind (Instruction i) s)

-- what all send to the port page
abbrev pub port_bytes_of : List Inst → State → List (ℕ × ℕ)
port_bytes_of [] s = []
port_bytes_of (i ∷ is) s =
    filter (λ p. in_port_page p.0) (traced_action i s).writes ++ port_bytes_of is (after_kind (Instruction i) s)

-- the second state is the first one, but for bytes of the area
pub record DiffersIn (area : ℕ × ℕ) (s t : State) : Type 0 where
  pub rest : t ≡ with_memory s t.memory.bytes
  pub bytes : (x : ℕ) → in_bytes area.0 area.1 x ≡ false → t.memory.bytes x ≡ s.memory.bytes x

-- A block stands at the instruction address of the first state and is done there, with no load or store that has a byte
-- of it; the second state is the same, but that an order of the block stands there. Where tracing is on, no instruction
-- breakpoint is at a byte of the block: it might be at the address of an instruction of the order alone.
pub record Replaces (block order : List Inst) (s t : State) : Type 0 where
  pub address : s.ip < 2 ^ 32
  pub unbroken : (k : ℕ) → k < byte_length block → is_broken s (wrapped (s.ip + k)) ≡ false
  pub done : AreDone (s.ip, byte_length block) block s
  pub differs : DiffersIn (s.ip, byte_length block) s t
  pub stands : StandAt t.memory t.ip order

-- The instructions are done in the second state as the others are in the first one: the state behind them differs in
-- the area alone, where it has the bytes that it had, and they send the same to the port page.
pub record DoTheSame (area : ℕ × ℕ) (is js : List Inst) (s t : State) : Type 0 where
  pub done : AreDone area js t
  pub state : DiffersIn area (after_all is s) (after_all js t)
  pub kept : (x : ℕ) → in_bytes area.0 area.1 x ≡ true → (after_all js t).memory.bytes x ≡ t.memory.bytes x
  pub port : port_bytes_of js t ≡ port_bytes_of is s
