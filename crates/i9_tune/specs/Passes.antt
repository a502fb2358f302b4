-- Instructions that are done one after the other from a state, as if they had no addresses and no words.
use Rattle.std.specs.Prelude.{◌≡◌, ℕ, ◌+◌, ◌<◌, ◌&&◌, ◌||◌, Bool, false, Option, Some, None, List, [], ◌∷◌, ◌++◌}
use Rattle.std.specs.Prelude.{filter, slice_index}
use Rattle.std.specs.Option.{option_map}
use Rattle.i9_isa.specs.Words.{bit}
use Rattle.i9_model.specs.declared.setup.Breaks.{Breaks}
use Rattle.i9_model.specs.declared.trace.TheConstants.{DAB0_ENABLE_PLACE, DAB1_ENABLE_PLACE}
use Rattle.i9_model.specs.Tracing.{Instruction, has_mode, is_at_address, is_at_access}
use Rattle.i9_model.specs.Traced.{is_traced}
use Rattle.i9_isa.specs.declared.inst.Inst.{Inst}
use Rattle.i9_model.specs.Writes.{wrapped}
use Rattle.i9_model.specs.Memory.{in_port_page}
use Rattle.i9_model.specs.Frames.{in_bytes}
use Rattle.i9_model.specs.State.{State}
use Rattle.i9_model.specs.Step.{action_of, acted, counted}
use Rattle.i9_model.specs.Access.{access_of, data_of, hazard_of}
use Rattle.i9_model.specs.Standing.{raised_in, later_fault}
use Rattle.i9_model.specs.Stale.{misuses}
use Rattle.i9_model.specs.Run.{exit_in}

-- an access of memory has no byte of an area, which is an address and a number of bytes
abbrev pub MissesBytes : Option (ℕ × ℕ) → ℕ × ℕ → Type 0
MissesBytes None area = Unit {0}
MissesBytes (Some d) area = (k : ℕ) → k < d.1 → in_bytes area.0 area.1 (wrapped (d.0 + k)) ≡ false

-- a data breakpoint matches an access at this address
abbrev pub is_watched : Breaks → Option ℕ → Bool
is_watched b access =
    bit b.bpcon DAB0_ENABLE_PLACE && is_at_access (slice_index b.dab 0) access
    || bit b.bpcon DAB1_ENABLE_PLACE && is_at_access (slice_index b.dab 1) access

-- tracing sees each instruction, or a data breakpoint this one
abbrev pub is_seen : Inst → State → Bool
is_seen i s =
    is_traced s
    && (has_mode s.trace.tc Instruction || is_watched s.trace.breaks (option_map (λ d. d.0) (data_of (access_of i s))))

-- tracing stops at an address, for an instruction breakpoint
abbrev pub is_broken : State → ℕ → Bool
is_broken s a =
    is_traced s
    && (is_at_address (slice_index s.trace.breaks.ipb 0) a || is_at_address (slice_index s.trace.breaks.ipb 1) a)

-- The instruction is done in a state: it misuses no marked register, raises no fault, meets no hazard, brings no exit,
-- has no trace event but by its address, and its load or store has no byte of the area.
pub record Passes (area : ℕ × ℕ) (i : Inst) (s : State) : Type 0 where
  pub proper : misuses i s ≡ false
  pub raised : raised_in i s ≡ None
  pub later : later_fault i s ≡ None
  pub hazard : hazard_of i s ≡ None
  pub exit : exit_in s (action_of i s) ≡ None
  pub unseen : is_seen i s ≡ false
  pub misses : MissesBytes (data_of (access_of i s)) area

-- the state behind it, without trace events
abbrev pub stepped : Inst → State → State
stepped i s = counted 1 (acted s (action_of i s))

-- the bytes that it sends to the port page
abbrev pub port_bytes : Inst → State → List (ℕ × ℕ)
port_bytes i s = filter (λ p. in_port_page p.0) (action_of i s).writes

-- each is done in the state behind those before it
abbrev pub ArePassed : ℕ × ℕ → List Inst → State → Type 0
ArePassed area [] s = Unit {0}
ArePassed area (i ∷ is) s = Passes area i s × ArePassed area is (stepped i s)

-- the state behind all
abbrev pub behind : List Inst → State → State
behind [] s = s
behind (i ∷ is) s = behind is (stepped i s)

-- what all send to the port page
abbrev pub sent : List Inst → State → List (ℕ × ℕ)
sent [] s = []
sent (i ∷ is) s = port_bytes i s ++ sent is (stepped i s)

-- The second list is done where the first one is, with the same state behind it and the same bytes sent.
pub record AreAsGood (area : ℕ × ℕ) (is js : List Inst) (s : State) : Type 0 where
  pub passed : ArePassed area js s
  pub state : behind js s ≡ behind is s
  pub port : sent js s ≡ sent is s
