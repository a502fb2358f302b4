-- What an instruction needs by its name and its operands alone.
use Rattle.std.specs.Prelude.{◌≡◌, ℕ, ◌+◌, ◌*◌, ◌||◌, if◌then◌else◌}
use Rattle.i9_isa.specs.declared.inst.Inst.{Inst}
use Rattle.i9_isa.specs.Words.{words_of}
use Rattle.i9_isa.specs.Resources.{is_read, is_written}
use Rattle.i9_isa.specs.Costs.{issue_side, latency_of}
use Rattle.i9_model.specs.declared.need.Facts.{Facts}
use Rattle.i9_model.specs.Needs.{set_of, is_request_name, is_store_name, has_access, moves_frames, is_slow_name}
use Rattle.i9_model.specs.Needs.{is_barrier_name, writes_sfr}
use Rattle.i9_need.specs.declared.fixed.FixedNeed.{FixedNeed}
use Rattle.i9_need.specs.Known.{AreFacts}

-- by its name and its operands alone
abbrev pub fixed_need : Inst → FixedNeed
fixed_need i = record {
  side = issue_side i;
  reads = set_of (is_read i);
  writes = set_of (is_written i);
  request = is_request_name i.op;
  store = is_store_name i.op;
  slow = is_slow_name i.op;
  barrier = is_barrier_name i.op || writes_sfr i;
  access = has_access i.op;
  frames = moves_frames i.op;
  latency = latency_of i.op;
  length = 4 * words_of i;
}

-- the facts are those of an instruction that needs this
pub record AreFactsBy (k : FixedNeed) (f : Facts) : Type 0 where
  pub inst : Inst
  pub same : k ≡ fixed_need inst
  pub facts : AreFacts inst f

-- the turns of an instruction that does not fault but by its result: those of its name, its waits, and 16 for each
-- frame
abbrev pub calm_turns : FixedNeed → Facts → ℕ
calm_turns k f = k.latency + (if k.access then f.waits else 0) + 16 * (if k.frames then f.frames else 0)
