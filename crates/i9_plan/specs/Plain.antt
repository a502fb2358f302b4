-- The facts of a plain instruction.
use Rattle.std.specs.Prelude.{ℕ, false, None}
use Rattle.i9_model.specs.declared.need.Facts.{Facts}

-- what is known of one without a data access that meets no hazard, moves no frame, raises no fault, and does not stand
-- alone
abbrev pub plain_facts : ℕ → Facts
plain_facts ip = record {
  ip = ip;
  access = None;
  port = false;
  waits = 0;
  frames = 0;
  fault = false;
  trace = false;
  hazard = false;
  alone = false;
}
