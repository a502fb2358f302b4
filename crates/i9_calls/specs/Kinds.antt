-- Return types that go by whether stacks are switched.
use Rattle.std.specs.Prelude.{ℕ, Bool, if◌then◌else◌}

-- one where stacks are switched, and another on the stack in use
abbrev pub kind_by : ℕ → ℕ → Bool → ℕ
kind_by here switched is_switched = if is_switched then switched else here
