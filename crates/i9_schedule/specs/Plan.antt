-- What contracts see of a schedule.
use Rattle.std.specs.Prelude.{ℕ, List}
use Rattle.i9_model.specs.declared.event.Timed.{Timed}
use Rattle.i9_model.specs.ScheduleText.{Contents}

pub record Plan : Type 0 where
  pub version : ℕ
  pub events : List Timed
  pub place : ℕ

-- its version and its events, wherever its place is
abbrev pub contents : Plan → Contents
contents p = record { version = p.version; events = p.events }
