-- A run whose results land late: what is done, as far as no fault is imprecise, and how it ends.
use Rattle.std.specs.Prelude.{◌≡◌, ℕ, Bool, true, false, Option, Some, None, List, [], ◌∷◌}
use Rattle.std.specs.List.{AllByRecursion}
use Rattle.i9_model.specs.declared.run.End.{End}
use Rattle.i9_model.specs.declared.run.End.TheVariants.{Imprecise}
use Rattle.i9_model.specs.Run.{Given, Record, Next, Does, Ends, Finish, finish}
use Rattle.i9_course.specs.Course.{Item, Step, late_fault, ahead, IsCourse}

-- the records as items, with no fence between them
abbrev pub steps : List Record → List Item
steps [] = []
steps (r ∷ rs) = Step r ∷ steps rs

-- these are the first records of such a run: no fault before the last record is imprecise
abbrev pub IsPipelinedPast : Given → List Record → Type 0
IsPipelinedPast g rs = IsCourse g (steps rs)

-- the end that comes next, where one does
abbrev pub ended_by : Next → Option Finish
ended_by (Does r) = None
ended_by (Ends e) = Some e

-- an imprecise fault comes before what comes next
abbrev pub finish_by : Option ℕ → Next → Option Finish
finish_by (Some a) o = Some (finish (Imprecise a))
finish_by None o = ended_by o

-- the end that lies ahead after these items, where one does
abbrev pub end_ahead : Given → List Item → Option Finish
end_ahead g h = finish_by (ahead g h).imprecise (ahead g h).next

-- the end after these records, where one comes
abbrev pub finish_after : Given → List Record → Option Finish
finish_after g rs = end_ahead g (steps rs)

-- these are the records of such a run, and this is its end
pub record IsPipelinedRun (g : Given) (rs : List Record) (f : Finish) : Type 0 where
  pub past : IsPipelinedPast g rs
  pub ends : finish_after g rs ≡ Some f

-- an imprecise fault ends the run
abbrev pub is_imprecise : End → Bool
is_imprecise (Imprecise a) = true
is_imprecise _ = false

-- no instruction among these raised an arithmetic fault
abbrev pub HaveNoLateFault : List Record → Type 0
HaveNoLateFault rs = AllByRecursion (λ r. late_fault r.kind ≡ None) rs
