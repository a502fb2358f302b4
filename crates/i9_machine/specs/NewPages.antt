-- Which pages of memory, and of the marks of frames, are new in the processor of a machine.
use Rattle.std.specs.Prelude.{List, [], ◌∷◌}
use Rattle.i9_model.specs.Run.{Record, Next, Does, Ends, action_done}
use Rattle.i9_processor.specs.Pages.{AddsActionOnly, AddsNoPage}
use Rattle.i9_processor.specs.declared.processor.Processor.{Processor}

-- a page that is new is one of what comes next, and none is where that is an end
abbrev pub AddsNextOnly : Processor → Processor → Next → Type 0
AddsNextOnly old new (Does r) = AddsActionOnly old new (action_done r)
AddsNextOnly old new (Ends f) = AddsNoPage old new

-- the pages that are new came record by record, the newest first, each for what that record stores and saves alone
abbrev pub AddsRecordsOnly : Processor → Processor → List Record → Type 0
AddsRecordsOnly old new [] = AddsNoPage old new
AddsRecordsOnly old new (r ∷ rs) =
    (mid : Processor) × (AddsRecordsOnly old mid rs × AddsActionOnly mid new (action_done r))

-- records, and what comes next behind them
abbrev pub with_next : Next → List Record → List Record
with_next (Does r) rs = r ∷ rs
with_next (Ends f) rs = rs
