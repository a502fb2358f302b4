use Rattle.std.proofs.Common.{◌≤◌, ℕ, List, length, Ok, sym, ap, ◌∙◌, subst}
use Rattle.std.proofs.lemmas.Result.{IfOk-weaker}
use Rattle.i9_isa.specs.declared.inst.Inst.{Inst}
use Rattle.i9_tune.specs.Greedy.{AreTunable}
use Rattle.i9_tune.specs.Tuning.{fault_line}
use Rattle.i9_tool.specs.Outcome.{Only, no_block, tuned}
use Rattle.i9_tool.specs.Values.{IsMade}
use Rattle.i9_tool.proofs.tuned.tuned_of.Goals as goal

pub tuning-requires-clause-tunable : goal.tuning-requires-clause-tunable
tuning-requires-clause-tunable c = subst AreTunable (sym c.deref.ensures.value) c.in-Ok.ensures.tunable

pub tuning-requires-clause-few : goal.tuning-requires-clause-few
tuning-requires-clause-few c =
    subst (λ (n : ℕ). n ≤ 64) (sym (ap (λ (is : List Inst). length is) c.deref.ensures.value ∙ c.in-Ok.ensures.count)) c.requires.block.few

pub returns-in_ok-text-in-Ok : goal.returns-in_ok-text-in-Ok
returns-in_ok-text-in-Ok c = tuned _ _ (c.in-Ok.ensures.block ∙ ap (λ (is : List Inst). Ok is) (sym c.deref.ensures.value)) c.in_ok-text-in-Ok.ensures

pub returns-in-Err-Bad : goal.returns-in-Err-Bad
returns-in-Err-Bad c =
    let block = rw c.in-Err-Bad.field-0-is at c.in-Err-Bad.ensures.block in
    let made = rw c.in-Err-Bad.field-0-is at c.line_of.ensures in
    IfOk-weaker _ (IsMade (Only 3 (fault_line c.in-Err-Bad.fault))) _
    (λ m given. rw given.0 (rw given.1 (no_block c.in-Err-Bad.fault block))) made
