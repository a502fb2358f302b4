use Rattle.std.proofs.Common.{ℕ, Option, Some, Ok, sym, ap, ◌∙◌, subst}
use Rattle.arrayvec.specs.ArrayVec.{ArrayVec}
use Rattle.i9_model.specs.Before.{posting, moving_unit, received_by}
use Rattle.i9_model.specs.Dma.{unit}
use Rattle.i9_model.specs.Step.{going}
use Rattle.i9_dma.specs.Units.{given_in, bytes_in}
use Rattle.i9_processor.specs.Effect.{IsEffect}
use Rattle.i9_processor.specs.State.{state_of}
use Rattle.i9_plan.proofs.UnitPlans.{moves_unit, moves_none, meets_hazard}
use Rattle.i9_plan.proofs.dma.plan_unit.Goals as goal

pub returns-in-Ok-Some : goal.returns-in-Ok-Some
returns-in-Ok-Some c =
    let s = state_of c.args.p.now in
    let given = given_in c.args.given in
    let read = sym c.plan_unit.ensures ∙ ap bytes_in c.in-Ok-Some.is ∙ ap (λ (o : Option (ArrayVec ℕ)). bytes_in (Ok o)) c.in-Ok-Some.field-0-is in
    let moves = moves_unit s.memory s.frames s.dma c.args.c given c.in-Ok-Some.bytes.items read in
    (moving_unit s c.args.c (Some (unit s.memory s.dma c.args.c given)), ap (received_by s c.args.c) moves.next, c.moving.ensures given moves.bytes_are)

pub returns-in-Ok-None : goal.returns-in-Ok-None
returns-in-Ok-None c =
    let s = state_of c.args.p.now in
    let given = given_in c.args.given in
    let read = sym c.plan_unit.ensures ∙ ap bytes_in c.in-Ok-None.is ∙ ap (λ (o : Option (ArrayVec ℕ)). bytes_in (Ok o)) c.in-Ok-None.field-0-is in
    let stays = subst (λ (n : ℕ). IsEffect s (going s n) c.going.result) c.ip.ensures c.going.ensures.effect in
    (posting s s.interrupts, ap (received_by s c.args.c) (moves_none s.memory s.frames s.dma c.args.c given read), stays)

pub returns-in-Err : goal.returns-in-Err
returns-in-Err c =
    let s = state_of c.args.p.now in
    let given = given_in c.args.given in
    let read = sym c.plan_unit.ensures ∙ ap bytes_in c.in-Err.is in
    ap (received_by s c.args.c) (meets_hazard s.memory s.frames s.dma c.args.c given c.in-Err.a read)
