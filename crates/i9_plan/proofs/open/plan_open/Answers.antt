use Rattle.std.proofs.Common.{◌≡◌, false, rules, sym, ap, ◌∙◌}
use Rattle.std.specs.Prelude.{◌==◌}
use Rattle.std.proofs.lemmas.Bool.{false≢true}
use Rattle.i9_model.specs.declared.faults.TheConstants.{ARITHMETIC}
use Rattle.i9_need.specs.Fixed.{fixed_need}
use Rattle.i9_processor.specs.State.{state_of}
use Rattle.i9_plan.specs.declared.kept.Kept.{Kept}
use Rattle.i9_plan.specs.declared.outcome.Outcome.TheVariants as outcomes
use Rattle.i9_plan.specs.Kept.{inst_in}
use Rattle.i9_plan.proofs.Opened.{unread_waits, barrier_waits, still_read, outcome_stands, outcome_waits, no_barrier, runs_needs, faults_needs}
use Rattle.i9_plan.proofs.open.plan_open.Goals as goal

pub returns-in-Err-clause-stands : goal.returns-in-Err-clause-stands
returns-in-Err-clause-stands c =
    (unread_waits (state_of c.args.p.now) c.in-Err.field-0 c.in-Err.ensures.fetched, λ is. absurd (false≢true is))

pub returns-then-stands_apart-clause-stands : goal.returns-then-stands_apart-clause-stands
returns-then-stands_apart-clause-stands c =
    let m = c.fetch.new.decodes in
    let apart = sym (c.stands_apart.ensures (inst_in m) c.need.ensures.need) ∙ c.if-stands_apart.true in
    (barrier_waits (state_of c.args.p.now) m c.in_default.ensures.fetched apart, λ is. c.in_default.ensures.fetched)

pub returns-in-Runs : goal.returns-in-Runs
returns-in-Runs c =
    let s = state_of c.args.p.now in
    let m = c.locate-moving.new.self in
    let read = still_read s c.fetch.new.decodes m c.locate-moving.ensures.same c.in_default.ensures.fetched in
    let same = c.need.ensures.need ∙ sym (ap (λ (k : Kept). fixed_need k.inst) c.locate-moving.ensures.same) in
    let apart = no_barrier (inst_in m) (sym (c.stands_apart.ensures (inst_in m) same) ∙ c.if-stands_apart.false) in
    let runs = outcome_stands s m c.inst-inst.result.now outcomes.Runs read c.inst-inst.ensures c.in-Runs.ensures.standing in
    record {
      stands = (runs, apart);
      needs = runs_needs (inst_in m) s runs apart;
      planned = search rules;
      located = search rules;
    }

pub returns-else-number-ne-ARITHMETIC : goal.returns-else-number-ne-ARITHMETIC
returns-else-number-ne-ARITHMETIC c =
    let s = state_of c.args.p.now in
    let m = c.locate-moving.new.self in
    let read = still_read s c.fetch.new.decodes m c.locate-moving.ensures.same c.in_default.ensures.fetched in
    let same = c.need.ensures.need ∙ sym (ap (λ (k : Kept). fixed_need k.inst) c.locate-moving.ensures.same) in
    let apart = no_barrier (inst_in m) (sym (c.stands_apart.ensures (inst_in m) same) ∙ c.if-stands_apart.false) in
    let o = outcomes.Faults c.in-Faults.number in
    let arithmetic : c.in-Faults.number.0 ≡ ARITHMETIC = search rules in
    let faults = outcome_stands s m c.inst-inst.result.now o read c.inst-inst.ensures c.in-Faults.ensures.standing in
    record {
      stands = (faults, arithmetic, apart);
      needs = faults_needs (inst_in m) s c.in-Faults.number faults arithmetic;
      planned = search rules;
      located = search rules;
    }

pub returns-then-number-ne-ARITHMETIC-clause-stands : goal.returns-then-number-ne-ARITHMETIC-clause-stands
returns-then-number-ne-ARITHMETIC-clause-stands c =
    let s = state_of c.args.p.now in
    let m = c.locate-moving.new.self in
    let read = still_read s c.fetch.new.decodes m c.locate-moving.ensures.same c.in_default.ensures.fetched in
    let early : (c.in-Faults.number.0 == ARITHMETIC) ≡ false = search rules in
    let o = outcomes.Faults c.in-Faults.number in
    (outcome_waits s m c.inst-inst.result.now o read c.inst-inst.ensures c.in-Faults.ensures.standing early, λ is. absurd (false≢true is))

pub returns-in-Meets-clause-stands : goal.returns-in-Meets-clause-stands
returns-in-Meets-clause-stands c =
    let s = state_of c.args.p.now in
    let m = c.locate-moving.new.self in
    let read = still_read s c.fetch.new.decodes m c.locate-moving.ensures.same c.in_default.ensures.fetched in
    let o = outcomes.Meets c.in-Meets.field-0 in
    (outcome_waits s m c.inst-inst.result.now o read c.inst-inst.ensures c.in-Meets.ensures.standing tt, λ is. absurd (false≢true is))
