use Rattle.std.proofs.Common.{false, refl, ap, ◌∙◌}
use Rattle.i9_model.specs.Run.{next_by_standing}
use Rattle.i9_machine.specs.Contents.{situation, contents_of}
use Rattle.i9_machine.proofs.Arriving.{waits_arrive}
use Rattle.i9_machine.proofs.Opening.{instruction_waits}
use Rattle.i9_machine.proofs.Stepping.{goes_by_itself}
use Rattle.i9_machine.proofs.machine.Machine.look_open.Goals as goal

pub returns-then-not-is_free-clause-arrives : goal.returns-then-not-is_free-clause-arrives
returns-then-not-is_free-clause-arrives c =
    waits_arrive (contents_of c.args.self.now) c.args.plan.now c.args.until false c.requires.until c.requires.open
    c.requires.precise
    (c.if-not-is_free.ensures.waits c.args.plan.now refl)

pub returns-in-Waits-clause-arrives : goal.returns-in-Waits-clause-arrives
returns-in-Waits-clause-arrives c =
    let m = c.args.self.now in
    waits_arrive (contents_of m) c.args.plan.now c.args.until c.in-Waits.read c.requires.until c.requires.open
    c.requires.precise
    (instruction_waits (situation m) c.args.plan.now (c.if-not-is_free.ensures.free refl) c.in-Waits.ensures.stands.0)

pub returns-in-Waits-clause-ready : goal.returns-in-Waits-clause-ready
returns-in-Waits-clause-ready c = rw c.plan_instruction.ensures.like (
  c.requires.until,
  λ is. record { free = c.if-not-is_free.ensures.free refl; read = c.in-Waits.ensures.stands.1 is },
)

pub look_at-requires-clause-ready : goal.look_at-requires-clause-ready
look_at-requires-clause-ready c = λ t none issues.
    let at = situation c.args.self.now in
    let like = c.plan_instruction.ensures.like in
    let free = c.if-not-is_free.ensures.free refl in
    let planned = c.in-Runs.ensures.planned in
    rw like (record {
      ahead = record {
        free = free;
        none = rw like at none;
        is_next = goes_by_itself at free ∙ ap (next_by_standing at.state) c.in-Runs.ensures.stands.0;
        told = planned.0;
        kept = c.in-Runs.ensures.need;
        issues = rw like at issues;
      };
      effect = planned.1;
      row = planned.2;
    })

pub look_at-requires-in-Faults-clause-ready : goal.look_at-requires-in-Faults-clause-ready
look_at-requires-in-Faults-clause-ready c = λ t none issues.
    let at = situation c.args.self.now in
    let like = c.plan_instruction.ensures.like in
    let free = c.if-not-is_free.ensures.free refl in
    rw like (record {
      free = free;
      none = rw like at none;
      is_next = goes_by_itself at free ∙ ap (next_by_standing at.state) c.in-Faults.ensures.stands.0;
      told = c.in-Faults.ensures.planned.0;
      kept = c.in-Faults.ensures.need;
      issues = rw like at issues;
    })
