use Rattle.std.proofs.Common.{refl, sym, ap, ◌∙◌, subst}
use Rattle.i9_isa.specs.declared.inst.Inst.{Inst}
use Rattle.i9_isa.specs.Words.{words_of}
use Rattle.i9_plan.specs.declared.fetched.Words.{Words}
use Rattle.i9_plan.specs.Kept.{inst_in}
use Rattle.i9_plan.specs.Planned.{TellsWords}
use Rattle.i9_model.specs.declared.need.Need.{Need}
use Rattle.i9_model.specs.Run.{Instruction, action_due, point_by_name}
use Rattle.i9_processor.specs.State.{state_of, cache_of, size_of}
use Rattle.i9_machine.proofs.Opening.{request_named}
use Rattle.i9_machine.proofs.machine.Machine.does.Goals as goal

pub returns : goal.returns
returns c = λ need stands plan is_next is_need cost.
    let m = c.args.self.now in
    let r = c.requires in
    let inst = inst_in m.decodes in
    record {
      kind = Instruction inst;
      is_next = is_next;
      effect = r.effect;
      point = c.point_by_name.ensures ∙ ap (λ (i : Inst). point_by_name i.op) c.inst.ensures;
      counts = refl;
      due = c.due_by.ensures ∙ ap (action_due (state_of m.pipeline.processor)) r.effect.same;
      reaches = refl;
      event = refl;
      tells = c.issued.ensures _
          (subst (λ (w : Words). TellsWords (words_of inst) (state_of m.pipeline.processor) w) (sym c.words.ensures)
          r.words);
      is_need = is_need;
      cost = cost;
      row = λ request. r.row
          (request_named inst (size_of m.pipeline.processor) (cache_of m.pipeline.processor)
          (state_of m.pipeline.processor)
          (sym (ap (λ (n : Need). n.request) is_need) ∙ request));
    }
