use Rattle.std.proofs.Common.{ℕ, ◌+◌, ◌≤◌, sym, ◌∷◌, refl, ap, ◌∙◌, subst}
use Rattle.i9_model.specs.declared.need.Need.{Need}
use Rattle.i9_model.specs.Turns.{StandsFor, IsAllDone, with_need, placed_record}
use Rattle.i9_model.specs.Late.{resource}
use Rattle.i9_regs.specs.File.{issued_over}
use Rattle.i9_processor.specs.State.{state_of, cells_of}
use Rattle.i9_pipeline.specs.Issuing.{most_turns}
use Rattle.i9_pipeline.specs.Raw.{shades_need}
use Rattle.i9_pipeline.proofs.pipeline.Pipeline.issue.Goals as goal

pub returns-clause-issued : goal.returns-clause-issued
returns-clause-issued c = λ need fenced.
    let p = c.args.self.now in
    let place = c.place_at-placed in
    let acts = c.apply.ensures in
    let hidden = c.hide_under.ensures in
    let request = ap (λ (n : Need). n.request) fenced in
    record {
      placed = place.result;
      board = λ rs stands. subst (λ (n : Need). StandsFor place.new.self (placed_record n place.result ∷ rs)) fenced
          (place.ensures.of_all rs stands);
      timed = λ rs stands. subst (λ (n : Need). StandsFor place.new.self (with_need rs n)) fenced
          (place.ensures.computed rs stands).0;
      bound = λ b done waited.
          subst (λ (n : ℕ). IsAllDone place.new.self (b + n)) (ap (λ (n : Need). n.cost) fenced)
          (place.ensures.bound b done (subst (λ (n : Need). n.not_before ≤ b) (sym fenced) waited));
      cost = subst (λ (n : Need). n.cost ≤ most_turns) fenced c.requires.turns;
      keeps = refl;
      hides = record {
        bytes = λ is. hidden.bytes (ap shades_need fenced ∙ is);
        due = λ is. hidden.due (ap shades_need fenced ∙ is);
        keeps = λ beside. hidden.keeps (ap shades_need fenced ∙ beside);
      };
      acts = record {
        cells = λ r lt. acts.cells r lt ∙ λ i. issued_over (fenced i).writes place.result.done r
            (resource (state_of c.apply.new.self) r) (cells_of p.processor r);
        waits = λ is. acts.waits (request ∙ is);
        acts = λ is. acts.acts (request ∙ is);
        still = λ is. acts.still (request ∙ is);
      };
    }

pub apply-requires-clause-acts : goal.apply-requires-clause-acts
apply-requires-clause-acts c =
    let place = c.place_at-placed in
    c.requires.acts place.result place.new.self place.ensures.of_all
