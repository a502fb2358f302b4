use Rattle.std.proofs.Common.{◌≡◌, ℕ, sym, ap, ◌∙◌}
use Rattle.i9_regs.specs.declared.file.File.{File}
use Rattle.i9_regs.specs.File.{cell_in, latest_of, with_plan}
use Rattle.i9_regs.proofs.Issued.{issued_one, issued_none, set_bit, clear_bit, below_more, above_more}
use Rattle.i9_regs.proofs.file.File.plan_each.Goals as goal
use Rattle.i9_regs.proofs.file.File.plan_each.Goals.{then-left-r-eq1, else-left-r-eq1}

pub loop-r-preserved : goal.loop-r-preserved
loop-r-preserved c =
    let a = c.args in
    let r = c.loop-r.r in
    let olds = a.self.now in
    let ones = c.loop-r.self in
    let news = c.if-left-r-eq1.self in
    let are = c.loop-r.invariant in
    elim c.if-left-r-eq1.branch [
      | then-left-r-eq1 w ↦
          let one = set_bit a.left r w.if-left-r-eq1.true in
          let here = ap (λ (f : File). cell_in f r) w.self-is
          ∙ w.plan.ensures.cell
          ∙ ap (λ (v : ℕ). with_plan v a.done (cell_in ones r)) w.latest.ensures
          ∙ sym (issued_one a.left a.done r (latest_of ones r) (cell_in ones r) one) in
          let others : (k : ℕ) → (k ≡ r → ⊥) → cell_in news k ≡ cell_in ones k =
          λ k apart. ap (λ (f : File). cell_in f k) w.self-is ∙ w.plan.ensures.others k apart in
          record {
            below = below_more olds ones news a.left a.done r are.below are.above here others;
            above = above_more olds ones news a.left a.done r are.below are.above here others;
          }
      | else-left-r-eq1 w ↦
          let none = clear_bit a.left r w.if-left-r-eq1.false in
          let here = ap (λ (f : File). cell_in f r) w.self-is
          ∙ sym (issued_none a.left a.done r (latest_of ones r) (cell_in ones r) none) in
          let others : (k : ℕ) → (k ≡ r → ⊥) → cell_in news k ≡ cell_in ones k =
          λ k apart. ap (λ (f : File). cell_in f k) w.self-is in
          record {
            below = below_more olds ones news a.left a.done r are.below are.above here others;
            above = above_more olds ones news a.left a.done r are.below are.above here others;
          }
    ]
