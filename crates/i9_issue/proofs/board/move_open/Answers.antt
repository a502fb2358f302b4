use Rattle.std.proofs.Common.{◌≡◌, ◌≤◌, ◌+◌, ◌-◌, ◌++◌, ◌∙◌, ap, arith, false, None, drop, get_or, length, length-set, set, take}
use Rattle.i9_isa.specs.declared.inst.Side.TheVariants.{Reg}
use Rattle.i9_model.specs.declared.need.TimedNeed.{TimedNeed}
use Rattle.i9_model.specs.Turns.{open_at}
use Rattle.i9_issue.proofs.Loops.{kept-open, kept-over, rest-after-set, same-rest}
use Rattle.i9_issue.proofs.board.move_open.Goals as goal
use Rattle.i9_issue.proofs.board.move_open.Goals.{then-turn-records, else-turn-records}

abbrev blank : TimedNeed
blank = record { need = record { side = Reg; reads = 0; writes = 0; request = false; store = None; slow = false; barrier = false; alone = false; cost = 0; code = (0, 0); not_before = 0 }; issue = 0; done = 0 }

pub loop-k-preserved : goal.loop-k-preserved
loop-k-preserved c =
    let u = c.args.turn in
    let k = c.loop-k.k in
    let n = c.args.count in
    let before = c.args.records.now in
    let now = c.loop-k.records in
    let r = get_or now k blank in
    let few : n ≤ length before = omega (arith, c.loop-k.invariant.whole, c.if-turn-records.array_long, c.requires) in
    let left = open_at u (take (n - (k + 1)) (drop (k + 1) before)) in
    elim c.if-turn-records.branch [
      | then-turn-records w ↦
          let e : c.if-turn-records.records ≡ set now c.loop-k.kept r = w.records-is ∙ w.copy_down.ensures blank in
          record {
            kept = ap (λ j. take j c.if-turn-records.records ++ left) w.kept-is ∙ ap (λ xs. take (c.loop-k.kept + 1) xs ++ left) e ∙ kept-open u n k c.loop-k.kept now before blank c.loop-k-test.true few c.loop-k.invariant.few c.loop-k.invariant.whole c.loop-k.invariant.rest w.if-turn-records.true ∙ c.loop-k.invariant.kept;
            rest = ap (drop (k + 1)) e ∙ rest-after-set k c.loop-k.kept now before r c.loop-k.invariant.few c.loop-k.invariant.rest;
            few = omega (arith, w.kept-is, c.loop-k.invariant.few);
            whole = ap length e ∙ length-set now c.loop-k.kept r ∙ c.loop-k.invariant.whole;
          }
      | else-turn-records w ↦
          record {
            kept = ap (λ j. take j c.if-turn-records.records ++ left) w.kept-is ∙ ap (λ xs. take c.loop-k.kept xs ++ left) w.records-is ∙ ap (λ xs. take c.loop-k.kept now ++ xs) (kept-over u n k now before blank c.loop-k-test.true few c.loop-k.invariant.rest (omega (arith, w.if-turn-records.false))) ∙ c.loop-k.invariant.kept;
            rest = ap (drop (k + 1)) w.records-is ∙ same-rest k now before c.loop-k.invariant.rest;
            few = omega (arith, w.kept-is, c.loop-k.invariant.few);
            whole = ap length w.records-is ∙ c.loop-k.invariant.whole;
          }
    ]
