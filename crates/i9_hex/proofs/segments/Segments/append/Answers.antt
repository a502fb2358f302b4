use Rattle.std.proofs.Common.{◌≡◌, List, ◌-◌, set, map, sym, arith, subst}
use Rattle.std.proofs.lemmas.Result.{err_from_is_err_and}
use Rattle.i9_model.specs.Image.{Part, AreParts}
use Rattle.i9_hex.specs.Put.{with_pair}
use Rattle.i9_hex.specs.Shown.{part_of}
use Rattle.i9_hex.proofs.PartLemmas.{parts-same, with_pair-grown, with_pair-begun, AreParts-with_pair}
use Rattle.i9_hex.proofs.segments.Segments.append.Goals as goal

same : (c : goal.After-from_residual) → map part_of (set c.self.inside.items.items (c.len-last.result - 1) (record { address = c.index_mut.result.now.address; bytes = c.push.new.self })) ≡ map part_of c.self.inside.items.items
same c = grind (arith, parts-same)

grown : (c : goal.In_ok-push) → map part_of (set c.self.inside.items.items (c.len-last.result - 1) (record { address = c.index_mut.result.now.address; bytes = c.push.new.self })) ≡ with_pair (map part_of c.self.inside.items.items) c.args.address c.args.byte
grown c = grind (arith, with_pair-grown)

pub returns-in_err-push-clause-err : goal.returns-in_err-push-clause-err
returns-in_err-push-clause-err c = grind (arith, err_from_is_err_and, parts-same)

pub returns-then-ends_before-clause-ok : goal.returns-then-ends_before-clause-ok
returns-then-ends_before-clause-ok c = rw (← c.self.view_is) (grown c)

pub returns-clause-ok : goal.returns-clause-ok
returns-clause-ok c = grind (arith, with_pair-begun)

pub invariant_of-self : goal.invariant_of-self
invariant_of-self c = subst (λ (ps : List Part). AreParts ps) (sym (same c)) c.self.invariant

pub invariant_of-self-then-ends_before : goal.invariant_of-self-then-ends_before
invariant_of-self-then-ends_before c = subst (λ (ps : List Part). AreParts ps) (sym (grown c)) (AreParts-with_pair (map part_of c.self.inside.items.items) c.args.address c.args.byte (omega arith) (omega arith) c.self.invariant)
