use Rattle.std.proofs.Common.{◌≡◌, ℕ, IfSome, Option, Some, None, ap, ◌∙◌, ◌*ℤ◌}
use Rattle.i9_isa.specs.declared.op.Op.{Op}
use Rattle.i9_isa.specs.declared.op.Op.TheVariants.{Muli}
use Rattle.i9_model.specs.Numbers.{signed}
use Rattle.i9_model.specs.Results.{checked, result_of, word}
use Rattle.i9_exec.proofs.light.word_by.Goals as goal

product_word : (op : Op) (a b c ac : ℕ) (o : Option ℕ) → op ≡ Muli → IfSome o (λ v. checked (signed b *ℤ signed a) ac ≡ word v ac) → IfSome o (λ v. result_of op a b c ac ≡ Some (word v ac))
product_word op a b c ac None e p = tt
product_word op a b c ac (Some v) e p = ap (λ (n : Op). result_of n a b c ac) e ∙ ap Some p

pub returns-in-Muli-clause-table : goal.returns-in-Muli-clause-table
returns-in-Muli-clause-table c third ac = product_word c.args.op c.args.a c.args.b third ac c.product.result c.in-Muli.is (c.product.ensures ac)
