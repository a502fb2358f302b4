-- Operands that are appended one by one are the operands of the statement.
use Rattle.std.proofs.Common.{◌≡◌, ℕ, Bool, true, false, List, [], ◌∷◌, ◌++◌, refl, sym, ap, ◌∙◌, append_assoc, arith}
use Rattle.std.proofs.lemmas.List.{append-nil}
use Rattle.i9_text.specs.Text.{space}
use Rattle.i9_statement.specs.Fields.{comma, join_fields}
use Rattle.i9_statement.specs.Instructions.{Fields}
use Rattle.i9_statement.specs.Statements.{fields_text}
use Rattle.i9_statement.specs.Pieces.{pieces, started_by, Added}

pieces-append : (q : Bool) (fs gs : Fields) → pieces q (fs ++ gs) ≡ pieces q fs ++ pieces (started_by q fs) gs
unfolding pieces
pieces-append q [] gs = refl
pieces-append q (f ∷ fs) gs = grind (arith, append_assoc, pieces-append true fs gs)

started-append : (q : Bool) (fs gs : Fields) → started_by q (fs ++ gs) ≡ started_by (started_by q fs) gs
started-append q fs gs = grind arith

-- one after the other
pub added_both : {a b c : List ℕ} {q r s : Bool} {fs gs : Fields} → Added a b q fs r → Added b c r gs s → Added a c q (fs ++ gs) s
added_both {a} {b} {c} {q} {r} {s} {fs} {gs} x y = record {
  text = y.text ∙ ap (λ t. t ++ pieces r gs) x.text ∙ append_assoc a (pieces q fs) (pieces r gs) ∙ ap (λ n. a ++ (pieces q fs ++ pieces n gs)) x.after ∙ ap (λ t. a ++ t) (sym (pieces-append q fs gs));
  after = y.after ∙ ap (λ n. started_by n gs) x.after ∙ sym (started-append q fs gs);
}

-- ---- the same as the operands with commas between them

pieces-true : (f : List ℕ) (fs : Fields) → pieces true (f ∷ fs) ≡ comma ∷ space ∷ join_fields (f ∷ fs)
unfolding pieces join_fields
pieces-true f [] = ap (λ t. comma ∷ space ∷ t) (append-nil f)
pieces-true f (g ∷ fs) = ap (λ t. (comma ∷ space ∷ f) ++ t) (pieces-true g fs)

pub pieces-text : (fs : Fields) → pieces false fs ≡ fields_text fs
unfolding pieces join_fields
pieces-text fs = grind (arith, append-nil, pieces-true)

-- a mnemonic, operands and bits
pub statement_joined : (t0 t1 t2 t3 m s : List ℕ) (fs : Fields) (now : Bool) → t1 ≡ t0 ++ m → Added t1 t2 false fs now → t3 ≡ t2 ++ s → t3 ≡ t0 ++ (m ++ (fields_text fs ++ s))
statement_joined t0 t1 t2 t3 m s fs now h1 h2 h3 = grind (arith, pieces-text, append_assoc)
