-- A status is answered for what was printed.
use Rattle.std.proofs.Common.{ℕ, ◌<◌, List, length, ◌+◌, refl, sym, subst, add-zero, inl, inr, arith}
use Rattle.i9_lines.specs.declared.print.Printed.{Printed}
use Rattle.i9_lines.specs.declared.print.Printed.TheVariants.{Done, Write, Memory}
use Rattle.i9_lines.specs.Print.{Account, Prints}
use Rattle.i9_tool.specs.Outcome.{Answers, code_for}
use Rattle.i9_lines.proofs.Prints.{prints_refused}

module _ {K : Type 0} (k : Account K) where
  -- a sink that is sure of a text is sure of it and nothing more
  sure_of : (s : K) (text : List ℕ) → k.sure s (length text) → k.sure s (length text + 0)
  sure_of s text h = subst (k.sure s) (sym (add-zero (length text))) h

  -- a text that goes with a status was printed
  pub answers_printed : (gives : ℕ → List ℕ → Type 0) (p : Printed) (code : ℕ) (text : List ℕ) (a b : K) → code < 6 → gives code text
      → Prints p k a b text → Answers gives (code_for p code) k a b
  answers_printed gives Done code text a b known is_given printed = record {
    known = omega arith;
    whole = λ _. record { text = text; is_given = is_given; appended = printed.leaves; lines = printed.lines; pieces = printed.pieces };
    front = λ high. absurd (omega arith);
    write = λ six. absurd (omega arith);
    failed = λ more. absurd (omega (arith, printed.cause));
    calm = λ all. let q = printed.calm 0 (sure_of a text (all code text is_given)) in (λ six. omega arith, q.1);
  }
  answers_printed gives Write code text a b known is_given printed = record {
    known = omega arith;
    whole = λ low. absurd (omega arith);
    front = λ _. record { code = code; text = text; is_given = is_given; appended = printed.leaves; lines = printed.lines; pieces = inl printed.pieces };
    write = λ _. printed.cause;
    failed = λ _. refl;
    calm = λ all. let q = printed.calm 0 (sure_of a text (all code text is_given)) in absurd (q.0 refl);
  }
  answers_printed gives Memory code text a b known is_given printed = record {
    known = omega arith;
    whole = λ low. absurd (omega arith);
    front = λ _. record { code = code; text = text; is_given = is_given; appended = printed.leaves; lines = printed.lines; pieces = inr printed.pieces };
    write = λ six. absurd (omega arith);
    failed = λ more. absurd (omega (arith, printed.cause));
    calm = λ all. (λ six. omega arith, printed.cause);
  }

  -- memory was refused before anything of a text was printed
  pub answers_nothing : (gives : ℕ → List ℕ → Type 0) (code : ℕ) (text : List ℕ) (a : K) → gives code text → Answers gives 7 k a a
  answers_nothing gives code text a is_given = let printed = prints_refused k a text in record {
    known = omega arith;
    whole = λ low. absurd (omega arith);
    front = λ _. record { code = code; text = text; is_given = is_given; appended = printed.leaves; lines = printed.lines; pieces = inr printed.pieces };
    write = λ six. absurd (omega arith);
    failed = λ more. absurd (omega arith);
    calm = λ all. (λ six. omega arith, refl);
  }

  -- the same status and text in a wider choice
  pub answers_wider : (gives wider : ℕ → List ℕ → Type 0) (code : ℕ) (a b : K) → ((c : ℕ) (t : List ℕ) → gives c t → wider c t) → Answers gives code k a b → Answers wider code k a b
  answers_wider gives wider code a b more h = record {
    known = h.known;
    whole = λ low. let w = h.whole low in record { text = w.text; is_given = more code w.text w.is_given; appended = w.appended; lines = w.lines; pieces = w.pieces };
    front = λ high.
        let f = h.front high in
        record { code = f.code; text = f.text; is_given = more f.code f.text f.is_given; appended = f.appended; lines = f.lines; pieces = f.pieces };
    write = h.write;
    failed = h.failed;
    calm = λ all. h.calm (λ c t g. all c t (more c t g));
  }

pub ruleset answer_rules = (answers_printed)
