use Rattle.std.proofs.Common.{◌≡◌, ℕ, List, Result, Err, sym, subst, ◌∙◌, arith}
use Rattle.i9_elf.specs.declared.error.ElfError.TheVariants.{Bad}
use Rattle.i9_elf.specs.Reading.{answer_of, Reads}
use Rattle.i9_elf.proofs.Answers.{found, only, refused, first, answer-at_fault, answer-at_loads}
use Rattle.i9_elf.proofs.reading.read.Goals as goal

by_fault : (c : goal.In-Some) → answer_of c.args.file.now ≡ Err c.in-Some.kind
by_fault c = answer-at_fault c.args.file.now c.in-Some.kind (sym c.fault_of_file.ensures ∙ c.in-Some.is)

by_loads : (c : goal.After-load_all) → Reads c.load_all.result (answer_of c.args.file.now)
by_loads c = subst (λ (a : Result (List (ℕ × ℕ)) ℕ). Reads c.load_all.result a) (sym (answer-at_loads c.args.file.now (sym c.fault_of_file.ensures ∙ c.in-None.is))) c.load_all.ensures

pub returns-in-Some-clause-only : goal.returns-in-Some-clause-only
returns-in-Some-clause-only c = only c.args.file.now (Err (Bad c.in-Some.kind)) (by_fault c)

pub returns-in-Some-clause-refused : goal.returns-in-Some-clause-refused
returns-in-Some-clause-refused c = refused c.args.file.now (Err (Bad c.in-Some.kind)) (by_fault c)

pub returns-in-Some-clause-first : goal.returns-in-Some-clause-first
returns-in-Some-clause-first c = first c.args.file.now (Err (Bad c.in-Some.kind)) (by_fault c)

pub returns-in-None : goal.returns-in-None
returns-in-None c = grind (arith, found, by_loads, only, refused, first)
