-- What the values of this crate stand for.
use Rattle.i9_model.specs.Results.{Answer}
use Rattle.i9_exec.specs.declared.done.Done.{Done}

-- the answer that a result shows
abbrev pub answer_of : Done → Answer
answer_of d = record { values = d.values.items; controls = d.ac; fault = d.fault }
