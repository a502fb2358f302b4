use Rattle.std.proofs.Common.{◌≡◌, ◌∙◌, sym, Result, Ok, Err, IfOk, refl}
use Rattle.i9_isa.specs.declared.inst.Inst.{Inst}
use Rattle.i9_isa.specs.declared.inst.BadWord.{BadWord}
use Rattle.i9_isa.proofs.Decoding.{decoded_encodes, encodes_decoded, opcode_unnamed, operand_named}
use Rattle.i9_decode.proofs.ValidWords.{encodes_valid}
use Rattle.i9_decode.proofs.decoder.decode.Goals as goal

each : (r : Result Inst BadWord) (P : Inst → Type 0) → ((i : Inst) → r ≡ Ok i → P i) → IfOk r P
each (Ok i) P h = h i refl
each (Err e) P h = tt

pub returns-clause-ok : goal.returns-clause-ok
returns-clause-ok c = each _ _ (λ i is. decoded_encodes c.args.w0 c.args.w1 i (sym c.read.ensures ∙ is))

pub returns-clause-valid : goal.returns-clause-valid
returns-clause-valid c = each _ _ (λ i is. encodes_valid c.args.w0 c.args.w1 i c.ranges.w1.fits (decoded_encodes c.args.w0 c.args.w1 i (sym c.read.ensures ∙ is)))

pub returns-clause-all : goal.returns-clause-all
returns-clause-all c = λ i e. c.read.ensures ∙ encodes_decoded c.args.w0 c.args.w1 i e

pub returns-clause-opcode : goal.returns-clause-opcode
returns-clause-opcode c = λ is. opcode_unnamed c.args.w0 c.args.w1 (sym c.read.ensures ∙ is)

pub returns-clause-operand : goal.returns-clause-operand
returns-clause-operand c = λ is. operand_named c.args.w0 c.args.w1 (sym c.read.ensures ∙ is)
