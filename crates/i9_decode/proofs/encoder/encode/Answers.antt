use Rattle.std.proofs.Common.{◌≡◌, ◌∙◌, refl, true}
use Rattle.i9_isa.specs.declared.inst.Mode.{Mode}
use Rattle.i9_isa.specs.declared.inst.Mode.TheVariants.{Offset, BaseOffset, Base, BaseIndex}
use Rattle.i9_isa.specs.Operands.{has_disp}
use Rattle.i9_isa.specs.Words.{words_of_mode}
use Rattle.i9_decode.proofs.encoder.encode.Goals as goal

-- a mode with a displacement of 32 bits has two words
two_words : (m : Mode) → has_disp m ≡ true → words_of_mode m ≡ 2
two_words Offset h = absurd (cc)
two_words BaseOffset h = absurd (cc)
two_words Base h = absurd (cc)
two_words BaseIndex h = absurd (cc)
two_words _ h = refl

pub returns-then-word_count-eq2-clause-two : goal.returns-then-word_count-eq2-clause-two
returns-then-word_count-eq2-clause-two c = c.first_word-first.ensures.form _ (λ _. refl)

pub returns-else-word_count-eq2-clause-one : goal.returns-else-word_count-eq2-clause-one
returns-else-word_count-eq2-clause-one c = λ _ w1. c.first_word-first.ensures.form w1 (λ t. absurd (c.if-word_count-eq2.false (c.word_count.ensures ∙ two_words c.args.i.now.ea.mode t)))
