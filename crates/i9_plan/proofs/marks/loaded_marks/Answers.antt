use Rattle.std.proofs.Common.{ℕ, ◌≡◌, sym, ap, ◌∙◌, subst, arith}
use Rattle.i9_isa.specs.declared.size.Size.{Size}
use Rattle.i9_isa.specs.Transfers.{byte_count, register_count}
use Rattle.i9_model.specs.Stale.{word_mark, loaded_marks}
use Rattle.i9_watch.specs.Bits.{bits_of}
use Rattle.i9_processor.specs.State.{state_of}
use Rattle.i9_plan.proofs.MarkLists.{loaded_byte, loaded_half, loaded_words}
use Rattle.i9_plan.proofs.marks.loaded_marks.Goals as goal

pub returns-in-Byte : goal.returns-in-Byte
returns-in-Byte c =
    let soft = (state_of c.args.p.now).frames.soft in
    let a = c.args.a in
    let m = c.from.result in
    subst (λ (z : Size). bits_of m (register_count z) ≡ loaded_marks z soft a) (sym c.in-Byte.is)
    (ap (λ (x : ℕ). bits_of x 1) c.from.ensures ∙ loaded_byte soft c.stale.result a c.ranges.a.fits c.stale.ensures)

pub returns-in-Half : goal.returns-in-Half
returns-in-Half c =
    let soft = (state_of c.args.p.now).frames.soft in
    let a = c.args.a in
    let m = c.from-in-Half.result in
    subst (λ (z : Size). bits_of m (register_count z) ≡ loaded_marks z soft a) (sym c.in-Half.is)
    (ap (λ (x : ℕ). bits_of x 1) c.from-in-Half.ensures ∙ loaded_half soft c.stale-in-Half.result a c.ranges.a.fits c.stale-in-Half.ensures)

pub returns-in-Words : goal.returns-in-Words
returns-in-Words c =
    let soft = (state_of c.args.p.now).frames.soft in
    let a = c.args.a in
    let m = c.value_bits.result in
    let count = c.requires in
    let size = ap byte_count c.in-Words.is in
    subst (λ (z : Size). bits_of m (register_count z) ≡ loaded_marks z soft a) (sym c.in-Words.is)
    (loaded_words soft m a c.in-Words.field-0 _ _ _ _ c.ranges.a.fits (omega (arith, count, size)) c.value_bits.ensures c.is_stale.ensures
    (c.is_stale-in-Words.ensures ∙ ap (word_mark soft) c.word_address.ensures)
    (c.is_stale-in-Words-2.ensures ∙ ap (word_mark soft) c.word_address-in-Words.ensures)
    (c.is_stale-in-Words-3.ensures ∙ ap (word_mark soft) c.word_address-in-Words-2.ensures))
