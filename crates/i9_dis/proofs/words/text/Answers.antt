use Rattle.std.proofs.Common.{◌++◌, sym, ap, ◌∙◌, subst}
use Rattle.i9_asm.specs.Source.{AddsBytes}
use Rattle.i9_asm.specs.Listing.{text_of, printed_bytes}
use Rattle.i9_asm.proofs.ReadListing.{text_of-adds}
use Rattle.i9_dis.proofs.words.text.Goals as goal

pub returns-in-Ok-clause-again : goal.returns-in-Ok-clause-again
returns-in-Ok-clause-again c = λ names.
    let a = c.args in
    let e = c.in-Ok.ensures ∙ ap (λ t. t ++ text_of a.ip a.w0 a.w1) c.new-text.ensures.items in
    subst (λ t. AddsBytes names a.ip t (printed_bytes a.w0 a.w1)) (sym e) (text_of-adds names a.ip a.w0 a.w1 c.ranges.ip.fits c.ranges.w0.fits c.ranges.w1.fits)
