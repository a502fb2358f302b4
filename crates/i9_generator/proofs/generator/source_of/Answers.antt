use Rattle.std.proofs.Common.{◌≡◌, ℕ, ap, ◌∙◌, refl}
use Rattle.i9_generator.specs.Generator.{drawn, tables_text, set_up_text, calls_text, generated_source}
use Rattle.i9_generator.proofs.Drawing.{drawn-next}
use Rattle.i9_generator.proofs.generator.source_of.Goals as goal

pub returns : goal.returns
unfolding generated_source tables_text set_up_text calls_text
returns c =
    let first = c.draw-first.ensures in
    let second : c.draw-second.result ≡ drawn c.args.number 2 = c.draw-second.ensures ∙ ap (λ (n : ℕ). drawn n 1) first ∙ drawn-next c.args.number 1 in
    let third : c.draw.result ≡ drawn c.args.number 3 = c.draw.ensures ∙ ap (λ (n : ℕ). drawn n 1) second ∙ drawn-next c.args.number 2 in
    rw (
      c.in_ok-extend_from_slice-2.ensures.items,
      c.in_ok-add_line-3.ensures,
      c.in_ok-add_line-2.ensures,
      c.in_ok-add_line.ensures,
      c.in_ok-extend_from_slice.ensures.items,
      c.in_ok-text.ensures.items,
      c.as_bytes.ensures.value,
      c.as_bytes-2.ensures.value,
      c.as_bytes-3.ensures.value,
      third,
      second,
      first,
    ) refl
