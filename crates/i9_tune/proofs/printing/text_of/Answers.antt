use Rattle.std.proofs.Common.{◌++◌, List, ℕ, ap, ◌∙◌}
use Rattle.i9_hex.specs.Writing.{with_line_feed}
use Rattle.i9_asm.specs.Listing.{org_line}
use Rattle.i9_tune.specs.Tuning.{code_lines, spans_line}
use Rattle.i9_tune.proofs.Lines.{text_whole}
use Rattle.i9_tune.proofs.printing.text_of.Goals as goal

pub returns : goal.returns
returns c =
    let lines = c.in_ok-add_lines.ensures in
    record {
      codes = lines.codes;
      words = lines.words;
      whole = text_whole (org_line c.args.address) (spans_line c.args.address c.args.block.now c.args.tuned.now) c.add_org.new.text.items c.add_lines.new.text.items c.add_spans.new.text.items (code_lines c.args.address lines.codes)
          (c.in_ok-add_org.ensures ∙ ap (λ (t : List ℕ). t ++ with_line_feed (org_line c.args.address)) c.new-text.ensures.items) lines.text c.in_ok-add_spans.ensures;
    }
