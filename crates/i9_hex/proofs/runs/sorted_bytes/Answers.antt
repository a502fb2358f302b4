use Rattle.std.proofs.Common.{ℕ, ap, ◌∙◌, subst, sym, rules}
use Rattle.std.proofs.lemmas.List.Sorted.{All-permutation, answers_always, IsNonDecreasingBy-from_sort_by_key}
use Rattle.i9_model.specs.Image.{pairs_of}
use Rattle.i9_hex.specs.Runs.{SaySameBytes}
use Rattle.std.specs.List.{All}
use Rattle.std.proofs.lemmas.List.Elements.{All-from_recursion}
use Rattle.i9_hex.specs.Pairs.{IsPlaced}
use Rattle.i9_hex.proofs.Rising.{stable_says}
use Rattle.i9_hex.proofs.Placed.{parts_placed}
use Rattle.i9_hex.proofs.runs.sorted_bytes.Goals as goal

pub returns : goal.returns
returns c = record {
  placed =
      let are = c.in_ok-pairs.ensures ∙ ap pairs_of c.as_slice.ensures.segments in
      All-permutation IsPlaced _ _ c.sort_by_key.ensures.permutation (subst (λ ps. All IsPlaced ps) (sym are) (All-from_recursion IsPlaced _ (parts_placed c.args.image.now c.as_slice.ensures.parts)));
  order = IsNonDecreasingBy-from_sort_by_key (λ (p : ℕ × ℕ). p.0) _ c.in_ok-sort_by_key.ensures.sorted (λ a r q k. search rules);
  same =
      subst (λ ps. SaySameBytes ps c.sort_by_key.new.self.items) (c.in_ok-pairs.ensures ∙ ap pairs_of c.as_slice.ensures.segments)
      (stable_says _ _ (c.sort_by_key.ensures.stable (λ (p : ℕ × ℕ). p.0) (answers_always _ _ _ (λ f a r g h. search rules))));
}
