use Rattle.std.proofs.Common.{rules, ◌≡◌, ℕ, List, ◌+◌, ◌-◌, ◌++◌, take, get_or, length, ap, ◌∙◌, arith}
use borrow.Rule.Slice.PartMut.{post_of, Post-is}
use Rattle.i9_memory.proofs.Runs.{run_written}
use Rattle.i9_memory.proofs.pages.Page.store_all.Goals as goal

pub returns : goal.returns
returns c =
    let xs = c.args.self.now.bytes.value in
    let bs = c.args.bytes.now in
    let p = c.args.place in
    let end = p + length bs in
    let long : length xs ≡ 256 = search rules in
    let same : c.deref_mut.result.now ≡ xs = c.deref_mut.ensures.value in
    let read = λ (ys : List ℕ) (x : ℕ). get_or ys x 0 in
    let with_run = λ (zs ys rest : List ℕ). take p zs ++ (ys ++ rest) in
    ap (λ (zs : List ℕ). read (with_run zs c.copy_from_slice.new.self (post_of p (end - p) zs))) same
    ∙ ap (λ (ys : List ℕ). read (with_run xs ys (post_of p (end - p) xs))) c.copy_from_slice.ensures.after
    ∙ ap (λ (rest : List ℕ). read (with_run xs bs rest)) (Post-is p end xs (omega arith))
    ∙ run_written xs bs p (omega arith)
