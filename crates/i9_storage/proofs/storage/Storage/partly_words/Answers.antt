use Rattle.std.proofs.Common.{◌≡◌, ℕ, ◌+◌, ◌*◌, get_or, ap, ◌∙◌, arith}
use Rattle.std.proofs.Math.ListN.{set, length-set}
use Rattle.std.proofs.lemmas.List.Edits.{fill_by_more}
use Rattle.std.proofs.lemmas.List.FromFn.{fill_by_all}
use Rattle.i9_model.specs.Writes.{wrapped}
use Rattle.i9_model.specs.Memory.{word_in}
use Rattle.i9_storage.specs.Storage.{legible_in}
use Rattle.i9_storage.proofs.storage.Storage.partly_words.Goals as goal

pub loop-k-preserved : goal.loop-k-preserved
loop-k-preserved g c =
    let word = λ (k : ℕ). word_in (legible_in c.args.self.now) (wrapped (c.args.a + 4 * k)) in
    let ws = c.loop-k.words in
    let i = c.loop-k.k in
    let is : c.legible_word.result ≡ word i = c.legible_word.ensures in
    let long = c.loop-k.invariant.length_of in
    record {
      length_of = omega (arith, length-set {A = ℕ}, long);
      words_of = λ k h. ap (λ (v : ℕ). get_or (set ws i v) k 0) is ∙ fill_by_more word ws i 0 (omega arith) c.loop-k.invariant.words_of k h;
    }

pub returns : goal.returns
returns g c = fill_by_all (λ (k : ℕ). word_in (legible_in c.args.self.now) (wrapped (c.args.a + 4 * k))) c.loop-k.words g.row.N 0 c.loop-k.invariant.length_of (λ k h. c.loop-k.invariant.words_of k (omega arith))
