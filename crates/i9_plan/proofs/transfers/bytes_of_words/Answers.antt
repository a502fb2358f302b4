use Rattle.std.proofs.Common.{◌≡◌, ℕ, List, ◌++◌, length, get_or, take, sym, ap, ◌∙◌, arith}
use Rattle.std.proofs.lemmas.List.{length-append}
use Rattle.i9_model.specs.Memory.{word_bytes}
use Rattle.i9_model.specs.Step.{bytes_of_words}
use Rattle.i9_model.proofs.Lengths.{four_bytes}
use Rattle.i9_processor.specs.State.{state_of}
use Rattle.i9_model.proofs.WordBytes.{listed_more}
use Rattle.i9_plan.proofs.transfers.bytes_of_words.Goals as goal

pub loop-k-init : goal.loop-k-init
unfolding bytes_of_words
loop-k-init c = record { bytes = c.new-bytes.ensures; count = ap length c.new-bytes.ensures }

pub loop-k-preserved : goal.loop-k-preserved
loop-k-preserved c =
    let m = (state_of c.args.p.now).memory in
    let ws = c.args.words.now in
    let before = c.loop-k.bytes.items in
    let word = c.word_bytes-word.result in
    let added : c.append.new.bytes.items ≡ before ++ word = c.append.ensures in
    let said = c.word_bytes-word.ensures in
    let four = ap length said ∙ four_bytes m c.word_address.result (get_or ws c.loop-k.k 0) in
    let count = c.loop-k.invariant.count in
    record {
      bytes =
          added
          ∙ ap (λ (bs : List ℕ). bs ++ word) c.loop-k.invariant.bytes
          ∙ ap (λ (bs : List ℕ). bytes_of_words m c.args.a (take c.loop-k.k ws) ++ bs) (said ∙ ap (λ (x : ℕ). word_bytes m x (get_or ws c.loop-k.k 0)) c.word_address.ensures)
          ∙ sym (listed_more m c.args.a ws c.loop-k.k (omega arith) (omega arith));
      count = ap length added ∙ length-append before word ∙ omega (arith, four, count);
    }
