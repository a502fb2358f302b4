use Rattle.std.proofs.Common.{rules, ◌≡◌, ℕ, ◌+◌, ◌*◌, ◌^◌, ◌<◌, Some, length, zero-add}
use Rattle.std.specs.Prelude.{reverse, slice_get}
use Rattle.std.proofs.lemmas.List.FromFn.{get_or-map-range_with_len}
use Rattle.i9_model.specs.declared.layout.TheConstants.{LOCALS}
use Rattle.i9_model.specs.Writes.{wrapped}
use Rattle.i9_model.specs.Memory.{word_in}
use Rattle.i9_storage.specs.Storage.{memory_in}
use Rattle.i9_storage.proofs.Youngest.{youngest_is}
use Rattle.i9_storage.proofs.storage.Storage.frame_word.Goals as goal

pub returns-then-f-a : goal.returns-then-f-a
returns-then-f-a c =
    let s = c.args.self.now in
    let f = c.in-Some.f.now in
    let k = c.args.k in
    let is : Some f ≡ slice_get (reverse s.sets.frames) 0 = search rules in
    let whole : length f.words ≡ LOCALS = search rules in
    let low : f.address < 2 ^ 32 = search rules in
    let word_at : ℕ → ℕ = λ j. word_in (memory_in s) (wrapped (f.address + 4 * j)) in
    cc (
      youngest_is s.behind s.watch s.sets f s.kept is low whole c.words_fit.ensures,
      get_or-map-range_with_len word_at 0 LOCALS k k 0 c.requires (zero-add k),
      c.if-f-a.true,
    )
