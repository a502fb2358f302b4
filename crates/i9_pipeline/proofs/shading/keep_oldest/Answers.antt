use Rattle.std.proofs.Common.{ℕ, ◌-◌, ◌<◌, ◌≤◌, [], length, reverse, sym, ap, ◌∙◌, arith}
use Rattle.std.specs.Prelude.{slice_get}
use Rattle.std.proofs.lemmas.Bool.{lt-ltb, le-ltb}
use Rattle.i9_frames.specs.Sets.{Held}
use Rattle.i9_processor.specs.State.{cache_of, size_of, bytes_of}
use Rattle.i9_pipeline.proofs.Pieces.{adds_nothing, adds_oldest, oldest_is, held_there}
use Rattle.i9_pipeline.proofs.shading.keep_oldest.Goals as goal

pub returns-then-held-size-clause-adds : goal.returns-then-held-size-clause-adds
returns-then-held-size-clause-adds c =
    let p = c.args.p.now in
    let size = c.size.ensures.size ∙ ap (λ (h : Held). h.size) c.sets-sets.ensures in
    let long = c.len-held.ensures ∙ ap (λ (h : Held). length h.frames) c.sets-sets.ensures in
    let less : length (cache_of p).held < size_of p = omega (arith, size, long, c.if-held-size.true) in
    rw (lt-ltb (length (cache_of p).held) (size_of p) less, c.requires.empty) (adds_nothing (bytes_of p) 1 [])

pub returns-in-Some-clause-adds : goal.returns-in-Some-clause-adds
returns-in-Some-clause-adds c =
    let p = c.args.p.now in
    let cache = cache_of p in
    let size = c.size.ensures.size ∙ ap (λ (h : Held). h.size) c.sets-sets.ensures in
    let long = c.len-held.ensures ∙ ap (λ (h : Held). length h.frames) c.sets-sets.ensures in
    let full : size_of p ≤ length cache.held = omega (arith, size, long, c.if-held-size.false) in
    let there : 0 < length cache.held = omega (arith, full, size, c.size.ensures.enough.some, c.size.ensures.size) in
    let place = ap (λ (n : ℕ). slice_get (reverse cache.held) (n - 1)) long in
    let at = ap (λ (h : Held). slice_get (reverse h.frames) (c.len-held.result - 1)) c.sets-sets.ensures in
    let first = oldest_is cache.held c.in-Some.f.now there (sym place ∙ sym at ∙ sym c.in-Some.ensures) in
    rw (le-ltb (length cache.held) (size_of p) full, c.keep_frame.ensures.pieces, c.requires.empty)
    (adds_oldest (bytes_of p) cache.behind cache.held c.in-Some.f.now c.requires.whole there first)

pub returns-in_default-clause-adds : goal.returns-in_default-clause-adds
returns-in_default-clause-adds c =
    let cache = cache_of c.args.p.now in
    let size = c.size.ensures.size ∙ ap (λ (h : Held). h.size) c.sets-sets.ensures in
    let long = c.len-held.ensures ∙ ap (λ (h : Held). length h.frames) c.sets-sets.ensures in
    let there : length cache.held - 1 < length cache.held =
    omega (arith, size, long, c.if-held-size.false, c.size.ensures.enough.some, c.size.ensures.size) in
    let place = ap (λ (n : ℕ). slice_get (reverse cache.held) (n - 1)) long in
    let at = ap (λ (h : Held). slice_get (reverse h.frames) (c.len-held.result - 1)) c.sets-sets.ensures in
    absurd (held_there cache.held (length cache.held - 1) there (sym place ∙ sym at ∙ sym c.in_default.ensures))
