-- Modes in words.
use Rattle.std.proofs.Common.{◌≡◌, ℕ, ◌+◌, ◌%◌, ◌<◌, Bool, true, false, not, refl, sym, ◌∙◌, arith}
use Rattle.std.proofs.lemmas.Bool.{false≢true}
use Rattle.i9_isa.specs.Words.{field, bit, mode_in}

-- the mode is in bits 10 to 13, of which 10 and 11 count where bit 12 is set
pub mode_same : (w v : ℕ) → field w 12 1 ≡ field v 12 1 → field w 13 1 ≡ field v 13 1 → (bit v 12 ≡ true → field w 10 4 ≡ field v 10 4) → mode_in w ≡ mode_in v
mode_same w v e12 e13 e10 = elim (bit v 12) as (λ b. bit v 12 ≡ b → mode_in w ≡ mode_in v) [
  | true ↦ λ is. rw (e12, e10 is, e13) refl
  | false ↦ λ is. rw (e12, is, e13) refl
] refl

-- the mode of a word is that of its mode bits
pub mode_added : (h m l : ℕ) → h % 16384 ≡ 0 → m < 16384 → m % 1024 ≡ 0 → (bit m 12 ≡ false → m % 4096 ≡ 0) → l < 4096 → (bit m 12 ≡ true → l < 1024) → mode_in (h + m + l) ≡ mode_in m
mode_added h m l eh lm em short ll long = elim (bit m 12) as (λ b. bit m 12 ≡ b → mode_in (h + m + l) ≡ mode_in m) [
  | true ↦ λ is. let low : l < 1024 = long is in mode_same (h + m + l) m (omega arith) (omega arith) (λ _. omega arith)
  | false ↦ λ is. let low : m % 4096 ≡ 0 = short is in mode_same (h + m + l) m (omega arith) (omega arith) (λ t. absurd (false≢true (sym is ∙ t)))
] refl

pub not_true : (x b : Bool) → b ≡ not x → b ≡ true → x ≡ false
not_true true b e t = cc
not_true false b e t = refl

pub not_false : (x b : Bool) → b ≡ not x → b ≡ false → x ≡ true
not_false true b e t = refl
not_false false b e t = cc
