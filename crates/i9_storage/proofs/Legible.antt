-- Memory as a load finds it: a soft byte is 0, and elsewhere it is what lies behind the held frames.
use Rattle.std.proofs.Common.{◌≡◌, ℕ, ◌*◌, ◌^◌, ◌<◌, Bool, true, false, cond, None, sym, ap, ◌∙◌}
use Rattle.i9_model.specs.Memory.{half_in, word_in, words_in}
use Rattle.i9_model.specs.State.{as_zero}
use Rattle.i9_model.specs.Hazards.{read_hazard}
use Rattle.i9_model.proofs.Legible.{byte_as, half_as, word_as, words_as}
use Rattle.i9_queue.specs.Behind.{settled}
use Rattle.i9_storage.specs.declared.storage.Storage.{Storage}
use Rattle.i9_storage.specs.Storage.{memory_in, legible_in, frames_in}
use Rattle.i9_storage.proofs.StoragePlans.{hard_byte, hard_half, hard_word, hard_words}

pub legible_soft : (s : Storage) (a : ℕ) → (frames_in s).soft a ≡ true → 0 ≡ (legible_in s).bytes a
legible_soft s a t = sym (ap (λ (b : Bool). cond b 0 ((memory_in s).bytes a)) t)

pub legible_hard : (s : Storage) (a : ℕ) → (frames_in s).soft a ≡ false → (settled s.behind).bytes a ≡ (legible_in s).bytes a
legible_hard s a t = hard_byte s.behind s.watch s.sets a s.kept t ∙ sym (byte_as (memory_in s) (frames_in s) as_zero a t)

pub legible_half-hard : (s : Storage) (a : ℕ) → a < 2 ^ 32 → read_hazard (frames_in s) a 2 ≡ None → half_in (settled s.behind) a ≡ half_in (legible_in s) a
legible_half-hard s a low none = hard_half s.behind s.watch s.sets a s.kept none ∙ sym (half_as (memory_in s) (frames_in s) as_zero a low none)

pub legible_word-hard : (s : Storage) (a : ℕ) → a < 2 ^ 32 → read_hazard (frames_in s) a 4 ≡ None → word_in (settled s.behind) a ≡ word_in (legible_in s) a
legible_word-hard s a low none = hard_word s.behind s.watch s.sets a s.kept none ∙ sym (word_as (memory_in s) (frames_in s) as_zero a low none)

pub legible_words-hard : (s : Storage) (a n : ℕ) → read_hazard (frames_in s) a (4 * n) ≡ None → words_in (settled s.behind) a n ≡ words_in (legible_in s) a n
legible_words-hard s a n none = hard_words s.behind s.watch s.sets a n s.kept none ∙ sym (words_as (memory_in s) (frames_in s) as_zero a n none)

pub ruleset legible_rules = (legible_soft, legible_hard, legible_half-hard, legible_word-hard, legible_words-hard)
