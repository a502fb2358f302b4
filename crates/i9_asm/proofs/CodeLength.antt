-- One byte more before a comment.
use Rattle.std.proofs.Common.{◌≡◌, ℕ, ◌+◌, ◌<◌, true, false, nat_eq, List, [], ◌∷◌, length, drop, get_or, refl, add-one, drop-cons, arith}
use Rattle.i9_asm.specs.declared.comments.Quote.{Quote}
use Rattle.std.specs.List.{list_any}
use Rattle.std.proofs.lemmas.Bool.{or_parts}
use Rattle.i9_asm.specs.Lines.{hash, next_quote, is_comment, code_len}

pub code_len-on : (m : Quote) (xs : List ℕ) (i : ℕ) → i < length xs → is_comment m (get_or xs i 0) ≡ false → i + code_len m (drop i xs) ≡ (i + 1) + code_len (next_quote m (get_or xs i 0)) (drop (i + 1) xs)
unfolding code_len
code_len-on m xs i lt other = grind (arith, add-one, drop-cons)

pub code_len-end : (m : Quote) (xs : List ℕ) (i : ℕ) → i < length xs → is_comment m (get_or xs i 0) ≡ true → i + code_len m (drop i xs) ≡ i
unfolding code_len
code_len-end m xs i lt here = grind (arith, drop-cons)

no_comment : (m : Quote) (b : ℕ) → nat_eq b hash ≡ false → is_comment m b ≡ false
no_comment m b h = grind arith

-- a line without `#` has no comment
pub code_len-whole : (m : Quote) (xs : List ℕ) → list_any (λ b. nat_eq b hash) xs ≡ false → code_len m xs ≡ length xs
unfolding code_len
code_len-whole m [] h = refl
code_len-whole m (b ∷ xs) h =
    let parts = or_parts (nat_eq b hash) (list_any (λ x. nat_eq x hash) xs) h in
    rw (no_comment m b parts.0, code_len-whole (next_quote m b) xs parts.1) (omega arith)
