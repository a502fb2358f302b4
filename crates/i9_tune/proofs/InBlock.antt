-- One more instruction of the block that stands in an image.
use Rattle.std.proofs.Common.{◌≡◌, ℕ, suc, ◌+◌, ◌-◌, ◌*◌, ◌<◌, ◌≤◌, List, [], ◌∷◌, ◌++◌, Option, Result, Ok, Err, refl, sym, ap, ◌∙◌, arith}
use Rattle.std.proofs.lemmas.List.{append-nil, append_assoc}
use Rattle.i9_isa.specs.declared.inst.Inst.{Inst}
use Rattle.i9_isa.specs.Words.{words_of}
use Rattle.i9_model.specs.Writes.{wrapped}
use Rattle.i9_tune.specs.declared.block.Flaw.{Flaw}
use Rattle.i9_tune.specs.declared.block.BlockFault.{BlockFault}
use Rattle.i9_tune.specs.Reading.{put_first, block_by, inst_at, block_at}

-- instructions before those behind them, or before the first fault
abbrev pub put_all : List Inst → Result (List Inst) BlockFault → Result (List Inst) BlockFault
put_all block (Ok is) = Ok (block ++ is)
put_all block (Err fault) = Err fault

-- so many of a block were read, and the others stand from this address on
abbrev pub IsRead : (ℕ → Option ℕ) → ℕ → ℕ → ℕ → List Inst → ℕ → Type 0
IsRead loaded n a k block at = block_at loaded n a ≡ put_all block (block_at loaded (n - k) at)

put_more : (block : List Inst) (i : Inst) (r : Result (List Inst) BlockFault) → put_all block (put_first i r) ≡ put_all (block ++ i ∷ []) r
put_more block i (Ok is) = ap (λ (js : List Inst). Ok js) (sym (append_assoc block (i ∷ []) is))
put_more block i (Err fault) = refl

-- what comes next
pub next_read : (loaded : ℕ → Option ℕ) (n a k : ℕ) (block : List Inst) (at : ℕ) (r : Result Inst Flaw) → k < n → r ≡ inst_at loaded at → IsRead loaded n a k block at
    → block_at loaded n a ≡ put_all block (block_by at r (λ i. block_at loaded (n - (k + 1)) (wrapped (at + 4 * words_of i))))
unfolding block_at
next_read loaded n a k block at r lt is read =
    let left : n - k ≡ suc (n - (k + 1)) = omega (arith, lt) in
    read ∙ rw (left, is) refl

pub one_read : (loaded : ℕ → Option ℕ) (n a k : ℕ) (block : List Inst) (at next : ℕ) (i : Inst) → k < n → Ok i ≡ inst_at loaded at → next ≡ wrapped (at + 4 * words_of i) → IsRead loaded n a k block at
    → IsRead loaded n a (k + 1) (block ++ i ∷ []) next
one_read loaded n a k block at next i lt is there read =
    next_read loaded n a k block at (Ok i) lt is read ∙ rw there (put_more block i (block_at loaded (n - (k + 1)) (wrapped (at + 4 * words_of i))))

pub all_read : (loaded : ℕ → Option ℕ) (n a k : ℕ) (block : List Inst) (at : ℕ) → n ≤ k → IsRead loaded n a k block at → block_at loaded n a ≡ Ok block
unfolding block_at
all_read loaded n a k block at le read =
    let none : n - k ≡ 0 = omega (arith, le) in
    read ∙ rw (none, append-nil) refl
