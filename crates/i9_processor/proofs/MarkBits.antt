-- The marks of registers, as bits of a word, once some registers are set.
use Rattle.std.proofs.Common.{◌≡◌, ◌≢◌, ℕ, zero, suc, ◌+◌, ◌-◌, ◌*◌, ◌/◌, ◌%◌, ◌^◌, ◌<◌, ◌≤◌, Bool, true, false, cond, List, [], ◌∷◌, length, map, nat_lt, ◌⊎◌, add-zero, zero-add, refl, sym, ap, ◌∙◌, inl, inr, arith, bit_and}
use Rattle.std.specs.Prelude.{◌==◌, ◌&&◌, ◌||◌, not, get_or, bit_or}
use Rattle.std.specs.List.{range_with_len}
use Rattle.std.specs.Int.{w16, w64, bit_at, bit_not}
use Rattle.std.proofs.lemmas.Bool.{cases_lt, eqb-true, eq-eqb, ne_eqb}
use Rattle.std.proofs.lemmas.Bool.Decides.{nat_tests}
use Rattle.std.proofs.lemmas.List.FromFn.{length-map-range_with_len, get_or-map-range_with_len, fill_by_all}
use Rattle.std.proofs.Math.Nat.{mod-eq_of_lt}
use Rattle.std.proofs.Math.Pow.{pow_mono}
use Rattle.std.proofs.lemmas.Nat.{pow_pos, pow-add, mul-add-lt, one_shl, div-add-mod', and_le_l, and_le_r, or_lt}
use Rattle.std.proofs.lemmas.Nat.Bits.{bit_at-zero, bit_at-lt, bit_at_and, bit_at_or, bit_at_not, bit_at_clear_other, bit_at_ones, bit_at_ones_above, bit_at_above, bit_at_cat_low, bit_at_cat_high, bit_at_mask_inside, bit_at_mask_below, bit_at_mask_above, same_from_bits_below}
use Rattle.i9_isa.specs.Words.{bit}
use Rattle.i9_model.specs.declared.layout.TheConstants.{LOCALS, FP, RIP}
use Rattle.i9_model.specs.Writes.{wrapped, pairs_at}
use Rattle.i9_model.specs.State.{State, frame_sets}
use Rattle.i9_model.specs.Frames.{has, is_put}
use Rattle.i9_model.specs.Controls.{marks_after}
use Rattle.i9_model.specs.Stale.{picked, saved_mark, saved_marks}
use Rattle.i9_model.specs.Needs.{set_below}
use Rattle.i9_watch.specs.Bits.{bits_of}
use Rattle.i9_watch.proofs.SetBits.{set-from_bits}
use Rattle.i9_processor.specs.declared.effect.Effect.{Effect}
use Rattle.i9_processor.specs.Effect.{stale_in}
use Rattle.i9_processor.proofs.Appending.{put_append}

-- ---- bits in a row

bits_long : (w n : ℕ) → length (bits_of w n) ≡ n
bits_long w n = length-map-range_with_len (bit w) 0 n

bit_here : (w n j : ℕ) → j < n → get_or (bits_of w n) j false ≡ bit w j
bit_here w n j h = get_or-map-range_with_len (bit w) 0 n j j false h (zero-add j)

-- ---- places in a row, and those among them that are marked

abbrev group : ℕ → List ℕ → List (ℕ × ℕ)
group r vs = pairs_at (λ k. k) r vs

abbrev marks : ℕ → List Bool → List ℕ
marks r bs = picked (λ k. k) r bs

put_before : (r : ℕ) (vs : List ℕ) (k : ℕ) → k < r → is_put (group r vs) k ≡ false
unfolding is_put
put_before r [] k h = refl
put_before r (v ∷ vs) k h = grind (arith, ne_eqb, put_before (r + 1) vs k (omega (arith, h)))

put_past : (r : ℕ) (vs : List ℕ) (k : ℕ) → r + length vs ≤ k → is_put (group r vs) k ≡ false
unfolding is_put
put_past r [] k h = refl
put_past r (v ∷ vs) k h = grind (arith, ne_eqb, put_past (r + 1) vs k (omega (arith, h)))

put_here : (r : ℕ) (vs : List ℕ) (j : ℕ) → j < length vs → is_put (group r vs) (r + j) ≡ true
unfolding is_put
put_here r [] j h = absurd (omega (arith, h))
put_here r (v ∷ vs) zero h = let same : (r + 0 == r) ≡ true = eq-eqb (r + 0) r (add-zero r) in ap (λ (b : Bool). b || is_put (group (r + 1) vs) (r + 0)) same
put_here r (v ∷ vs) (suc j) h = grind (arith, ne_eqb, put_here (r + 1) vs j (omega (arith, h)))

has_before : (r : ℕ) (bs : List Bool) (k : ℕ) → k < r → has (marks r bs) k ≡ false
has_before r [] k h = refl
has_before r (false ∷ bs) k h = has_before (r + 1) bs k (omega (arith, h))
has_before r (true ∷ bs) k h = grind (arith, ne_eqb, has_before (r + 1) bs k (omega (arith, h)))

has_past : (r : ℕ) (bs : List Bool) (k : ℕ) → r + length bs ≤ k → has (marks r bs) k ≡ false
has_past r [] k h = refl
has_past r (false ∷ bs) k h = has_past (r + 1) bs k (omega (arith, h))
has_past r (true ∷ bs) k h = grind (arith, ne_eqb, has_past (r + 1) bs k (omega (arith, h)))

has_here : (r : ℕ) (bs : List Bool) (j : ℕ) → j < length bs → has (marks r bs) (r + j) ≡ get_or bs j false
has_here r [] j h = absurd (omega (arith, h))
has_here r (false ∷ bs) zero h = has_before (r + 1) bs (r + 0) (omega arith)
has_here r (true ∷ bs) zero h = let same : (r + 0 == r) ≡ true = eq-eqb (r + 0) r (add-zero r) in ap (λ (b : Bool). b || has (marks (r + 1) bs) (r + 0)) same
has_here r (b ∷ bs) (suc j) h = grind (arith, ne_eqb, has_here (r + 1) bs j (omega (arith, h)))

-- ---- the marks afterwards

stays : (m : ℕ → Bool) (sets : List (ℕ × ℕ)) (marked : List ℕ) (k : ℕ) → has marked k ≡ false → is_put sets k ≡ false → marks_after m sets marked k ≡ m k
stays m sets marked k none beside = grind arith

is_set : (m : ℕ → Bool) (sets : List (ℕ × ℕ)) (marked : List ℕ) (k : ℕ) → is_put sets k ≡ true → marks_after m sets marked k ≡ has marked k
is_set m sets marked k put = grind arith

-- ---- bits of a word of which some are replaced

-- those where the mask has a bit stay, and the others come from a second word
kept_bit : (m mask s k : ℕ) → bit_at mask k ≡ 1 → bit_at s k ≡ 0 → bit (bit_or (bit_and m mask) s) k ≡ bit m k
kept_bit m mask s k one none = grind (arith, bit_at_and, bit_at-lt, bit_at_or)

new_bit : (m mask s k : ℕ) → bit_at mask k ≡ 0 → bit (bit_or (bit_and m mask) s) k ≡ bit s k
new_bit m mask s k none = grind (arith, bit_at_and, bit_at_or)

past_bit : (m mask s k : ℕ) → bit_at m k ≡ 0 → bit_at s k ≡ 0 → bit (bit_or (bit_and m mask) s) k ≡ bit m k
past_bit m mask s k clear none = grind (arith, bit_at_and, bit_at_or)

shifted_low : (a r k : ℕ) → k < r → bit_at (a * 2 ^ r) k ≡ 0
shifted_low a r k h = ap (λ (n : ℕ). bit_at n k) (sym (add-zero (a * 2 ^ r))) ∙ bit_at_cat_low a r 0 k h ∙ bit_at-zero k

shifted_high : (a r k : ℕ) → r ≤ k → bit_at (a * 2 ^ r) k ≡ bit_at a (k - r)
shifted_high a r k h = ap (λ (n : ℕ). bit_at n k) (sym (add-zero (a * 2 ^ r))) ∙ bit_at_cat_high a r 0 k (pow_pos r) h

-- ---- a group of registers

-- so many ones from bit r on
abbrev ones : ℕ → ℕ → ℕ
ones r n = (2 ^ n - 1) * 2 ^ r

-- bits of a word from bit r on
abbrev moved : ℕ → ℕ → ℕ → ℕ
moved new r n = bit_and new (2 ^ n - 1) * 2 ^ r

abbrev replaced : ℕ → ℕ → ℕ → ℕ → ℕ
replaced m new r n = bit_or (bit_and m (bit_not w64 (ones r n))) (moved new r n)

past_moved : (new r n k : ℕ) → r + n ≤ k → bit_at (moved new r n) k ≡ 0
past_moved new r n k h = grind (arith, bit_at_and, bit_at_ones_above, shifted_high)

here_moved : (new r n j : ℕ) → j < n → bit_at (moved new r n) (r + j) ≡ bit_at new j
here_moved new r n j h = grind (arith, bit_at_and, bit_at_ones, bit_at-lt, shifted_high)

pub group_marks : (m new r n : ℕ) (ws : List ℕ) → m < 2 ^ 32 → ones r n < 2 ^ 64 → r + n ≤ 32 → length ws ≡ n
    → bit (replaced m new r n) ≡ marks_after (bit m) (group r ws) (marks r (bits_of new n))
group_marks m new r n ws low fits few long = λ i k. at k i
  where
    bs : List Bool
    bs = bits_of new n

    bs_long : length bs ≡ n
    bs_long = bits_long new n

    flipped : (k : ℕ) → k < 64 → bit_at (bit_not w64 (ones r n)) k ≡ 1 - bit_at (ones r n) k
    flipped k h = bit_at_not w64 (ones r n) k fits h

    before : (k : ℕ) → k < r → bit (replaced m new r n) k ≡ marks_after (bit m) (group r ws) (marks r bs) k
    before k h =
        let none = shifted_low (2 ^ n - 1) r k h in
        let one : bit_at (bit_not w64 (ones r n)) k ≡ 1 = flipped k (omega (arith, h, few)) ∙ omega (arith, none) in
        kept_bit m (bit_not w64 (ones r n)) (moved new r n) k one (shifted_low (bit_and new (2 ^ n - 1)) r k h)
        ∙ sym (stays (bit m) (group r ws) (marks r bs) k (has_before r bs k h) (put_before r ws k h))

    by_width : (k : ℕ) → r + n ≤ k → (k < 64) ⊎ (64 ≤ k) → bit (replaced m new r n) k ≡ bit m k
    by_width k h (inl less) =
        let none = shifted_high (2 ^ n - 1) r k (omega (arith, h)) ∙ bit_at_ones_above n (k - r) (omega (arith, h)) in
        kept_bit m (bit_not w64 (ones r n)) (moved new r n) k (flipped k less ∙ omega (arith, none)) (past_moved new r n k h)
    by_width k h (inr more) = past_bit m (bit_not w64 (ones r n)) (moved new r n) k (bit_at_above m 32 k low (omega (arith, more))) (past_moved new r n k h)

    past : (k : ℕ) → r + n ≤ k → bit (replaced m new r n) k ≡ marks_after (bit m) (group r ws) (marks r bs) k
    past k h =
        by_width k h (cases_lt k 64)
        ∙ sym (stays (bit m) (group r ws) (marks r bs) k (has_past r bs k (omega (arith, h, bs_long))) (put_past r ws k (omega (arith, h, long))))

    here : (j : ℕ) → j < n → bit (replaced m new r n) (r + j) ≡ marks_after (bit m) (group r ws) (marks r bs) (r + j)
    here j h =
        let back : r + j - r ≡ j = omega arith in
        let one = shifted_high (2 ^ n - 1) r (r + j) (omega arith) ∙ ap (bit_at (2 ^ n - 1)) back ∙ bit_at_ones n j h in
        let none : bit_at (bit_not w64 (ones r n)) (r + j) ≡ 0 = flipped (r + j) (omega (arith, h, few)) ∙ omega (arith, one) in
        new_bit m (bit_not w64 (ones r n)) (moved new r n) (r + j) none
        ∙ ap (λ (b : ℕ). b == 1) (here_moved new r n j h)
        ∙ sym (is_set (bit m) (group r ws) (marks r bs) (r + j) (put_here r ws j (omega (arith, h, long)))
        ∙ has_here r bs j (omega (arith, h, bs_long)) ∙ bit_here new n j h)

    at : (k : ℕ) → bit (replaced m new r n) k ≡ marks_after (bit m) (group r ws) (marks r bs) k
    at k = elim (cases_lt k r) [
      | inl low ↦ before k low
      | inr from ↦ elim (cases_lt k (r + n)) [
        | inl inside ↦
            let place : r + (k - r) ≡ k = omega (arith, from) in
            ap (bit (replaced m new r n)) (sym place) ∙ here (k - r) (omega (arith, from, inside)) ∙ ap (marks_after (bit m) (group r ws) (marks r bs)) place
        | inr beyond ↦ past k beyond
      ]
    ]

-- ---- as it is computed

small : (x r n : ℕ) → x < 2 ^ n → r + n ≤ 32 → x * 2 ^ r < 2 ^ 32
small x r n h few =
    let less = mul-add-lt x (2 ^ r) 0 (2 ^ n) h (pow_pos r) in
    let all = pow-add 2 r n in
    let most : 2 ^ (r + n) ≤ 2 ^ 32 = pow_mono few in
    omega (arith, less, all, most)

below_ones : (n : ℕ) → 2 ^ n - 1 < 2 ^ n
below_ones n = let some = pow_pos n in omega (arith, some)

pub ones_small : (r n : ℕ) → r + n ≤ 32 → ones r n < 2 ^ 32
ones_small r n few = small (2 ^ n - 1) r n (below_ones n) few

moved_small : (new r n : ℕ) → r + n ≤ 32 → moved new r n < 2 ^ 32
moved_small new r n few = grind (arith, and_le_r, below_ones, small)

-- the word, from the mask of so many ones
abbrev computed : ℕ → ℕ → ℕ → ℕ → ℕ
computed m new r g = bit_or (bit_and m (bit_not w64 (g * 2 ^ r % 2 ^ 64))) (bit_and new g * 2 ^ r % 2 ^ 64)

pub computed_is : (m new r n : ℕ) → r + n ≤ 32 → computed m new r (1 * 2 ^ n % 2 ^ 64 - 1) ≡ replaced m new r n
computed_is m new r n few =
    grind (arith, ones_small, and_le_r, pow_pos, mul-add-lt, pow-add, pow_mono, one_shl, mod-eq_of_lt)

pub replaced_small : (m new r n : ℕ) → m < 2 ^ 32 → r + n ≤ 32 → replaced m new r n < 2 ^ 32
replaced_small m new r n low few =
    let left = and_le_l m (bit_not w64 (ones r n)) in
    or_lt 32 (bit_and m (bit_not w64 (ones r n))) (moved new r n) (omega (arith, left, low)) (moved_small new r n few)

-- ---- the registers of a frame

put_pointer : (fp : ℕ) → is_put ((FP, fp) ∷ []) FP ≡ true
unfolding is_put
put_pointer fp = refl

put_beside : (fp k : ℕ) → (k ≡ FP → ⊥) → is_put ((FP, fp) ∷ []) k ≡ false
unfolding is_put
put_beside fp k apart = ap (λ (b : Bool). b || false) (ne_eqb k FP apart)

-- the marks of the others
abbrev pub beside_frame : ℕ
beside_frame = 2147418112

pub frame_marks : (m new : ℕ) (locals : List ℕ) (fp : ℕ) → m < 2 ^ 32 → new < 2 ^ 16 → length locals ≡ LOCALS
    → bit (bit_or (bit_and m beside_frame) new) ≡ marks_after (bit m) (frame_sets locals fp) (marks 0 (bits_of new LOCALS))
frame_marks m new locals fp low few long = λ i k. at k i
  where
    sets : List (ℕ × ℕ)
    sets = frame_sets locals fp

    bs : List Bool
    bs = bits_of new LOCALS

    result : ℕ
    result = bit_or (bit_and m beside_frame) new

    past_none : (k : ℕ) → LOCALS ≤ k → bit_at new k ≡ 0
    past_none k h = bit_at_above new 16 k few h

    put : (k : ℕ) → is_put sets k ≡ (is_put (group 0 locals) k || is_put ((FP, fp) ∷ []) k)
    put k = put_append (group 0 locals) ((FP, fp) ∷ []) k

    local : (k : ℕ) → k < LOCALS → bit result k ≡ marks_after (bit m) sets (marks 0 bs) k
    local k h =
        let here = put_here 0 locals k (omega (arith, h, long)) in
        let set : is_put sets k ≡ true = put k ∙ ap (λ (b : Bool). b || is_put ((FP, fp) ∷ []) k) (ap (is_put (group 0 locals)) (sym (zero-add k)) ∙ here) in
        new_bit m beside_frame new k (bit_at_mask_below 16 31 k h)
        ∙ sym (is_set (bit m) sets (marks 0 bs) k set ∙ ap (has (marks 0 bs)) (sym (zero-add k)) ∙ has_here 0 bs k h ∙ bit_here new LOCALS k h)

    -- beside the locals, where fp is not either
    other : (k : ℕ) → LOCALS ≤ k → (k ≡ FP → ⊥) → marks_after (bit m) sets (marks 0 bs) k ≡ bit m k
    other k h apart = stays (bit m) sets (marks 0 bs) k (has_past 0 bs k h) (put k ∙ ap (λ (b : Bool). b || is_put ((FP, fp) ∷ []) k) (put_past 0 locals k (omega (arith, h, long))) ∙ put_beside fp k apart)

    global : (k : ℕ) → LOCALS ≤ k → k < FP → bit result k ≡ marks_after (bit m) sets (marks 0 bs) k
    global k h less =
        kept_bit m beside_frame new k (bit_at_mask_inside 16 31 k h less) (past_none k h)
        ∙ sym (other k h (λ e. omega (arith, less, e)))

    pointer : bit result FP ≡ marks_after (bit m) sets (marks 0 bs) FP
    pointer =
        let set : is_put sets FP ≡ true = put FP ∙ ap (λ (b : Bool). b || is_put ((FP, fp) ∷ []) FP) (put_past 0 locals FP (omega (arith, long))) ∙ put_pointer fp in
        new_bit m beside_frame new FP (bit_at_mask_above 16 31 FP (omega arith))
        ∙ ap (λ (n : ℕ). n == 1) (past_none FP (omega arith))
        ∙ sym (is_set (bit m) sets (marks 0 bs) FP set ∙ has_past 0 bs FP (omega arith))

    beyond : (k : ℕ) → FP < k → bit result k ≡ marks_after (bit m) sets (marks 0 bs) k
    beyond k h =
        past_bit m beside_frame new k (bit_at_above m 32 k low (omega (arith, h))) (past_none k (omega (arith, h)))
        ∙ sym (other k (omega (arith, h)) (λ e. omega (arith, h, e)))

    at : (k : ℕ) → bit result k ≡ marks_after (bit m) sets (marks 0 bs) k
    at k = elim (cases_lt k LOCALS) [
      | inl low ↦ local k low
      | inr from ↦ elim (cases_lt k FP) [
        | inl less ↦ global k from less
        | inr more ↦ elim (cases_lt FP k) [
          | inl past ↦ beyond k past
          | inr same ↦
              let here : FP ≡ k = omega (arith, more, same) in
              ap (bit result) (sym here) ∙ pointer ∙ ap (marks_after (bit m) sets (marks 0 bs)) here
        ]
      ]
    ]

-- ---- the locals that a push saves

-- the low bits, but for that of the return address
abbrev saved_word : ℕ → ℕ
saved_word m = bit_and (m % 65536) 65531

low_bit : (m k : ℕ) → k < 16 → bit_at (m % 2 ^ 16) k ≡ bit_at m k
low_bit m k h = sym (bit_at_cat_low (m / 2 ^ 16) 16 (m % 2 ^ 16) k h) ∙ ap (λ (n : ℕ). bit_at n k) (div-add-mod' m (2 ^ 16))

pub return_bit : (m : ℕ) → bit (saved_word m) RIP ≡ false
return_bit m =
    let both = bit_at_and (m % 65536) 65531 RIP in
    let none : bit_at (saved_word m) RIP ≡ 0 = omega (arith, both) in
    ap (λ (n : ℕ). n == 1) none

saved_bit : (m k : ℕ) → k < 16 → bit (saved_word m) k ≡ cond (k == RIP) false (bit m k)
saved_bit m k h = by_place (k == RIP) refl
  where
    by_place : (b : Bool) → (k == RIP) ≡ b → bit (saved_word m) k ≡ cond b false (bit m k)
    by_place true t = ap (bit (saved_word m)) (eqb-true k RIP t) ∙ return_bit m
    by_place false t =
        let other : k ≢ RIP = λ e. grind (arith, nat_tests, t, e) in
        ap (λ (n : ℕ). n == 1) (bit_at_clear_other w16 (m % 65536) RIP (omega arith) k h other ∙ low_bit m k h)

pub saved_bits : (m : ℕ) (s : State) → s.marks ≡ bit m → bits_of (saved_word m) LOCALS ≡ saved_marks s
saved_bits m s same =
    fill_by_all (saved_mark s) (bits_of (saved_word m) LOCALS) LOCALS false (bits_long (saved_word m) LOCALS) (λ k h.
    bit_here (saved_word m) LOCALS k h ∙ saved_bit m k h ∙ ap (λ (f : ℕ → Bool). cond (k == RIP) false (f k)) (sym same))

-- ---- bytes that get marks

-- where none of so many bits is set, all are clear
none_set : (a w n k : ℕ) → picked wrapped a (map (bit w) (range_with_len k n)) ≡ [] → (j : ℕ) → j < n → bit w (k + j) ≡ false
none_set a w zero k none j h = absurd (omega (arith, h))
none_set a w (suc n) k none j h = by_first (bit w k) refl none (λ later i. none_set (a + 1) w n (k + 1) later i) j h
  where
    here : k + 0 ≡ k
    here = omega arith

    by_first : (b : Bool) → bit w k ≡ b → cond b (wrapped a ∷ picked wrapped (a + 1) (map (bit w) (range_with_len (k + 1) n))) (picked wrapped (a + 1) (map (bit w) (range_with_len (k + 1) n))) ≡ []
        → (picked wrapped (a + 1) (map (bit w) (range_with_len (k + 1) n)) ≡ [] → (i : ℕ) → i < n → bit w (k + 1 + i) ≡ false) → (j : ℕ) → j < suc n → bit w (k + j) ≡ false
    by_first true t none later j h = absurd cc
    by_first false t none later zero h = ap (bit w) here ∙ t
    by_first false t none later (suc j) h =
        let next : k + suc j ≡ k + 1 + j = omega arith in
        ap (bit w) next ∙ later none j (omega (arith, h))

clear_bit : (w j : ℕ) → bit w j ≡ false → bit_at w j ≡ bit_at 0 j
clear_bit w j clear = grind arith

-- an effect whose marks are not 0 marks some byte
pub some_stale : (e : Effect) → e.stale ≢ 0 → stale_in e ≢ []
some_stale e some none =
    let n = length e.bytes.items in
    let fits = (e.marked some).some in
    some (same_from_bits_below n e.stale 0 fits (pow_pos n) (λ j h.
    let from : j ≡ 0 + j = omega arith in
    clear_bit e.stale j (ap (bit e.stale) from ∙ none_set e.address e.stale n 0 none j h)))

-- ---- no register, one, and all

-- where none is set all marks stay
pub marks_stay : (m : ℕ → Bool) → marks_after m [] [] ≡ m
unfolding is_put
marks_stay m = λ i k. stays m [] [] k refl refl i

-- there are no others
pub mark_past : (m r : ℕ) → m < 2 ^ 32 → 32 ≤ r → bit m r ≡ false
mark_past m r low high = ap (λ (n : ℕ). n == 1) (bit_at_above m 32 r low high)

pub marks_number : (m : ℕ) → m < 2 ^ 32 → m ≡ set_below 32 (bit m)
marks_number m low = set-from_bits 32 m (bit m) low (λ k. by_place k (cases_lt k 32))
  where
    by_place : (k : ℕ) → (k < 32) ⊎ (32 ≤ k) → bit m k ≡ (nat_lt k 32 && bit m k)
    by_place k (inl less) =
        let here : nat_lt k 32 ≡ true = grind (arith, nat_tests, less) in sym (ap (λ (b : Bool). b && bit m k) here)
    by_place k (inr more) =
        let past : nat_lt k 32 ≡ false = grind (arith, nat_tests, more) in mark_past m k low more ∙ sym (ap (λ (b : Bool). b && bit m k) past)

-- where nothing is marked, and nothing gets a mark, nothing is marked behind
pub none_marked : (sets : List (ℕ × ℕ)) → bit 0 ≡ marks_after (bit 0) sets []
none_marked sets = grind arith
