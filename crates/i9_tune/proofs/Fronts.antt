-- One more instruction before others.
use Rattle.std.proofs.Common.{◌≡◌, ℕ, ◌+◌, ◌<◌, Bool, false, ◌||◌, ◌&&◌, max, List, [], ◌∷◌, ◌++◌, length, take, slice_index_or, refl, sym, ap, ◌∙◌, subst, arith}
use Rattle.i9_model.proofs.KeptBits.{and_or}
use Rattle.std.specs.Prelude.{◌==◌, not, bit_and, bit_or}
use Rattle.std.specs.Int.{bit_at}
use Rattle.std.proofs.lemmas.Bool.Decides.{nat_tests}
use Rattle.std.proofs.lemmas.Nat.{and_comm, or_comm}
use Rattle.std.proofs.lemmas.Nat.Bits.{bit_at_or, bit_at-zero, same_from_bits}
use Rattle.std.proofs.lemmas.List.{take_more}
use Rattle.std.proofs.lemmas.List.Folds.{list_any-append}
use Rattle.i9_isa.specs.declared.inst.Inst.{Inst}
use Rattle.i9_model.specs.declared.need.Need.{Need}
use Rattle.i9_tune.specs.declared.front.Front.{Front}
use Rattle.i9_tune.specs.Fronts.{binds, IsFront}
use Rattle.i9_tune.specs.Greedy.{plain_need, depends, is_free}

-- ---- sets with something in common

abbrev share : ℕ → ℕ → Bool
share x y = not (bit_and x y == 0)

first_zero : (a b : ℕ) → bit_or a b ≡ 0 → a ≡ 0
first_zero a b h = same_from_bits a 0 (λ k.
    let none : max (bit_at a k) (bit_at b k) ≡ 0 = sym (bit_at_or a b k) ∙ ap (λ (n : ℕ). bit_at n k) h ∙ bit_at-zero k in
    let zero : bit_at a k ≡ 0 = omega (arith, none) in
    zero ∙ sym (bit_at-zero k))

second_zero : (a b : ℕ) → bit_or a b ≡ 0 → b ≡ 0
second_zero a b h = first_zero b a (or_comm b a ∙ h)

both_zero : (a b : ℕ) → a ≡ 0 → b ≡ 0 → bit_or a b ≡ 0
both_zero a b e f = rw (e, f) refl

share_or : (x y u : ℕ) → share (bit_or x y) u ≡ (share x u || share y u)
share_or x y u = ap (λ (n : ℕ). not (n == 0)) (and_or x y u) ∙ by_parts (bit_and x u) (bit_and y u)
  where
    by_parts : (a b : ℕ) → not (bit_or a b == 0) ≡ (not (a == 0) || not (b == 0))
    by_parts a b = grind (arith, nat_tests, first_zero a b, second_zero a b, both_zero a b)

share_with : (u x y : ℕ) → share u (bit_or x y) ≡ (share u x || share u y)
share_with u x y =
    ap (λ (n : ℕ). not (n == 0)) (and_comm u (bit_or x y)) ∙ share_or x y u
    ∙ ap (λ (n : ℕ). not (n == 0) || share y u) (and_comm x u) ∙ ap (λ (n : ℕ). share u x || not (n == 0)) (and_comm y u)

-- ---- one more

regroup : (a b c d p q r : Bool) → ((a || b) || (c || d) || ((p || q) && r)) ≡ ((a || c || (p && r)) || ((b || d || (q && r)) || false))
regroup a b c d p q r = grind arith

-- the front with an instruction more that needs this
abbrev pub with_need : Front → Need → Front
with_need f n = record {
  touched = bit_or f.touched (bit_or n.reads n.writes);
  written = bit_or f.written n.writes;
  request = f.request || n.request;
}

pub none_bound : IsFront [] (record { touched = 0; written = 0; request = false })
none_bound i = nothing (plain_need i)
  where
    nothing : (n : Need) → binds (record { touched = 0; written = 0; request = false }) n ≡ false
    nothing n = ap (λ (k : ℕ). not (k == 0) || false) (and_comm n.writes 0)

pub one_more : (before : List Inst) (i : Inst) (f : Front) (n : Need) → IsFront before f → n ≡ plain_need i → IsFront (before ++ i ∷ []) (with_need f n)
one_more before i f n front e j =
    let m = plain_need j in
    let p = plain_need i in
    let here : binds (with_need f n) m ≡ (binds f m || (depends i j || false)) =
    rw (share_or f.written n.writes (bit_or m.reads m.writes), share_with m.writes f.touched (bit_or n.reads n.writes), e)
    (regroup (share f.written (bit_or m.reads m.writes)) (share p.writes (bit_or m.reads m.writes)) (share m.writes f.touched) (share m.writes (bit_or p.reads p.writes)) f.request p.request m.request) in
    here ∙ ap (λ (b : Bool). b || (depends i j || false)) (front j) ∙ sym (list_any-append (λ (x : Inst). depends x j) before (i ∷ []))

-- ---- what a front says

-- whether one of a list depends on none before it, as its need says
pub free_is : (left : List Inst) (k : ℕ) (d : Inst) (f : Front) (n : Need) (bound b : Bool) → n ≡ plain_need (slice_index_or left k d) → IsFront (take k left) f
    → bound ≡ binds f n → bound ≡ b → is_free (take k left) (slice_index_or left k d) ≡ not b
free_is left k d f n bound b e front is test = ap not (sym (front (slice_index_or left k d)) ∙ ap (binds f) (sym e) ∙ sym is ∙ test)

-- as more of a list is looked at
pub front_more : (left : List Inst) (k : ℕ) (d : Inst) (n : Need) (old new : Front) → ((before : List Inst) (i : Inst) → IsFront before old → n ≡ plain_need i → IsFront (before ++ i ∷ []) new)
    → k < length left → n ≡ plain_need (slice_index_or left k d) → IsFront (take k left) old → IsFront (take (k + 1) left) new
front_more left k d n old new more within e front =
    subst (λ (xs : List Inst). IsFront xs new) (sym (take_more left k d within)) (more (take k left) (slice_index_or left k d) front e)
