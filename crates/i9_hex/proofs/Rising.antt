-- Pairs in the order of their addresses, and what they say.
use Rattle.std.specs.Prelude.{⊤}
use Rattle.std.proofs.Common.{◌≡◌, ℕ, suc, ◌+◌, ◌<◌, ◌≤◌, Bool, true, false, eqb, ltb, cond, List, [], ◌∷◌, length, get_or, Option, Some, None, refl, sym, ap, subst, ◌∙◌, arith, inl, inr}
use Rattle.std.specs.List.{filter, All, AllByRecursion}
use Rattle.std.specs.List.Sorted.{IsNonDecreasingBy, IsStableByKey, ties}
use Rattle.std.specs.Ordering.{nat_cmp, is_lt}
use Rattle.std.proofs.lemmas.Bool.{cases_lt, ne_eqb}
use Rattle.i9_model.proofs.Upwards.{or_none as or_nothing}
use Rattle.i9_model.specs.Writes.{or_earlier, last_put}
use Rattle.i9_hex.specs.Runs.{SaySameBytes}
use Rattle.i9_hex.specs.Pairs.{IsPlaced, begins_at}

-- ---- what is said of one address

-- what one pair says of an address
abbrev pub said_by : ℕ × ℕ → ℕ → Option ℕ
said_by p a = cond (eqb a p.0) (Some p.1) None

says_other : (p : ℕ × ℕ) (a : ℕ) → (a ≡ p.0 → ⊥) → said_by p a ≡ None
says_other p a other = rw (ne_eqb a p.0 other) refl

-- ---- pairs whose addresses rise, from a number on

abbrev pub Rises : ℕ → List (ℕ × ℕ) → Type 0
Rises n [] = ⊤
Rises n (p ∷ ps) = (n ≤ p.0) × Rises (p.0 + 1) ps

pub rises-from : (m n : ℕ) (ps : List (ℕ × ℕ)) → m ≤ n → Rises n ps → Rises m ps
rises-from m n [] le h = tt
rises-from m n (p ∷ ps) le h = (omega (arith, h.0), h.1)

-- of what lies below, they say nothing
pub rises-below : (n a : ℕ) (ps : List (ℕ × ℕ)) → Rises n ps → a < n → last_put ps a ≡ None
unfolding last_put
rises-below n a [] h low = refl
rises-below n a (p ∷ ps) h low = grind (arith, says_other, rises-below (p.0 + 1) a ps h.1 (omega (arith, h.0)))

rises-head : (n : ℕ) (p : ℕ × ℕ) (ps : List (ℕ × ℕ)) → Rises n (p ∷ ps) → last_put (p ∷ ps) p.0 ≡ Some p.1
unfolding last_put
rises-head n p ps h = grind (arith, rises-below)

rises-rest : (n a : ℕ) (p : ℕ × ℕ) (ps : List (ℕ × ℕ)) → Rises n (p ∷ ps) → p.0 < a → last_put (p ∷ ps) a ≡ last_put ps a
unfolding last_put
rises-rest n a p ps h above = rw (says_other p a (λ e. omega arith)) (or_nothing (last_put ps a))

-- pairs that rise are known by what they say
pub rises_once : (n : ℕ) (ps qs : List (ℕ × ℕ)) → Rises n ps → Rises n qs → SaySameBytes ps qs → ps ≡ qs
unfolding last_put
rises_once n [] [] h g same = refl
rises_once n [] (q ∷ qs) h g same = absurd (cc (same q.0, rises-head n q qs g))
rises_once n (p ∷ ps) [] h g same = absurd (cc (same p.0, rises-head n p ps h))
rises_once n (p ∷ ps) (q ∷ qs) h g same = elim (cases_lt p.0 q.0) [
  | inl lt ↦ absurd (cc (rises-below q.0 p.0 (q ∷ qs) (omega arith, g.1) lt, same p.0, rises-head n p ps h))
  | inr le ↦ elim (cases_lt q.0 p.0) [
    | inl gt ↦ absurd (cc (rises-below p.0 q.0 (p ∷ ps) (omega arith, h.1) gt, same q.0, rises-head n q qs g))
    | inr ge ↦
        let e : p.0 ≡ q.0 = omega arith in
        let v : p.1 ≡ q.1 = cc (rises-head n p ps h, same p.0, ap (last_put (q ∷ qs)) e, rises-head n q qs g) in
        let rest : SaySameBytes ps qs = λ a. elim (cases_lt p.0 a) [
          | inl above ↦ sym (rises-rest n a q qs g (omega arith)) ∙ same a ∙ rises-rest n a p ps h above
          | inr below ↦ rises-below (q.0 + 1) a qs g.1 (omega arith) ∙ sym (rises-below (p.0 + 1) a ps h.1 (omega arith))
        ] in
        same_cons p q ps qs e v (rises_once (p.0 + 1) ps qs h.1 (subst (λ k. Rises (k + 1) qs) (sym e) g.1) rest)
  ]
]
  where
    same_cons : (x y : ℕ × ℕ) (xs ys : List (ℕ × ℕ)) → x.0 ≡ y.0 → x.1 ≡ y.1 → xs ≡ ys → x ∷ xs ≡ y ∷ ys
    same_cons x y xs ys e v t = ap (λ a. (a, x.1) ∷ xs) e ∙ ap (λ b. (y.0, b) ∷ xs) v ∙ ap (λ zs. y ∷ zs) t

-- ---- bytes at addresses

abbrev pub ArePlaced : List (ℕ × ℕ) → Type 0
ArePlaced ps = AllByRecursion IsPlaced ps

pub are_placed : (ps : List (ℕ × ℕ)) → All IsPlaced ps → ArePlaced ps
are_placed [] h = tt
are_placed (p ∷ ps) h = (h 0 p (omega arith), are_placed ps (λ k d lt. h (suc k) d (omega arith)))

-- ---- pairs in order, of which the later counts

-- the pairs that count, where those with one address stand together
abbrev pub kept : List (ℕ × ℕ) → List (ℕ × ℕ)
kept [] = []
kept (p ∷ ps) = cond (begins_at ps p.0) (kept ps) (p ∷ kept ps)

-- addresses that don't fall
abbrev pub Climbs : ℕ → List (ℕ × ℕ) → Type 0
Climbs n [] = ⊤
Climbs n (p ∷ ps) = (n ≤ p.0) × Climbs p.0 ps

climbs-from : (m n : ℕ) (ps : List (ℕ × ℕ)) → m ≤ n → Climbs n ps → Climbs m ps
climbs-from m n [] le h = tt
climbs-from m n (p ∷ ps) le h = (omega (arith, h.0), h.1)

climbs-past : (a : ℕ) (ps : List (ℕ × ℕ)) → begins_at ps a ≡ false → Climbs a ps → Climbs (a + 1) ps
climbs-past a ps other h = grind arith

pub kept_rises : (n : ℕ) (ps : List (ℕ × ℕ)) → Climbs n ps → Rises n (kept ps)
kept_rises n [] h = tt
kept_rises n (p ∷ ps) h =
    grind (arith, kept_rises n ps (climbs-from n p.0 ps h.0 h.1), kept_rises (p.0 + 1) ps, climbs-past p.0 ps)

pub kept_placed : (ps : List (ℕ × ℕ)) → ArePlaced ps → ArePlaced (kept ps)
kept_placed [] h = tt
kept_placed (p ∷ ps) h = grind (arith, kept_placed ps h.1)

hidden : (a : ℕ) (p : ℕ × ℕ) (ps : List (ℕ × ℕ)) → begins_at ps p.0 ≡ true → last_put (p ∷ ps) a ≡ last_put ps a
unfolding last_put
hidden a p ps begins = grind arith

pub kept_says : (ps : List (ℕ × ℕ)) → SaySameBytes ps (kept ps)
unfolding last_put
kept_says [] a = refl
kept_says (p ∷ ps) a = grind (arith, kept_says ps a, hidden a p ps)

-- ---- a stable sort

tied : (a : ℕ) (p : ℕ × ℕ) → ties (λ (x y : ℕ × ℕ). is_lt (nat_cmp x.0 y.0)) (a, 0) p ≡ eqb a p.0
tied a p = grind arith

-- what is said of an address is said by its own pairs
own_say : (a : ℕ) (t : ℕ × ℕ → Bool) (ps : List (ℕ × ℕ)) → ((p : ℕ × ℕ) → t p ≡ eqb a p.0) → last_put (filter t ps) a ≡ last_put ps a
unfolding last_put
own_say a t [] is = refl
own_say a t (p ∷ ps) is = grind (arith, own_say a t ps is, is p, or_nothing (last_put ps a))

-- a stable sort by address says the same bytes
pub stable_says : (ps qs : List (ℕ × ℕ)) → IsStableByKey (λ (p : ℕ × ℕ). p.0) nat_cmp ps qs → SaySameBytes ps qs
stable_says ps qs stable a =
    let t = ties (λ (x y : ℕ × ℕ). is_lt (nat_cmp x.0 y.0)) (a, 0) in
    sym (own_say a t qs (tied a)) ∙ ap (λ l. last_put l a) (stable (a, 0)) ∙ own_say a t ps (tied a)

pub climbs_sorted : (n : ℕ) (ps : List (ℕ × ℕ)) → ((k : ℕ) (d : ℕ × ℕ) → k < length ps → n ≤ (get_or ps k d).0) → IsNonDecreasingBy (λ (p : ℕ × ℕ). p.0) ps → Climbs n ps
climbs_sorted n [] low h = tt
climbs_sorted n (p ∷ ps) low h = (
  low 0 p (omega arith),
  climbs_sorted p.0 ps (λ k d lt. h 0 (suc k) d (omega arith) (omega arith)) (λ i j d le lt. h (suc i) (suc j) d (omega arith) (omega arith)),
)

-- ---- the pairs of any image in order

-- with an earlier pair, which counts where its address has no other
abbrev pub with_earlier : ℕ × ℕ → List (ℕ × ℕ) → List (ℕ × ℕ)
with_earlier p [] = p ∷ []
with_earlier p (q ∷ qs) = cond (ltb p.0 q.0) (p ∷ q ∷ qs) (cond (eqb p.0 q.0) (q ∷ qs) (q ∷ with_earlier p qs))

abbrev pub in_order : List (ℕ × ℕ) → List (ℕ × ℕ)
in_order [] = []
in_order (p ∷ ps) = with_earlier p (in_order ps)

earlier_rises : (n : ℕ) (p : ℕ × ℕ) (ps : List (ℕ × ℕ)) → n ≤ p.0 → Rises n ps → Rises n (with_earlier p ps)
earlier_rises n p [] le h = (le, tt)
earlier_rises n p (q ∷ qs) le h = grind (arith, earlier_rises (q.0 + 1) p qs)

earlier_placed : (p : ℕ × ℕ) (ps : List (ℕ × ℕ)) → IsPlaced p → ArePlaced ps → ArePlaced (with_earlier p ps)
earlier_placed p [] new h = (new, tt)
earlier_placed p (q ∷ qs) new h = grind (arith, earlier_placed p qs new h.1)

-- pairs at two addresses speak past each other
say_apart : (o : Option ℕ) (p q : ℕ × ℕ) (a : ℕ) → eqb p.0 q.0 ≡ false → or_earlier (or_earlier o (said_by p a)) (said_by q a) ≡ or_earlier (or_earlier o (said_by q a)) (said_by p a)
say_apart o p q a apart = grind arith

earlier_says : (p : ℕ × ℕ) (ps : List (ℕ × ℕ)) (a : ℕ) → last_put (with_earlier p ps) a ≡ last_put (p ∷ ps) a
unfolding last_put
earlier_says p [] a = refl
earlier_says p (q ∷ qs) a = grind (arith, hidden a p (q ∷ qs), earlier_says p qs a, say_apart (last_put qs a) p q a)

pub in_order_rises : (ps : List (ℕ × ℕ)) → Rises 0 (in_order ps)
in_order_rises [] = tt
in_order_rises (p ∷ ps) = earlier_rises 0 p (in_order ps) (omega arith) (in_order_rises ps)

pub in_order_placed : (ps : List (ℕ × ℕ)) → ArePlaced ps → ArePlaced (in_order ps)
in_order_placed [] h = tt
in_order_placed (p ∷ ps) h = earlier_placed p (in_order ps) h.0 (in_order_placed ps h.1)

pub in_order_says : (ps : List (ℕ × ℕ)) → SaySameBytes ps (in_order ps)
unfolding last_put
in_order_says [] a = refl
in_order_says (p ∷ ps) a = earlier_says p (in_order ps) a ∙ ap (λ o. or_earlier o (said_by p a)) (in_order_says ps a)
