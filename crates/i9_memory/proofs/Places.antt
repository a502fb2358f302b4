-- The places of the levels: those that are added, and those that are changed.
use Rattle.std.proofs.Common.{◌≡◌, ◌≢◌, ℕ, zero, suc, ◌/◌, ◌%◌, ◌<◌, List, [], ◌∷◌, length, get_or, refl, sym, ap, ◌∙◌, arith}
use Rattle.std.proofs.Math.ListN.{set}
use Rattle.std.proofs.lemmas.Grind.{common_steps}
use Rattle.std.proofs.lemmas.Option.{slice_get_read}
use Rattle.std.proofs.lemmas.Bool.Decides.{nat_tests}
use Rattle.std.specs.Prelude.{Option, Some, None, Result, Ok, Err, OnSome, OnErr, ◌==◌, if◌then◌else◌}
use Rattle.std.specs.Vec.{with_item}
use Rattle.std.specs.declared.vec.Vec.{Vec}
use Rattle.i9_memory.specs.Table.{list_in, list_at}

-- ---- a change of one place

list_at-set_same : {X Z : Type 0} (vs : List (Vec X Z)) (i : ℕ) (v : Vec X Z) → i < length vs → list_at (set vs i v) i ≡ v.items
list_at-set_same [] i v h = absurd (omega arith)
list_at-set_same (u ∷ vs) zero v h = refl
list_at-set_same (u ∷ vs) (suc i) v h = list_at-set_same vs i v (omega arith)

list_at-set_other : {X Z : Type 0} (vs : List (Vec X Z)) (i k : ℕ) (v : Vec X Z) → k ≢ i → list_at (set vs i v) k ≡ list_at vs k
list_at-set_other [] i k v h = refl
list_at-set_other (u ∷ vs) zero zero v h = absurd (h refl)
list_at-set_other (u ∷ vs) zero (suc k) v h = refl
list_at-set_other (u ∷ vs) (suc i) zero v h = refl
list_at-set_other (u ∷ vs) (suc i) (suc k) v h = list_at-set_other vs i k v (λ e. h (ap suc e))

-- another list at one place
list_at-set : {X Z : Type 0} (vs : List (Vec X Z)) (i k : ℕ) (v : Vec X Z) → i < length vs → list_at (set vs i v) k ≡ (if k == i then v.items else list_at vs k)
list_at-set vs i k v h =
    let same = list_at-set_same vs i v h in
    let other = list_at-set_other vs i k v in
    grind (arith, nat_tests, same, other)

-- another value at one place
get_or-set : {X : Type 0} (xs : List (Option X)) (i k : ℕ) (o : Option X) → i < length xs → get_or (set xs i o) k None ≡ (if k == i then o else get_or xs k None)
get_or-set xs i k o h = grind (arith, nat_tests, common_steps)

-- a list that a read found
list_read : {X Z : Type 0} (vs : List (Vec X Z)) (i : ℕ) (v : Vec X Z) → i < length vs → v ≡ get_or vs i v → list_at vs i ≡ v.items
list_read vs i v h e = ap list_in (slice_get_read vs (length vs) i v refl h e)

-- what is put back is what was there
pub put_back : {X : Type 0} (f : ℕ → Option X) (number n : ℕ) (o : Option X) → o ≡ f number → (if n == number then o else f n) ≡ f n
put_back f number n o e = grind (arith, nat_tests)

-- ---- a change of one page

module _ {X Y Z : Type 0} where
  abbrev page_in : List (Vec (Vec (Option X) Y) Z) → ℕ → Option X
  page_in us n = get_or (list_at (list_at us (n / 65536)) (n / 256 % 256)) (n % 256) None

  -- other lists at the places of a number
  page_changed : (us vs : List (Vec (Vec (Option X) Y) Z)) (ms : List (Vec (Option X) Y)) (ls : List (Option X)) (number : ℕ) (o : Option X)
      → ((k : ℕ) → list_at vs k ≡ (if k == number / 65536 then ms else list_at us k))
      → ((k : ℕ) → list_at ms k ≡ (if k == number / 256 % 256 then ls else list_at (list_at us (number / 65536)) k))
      → ((k : ℕ) → get_or ls k None ≡ (if k == number % 256 then o else get_or (list_at (list_at us (number / 65536)) (number / 256 % 256)) k None))
      → (n : ℕ) → page_in vs n ≡ (if n == number then o else page_in us n)
  page_changed us vs ms ls number o first second third n =
      let high = first (n / 65536) in
      let middle = second (n / 256 % 256) in
      let low = third (n % 256) in
      grind (arith, nat_tests, high, middle, low)

  -- the lists that lead to a number, which may have grown
  pub record Leads (us vs : List (Vec (Vec (Option X) Y) Z)) (middle : Vec (Vec (Option X) Y) Z) (low : Vec (Option X) Y) (number : ℕ) : Type 0 where
    pub high_in : number / 65536 < length vs
    pub high_same : (k : ℕ) → list_at vs k ≡ list_at us k
    pub middle_in : number / 256 % 256 < length middle.items
    pub middle_same : (k : ℕ) → list_at middle.items k ≡ list_at (list_at us (number / 65536)) k
    pub low_same : (k : ℕ) → get_or low.items k None ≡ get_or (list_at (list_at us (number / 65536)) (number / 256 % 256)) k None

  module _ (us vs : List (Vec (Vec (Option X) Y) Z)) (middle : Vec (Vec (Option X) Y) Z) (low : Vec (Option X) Y) (number : ℕ) (leads : Leads us vs middle low number) where
    changed : (low' : Vec (Option X) Y) (o : Option X) → ((k : ℕ) → get_or low'.items k None ≡ (if k == number % 256 then o else get_or low.items k None))
        → (n : ℕ) → page_in (set vs (number / 65536) (with_item middle (number / 256 % 256) low')) n ≡ (if n == number then o else page_in us n)
    changed low' o is =
        let middle' = with_item middle (number / 256 % 256) low' in
        page_changed us _ middle'.items low'.items number o
        (λ k. list_at-set vs (number / 65536) k middle' leads.high_in ∙ ap (λ xs. if k == number / 65536 then middle'.items else xs) (leads.high_same k))
        (λ k. list_at-set middle.items (number / 256 % 256) k low' leads.middle_in ∙ ap (λ xs. if k == number / 256 % 256 then low'.items else xs) (leads.middle_same k))
        (λ k. is k ∙ ap (λ x. if k == number % 256 then o else x) (leads.low_same k))

    -- what is put at the place of a number is its page
    pub page_put : number % 256 < length low.items → (o : Option X) (n : ℕ)
        → page_in (set vs (number / 65536) (with_item middle (number / 256 % 256) (with_item low (number % 256) o))) n ≡ (if n == number then o else page_in us n)
    page_put within o = changed (with_item low (number % 256) o) o (λ k. get_or-set low.items (number % 256) k o within)

    -- its page is what stands there
    pub page_is : page_in us number ≡ get_or low.items (number % 256) None
    page_is = sym (leads.low_same (number % 256))

    -- and where that stays, each page does
    pub page_kept : (n : ℕ) → page_in (set vs (number / 65536) (with_item middle (number / 256 % 256) low)) n ≡ page_in us n
    page_kept n =
        changed low (page_in us number) (λ k. sym (put_back (λ j. get_or low.items j None) (number % 256) k (page_in us number) page_is)) n ∙ put_back (page_in us) number n (page_in us number) refl

  -- they are found one in the other, before or after they grow
  pub leads_by : (us vs : List (Vec (Vec (Option X) Y) Z)) (found middle : Vec (Vec (Option X) Y) Z) (place low : Vec (Option X) Y) (number : ℕ)
      → number / 65536 < length vs → ((k : ℕ) → list_at vs k ≡ list_at us k)
      → found ≡ get_or vs (number / 65536) found
      → number / 256 % 256 < length middle.items → ((k : ℕ) → list_at middle.items k ≡ list_at found.items k)
      → place ≡ get_or middle.items (number / 256 % 256) place
      → ((k : ℕ) → get_or low.items k None ≡ get_or place.items k None) → Leads us vs middle low number
  leads_by us vs found middle place low number high_in high_same found_is middle_in grown place_is filled =
      let high_is : found.items ≡ list_at us (number / 65536) = sym (list_read vs (number / 65536) found high_in found_is) ∙ high_same (number / 65536) in
      let middle_same = λ (k : ℕ). grown k ∙ ap (λ xs. list_at xs k) high_is in
      let low_is : place.items ≡ list_at (list_at us (number / 65536)) (number / 256 % 256) =
      sym (list_read middle.items (number / 256 % 256) place middle_in place_is) ∙ middle_same (number / 256 % 256) in
      record {
        high_in = high_in;
        high_same = high_same;
        middle_in = middle_in;
        middle_same = middle_same;
        low_same = λ k. filled k ∙ ap (λ xs. get_or xs k None) low_is;
      }

-- ---- facts that are asked for in one case alone

pub on_some : {A : Type 0} (o : Option A) {P : Type 0} → P → OnSome o P
on_some None h = tt
on_some (Some x) h = h

pub on_err : {A E : Type 0} (r : Result A E) {P : Type 0} → P → OnErr r P
on_err (Ok x) h = tt
on_err (Err e) h = h
