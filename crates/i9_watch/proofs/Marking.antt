-- Marks in pages, and marks of addresses in a row.
use Rattle.std.proofs.Common.{◌≡◌, ◌⊎◌, inl, inr, ℕ, zero, suc, ◌+◌, ◌-◌, ◌/◌, ◌%◌, ◌^◌, ◌<◌, ◌≤◌, Bool, true, false, List, [], ◌∷◌, get_or, replicate, ⊎_elim, Option, Some, None, refl, sym, subst, ap, ◌∙◌, add-zero, add-one, arith}
use mathlib.Core.Bool.{beq}
use Rattle.std.specs.List.{list_any, between}
use Rattle.std.proofs.lemmas.List.Edits.{get_or-between}
use Rattle.std.specs.Prelude.{◌==◌, ◌||◌, if◌then◌else◌}
use Rattle.std.proofs.lemmas.Bool.{false≢true, eqb-true, cases_lt, cases_eq, cond_both}
use Rattle.i9_model.proofs.Readings.{next_place}
use Rattle.i9_model.specs.Writes.{wrapped}
use Rattle.i9_model.specs.Frames.{in_bytes}
use Rattle.i9_model.proofs.Places.{in_bytes-none, in_bytes-more}
use Rattle.i9_model.proofs.Among.{bytes-among, among-bytes}
use Rattle.i9_memory.specs.Table.{page_at, IsCopy}
use Rattle.i9_watch.specs.declared.page.Mark.{Mark}
use Rattle.i9_watch.specs.declared.page.Mark.TheVariants.{Soft, Live, Lost}
use Rattle.i9_watch.specs.declared.page.Change.{Change}
use Rattle.i9_watch.specs.declared.page.Page.{Page}
use Rattle.i9_watch.specs.declared.marks.Marks.{Marks}
use Rattle.i9_watch.specs.Page.{has_mark, changed, sets_marks}
use Rattle.i9_watch.specs.Marks.{is_marked, is_marked_in, changed_run, HasPage}

-- functions that agree everywhere are one
pub same_marks : (f g : ℕ → Bool) → ((x : ℕ) → f x ≡ g x) → f ≡ g
same_marks f g h = λ i x. h x i

get_or_unmarked : (n k : ℕ) → get_or (replicate n false) k false ≡ false
get_or_unmarked zero k = refl
get_or_unmarked (suc n) zero = refl
get_or_unmarked (suc n) (suc k) = get_or_unmarked n k

-- a new page has no marks
pub new_page : (p : Page) → p.soft.value ≡ replicate 256 false → p.live ≡ replicate 16 false → p.lost.value ≡ replicate 256 false → (m : Mark) (k : ℕ) → has_mark m p k ≡ false
new_page p soft live lost Soft k = ap (λ (xs : List Bool). get_or xs k false) soft ∙ get_or_unmarked 256 k
new_page p soft live lost Live k = ap (λ (xs : List Bool). get_or xs (k / 16) false) live ∙ get_or_unmarked 16 (k / 16)
new_page p soft live lost Lost k = ap (λ (xs : List Bool). get_or xs k false) lost ∙ get_or_unmarked 256 k

-- where no element passes, none does
any_none : (xs : List Bool) (k : ℕ) → list_any (λ b. beq b true) xs ≡ false → get_or xs k false ≡ false
any_none [] k none = refl
any_none (true ∷ xs) k none = absurd cc
any_none (false ∷ xs) zero none = refl
any_none (false ∷ xs) (suc k) none = any_none xs k none

-- a part with no mark
pub unmarked_part : (xs : List Bool) (i j k : ℕ) → list_any (λ b. beq b true) (between i j xs) ≡ false → i ≤ k → k < j → get_or xs k false ≡ false
unmarked_part xs i j k none low high =
    let at : i + (k - i) ≡ k = omega arith in
    ap (λ (n : ℕ). get_or xs n false) (sym at)
    ∙ sym (get_or-between xs i j (k - i) false (omega arith))
    ∙ any_none (between i j xs) (k - i) none

-- no address of a page that is lacking is marked
pub unmarked_page : (m : Mark) (s : Marks) (x : ℕ) → (HasPage s (x / 256) → ⊥) → is_marked m s x ≡ false
unmarked_page m s x h = grind arith

-- without the page that was lacking at first the marks are what they were
pub without_page : (m : Mark) (s : Marks) (f g : ℕ → Bool) (p : ℕ) → (HasPage s p → ⊥) → g ≡ is_marked m s → ((x : ℕ) → f x ≡ (if x / 256 == p then false else g x)) → f ≡ is_marked m s
without_page m s f g p lacks e h = same_marks _ _ (λ x.
    h x
    ∙ cond_both (x / 256 == p) false (g x) (λ b. b ≡ is_marked m s x)
    (λ t. sym (unmarked_page m s x (λ has. lacks (subst (HasPage s) (eqb-true _ _ t) has))))
    (λ _. ap (λ (k : ℕ → Bool). k x) e))

-- a mark of a page that is there
pub marked_at : (m : Mark) (s : Marks) (x : ℕ) (p : Page) → page_at s.pages (x / 256) ≡ Some p → is_marked m s x ≡ has_mark m p (x % 256)
marked_at m s x p e = ap (λ (o : Option Page). is_marked_in m o (x % 256)) e

-- marks of pages that are the same
pub same_page_marks : (m : Mark) (s t : Marks) (x : ℕ) → page_at s.pages (x / 256) ≡ page_at t.pages (x / 256) → is_marked m s x ≡ is_marked m t x
same_page_marks m s t x e = ap (λ (o : Option Page). is_marked_in m o (x % 256)) e

-- ---- addresses in a row

one_more : (a n x : ℕ) → in_bytes a (suc n) x ≡ (in_bytes a n x || x == wrapped (a + n))
one_more a n x = ap (λ (m : ℕ). in_bytes a m x) (sym (add-one n)) ∙ in_bytes-more a n x

pub or_false : (b : Bool) → b ≡ (b || false)
or_false b = grind arith

-- two runs, one behind the other
pub in_bytes-split : (a j k x : ℕ) → in_bytes a (j + k) x ≡ (in_bytes a j x || in_bytes (wrapped (a + j)) k x)
in_bytes-split a j zero x = rw (add-zero, in_bytes-none) (or_false (in_bytes a j x))
in_bytes-split a j (suc k) x =
    let next : j + suc k ≡ suc (j + k) = omega arith in
    ap (λ (n : ℕ). in_bytes a n x) next
    ∙ one_more a (j + k) x
    ∙ ap (λ (b : Bool). b || x == wrapped (a + (j + k))) (in_bytes-split a j k x)
    ∙ or_assoc (in_bytes a j x) (in_bytes (wrapped (a + j)) k x) (x == wrapped (a + (j + k)))
    ∙ ap (λ (y : ℕ). in_bytes a j x || (in_bytes (wrapped (a + j)) k x || x == y)) (sym (next_place a j k))
    ∙ ap (λ (b : Bool). in_bytes a j x || b) (sym (one_more (wrapped (a + j)) k x))
  where
    or_assoc : (b c d : Bool) → ((b || c) || d) ≡ (b || (c || d))
    or_assoc b c d = grind arith

-- none of a run and of the run behind it is marked
pub none_more : (f : ℕ → Bool) (a j m : ℕ) → ((i : ℕ) → i < j → f (wrapped (a + i)) ≡ false) → ((i : ℕ) → i < m → f (wrapped (wrapped (a + j) + i)) ≡ false) → (k : ℕ) → k < j + m → f (wrapped (a + k)) ≡ false
none_more f a j m first second k h = ⊎_elim (first k) behind (cases_lt k j)
  where
    behind : j ≤ k → f (wrapped (a + k)) ≡ false
    behind low =
        let at : wrapped (a + k) ≡ wrapped (wrapped (a + j) + (k - j)) = omega arith in
        ap f at ∙ second (k - j) (omega arith)

-- where none of a run is marked, its addresses are not
pub run_clear : (f : ℕ → Bool) (a n x : ℕ) → ((k : ℕ) → k < n → f (wrapped (a + k)) ≡ false) → in_bytes a n x ≡ true → f x ≡ false
run_clear f a n x none t = let at = bytes-among a n x t in ap f at.2 ∙ none at.0 at.1

-- ---- marks of a run

module _ (a n x : ℕ) (small : a < 2 ^ 32) (fits : a % 256 + n ≤ 256) where
  -- an address of a run that lies in one page, by its place in the page
  in_page : in_bytes a n x ≡ true → (x / 256 ≡ a / 256) × (a % 256 ≤ x % 256) × (x % 256 < a % 256 + n)
  in_page t = let at = bytes-among a n x t in (omega (arith, at.1, at.2), omega (arith, at.1, at.2), omega (arith, at.1, at.2))

  -- and of one that does not
  beside : in_bytes a n x ≡ false → x / 256 ≡ a / 256 → (x % 256 < a % 256) ⊎ (a % 256 + n ≤ x % 256)
  beside f e = ⊎_elim inl (λ low. ⊎_elim (λ high. absurd (inside low high)) inr (cases_lt (x % 256) (a % 256 + n))) (cases_lt (x % 256) (a % 256))
    where
      inside : a % 256 ≤ x % 256 → x % 256 < a % 256 + n → ⊥
      inside low high = false≢true (sym f ∙ among-bytes a n x (x - a, omega arith, omega arith))

  -- what is set in a page, by places of the page
  pub set_place : (value before after : Bool) →
      (x / 256 ≡ a / 256 → a % 256 ≤ x % 256 → x % 256 < a % 256 + n → after ≡ value) →
      (x / 256 ≡ a / 256 → (x % 256 < a % 256) ⊎ (a % 256 + n ≤ x % 256) → after ≡ before) →
      ((x / 256 ≡ a / 256 → ⊥) → after ≡ before) → after ≡ (if in_bytes a n x then value else before)
  set_place value before after within outside others =
      cond_both (in_bytes a n x) value before (λ b. after ≡ b)
      (λ t. let at = in_page t in within at.0 at.1 at.2)
      (λ f. ⊎_elim (λ e. outside e (beside f e)) others (cases_eq (x / 256) (a / 256)))

-- where there is no room nothing is marked
none_after : (c : Change) (m : Mark) (A : Type 0) → (A → ⊥) → (sets_marks c ≡ true → A) → false ≡ changed c m false
none_after c m A lacks room = grind arith

-- where the page is lacking there is nothing to take away, and no room to save
pub lacking_page : (c : Change) (m : Mark) (s : Marks) (a n : ℕ) → a < 2 ^ 32 → a % 256 + n ≤ 256 → (HasPage s (a / 256) → ⊥) → (sets_marks c ≡ true → HasPage s (a / 256)) → is_marked m s ≡ changed_run c m a n (is_marked m s)
lacking_page c m s a n small fits lacks room = same_marks _ _ (λ x.
    cond_both (in_bytes a n x) (changed c m (is_marked m s x)) (is_marked m s x) (λ b. is_marked m s x ≡ b)
    (λ t.
    let none = unmarked_page m s x (λ has. lacks (subst (HasPage s) (in_page a n x small fits t).0 has)) in
    none ∙ none_after c m (HasPage s (a / 256)) lacks room ∙ ap (changed c m) (sym none))
    (λ _. refl))

-- a change that is made twice
twice : (c : Change) (m : Mark) (b : Bool) → changed c m (changed c m b) ≡ changed c m b
twice c m b = grind arith

abbrev changed_if : Change → Mark → Bool → Bool → Bool
changed_if c m here mark = if here then changed c m mark else mark

pub if_either : (c : Change) (m : Mark) (here there mark : Bool) → changed_if c m there (changed_if c m here mark) ≡ changed_if c m (here || there) mark
if_either c m true true mark = twice c m mark
if_either c m true false mark = refl
if_either c m false there mark = refl

pub change_none : (c : Change) (m : Mark) (a : ℕ) (f : ℕ → Bool) → f ≡ changed_run c m a 0 f
change_none c m a f = same_marks _ _ (λ x. ap (λ (b : Bool). changed_if c m b (f x)) (sym (in_bytes-none a x)))

-- a run behind the run that is changed already
pub change_more : (c : Change) (m : Mark) (a j k : ℕ) (f g h : ℕ → Bool) → g ≡ changed_run c m a j f → h ≡ changed_run c m (wrapped (a + j)) k g → h ≡ changed_run c m a (j + k) f
change_more c m a j k f g h p q = same_marks _ _ (λ x.
    ap (λ (f : ℕ → Bool). f x) q
    ∙ ap (λ (f : ℕ → Bool). changed_if c m (in_bytes (wrapped (a + j)) k x) (f x)) p
    ∙ if_either c m (in_bytes a j x) (in_bytes (wrapped (a + j)) k x) (f x)
    ∙ ap (λ (b : Bool). changed_if c m b (f x)) (sym (in_bytes-split a j k x)))

-- ---- copies

copied_mark : (copies : Page → Page → Type 0) → ((x y : Page) → copies x y → (m : Mark) (k : ℕ) → has_mark m y k ≡ has_mark m x k)
    → (m : Mark) (p q : Option Page) → IsCopy copies p q → (k : ℕ) → is_marked_in m q k ≡ is_marked_in m p k
copied_mark copies same m None q h k = ap (λ (o : Option Page). is_marked_in m o k) h
copied_mark copies same m (Some x) None h k = absurd h
copied_mark copies same m (Some x) (Some y) h k = same x y h m k

-- where each page of a copy has the marks of the other's, so has the whole
pub copied_marks : (old new : Marks) (copies : Page → Page → Type 0) → ((n : ℕ) → IsCopy copies (page_at old.pages n) (page_at new.pages n))
    → ((x y : Page) → copies x y → (m : Mark) (k : ℕ) → has_mark m y k ≡ has_mark m x k) → (m : Mark) → is_marked m new ≡ is_marked m old
copied_marks old new copies is same m = λ i x.
    copied_mark copies same m (page_at old.pages (x / 256)) (page_at new.pages (x / 256)) (is (x / 256)) (x % 256) i

-- a page with the same values has the same marks
pub same_values : (x y : Page) → y.soft.value ≡ x.soft.value → y.live ≡ x.live → y.lost.value ≡ x.lost.value → (m : Mark) (k : ℕ) → has_mark m y k ≡ has_mark m x k
same_values x y soft live lost Soft k = ap (λ (bs : List Bool). get_or bs k false) soft
same_values x y soft live lost Live k = ap (λ (bs : List Bool). get_or bs (k / 16) false) live
same_values x y soft live lost Lost k = ap (λ (bs : List Bool). get_or bs k false) lost
