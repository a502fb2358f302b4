-- Values and writes that are alike but for what marks hide, and what they leave at places that are shown.
use Rattle.std.proofs.Common.{◌≡◌, ℕ, zero, suc, ◌+◌, ◌<◌, Bool, true, false, cond, List, [], ◌∷◌, ◌++◌, length, map, refl, sym, ap, ◌∙◌, arith}
use Rattle.std.specs.Prelude.{not, ◌==◌, ◌||◌, filter, replicate}
use Rattle.std.specs.List.{range_with_len}
use Rattle.std.proofs.lemmas.Bool.{or_left, or_right, eqb-true, eq-eqb, or_from}
use Rattle.i9_model.specs.Writes.{pairs_at, put, written}
use Rattle.i9_model.specs.Memory.{in_port_page, stored}
use Rattle.i9_model.specs.Frames.{has, is_put}
use Rattle.i9_model.specs.Controls.{marks_after}
use Rattle.i9_model.specs.Stale.{picked}
use Rattle.i9_model.specs.Alike.{shows, AreValuesAlike, AreWritesAlike}
use Rattle.i9_model.proofs.Storing.{stored_kept}

-- ---- marks that hide

pub shows-unmarked : (hides : Bool) → shows hides false ≡ true
shows-unmarked hides = grind arith

pub shows-none : (hides b : Bool) → b ≡ false → shows hides b ≡ true
shows-none hides b e = grind arith

pub shows-first : (hides b c : Bool) → shows hides (b || c) ≡ true → shows hides b ≡ true
shows-first hides b c h = grind arith

pub shows-second : (hides b c : Bool) → shows hides (b || c) ≡ true → shows hides c ≡ true
shows-second hides b c h = grind arith

pub shows-less : (hides b c : Bool) → (b ≡ true → c ≡ true) → shows hides c ≡ true → shows hides b ≡ true
shows-less hides b c m h = grind arith

-- a register behind what is set
pub shows-after : (hides : Bool) (marks : ℕ → Bool) (sets : List (ℕ × ℕ)) (marked : List ℕ) (r : ℕ) → shows hides (marks_after marks sets marked r) ≡ true → (shows hides (has marked r) ≡ true) × (is_put sets r ≡ false → shows hides (marks r) ≡ true)
shows-after hides marks sets marked r h = (grind arith, λ out. grind arith)

-- ---- values

pub values-append : (hides : Bool) (bs cs : List Bool) (vs ws xs ys : List ℕ) → AreValuesAlike hides bs vs ws → AreValuesAlike hides cs xs ys → AreValuesAlike hides (bs ++ cs) (vs ++ xs) (ws ++ ys)
values-append hides [] cs [] [] xs ys h k = k
values-append hides (b ∷ bs) cs (v ∷ vs) (w ∷ ws) xs ys h k = (h.0, values-append hides bs cs vs ws xs ys h.1 k)
values-append hides _ cs _ _ xs ys h k = absurd h

-- one mark for all
pub values-marked : (hides b : Bool) (n : ℕ) (vs ws : List ℕ) → length vs ≡ n → length ws ≡ n → (shows hides b ≡ true → ws ≡ vs) → AreValuesAlike hides (replicate n b) vs ws
values-marked hides b zero [] [] e d same = tt
values-marked hides b (suc n) (v ∷ vs) (w ∷ ws) e d same = (
  (λ h. let all = same h in let one : w ≡ v = cc in one),
  values-marked hides b n vs ws (omega (arith, e)) (omega (arith, d)) (λ h. let all = same h in let rest : ws ≡ vs = cc in rest),
)
values-marked hides b _ _ _ e d same = absurd (omega arith)

-- in a row of numbers
pub values-mapped : (hides : Bool) (f : ℕ → Bool) (g h : ℕ → ℕ) (a n : ℕ) → ((k : ℕ) → k < a + n → shows hides (f k) ≡ true → h k ≡ g k)
    → AreValuesAlike hides (map f (range_with_len a n)) (map g (range_with_len a n)) (map h (range_with_len a n))
values-mapped hides f g h a zero same = tt
values-mapped hides f g h a (suc n) same =
    (same a (omega arith), values-mapped hides f g h (a + 1) n (λ k l. same k (omega arith)))

-- ---- writes

pub writes-same : (hides : Bool) (marked : List ℕ) (ps : List (ℕ × ℕ)) → AreWritesAlike hides marked ps ps
writes-same hides marked [] = tt
writes-same hides marked (p ∷ ps) = (refl, (λ h. refl), writes-same hides marked ps)

pub writes-append : (hides : Bool) (marked : List ℕ) (ps qs xs ys : List (ℕ × ℕ)) → AreWritesAlike hides marked ps qs → AreWritesAlike hides marked xs ys → AreWritesAlike hides marked (ps ++ xs) (qs ++ ys)
writes-append hides marked [] [] xs ys h k = k
writes-append hides marked (p ∷ ps) (q ∷ qs) xs ys h k = (h.0, h.1, writes-append hides marked ps qs xs ys h.2 k)
writes-append hides marked _ _ xs ys h k = absurd h

-- more marks hide more
writes-more : (hides : Bool) (some more : List ℕ) (ps qs : List (ℕ × ℕ)) → ((x : ℕ) → has some x ≡ true → has more x ≡ true) → AreWritesAlike hides some ps qs → AreWritesAlike hides more ps qs
writes-more hides some more [] [] sub h = tt
writes-more hides some more (p ∷ ps) (q ∷ qs) sub h = (h.0, (λ t. h.1 (shows-less hides (has some p.0) (has more p.0) (sub p.0) t)), writes-more hides some more ps qs sub h.2)
writes-more hides some more _ _ sub h = absurd h

-- values in a row with their marks
pub writes-picked : (hides : Bool) (place : ℕ → ℕ) (n : ℕ) (bs : List Bool) (vs ws : List ℕ) → AreValuesAlike hides bs vs ws → AreWritesAlike hides (picked place n bs) (pairs_at place n vs) (pairs_at place n ws)
writes-picked hides place n [] [] [] h = tt
writes-picked hides place n (true ∷ bs) (v ∷ vs) (w ∷ ws) h =
    grind (arith, or_left, eq-eqb, writes-more, or_right, writes-picked hides place (n + 1) bs vs ws h.1)
writes-picked hides place n (false ∷ bs) (v ∷ vs) (w ∷ ws) h = (refl, (λ t. h.0 (shows-unmarked hides)), writes-picked hides place (n + 1) bs vs ws h.1)
writes-picked hides place n _ _ _ h = absurd h

-- the places are the same
pub puts-same : (hides : Bool) (marked : List ℕ) (ps qs : List (ℕ × ℕ)) → AreWritesAlike hides marked ps qs → (x : ℕ) → is_put qs x ≡ is_put ps x
unfolding is_put
puts-same hides marked [] [] h x = refl
puts-same hides marked (p ∷ ps) (q ∷ qs) h x = grind (arith, puts-same hides marked ps qs h.2 x)
puts-same hides marked _ _ h x = absurd h

-- ---- what they leave

-- a value that is shown is the same
pub written-alike : (hides : Bool) (marked : List ℕ) (f g : ℕ → ℕ) (ps qs : List (ℕ × ℕ)) (x : ℕ) → AreWritesAlike hides marked ps qs → shows hides (has marked x) ≡ true → (is_put ps x ≡ false → g x ≡ f x) → written g qs x ≡ written f ps x
unfolding written is_put
written-alike hides marked f g [] [] x h t out = out refl
written-alike hides marked f g (p ∷ ps) (q ∷ qs) x h t out =
    written-alike hides marked (put f p.0 p.1) (put g q.0 q.1) ps qs x h.2 t (λ later.
    ap (λ (y : ℕ). cond (x == y) q.1 (g x)) h.0 ∙ by_place (x == p.0) refl later)
  where
    by_place : (e : Bool) → (x == p.0) ≡ e → is_put ps x ≡ false → cond e q.1 (g x) ≡ cond e p.1 (f x)
    by_place true e later = h.1 (ap (λ (y : ℕ). shows hides (has marked y)) (sym (eqb-true x p.0 e)) ∙ t)
    by_place false e later = out (or_from (x == p.0) (is_put ps x) e later)
written-alike hides marked f g _ _ x h t out = absurd h

abbrev kept_writes : List (ℕ × ℕ) → List (ℕ × ℕ)
kept_writes ps = filter (λ (p : ℕ × ℕ). not (in_port_page p.0)) ps

kept-alike : (hides : Bool) (marked : List ℕ) (ps qs : List (ℕ × ℕ)) → AreWritesAlike hides marked ps qs → AreWritesAlike hides marked (kept_writes ps) (kept_writes qs)
kept-alike hides marked [] [] h = tt
kept-alike hides marked (p ∷ ps) (q ∷ qs) h = grind (arith, kept-alike hides marked ps qs h.2)
kept-alike hides marked _ _ h = absurd h

-- beside the port page all writes are kept
kept-put : (ps : List (ℕ × ℕ)) (x : ℕ) → in_port_page x ≡ false → is_put (kept_writes ps) x ≡ false → is_put ps x ≡ false
unfolding is_put
kept-put [] x port h = refl
kept-put (p ∷ ps) x port h = by_port (in_port_page p.0) refl (x == p.0) refl (λ k. kept-put ps x port k) h
  where
    by_port : (b : Bool) → in_port_page p.0 ≡ b → (e : Bool) → (x == p.0) ≡ e → (is_put (kept_writes ps) x ≡ false → is_put ps x ≡ false)
        → is_put (cond (not b) (p ∷ kept_writes ps) (kept_writes ps)) x ≡ false → ((x == p.0) || is_put ps x) ≡ false
    by_port true t true e later k = let no : in_port_page x ≡ true = ap in_port_page (eqb-true x p.0 e) ∙ t in cc
    by_port true t false e later k = rw e (later k)
    by_port false t b e later k = grind arith

-- a byte that is shown is the same, as in the port page
pub stored-alike : (hides : Bool) (marked : List ℕ) (f g : ℕ → ℕ) (ps qs : List (ℕ × ℕ)) (x : ℕ) → AreWritesAlike hides marked ps qs
    → (in_port_page x ≡ true → g x ≡ f x) → (in_port_page x ≡ false → shows hides (has marked x) ≡ true) → (is_put ps x ≡ false → g x ≡ f x) → stored g qs x ≡ stored f ps x
stored-alike hides marked f g ps qs x h port shown out = grind (arith, stored_kept, written-alike, kept-alike, kept-put)
