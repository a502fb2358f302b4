-- Bytes of one page that are written at once, and the runs of a longer one.
use Rattle.std.proofs.Common.{◌≡◌, ℕ, suc, ◌+◌, ◌*◌, ◌/◌, ◌%◌, ◌^◌, ◌<◌, ◌≤◌, true, false, List, [], ◌∷◌, ◌++◌, length, get_or, take, drop, refl, sym, ap, ◌∙◌, append_assoc, arith}
use Rattle.std.proofs.Math.ListN.{set, length-set}
use Rattle.std.proofs.Math.Seq.{sets, sets-eq}
use Rattle.std.proofs.lemmas.List.{take_all}
use Rattle.std.proofs.lemmas.Grind.{common_steps}
use Rattle.std.proofs.lemmas.Bool.Decides.{nat_tests}
use Rattle.i9_model.specs.Writes.{wrapped, put, written, pairs_at, upwards}
use Rattle.i9_model.specs.Memory.{in_port_page, stored}
use Rattle.i9_model.proofs.Stored.{stored-cons}
use Rattle.i9_model.proofs.Upwards.{upwards-wrapped}
use Rattle.i9_memory.proofs.Paged.{same_bytes, with_page}

-- ---- within a page

-- the bytes of a page after one was written
pub set_is_put : (xs : List ℕ) (i v : ℕ) → i < length xs → (λ x. get_or (set xs i v) x 0) ≡ put (λ x. get_or xs x 0) i v
set_is_put xs i v h = same_bytes _ _ (λ x. grind (arith, common_steps, nat_tests))

-- bytes that are set one after the other
sets_written : (xs : List ℕ) (p : ℕ) (bs : List ℕ) → p + length bs ≤ length xs → (λ x. get_or (sets xs p bs) x 0) ≡ written (λ x. get_or xs x 0) (pairs_at (λ k. k) p bs)
unfolding written
sets_written xs p [] h = refl
sets_written xs p (b ∷ bs) h =
    let next : suc p ≡ p + 1 = omega arith in
    sets_written (set xs p b) (suc p) bs (omega (arith, length-set {A = ℕ}))
    ∙ ap (λ (f : ℕ → ℕ). written f (pairs_at (λ k. k) (suc p) bs)) (set_is_put xs p b (omega arith))
    ∙ ap (λ (q : ℕ). written (put (λ x. get_or xs x 0) p b) (pairs_at (λ k. k) q bs)) next

-- and those that take the place of as many others
pub run_written : (xs bs : List ℕ) (p : ℕ) → p + length bs ≤ length xs
    → (λ x. get_or (take p xs ++ (bs ++ drop (p + length bs) xs)) x 0) ≡ written (λ x. get_or xs x 0) (pairs_at (λ k. k) p bs)
run_written xs bs p h =
    let read = λ (ys : List ℕ) (x : ℕ). get_or ys x 0 in
    ap read (sym (append_assoc (take p xs) bs (drop (p + length bs) xs)) ∙ sym (sets-eq bs xs p h)) ∙ sets_written xs p bs h

-- ---- a page among others

page_put : (others page : ℕ → ℕ) (n k v : ℕ) → k < 256 → with_page others n (put page k v) ≡ put (with_page others n page) (256 * n + k) v
page_put others page n k v h = same_bytes _ _ (λ x. grind (arith, nat_tests))

-- writes in a page are writes at the addresses of its places
page_written : (others page : ℕ → ℕ) (n k : ℕ) (bs : List ℕ) → n < 2 ^ 24 → k + length bs ≤ 256 → with_page others n (written page (pairs_at (λ j. j) k bs)) ≡ written (with_page others n page) (upwards (256 * n + k) bs)
unfolding written
page_written others page n k [] h few = refl
page_written others page n k (b ∷ bs) h few =
    let here : 256 * n + k ≡ wrapped (256 * n + k) = omega arith in
    let next : 256 * n + (k + 1) ≡ 256 * n + k + 1 = omega arith in
    page_written others (put page k b) n (k + 1) bs h (omega arith)
    ∙ ap (λ (f : ℕ → ℕ). written f (upwards (256 * n + (k + 1)) bs)) (page_put others page n k b (omega arith) ∙ ap (λ (x : ℕ). put (with_page others n page) x b) here)
    ∙ ap (λ (x : ℕ). written (put (with_page others n page) (wrapped (256 * n + k)) b) (upwards x bs)) next

-- the port page is whole pages
port_of_page : (x y : ℕ) → x / 256 ≡ y / 256 → in_port_page x ≡ in_port_page y
port_of_page x y e = grind (arith, nat_tests)

stored_port : (f : ℕ → ℕ) (n k : ℕ) (bs : List ℕ) → n < 2 ^ 24 → k + length bs ≤ 256 → in_port_page (256 * n) ≡ true → stored f (upwards (256 * n + k) bs) ≡ f
unfolding written
stored_port f n k [] h few port = refl
stored_port f n k (b ∷ bs) h few port =
    let same : wrapped (256 * n + k) / 256 ≡ 256 * n / 256 = omega arith in
    let next : 256 * n + k + 1 ≡ 256 * n + (k + 1) = omega arith in
    rw (port_of_page (wrapped (256 * n + k)) (256 * n) same ∙ port, next) (stored_port f n (k + 1) bs h (omega arith) port)

stored_page : (f : ℕ → ℕ) (n k : ℕ) (bs : List ℕ) → n < 2 ^ 24 → k + length bs ≤ 256 → in_port_page (256 * n) ≡ false → stored f (upwards (256 * n + k) bs) ≡ written f (upwards (256 * n + k) bs)
unfolding written
stored_page f n k [] h few port = refl
stored_page f n k (b ∷ bs) h few port =
    let same : wrapped (256 * n + k) / 256 ≡ 256 * n / 256 = omega arith in
    let next : 256 * n + k + 1 ≡ 256 * n + (k + 1) = omega arith in
    rw (port_of_page (wrapped (256 * n + k)) (256 * n) same ∙ port, next) (stored_page (put f (wrapped (256 * n + k)) b) n (k + 1) bs h (omega arith) port)

in_page : (a : ℕ) → 256 * (a / 256) + a % 256 ≡ a
in_page a = omega arith

-- bytes of one page that are stored: none in the port page
pub run_in_port : (f : ℕ → ℕ) (a : ℕ) (bs : List ℕ) → a < 2 ^ 32 → a % 256 + length bs ≤ 256 → in_port_page a ≡ true → stored f (upwards a bs) ≡ f
run_in_port f a bs h few port =
    let same : 256 * (a / 256) / 256 ≡ a / 256 = omega arith in
    ap (λ (x : ℕ). stored f (upwards x bs)) (sym (in_page a))
    ∙ stored_port f (a / 256) (a % 256) bs (omega arith) few (port_of_page (256 * (a / 256)) a same ∙ port)

-- and elsewhere those of the page
pub run_in_page : (others page : ℕ → ℕ) (a : ℕ) (bs : List ℕ) → a < 2 ^ 32 → a % 256 + length bs ≤ 256 → in_port_page a ≡ false
    → with_page others (a / 256) (written page (pairs_at (λ k. k) (a % 256) bs)) ≡ stored (with_page others (a / 256) page) (upwards a bs)
run_in_page others page a bs h few port =
    let f = with_page others (a / 256) page in
    let same : 256 * (a / 256) / 256 ≡ a / 256 = omega arith in
    page_written others page (a / 256) (a % 256) bs (omega arith) few
    ∙ sym (stored_page f (a / 256) (a % 256) bs (omega arith) few (port_of_page (256 * (a / 256)) a same ∙ port))
    ∙ ap (λ (x : ℕ). stored f (upwards x bs)) (in_page a)

-- ---- runs one after the other

pub stored_runs : (f : ℕ → ℕ) (a : ℕ) (xs ys : List ℕ) → stored f (upwards a (xs ++ ys)) ≡ stored (stored f (upwards a xs)) (upwards (wrapped (a + length xs)) ys)
unfolding written
stored_runs f a [] ys = let here : wrapped a ≡ wrapped (wrapped (a + 0)) = omega arith in ap (stored f) (upwards-wrapped a (wrapped (a + 0)) ys here)
stored_runs f a (x ∷ xs) ys =
    let p : ℕ × ℕ = (wrapped a, x) in
    let next : wrapped (a + 1 + length xs) ≡ wrapped (a + suc (length xs)) = omega arith in
    stored-cons f p (upwards (a + 1) (xs ++ ys))
    ∙ stored_runs (stored f (p ∷ [])) (a + 1) xs ys
    ∙ ap (λ (g : ℕ → ℕ). stored g (upwards (wrapped (a + 1 + length xs)) ys)) (sym (stored-cons f p (upwards (a + 1) xs)))
    ∙ ap (λ (b : ℕ). stored (stored f (upwards a (x ∷ xs))) (upwards b ys)) next

pub stored_none : (f : ℕ → ℕ) (a : ℕ) (bs : List ℕ) → length bs ≡ 0 → stored f (upwards a bs) ≡ f
unfolding written
stored_none f a [] none = refl
stored_none f a (b ∷ bs) none = absurd (omega arith)

-- ---- all bytes of a run

pub first_all : (bs : List ℕ) (n : ℕ) → length bs ≡ n → take n bs ≡ bs
first_all bs n long = take_all n bs (omega (arith, long))

pub ruleset first_rules = (first_all)
