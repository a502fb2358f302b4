-- Bytes in pages.
use Rattle.std.proofs.Common.{◌≡◌, ℕ, zero, suc, ◌/◌, ◌%◌, Bool, true, false, List, get_or, replicate, refl, ap, ◌∙◌, arith}
use Rattle.std.specs.Prelude.{◌==◌, if◌then◌else◌, Option, Some, None}
use Rattle.std.proofs.lemmas.Bool.Decides.{nat_tests}
use Rattle.i9_memory.specs.Table.{IsCopy, SamePages, Updates}
use Rattle.i9_memory.specs.declared.pages.Page.{Page}
use Rattle.i9_memory.specs.declared.pages.Pages.{Pages}
use Rattle.i9_memory.specs.Pages.{byte_in, byte_of, page_of, HasPage}

-- functions that agree everywhere are one
pub same_bytes : (f g : ℕ → ℕ) → ((x : ℕ) → f x ≡ g x) → f ≡ g
same_bytes f g h = λ i x. h x i

get_or_zeros : (n k : ℕ) → ◌≡◌ {A = ℕ} (get_or (replicate n 0) k 0) 0
get_or_zeros zero k = refl
get_or_zeros (suc n) zero = refl
get_or_zeros (suc n) (suc k) = get_or_zeros n k

-- a new page holds zeros
zero_byte : (bs : List ℕ) (k : ℕ) → bs ≡ replicate 256 0 → get_or bs k 0 ≡ 0
zero_byte bs k e = ap (λ (xs : List ℕ). get_or xs k 0) e ∙ get_or_zeros 256 k

-- ---- one page that is changed

-- the bytes of all addresses, of which one page has those of its number
abbrev pub with_page : (ℕ → ℕ) → ℕ → (ℕ → ℕ) → ℕ → ℕ
with_page others n page x = if x / 256 == n then page (x % 256) else others x

byte_in-if : (b : Bool) (o p : Option Page) (k : ℕ) → byte_in (if b then o else p) k ≡ (if b then byte_in o k else byte_in p k)
byte_in-if true o p k = refl
byte_in-if false o p k = refl

pub updated_bytes : (old new : Pages) (n : ℕ) (page : Page) → Updates old.pages n (Some page) new.pages → byte_of new ≡ with_page (byte_of old) n (byte_in (Some page))
updated_bytes old new n page is = same_bytes _ _ (λ x. ap (λ (o : Option Page). byte_in o (x % 256)) (is (x / 256)) ∙ byte_in-if (x / 256 == n) (Some page) (page_of old (x / 256)) (x % 256))

-- its own bytes change nothing
pub own_bytes : (m : Pages) (n : ℕ) (page : Page) → page_of m n ≡ Some page → with_page (byte_of m) n (byte_in (Some page)) ≡ byte_of m
own_bytes m n page is = same_bytes _ _ (λ x. grind (arith, nat_tests, is))

-- zeros take the place of no page
pub zero_page : (m : Pages) (n : ℕ) (page : Page) → (HasPage m n → ⊥) → page.bytes.value ≡ replicate 256 0 → with_page (byte_of m) n (byte_in (Some page)) ≡ byte_of m
zero_page m n page lacks zeros = same_bytes _ _ (λ x. grind (arith, nat_tests, lacks, zero_byte page.bytes.value (x % 256) zeros))

pub same_pages : (old new : Pages) → SamePages old.pages new.pages → byte_of new ≡ byte_of old
same_pages old new is = same_bytes _ _ (λ x. ap (λ (o : Option Page). byte_in o (x % 256)) (is (x / 256)))

-- ---- copies

copied_byte : (copies : Page → Page → Type 0) → ((x y : Page) → copies x y → y.bytes.value ≡ x.bytes.value) → (p q : Option Page)
    → IsCopy copies p q → (k : ℕ) → byte_in q k ≡ byte_in p k
copied_byte copies same None q h k = ap (λ (o : Option Page). byte_in o k) h
copied_byte copies same (Some x) None h k = absurd h
copied_byte copies same (Some x) (Some y) h k = ap (λ (bs : List ℕ). get_or bs k 0) (same x y h)

-- where each page of a copy has the bytes of the other's, so has the whole
pub copied_bytes : (old new : Pages) (copies : Page → Page → Type 0) → ((n : ℕ) → IsCopy copies (page_of old n) (page_of new n))
    → ((x y : Page) → copies x y → y.bytes.value ≡ x.bytes.value) → byte_of new ≡ byte_of old
copied_bytes old new copies is same =
    same_bytes _ _ (λ x. copied_byte copies same (page_of old (x / 256)) (page_of new (x / 256)) (is (x / 256)) (x % 256))
