-- Each image has one listing, which assembles to its bytes.
use Rattle.std.proofs.Common.{◌≡◌, ℕ, zero, suc, ◌+◌, ◌<◌, ◌≤◌, List, [], ◌∷◌, ◌++◌, length, drop, refl, sym, ap, subst, ◌∙◌, arith, length-drop}
use Rattle.std.specs.List.{flat_map, AllByRecursion}
use Rattle.i9_model.specs.Image.{Part, pairs_of}
use Rattle.i9_hex.specs.Writing.{with_line_feed}
use Rattle.i9_asm.specs.Source.{most_bytes}
use Rattle.i9_asm.specs.Laws.{Reassembles}
use Rattle.i9_asm.specs.Listing.{line_size, first_line, Lists, lists_none, lists_line, org_line, ListsAll, lists_all, lists_run, IsListing}
use Rattle.i9_asm.proofs.ReadListing.{text_is_assembly}
use Rattle.i9_dis.specs.Printed.{AddsRuns}
use Rattle.i9_hex.specs.Runs.{bytes_in, AreRunsOf, AreRuns}
use Rattle.i9_hex.proofs.Rising.{in_order, in_order_rises, in_order_placed, in_order_says}
use Rattle.i9_hex.proofs.Joining.{joined, joined_runs, runs_once}
use Rattle.i9_hex.proofs.Placed.{image_placed}

-- ---- the lines of a run

-- a line says something
pub line_some : (a : ℕ) (bs : List ℕ) → 0 < line_size a bs
line_some a bs = grind arith

-- and no more than there is
pub line_fits : (a : ℕ) (bs : List ℕ) → 0 < length bs → line_size a bs ≤ length bs
line_fits a bs some = grind arith

-- the lines of bytes, by the bytes
ListsBy : ℕ → List ℕ → List (List ℕ) → Type 0
ListsBy a [] lines = lines ≡ []
ListsBy a (b ∷ bs) lines =
    (rest : List (List ℕ)) × Lists (a + line_size a (b ∷ bs)) (drop (line_size a (b ∷ bs)) (b ∷ bs)) rest × (lines ≡ first_line a (b ∷ bs) ∷ rest)

lists_by : (a : ℕ) (bs : List ℕ) (lines : List (List ℕ)) → Lists a bs lines → ListsBy a bs lines
unfolding ListsBy
lists_by _ _ _ (lists_none a) = refl
lists_by _ _ _ (lists_line a b bs lines rest) = (lines, rest, refl)

lists_once : (a : ℕ) (bs : List ℕ) (xs ys : List (List ℕ)) → Lists a bs xs → Lists a bs ys → xs ≡ ys
unfolding ListsBy
lists_once _ _ _ ys (lists_none a) other = sym (lists_by a [] ys other)
lists_once _ _ _ ys (lists_line a b bs lines rest) other =
    let by = lists_by a (b ∷ bs) ys other in
    ap (λ more. first_line a (b ∷ bs) ∷ more) (lists_once _ _ lines by.0 rest by.1) ∙ sym by.2

lists_some : (n a : ℕ) (bs : List ℕ) → length bs ≤ n → (lines : List (List ℕ)) × Lists a bs lines
lists_some n a [] few = ([], lists_none a)
lists_some zero a (b ∷ bs) few = absurd (omega arith)
lists_some (suc n) a (b ∷ bs) few =
    let k = line_size a (b ∷ bs) in
    let some = line_some a (b ∷ bs) in
    let rest = lists_some n (a + k) (drop k (b ∷ bs)) (omega (arith, length-drop k (b ∷ bs))) in
    (first_line a (b ∷ bs) ∷ rest.0, lists_line a b bs rest.0 rest.1)

-- ---- the lines of runs

ListsAllBy : List Part → List (List ℕ) → Type 0
ListsAllBy [] lines = lines ≡ []
ListsAllBy (run ∷ runs) lines =
    (xs : List (List ℕ)) × (more : List (List ℕ)) × Lists run.address run.bytes xs × ListsAll runs more × (lines ≡ org_line run.address ∷ (xs ++ more))

lists_all_by : (runs : List Part) (lines : List (List ℕ)) → ListsAll runs lines → ListsAllBy runs lines
unfolding ListsAllBy
lists_all_by _ _ lists_all = refl
lists_all_by _ _ (lists_run a bs runs lines more run rest) = (lines, more, run, rest, refl)

lists_all_once : (runs : List Part) (xs ys : List (List ℕ)) → ListsAll runs xs → ListsAll runs ys → xs ≡ ys
unfolding ListsAllBy
lists_all_once [] xs ys h g = lists_all_by [] xs h ∙ sym (lists_all_by [] ys g)
lists_all_once (run ∷ runs) xs ys h g =
    let p = lists_all_by (run ∷ runs) xs h in
    let q = lists_all_by (run ∷ runs) ys g in
    let lines = lists_once run.address run.bytes p.0 q.0 p.2 q.2 in
    let more = lists_all_once runs p.1 q.1 p.3 q.3 in
    p.4 ∙ ap (λ l. org_line run.address ∷ (l ++ p.1)) lines ∙ ap (λ m. org_line run.address ∷ (q.0 ++ m)) more ∙ sym q.4

lists_all_some : (runs : List Part) → (lines : List (List ℕ)) × ListsAll runs lines
lists_all_some [] = ([], lists_all)
lists_all_some (run ∷ runs) =
    let first = lists_some (length run.bytes) run.address run.bytes (omega arith) in
    let more = lists_all_some runs in
    (org_line run.address ∷ (first.0 ++ more.0), lists_run run.address run.bytes runs first.0 more.0 first.1 more.1)

-- ---- the listing of an image

pub some_listing : (image : List Part) → AllByRecursion (λ (p : ℕ × ℕ). p.1 < 256) (pairs_of image) → (text : List ℕ) × IsListing image text
some_listing image low =
    let ps = in_order (pairs_of image) in
    let runs = joined [] ps in
    let are = joined_runs (pairs_of image) ps (in_order_says (pairs_of image)) (in_order_rises (pairs_of image)) (in_order_placed (pairs_of image) (image_placed image low)) in
    let lines = lists_all_some runs in
    (flat_map with_line_feed lines.0, record { runs = runs; lines = lines.0; are = are; listed = lines.1; whole = refl })

pub one_text : (image : List Part) (t u : List ℕ) → IsListing image t → IsListing image u → t ≡ u
one_text image t u h g =
    let runs = runs_once (pairs_of image) h.runs g.runs h.are g.are in
    let lines = lists_all_once g.runs h.lines g.lines (subst (λ rs. ListsAll rs h.lines) runs h.listed) g.listed in
    sym h.whole ∙ ap (flat_map with_line_feed) lines ∙ g.whole

pub by_pairs : (image other : List Part) (t : List ℕ) → pairs_of image ≡ pairs_of other → IsListing image t → IsListing other t
by_pairs image other t same h = record { runs = h.runs; lines = h.lines; are = subst (λ ps. AreRunsOf ps h.runs) same h.are; listed = h.listed; whole = h.whole }

-- the listing of an image with few enough bytes
pub listing_reassembles : (image runs : List Part) (t : List ℕ) → IsListing image t → AreRuns image runs → bytes_in runs ≤ most_bytes → Reassembles image t
listing_reassembles image runs t h are few =
    let same = runs_once (pairs_of image) runs h.runs are h.are in
    let assembled = text_is_assembly h.runs h.lines h.listed h.are.each (subst (λ rs. bytes_in rs ≤ most_bytes) same few) in
    record { segments = h.runs; assembled = rw (← h.whole) assembled; same = h.are.same }

-- what the code prints of these runs
pub printed_listing : (image runs : List Part) (t : List ℕ) → AreRuns image runs → AddsRuns runs [] t → IsListing image t
printed_listing image runs t are h = record { runs = runs; lines = h.lines; are = are; listed = h.listed; whole = sym h.text }
