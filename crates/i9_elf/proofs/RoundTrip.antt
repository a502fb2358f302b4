-- What is written for runs is read back.
use Rattle.std.proofs.Common.{◌≡◌, ℕ, suc, ◌+◌, ◌*◌, ◌^◌, ◌<◌, ◌≤◌, List, [], ◌∷◌, ◌++◌, length, drop, map, get_or, refl, sym, ap, subst, ◌∙◌, arith, append_assoc, length-append}
use Rattle.std.specs.List.{filter, flat_map, AllByRecursion}
use Rattle.std.proofs.lemmas.List.{append-nil, drop_at, take_all, take-append-le, drop_more}
use Rattle.i9_model.specs.Image.{Part, upwards, pairs_of}
use Rattle.i9_model.specs.HexText.{most_bytes}
use Rattle.i9_hex.specs.Shown.{part_of}
use Rattle.i9_hex.specs.declared.segments.Segment.{Segment}
use Rattle.i9_hex.specs.Runs.{IsRun, bytes_in, AreRuns}
use Rattle.i9_hex.proofs.Placed.{runs_few}
use Rattle.i9_hex.proofs.PairCounts.{length-pairs_of}
use Rattle.i9_elf.specs.Files.{header_count, header_size, Header, header_of, headers_in, is_load, load_kind, loads_of, memory_size, loaded_bytes, loaded_pairs, IsLoadable, IsImage}
use Rattle.i9_elf.specs.Written.{most_headers, words, file_header, program_header, program_headers, bytes_place, file_of, ReadsBack}

-- ---- numbers

-- ---- program headers

-- what the header of a run says
abbrev header_for : ℕ → Part → Header
header_for place run = record { kind = load_kind; offset = place; address = run.address; in_file = length run.bytes; in_memory = length run.bytes }

-- those of runs whose bytes stand one after the other
abbrev headers_for : ℕ → List Part → List Header
headers_for place [] = []
headers_for place (run ∷ runs) = header_for place run ∷ headers_for (place + length run.bytes) runs

header-back : (place : ℕ) (run : Part) (rest : List ℕ) → place < 2 ^ 32 → run.address < 2 ^ 32 → length run.bytes < 2 ^ 32 → header_of (program_header place run ++ rest) ≡ header_for place run
header-back place run rest low address size = grind arith

headers-back : (place : ℕ) (runs : List Part) (rest : List ℕ) → AllByRecursion IsRun runs → place + bytes_in runs < 2 ^ 32 → headers_in (length runs) (program_headers place runs ++ rest) ≡ headers_for place runs
headers-back place [] rest each low = refl
headers-back place (run ∷ runs) rest each low =
    grind (arith, header-back, headers-back (place + length run.bytes) runs rest each.1 (omega arith))

all_load : (place : ℕ) (runs : List Part) → filter is_load (headers_for place runs) ≡ headers_for place runs
all_load place [] = refl
all_load place (run ∷ runs) = ap (λ (hs : List Header). header_for place run ∷ hs) (all_load (place + length run.bytes) runs)

all_inside : (file : List ℕ) (place : ℕ) (runs : List Part) → place + bytes_in runs ≤ length file → AllByRecursion (IsLoadable file) (headers_for place runs)
all_inside file place [] inside = tt
all_inside file place (run ∷ runs) inside =
    grind (arith, all_inside file (place + length run.bytes) runs (omega (arith, inside)))

all_bytes : (place : ℕ) (runs : List Part) → memory_size (headers_for place runs) ≡ bytes_in runs
all_bytes place [] = refl
all_bytes place (run ∷ runs) = ap (λ (n : ℕ). length run.bytes + n) (all_bytes (place + length run.bytes) runs)

length-headers : (place : ℕ) (runs : List Part) → length (program_headers place runs) ≡ header_size * length runs
length-headers place [] = refl
length-headers place (run ∷ runs) = grind (arith, length-append, length-headers (place + length run.bytes) runs)

-- ---- the bytes

abbrev bytes_of : List Part → List ℕ
bytes_of runs = flat_map (λ (run : Part). run.bytes) runs

length-bytes : (runs : List Part) → length (bytes_of runs) ≡ bytes_in runs
length-bytes [] = refl
length-bytes (run ∷ runs) = length-append run.bytes (bytes_of runs) ∙ ap (λ (n : ℕ). length run.bytes + n) (length-bytes runs)

-- a header loads the bytes of its run
loads_run : (file front : List ℕ) (run : Part) (rest : List ℕ) → file ≡ front ++ (run.bytes ++ rest) → loaded_bytes file (header_for (length front) run) ≡ run.bytes
loads_run file front run rest is = grind (arith, drop_at, take-append-le, take_all, append-nil)

loads-back : (file front : List ℕ) (runs : List Part) → file ≡ front ++ bytes_of runs → flat_map (loaded_pairs file) (headers_for (length front) runs) ≡ pairs_of runs
unfolding pairs_of
loads-back file front [] is = refl
loads-back file front (run ∷ runs) is =
    let own = loads_run file front run (bytes_of runs) is in
    let more = loads-back file (front ++ run.bytes) runs (is ∙ sym (append_assoc front run.bytes (bytes_of runs))) in
    let place : length (front ++ run.bytes) ≡ length front + length run.bytes = length-append front run.bytes in
    rw own (ap (λ (ps : List (ℕ × ℕ)). upwards run.address run.bytes ++ ps) (subst (λ (k : ℕ). flat_map (loaded_pairs file) (headers_for k runs) ≡ pairs_of runs) place more))

-- ---- while headers are written

pub add_turn : (runs : List Segment) (i place size : ℕ) (run : Segment) (old new total : List ℕ) → i < length runs → run ≡ get_or runs i run → size ≡ length run.bytes.items
    → new ≡ old ++ words (1 ∷ place ∷ run.address ∷ run.address ∷ size ∷ size ∷ 7 ∷ 1 ∷ []) → old ++ program_headers place (map part_of (drop i runs)) ≡ total
    → new ++ program_headers (place + size) (map part_of (drop (i + 1) runs)) ≡ total
add_turn runs i place size run old new total lt is len more before = grind (arith, append_assoc, drop_more)

pub room_turn : (runs : List Segment) (i : ℕ) (run : Segment) → i < length runs → run ≡ get_or runs i run
    → bytes_in (map part_of (drop i runs)) ≡ length run.bytes.items + bytes_in (map part_of (drop (i + 1) runs))
room_turn runs i run lt is = ap (λ (rs : List Segment). bytes_in (map part_of rs)) (drop_more runs i run lt ∙ ap (λ (r : Segment). r ∷ drop (i + 1) runs) (sym is))

-- ---- the whole file

pub length-map_part : (runs : List Segment) → length (map part_of runs) ≡ length runs
length-map_part [] = refl
length-map_part (run ∷ runs) = ap suc (length-map_part runs)

pub few_bytes : (image runs : List Part) → AreRuns image runs → length (pairs_of image) ≤ most_bytes → bytes_in runs ≤ most_bytes
few_bytes image runs are few = let less = runs_few image runs are in let same = length-pairs_of runs in omega (arith, few, less, same)

count-back : (runs : List Part) → length runs ≤ most_headers → header_count (file_of runs) ≡ length runs
unfolding file_of
count-back runs few = grind arith

length-file : (runs : List Part) → length (file_of runs) ≡ bytes_place (length runs) + bytes_in runs
unfolding file_of
length-file runs = grind (arith, length-headers, length-bytes, length-append)

loads-file : (runs : List Part) → AllByRecursion IsRun runs → length runs ≤ most_headers → bytes_in runs ≤ most_bytes → loads_of (file_of runs) ≡ headers_for (bytes_place (length runs)) runs
unfolding file_of
loads-file runs each count bytes = grind (arith, count-back, headers-back, all_load)

-- the bytes stand behind the headers
split_file : (runs : List Part) → file_of runs ≡ (file_header (length runs) ++ program_headers (bytes_place (length runs)) runs) ++ bytes_of runs
unfolding file_of
split_file runs = sym (append_assoc (file_header (length runs)) (program_headers (bytes_place (length runs)) runs) (bytes_of runs))

same-file : (runs : List Part) → flat_map (loaded_pairs (file_of runs)) (headers_for (bytes_place (length runs)) runs) ≡ pairs_of runs
same-file runs =
    let front = file_header (length runs) ++ program_headers (bytes_place (length runs)) runs in
    let heads = length-headers (bytes_place (length runs)) runs in
    let place : length front ≡ bytes_place (length runs) = length-append (file_header (length runs)) (program_headers (bytes_place (length runs)) runs) ∙ omega (arith, heads) in
    subst (λ (k : ℕ). flat_map (loaded_pairs (file_of runs)) (headers_for k runs) ≡ pairs_of runs) place (loads-back (file_of runs) front runs (split_file runs))

-- the file of runs is read back
pub file-image : (runs : List Part) → AllByRecursion IsRun runs → length runs ≤ most_headers → bytes_in runs ≤ most_bytes → IsImage (file_of runs) (pairs_of runs)
unfolding file_of
file-image runs each count bytes = grind (arith, count-back, length-file, loads-file, all_inside, all_bytes, same-file)

pub file-again : (image runs : List Part) (file : List ℕ) → AreRuns image runs → length runs ≤ most_headers → bytes_in runs ≤ most_bytes → file ≡ file_of runs → ReadsBack file image
file-again image runs file are count bytes is = grind (arith, file-image)
