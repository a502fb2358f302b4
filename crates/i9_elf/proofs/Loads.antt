-- Headers that load, one after the other.
use Rattle.std.proofs.Common.{◌≡◌, ℕ, suc, ◌+◌, ◌-◌, ◌*◌, ◌<◌, ◌≤◌, Bool, true, false, ltb, ◌&&◌, List, [], ◌∷◌, ◌++◌, drop, Option, Some, None, Result, Ok, Err, refl, sym, ap, ◌∙◌, arith, append_assoc}
use Rattle.std.specs.List.{filter, flat_map, AllByRecursion}
use Rattle.std.proofs.lemmas.List.{append-nil, drop-drop}
use Rattle.i9_model.specs.Image.{Part, pairs_of}
use Rattle.i9_model.specs.HexText.{most_bytes}
use Rattle.i9_elf.specs.Reading.{or_refused, load_all}
use Rattle.i9_elf.specs.Files.{Header, header_size, header_of, headers_in, headers_place, header_count, is_load, loads_of, memory_size, loaded_pairs, IsLoadable, fault_of_load}

-- ---- one header

-- a test that counts where there is something
pub and_some : (n : ℕ) (b : Bool) → (ltb 0 n && b) ≡ false → 0 < n → b ≡ false
and_some n b e some = let t : ltb 0 n ≡ true = grind arith in rw t at e

-- a load without fault
pub record Fits (file : List ℕ) (size : ℕ) (h : Header) : Type 0 where
  pub loadable : IsLoadable file h
  pub room : size + h.in_memory ≤ most_bytes

pub fits : (file : List ℕ) (size : ℕ) (h : Header) → fault_of_load file size h ≡ None → Fits file size h
unfolding fault_of_load
fits file size h fine = grind arith

pub is_fine : (file : List ℕ) (size : ℕ) (h : Header) → IsLoadable file h → size + h.in_memory ≤ most_bytes → fault_of_load file size h ≡ None
unfolding fault_of_load
is_fine file size h loads room = grind arith

-- ---- all headers

-- headers without fault
pub record FitAll (file : List ℕ) (size : ℕ) (ps : List (ℕ × ℕ)) (hs : List Header) (qs : List (ℕ × ℕ)) : Type 0 where
  pub loads : AllByRecursion (IsLoadable file) hs
  pub room : size + memory_size hs ≤ most_bytes
  pub same : ps ++ flat_map (loaded_pairs file) hs ≡ qs

-- the first header at fault
pub record Stops (file : List ℕ) (size : ℕ) (hs : List Header) (kind : ℕ) : Type 0 where
  pub front : List Header
  pub at : Header
  pub back : List Header
  pub are : hs ≡ front ++ at ∷ back
  pub loads : AllByRecursion (IsLoadable file) front
  pub room : size + memory_size front ≤ most_bytes
  pub fault : fault_of_load file (size + memory_size front) at ≡ Some kind

-- where what comes first refuses nothing
pub refused_ok : {X : Type 0} (o : Option ℕ) (rest : Result X ℕ) (x : X) → or_refused o rest ≡ Ok x → (o ≡ None) × (rest ≡ Ok x)
refused_ok o rest x e = grind arith

pub load_all-ok : (file : List ℕ) (size : ℕ) (ps : List (ℕ × ℕ)) (hs : List Header) (qs : List (ℕ × ℕ)) → size ≤ most_bytes → load_all file size ps hs ≡ Ok qs → FitAll file size ps hs qs
load_all-ok file size ps [] qs small e = record { loads = tt; room = omega (arith, small); same = cc (append-nil ps) }
load_all-ok file size ps (h ∷ hs) qs small e =
    let both = refused_ok (fault_of_load file size h) _ qs e in
    let fit = fits file size h both.0 in
    let more = load_all-ok file (size + h.in_memory) (ps ++ loaded_pairs file h) hs qs fit.room both.1 in
    record {
      loads = (fit.loadable, more.loads);
      room = omega (arith, more.room);
      same = sym (append_assoc ps (loaded_pairs file h) (flat_map (loaded_pairs file) hs)) ∙ more.same;
    }

pub ok-load_all : (file : List ℕ) (size : ℕ) (ps : List (ℕ × ℕ)) (hs : List Header) (qs : List (ℕ × ℕ)) → FitAll file size ps hs qs → load_all file size ps hs ≡ Ok qs
ok-load_all file size ps [] qs fit = ap Ok (sym (append-nil ps) ∙ fit.same)
ok-load_all file size ps (h ∷ hs) qs fit =
    let fine = is_fine file size h fit.loads.0 (omega (arith, fit.room)) in
    let more = ok-load_all file (size + h.in_memory) (ps ++ loaded_pairs file h) hs qs (record {
      loads = fit.loads.1;
      room = omega (arith, fit.room);
      same = append_assoc ps (loaded_pairs file h) (flat_map (loaded_pairs file) hs) ∙ fit.same;
    }) in
    rw fine more

-- by the fault of the first header
stops_at : (file : List ℕ) (size : ℕ) (h : Header) (hs : List Header) (o : Option ℕ) (kind : ℕ) (rest : Result (List (ℕ × ℕ)) ℕ) → size ≤ most_bytes → fault_of_load file size h ≡ o → or_refused o rest ≡ Err kind
    → (fault_of_load file size h ≡ None → rest ≡ Err kind → Stops file (size + h.in_memory) hs kind) → Stops file size (h ∷ hs) kind
stops_at file size h hs (Some k) kind rest small is e later =
    let one : k ≡ kind = cc in
    record {
      front = [];
      at = h;
      back = hs;
      are = refl;
      loads = tt;
      room = omega (arith, small);
      fault = ap (λ (n : ℕ). fault_of_load file n h) (omega arith) ∙ is ∙ ap Some one;
    }
stops_at file size h hs None kind rest small is e later =
    let fit = fits file size h is in
    let more = later is e in
    record {
      front = h ∷ more.front;
      at = more.at;
      back = more.back;
      are = ap (λ (xs : List Header). h ∷ xs) more.are;
      loads = (fit.loadable, more.loads);
      room = omega (arith, more.room);
      fault = ap (λ (n : ℕ). fault_of_load file n more.at) (omega arith) ∙ more.fault;
    }

pub load_all-err : (file : List ℕ) (size : ℕ) (ps : List (ℕ × ℕ)) (hs : List Header) (kind : ℕ) → size ≤ most_bytes → load_all file size ps hs ≡ Err kind → Stops file size hs kind
load_all-err file size ps [] kind small e = absurd cc
load_all-err file size ps (h ∷ hs) kind small e =
    stops_at file size h hs (fault_of_load file size h) kind _ small refl e
    (λ fine rest. let fit = fits file size h fine in load_all-err file (size + h.in_memory) (ps ++ loaded_pairs file h) hs kind fit.room rest)

pub err-load_all : (file : List ℕ) (size : ℕ) (ps : List (ℕ × ℕ)) (front : List Header) (h : Header) (back : List Header) (kind : ℕ) → AllByRecursion (IsLoadable file) front → size + memory_size front ≤ most_bytes → fault_of_load file (size + memory_size front) h ≡ Some kind
    → load_all file size ps (front ++ h ∷ back) ≡ Err kind
err-load_all file size ps [] h back kind loads room fault = grind arith
err-load_all file size ps (g ∷ front) h back kind loads room fault =
    let fine = is_fine file size g loads.0 (omega (arith, room)) in
    let more = err-load_all file (size + g.in_memory) (ps ++ loaded_pairs file g) front h back kind loads.1 (omega (arith, room)) (ap (λ (n : ℕ). fault_of_load file n h) (omega arith) ∙ fault) in
    rw fine more

-- ---- the headers of a file

-- the first of those that are left
pub headers-turn : (n index place : ℕ) (file : List ℕ) → index < n
    → headers_in (n - index) (drop (place + header_size * index) file) ≡ header_of (drop (place + header_size * index) file) ∷ headers_in (n - (index + 1)) (drop (place + header_size * (index + 1)) file)
headers-turn n index place file lt =
    let e : n - index ≡ suc (n - (index + 1)) = omega arith in
    let at : place + header_size * index + header_size ≡ place + header_size * (index + 1) = omega arith in
    let d : drop header_size (drop (place + header_size * index) file) ≡ drop (place + header_size * (index + 1)) file = drop-drop header_size (place + header_size * index) file ∙ ap (λ (k : ℕ). drop k file) at in
    rw e (ap (λ (bs : List ℕ). header_of (drop (place + header_size * index) file) ∷ headers_in (n - (index + 1)) bs) d)

-- before the first
pub begins_all : (file : List ℕ) (place count : ℕ) (parts : List Part) → place ≡ headers_place file → count ≡ header_count file → parts ≡ []
    → load_all file 0 (pairs_of parts) (filter is_load (headers_in (count - 0) (drop (place + 0) file))) ≡ load_all file 0 [] (loads_of file)
unfolding pairs_of
begins_all file place count parts at many none = grind arith

-- the headers that are left, from one on
abbrev left : List ℕ → ℕ → ℕ → ℕ → List Header
left file place count index = headers_in (count - index) (drop (place + header_size * index) file)

-- the next header loads nothing,
pub next-other : (file : List ℕ) (size place count index : ℕ) (ps : List (ℕ × ℕ)) (h : Header) (total : Result (List (ℕ × ℕ)) ℕ) → index < count → h ≡ header_of (drop (place + header_size * index) file) → is_load h ≡ false
    → load_all file size ps (filter is_load (left file place count index)) ≡ total → load_all file size ps (filter is_load (left file place count (index + 1))) ≡ total
next-other file size place count index ps h total lt is other before = grind (arith, headers-turn)

-- loads,
pub next-load : (file : List ℕ) (size place count index : ℕ) (ps qs : List (ℕ × ℕ)) (h : Header) (total : Result (List (ℕ × ℕ)) ℕ) → index < count → h ≡ header_of (drop (place + header_size * index) file) → is_load h ≡ true
    → fault_of_load file size h ≡ None → qs ≡ ps ++ loaded_pairs file h
    → load_all file size ps (filter is_load (left file place count index)) ≡ total → load_all file (size + h.in_memory) qs (filter is_load (left file place count (index + 1))) ≡ total
next-load file size place count index ps qs h total lt is loads fine more before = grind (arith, headers-turn)

-- or has a fault
pub next-fault : (file : List ℕ) (size place count index : ℕ) (ps : List (ℕ × ℕ)) (h : Header) (kind : ℕ) (total : Result (List (ℕ × ℕ)) ℕ) → index < count → h ≡ header_of (drop (place + header_size * index) file) → is_load h ≡ true
    → fault_of_load file size h ≡ Some kind → load_all file size ps (filter is_load (left file place count index)) ≡ total → total ≡ Err kind
next-fault file size place count index ps h kind total lt is loads fault before = grind arith
