-- Each name has a key of its own, so a table keeps the definitions of names by their keys.
use Rattle.std.proofs.Common.{◌≡◌, ℕ, ◌<◌, ◌≤◌, Bool, true, cond, List, [], ◌∷◌, length, take, drop, Option, Some, None, refl, sym, ap, ◌∙◌, arith}
use Rattle.std.specs.Ordering.{is_eq}
use Rattle.std.specs.List.{list_all}
use Rattle.std.specs.Map.{update}
use Rattle.std.specs.Str.{bytes_eq}
use Rattle.std.proofs.Math.Path.{fun_ext}
use Rattle.std.proofs.lemmas.Bool.{cases_Bool, and_parts}
use Rattle.std.proofs.lemmas.Bool.Decides.{nat_tests}
use Rattle.std.proofs.lemmas.List.{take-append-drop}
use Rattle.std.proofs.lemmas.List.Folds.{list_all-append}
use Rattle.std.proofs.lemmas.Slice.Eq.{bytes_eq-Decides}
use Rattle.i9_statement.specs.declared.known.Definition.{Definition}
use Rattle.i9_statement.specs.Known.{Key, word_of, key_of, key_cmp, enter}
use Rattle.i9_statement.specs.Values.{is_name, is_name_byte}
use Rattle.i9_statement.proofs.NameBytes.{low_name}

-- ---- words

some_byte : (n : ℕ) → is_name_byte n ≡ true → 0 < n
some_byte n h = grind arith

abbrev AreNameBytes : List ℕ → Type 0
AreNameBytes s = list_all is_name_byte s ≡ true

word_once : (s t : List ℕ) → AreNameBytes s → AreNameBytes t → word_of s ≡ word_of t → s ≡ t
unfolding word_of
word_once [] [] g h e = refl
word_once [] (c ∷ t) g h e = grind (arith, some_byte, and_parts)
word_once (b ∷ s) [] g h e = grind (arith, some_byte, and_parts)
word_once (b ∷ s) (c ∷ t) g h e =
    let gs = and_parts (is_name_byte b) (list_all is_name_byte s) g in
    let hs = and_parts (is_name_byte c) (list_all is_name_byte t) h in
    let low_b = low_name b gs.0 in
    let low_c = low_name c hs.0 in
    let first : b ≡ c = omega (arith, e, low_b, low_c) in
    let rest : word_of s ≡ word_of t = omega (arith, e, low_b, low_c) in
    rw (first, word_once s t gs.1 hs.1 rest) refl

-- ---- keys

parts : (n : ℕ) (s : List ℕ) → AreNameBytes s → AreNameBytes (take n s) × AreNameBytes (drop n s)
parts n s h =
    let joint = sym (list_all-append is_name_byte (take n s) (drop n s)) in
    and_parts (list_all is_name_byte (take n s)) (list_all is_name_byte (drop n s))
    (joint ∙ ap (list_all is_name_byte) (take-append-drop n s) ∙ h)

joined : (n : ℕ) (s t : List ℕ) → take n s ≡ take n t → drop n s ≡ drop n t → s ≡ t
joined n s t front back = sym (take-append-drop n s) ∙ rw (front, back) (take-append-drop n t)

name_bytes : (s : List ℕ) → is_name s ≡ true → AreNameBytes s
unfolding is_name
name_bytes s h = grind (arith, nat_tests)

pub short_name : (s : List ℕ) → is_name s ≡ true → length s ≤ 63
unfolding is_name
short_name s h = grind (arith, nat_tests)

-- the mark and the words are those of another key
abbrev pub SameWords : Key → Key → Type 0
SameWords x y = (x.0 ≡ y.0) × (x.1 ≡ y.1) × (x.2 ≡ y.2) × (x.3 ≡ y.3) × (x.4 ≡ y.4)

key_once : (s t : List ℕ) → is_name s ≡ true → is_name t ≡ true → SameWords (key_of s) (key_of t) → s ≡ t
unfolding key_of
key_once s t g h e =
    let s2 = drop 16 s in
    let t2 = drop 16 t in
    let s3 = drop 16 s2 in
    let t3 = drop 16 t2 in
    let g1 = parts 16 s (name_bytes s g) in
    let h1 = parts 16 t (name_bytes t h) in
    let g2 = parts 16 s2 g1.1 in
    let h2 = parts 16 t2 h1.1 in
    let g3 = parts 16 s3 g2.1 in
    let h3 = parts 16 t3 h2.1 in
    let last = word_once (drop 16 s3) (drop 16 t3) g3.1 h3.1 e.4 in
    let third = joined 16 s3 t3 (word_once (take 16 s3) (take 16 t3) g3.0 h3.0 e.3) last in
    let second = joined 16 s2 t2 (word_once (take 16 s2) (take 16 t2) g2.0 h2.0 e.2) third in
    joined 16 s t (word_once (take 16 s) (take 16 t) g1.0 h1.0 e.1) second

-- ---- the order of keys

same_words : (x y : Key) → is_eq (key_cmp x y) ≡ true → SameWords x y
same_words x y h = (grind arith, grind arith, grind arith, grind arith, grind arith)

key_itself : (x : Key) → is_eq (key_cmp x x) ≡ true
key_itself x = grind arith

-- whether the keys of two texts are equal
abbrev same_keys : List ℕ → List ℕ → Bool
same_keys s t = is_eq (key_cmp (key_of s) (key_of t))

same_names : (s t : List ℕ) → is_name s ≡ true → is_name t ≡ true → same_keys s t ≡ bytes_eq s t
same_names s t g h = grind (arith, cases_Bool, bytes_eq-Decides, key_once, same_words, key_itself)

-- ---- definitions by key

-- what a name has by its key
abbrev pub by_key : (Key → Option Definition) → List ℕ → Option Definition
by_key f name = cond (is_name name) (f (key_of name)) None

-- one key has this definition now, and each other one that which it had
abbrev pub Puts : (Key → Option Definition) → Key → Definition → (Key → Option Definition) → Type 0
Puts f key d g = (q : Key) → g q ≡ cond (is_eq (key_cmp key q)) (Some d) (f q)

put_name : (f g : Key → Option Definition) (name : List ℕ) (d : Definition) → is_name name ≡ true → Puts f (key_of name) d g
    → (q : List ℕ) → by_key g q ≡ update bytes_eq (by_key f) name (Some d) q
put_name f g name d good put q = grind (arith, cases_Bool, same_names, bytes_eq-Decides)

found : (f : Key → Option Definition) (name : List ℕ) → is_name name ≡ true → by_key f name ≡ f (key_of name)
found f name good = rw good refl

-- a definition of a new name
pub entered : (f g : Key → Option Definition) (name : List ℕ) (d : Definition) → is_name name ≡ true
    → f (key_of name) ≡ None → Puts f (key_of name) d g → by_key g ≡ enter name d (by_key f)
entered f g name d good none put = grind (arith, found, fun_ext, put_name)

-- one that gives way to the first
pub stays : (f g h : Key → Option Definition) (name : List ℕ) (d first : Definition) → is_name name ≡ true
    → f (key_of name) ≡ Some first → Puts f (key_of name) d g → Puts g (key_of name) first h → by_key h ≡ enter name d (by_key f)
stays f g h name d first good was put back = grind arith
