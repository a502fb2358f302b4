-- What the command over buffers answers.
use Rattle.std.proofs.Common.{◌≡◌, ◌≢◌, ◌⊎◌, inl, inr, ℕ, ◌+◌, ◌<◌, ◌≤◌, List, [], ◌∷◌, ◌++◌, length, length-append, take, Option, Some, sym, ◌∙◌, ap, subst, arith}
use Rattle.std.specs.Prelude.{IsSome}
use Rattle.std.specs.List.{AllByRecursion}
use Rattle.i9_outside.specs.Counts.{Rose}
use Rattle.i9_outside.specs.Calls.{Plan, no_calls, NoneToFail}
use Rattle.i9_outside.specs.Traits.{AppendsFront, IsFile}
use Rattle.i9_tool.specs.CommandLine.{Command, command_of}
use Rattle.i9_tool.specs.Fetches.{AllTold}
use Rattle.i9_tool.specs.Outcome.{Gives, names_of}
use Rattle.i9_buffers.specs.Line.{AsksWith}
use Rattle.i9_buffers.specs.SlotFiles.{slot_of}
use Rattle.i9_buffers.specs.Request.{RequestGives, IsFrontOf, IsCut}

-- a count that stays has not risen from 0
no_rise : (before now : ℕ) → before ≡ 0 → now ≡ before → Rose before now → ⊥
no_rise before now zero same rose = omega (arith, zero, same, rose)

-- files that are told are told under another reading that says the same
told_too : (told other : List ℕ → Option (List ℕ)) → ((n : List ℕ) → told n ≡ other n) → (names : List (List ℕ)) → AllTold other names → AllByRecursion (λ name. IsSome (told name)) names
told_too told other same [] all = tt
told_too told other same (n ∷ names) all = (subst (λ (o : Option (List ℕ)). IsSome o) (sym (same n)) all.0, told_too told other same names all.1)

-- what is given for files at which no count rose is given where none can, and the same files are told
abbrev pub IsCalm : Type 0
IsCalm = (told other : List ℕ → Option (List ℕ)) (before now : List ℕ → ℕ) (asked : Option Command) (code : ℕ) (text : List ℕ)
    → ((n file : List ℕ) → IsFile (told n) file → IsFile (other n) file) → ((n : List ℕ) → Rose (before n) (now n) → ⊥)
    → Gives told (λ n. Rose (before n) (now n)) asked code text → Gives other (λ n. ⊥) asked code text

-- and with the counts of another reading, where each of them rises that rose
abbrev pub IsWider : Type 0
IsWider = (told other : List ℕ → Option (List ℕ)) (before now first last : List ℕ → ℕ) (asked : Option Command) (code : ℕ) (text : List ℕ)
    → ((n file : List ℕ) → IsFile (told n) file → IsFile (other n) file) → ((n : List ℕ) → Rose (before n) (now n) → Rose (first n) (last n))
    → Gives told (λ n. Rose (before n) (now n)) asked code text → Gives other (λ n. Rose (first n) (last n)) asked code text

-- a count of one has risen from 0
one_rose : Rose 0 1
one_rose = omega arith

-- what was given with files whose misses did not rise is given for these files
pub requested : IsCalm → IsWider → (words first second third : List ℕ) (asked : List (List ℕ)) (told : List ℕ → Option (List ℕ)) (before now : ℕ)
    → AsksWith words asked → ((n : List ℕ) → told n ≡ slot_of first second third n) → before ≡ 0
    → (AllByRecursion (λ name. IsSome (told name)) (names_of (command_of asked)) → now ≡ before)
    → (code : ℕ) (text : List ℕ) → Gives told (λ name. Rose before now) (command_of asked) code text
    → RequestGives words first second third code text
requested none some words first second third asked told before now asks same zero calm code text g =
    let found : (n f : List ℕ) → IsFile (told n) f → IsFile (slot_of first second third n) f = λ n f h. subst (λ (o : Option (List ℕ)). IsFile o f) (same n) h in
    record {
      asked = asked;
      asks = asks;
      gives = λ all. none told (slot_of first second third) (λ name. before) (λ name. now) (command_of asked) code text found
          (λ n r. no_rise before now zero (calm (told_too told (slot_of first second third) same (names_of (command_of asked)) all)) r) g;
      may_give = some told (slot_of first second third) (λ name. before) (λ name. now) (λ name. 0) (λ name. 1) (command_of asked) code text found (λ n r. one_rose) g;
    }

-- no call is set to fail where none was planned
pub none_planned : (p : Plan) → p ≡ no_calls → NoneToFail p
none_planned p same = subst NoneToFail (sym same) (λ k d h. absurd (omega (arith, h)))

-- a front that was appended to nothing
pub front_of : (gives : ℕ → List ℕ → Type 0) (code : ℕ) (text old new : List ℕ) → gives code text → old ≡ [] → AppendsFront (Some old) (Some new) text → IsFrontOf gives new
front_of gives code text old new given none a = record {
  code = code;
  text = text;
  rest = a.rest;
  is_given = given;
  parts = ap (λ (xs : List ℕ). xs ++ a.rest) (a.grows ∙ ap (λ (xs : List ℕ). xs ++ a.front) none) ∙ a.parts;
}

-- How a status and its bytes were put into a buffer of so many bytes.
pub record Puts (status size code len : ℕ) (bytes final : List ℕ) : Type 0 where
  pub whole : length bytes ≤ size → (code ≡ status) × (len ≡ length bytes) × (take len final ≡ bytes)
  pub short : size < length bytes → (code ≡ 6) × (len ≡ 0)

sized : (n m : ℕ) → (n ≤ m) ⊎ (m < n)
sized n m = grind arith

module _ (gives : ℕ → List ℕ → Type 0) (status size code len : ℕ) (bytes final : List ℕ) (p : Puts status size code len bytes final) where
  whole_in : (status < 6 → gives status bytes) → code < 6 → (length bytes ≤ size) ⊎ (size < length bytes) → gives code (take len final)
  whole_in given low (inl fit) =
      let put = p.whole fit in
      subst (λ (n : ℕ). gives n (take len final)) (sym put.0) (subst (λ (t : List ℕ). gives status t) (sym put.2) (given (subst (λ (n : ℕ). n < 6) put.0 low)))
  whole_in given low (inr long) = let six = (p.short long).0 in absurd (omega (arith, low, six))

  pub whole_reply : (status < 6 → gives status bytes) → code < 6 → gives code (take len final)
  whole_reply given low = whole_in given low (sized (length bytes) size)

  cut_in : (6 ≤ status → IsFrontOf gives bytes) → 6 ≤ code → (length bytes ≤ size) ⊎ (size < length bytes) → IsCut gives (take len final)
  cut_in front high (inl fit) =
      let put = p.whole fit in
      inr (subst (λ (t : List ℕ). IsFrontOf gives t) (sym put.2) (front (subst (λ (n : ℕ). 6 ≤ n) put.0 high)))
  cut_in front high (inr long) = inl (ap (λ (n : ℕ). take n final) (p.short long).1)

  pub cut_reply : (6 ≤ status → IsFrontOf gives bytes) → 6 ≤ code → IsCut gives (take len final)
  cut_reply front high = cut_in front high (sized (length bytes) size)

  too_short : (status < 6 → gives status bytes) → (6 ≤ status → IsFrontOf gives bytes) → ((c : ℕ) (t : List ℕ) → gives c t → length t ≤ size) → size < length bytes → (6 ≤ status) ⊎ (status < 6) → ⊥
  too_short given front fit long (inr low) = let some = fit status bytes (given low) in omega (arith, some, long)
  too_short given front fit long (inl high) =
      let f = front high in
      let some = fit f.code f.text f.is_given in
      let parts : length bytes + length f.rest ≡ length f.text = sym (length-append bytes f.rest) ∙ ap length f.parts in
      omega (arith, some, long, parts)

  fits_in : (status < 6 → gives status bytes) → (6 ≤ status → IsFrontOf gives bytes) → ((c : ℕ) (t : List ℕ) → gives c t → length t ≤ size) → status ≢ 6
      → (length bytes ≤ size) ⊎ (size < length bytes) → code ≢ 6
  fits_in given front fit calm (inl short) = λ six. calm (sym (p.whole short).0 ∙ six)
  fits_in given front fit calm (inr long) = λ six. too_short given front fit long (sized 6 status)

  pub fits_reply : (status < 6 → gives status bytes) → (6 ≤ status → IsFrontOf gives bytes) → ((c : ℕ) (t : List ℕ) → gives c t → length t ≤ size) → status ≢ 6 → code ≢ 6
  fits_reply given front fit calm = fits_in given front fit calm (sized (length bytes) size)
