-- Reading a file to its end.
use Rattle.std.proofs.Common.{◌≡◌, ℕ, ◌+◌, ◌<◌, ◌≤◌, List, [], ◌++◌, length, length-append, Option, Some, None, refl, sym, ◌∙◌, ap, append_assoc, arith}
use Rattle.std.proofs.lemmas.List.{append-nil}
use Rattle.std.specs.Io.KnownBytes.{Consumes, IsAtEnd}
use Rattle.i9_outside.specs.declared.traits.TheConstants.{FILE_LIMIT}
use Rattle.i9_outside.specs.declared.traits.Fetch.{Fetch}
use Rattle.i9_outside.specs.declared.traits.Fetch.TheVariants as fetches
use Rattle.i9_outside.specs.Traits.{Fetches}

-- a fetch of a file that is told is a fetch of some file
pub untold : (answer : Fetch) (told : Option (List ℕ)) (old new : List ℕ) → Fetches answer told old new → Fetches answer None old new
untold answer told old new f = record { file = f.file; is_file = tt; leaves = f.leaves }

-- some bytes were read and appended, at most one more than a file may have
pub record HasRead (before after : Option (List ℕ)) (old new : List ℕ) (count : ℕ) : Type 0 where
  pub bytes : List ℕ
  pub consumes : Consumes before after bytes
  pub grows : new ≡ old ++ bytes
  pub counted : length bytes ≡ count
  pub few : count ≤ FILE_LIMIT + 1

pub Consumes-nothing : (known : Option (List ℕ)) → Consumes known known []
Consumes-nothing None = tt
Consumes-nothing (Some xs) = refl

pub Consumes-then : (a b c : Option (List ℕ)) (x y : List ℕ) → Consumes a b x → Consumes b c y → Consumes a c (x ++ y)
Consumes-then None b c x y p q = tt
Consumes-then (Some a) None c x y p q = absurd p
Consumes-then (Some a) (Some b) None x y p q = absurd q
Consumes-then (Some a) (Some b) (Some c) x y p q = p ∙ ap (λ bs. x ++ bs) q ∙ sym (append_assoc x y c)

pub read_nothing : (known : Option (List ℕ)) (old : List ℕ) → HasRead known known old old 0
read_nothing known old = record { bytes = []; consumes = Consumes-nothing known; grows = sym (append-nil old); counted = refl; few = omega arith }

-- a piece was read, and the buffer grew by it
pub read_more : (a b c : Option (List ℕ)) (old new newer : List ℕ) (count n : ℕ) (piece : List ℕ)
    → HasRead a b old new count → Consumes b c piece → newer ≡ new ++ piece → length piece ≡ n → count + n ≤ FILE_LIMIT + 1 → HasRead a c old newer (count + n)
read_more a b c old new newer count n piece r p grown many few = record {
  bytes = r.bytes ++ piece;
  consumes = Consumes-then a b c r.bytes piece r.consumes p;
  grows = grown ∙ ap (λ bs. bs ++ piece) r.grows ∙ append_assoc old r.bytes piece;
  counted = omega (arith, length-append r.bytes piece, r.counted, many);
  few = few;
}

-- What was read is a front of the file, which is what was left at first.

pub read_failed : (a b : Option (List ℕ)) (old new : List ℕ) (count : ℕ) → HasRead a b old new count → Fetches fetches.Failed a old new
read_failed None b old new count r = record { file = r.bytes; is_file = tt; leaves = record { front = r.bytes; rest = []; parts = append-nil r.bytes; grows = r.grows } }
read_failed (Some a) None old new count r = absurd r.consumes
read_failed (Some a) (Some b) old new count r = record { file = a; is_file = refl; leaves = record { front = r.bytes; rest = b; parts = sym r.consumes; grows = r.grows } }

pub read_refused : (a b : Option (List ℕ)) (old new : List ℕ) (count : ℕ) → HasRead a b old new count → Fetches fetches.Memory a old new
read_refused a b old new count r = let f = read_failed a b old new count r in record { file = f.file; is_file = f.is_file; leaves = f.leaves }

pub read_whole : (a b : Option (List ℕ)) (old new : List ℕ) (count : ℕ) → HasRead a b old new count → IsAtEnd b → count ≤ FILE_LIMIT → Fetches fetches.Ok a old new
read_whole None b old new count r end few = record { file = r.bytes; is_file = tt; leaves = (omega (arith, r.counted), r.grows) }
read_whole (Some a) None old new count r end few = absurd r.consumes
read_whole (Some a) (Some b) old new count r end few =
    let whole : a ≡ r.bytes = r.consumes ∙ ap (λ bs. r.bytes ++ bs) end ∙ append-nil r.bytes in
    record { file = r.bytes; is_file = sym whole; leaves = (omega (arith, r.counted), r.grows) }

pub read_long : (a b : Option (List ℕ)) (old new : List ℕ) (count : ℕ) → HasRead a b old new count → FILE_LIMIT < count → Fetches (fetches.TooLong count) a old new
read_long None b old new count r long = record {
  file = r.bytes;
  is_file = tt;
  leaves = (omega (arith, r.counted), omega (arith, r.few), record { front = r.bytes; rest = []; parts = append-nil r.bytes; grows = r.grows });
}
read_long (Some a) None old new count r long = absurd r.consumes
read_long (Some a) (Some b) old new count r long = record {
  file = a;
  is_file = refl;
  leaves = (omega (arith, r.counted, ap length r.consumes, length-append r.bytes b), omega (arith, r.few), record { front = r.bytes; rest = b; parts = sym r.consumes; grows = r.grows });
}

pub ruleset reading_rules = (untold, read_nothing, read_failed, read_refused, read_whole, read_long)
