-- The first piece that has a byte.
use Rattle.std.proofs.Common.{◌≡◌, ℕ, ◌+◌, ◌<◌, ◌≤◌, Bool, true, false, cond, List, [], ◌∷◌, length, get_or, drop, map, Option, Some, None, refl, sym, ap, inl, inr, ◌∙◌, arith}
use Rattle.std.specs.Prelude.{◌==◌, ◌↔◌}
use Rattle.std.specs.Option.{option_or}
use Rattle.std.specs.List.{AllByRecursion}
use Rattle.std.proofs.lemmas.Bool.{or_from, or_parts}
use Rattle.std.proofs.lemmas.Option.{none-some}
use Rattle.std.proofs.lemmas.List.{at_drop_more, at_drop_all}
use Rattle.i9_model.specs.Writes.{wrapped, upwards, last_put, or_earlier}
use Rattle.i9_model.specs.Frames.{in_bytes}
use Rattle.i9_shade.specs.declared.shade.OldBytes.{OldBytes}
use Rattle.i9_shade.specs.Shade.{Piece, Kept, piece_in, byte_of, first_byte, Lacks, ShowsNone}

-- ---- over a list of pieces

pub first_more : (olds : List OldBytes) (i : ℕ) (old : OldBytes) (a : ℕ) → i < length olds
    → first_byte (map piece_in (drop i olds)) a ≡ option_or (byte_of (piece_in (get_or olds i old)) a) (first_byte (map piece_in (drop (i + 1) olds)) a)
first_more olds i old a h = at_drop_more (λ rest. first_byte (map piece_in rest) a) olds i old h

pub first_done : (olds : List OldBytes) (i : ℕ) (a : ℕ) → length olds ≤ i → first_byte (map piece_in (drop i olds)) a ≡ None
first_done olds i a h = at_drop_all (λ rest. first_byte (map piece_in rest) a) olds i h

pub ruleset look_rules = (first_more, first_done)

-- ---- none has the byte

put_none : (here : Bool) (b : ℕ) (later : Option ℕ) → or_earlier later (cond here (Some b) None) ≡ None → (here ≡ false) × (later ≡ None)
put_none true b None e = absurd (none-some b (sym e))
put_none false b None e = (refl, refl)
put_none here b (Some v) e = absurd (none-some v (sym e))

none_put : (here : Bool) (b : ℕ) (later : Option ℕ) → here ≡ false → later ≡ None → or_earlier later (cond here (Some b) None) ≡ None
none_put here b later out none = ap (λ (o : Option ℕ). or_earlier o (cond here (Some b) None)) none ∙ ap (λ (t : Bool). cond t (Some b) None) out

-- a run has no byte at an address exactly where this is none of its addresses
lacks-none : (start : ℕ) (bytes : List ℕ) (a : ℕ) → last_put (upwards start bytes) a ≡ None → in_bytes start (length bytes) a ≡ false
unfolding last_put in_bytes
lacks-none start [] a e = refl
lacks-none start (b ∷ bytes) a e =
    let parts = put_none (a == wrapped start) b (last_put (upwards (start + 1) bytes) a) e in
    or_from (a == wrapped start) (in_bytes (start + 1) (length bytes) a) parts.0 (lacks-none (start + 1) bytes a parts.1)

none-lacks : (start : ℕ) (bytes : List ℕ) (a : ℕ) → in_bytes start (length bytes) a ≡ false → last_put (upwards start bytes) a ≡ None
unfolding last_put in_bytes
none-lacks start [] a e = refl
none-lacks start (b ∷ bytes) a e =
    let parts = or_parts (a == wrapped start) (in_bytes (start + 1) (length bytes) a) e in
    none_put (a == wrapped start) b (last_put (upwards (start + 1) bytes) a) parts.0 (none-lacks (start + 1) bytes a parts.1)

or_parts_none : (first later : Option ℕ) → option_or first later ≡ None → (first ≡ None) × (later ≡ None)
or_parts_none None later e = (refl, e)
or_parts_none (Some b) later e = absurd (none-some b (sym e))

none-all : (ps : List Piece) (a : ℕ) → first_byte ps a ≡ None → AllByRecursion (Lacks a) ps
none-all [] a e = tt
none-all (p ∷ ps) a e =
    let parts = or_parts_none (byte_of p a) (first_byte ps a) e in
    (lacks-none p.address p.bytes a parts.0, none-all ps a parts.1)

all-none : (ps : List Piece) (a : ℕ) → AllByRecursion (Lacks a) ps → first_byte ps a ≡ None
all-none [] a h = refl
all-none (p ∷ ps) a h = ap (λ (o : Option ℕ). option_or o (first_byte ps a)) (none-lacks p.address p.bytes a h.0) ∙ all-none ps a h.1

-- nothing shows exactly from the due turn on, or where no piece has the byte
pub shows-none : (k : Kept) (a turn : ℕ) → turn < k.due → (first_byte k.pieces a ≡ None) ↔ ShowsNone k a turn
shows-none k a turn lt = (
  λ e. inr (none-all k.pieces a e),
  λ h. elim h [ inl le ↦ absurd (omega (arith, lt, le)) | inr all ↦ all-none k.pieces a all ],
)
