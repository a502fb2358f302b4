-- The calls that reading a file to its end, and writing a piece, are made of.
use Rattle.std.proofs.Common.{◌≡◌, ◌≢◌, ℕ, ◌<◌, List, [], ◌∷◌, ◌++◌, length, drop, slice_range, flat_map, Option, Some, None, refl, sym, ◌∙◌, ap, subst, arith}
use Rattle.std.proofs.lemmas.List.{append-nil, flat_map_more}
use Rattle.std.proofs.lemmas.Grind.{common_steps}
use Rattle.i9_outside.specs.declared.traits.Fetch.TheVariants as fetches
use Rattle.i9_outside.specs.declared.traits.Wrote.TheVariants as wrotes
use Rattle.i9_system.specs.System.{ReadsOf, ReadsInto, WritesOf, WriteCalls}

-- reads were made, whose pieces went into the buffer
pub record HasAsked {F : Type 0} (reads : F → Option (List ℕ) → F → Type 0) (before after : F) (old new : List ℕ) : Type 0 where
  pub pieces : List (List ℕ)
  pub calls : ReadsOf reads before pieces after
  pub grows : new ≡ old ++ flat_map (λ piece. piece) pieces

pub reads_then : {F : Type 0} (reads : F → Option (List ℕ) → F → Type 0) (a b c : F) (pieces : List (List ℕ)) (piece : List ℕ)
    → ReadsOf reads a pieces b → 0 < length piece → reads b (Some piece) c → ReadsOf reads a (pieces ++ piece ∷ []) c
reads_then reads a b c [] piece r some last = (c, some, subst (λ s. reads s (Some piece) c) r last, refl)
reads_then reads a b c (p ∷ pieces) piece r some last = (r.0, r.1, r.2, reads_then reads r.0 b c pieces piece r.3 some last)

pub asked_nothing : {F : Type 0} (reads : F → Option (List ℕ) → F → Type 0) (s : F) (old : List ℕ) → HasAsked reads s s old old
asked_nothing reads s old = record { pieces = []; calls = refl; grows = sym (append-nil old) }

-- one read more was made, and the buffer grew by its piece
pub asked_more : {F : Type 0} (reads : F → Option (List ℕ) → F → Type 0) (a b c : F) (old new newer piece : List ℕ)
    → HasAsked reads a b old new → reads b (Some piece) c → newer ≡ new ++ piece → 0 < length piece → HasAsked reads a c old newer
asked_more reads a b c old new newer piece h call grown some = record {
  pieces = h.pieces ++ piece ∷ [];
  calls = reads_then reads a b c h.pieces piece h.calls some call;
  grows = grown ∙ ap (λ bs. bs ++ piece) h.grows ∙ flat_map_more (λ p. p) old h.pieces piece;
}

pub asked_end : {F : Type 0} (reads : F → Option (List ℕ) → F → Type 0) (a b c : F) (old new : List ℕ)
    → HasAsked reads a b old new → reads b (Some []) c → ReadsInto reads fetches.Ok a c old new
asked_end reads a b c old new h call = (h.pieces, (b, h.calls, call), h.grows)

pub asked_failed : {F : Type 0} (reads : F → Option (List ℕ) → F → Type 0) (a b c : F) (old new : List ℕ)
    → HasAsked reads a b old new → reads b None c → ReadsInto reads fetches.Failed a c old new
asked_failed reads a b c old new h call = (h.pieces, (b, h.calls, call), h.grows)

pub asked_refused : {F : Type 0} (reads : F → Option (List ℕ) → F → Type 0) (a b c : F) (old new piece : List ℕ)
    → HasAsked reads a b old new → reads b (Some piece) c → ReadsInto reads fetches.Memory a c old new
asked_refused reads a b c old new piece h call = (h.pieces, (b, piece, h.calls, call), h.grows)

pub asked_long : {F : Type 0} (reads : F → Option (List ℕ) → F → Type 0) (a b : F) (old new : List ℕ) (count : ℕ)
    → HasAsked reads a b old new → ReadsInto reads (fetches.TooLong count) a b old new
asked_long reads a b old new count h = (h.pieces, h.calls, h.grows)

pub ruleset asking_rules = (asked_nothing, asked_end, asked_failed, asked_refused, asked_long)

-- a piece was written up to this rest
pub record HasCalled {W : Type 0} (calls : W → List ℕ → Option ℕ → W → Type 0) (before after : W) (piece rest : List ℕ) : Type 0 where
  pub counts : List ℕ
  pub made : WritesOf calls before piece counts after rest

pub writes_then : {W : Type 0} (calls : W → List ℕ → Option ℕ → W → Type 0) (a b c : W) (piece rest : List ℕ) (counts : List ℕ) (n : ℕ)
    → WritesOf calls a piece counts b rest → 0 < n → calls b rest (Some n) c → WritesOf calls a piece (counts ++ n ∷ []) c (drop n rest)
writes_then calls a b c piece rest [] n w some last = (c, some, subst (λ r. calls a r (Some n) c) w.1 (subst (λ s. calls s rest (Some n) c) w.0 last), (refl, ap (drop n) w.1))
writes_then calls a b c piece rest (k ∷ counts) n w some last = (w.0, w.1, w.2, writes_then calls w.0 b c (drop k piece) rest counts n w.3 some last)

pub called_nothing : {W : Type 0} (calls : W → List ℕ → Option ℕ → W → Type 0) (s : W) (piece : List ℕ) → HasCalled calls s s piece piece
called_nothing calls s piece = record { counts = []; made = (refl, refl) }

rest_taken : (n : ℕ) (rest : List ℕ) → drop n rest ≡ slice_range rest n (length rest)
rest_taken n rest = grind (arith, common_steps)

-- the rest as the code takes it, `&rest[n..]`
pub called_more : {W : Type 0} (calls : W → List ℕ → Option ℕ → W → Type 0) (a b c : W) (piece rest : List ℕ) (n : ℕ)
    → HasCalled calls a b piece rest → 0 < n → calls b rest (Some n) c → HasCalled calls a c piece (slice_range rest n (length rest))
called_more calls a b c piece rest n h some call = record {
  counts = h.counts ++ n ∷ [];
  made = subst (λ r. WritesOf calls a piece (h.counts ++ n ∷ []) c r) (rest_taken n rest) (writes_then calls a b c piece rest h.counts n h.made some call);
}

pub called_all : {W : Type 0} (calls : W → List ℕ → Option ℕ → W → Type 0) (a b : W) (piece : List ℕ)
    → HasCalled calls a b piece [] → WriteCalls calls wrotes.Ok piece a b
called_all calls a b piece h = (h.counts, h.made)

pub called_failed : {W : Type 0} (calls : W → List ℕ → Option ℕ → W → Type 0) (a b c : W) (piece rest : List ℕ)
    → HasCalled calls a b piece rest → rest ≢ [] → calls b rest None c → WriteCalls calls wrotes.Failed piece a c
called_failed calls a b c piece rest h some call = (h.counts, b, rest, None, h.made, some, tt, call)

pub called_short : {W : Type 0} (calls : W → List ℕ → Option ℕ → W → Type 0) (a b c : W) (piece rest : List ℕ)
    → HasCalled calls a b piece rest → rest ≢ [] → calls b rest (Some 0) c → WriteCalls calls wrotes.Failed piece a c
called_short calls a b c piece rest h some call = (h.counts, b, rest, Some 0, h.made, some, refl, call)

pub ruleset calling_rules = (called_nothing, called_more, called_all, called_failed, called_short)
