-- Frames along a run without hazards: live frames stay apart, and their bytes stay soft.
use Rattle.std.proofs.Common.{◌≡◌, ℕ, Bool, true, false, cond, List, [], ◌∷◌, Option, Some, None, refl, arith}
use Rattle.std.specs.Prelude.{◌==◌, not}
use Rattle.std.specs.List.{list_any, find}
use Rattle.std.proofs.lemmas.Bool.{eqb-true}
use Rattle.i9_model.specs.declared.layout.TheConstants.{FRAME_SIZE}
use Rattle.i9_model.specs.Memory.{in_port_page}
use Rattle.i9_model.specs.State.{Frames}
use Rattle.i9_model.specs.Writes.{places_of}
use Rattle.i9_model.specs.Frames.{places, in_bytes, in_frames, no_frames, has, saved, with_marked, returned, flushed, is_put, wrote, softened}
use Rattle.i9_model.specs.Hazards.{least, read_hazard, write_hazard, writes_hazard, port_hazard, save_hazard}
use Rattle.i9_model.specs.Sound.{AreApart, in_returns, IsSound}
use Rattle.i9_model.proofs.Among.{return-inside}

-- ---- accesses without a hazard

pub if_none : (b : Bool) (y : ℕ) (o : Option ℕ) → cond b (Some y) o ≡ None → (b ≡ false) × (o ≡ None)
if_none b y o e = grind arith

none_found : (test : ℕ → Bool) (ys : List ℕ) (x : ℕ) → find test ys ≡ None → list_any (λ (y : ℕ). x == y) ys ≡ true → test x ≡ false
none_found test [] x none t = absurd (cc)
none_found test (y ∷ ys) x none t =
    let both = if_none (test y) y (find test ys) none in
    grind (arith, eqb-true x y, none_found test ys x both.1, both, t)

-- where no byte of an access passes, none of its bytes does
pub least-none : (test : ℕ → Bool) (a n x : ℕ) → least test a n ≡ None → in_bytes a n x ≡ true → test x ≡ false
unfolding in_bytes
least-none test a n x none t = none_found test (places a n) x none t

-- a byte that is read without a hazard is not soft
pub read_hazard-none : (s : Frames) (a n x : ℕ) → read_hazard s a n ≡ None → in_bytes a n x ≡ true → s.soft x ≡ false
unfolding read_hazard
read_hazard-none s a n x none t = least-none s.soft a n x none t

-- a byte that is written without a hazard is in no live frame
pub write_hazard-none : (s : Frames) (a n x : ℕ) → write_hazard s a n ≡ None → in_bytes a n x ≡ true → in_frames s.live x ≡ false
unfolding write_hazard
write_hazard-none s a n x none t = least-none (in_frames s.live) a n x none t

pub writes_hazard-none : (s : Frames) (ps : List (ℕ × ℕ)) (x : ℕ) → writes_hazard s ps ≡ None → is_put ps x ≡ true → in_frames s.live x ≡ false
unfolding writes_hazard is_put
writes_hazard-none s ps x none t = none_found (in_frames s.live) (places_of ps) x none t

pub port_hazard-none : (a n x : ℕ) → port_hazard a n ≡ None → in_bytes a n x ≡ true → in_port_page x ≡ false
unfolding port_hazard
port_hazard-none a n x none t = least-none in_port_page a n x none t

-- a save without a hazard writes no byte of a live frame, and none in the port page
pub save_hazard-none : (s : Frames) (a : ℕ) → save_hazard s a ≡ None → (write_hazard s a FRAME_SIZE ≡ None) × (port_hazard a FRAME_SIZE ≡ None)
save_hazard-none s a none = grind arith

-- ---- live frames are apart

pub apart-saved : (s : Frames) (a : ℕ) → AreApart s.live → save_hazard s a ≡ None → AreApart (saved s a).live
apart-saved s a apart none = ((λ x t. write_hazard-none s a FRAME_SIZE x (save_hazard-none s a none).0 t), apart)

pub apart-returned : (s : Frames) → AreApart s.live → AreApart (returned s).live
apart-returned s apart = grind arith

-- ---- frames are sound

pub sound-none : IsSound no_frames
sound-none = record { apart = tt; soft = λ x t. absurd (cc); outside = λ x t. absurd (cc); within = λ x t. absurd (cc); known = λ x t. refl }

pub sound-saved : (s : Frames) (a : ℕ) → IsSound s → save_hazard s a ≡ None → IsSound (saved s a)
sound-saved s a sound none =
    grind (arith, save_hazard-none, apart-saved, port_hazard-none, return-inside, write_hazard-none)

pub sound-returned : (s : Frames) → IsSound s → IsSound (returned s)
sound-returned s sound = grind arith

pub sound-flushed : (s : Frames) → IsSound s → IsSound (flushed s)
sound-flushed s sound = record { apart = tt; soft = λ x t. absurd (cc); outside = λ x t. absurd (cc); within = λ x t. absurd (cc); known = λ x t. refl }

pub sound-wrote : (s : Frames) (ps : List (ℕ × ℕ)) → IsSound s → writes_hazard s ps ≡ None → IsSound (wrote s ps)
sound-wrote s ps sound none = grind (arith, writes_hazard-none)

-- bytes that are soft again
pub sound-softened : (s : Frames) (stale : List ℕ) → IsSound s → IsSound (softened s stale)
sound-softened s stale sound = grind arith

-- marks of live frames beside their return addresses
pub sound-marked : (s : Frames) (lost : List ℕ) → ((x : ℕ) → has lost x ≡ true → (in_frames s.live x ≡ true) × (in_returns s.live x ≡ false)) → IsSound s → IsSound (with_marked s lost)
sound-marked s lost inside sound = grind arith

pub none_wrote : (f : Frames) → wrote f [] ≡ f
unfolding is_put
none_wrote f = grind arith
