-- Live: what holds of the frames that may be returned to.
use Rattle.std.specs.Prelude.{◌≡◌, ℕ, ◌%◌, List, [], ◌∷◌}
use Rattle.std.proofs.Props.{props}
use Rattle.i9_model.specs.Sound.{AreApart}

-- frames are whole blocks
abbrev pub AreAligned : List ℕ → Type 0
AreAligned [] = Unit {0}
AreAligned (f ∷ fs) = (f % 16 ≡ 0) × AreAligned fs

-- ---- there is at most one proof of it

pub AreAligned-prop : (live : List ℕ) → IsProp (AreAligned live)
AreAligned-prop [] = hlevel props
AreAligned-prop (f ∷ live) = hlevel (props, AreAligned-prop live)

pub AreApart-prop : (live : List ℕ) → IsProp (AreApart live)
AreApart-prop [] = hlevel props
AreApart-prop (f ∷ live) = hlevel (props, AreApart-prop live)
