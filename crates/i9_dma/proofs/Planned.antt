-- A unit that is planned is the next one.
use Rattle.std.proofs.Common.{◌≡◌, ℕ, Bool, true, false, List, length, Option, Some, None, Result, Ok, Err, refl, sym, ap, ◌∙◌}
use Rattle.std.specs.Prelude.{◌&&◌, if◌then◌else◌}
use Rattle.i9_model.proofs.FitUnits.{busy_fit}
use Rattle.i9_model.specs.Writes.{upwards}
use Rattle.i9_model.specs.Memory.{Memory}
use Rattle.i9_model.specs.State.{Frames, Dma, Channel}
use Rattle.i9_model.specs.Hazards.{unless}
use Rattle.i9_model.specs.Dma.{Unit, unit_length, is_idle, unit_hazard, unit_bytes, dma_behind, is_last, posts_at_end, next_unit}
use Rattle.i9_model.proofs.CallLaws.{unless_ok}
use Rattle.i9_model.proofs.Lengths.{bytes_long}
use Rattle.i9_dma.specs.Units.{planned_bytes}

module _ (d : Dma) (c : ℕ) where
  -- a channel's unit of these bytes
  abbrev pub unit_by : List ℕ → Unit
  unit_by bytes = record {
    writes = upwards (d.channels c).target bytes;
    dma = dma_behind d c;
    posts = is_last (d.channels c) && posts_at_end (d.channels c);
  }

  abbrev pub next_by : Result (Option (List ℕ)) ℕ → Result (Option Unit) ℕ
  next_by (Err a) = Err a
  next_by (Ok None) = Ok None
  next_by (Ok (Some bytes)) = Ok (Some (unit_by bytes))

  by_cases : (idle : Bool) (h : Option ℕ) (bytes : List ℕ) → (if idle then Ok None else unless h (Some (unit_by bytes))) ≡ next_by (if idle then Ok None else unless h (Some bytes))
  by_cases true h bytes = refl
  by_cases false None bytes = refl
  by_cases false (Some a) bytes = refl

  module _ (m : Memory) (f : Frames) (given : Option (List ℕ)) where
    pub next_is : (p : Result (Option (List ℕ)) ℕ) → p ≡ planned_bytes m f d c given → next_unit m f d c given ≡ next_by p
    unfolding planned_bytes next_unit
    next_is p is = by_cases (is_idle d c given) (unit_hazard f (d.channels c) given) (unit_bytes m (d.channels c) given) ∙ ap next_by (sym is)

    -- a plan by its cases
    pub idle : is_idle d c given ≡ true → Ok None ≡ planned_bytes m f d c given
    unfolding planned_bytes
    idle is = ap (λ (b : Bool). if b then Ok None else unless (unit_hazard f (d.channels c) given) (Some (unit_bytes m (d.channels c) given))) (sym is)

    busy : is_idle d c given ≡ false → planned_bytes m f d c given ≡ unless (unit_hazard f (d.channels c) given) (Some (unit_bytes m (d.channels c) given))
    unfolding planned_bytes
    busy is = ap (λ (b : Bool). if b then Ok None else unless (unit_hazard f (d.channels c) given) (Some (unit_bytes m (d.channels c) given))) is

    pub meets : (k : Channel) (a : ℕ) → k ≡ d.channels c → is_idle d c given ≡ false → Some a ≡ unit_hazard f k given → Err a ≡ planned_bytes m f d c given
    meets k a e is hazard =
        ap (λ (h : Option ℕ). unless h (Some (unit_bytes m (d.channels c) given))) (hazard ∙ ap (λ (x : Channel). unit_hazard f x given) e) ∙ sym (busy is)

    pub moves : (k : Channel) (bytes : List ℕ) → k ≡ d.channels c → is_idle d c given ≡ false → None ≡ unit_hazard f k given → bytes ≡ unit_bytes m k given → Ok (Some bytes) ≡ planned_bytes m f d c given
    moves k bytes e is free are =
        ap (λ (bs : List ℕ). Ok (Some bs)) (are ∙ ap (λ (x : Channel). unit_bytes m x given) e)
        ∙ ap (λ (h : Option ℕ). unless h (Some (unit_bytes m (d.channels c) given))) (free ∙ ap (λ (x : Channel). unit_hazard f x given) e) ∙ sym (busy is)

    -- as many bytes as the unit has
    pub planned_length : (bytes : List ℕ) → Ok (Some bytes) ≡ planned_bytes m f d c given → length bytes ≡ unit_length (d.channels c)
    unfolding planned_bytes
    planned_length bytes is = by_idle (is_idle d c given) refl is
      where
        by_idle : (b : Bool) → is_idle d c given ≡ b → Ok (Some bytes) ≡ (if b then Ok None else unless (unit_hazard f (d.channels c) given) (Some (unit_bytes m (d.channels c) given)))
            → length bytes ≡ unit_length (d.channels c)
        by_idle true t h = absurd cc
        by_idle false t h =
            let found = unless_ok (unit_hazard f (d.channels c) given) (Some (unit_bytes m (d.channels c) given)) (Some bytes) (sym h) in
            let same : Some (unit_bytes m (d.channels c) given) ≡ Some bytes = found.1 in
            let are : bytes ≡ unit_bytes m (d.channels c) given = cc in
            ap length are ∙ bytes_long m (d.channels c) given (busy_fit d c given t)
