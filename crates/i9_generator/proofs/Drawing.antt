-- The numbers that are drawn, and the lines of a schedule, one after the other.
use Rattle.std.proofs.Common.{◌≡◌, ℕ, ◌+◌, ◌*◌, ◌%◌, List, ◌++◌, refl, ap, ◌∙◌, arith, add-one}
use Rattle.std.proofs.lemmas.List.{append-nil}
use Rattle.std.proofs.lemmas.List.Folds.{flat_map-map}
use Rattle.std.proofs.lemmas.List.FromFn.{map-range_with_len_more}
use Rattle.std.proofs.lemmas.Grind.{flat_map-append}
use Rattle.std.specs.List.{flat_map, range_with_len}
use Rattle.i9_generator.specs.Generator.{drawn, pin_line, event_line, event_number, generated_schedule}

-- what is drawn next after a number is the number behind it
pub drawn-next : (number k : ℕ) → drawn (drawn number k) 1 ≡ drawn number (k + 1)
unfolding drawn
drawn-next number k = rw (add-one k) refl

-- the texts of one number more
pub flat_range-more : (text : ℕ → List ℕ) (a n : ℕ) → flat_map text (range_with_len a (n + 1)) ≡ flat_map text (range_with_len a n) ++ text (a + n)
flat_range-more text a n =
    let all = flat_map-map (λ (l : List ℕ). l) text in
    rw (← all (range_with_len a (n + 1)), map-range_with_len_more text a n (a + n) refl, flat_map-append, all (range_with_len a n), append-nil) refl

-- a schedule with the next event behind it
pub schedule_grows : (number place last : ℕ) (old new : List ℕ) → old ≡ flat_map (event_line number) (range_with_len 1 place) → last ≡ drawn number (3 + (place + 1))
    → new ≡ old ++ pin_line (100 * (place + 1)) (last % 8) → new ≡ flat_map (event_line number) (range_with_len 1 (place + 1))
schedule_grows number place last old new before drew grows = grind (arith, flat_range-more)

-- a schedule with all events
pub schedule_ends : (number place : ℕ) (text : List ℕ) → text ≡ flat_map (event_line number) (range_with_len 1 place) → place ≡ event_number → text ≡ generated_schedule number
unfolding generated_schedule
schedule_ends number place text whole same = whole ∙ ap (λ (n : ℕ). flat_map (event_line number) (range_with_len 1 n)) same

pub ruleset drawing_rules = (drawn-next)
