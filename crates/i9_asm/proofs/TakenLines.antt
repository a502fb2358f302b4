-- What a line does, from what its parts do.
use Rattle.std.proofs.Common.{◌≡◌, ℕ, ◌+◌, List, Option, Some, None, Result, refl, sym, ap, ◌∙◌, arith}
use Rattle.std.specs.Option.{option_map}
use Rattle.std.proofs.lemmas.Bool.{ltb-false}
use Rattle.i9_statement.specs.declared.fault.Fault.{Fault}
use Rattle.i9_statement.specs.Noted.{kind_of, least}
use Rattle.i9_statement.specs.Values.{Names}
use Rattle.i9_asm.specs.declared.source.Source as code
use Rattle.i9_asm.specs.declared.source.Grown as grown
use Rattle.i9_asm.specs.declared.source.LineError.{LineError}
use Rattle.i9_asm.specs.declared.source.LineError.TheVariants as lines
use Rattle.i9_asm.specs.Lines.{Item, item_of, label_of}
use Rattle.i9_asm.specs.Places.{Place, no_names, moved_to, size_of, past_item, effect_of}
use Rattle.i9_asm.specs.Source.{Source, item_fault, front_fault, room_fault, rest_fault, line_fault, labelled_source, begun, past_source, HasRoom}
use Rattle.i9_asm.specs.Reading.{source_at, GrowsBy, Grows, Continues, Takes, Faults, error_at, fault_place, IfBad}
use Rattle.i9_asm.specs.Laws.{IsRefusedSource, item_place}

-- ---- an item

source_same : (t u : Source) → t.place ≡ u.place → t.segments ≡ u.segments → t.address ≡ u.address → t.bytes ≡ u.bytes → t.total ≡ u.total → t ≡ u
source_same t u a b c d e = rw (a, b, c, d, e) refl

pub begun_total : (moved : Option ℕ) (s : Source) → (begun moved s).total ≡ s.total
begun_total moved s = grind arith

-- the fault for want of room, where the bytes of an item were added
pub grown_room : (names : Names) (s : Source) (item : Item) (g : grown.Grown) → GrowsBy names s item g → room_fault (source_at no_names g.source) g.size ≡ room_fault s (size_of s.place item)
grown_room names s item g by = grind arith

-- where the bytes of an item were added, and the location and the bytes are counted
pub grows : (names : Names) (s : Source) (item : Item) (g : grown.Grown) (t : code.Source) (location : ℕ) → GrowsBy names s item g → g.fault ≡ None → location ≡ (past_item s.place item).location
    → ((known : Names) → source_at known t ≡ record (source_at known g.source) { place = record { location = location; known = known }; total = g.source.total + g.size })
    → Grows names s item (source_at (past_item s.place item).known t)
grows names s item g t location by sound moved counted =
    let known = (past_item s.place item).known in
    let sound : item_fault names s.place item ≡ None = sym by.fault ∙ sound in
    let a = by.adds sound in
    let b = begun (moved_to s.place item) s in
    let u = counted known in
    record {
      bytes = a.bytes;
      gives = a.gives;
      after = source_same (source_at known t) (past_source s (past_item s.place item) item a.bytes)
          (ap (λ (x : Source). x.place) u ∙ ap (λ (n : ℕ). record { location = n; known = known }) moved)
          (ap (λ (x : Source). x.segments) u ∙ ap (λ (x : Source). x.segments) by.same)
          (ap (λ (x : Source). x.address) u ∙ ap (λ (x : Source). x.address) by.same)
          (ap (λ (x : Source). x.bytes) u ∙ a.same)
          (ap (λ (x : Source). x.total) u ∙ ap (λ (x : Source). x.total + g.size) by.same ∙ ap (λ (n : ℕ). b.total + n) by.size);
    }

-- ---- a line

pub least_left : (a b : Option Fault) → least a b ≡ None → a ≡ None
least_left a b h = grind arith

pub least_right : (a b : Option Fault) → a ≡ None → least a b ≡ None → b ≡ None
least_right a b e h = rw e at h

-- a line without fault up to its label does what it says
pub effect_is_item : (p : Place) (line : List ℕ) → front_fault p line ≡ None → effect_of line ≡ item_of line
effect_is_item p line h = grind arith

-- a line without fault has none in its parts, and has room for its bytes
pub record IsSound (names : Names) (s : Source) (line : List ℕ) : Type 0 where
  pub front : front_fault s.place line ≡ None
  pub item : item_fault names (item_place s line) (item_of line) ≡ None
  pub room : HasRoom (labelled_source (label_of line) s) (size_of (item_place s line) (item_of line))

pub line_sound : (names : Names) (s : Source) (line : List ℕ) → line_fault names s line ≡ None → IsSound names s line
unfolding line_fault
line_sound names s line h = grind (arith, least_left, least_right, ltb-false)

pub takes_line : (names : Names) (s u : Source) (line : List ℕ) (front : Option Fault) (item : Item) (r : Result code.Source LineError) → u ≡ labelled_source (label_of line) s → item ≡ item_of line → front ≡ front_fault s.place line
    → Continues names u item (least front (rest_fault names u item)) r → Takes names s line r
unfolding line_fault
takes_line names s u line front item r source said label h = grind (arith, line_sound, effect_is_item)

-- ---- a source

-- a line that is refused, where its fault is the first
pub refused_at : (source : List (List ℕ)) (error : LineError) (fault : Option Fault) (number : ℕ) → Faults error fault → ((k : ℕ) → option_map kind_of fault ≡ Some k → IsRefusedSource source (number, k))
    → IfBad (error_at error number) (λ f. IsRefusedSource source (fault_place f))
refused_at source lines.Memory fault number fails known = tt
refused_at source (lines.Bad f) fault number fails known = known (kind_of f) (ap (option_map kind_of) fails)
