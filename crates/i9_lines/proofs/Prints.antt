-- Printing one text after another.
use Rattle.std.proofs.Common.{◌≡◌, ◌≢◌, ℕ, zero, suc, ◌+◌, ◌<◌, ◌≤◌, List, [], ◌∷◌, ◌++◌, length, take, drop, get_or, flat_map, length-append, add-zero, Option, refl, sym, ◌∙◌, ap, append_assoc, add_assoc, subst, arith}
use Rattle.std.proofs.lemmas.List.{append-nil, take-append-drop, take_more}
use Rattle.std.specs.List.{AllByRecursion}
use Rattle.std.proofs.lemmas.Grind.{flat_map-append}
use Rattle.std.specs.Io.KnownBytes.{Appends}
use Rattle.i9_lines.specs.declared.print.Printed.{Printed}
use Rattle.i9_lines.specs.declared.print.Printed.TheVariants.{Done, Write, Memory}
use Rattle.i9_outside.specs.Counts.{one_more, Rose}
use Rattle.i9_outside.specs.declared.traits.Wrote.TheVariants as writes
use Rattle.i9_outside.specs.Traits.{AppendsFront, TakesPiece}
use Rattle.i9_lines.specs.Print.{Account, Prints, OnDone, IsCut, OnCut, CountsUpTo, Takes, TakesFront, TakesFirst, IsPiece, lines_in, counted_on}
use Rattle.i9_lines.proofs.TextLines.{IsClosed, closed_none, closed_join, line_alone}
use Rattle.i9_outside.proofs.Appending.{Appends-nothing, Appends-then}

-- a front of a text is a front of a longer one
front_more : (a b : Option (List ℕ)) (x y : List ℕ) → AppendsFront a b x → AppendsFront a b (x ++ y)
front_more a b x y f = record { front = f.front; rest = f.rest ++ y; parts = sym (append_assoc f.front f.rest y) ∙ ap (λ bs. bs ++ y) f.parts; grows = f.grows }

-- a text and a front of the next are a front of both
front_after : (a b c : Option (List ℕ)) (x y : List ℕ) → Appends a b x → AppendsFront b c y → AppendsFront a c (x ++ y)
front_after a b c x y p f = record { front = x ++ f.front; rest = f.rest; parts = append_assoc x f.front f.rest ∙ ap (λ bs. x ++ bs) f.parts; grows = Appends-then a b c x f.front p f.grows }

-- a sink that is sure of two texts and n bytes more is sure of the first, and then of the second and those
sure_parts : {K : Type 0} (sure : K → ℕ → Type 0) (s : K) (x y : List ℕ) (n : ℕ) → sure s (length (x ++ y) + n) → sure s (length x + (length y + n))
sure_parts sure s x y n h = subst (sure s) (ap (λ m. m + n) (length-append x y) ∙ add_assoc (length x) (length y) n) h

-- ---- counts

-- so many more, and then so many more
counted-then : (before m n : ℕ) → counted_on (counted_on before m) n ≡ counted_on before (m + n)
counted-then before m zero = ap (counted_on before) (sym (add-zero m))
counted-then before m (suc n) =
    let next : suc (m + n) ≡ m + suc n = omega arith in
    ap one_more (counted-then before m n) ∙ ap (counted_on before) next

-- the same of lines, and then others
all_counted : (xs ys : List (List ℕ)) (a b c : ℕ) → b ≡ counted_on a (length xs) → c ≡ counted_on b (length ys) → c ≡ counted_on a (length (xs ++ ys))
all_counted xs ys a b c p q = grind (arith, counted-then, length-append)

some_counted : (xs ys : List (List ℕ)) (a b c : ℕ) → b ≡ counted_on a (length xs) → CountsUpTo (length ys) b c → CountsUpTo (length (xs ++ ys)) a c
some_counted xs ys a b c p q = grind (arith, length-append, counted-then)

fewer_counted : (xs ys : List (List ℕ)) (a b : ℕ) → CountsUpTo (length xs) a b → CountsUpTo (length (xs ++ ys)) a b
fewer_counted xs ys a b p = record { number = p.number; few = omega (arith, p.few, length-append xs ys); counted = p.counted }

-- ---- pieces

module _ {K : Type 0} (taken : K → List (List ℕ) → Type 0) where
  takes_none : (s : K) → Takes taken [] s s
  takes_none s before h = subst (taken s) (sym (append-nil before)) h

  takes_then : (xs ys : List (List ℕ)) (a b c : K) → Takes taken xs a b → Takes taken ys b c → Takes taken (xs ++ ys) a c
  takes_then xs ys a b c p q before h = subst (taken c) (append_assoc before xs ys) (q (before ++ xs) (p before h))

  -- a front of a line behind other lines
  front_then : (xs ys : List (List ℕ)) (a b c : K) → Takes taken xs a b → TakesFront taken ys b c → TakesFront taken (xs ++ ys) a c
  front_then xs ys a b c p q = record {
    first = xs ++ q.first;
    front = q.front;
    back = q.back;
    left = q.left;
    parts = append_assoc xs q.first ((q.front ++ q.back) ∷ q.left) ∙ ap (λ (ls : List (List ℕ)). xs ++ ls) q.parts;
    takes = subst (λ (ls : List (List ℕ)). Takes taken ls a c) (sym (append_assoc xs q.first (q.front ∷ [])))
        (takes_then xs (q.first ++ q.front ∷ []) a b c p q.takes);
  }

  front_goes_on : (xs ys : List (List ℕ)) (a b : K) → TakesFront taken xs a b → TakesFront taken (xs ++ ys) a b
  front_goes_on xs ys a b p = grind (arith, append_assoc)

  first_then : (xs ys : List (List ℕ)) (a b c : K) → Takes taken xs a b → TakesFirst taken ys b c → TakesFirst taken (xs ++ ys) a c
  first_then xs ys a b c p q = record {
    first = xs ++ q.first;
    left = q.left;
    parts = append_assoc xs q.first q.left ∙ ap (λ (ls : List (List ℕ)). xs ++ ls) q.parts;
    takes = takes_then xs q.first a b c p q.takes;
  }

  first_goes_on : (xs ys : List (List ℕ)) (a b : K) → TakesFirst taken xs a b → TakesFirst taken (xs ++ ys) a b
  first_goes_on xs ys a b p = grind (arith, append_assoc)

-- ---- texts of items

-- the text of the first closed ones is closed
closed_front : {X : Type 0} (text : X → List ℕ) (items : List X) (i : ℕ) → AllByRecursion (λ x. IsClosed (text x)) items → IsClosed (flat_map text (take i items))
closed_front text items zero h = closed_none
closed_front text [] (suc i) h = closed_none
closed_front text (x ∷ xs) (suc i) h = closed_join (text x) (flat_map text (take i xs)) h.0 (closed_front text xs i h.1)

flat_map-next : {X : Type 0} (text : X → List ℕ) (items : List X) (i : ℕ) (d : X) → i < length items
    → flat_map text (take (i + 1) items) ≡ flat_map text (take i items) ++ text (get_or items i d)
flat_map-next text items i d inside =
    ap (flat_map text) (take_more items i d inside) ∙ flat_map-append text (take i items) (get_or items i d ∷ [])
    ∙ ap (λ bs. flat_map text (take i items) ++ bs) (append-nil (text (get_or items i d)))

-- the texts of the first i + 1 items and those of the rest
flat_map-split : {X : Type 0} (text : X → List ℕ) (items : List X) (i : ℕ) → flat_map text (take (i + 1) items) ++ flat_map text (drop (i + 1) items) ≡ flat_map text items
flat_map-split text items i = sym (flat_map-append text (take (i + 1) items) (drop (i + 1) items)) ∙ ap (flat_map text) (take-append-drop (i + 1) items)

-- ---- where printing stopped

pub not_done : (answer : Printed) → IsCut answer → answer ≢ Done
not_done answer cut = grind arith

pub on_cut : (answer : Printed) (P : Type 0) → P → OnCut answer P
on_cut answer P p = grind arith

pub cut_whole : (answer : Printed) (P : Type 0) → IsCut answer → OnDone answer P
cut_whole answer P cut = grind arith

module _ {K : Type 0} (k : Account K) where
  -- no text at all is printed whole by doing nothing
  pub prints_none : (s : K) → Prints Done k s s []
  prints_none s = record { later = omega arith; leaves = Appends-nothing (k.told s); cause = refl; lines = refl; pieces = takes_none k.pieces s; calm = λ n h. (λ e. cc, refl, subst (k.sure s) (omega arith) h) }

  -- memory was refused before anything was printed
  pub prints_refused : (s : K) (text : List ℕ) → Prints Memory k s s text
  prints_refused s text = grind (arith, append-nil)

  -- a text that is spelled in another way
  pub prints_same : (answer : Printed) (a b : K) (x y : List ℕ) → x ≡ y → Prints answer k a b x → Prints answer k a b y
  prints_same answer a b x y same p = subst (λ t. Prints answer k a b t) same p

  -- what stopped short of a closed text stopped short of a longer one
  pub prints_stop : (answer : Printed) (a b : K) (x y : List ℕ) → IsClosed x → answer ≢ Done → Prints answer k a b x → Prints answer k a b (x ++ y)
  prints_stop Done a b x y closed stops p = absurd (stops refl)
  prints_stop Write a b x y closed stops p = record {
    later = p.later;
    leaves = front_more (k.told a) (k.told b) x y p.leaves;
    cause = p.cause;
    lines = rw (closed.apart y) (fewer_counted (lines_in x) (lines_in y) _ _ p.lines);
    pieces = rw (closed.apart y) (front_goes_on k.pieces (lines_in x) (lines_in y) a b p.pieces);
    calm = λ n h. p.calm (length y + n) (sure_parts k.sure a x y n h);
  }
  prints_stop Memory a b x y closed stops p = record {
    later = p.later;
    leaves = front_more (k.told a) (k.told b) x y p.leaves;
    cause = p.cause;
    lines = rw (closed.apart y) (fewer_counted (lines_in x) (lines_in y) _ _ p.lines);
    pieces = rw (closed.apart y) (first_goes_on k.pieces (lines_in x) (lines_in y) a b p.pieces);
    calm = λ n h. p.calm (length y + n) (sure_parts k.sure a x y n h);
  }

  then_calm : (answer : Printed) (a b c : K) (x y : List ℕ) → Prints Done k a b x → Prints answer k b c y
      → (n : ℕ) → k.sure a (length (x ++ y) + n) → (answer ≢ Write) × (k.faults c ≡ k.faults a) × OnDone answer (k.sure c n)
  then_calm answer a b c x y p q n h =
      let first = p.calm (length y + n) (sure_parts k.sure a x y n h) in
      let second = q.calm n first.2 in
      (second.0, second.1 ∙ first.1, second.2)

  -- a closed text was printed whole, and then another one
  pub prints_then : (answer : Printed) (a b c : K) (x y : List ℕ) → IsClosed x → Prints Done k a b x → Prints answer k b c y → Prints answer k a c (x ++ y)
  prints_then Done a b c x y closed p q = record {
    later = omega (arith, p.later, q.later);
    leaves = Appends-then (k.told a) (k.told b) (k.told c) x y p.leaves q.leaves;
    cause = q.cause ∙ p.cause;
    lines = rw (closed.apart y) (all_counted (lines_in x) (lines_in y) _ _ _ p.lines q.lines);
    pieces = rw (closed.apart y) (takes_then k.pieces (lines_in x) (lines_in y) a b c p.pieces q.pieces);
    calm = then_calm Done a b c x y p q;
  }
  prints_then Write a b c x y closed p q = record {
    later = omega (arith, p.later, q.later);
    leaves = front_after (k.told a) (k.told b) (k.told c) x y p.leaves q.leaves;
    cause = rw p.cause at q.cause;
    lines = rw (closed.apart y) (some_counted (lines_in x) (lines_in y) _ _ _ p.lines q.lines);
    pieces = rw (closed.apart y) (front_then k.pieces (lines_in x) (lines_in y) a b c p.pieces q.pieces);
    calm = then_calm Write a b c x y p q;
  }
  prints_then Memory a b c x y closed p q = record {
    later = omega (arith, p.later, q.later);
    leaves = front_after (k.told a) (k.told b) (k.told c) x y p.leaves q.leaves;
    cause = q.cause ∙ p.cause;
    lines = rw (closed.apart y) (some_counted (lines_in x) (lines_in y) _ _ _ p.lines q.lines);
    pieces = rw (closed.apart y) (first_then k.pieces (lines_in x) (lines_in y) a b c p.pieces q.pieces);
    calm = then_calm Memory a b c x y p q;
  }

  -- a text was printed whole, and memory was refused behind it
  pub prints_behind : (a b : K) (x : List ℕ) → Prints Done k a b x → Prints Memory k a b x
  prints_behind a b x p = record {
    later = p.later;
    leaves = record { front = x; rest = []; parts = append-nil x; grows = p.leaves };
    cause = p.cause;
    lines = record { number = length (lines_in x); few = omega arith; counted = p.lines };
    pieces = record { first = lines_in x; left = []; parts = append-nil (lines_in x); takes = p.pieces };
    calm = λ n h. let q = p.calm n h in (λ e. cc, q.1, tt);
  }

  -- a call took a line
  pub piece_printed : (a b : K) (piece : List ℕ) → IsPiece piece → k.faults a ≤ k.faults b → Appends (k.told a) (k.told b) piece
      → k.faults b ≡ k.faults a → k.writes b ≡ one_more (k.writes a) → TakesPiece k.pieces writes.Ok piece a b
      → ((n : ℕ) → k.sure a (length piece + n) → (writes.Ok ≡ writes.Ok) × (k.faults b ≡ k.faults a) × k.sure b n)
      → Prints Done k a b piece
  piece_printed a b piece line later leaves cause once took calm = grind arith

  -- or a front of it
  pub piece_cut : (a b : K) (piece : List ℕ) → IsPiece piece → k.faults a ≤ k.faults b → AppendsFront (k.told a) (k.told b) piece
      → Rose (k.faults a) (k.faults b) → k.writes b ≡ one_more (k.writes a) → TakesPiece k.pieces writes.Failed piece a b
      → ((n : ℕ) → k.sure a (length piece + n) → (writes.Failed ≡ writes.Ok) × (k.faults b ≡ k.faults a) × k.sure b n)
      → Prints Write k a b piece
  piece_cut a b piece line later leaves cause once took calm = record {
    later = later;
    leaves = leaves;
    cause = cause;
    lines = rw line (record { number = 1; few = omega arith; counted = once });
    pieces = rw line (record {
      first = [];
      front = took.0;
      back = took.1;
      left = [];
      parts = ap (λ (line : List ℕ). line ∷ []) took.2;
      takes = took.3;
    });
    calm = λ n h. absurd (cc (calm n h).0);
  }

  -- the text of a list's first items was printed, and then that of the next item
  pub prints_next : {X : Type 0} (text : X → List ℕ) (answer : Printed) (a b c : K) (items : List X) (i : ℕ) (d : X)
      → AllByRecursion (λ x. IsClosed (text x)) items → i < length items
      → Prints Done k a b (flat_map text (take i items)) → Prints answer k b c (text (get_or items i d))
      → Prints answer k a c (flat_map text (take (i + 1) items))
  prints_next text answer a b c items i d closed inside p q =
      subst (λ t. Prints answer k a c t) (sym (flat_map-next text items i d inside)) (prints_then answer a b c _ _ (closed_front text items i closed) p q)

  -- printing stopped at an item of a list
  pub prints_stop_at : {X : Type 0} (text : X → List ℕ) (answer : Printed) (a b c : K) (items : List X) (i : ℕ) (d : X)
      → AllByRecursion (λ x. IsClosed (text x)) items → answer ≢ Done → i < length items
      → Prints Done k a b (flat_map text (take i items)) → Prints answer k b c (text (get_or items i d))
      → Prints answer k a c (flat_map text items)
  prints_stop_at text answer a b c items i d closed stops inside p q =
      subst (λ t. Prints answer k a c t) (flat_map-split text items i)
      (prints_stop answer a c _ (flat_map text (drop (i + 1) items)) (closed_front text items (i + 1) closed) stops (prints_next text answer a b c items i d closed inside p q))

pub ruleset prints_rules = (line_alone, prints_none, prints_refused, prints_stop, prints_then, prints_next, prints_stop_at)
