-- The functions that read the words of a line answer the forms, both ways.
use Rattle.std.proofs.Common.{◌≡◌, ℕ, Bool, eqb, cond, List, [], ◌∷◌, Option, Some, None, Result, Ok, Err, refl, subst, codes, arith}
use Rattle.std.specs.Option.{option_and_then, option_map, ok_or}
use Rattle.std.specs.Str.{bytes_eq}
use Rattle.std.proofs.lemmas.Bool.{cases_Bool, eqb-true}
use Rattle.std.proofs.lemmas.Option.{option_and_then_some}
use Rattle.std.proofs.lemmas.Slice.Eq.{bytes_eq-Decides}
use Rattle.i9_model.specs.Events.{Words, decimal_in, address_of, bytes_in, pin_of, low_of, high_of, nmi_of, dma_of, feed_of, show_of, level_event_of, event_of, levels_version, bad_operand, unknown_event, last_pin, last_channel, most_shown, IsEvent, is_pin, is_low, is_high, is_nmi, is_dma, is_feed, is_show}
use Rattle.i9_model.specs.ScheduleText.{and_then, count_of, turn_of, count_time, turn_time, timed_by, timed_of, IsTimed, is_at, is_turn}
use Rattle.i9_model.specs.declared.event.Event.{Event}
use Rattle.i9_model.specs.declared.event.Event.TheVariants.{Pin, Low, High, Nmi, Dma, Feed, Show}
use Rattle.i9_model.specs.declared.event.When.{When}
use Rattle.i9_model.specs.declared.event.When.TheVariants.{At, Turn}
use Rattle.i9_model.specs.declared.event.Timed.{Timed}

and_then_ok : {A B P : Type 0} (r : Result A ℕ) (f : A → Result B ℕ) (y : B) → and_then r f ≡ Ok y → ((x : A) → r ≡ Ok x → f x ≡ Ok y → P) → P
and_then_ok (Ok x) f y h k = k x refl h
and_then_ok (Err e) f y h k = absurd cc

pub same_some : {A : Type 0} (x y : A) → ◌≡◌ {A = Option A} (Some x) (Some y) → x ≡ y
same_some x y h = cc

pub same_ok : {A : Type 0} (x y : A) → ◌≡◌ {A = Result A ℕ} (Ok x) (Ok y) → x ≡ y
same_ok x y h = cc

pub ok_or_ok : {A : Type 0} (o : Option A) (k : ℕ) (x : A) → ok_or o k ≡ Ok x → o ≡ Some x
ok_or_ok o k x h = grind arith

-- ---- what is read of an event is what its words say

pin_case : (version : ℕ) (ws : Words) (e : Event) → pin_of ws ≡ Some e → IsEvent version (codes "pin") ws e
unfolding pin_of
pin_case version (x ∷ []) e h =
    option_and_then_some (λ n. Some (Pin n)) (decimal_in 0 last_pin x) e h (λ n number is. subst (λ (v : Event). IsEvent version (codes "pin") (x ∷ []) v) (same_some (Pin n) e is) (is_pin x n number))
pin_case version _ e h = absurd cc

low_case : (version : ℕ) (ws : Words) (e : Event) → version ≡ levels_version → low_of ws ≡ Some e → IsEvent version (codes "low") ws e
unfolding low_of
low_case version (x ∷ []) e levels h =
    option_and_then_some (λ n. Some (Low n)) (decimal_in 0 last_pin x) e h (λ n number is. subst (λ (v : Event). IsEvent version (codes "low") (x ∷ []) v) (same_some (Low n) e is) (is_low x n levels number))
low_case version _ e levels h = absurd cc

high_case : (version : ℕ) (ws : Words) (e : Event) → version ≡ levels_version → high_of ws ≡ Some e → IsEvent version (codes "high") ws e
unfolding high_of
high_case version (x ∷ []) e levels h =
    option_and_then_some (λ n. Some (High n)) (decimal_in 0 last_pin x) e h (λ n number is. subst (λ (v : Event). IsEvent version (codes "high") (x ∷ []) v) (same_some (High n) e is) (is_high x n levels number))
high_case version _ e levels h = absurd cc

nmi_case : (version : ℕ) (ws : Words) (e : Event) → nmi_of ws ≡ Some e → IsEvent version (codes "nmi") ws e
unfolding nmi_of
nmi_case version [] e h = subst (λ (v : Event). IsEvent version (codes "nmi") [] v) (same_some Nmi e h) is_nmi
nmi_case version (x ∷ ws) e h = absurd cc

dma_case : (version : ℕ) (ws : Words) (e : Event) → dma_of ws ≡ Some e → IsEvent version (codes "dma") ws e
unfolding dma_of
dma_case version (x ∷ []) e h =
    option_and_then_some (λ n. Some (Dma n)) (decimal_in 0 last_channel x) e h (λ n number is. subst (λ (v : Event). IsEvent version (codes "dma") (x ∷ []) v) (same_some (Dma n) e is) (is_dma x n number))
dma_case version _ e h = absurd cc

feed_case : (version : ℕ) (ws : Words) (e : Event) → feed_of ws ≡ Some e → IsEvent version (codes "feed") ws e
unfolding feed_of
feed_case version (x ∷ y ∷ []) e h =
    option_and_then_some (λ n. option_and_then (λ bytes. Some (Feed n (record { items = bytes }))) (bytes_in y)) (decimal_in 0 last_channel x) e h (λ n number more.
    option_and_then_some (λ bytes. Some (Feed n (record { items = bytes }))) (bytes_in y) e more (λ bytes unit is.
    subst (λ (v : Event). IsEvent version (codes "feed") (x ∷ y ∷ []) v) (same_some (Feed n (record { items = bytes })) e is) (is_feed x y n bytes number unit)))
feed_case version _ e h = absurd cc

show_case : (version : ℕ) (ws : Words) (e : Event) → show_of ws ≡ Some e → IsEvent version (codes "show") ws e
unfolding show_of
show_case version (x ∷ y ∷ []) e h =
    option_and_then_some (λ a. option_and_then (λ l. Some (Show a l)) (decimal_in 1 most_shown y)) (address_of x) e h (λ a address more.
    option_and_then_some (λ l. Some (Show a l)) (decimal_in 1 most_shown y) e more (λ l size is.
    subst (λ (v : Event). IsEvent version (codes "show") (x ∷ y ∷ []) v) (same_some (Show a l) e is) (is_show x y a l address size)))
show_case version _ e h = absurd cc

-- a name is one text, or what the other names give counts
by_name : (version : ℕ) (name text : List ℕ) (ws : Words) (e : Event) (own : Option Event) (others : Result Event ℕ) → (own ≡ Some e → IsEvent version text ws e) → (others ≡ Ok e → IsEvent version name ws e)
    → cond (bytes_eq name text) (ok_or own bad_operand) others ≡ Ok e → IsEvent version name ws e
by_name version name text ws e own others says later h = grind (arith, cases_Bool, bytes_eq-Decides, ok_or_ok)

level_case : (version : ℕ) (name : List ℕ) (ws : Words) (e : Event) → version ≡ levels_version → level_event_of name ws ≡ Ok e → IsEvent version name ws e
unfolding level_event_of
level_case version name ws e levels h =
    by_name version name (codes "low") ws e (low_of ws) _ (low_case version ws e levels)
    (by_name version name (codes "high") ws e (high_of ws) (Err unknown_event) (high_case version ws e levels) (λ none. absurd (cc none))) h

by_version : (b : Bool) (version : ℕ) (name : List ℕ) (ws : Words) (e : Event) → eqb version levels_version ≡ b → cond b (level_event_of name ws) (Err unknown_event) ≡ Ok e → IsEvent version name ws e
by_version b version name ws e is h = grind (arith, level_case, eqb-true)

event_case : (version : ℕ) (name : List ℕ) (ws : Words) (e : Event) → event_of version name ws ≡ Ok e → IsEvent version name ws e
unfolding event_of
event_case version name ws e h =
    by_name version name (codes "pin") ws e (pin_of ws) _ (pin_case version ws e)
    (by_name version name (codes "nmi") ws e (nmi_of ws) _ (nmi_case version ws e)
    (by_name version name (codes "dma") ws e (dma_of ws) _ (dma_case version ws e)
    (by_name version name (codes "feed") ws e (feed_of ws) _ (feed_case version ws e)
    (by_name version name (codes "show") ws e (show_of ws) _ (show_case version ws e) (by_version (eqb version levels_version) version name ws e refl))))) h

-- ---- and so is a whole line

-- an event at a time
abbrev timed_when : When → Event → Timed
timed_when w e = record { when = w; event = e }

-- what is read behind a first word, by what that word says with each time and event
behind_case : (version : ℕ) (first : List ℕ) (time : List ℕ → Option When)
    → ((k name : List ℕ) (operands : Words) (w : When) (e : Event) → time k ≡ Some w → IsEvent version name operands e → IsTimed version (first ∷ k ∷ name ∷ operands) (timed_when w e))
    → (rest : Words) (t : Timed) → timed_by version time rest ≡ Ok t → IsTimed version (first ∷ rest) t
unfolding timed_by
behind_case version first time says (k ∷ name ∷ operands) t h =
    grind (arith, and_then_ok, same_ok, ok_or_ok, event_case)
behind_case version first time says _ t h = absurd cc

-- a number was read for a time
number_read : (form : ℕ → When) (o : Option ℕ) (w : When) → option_map form o ≡ Some w → (n : ℕ) × (o ≡ Some n) × (form n ≡ w)
number_read form (Some n) w h = (n, refl, same_some (form n) w h)
number_read form None w h = absurd cc

at_says : (version : ℕ) (k name : List ℕ) (operands : Words) (w : When) (e : Event) → count_time k ≡ Some w → IsEvent version name operands e
    → IsTimed version (codes "at" ∷ k ∷ name ∷ operands) (timed_when w e)
at_says version k name operands w e h is =
    let n = number_read At (count_of k) w h in
    subst (λ (v : When). IsTimed version (codes "at" ∷ k ∷ name ∷ operands) (timed_when v e)) n.2 (is_at k name operands n.0 e n.1 is)

turn_says : (version : ℕ) (k name : List ℕ) (operands : Words) (w : When) (e : Event) → turn_time k ≡ Some w → IsEvent version name operands e
    → IsTimed version (codes "turn" ∷ k ∷ name ∷ operands) (timed_when w e)
turn_says version k name operands w e h is =
    let n = number_read Turn (turn_of k) w h in
    subst (λ (v : When). IsTimed version (codes "turn" ∷ k ∷ name ∷ operands) (timed_when v e)) n.2 (is_turn k name operands n.0 e n.1 is)

-- what is read is what the words say
pub timed_case : (version : ℕ) (ws : Words) (t : Timed) → timed_of version ws ≡ Ok t → IsTimed version ws t
unfolding timed_of
timed_case version ws t h = grind (arith, cases_Bool, bytes_eq-Decides, behind_case, at_says, turn_says)

-- ---- the way back

event_is : (version : ℕ) (name : List ℕ) (ws : Words) (e : Event) → IsEvent version name ws e → event_of version name ws ≡ Ok e
unfolding event_of level_event_of pin_of low_of high_of nmi_of dma_of feed_of show_of
event_is version name ws e (is_pin x n h) = rw h refl
event_is version name ws e (is_low x n levels h) = rw (levels, h) refl
event_is version name ws e (is_high x n levels h) = rw (levels, h) refl
event_is version name ws e is_nmi = refl
event_is version name ws e (is_dma c n h) = rw h refl
event_is version name ws e (is_feed c x n bs h g) = rw (h, g) refl
event_is version name ws e (is_show a l m n h g) = rw (h, g) refl

-- what the words say is read
pub timed_is : (version : ℕ) (ws : Words) (t : Timed) → IsTimed version ws t → timed_of version ws ≡ Ok t
unfolding timed_of timed_by
timed_is version ws t h = grind (arith, event_is)
