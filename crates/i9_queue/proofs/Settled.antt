-- Memory after what waits.
use Rattle.std.proofs.Common.{◌≡◌, ℕ, zero, suc, ◌+◌, Bool, true, false, cond, List, [], ◌∷◌, ◌++◌, length, Option, Some, None, unwrap_or, refl, sym, ap, ◌∙◌, subst, inl, inr, arith}
use Rattle.std.specs.Prelude.{not, filter, ◌==◌}
use Rattle.std.proofs.lemmas.Bool.{cases_Bool, eqb-true}
use Rattle.i9_model.proofs.Upwards.{or_none}
use Rattle.i9_model.specs.Writes.{wrapped, upwards, last_put, or_earlier}
use Rattle.i9_model.specs.Memory.{Memory, in_port_page, stored}
use Rattle.i9_model.specs.Late.{Wait, due_puts, left_waiting, AreDueInOrder}
use Rattle.i9_model.proofs.Stored.{written-last}
use Rattle.i9_model.proofs.Queues.{none-due, all-later, landed_settles}
use Rattle.i9_memory.specs.declared.memory.Memory.{Memory as Kept}
use Rattle.i9_memory.specs.Memory.{IsReserved, HasRoom, KeepsRoom}
use Rattle.i9_queue.specs.Queue.{NoneDue}
use Rattle.i9_queue.specs.Waits.{HasRoomFor, settled_over, with_puts}

pub settles : (m n : Memory) (u : ℕ) (ws vs : List Wait) → AreDueInOrder ws → n ≡ with_puts m (due_puts u ws) → vs ≡ left_waiting u ws → settled_over n vs ≡ settled_over m ws
settles m n u ws vs o e f =
    ap (λ (k : Memory). settled_over k vs) e
    ∙ ap (λ (us : List Wait). settled_over (with_puts m (due_puts u ws)) us) f
    ∙ ap (λ (g : ℕ → ℕ). record m { bytes = g }) (landed_settles m.bytes u ws o)

pub ruleset land_rules = (settles)

-- ---- a byte

abbrev outside : List (ℕ × ℕ) → List (ℕ × ℕ)
outside ps = filter (λ (p : ℕ × ℕ). not (in_port_page p.0)) ps

other_place : (a y : ℕ) (e b c : Bool) → (a == y) ≡ e → in_port_page a ≡ b → in_port_page y ≡ c → (b ≡ c → ⊥) → e ≡ false
other_place a y false b c t p q apart = refl
other_place a y true b c t p q apart = absurd (apart (sym p ∙ ap in_port_page (eqb-true a y t) ∙ q))

kept_last : (ps : List (ℕ × ℕ)) (a : ℕ) → in_port_page a ≡ false → last_put (outside ps) a ≡ last_put ps a
unfolding last_put
kept_last [] a h = refl
kept_last (p ∷ ps) a h = elim (cases_Bool (in_port_page p.0)) [
  | inl t ↦
      let other : (a == p.0) ≡ false = other_place a p.0 (a == p.0) false true refl h t (λ e. cc e) in
      ap (λ (b : Bool). last_put (cond (not b) (p ∷ outside ps) (outside ps)) a) t
      ∙ kept_last ps a h
      ∙ sym (or_none (last_put ps a))
      ∙ ap (λ (b : Bool). or_earlier (last_put ps a) (cond b (Some p.1) None)) (sym other)
  | inr f ↦
      ap (λ (b : Bool). last_put (cond (not b) (p ∷ outside ps) (outside ps)) a) f
      ∙ ap (λ (o : Option ℕ). or_earlier o (cond (a == p.0) (Some p.1) None)) (kept_last ps a h)
]

port_last : (ps : List (ℕ × ℕ)) (a : ℕ) → in_port_page a ≡ true → last_put (outside ps) a ≡ None
unfolding last_put
port_last [] a h = refl
port_last (p ∷ ps) a h = elim (cases_Bool (in_port_page p.0)) [
  | inl t ↦ ap (λ (b : Bool). last_put (cond (not b) (p ∷ outside ps) (outside ps)) a) t ∙ port_last ps a h
  | inr f ↦
      let other : (a == p.0) ≡ false = other_place a p.0 (a == p.0) true false refl h f (λ e. cc e) in
      ap (λ (b : Bool). last_put (cond (not b) (p ∷ outside ps) (outside ps)) a) f
      ∙ ap (λ (o : Option ℕ). or_earlier o (cond (a == p.0) (Some p.1) None)) (port_last ps a h)
      ∙ ap (λ (b : Bool). cond b (Some p.1) None) other
]

pub at_port : (m : ℕ → ℕ) (ps : List (ℕ × ℕ)) (a : ℕ) → in_port_page a ≡ true → m a ≡ stored m ps a
at_port m ps a h = sym (written-last m (outside ps) a ∙ ap (λ (o : Option ℕ). unwrap_or o (m a)) (port_last ps a h))

pub at_some : (m : ℕ → ℕ) (ps : List (ℕ × ℕ)) (a b : ℕ) → in_port_page a ≡ false → Some b ≡ last_put ps a → b ≡ stored m ps a
at_some m ps a b h e = sym (written-last m (outside ps) a ∙ ap (λ (o : Option ℕ). unwrap_or o (m a)) (kept_last ps a h ∙ sym e))

pub at_none : (m : ℕ → ℕ) (ps : List (ℕ × ℕ)) (a : ℕ) → in_port_page a ≡ false → None ≡ last_put ps a → m a ≡ stored m ps a
at_none m ps a h e = sym (written-last m (outside ps) a ∙ ap (λ (o : Option ℕ). unwrap_or o (m a)) (kept_last ps a h ∙ sym e))

-- ---- room

pub room_split : (m : Kept) (ps qs : List (ℕ × ℕ)) → HasRoomFor m (ps ++ qs) → HasRoomFor m ps × HasRoomFor m qs
room_split m [] qs h = (tt, h)
room_split m (p ∷ ps) qs h = let r = room_split m ps qs h.1 in ((h.0, r.0), r.1)

pub room_kept : (m k : Kept) (ps : List (ℕ × ℕ)) → KeepsRoom m k → HasRoomFor m ps → HasRoomFor k ps
room_kept m k [] keeps h = tt
room_kept m k (p ∷ ps) keeps h = (keeps p.0 h.0, room_kept m k ps keeps h.1)

pub room_run : (m : Kept) (a : ℕ) (bs : List ℕ) → HasRoomFor m (upwards a bs) → HasRoom m a (length bs)
room_run m a [] h k lt = absurd (omega (arith, lt))
room_run m a (b ∷ bs) h zero lt = let here : wrapped a ≡ wrapped (a + 0) = omega arith in subst (IsReserved m) here h.0
room_run m a (b ∷ bs) h (suc k) lt = let next : wrapped (a + 1 + k) ≡ wrapped (a + suc k) = omega arith in subst (IsReserved m) next (room_run m (a + 1) bs h.1 k (omega (arith, lt)))

pub no_more : (u : ℕ) (ws : List Wait) → NoneDue u ws → AreDueInOrder ws → (due_puts u ws ≡ []) × (left_waiting u ws ≡ ws)
no_more u [] n o = none-due u [] tt
no_more u (w ∷ ws) n o = none-due u (w ∷ ws) (n, all-later u w.due ws n o.0)
