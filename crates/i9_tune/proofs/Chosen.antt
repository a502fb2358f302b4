-- The instruction that is to be taken, as more of those that are left are looked at.
use Rattle.std.proofs.Common.{◌≡◌, ℕ, ◌+◌, ◌<◌, ◌≤◌, true, List, [], ◌∷◌, ◌++◌, length, take, slice_index_or, refl, sym, ap, ◌∙◌, subst, arith}
use Rattle.std.proofs.lemmas.List.{append-nil, append_assoc, take_more, length-take-le}
use Rattle.i9_model.specs.declared.need.Need.{Need}
use Rattle.i9_model.specs.Turns.{issue_turn, last_issue}
use Rattle.i9_isa.specs.declared.inst.Inst.{Inst}
use Rattle.i9_tune.specs.Greedy.{plain_need, turns_of, is_free, next_issue, AllFree, IsChosen}

-- the same with its turn
pub record IsBest (taken xs : List Inst) (best least : ℕ) : Type 0 where
  pub before : List Inst
  pub x : Inst
  pub behind : List Inst
  pub split : xs ≡ before ++ x ∷ behind
  pub place : length before ≡ best
  pub turn : least ≡ next_issue taken x
  pub chosen : IsChosen taken before x behind

free_weaken : (P Q : Inst → Type 0) (before is : List Inst) → ((i : Inst) → P i → Q i) → AllFree P before is → AllFree Q before is
free_weaken P Q before [] f h = tt
free_weaken P Q before (i ∷ is) f h = (λ e. f i (h.0 e), free_weaken P Q (before ++ i ∷ []) is f h.1)

free_more : (P : Inst → Type 0) (before is : List Inst) (y : Inst) → AllFree P before is → (is_free (before ++ is) y ≡ true → P y) → AllFree P before (is ++ y ∷ [])
free_more P before [] y h p = (λ e. p (subst (λ (b : List Inst). is_free b y ≡ true) (sym (append-nil before)) e), tt)
free_more P before (i ∷ is) y h p =
    (h.0, free_more P (before ++ i ∷ []) is y h.1 (λ e. p (subst (λ (b : List Inst). is_free b y ≡ true) (append_assoc before (i ∷ []) is) e)))

free_append : (P : Inst → Type 0) (before is js : List Inst) → AllFree P before is → AllFree P (before ++ is) js → AllFree P before (is ++ js)
free_append P before [] js h k = subst (λ (b : List Inst). AllFree P b js) (append-nil before) k
free_append P before (i ∷ is) js h k =
    (h.0, free_append P (before ++ i ∷ []) is js h.1 (subst (λ (b : List Inst). AllFree P b js) (sym (append_assoc before (i ∷ []) is)) k))

pub first_best : (taken : List Inst) (x : Inst) (least : ℕ) → least ≡ next_issue taken x → IsBest taken (x ∷ []) 0 least
first_best taken x least e = record {
  before = [];
  x = x;
  behind = [];
  split = refl;
  place = refl;
  turn = e;
  chosen = record { free = refl; earlier = tt; later = tt };
}

-- another one that does not issue earlier
pub best_stays : (taken xs : List Inst) (best least : ℕ) (y : Inst) → IsBest taken xs best least → (is_free xs y ≡ true → least ≤ next_issue taken y) → IsBest taken (xs ++ y ∷ []) best least
best_stays taken xs best least y b h = record {
  before = b.before;
  x = b.x;
  behind = b.behind ++ y ∷ [];
  split = ap (λ (zs : List Inst). zs ++ y ∷ []) b.split ∙ append_assoc b.before (b.x ∷ b.behind) (y ∷ []);
  place = b.place;
  turn = b.turn;
  chosen = record {
    free = b.chosen.free;
    earlier = b.chosen.earlier;
    later = free_more (λ i. next_issue taken b.x ≤ next_issue taken i) (b.before ++ b.x ∷ []) b.behind y b.chosen.later
        (λ e. subst (λ (n : ℕ). n ≤ next_issue taken y) b.turn
        (h (subst (λ (zs : List Inst). is_free zs y ≡ true) (append_assoc b.before (b.x ∷ []) b.behind ∙ sym b.split) e)));
  };
}

-- another one that issues earlier
pub best_changes : (taken xs : List Inst) (best least : ℕ) (y : Inst) (turn : ℕ) → IsBest taken xs best least → is_free xs y ≡ true → turn ≡ next_issue taken y → turn < least → IsBest taken (xs ++ y ∷ []) (length xs) turn
best_changes taken xs best least y turn b free is less =
    let earlier : next_issue taken y < next_issue taken b.x = (let e = b.turn in omega (arith, is, e, less)) in
    let P : Inst → Type 0 = λ i. next_issue taken y < next_issue taken i in
    let front = free_weaken (λ i. next_issue taken b.x < next_issue taken i) P [] b.before (λ i h. omega (arith, earlier, h)) b.chosen.earlier in
    let back = free_weaken (λ i. next_issue taken b.x ≤ next_issue taken i) P (b.before ++ b.x ∷ []) b.behind (λ i h. omega (arith, earlier, h)) b.chosen.later in
    record {
      before = xs;
      x = y;
      behind = [];
      split = refl;
      place = refl;
      turn = is;
      chosen = record {
        free = free;
        earlier = subst (AllFree P []) (sym b.split) (free_append P [] b.before (b.x ∷ b.behind) front (λ e. earlier, back));
        later = tt;
      };
    }

-- ---- in a list of which more and more is looked at

pub issue_of : (taken left : List Inst) (k : ℕ) (d : Inst) (n : Need) (turn : ℕ) → n ≡ plain_need (slice_index_or left k d) → turn ≡ issue_turn (last_issue (turns_of taken)) (turns_of taken) n
    → turn ≡ next_issue taken (slice_index_or left k d)
issue_of taken left k d n turn e is = is ∙ ap (λ (m : Need). issue_turn (last_issue (turns_of taken)) (turns_of taken) m) e

module _ (taken left : List Inst) (k : ℕ) (d : Inst) (within : k < length left) where
  looked : (best least : ℕ) → IsBest taken (take k left ++ slice_index_or left k d ∷ []) best least → IsBest taken (take (k + 1) left) best least
  looked best least b = subst (λ (xs : List Inst). IsBest taken xs best least) (sym (take_more left k d within)) b

  -- one that is not free, or does not issue earlier
  pub look_past : (best least : ℕ) → IsBest taken (take k left) best least → (is_free (take k left) (slice_index_or left k d) ≡ true → least ≤ next_issue taken (slice_index_or left k d))
      → IsBest taken (take (k + 1) left) best least
  look_past best least b past = looked best least (best_stays taken (take k left) best least (slice_index_or left k d) b past)

  pub look_better : (turn best least : ℕ) → IsBest taken (take k left) best least → is_free (take k left) (slice_index_or left k d) ≡ true → turn ≡ next_issue taken (slice_index_or left k d) → turn < least
      → IsBest taken (take (k + 1) left) k turn
  look_better turn best least b free is less =
      let long : length (take k left) ≡ k = length-take-le k left (omega (arith, within)) in
      looked k turn (subst (λ (p : ℕ). IsBest taken (take k left ++ slice_index_or left k d ∷ []) p turn) long
      (best_changes taken (take k left) best least (slice_index_or left k d) turn b free is less))

pub look_first : (taken left : List Inst) (d : Inst) (least : ℕ) → 0 < length left → least ≡ next_issue taken (slice_index_or left 0 d) → IsBest taken (take 1 left) 0 least
look_first taken left d least some is = looked taken left 0 d some 0 least (first_best taken (slice_index_or left 0 d) least is)
