-- The functions that read the words of a line answer the forms, both ways.
use Rattle.std.proofs.Common.{◌≡◌, ℕ, cond, Bool, true, false, ◌||◌, List, [], ◌∷◌, Option, Some, None, Result, Ok, Err, refl, sym, subst, inl, inr, codes, arith}
use Rattle.i9_replay.proofs.EventForms.{same_some, ok_or_ok}
use Rattle.std.specs.Option.{option_and_then, option_map, ok_or}
use Rattle.std.specs.Str.{bytes_eq}
use Rattle.std.proofs.lemmas.Bool.{cases_Bool}
use Rattle.std.proofs.lemmas.Option.{option_and_then_some}
use Rattle.std.proofs.lemmas.Slice.Eq.{bytes_eq-Decides}
use Rattle.i9_model.specs.Events.{Words, decimal_in, address_of, most_shown}
use Rattle.i9_schedule.specs.ScriptText.{IsCommand, is_turn, is_until, is_regs, is_raw, is_held, is_mem, is_rawmem, is_back, is_last, is_who, is_named, most_turns, most_back, unknown_command, bad_operand}
use Rattle.i9_schedule.specs.CommandLines.{bare_of, number_of, place_of, turn_of, until_of, piece_of, mem_of, rawmem_of, back_of, last_of, who_of, command_of}
use Rattle.i9_schedule.specs.declared.command.Command.{Command}
use Rattle.i9_schedule.specs.declared.command.Command.TheVariants.{Turn, Until, Regs, Raw, Held, Mem, RawMem, Back, Last, Who}

-- ---- what is read is what the words say

-- the one operand that is a number
number_case : (P : Words → ℕ → Type 0) (high : ℕ) → ((w : List ℕ) (n : ℕ) → decimal_in 1 high w ≡ Some n → P (w ∷ []) n) → (ws : Words) (n : ℕ) → number_of high ws ≡ Some n → P ws n
unfolding number_of
number_case P high says (w ∷ []) n h = says w n h
number_case P high says _ n h = absurd cc

-- the one operand that is an address
place_case : (P : Words → ℕ → Type 0) → ((w : List ℕ) (a : ℕ) → address_of w ≡ Some a → P (w ∷ []) a) → (ws : Words) (a : ℕ) → place_of ws ≡ Some a → P ws a
unfolding place_of
place_case P says (w ∷ []) a h = says w a h
place_case P says _ a h = absurd cc

bare_case : (name : List ℕ) (ws : Words) (own c : Command) → IsCommand (name ∷ []) own → bare_of own ws ≡ Some c → IsCommand (name ∷ ws) c
bare_case name ws own c says h = grind arith

-- the two operands of a piece
piece_case : (P : Words → ℕ × ℕ → Type 0) → ((v w : List ℕ) (a l : ℕ) → address_of v ≡ Some a → decimal_in 1 most_shown w ≡ Some l → P (v ∷ w ∷ []) (a, l)) → (ws : Words) (p : ℕ × ℕ) → piece_of ws ≡ Some p → P ws p
unfolding piece_of
piece_case P says (v ∷ w ∷ []) p h =
    option_and_then_some (λ a. option_and_then (λ l. Some (a, l)) (decimal_in 1 most_shown w)) (address_of v) p h (λ a address more.
    option_and_then_some (λ l. Some (a, l)) (decimal_in 1 most_shown w) p more (λ l size is.
    subst (λ (x : ℕ × ℕ). P (v ∷ w ∷ []) x) (same_some (a, l) p is) (says v w a l address size)))
piece_case P says _ p h = absurd cc

map_case : {A : Type 0} (own : A → Command) (P : Command → Type 0) (o : Option A) (c : Command) → ((p : A) → o ≡ Some p → P (own p)) → option_map own o ≡ Some c → P c
map_case own P None c says h = absurd cc
map_case own P (Some p) c says h = subst P (same_some (own p) c h) (says p refl)

turn_case : (ws : Words) (c : Command) → turn_of ws ≡ Some c → IsCommand (codes "turn" ∷ ws) c
turn_case ws c h = map_case Turn (λ x. IsCommand (codes "turn" ∷ ws) x) (number_of most_turns ws) c (number_case (λ us n. IsCommand (codes "turn" ∷ us) (Turn n)) most_turns is_turn ws) h

back_case : (ws : Words) (c : Command) → back_of ws ≡ Some c → IsCommand (codes "back" ∷ ws) c
back_case ws c h = map_case Back (λ x. IsCommand (codes "back" ∷ ws) x) (number_of most_back ws) c (number_case (λ us n. IsCommand (codes "back" ∷ us) (Back n)) most_back is_back ws) h

until_case : (ws : Words) (c : Command) → until_of ws ≡ Some c → IsCommand (codes "until" ∷ ws) c
until_case ws c h = map_case Until (λ x. IsCommand (codes "until" ∷ ws) x) (place_of ws) c (place_case (λ us a. IsCommand (codes "until" ∷ us) (Until a)) is_until ws) h

last_case : (ws : Words) (c : Command) → last_of ws ≡ Some c → IsCommand (codes "last" ∷ ws) c
last_case ws c h = map_case Last (λ x. IsCommand (codes "last" ∷ ws) x) (place_of ws) c (place_case (λ us a. IsCommand (codes "last" ∷ us) (Last a)) is_last ws) h

who_case : (ws : Words) (c : Command) → who_of ws ≡ Some c → IsCommand (codes "who" ∷ ws) c
who_case ws c h = map_case Who (λ x. IsCommand (codes "who" ∷ ws) x) (place_of ws) c (place_case (λ us a. IsCommand (codes "who" ∷ us) (Who a)) is_who ws) h

mem_case : (ws : Words) (c : Command) → mem_of ws ≡ Some c → IsCommand (codes "mem" ∷ ws) c
mem_case ws c h = map_case (λ p. Mem p.0 p.1) (λ x. IsCommand (codes "mem" ∷ ws) x) (piece_of ws) c (piece_case (λ us p. IsCommand (codes "mem" ∷ us) (Mem p.0 p.1)) is_mem ws) h

rawmem_case : (ws : Words) (c : Command) → rawmem_of ws ≡ Some c → IsCommand (codes "rawmem" ∷ ws) c
rawmem_case ws c h = map_case (λ p. RawMem p.0 p.1) (λ x. IsCommand (codes "rawmem" ∷ ws) x) (piece_of ws) c (piece_case (λ us p. IsCommand (codes "rawmem" ∷ us) (RawMem p.0 p.1)) is_rawmem ws) h

-- a name is one text, or what the other names give counts
by_name : (name text : List ℕ) (ws : Words) (c : Command) (own : Option Command) (others : Result Command ℕ) → (own ≡ Some c → IsCommand (text ∷ ws) c) → (others ≡ Ok c → IsCommand (name ∷ ws) c)
    → cond (bytes_eq name text) (ok_or own bad_operand) others ≡ Ok c → IsCommand (name ∷ ws) c
by_name name text ws c own others says later h =
    elim (cases_Bool (bytes_eq name text)) [
      | inl same ↦ subst (λ (x : List ℕ). IsCommand (x ∷ ws) c) (sym ((bytes_eq-Decides name text).0 same)) (says (ok_or_ok own bad_operand c (rw same at h)))
      | inr apart ↦ later (rw apart at h)
    ]

pub command_case : (ws : Words) (c : Command) → command_of ws ≡ Ok c → IsCommand ws c
unfolding command_of
command_case [] c h = absurd cc
command_case (name ∷ ws) c h =
    by_name name (codes "turn") ws c (turn_of ws) _ (turn_case ws c)
    (by_name name (codes "until") ws c (until_of ws) _ (until_case ws c)
    (by_name name (codes "regs") ws c (bare_of Regs ws) _ (bare_case (codes "regs") ws Regs c is_regs)
    (by_name name (codes "raw") ws c (bare_of Raw ws) _ (bare_case (codes "raw") ws Raw c is_raw)
    (by_name name (codes "held") ws c (bare_of Held ws) _ (bare_case (codes "held") ws Held c is_held)
    (by_name name (codes "mem") ws c (mem_of ws) _ (mem_case ws c)
    (by_name name (codes "rawmem") ws c (rawmem_of ws) _ (rawmem_case ws c)
    (by_name name (codes "back") ws c (back_of ws) _ (back_case ws c)
    (by_name name (codes "last") ws c (last_of ws) _ (last_case ws c)
    (by_name name (codes "who") ws c (who_of ws) (Err unknown_command) (who_case ws c) (λ none. absurd (cc none))))))))))) h

-- ---- the way back

pub command_is : (ws : Words) (c : Command) → IsCommand ws c → command_of ws ≡ Ok c
unfolding command_of number_of place_of piece_of
command_is ws c (is_turn w n h) = rw h refl
command_is ws c (is_until w a h) = rw h refl
command_is ws c is_regs = refl
command_is ws c is_raw = refl
command_is ws c is_held = refl
command_is ws c (is_mem v w a l h g) = rw (h, g) refl
command_is ws c (is_rawmem v w a l h g) = rw (h, g) refl
command_is ws c (is_back w n h) = rw h refl
command_is ws c (is_last w a h) = rw h refl
command_is ws c (is_who w a h) = rw h refl

-- ---- a fault tells whether the first word is a command's name

unfoldable pub KindOf : Result Command ℕ → Bool → Type 0
KindOf (Ok c) named = named ≡ true
KindOf (Err k) named = k ≡ cond named bad_operand unknown_command

kind_by_name : (own : Option Command) (here later : Bool) (others : Result Command ℕ) → KindOf others later → KindOf (cond here (ok_or own bad_operand) others) (here || later)
unfolding KindOf
kind_by_name own here later others h = grind arith

pub kind_of_command : (ws : Words) → KindOf (command_of ws) (is_named ws)
unfolding command_of KindOf
kind_of_command [] = refl
kind_of_command (name ∷ ws) =
    kind_by_name (turn_of ws) (bytes_eq name (codes "turn")) _ _
    (kind_by_name (until_of ws) (bytes_eq name (codes "until")) _ _
    (kind_by_name (bare_of Regs ws) (bytes_eq name (codes "regs")) _ _
    (kind_by_name (bare_of Raw ws) (bytes_eq name (codes "raw")) _ _
    (kind_by_name (bare_of Held ws) (bytes_eq name (codes "held")) _ _
    (kind_by_name (mem_of ws) (bytes_eq name (codes "mem")) _ _
    (kind_by_name (rawmem_of ws) (bytes_eq name (codes "rawmem")) _ _
    (kind_by_name (back_of ws) (bytes_eq name (codes "back")) _ _
    (kind_by_name (last_of ws) (bytes_eq name (codes "last")) _ _
    (kind_by_name (who_of ws) (bytes_eq name (codes "who")) false (Err unknown_command) refl)))))))))
