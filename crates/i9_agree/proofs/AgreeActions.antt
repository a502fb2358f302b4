-- In states that agree an instruction that marks allow does what is alike.
use Rattle.std.proofs.Common.{◌≡◌, ℕ, zero, suc, ◌+◌, ◌<◌, Bool, true, false, cond, List, [], ◌∷◌, ◌++◌, refl, sym, ap, ◌∙◌, subst, arith}
use Rattle.std.specs.Prelude.{◌&&◌}
use Rattle.std.specs.List.{list_any, range_with_len}
use Rattle.std.proofs.lemmas.List.Folds.{list_any-append}
use Rattle.std.proofs.lemmas.Bool.Decides.{nat_tests}
use Rattle.std.proofs.lemmas.Bool.{or_parts}
use Rattle.i9_isa.specs.declared.size.Size.{Size}
use Rattle.i9_isa.specs.declared.inst.Operand.{Operand}
use Rattle.i9_isa.specs.declared.inst.Ea.{Ea}
use Rattle.i9_model.specs.declared.push.Push.{Push}
use Rattle.i9_model.specs.Writes.{wrapped}
use Rattle.i9_model.specs.Memory.{Memory, region_of, is_big, half_in, half_bytes, word_in}
use Rattle.i9_model.specs.State.{State}
use Rattle.i9_model.specs.Faults.{is_special}
use Rattle.i9_model.specs.Operands.{value, word_of, address}
use Rattle.i9_model.specs.Step.{Action, loaded, stored_of, assigning, marking, pushing, saved_local}
use Rattle.i9_model.specs.Stale.{mark_of, word_mark, legible, loaded_marks, stored_marks, saved_mark, saved_marks, registers_of, address_registers, is_marked}
use Rattle.i9_model.specs.Alike.{AgreeWhere, with_other, shows, is_open, with_values, AgreeBeside, ReadAlike, AreValuesAlike, AreWritesAlike, AreMovesAlike, AreActionsAlike}
use Rattle.i9_model.proofs.Readings.{two}
use Rattle.std.specs.Int.{w16, from_le_bytes, from_be_bytes}
use Rattle.i9_model.proofs.Lengths.{two_bytes}
use Rattle.i9_model.proofs.Storing.{stored_words_same}
use Rattle.i9_agree.proofs.Agreeing.{shows-unmarked, shows-none, shows-first, shows-second, values-marked, values-mapped, writes-same, writes-picked}
use Rattle.i9_agree.proofs.AgreeMoves.{bytes-alike}

-- ---- registers that are shown

-- of these registers none has a mark that hides
abbrev pub AreShown : Bool → State → List ℕ → Type 0
AreShown hides s rs = shows hides (is_marked s rs) ≡ true

pub shown-first : (hides : Bool) (s : State) (xs ys : List ℕ) → AreShown hides s (xs ++ ys) → AreShown hides s xs
shown-first hides s xs ys h = shows-first hides (is_marked s xs) (is_marked s ys) (ap (shows hides) (sym (list_any-append s.marks xs ys)) ∙ h)

pub shown-second : (hides : Bool) (s : State) (xs ys : List ℕ) → AreShown hides s (xs ++ ys) → AreShown hides s ys
shown-second hides s xs ys h = shows-second hides (is_marked s xs) (is_marked s ys) (ap (shows hides) (sym (list_any-append s.marks xs ys)) ∙ h)

pub shown-three : (hides : Bool) (s : State) (xs ys zs : List ℕ) → AreShown hides s (xs ++ (ys ++ zs)) → AreShown hides s xs × AreShown hides s ys × AreShown hides s zs
shown-three hides s xs ys zs h = grind (arith, shown-second, shown-first)

-- one of a group
shown-group : (hides : Bool) (s : State) (r n k : ℕ) → AreShown hides s (range_with_len r n) → k < n → shows hides (s.marks (r + k)) ≡ true
shown-group hides s r zero k h l = absurd (omega arith)
shown-group hides s r (suc n) zero h l = grind (arith, shows-first)
shown-group hides s r (suc n) (suc k) h l =
    let next : r + suc k ≡ r + 1 + k = omega arith in
    ap (λ (q : ℕ). shows hides (s.marks q)) next ∙ shown-group hides s (r + 1) n k (shows-second hides (s.marks r) (is_marked s (range_with_len (r + 1) n)) h) (omega (arith, l))

-- ---- operands

-- a word whose mark is shown
pub word-same : (hides : Bool) (s : State) (regs bytes reading : ℕ → ℕ) (o : Operand) (k : ℕ) → AgreeBeside hides s regs → shows hides (mark_of s o k) ≡ true → word_of (with_values s regs bytes reading) o k ≡ word_of s o k
word-same hides s regs bytes reading o k same h = grind arith

-- a word of an operand that is shown
pub shown-word : (hides : Bool) (s : State) (o : Operand) (n k : ℕ) → AreShown hides s (registers_of o n) → k < n → shows hides (mark_of s o k) ≡ true
shown-word hides s o n k h l = grind (arith, nat_tests, shown-group, shows-unmarked)

pub operand-same : (hides : Bool) (s : State) (regs bytes reading : ℕ → ℕ) (o : Operand) (n k : ℕ) → AgreeBeside hides s regs → AreShown hides s (registers_of o n) → k < n → word_of (with_values s regs bytes reading) o k ≡ word_of s o k
operand-same hides s regs bytes reading o n k same h l = word-same hides s regs bytes reading o k same (shown-word hides s o n k h l)

pub value-same : (hides : Bool) (s : State) (regs bytes reading : ℕ → ℕ) (o : Operand) → AgreeBeside hides s regs → AreShown hides s (registers_of o 1) → value (with_values s regs bytes reading) o ≡ value s o
value-same hides s regs bytes reading o same h = operand-same hides s regs bytes reading o 1 0 same h (omega arith)

-- an effective address whose registers are shown
pub address-same : (hides : Bool) (s : State) (regs bytes reading : ℕ → ℕ) (e : Ea) → AgreeBeside hides s regs → AreShown hides s (address_registers e) → address (with_values s regs bytes reading) e ≡ address s e
address-same hides s regs bytes reading e same h = grind arith

-- ---- what is read

pub legible-byte : (hides : Bool) (s : State) (regs bytes reading : ℕ → ℕ) (x : ℕ) → AgreeWhere (is_open hides s.frames) s.memory bytes → ReadAlike hides s reading → shows hides (s.frames.soft x) ≡ true
    → (legible (with_values s regs bytes reading)).bytes x ≡ (legible s).bytes x
legible-byte hides s regs bytes reading x same read h = grind arith

-- a word of which the bytes that are shown are the same
pub shown-word-same : (hides : Bool) (m : Memory) (bytes : ℕ → ℕ) (stale : ℕ → Bool) (a : ℕ)
    → (shows hides (stale a) ≡ true → bytes a ≡ m.bytes a)
    → ((j : ℕ) → 0 < j → j < 4 → shows hides (stale (wrapped (a + j))) ≡ true → bytes (wrapped (a + j)) ≡ m.bytes (wrapped (a + j)))
    → shows hides (word_mark stale a) ≡ true → word_in (with_other m bytes) a ≡ word_in m a
unfolding word_in
shown-word-same hides m bytes stale a first later h = grind arith

pub legible-word : (hides : Bool) (s : State) (regs bytes reading : ℕ → ℕ) (a : ℕ) → AgreeWhere (is_open hides s.frames) s.memory bytes → ReadAlike hides s reading → shows hides (word_mark s.frames.soft a) ≡ true
    → word_in (legible (with_values s regs bytes reading)) a ≡ word_in (legible s) a
legible-word hides s regs bytes reading a same read h =
    shown-word-same hides (legible s) (legible (with_values s regs bytes reading)).bytes s.frames.soft a
    (λ t. legible-byte hides s regs bytes reading a same read t)
    (λ j l m t. legible-byte hides s regs bytes reading (wrapped (a + j)) same read t)
    h

abbrev half_from : Memory → ℕ → List ℕ → ℕ
half_from m a bs = cond (is_big m (region_of a)) (from_be_bytes w16 bs) (from_le_bytes w16 bs)

-- a load gives what is alike
pub loaded-alike : (hides : Bool) (size : Size) (signed : Bool) (s : State) (regs bytes reading : ℕ → ℕ) (a : ℕ) → AgreeWhere (is_open hides s.frames) s.memory bytes → ReadAlike hides s reading
    → AreValuesAlike hides (loaded_marks size s.frames.soft a) (loaded size signed (legible s) a) (loaded size signed (legible (with_values s regs bytes reading)) a)
unfolding half_in
loaded-alike hides size signed s regs bytes reading a same read =
    grind (arith, legible-byte, two, shows-first, shows-second, values-mapped, legible-word)

-- ---- actions

-- no value of an action is marked
pub alike-same : (hides : Bool) (a : Action) → AreMovesAlike hides a.lost a.move a.move → AreActionsAlike hides a a
alike-same hides a move = record { rest = refl; sets = writes-same hides a.marked a.sets; writes = writes-same hides a.stale a.writes; move = move }

pub alike-by : (hides : Bool) (a b : Action) → AreMovesAlike hides a.lost a.move a.move → b ≡ a → AreActionsAlike hides a b
alike-by hides a b move e = subst (λ (x : Action). AreActionsAlike hides a x) (sym e) (alike-same hides a move)

-- values without marks are the same
values-none : (hides : Bool) (bs : List Bool) (vs ws : List ℕ) → AreValuesAlike hides bs vs ws → list_any (λ (b : Bool). b) bs ≡ false → ws ≡ vs
values-none hides [] [] [] h none = refl
values-none hides (b ∷ bs) (v ∷ vs) (w ∷ ws) h none =
    let parts = or_parts b (list_any (λ (c : Bool). c) bs) none in
    cc (h.0 (shows-none hides b parts.0), values-none hides bs vs ws h.1 parts.1)
values-none hides _ _ _ h none = absurd h

-- no marked value gets to a special function register
abbrev pub IsAllowed : Operand → List Bool → Type 0
IsAllowed o bs = (is_special o && list_any (λ b. b) bs) ≡ false

-- a destination gets values with their marks
pub assigning-alike : (hides : Bool) (o : Operand) (bs : List Bool) (vs ws : List ℕ) (a : Action) → IsAllowed o bs → AreValuesAlike hides bs vs ws → AreMovesAlike hides a.lost a.move a.move
    → AreActionsAlike hides (marking o bs (assigning o vs a)) (marking o bs (assigning o ws a))
assigning-alike hides o bs vs ws a allowed alike move = grind (arith, writes-picked, writes-same, alike-by, values-none)

-- with bytes that are written besides
pub writing-alike : (hides : Bool) (a b : Action) (ps qs : List (ℕ × ℕ)) (stale : List ℕ) → AreActionsAlike hides a b → AreWritesAlike hides stale ps qs
    → AreActionsAlike hides (record a { writes = ps; stale = stale }) (record b { writes = qs; stale = stale })
writing-alike hides a b ps qs stale alike writes = grind arith

-- a store writes bytes that are alike
pub stored-alike-of : (hides : Bool) (size : Size) (s : State) (regs bytes reading : ℕ → ℕ) (o : Operand) (a : ℕ) → AgreeBeside hides s regs
    → AreValuesAlike hides (stored_marks size s o) (stored_of size s o a) (stored_of size (with_values s regs bytes reading) o a)
unfolding half_bytes
stored-alike-of hides size s regs bytes reading o a same =
    grind (arith, word-same, values-marked, two_bytes, stored_words_same, bytes-alike, values-mapped)

-- a push saves words that are alike
pub pushing-alike : (hides : Bool) (s : State) (regs bytes reading : ℕ → ℕ) (p : Push) (back next : ℕ) → AgreeBeside hides s regs
    → AreActionsAlike hides (pushing s p back next) (pushing (with_values s regs bytes reading) p back next)
pushing-alike hides s regs bytes reading p back next same = record {
  rest = refl;
  sets = writes-same hides [] (pushing s p back next).sets;
  writes = tt;
  move = (refl, (saved_marks s, refl, values-mapped hides (saved_mark s) (saved_local s back) (saved_local (with_values s regs bytes reading) back) 0 16 (λ r l h. grind (arith, same r))));
}
