-- What a line says by itself, and how many commands are before it, decide what it says and which fault it has.
use Rattle.std.proofs.Common.{◌≡◌, ℕ, ◌<◌, ◌≤◌, Bool, true, false, cond, List, [], ◌∷◌, ◌++◌, length, Option, Some, None, Result, Ok, Err, refl, sym, ap, subst, ◌∙◌, arith, inl, inr, ◌⊎◌, leb}
use Rattle.std.proofs.lemmas.Bool.{cases_Bool, cases_lt}
use Rattle.i9_text.specs.Text.{words_of}
use Rattle.i9_model.specs.Events.{Words}
use Rattle.i9_model.specs.ScheduleText.{and_then, is_ascii, is_skipped}
use Rattle.i9_schedule.specs.ScriptText.{IsCommand, is_named, Says, says_nothing, says_command, HasFault, not_ascii, not_named, not_formed, not_few, most_commands, unknown_command, bad_operand, too_many_commands}
use Rattle.i9_schedule.specs.CommandLines.{command_of, line_of}
use Rattle.i9_schedule.specs.declared.command.Command.{Command}
use Rattle.i9_schedule.proofs.Forms.{command_case, command_is, KindOf, kind_of_command}

-- ---- from the functions to the relations

abbrev pub SaidAs : List Command → List ℕ → Result (Option Command) ℕ → Type 0
SaidAs cs line (Err kind) = HasFault cs line kind
SaidAs cs line (Ok None) = Says cs line cs
SaidAs cs line (Ok (Some c)) = (length cs < most_commands → Says cs line (cs ++ c ∷ [])) × (most_commands ≤ length cs → HasFault cs line too_many_commands)

never_formed : (ws : Words) (kind : ℕ) → command_of ws ≡ Err kind → (c : Command) → ¬ IsCommand ws c
never_formed ws kind h c is = let e = command_is ws c is in absurd (cc)

fault_case : (cs : List Command) (line : List ℕ) (kind : ℕ) (named : Bool) → is_ascii line ≡ true → is_skipped line ≡ false → is_named (words_of line) ≡ named → command_of (words_of line) ≡ Err kind → KindOf (Err kind) named → HasFault cs line kind
unfolding KindOf
fault_case cs line kind true ascii some named wrong h = rw h (not_formed cs line ascii some named (never_formed (words_of line) kind wrong))
fault_case cs line kind false ascii some named wrong h = rw h (not_named cs line ascii some named)

words_case : (cs : List Command) (line : List ℕ) (r : Result Command ℕ) → is_ascii line ≡ true → is_skipped line ≡ false → command_of (words_of line) ≡ r → SaidAs cs line (and_then r (λ c. Ok (Some c)))
words_case cs line (Ok c) ascii some is = let says = command_case (words_of line) c is in (says_command cs line c ascii some says, not_few cs line c ascii some says)
words_case cs line (Err kind) ascii some is = fault_case cs line kind (is_named (words_of line)) ascii some refl is (subst (λ r. KindOf r (is_named (words_of line))) is (kind_of_command (words_of line)))

pub said_as : (cs : List Command) (line : List ℕ) → SaidAs cs line (line_of line)
unfolding line_of
said_as cs line =
    elim (cases_Bool (is_ascii line)) [
      | inr other ↦ rw other (not_ascii cs line other)
      | inl ascii ↦ elim (cases_Bool (is_skipped line)) [
        | inl skipped ↦ rw (ascii, skipped) (says_nothing cs line ascii skipped)
        | inr some ↦ rw (ascii, some) (words_case cs line (command_of (words_of line)) ascii some refl)
      ]
    ]

-- ---- and back

-- the fault of what a line says, behind so many commands
abbrev pub fault_of_said : ℕ → Result (Option Command) ℕ → Option ℕ
fault_of_said n (Err kind) = Some kind
fault_of_said n (Ok None) = None
fault_of_said n (Ok (Some c)) = cond (leb most_commands n) (Some too_many_commands) None

abbrev pub fault_of : List Command → List ℕ → Option ℕ
fault_of cs line = fault_of_said (length cs) (line_of line)

-- the commands after it, where it has no fault
abbrev pub with_said : List Command → Result (Option Command) ℕ → List Command
with_said cs (Err kind) = cs
with_said cs (Ok None) = cs
with_said cs (Ok (Some c)) = cs ++ c ∷ []

fine : (n : ℕ) → n < most_commands → cond (leb most_commands n) (Some too_many_commands) None ≡ None
fine n h = grind (arith)

many : (n : ℕ) → most_commands ≤ n → cond (leb most_commands n) (Some too_many_commands) None ≡ Some too_many_commands
many n h = grind (arith)

unformed : (r : Result Command ℕ) (named : Bool) → KindOf r named → ((c : Command) → ¬ (r ≡ Ok c)) → r ≡ Err (cond named bad_operand unknown_command)
unfolding KindOf
unformed (Ok c) named h never = absurd (never c refl)
unformed (Err k) named h never = ap Err h

unnamed : (r : Result Command ℕ) → KindOf r false → r ≡ Err unknown_command
unfolding KindOf
unnamed (Ok c) h = absurd cc
unnamed (Err k) h = ap Err h

pub line_says : (cs : List Command) (line : List ℕ) (ds : List Command) → Says cs line ds → (fault_of cs line ≡ None) × (with_said cs (line_of line) ≡ ds)
unfolding line_of
line_says cs line ds (says_nothing xs l ascii skipped) = (rw (ascii, skipped) refl, rw (ascii, skipped) refl)
line_says cs line ds (says_command xs l c ascii some is few) = let e = command_is (words_of l) c is in (rw (ascii, some, e) (fine (length xs) few), rw (ascii, some, e) refl)

pub line_faults : (cs : List Command) (line : List ℕ) (kind : ℕ) → HasFault cs line kind → fault_of cs line ≡ Some kind
unfolding line_of
line_faults cs line kind (not_ascii xs l other) = rw other refl
line_faults cs line kind (not_named xs l ascii some other) =
    let e = unnamed (command_of (words_of l)) (subst (λ b. KindOf (command_of (words_of l)) b) other (kind_of_command (words_of l))) in
    rw (ascii, some, e) refl
line_faults cs line kind (not_formed xs l ascii some named never) =
    let e = unformed (command_of (words_of l)) true (subst (λ b. KindOf (command_of (words_of l)) b) named (kind_of_command (words_of l))) (λ c is. never c (command_case (words_of l) c is)) in
    rw (ascii, some, e) refl
line_faults cs line kind (not_few xs l c ascii some is h) = let e = command_is (words_of l) c is in rw (ascii, some, e) (many (length xs) h)

-- a line says one list of commands
pub says_once : (cs : List Command) (line : List ℕ) (ds es : List Command) → Says cs line ds → Says cs line es → ds ≡ es
says_once cs line ds es x y = sym (line_says cs line ds x).1 ∙ (line_says cs line es y).1

-- or it has a fault
next_of : (cs : List Command) (line : List ℕ) (r : Result (Option Command) ℕ) → SaidAs cs line r → ((ds : List Command) × Says cs line ds) ⊎ ((k : ℕ) × HasFault cs line k)
next_of cs line (Err k) h = inr (k, h)
next_of cs line (Ok None) h = inl (cs, h)
next_of cs line (Ok (Some c)) h = elim (cases_lt (length cs) most_commands) [
  | inl few ↦ inl (cs ++ c ∷ [], h.0 few)
  | inr many ↦ inr (too_many_commands, h.1 many)
]

pub says_or_faults : (cs : List Command) (line : List ℕ) → ((ds : List Command) × Says cs line ds) ⊎ ((k : ℕ) × HasFault cs line k)
says_or_faults cs line = next_of cs line (line_of line) (said_as cs line)

-- what a line says as the function answers it
pub said_by : (cs : List Command) (line : List ℕ) (r : Result (Option Command) ℕ) → r ≡ line_of line → SaidAs cs line r
said_by cs line r e = subst (λ (x : Result (Option Command) ℕ). SaidAs cs line x) (sym e) (said_as cs line)
