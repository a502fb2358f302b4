-- What comes next in states that are alike is the same record or the same end, and states stay alike.
use Rattle.std.proofs.Common.{◌≡◌, ℕ, Bool, true, false, List, [], ◌∷◌, Option, refl, ap, ◌∙◌, arith}
use Rattle.std.specs.Prelude.{not}
use Rattle.i9_model.specs.declared.event.Event.{Event}
use Rattle.i9_model.specs.declared.event.Event.TheVariants as events
use Rattle.i9_model.specs.Memory.{exit_word}
use Rattle.i9_model.specs.State.{State, as_zero}
use Rattle.i9_model.specs.Step.{Action}
use Rattle.i9_model.specs.Run.{Finish, Kind, Record, action_by_kind, action_done, due_by, Next, Does, Ends, next_in, reached_by}
use Rattle.i9_model.specs.declared.run.Due.{Due}
use Rattle.i9_model.specs.Overlay.{overlay}
use Rattle.i9_model.specs.PrintedText.{view_of, record_lines, end_lines}
use Rattle.i9_model.specs.Alike.{AreAlike, AreRecordsAlike, AreNextAlike, ReadAlike, Agree, AreValuesAlike, AreWritesAlike, AreActionsAlike, DoAgree, NextsAgree}
use Rattle.i9_model.specs.Sound.{IsSound}
use Rattle.i9_agree.proofs.AgreeSteps.{next-agree, overlay-agree}
use Rattle.i9_agree.proofs.AgreeTexts.{events-same, reached-same}
pub use Rattle.i9_agree.proofs.AgreeSteps.{IsReadable, controlled_bytes, restart_readable, group_readable}

-- ---- as states that agree where marks do not hide

-- the reading of soft bytes is that of the machine of runs
abbrev pub IsBlind : State → Type 0
IsBlind s = s.reading ≡ as_zero

agree-by-alike : (hides : Bool) (s t : State) → ReadAlike hides s t.reading → AreAlike s t → Agree hides s t
agree-by-alike hides s t reading alike = grind arith

pub agree-alike : (s t : State) → IsBlind s → AreAlike s t → Agree false s t
agree-alike s t blind alike = grind arith

-- where marks hide, whatever is read of soft bytes
shown-alike : (s t : State) → AreAlike s t → Agree true s t
shown-alike s t alike = agree-by-alike true s t (λ e. absurd cc) alike

pub alike-agree : (s t : State) → Agree false s t → AreAlike s t
alike-agree s t agree = grind arith

-- ---- actions

writes-are : (marked : List ℕ) (ps qs : List (ℕ × ℕ)) → AreWritesAlike false marked ps qs → qs ≡ ps
writes-are marked [] [] h = refl
writes-are marked (p ∷ ps) (q ∷ qs) h = grind (arith, writes-are marked ps qs h.2)
writes-are marked _ _ h = absurd h

values-are : (bs : List Bool) (vs ws : List ℕ) → AreValuesAlike false bs vs ws → ws ≡ vs
values-are [] [] [] h = refl
values-are (b ∷ bs) (v ∷ vs) (w ∷ ws) h = cc (h.0 refl, values-are bs vs ws h.1)
values-are _ _ _ h = absurd h

actions-are : (a b : Action) → AreActionsAlike false a b → b ≡ a
actions-are a b h = grind (arith, writes-are, values-are)

-- ---- what comes next

records-alike : (r q : Record) → DoAgree false r q → AreRecordsAlike r q
records-alike r q h = record {
  kind = h.kind;
  before = alike-agree r.before q.before h.before;
  words = h.words;
  action = actions-are (action_by_kind r.kind r.before) (action_by_kind r.kind q.before) h.action;
  after = alike-agree r.after q.after h.after;
}

nexts-alike : (o p : Next) → NextsAgree false o p → AreNextAlike o p
nexts-alike (Does r) (Does q) h = records-alike r q h
nexts-alike (Ends f) (Ends g) h = h
nexts-alike _ _ h = absurd h

-- what comes next in states that are alike, where frames are sound
pub next_alike : (limit : ℕ) (due : Due) (stands : Option Event) (s t : State) → IsSound s.frames → IsBlind s → AreAlike s t → AreNextAlike (next_in limit due stands s) (next_in limit due stands t)
next_alike limit due stands s t sound blind alike = grind (arith, nexts-alike, next-agree, agree-alike)

-- ---- what is shown

pub view_alike : (s t : State) → AreAlike s t → view_of t ≡ view_of s
view_alike s t alike = ap view_of alike.rest

pub overlay_alike : (s t : State) (a : ℕ) → AreAlike s t → overlay t a ≡ overlay s a
overlay_alike s t a alike = overlay-agree s t a (shown-alike s t alike)

-- ---- states that are alike in a row

pub alike_same : (s : State) → AreAlike s s
alike_same s = record { rest = refl; bytes = λ x h. refl }

pub alike_trans : (s t u : State) → AreAlike s t → AreAlike t u → AreAlike s u
alike_trans s t u p q = grind arith

-- ---- what comes next, from what comes next in a state that is alike

pub does_alike : (o p : Next) (q : Record) → AreNextAlike o p → p ≡ Does q → (r : Record) × (o ≡ Does r) × AreRecordsAlike r q
does_alike o p q alike e = grind arith

pub ends_alike : (o p : Next) (g : Finish) → AreNextAlike o p → p ≡ Ends g → o ≡ Ends g
ends_alike o p g alike e = grind arith

-- the other way round
pub does_beside : (o p : Next) (r : Record) → AreNextAlike o p → o ≡ Does r → (q : Record) × (p ≡ Does q) × AreRecordsAlike r q
does_beside o p r alike e = grind arith

pub ends_beside : (o p : Next) (g : Finish) → AreNextAlike o p → o ≡ Ends g → p ≡ Ends g
ends_beside o p g alike e = grind arith

-- ---- what records that are alike do, make due and print

pub done_alike : (r q : Record) → AreRecordsAlike r q → action_done q ≡ action_done r
done_alike r q same = ap (λ (k : Kind). action_by_kind k q.before) same.kind ∙ same.action

pub due_alike : (r q : Record) → AreRecordsAlike r q → due_by q.kind q.before ≡ due_by r.kind r.before
unfolding exit_word
due_alike r q same = grind arith

pub reached_alike : (r q : Record) → AreRecordsAlike r q → reached_by q.kind q.before ≡ reached_by r.kind r.before
reached_alike r q same = ap (λ (k : Kind). reached_by k q.before) same.kind ∙ reached-same r.kind r.before q.before (shown-alike r.before q.before same.before)

pub lines_alike : (r q : Record) → AreRecordsAlike r q → record_lines q ≡ record_lines r
lines_alike r q same = grind (arith, events-same, done_alike, view_alike)

pub end_alike : (s t : State) (f : Finish) → AreAlike s t → end_lines t f ≡ end_lines s f
end_alike s t f alike = ap (λ (u : State). end_lines u f) alike.rest
