-- The steps of one turn.
use Rattle.std.proofs.Common.{◌≡◌, ℕ, ◌+◌, List, [], ◌∷◌, ◌++◌, map, None, refl, sym, ap, ◌∙◌, subst, append_assoc, inl, inr, arith}
use Rattle.std.proofs.lemmas.List.{append-nil}
use Rattle.i9_model.specs.declared.run.End.{End}
use Rattle.i9_model.specs.PrintedText.{Shown, lines_of, record_lines, end_lines}
use Rattle.i9_model.specs.Run.{Given, Next, state_after}
use Rattle.i9_course.specs.Course.{Item, Step, records_of, comes_next}
use Rattle.i9_machine.specs.declared.line.Line.{Line}
use Rattle.i9_machine.specs.declared.line.Turn.{Turn}
use Rattle.i9_machine.specs.declared.line.Turn.TheVariants as answers
use Rattle.i9_machine.specs.Line.{AddsLines, shown_of}
use Rattle.i9_machine.specs.Progress.{Progress}
use Rattle.i9_machine.specs.StandsFor.{StandsFor, Follows, IsUnderWay, MovesOn, DoesNext, EndsRun, IsRefused, Advances}
use Rattle.i9_machine.specs.NewPages.{AddsNextOnly, AddsRecordsOnly, with_next}
use Rattle.i9_machine.proofs.NewPages.{no_records, more_pages}
use Rattle.i9_machine.specs.Turned.{steps_on, Since, TurnsOn, EndsTurn, StopsTurn}

-- ---- lines

pub more_lines : (old mid new : List Line) (xs ys : List Shown) → AddsLines old mid xs → AddsLines mid new ys
    → AddsLines old new (xs ++ ys)
more_lines old mid new xs ys first then =
    then ∙ ap (λ (ls : List Shown). ls ++ ys) first ∙ append_assoc (map shown_of old) xs ys

pub same_lines : (old mid new : List Line) (xs : List Shown) → AddsLines old mid xs → new ≡ mid → AddsLines old new xs
same_lines old mid new xs first same = ap (map shown_of) same ∙ first

-- ---- steps

-- records were done since a machine, and a page that is new is one of them
abbrev pub SinceOnly : Given → List Item → Progress → Progress → Type 0
SinceOnly g h before after =
    (since : Since g h before after) × AddsRecordsOnly before.machine.pipeline.processor
    after.machine.pipeline.processor since.done

pub none_done : (g : Given) (h : List Item) (at : Progress) → StandsFor g h None at.machine → Follows g h at.plan
    → SinceOnly g h at at
none_done g h at stands follows = (
  record {
    done = [];
    turn = refl;
    stands = stands;
    follows = follows;
    lines = sym (append-nil (map shown_of at.lines));
  },
  no_records at.machine.pipeline.processor,
)

module _ (g : Given) (h : List Item) (before mid : Progress) (held : SinceOnly g h before mid) (after : Progress)
    (only : AddsNextOnly mid.machine.pipeline.processor after.machine.pipeline.processor
    (comes_next g (steps_on held.0.done h))) where
  abbrev since : Since g h before mid
  since = held.0

  abbrev items : List Item
  items = steps_on since.done h

  pages : AddsRecordsOnly before.machine.pipeline.processor after.machine.pipeline.processor
      (with_next (comes_next g items) since.done)
  pages = more_pages before.machine.pipeline.processor mid.machine.pipeline.processor
      after.machine.pipeline.processor since.done
      (comes_next g items) held.1 only

  -- one more
  pub does_since : (answer : Turn) → DoesNext g items answer mid after → SinceOnly g h before after
  does_since answer d = (
    record {
      done = d.done ∷ since.done;
      turn = d.turn ∙ since.turn;
      stands = d.stands;
      follows = d.follows;
      lines = more_lines before.lines mid.lines after.lines (lines_of since.done)
          (record_lines d.done) since.lines d.lines;
    },
    subst (λ (n : Next). AddsRecordsOnly before.machine.pipeline.processor after.machine.pipeline.processor
        (with_next n since.done))
        d.is_next pages,
  )

  -- the turn moves
  pub turns_since : MovesOn g items mid after → TurnsOn g h before after
  turns_since d =
      let turn : after.machine.pipeline.turn ≡ mid.machine.pipeline.turn + 1 = d.turn in
      let begun = since.stands.flow.begun in
      record {
        done = since.done;
        turn = turn ∙ ap (λ (t : ℕ). t + 1) since.turn;
        issued = omega (arith, turn, begun);
        later = d.stands.in_time;
        stands = d.stands;
        follows = d.follows;
        lines = same_lines before.lines mid.lines after.lines (lines_of since.done) since.lines d.lines;
        pages = pages;
      }

  -- the run ends
  pub ends_since : (e : End) → EndsRun g items e mid after → EndsTurn g h e before after
  ends_since e d = record {
    done = since.done;
    finish = d.finish;
    answers = d.answers;
    turn = d.turn ∙ since.turn;
    is_end = d.is_end;
    now = d.now ∙ since.turn;
    stands = d.stands;
    follows = d.follows;
    lines = more_lines before.lines mid.lines after.lines (lines_of since.done)
        (end_lines (state_after g (records_of items)) d.finish) since.lines d.lines;
    pages = pages;
  }

  -- memory is refused
  pub stops_since : IsRefused g items mid after → StopsTurn g h before after
  stops_since d = record {
    since = record {
      done = since.done;
      turn = d.turn ∙ since.turn;
      stands = d.stands;
      follows = d.follows;
      lines = same_lines before.lines mid.lines after.lines (lines_of since.done) since.lines d.lines;
    };
    needed = d.needed;
    pages = pages;
  }

  -- where the turn has risen it moved, and else an event or an entry was done
  pub risen_since : Advances g items answers.On mid after
      → (after.machine.pipeline.turn ≡ before.machine.pipeline.turn → ⊥)
      → TurnsOn g h before after
  risen_since (inl moves) risen = turns_since moves
  risen_since (inr does) risen = absurd (risen (does.turn ∙ since.turn))

  pub still_since : Advances g items answers.On mid after → after.machine.pipeline.turn ≡ before.machine.pipeline.turn
      → SinceOnly g h before after
  still_since (inl moves) still =
      let turn : after.machine.pipeline.turn ≡ mid.machine.pipeline.turn + 1 = moves.turn in
      let was_turn : mid.machine.pipeline.turn ≡ before.machine.pipeline.turn = since.turn in
      absurd (omega (arith, turn, was_turn, still))
  still_since (inr does) still = does_since answers.On does

-- a machine is still under way
pub does_under_way : (g : Given) (h : List Item) (answer : Turn) (before after : Progress)
    → DoesNext g h answer before after → IsUnderWay after.machine after.plan
does_under_way g h answer before after d =
    record { given = g; items = Step d.done ∷ h; stands = d.stands; follows = d.follows }

pub still_under_way : (g : Given) (h : List Item) (before after : Progress) → Advances g h answers.On before after
    → IsUnderWay after.machine after.plan
still_under_way g h before after (inl moves) =
    record { given = g; items = h; stands = moves.stands; follows = moves.follows }
still_under_way g h before after (inr does) = does_under_way g h answers.On before after does
