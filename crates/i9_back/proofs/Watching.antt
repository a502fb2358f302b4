-- A machine that goes on to a later state, and the last change of a byte on the way.
use Rattle.std.proofs.Common.{◌≡◌, ℕ, ◌+◌, ◌<◌, ◌≤◌, Bool, false, cond, List, [], ◌∷◌, ◌++◌, Option, Some, None, Result, IfOk, refl, sym, ap, ◌∙◌, arith}
use Rattle.std.specs.Prelude.{not}
use Rattle.std.proofs.lemmas.List.{append-nil}
use Rattle.i9_model.specs.Overlay.{overlay}
use Rattle.i9_model.specs.State.{State}
use Rattle.i9_model.specs.Run.{Given, Kind, Record, counts_of, state_after}
use Rattle.i9_schedule.specs.Plan.{Plan}
use Rattle.i9_course.specs.Course.{records_of}
use Rattle.i9_course.specs.PipelinedRun.{steps}
use Rattle.i9_course.proofs.PipelinedRuns.{records_of-steps}
use Rattle.i9_machine.specs.declared.line.Line.{Line}
use Rattle.i9_machine.specs.declared.line.Issued.{Issued}
use Rattle.i9_machine.specs.declared.line.Turn.TheVariants as answers
use Rattle.i9_machine.specs.declared.machine.Machine.{Machine}
use Rattle.i9_machine.specs.StandsFor.{StandsFor, Comes}
use Rattle.i9_machine.specs.Step.{TellsRecord}
use Rattle.i9_machine.specs.Progress.{progress}
use Rattle.i9_machine.proofs.Told.{issued_counts, on_counts}
use Rattle.i9_back.specs.Stands.{StandsEarlier, same_byte, changes, last_change, Watched, IsLastChange}
use Rattle.i9_back.proofs.Earlier.{record_after}
use Rattle.i9_back.proofs.Going.{GoingAt, going_begins, earlier_there, on_goes, issued_goes}

-- ---- what a record changes

-- what is no instruction changes nothing
unchanged : (a : ℕ) (r : Record) → counts_of r.kind ≡ 0 → changes a r ≡ false
unchanged a r none = rw none refl

-- an instruction does as the bytes before and after it tell
changed_by : (a : ℕ) (r : Record) (x y : Option ℕ) → counts_of r.kind ≡ 1 → x ≡ overlay r.before a → y ≡ overlay r.after a
    → changes a r ≡ not (same_byte x y)
changed_by a r x y one before after = rw (before, after, one) refl

-- what is told of an instruction is its address
issued_address : (kind : Kind) (s : State) (t : Issued) → TellsRecord kind s (answers.Issued t) → t.address ≡ s.ip
issued_address kind s t h = grind arith

not_cond : {A : Type 0} (b : Bool) (x y : A) → cond b x y ≡ cond (not b) y x
not_cond b x y = grind arith

-- what a machine answers of a byte, whatever it stands for
abbrev pub ShowsByte : Given → Machine → ℕ → Option ℕ → Type 0
ShowsByte g m a x = (rs : List Record) → StandsFor g (steps rs) None m → x ≡ overlay (state_after g rs) a

-- ---- on the way

-- Newer records were done behind older ones, this is the last change among them, and this is the byte now.
pub record Watching (g : Given) (older : List Record) (done to a : ℕ) (found : Option (ℕ × ℕ)) (byte : Option ℕ) (m : Machine) (plan : Plan) : Type 0 where
  pub newer : List Record
  pub going : GoingAt g (newer ++ older) done to m plan
  pub is : found ≡ last_change a newer
  pub now : byte ≡ overlay (state_after g (newer ++ older)) a

module _ (g : Given) (a : ℕ) where
  pub watching_begins : (from to : ℕ) (m : Machine) (plan : Plan) (byte : Option ℕ) → from ≤ to → (s : StandsEarlier g from m plan)
      → ShowsByte g m a byte → Watching g s.records from to a None byte m plan
  watching_begins from to m plan byte le s shows = record {
    newer = [];
    going = going_begins g from to m plan le s;
    is = refl;
    now = shows s.records s.stands;
  }

  pub watching_there : (older : List Record) (done to : ℕ) (found : Option (ℕ × ℕ)) (byte : Option ℕ) (m : Machine) (plan : Plan) → to ≤ done
      → Watching g older done to a found byte m plan → Watched g older to a found m plan
  watching_there older done to found byte m plan le w = grind (arith, earlier_there)

  module _ (older : List Record) (done to : ℕ) (found : Option (ℕ × ℕ)) (byte : Option ℕ) (was : Machine) (old_plan : Plan)
      (w : Watching g older done to a found byte was old_plan) (before m : Machine) (plan : Plan) (old new : List Line) (below : done < to)
      (later : Option ℕ) (shows : ShowsByte g m a later) where
    pub on_watched : Comes g (steps (w.newer ++ older)) answers.On (progress before old_plan old) (progress m plan new) → Watching g older done to a found later m plan
    on_watched d =
        let none = on_counts d.done.kind d.done.before d.tells in
        let at = on_goes g (w.newer ++ older) done to was old_plan w.going before m plan old new below d in
        record {
          newer = d.done ∷ w.newer;
          going = at;
          is = rw (unchanged a d.done none) w.is;
          now = shows (d.done ∷ w.newer ++ older) at.stands;
        }

    pub issued_watched : (t : Issued) → Comes g (steps (w.newer ++ older)) (answers.Issued t) (progress before old_plan old) (progress m plan new)
        → (change : Option (ℕ × ℕ)) → change ≡ cond (same_byte byte later) found (Some (done + 1, t.address))
        → Watching g older (done + 1) to a change later m plan
    issued_watched t d change told =
        let one = issued_counts d.done.kind d.done.before t d.tells in
        let at = issued_goes g (w.newer ++ older) done to was old_plan w.going before m plan old new below t d in
        let now = shows (d.done ∷ w.newer ++ older) at.stands in
        let before_is = (record_after g (w.newer ++ older) d.done d.stands.past).0 in
        let tests = changed_by a d.done byte later one (w.now ∙ ap (λ (s : State). overlay s a) (sym before_is)) now in
        let count : d.done.after.count ≡ done + 1 = at.count in
        let address = issued_address d.done.kind d.done.before t d.tells in
        record {
          newer = d.done ∷ w.newer;
          going = at;
          is = rw (tests, count, sym address, sym w.is) (told ∙ not_cond (same_byte byte later) found (Some (done + 1, t.address)));
          now = now;
        }

-- ---- from the start of a run

-- nothing stands before the newer records
pub answered_whole : {E : Type 0} (r : Result (Option (ℕ × ℕ)) E) (g : Given) (to a : ℕ) (m : Machine) (plan : Plan)
    → IfOk r (λ o. Watched g [] to a o m plan) → IfOk r (λ o. IsLastChange g to a o plan)
answered_whole r g to a m plan w = grind (arith, append-nil)

-- the bytes of records are those of their items
pub shown_steps : (g : Given) (m : Machine) (a : ℕ) (x : Option ℕ)
    → ((rs : List Record) → StandsFor g (steps rs) None m → x ≡ overlay (state_after g (records_of (steps rs))) a) → ShowsByte g m a x
shown_steps g m a x shows rs s = shows rs s ∙ ap (λ (qs : List Record). overlay (state_after g qs) a) (records_of-steps rs)
