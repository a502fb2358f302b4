-- What a pipeline in a run shows raw.
use Rattle.std.proofs.Common.{◌≡◌, ℕ, zero, suc, ◌%◌, ◌<◌, Bool, false, List, Option, None, refl, sym, ap, ◌∙◌, arith}
use Rattle.std.specs.Prelude.{◌==◌}
use Rattle.std.proofs.lemmas.Bool.{cond-false}
use Rattle.std.proofs.lemmas.Bool.Decides.{nat_tests}
use Rattle.i9_isa.specs.declared.resources.TheConstants.{CONDITION_CODE}
use Rattle.i9_model.specs.declared.need.Cell.{Cell}
use Rattle.i9_model.specs.Late.{Late, landed, resource, raw_value, planned, cell_at, latest_value, is_busy, is_plan_open}
use Rattle.i9_model.specs.Needs.{set_below}
use Rattle.i9_model.specs.PrintedText.{register_list}
use Rattle.i9_model.specs.Run.{Given, state_after}
use Rattle.i9_model.specs.State.{State, boot}
use Rattle.i9_model.proofs.Readings.{map_below}
use Rattle.i9_turns.proofs.LateRegisters.{cell-busy}
use Rattle.i9_regs.proofs.Shown.{landed_busy}
use Rattle.i9_course.specs.Course.{Item, records_of, course, IsCourse}
use Rattle.i9_course.proofs.Orderly.{registers_settle}
use Rattle.i9_pipeline.specs.Flow.{Flow, IsQuiet}
use Rattle.i9_pipeline.specs.InRun.{IsFlowOf}
use Rattle.i9_pipeline.specs.Raw.{raw_memory, standing}
use Rattle.i9_pipeline.proofs.Landed.{course_shows}

same_list : (f k : ℕ → ℕ) → ((r : ℕ) → r < 32 → f r ≡ k r) → register_list f ≡ register_list k
unfolding register_list
same_list f k same = map_below f k 32 same

same_set : (n : ℕ) (p q : ℕ → Bool) → ((r : ℕ) → r < n → p r ≡ q r) → set_below n p ≡ set_below n q
unfolding set_below
same_set zero p q same = refl
same_set (suc n) p q same = rw (same n (omega arith), same_set n p q (λ r lt. same r (omega (arith, lt))))

none_in : (n : ℕ) (p : ℕ → Bool) → ((r : ℕ) → r < n → p r ≡ false) → set_below n p ≡ 0
unfolding set_below
none_in zero p none = refl
none_in (suc n) p none = rw (none n (omega arith), none_in n p (λ r lt. none r (omega (arith, lt))))

-- a register is not the condition code
is_register : (s : State) (r : ℕ) → r < 32 → resource s r ≡ s.regs r
is_register s r lt = cond-false (r == CONDITION_CODE) (s.ac % 8) (s.regs r) (grind (arith, nat_tests, lt))

module _ (g : Given) (h : List Item) (f : Flow) (is : IsFlowOf g h f) where
  abbrev late : List Late
  late = (course g h).late

  abbrev raw : ℕ → ℕ
  raw = raw_value (boot g.image) f.turn late

  shown : (r : ℕ) → r < 32 → landed f.turn (f.cells r) ≡ cell_at (boot g.image) f.turn late r
  shown r lt = is.shows.registers r (omega (arith, lt))

  pub registers_shown : register_list (λ r. (landed f.turn (f.cells r)).value) ≡ register_list raw
  registers_shown = same_list (λ r. (landed f.turn (f.cells r)).value) raw (λ r lt. ap (λ (c : Cell). c.value) (shown r lt))

  pub busy_shown : set_below 32 (λ r. is_plan_open f.turn (f.cells r).plan) ≡ set_below 32 (is_busy f.turn late)
  busy_shown = same_set 32 (λ r. is_plan_open f.turn (f.cells r).plan) (is_busy f.turn late) (λ r lt.
      sym (landed_busy f.turn (f.cells r)) ∙ ap (λ (c : Cell). is_plan_open f.turn c.plan) (shown r lt)
      ∙ cell-busy f.turn r late)

  pub byte_shown : (a : ℕ) → standing f.shade f.turn f.bytes a
      ≡ raw_memory (boot g.image).memory.bytes f.turn late a
  byte_shown a =
      ap (λ (m : ℕ → ℕ). standing f.shade f.turn m a) is.shows.memory
      ∙ course_shows g h f.turn f.shade a is.begun is.shaded

  -- ---- where nothing is planned

  none_planned : IsQuiet f → (r : ℕ) → r < 32 → planned f.turn late r ≡ None
  none_planned quiet r lt =
      ap (λ (c : Cell). c.plan) (sym (shown r lt)) ∙ quiet.planned r (omega (arith, lt))

  pub registers_level : IsCourse g h → IsQuiet f → register_list raw ≡ register_list (state_after g (records_of h)).regs
  registers_level past quiet = same_list raw (state_after g (records_of h)).regs (λ r lt.
      sym (ap (λ (p : Option (ℕ × ℕ)). latest_value p (raw r)) (none_planned quiet r lt))
      ∙ registers_settle g h f.turn r past is.begun (omega (arith, lt))
      ∙ is_register (state_after g (records_of h)) r lt)

  pub none_busy : IsQuiet f → set_below 32 (is_busy f.turn late) ≡ 0
  none_busy quiet = none_in 32 (is_busy f.turn late) (λ r lt.
      sym (cell-busy f.turn r late) ∙ ap (is_plan_open f.turn) (none_planned quiet r lt))
