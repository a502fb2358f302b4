-- A property of interrupts and DMA holds along every run where what may change them keeps it.
use Rattle.std.proofs.Common.{◌≡◌, ℕ, Bool, true, false, cond, eqb, List, [], ◌∷◌, Option, Some, None, sym, subst, rules}
use Rattle.std.specs.Prelude.{◌==◌}
use Rattle.i9_isa.specs.declared.op.Op.{Op}
use Rattle.i9_isa.specs.declared.op.Op.TheVariants.{Sdma}
use Rattle.i9_isa.specs.declared.size.Size.{Size}
use Rattle.i9_isa.specs.declared.size.Direction.{Direction}
use Rattle.i9_isa.specs.declared.size.Direction.TheVariants.{Load, Store}
use Rattle.i9_isa.specs.declared.size.Transfer.{Transfer}
use Rattle.i9_isa.specs.declared.inst.Operand.{Operand}
use Rattle.i9_isa.specs.declared.inst.Operand.TheVariants.{Reg, Lit, Sfr}
use Rattle.i9_isa.specs.declared.inst.Inst.{Inst}
use Rattle.i9_isa.specs.Transfers.{transfer_of}
use Rattle.i9_model.specs.declared.event.Event.{Event}
use Rattle.i9_model.specs.declared.interrupts.Cause.{Cause}
use Rattle.i9_model.specs.declared.run.Due.{Due}
use Rattle.i9_model.specs.declared.setup.Setup.{Setup}
use Rattle.i9_model.specs.State as states
use Rattle.i9_model.specs.State.{State, Interrupts, Channel, start_interrupts, no_dma, image_memory, started, boot}
use Rattle.i9_model.specs.Boot.{setup_of, boot_setup}
use Rattle.i9_model.specs.Stale.{legible}
use Rattle.i9_model.specs.Operands.{with_pending, with_mask, with_command, with_dma_special, interrupts_assigned, dma_assigned, value, address}
use Rattle.i9_model.specs.Interrupts.{cleared}
use Rattle.i9_model.specs.Dma.{set_up}
use Rattle.i9_model.specs.Tables.{group_words}
use Rattle.i9_model.specs.Controls.{Control, KeepsControls, Restarts, LoadsGroup, controlled}
use Rattle.i9_model.specs.Step.{Action, loaded, values_of, destination, answer_in, branching, resulting, moving, channel_in, Message, AsksNothing, message_action, action_by_name, action_by, action_of, moved, acted}
use Rattle.i9_model.specs.Before.{Received}
use Rattle.i9_model.specs.Run.{Given, Record, Kind, Instruction, Faulted, Entered, Interrupted, Reached, action_by_kind, due_after, event_after, state_after, IsPast}
use Rattle.i9_model.proofs.ControlLaws.{by_group, flagged-others}
use Rattle.i9_past.proofs.Comes.{MayCome, next_comes}
use Rattle.i9_laws.proofs.EventCases.{IsByEvent, received_as}

-- what may change them keeps the property: a write of a special function register, sdma, the entry of an interrupt, the
-- load of interrupt maps, start-up with the levels that are there or at boot, and an event of a kind that may stand
pub record AreKeeping (P : Interrupts → states.Dma → Type 0) (Fits : Event → Type 0) : Type 0 where
  pub pending : (v : ℕ) (i : Interrupts) (d : states.Dma) → P i d → P (with_pending i v) d
  pub mask : (v : ℕ) (i : Interrupts) (d : states.Dma) → P i d → P (with_mask i v) d
  pub command : (v : ℕ) (i : Interrupts) (d : states.Dma) → P i d → P i (with_command d v)
  pub sets : (c : ℕ) (channel : Channel) (i : Interrupts) (d : states.Dma) → P i d → P i (set_up d c channel)
  pub clears : (c : Cause) (i : Interrupts) (d : states.Dma) → P i d → P (cleared c i) d
  pub maps : (maps : List ℕ) (icon : ℕ) (i : Interrupts) (d : states.Dma) → P i d
      → P (record i { maps = maps; icon = icon }) d
  pub starts : (u : Setup) (i : Interrupts) (d : states.Dma) → P i d → P (start_interrupts u i.low) no_dma
  pub boots : (u : Setup) → P (start_interrupts u 0) no_dma
  pub events : (s : State) (e : Event) → Fits e → P s.interrupts s.dma → IsByEvent (λ u. P u.interrupts u.dma) s e

module _ (P : Interrupts → states.Dma → Type 0) (Fits : Event → Type 0) (keeping : AreKeeping P Fits) where
  abbrev Has : State → Type 0
  Has s = P s.interrupts s.dma

  abbrev Leaves : Action → Type 0
  Leaves a = P a.interrupts a.dma

  -- ---- an instruction

  special_has : (a b : Bool) (v : ℕ) (i : Interrupts) (d : states.Dma) → P i d
      → P (cond a (with_pending i v) (cond b (with_mask i v) i)) d
  special_has true b v i d h = keeping.pending v i d h
  special_has false true v i d h = keeping.mask v i d h
  special_has false false v i d h = h

  command_has : (b : Bool) (v : ℕ) (i : Interrupts) (d : states.Dma) → P i d → P i (cond b (with_command d v) d)
  command_has true v i d h = keeping.command v i d h
  command_has false v i d h = h

  -- a destination gets values
  assigning_has : (o : Operand) (vs : List ℕ) (s : State) → Has s
      → P (interrupts_assigned o vs s.interrupts) (dma_assigned o vs s.dma)
  assigning_has (Reg r) vs s h = h
  assigning_has (Lit n) vs s h = h
  assigning_has (Sfr k) [] s h = h
  assigning_has (Sfr k) (v ∷ vs) s h =
      special_has (k == 0) (k == 1) v s.interrupts (with_dma_special k v s.dma)
      (command_has (k == 2) v s.interrupts s.dma h)

  message_has : (m : Message) (i : Inst) (s : State) → Has s → Leaves (message_action m i s)
  message_has AsksNothing i s h = h
  message_has m i s h = h

  other_has : (b : Bool) (i : Inst) (s : State) → Has s
      → Leaves (cond b (branching i s) (resulting i s (answer_in i s)))
  other_has true i s h = h
  other_has false i s h = assigning_has (destination i) (values_of (answer_in i s)) s h

  ruleset leaving_rules = (assigning_has, message_has, other_has)

  name_has : (op : Op) (i : Inst) (s : State) → Has s → Leaves (action_by_name op i s)
  name_has Sdma i s h = keeping.sets (value s i.a) (channel_in i s) s.interrupts s.dma h
  name_has op i s h = search (rules, leaving_rules)

  moving_has : (d : Direction) (size : Size) (signed : Bool) (i : Inst) (s : State) → Has s
      → Leaves (moving d size signed i s)
  moving_has Load size signed i s h = assigning_has i.c (loaded size signed (legible s) (address s i.ea)) s h
  moving_has Store size signed i s h = h

  instruction_has : (i : Inst) (s : State) → Has s → Leaves (action_of i s)
  unfolding action_of
  instruction_has i s h = by_transfer (transfer_of i.op)
    where
      by_transfer : (o : Option Transfer) → Leaves (action_by o i s)
      by_transfer (Some t) = moving_has t.direction t.size t.signed i s h
      by_transfer None = name_has i.op i s h

  -- ---- what comes next, and the state after it

  kind_has : (limit : ℕ) (due : Due) (stands : Option Event) (k : Kind) (s : State)
      → ((e : Event) → stands ≡ Some e → Fits e)
      → MayCome limit due stands s k → Has s → Leaves (action_by_kind k s)
  kind_has limit due stands (Instruction i) s fits may h = instruction_has i s h
  kind_has limit due stands (Faulted inst fault) s fits may h = h
  kind_has limit due stands (Entered e) s fits may h = h
  kind_has limit due stands (Interrupted c e) s fits may h = keeping.clears c.cause s.interrupts s.dma h
  kind_has limit due stands (Reached e u) s fits may h =
      received_as (λ (v : Received). P v.interrupts v.dma) s e u (keeping.events s e (fits e may.2) h) may.3

  group_has : (a b c : Bool) (s : State) (group : ℕ) (ws : List ℕ) → Has s → Has (by_group a b c s group ws)
  group_has true b c s group ws h = h
  group_has false true c s group ws h = keeping.maps _ _ s.interrupts s.dma h
  group_has false false true s group ws h = h
  group_has false false false s group ws h = h

  controlled_has : (s : State) (c : Control) → Has s → Has (controlled s c)
  unfolding started
  controlled_has s KeepsControls h = h
  controlled_has s (Restarts first prcb) h = keeping.starts (setup_of s.memory first prcb) s.interrupts s.dma h
  controlled_has s (LoadsGroup group) h =
      group_has (eqb group 0) (eqb group 1) (eqb group 6) s group (group_words s.memory s.tables.control_table group) h

  acted_has : (s : State) (a : Action) → Leaves a → Has (acted s a)
  unfolding acted moved
  acted_has s a h =
      let after = controlled_has (moved s a) a.control h in
      subst Has (sym (flagged-others a.trace (controlled (moved s a) a.control))) after

  -- ---- a run

  boot_has : (image : List (ℕ × ℕ)) → Has (boot image)
  unfolding boot started
  boot_has image = keeping.boots (boot_setup (image_memory image))

  pub interrupts_after : (g : Given) (rs : List Record)
      → ((qs : List Record) (e : Event) → event_after g qs ≡ Some e → Fits e)
      → IsPast g rs → Has (state_after g rs)
  interrupts_after g [] fits past = boot_has g.image
  interrupts_after g (r ∷ rs) fits past =
      let s = state_after g rs in
      let comes = next_comes g.length (due_after rs) (event_after g rs) s r past.1 in
      let leaves = kind_has g.length (due_after rs) (event_after g rs) r.kind s (fits rs) comes.1
      (interrupts_after g rs fits past.0) in
      subst (λ (q : Record). Has q.after) (sym comes.0) (acted_has s (action_by_kind r.kind s) leaves)
