use Rattle.std.proofs.Common.{◌≡◌, ℕ, Bool, true, false, cond, Option, Some, None, sym, ap, ◌∙◌}
use Rattle.std.specs.Prelude.{◌&&◌, not}
use Rattle.i9_isa.specs.declared.inst.Inst.{Inst}
use Rattle.i9_isa.specs.declared.size.Transfer.{Transfer}
use Rattle.i9_isa.specs.Transfers.{transfer_of, byte_count}
use Rattle.i9_model.specs.declared.faults.TheConstants.{TYPE, MISMATCH, OPERATION, UNALIGNED}
use Rattle.i9_model.specs.declared.setup.Tables.{Tables}
use Rattle.i9_model.specs.Calls.{in_supervisor_mode}
use Rattle.i9_model.specs.Faults.{is_unaligned, uses_special}
use Rattle.i9_model.specs.Operands.{address}
use Rattle.i9_model.specs.Standing.{raised_in}
use Rattle.i9_model.specs.State.{State}
use Rattle.i9_processor.specs.State.{state_of}
use Rattle.i9_plan.proofs.Outcomes.{transfer_raises}
use Rattle.i9_plan.proofs.raised.raised_by_transfer.Goals as goal

-- by whether it mismatches, and whether its access is unaligned
abbrev by : Bool → Bool → Option (ℕ × ℕ)
by m u = cond m (Some (TYPE, MISMATCH)) (cond u (Some (OPERATION, UNALIGNED)) None)

raised_by : (i : Inst) (s : State) (t : Transfer) (m u : Bool) (a n : ℕ) (tables : Tables) → transfer_of i.op ≡ Some t
    → m ≡ (not (in_supervisor_mode s.pc) && uses_special i) → a ≡ address s i.ea → n ≡ byte_count t.size → tables ≡ s.tables
    → u ≡ is_unaligned (Some (a, n)) tables.fault_config → by m u ≡ raised_in i s
raised_by i s t m u a n tables moves matched place size same unaligned =
    let access = ap (λ (x : ℕ). Some (x, n)) place ∙ ap (λ (k : ℕ). Some (address s i.ea, k)) size in
    let here = unaligned ∙ ap (λ (o : Option (ℕ × ℕ)). is_unaligned o tables.fault_config) access
    ∙ ap (λ (x : Tables). is_unaligned (Some (address s i.ea, byte_count t.size)) x.fault_config) same in
    ap (λ (b : Bool). by b u) matched ∙ ap (by (not (in_supervisor_mode s.pc) && uses_special i)) here ∙ transfer_raises i s t moves

pub returns-then-mismatches : goal.returns-then-mismatches
returns-then-mismatches c =
    let i = c.args.i.now in
    let m = c.args.m in
    let s = state_of c.args.p.now in
    let mismatched = sym c.if-mismatches.true ∙ c.mismatches.ensures in
    ap (λ (b : Bool). by b (is_unaligned (Some (address s i.ea, byte_count m.transfer.size)) s.tables.fault_config)) mismatched
    ∙ transfer_raises i s m.transfer c.requires.moves.same

pub returns-then-is_unaligned : goal.returns-then-is_unaligned
returns-then-is_unaligned c =
    raised_by c.args.i.now (state_of c.args.p.now) c.args.m.transfer false true _ _ _ c.requires.moves.same (sym c.if-mismatches.false ∙ c.mismatches.ensures)
    c.requires.moves.place c.bytes.ensures c.tables.ensures (sym c.if-is_unaligned.true ∙ c.is_unaligned.ensures)

pub returns : goal.returns
returns c =
    raised_by c.args.i.now (state_of c.args.p.now) c.args.m.transfer false false _ _ _ c.requires.moves.same (sym c.if-mismatches.false ∙ c.mismatches.ensures)
    c.requires.moves.place c.bytes.ensures c.tables.ensures (sym c.if-is_unaligned.false ∙ c.is_unaligned.ensures)
