-- Laws of needs: what they cost, and what writes no memory.
use Rattle.std.proofs.Common.{◌≡◌, ℕ, ◌≤◌, Bool, true, false, cond, ◌&&◌, ◌||◌, [], refl, ◌∙◌, inl, inr, arith}
use Rattle.std.specs.Prelude.{not}
use Rattle.std.proofs.lemmas.Bool.{cases_Bool, cond-true, cond-false}
use Rattle.i9_isa.specs.declared.op.Op.{Op}
use Rattle.i9_isa.specs.declared.inst.Inst.{Inst}
use Rattle.i9_model.specs.declared.need.Facts.{Facts}
use Rattle.i9_model.specs.State.{State}
use Rattle.i9_model.specs.Step.{Stays, action_of}
use Rattle.i9_model.specs.Turns.{HasCost}
use Rattle.i9_model.specs.Needs.{is_request_name, is_slow_name, is_barrier_name, writes_sfr, is_calm, cost_by, inst_need, refused_need, event_need, entry_need}

-- ---- costs

some_cost : (op : Op) (waits frames : ℕ) → 1 ≤ cost_by op waits frames
some_cost op waits frames = grind arith

plain_cost : (op : Op) (waits frames : ℕ) → is_request_name op ≡ false → is_slow_name op ≡ false → is_barrier_name op ≡ false → cost_by op waits frames ≡ 1
plain_cost op waits frames q s b = grind arith

calm_some : (b : Bool) (n : ℕ) → 1 ≤ n → 1 ≤ cond b n 1
calm_some b n h = grind arith

-- of a plain one by its parts
plain_parts : (calm request slow barrier : Bool) → not (request && calm || slow || barrier) ≡ true → calm ≡ true → (request ≡ false) × (slow ≡ false) × (barrier ≡ false)
plain_parts calm request slow barrier h c = (grind arith, grind arith, grind arith)

pub first_false : (a b c d e f : Bool) → (a || b || c || d || e || f) ≡ false → a ≡ false
first_false a b c d e f h = grind arith

pub inst_cost : (i : Inst) (f : Facts) → HasCost (inst_need i f)
inst_cost i f = record {
  some = calm_some (is_calm f) (cost_by i.op f.waits f.frames) (some_cost i.op f.waits f.frames);
  plain = λ h. elim (cases_Bool (is_calm f)) [
    | inl calm ↦
        let p = plain_parts (is_calm f) (is_request_name i.op) (is_slow_name i.op) (inst_need i f).barrier h calm in
        let name = first_false (is_barrier_name i.op) (writes_sfr i) f.port f.fault f.trace f.hazard p.2 in
        cond-true (is_calm f) (cost_by i.op f.waits f.frames) 1 calm ∙ plain_cost i.op f.waits f.frames p.0 p.1 name
    | inr hasty ↦ cond-false (is_calm f) (cost_by i.op f.waits f.frames) 1 hasty
  ];
}

pub refused_cost : (ip : ℕ) → HasCost (refused_need ip)
refused_cost ip = record { some = omega arith; plain = λ h. refl }

pub event_cost : (moves : Bool) (turn : ℕ) → HasCost (event_need moves turn)
event_cost moves turn = grind arith

pub entry_cost : (frames : ℕ) → HasCost (entry_need frames)
entry_cost frames = record { some = omega arith; plain = λ h. absurd (cc h) }

-- ---- what is neither a request nor a barrier

pub quiet : (i : Inst) (s : State) → is_request_name i.op ≡ false → is_barrier_name i.op ≡ false → ((action_of i s).writes ≡ []) × ((action_of i s).move ≡ Stays)
unfolding action_of
quiet i s q b = grind arith
