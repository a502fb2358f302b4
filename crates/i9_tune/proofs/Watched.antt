-- An allowed instruction has a trace event exactly where one comes whatever its address is, or an instruction breakpoint
-- is at its address.
use Rattle.std.proofs.Common.{◌≡◌, ℕ, Bool, false, cond, ◌||◌, ◌&&◌, Option, Some, None, refl, sym, ap, ◌∙◌, arith}
use Rattle.std.specs.List.{list_any}
use Rattle.std.proofs.lemmas.Bool.{cond-true, or_parts, or_from}
use Rattle.i9_isa.specs.declared.op.Op.{Op}
use Rattle.i9_isa.specs.declared.op.Op.TheVariants.{Addi}
use Rattle.i9_isa.specs.declared.inst.Inst.{Inst}
use Rattle.i9_model.specs.declared.trace.Seen.{Seen}
use Rattle.i9_model.specs.declared.trace.Trace.{Trace}
use Rattle.i9_model.specs.State.{State, TraceControls}
use Rattle.i9_model.specs.Step.{Action, action_of}
use Rattle.i9_model.specs.Tracing.{Ipb0, Ipb1, Dab0, Dab1, matches, Instruction, Mark, trace_events, has_mode, branches, is_call, is_return, is_mark, is_fmark, counts, has_match, is_raised, trace_made, trace_of}
use Rattle.i9_model.specs.Traced.{is_traced, switches, seen_of, trace_left, traced_action}
use Rattle.i9_turns.proofs.Outside.{all_false}
use Rattle.i9_past.proofs.Untraced.{action_untraced}
use Rattle.i9_tune.specs.Blocks.{is_allowed_name}
use Rattle.i9_tune.specs.Passes.{is_seen, is_broken}
use Rattle.i9_tune.proofs.Sources.{IsAllowed}
use Rattle.i9_tune.proofs.Swaps.{own_step}

-- with an allowed name no event comes but that of each instruction
no_event : (op : Op) (t : Bool) (s : State) (a : Action) → (branches op t || is_call op || is_return op || switches op s a || is_mark op || is_fmark op)
    ≡ cond (is_allowed_name op) false (branches op t || is_call op || is_return op || switches op s a || is_mark op || is_fmark op)
no_event Addi t s a = refl
no_event _ t s a = refl

left_over : (mode matched mark : Bool) → ((mode || false) || ((matched && (mark || matched)) || false)) ≡ (mode || matched)
left_over mode matched mark = grind arith

raised_is : (tc : ℕ) (op : Op) (s : Seen) (matched : Bool) → (branches op s.taken || is_call op || is_return op || s.switched || is_mark op || is_fmark op) ≡ false
    → list_any (counts tc op s matched) trace_events ≡ (has_mode tc Instruction || matched)
raised_is tc op s matched none =
    let last = or_parts _ (is_fmark op) none in
    let others = all_false (branches op s.taken) (is_call op) (is_return op) s.switched (is_mark op) last.0 in
    rw (others.0, others.1, others.2, others.3, others.4, last.1) (left_over (has_mode tc Instruction) matched (has_mode tc Mark))

by_address : (t m a b x y : Bool) → (t && (m || (a || (b || (x || (y || false)))))) ≡ ((t && (m || (x || y))) || (t && (a || b)))
by_address t m a b x y = grind arith

-- ---- the event of an instruction

tested : (i : Inst) (s : State) → IsAllowed i → (is_traced s && is_raised s.trace.tc i (seen_of i s (action_of i s)) s.trace.breaks) ≡ (is_seen i s || is_broken s s.ip)
unfolding has_match
tested i s ok =
    let seen = seen_of i s (action_of i s) in
    let at = matches seen s.trace.breaks in
    ap (λ (b : Bool). is_traced s && b) (raised_is s.trace.tc i.op seen (has_match seen s.trace.breaks) (no_event i.op seen.taken s (action_of i s) ∙ cond-true _ _ _ ok.name))
    ∙ by_address (is_traced s) (has_mode s.trace.tc Instruction) (at Ipb0) (at Ipb1) (at Dab0) (at Dab1)

event_is : (i : Inst) (s : State) → IsAllowed i
    → (traced_action i s).trace ≡ cond (is_seen i s || is_broken s s.ip) (Some (trace_made s.trace.tc i (seen_of i s (action_of i s)) s.trace.breaks)) None
unfolding trace_of
event_is i s ok =
    let seen = seen_of i s (action_of i s) in
    ap (λ (t : TraceControls). trace_left i s (action_of i s) t) (ap (λ (t : State). t.trace) (own_step i s ok))
    ∙ ap (λ (b : Bool). cond b (Some (trace_made s.trace.tc i seen s.trace.breaks)) None) (tested i s ok)

none_from : (b : Bool) (t : Trace) → cond b (Some t) None ≡ None → b ≡ false
none_from b t h = grind arith

pub unseen_from : (i : Inst) (s : State) → IsAllowed i → (traced_action i s).trace ≡ None → is_seen i s ≡ false
unseen_from i s ok none = (or_parts _ _ (none_from (is_seen i s || is_broken s s.ip) _ (sym (event_is i s ok) ∙ none))).0

pub untraced_by : (i : Inst) (s : State) → IsAllowed i → is_seen i s ≡ false → is_broken s s.ip ≡ false → (traced_action i s).trace ≡ None
untraced_by i s ok seen broken =
    event_is i s ok ∙ ap (λ (b : Bool). cond b (Some (trace_made s.trace.tc i (seen_of i s (action_of i s)) s.trace.breaks)) None) (or_from _ _ seen broken)

-- without one it does what its action says
pub as_action : (i : Inst) (s : State) → (traced_action i s).trace ≡ None → traced_action i s ≡ action_of i s
as_action i s none = ap (λ (t : Option Trace). record (action_of i s) { trace = t }) (none ∙ sym (action_untraced i s))
