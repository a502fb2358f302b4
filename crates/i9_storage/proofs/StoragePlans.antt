-- What is planned by reads that meet no hazard is planned by the memory behind the held frames, as it is lent.
use Rattle.std.proofs.Common.{◌≡◌, ℕ, ◌*◌, false, cond, List, Option, None, Some, Result, Ok, sym, ap, ◌∙◌, arith}
use Rattle.std.specs.Prelude.{not, IfOk}
use Rattle.std.proofs.lemmas.Bool.{or_right}
use Rattle.i9_model.specs.declared.faults.Fault.{Fault}
use Rattle.i9_model.specs.declared.faults.Entry.{Entry}
use Rattle.i9_model.specs.declared.push.Push.{Push}
use Rattle.i9_model.specs.declared.interrupts.Chosen.{Chosen}
use Rattle.i9_model.specs.Memory as model
use Rattle.i9_model.specs.Memory.{half_in, word_in, words_in, with_writes}
use Rattle.i9_model.specs.State.{Frames, Interrupts, Dma}
use Rattle.i9_model.specs.Dma.{is_idle, unit_hazard, unit_bytes}
use Rattle.i9_model.specs.Hazards.{unless, read_hazard}
use Rattle.i9_model.specs.Requests.{request_hazard, request_writes}
use Rattle.i9_model.specs.Interrupts.{chosen_soft, clearing_writes, record_writes, cleared_hazard, interrupt_hazard, planned_interrupt, planned_interrupt_by}
use Rattle.i9_calls.specs.Callers.{caller_of}
use Rattle.i9_model.specs.Calls.{planned_calls, planned_ret}
use Rattle.i9_model.specs.Faults.{planned_fault}
use Rattle.i9_calls.specs.Switches.{system_switch}
use Rattle.i9_faults.specs.Switches.{fault_switch}
use Rattle.i9_model.specs.Alike.{is_beyond, is_hard, AgreeWhere, with_other}
use Rattle.i9_model.specs.HeldFrames.{Cache, overlaid}
use Rattle.i9_model.proofs.CallLaws.{first_none}
use Rattle.i9_agree.proofs.Overlays.{over_mcon}
use Rattle.i9_agree.proofs.HeldFrames.{hard_behind}
use Rattle.i9_model.proofs.Readings.{half_same, word_same, read_same, words_same}
use Rattle.i9_agree.proofs.AlikeFetches.{unless_same, bind_same, handler_same, planned_calls_same, planned_ret_same, planned_fault_same}
use Rattle.i9_agree.proofs.AlikeActions.{system_hazard_by_same, request_same}
use Rattle.i9_agree.proofs.Units.{bytes_same}
use Rattle.i9_agree.proofs.AlikeInterrupts.{chosen_soft_same, planned_same, cleared_same}
use Rattle.i9_queue.specs.declared.behind.Behind.{Behind}
use Rattle.i9_queue.specs.Behind.{settled}
use Rattle.i9_watch.specs.declared.watch.Watch.{Watch}
use Rattle.i9_watch.specs.Watch.{frames_of}
use Rattle.i9_frames.specs.Sets.{Held}
use Rattle.i9_dma.specs.Units.{planned_bytes}
use Rattle.i9_storage.specs.Kept.{cache_in, IsKept}
use Rattle.i9_storage.proofs.HeldBytes.{laid_other}

-- a byte that is not soft is in no held frame
pub hard_byte : (m : Behind) (w : Watch) (h : Held) (a : ℕ) → IsKept m w h → (frames_of w).soft a ≡ false → (settled m).bytes a ≡ (overlaid (cache_in m h)).bytes a
hard_byte m w h a kept hard =
    let c = cache_in m h in
    let f = frames_of w in
    sym (hard_behind c f kept.sound kept.youngest a (or_right (is_beyond a) (not (f.soft a)) (ap not hard)))

pub hard_half : (m : Behind) (w : Watch) (h : Held) (a : ℕ) → IsKept m w h → read_hazard (frames_of w) a 2 ≡ None → half_in (settled m) a ≡ half_in (overlaid (cache_in m h)) a
hard_half m w h a kept none =
    let c = cache_in m h in
    sym (half_same (frames_of w) (settled m) (overlaid c).bytes a (hard_behind c (frames_of w) kept.sound kept.youngest) none)
    ∙ ap (λ (x : model.Memory). half_in x a) (laid_other c)

pub hard_word : (m : Behind) (w : Watch) (h : Held) (a : ℕ) → IsKept m w h → read_hazard (frames_of w) a 4 ≡ None → word_in (settled m) a ≡ word_in (overlaid (cache_in m h)) a
hard_word m w h a kept none =
    let c = cache_in m h in
    sym (word_same (frames_of w) (settled m) (overlaid c).bytes a 4 (hard_behind c (frames_of w) kept.sound kept.youngest) none (omega arith))
    ∙ ap (λ (x : model.Memory). word_in x a) (laid_other c)

pub hard_words : (m : Behind) (w : Watch) (h : Held) (a n : ℕ) → IsKept m w h → read_hazard (frames_of w) a (4 * n) ≡ None → words_in (settled m) a n ≡ words_in (overlaid (cache_in m h)) a n
hard_words m w h a n kept none =
    let c = cache_in m h in
    let same = read_same (frames_of w) (settled m) (overlaid c).bytes a (4 * n) (hard_behind c (frames_of w) kept.sound kept.youngest) none in
    cc (words_same (settled m) (overlaid c).bytes a (4 * n) n same (omega arith), laid_other c)

pub ruleset hard_rules = (hard_byte, hard_half, hard_word, hard_words)

pub calls_laid : (lent : model.Memory) (m : Behind) (w : Watch) (h : Held) (table n pc fp sp : ℕ) → lent ≡ settled m → IsKept m w h
    → planned_calls (caller_of lent (frames_of w) pc fp sp) table n ≡ planned_calls (caller_of (overlaid (cache_in m h)) (frames_of w) pc fp sp) table n
calls_laid lent m w h table n pc fp sp is kept =
    let c = cache_in m h in
    let f = frames_of w in
    let of = λ (x : model.Memory). planned_calls (caller_of x f pc fp sp) table n in
    ap of is ∙ sym (planned_calls_same (caller_of (settled m) f pc fp sp) (overlaid c).bytes table n (hard_behind c f kept.sound kept.youngest)) ∙ ap of (laid_other c)

pub ret_laid : (lent : model.Memory) (m : Behind) (w : Watch) (h : Held) (pfp fp pc ac : ℕ) → lent ≡ settled m → IsKept m w h → planned_ret lent (frames_of w) pfp fp pc ac ≡ planned_ret (overlaid (cache_in m h)) (frames_of w) pfp fp pc ac
ret_laid lent m w h pfp fp pc ac is kept =
    let c = cache_in m h in
    let f = frames_of w in
    cc (
      planned_ret_same f (settled m) (overlaid c).bytes pfp fp pc ac (hard_behind c f kept.sound kept.youngest),
      laid_other c,
    )

pub fault_laid : (lent : model.Memory) (m : Behind) (w : Watch) (h : Held) (table system : ℕ) (fault : Fault) (pc ac fp sp : ℕ) → lent ≡ settled m → IsKept m w h
    → planned_fault (caller_of lent (frames_of w) pc fp sp) table system fault ac ≡ planned_fault (caller_of (overlaid (cache_in m h)) (frames_of w) pc fp sp) table system fault ac
fault_laid lent m w h table system fault pc ac fp sp is kept =
    let c = cache_in m h in
    let f = frames_of w in
    let of = λ (x : model.Memory). planned_fault (caller_of x f pc fp sp) table system fault ac in
    ap of is ∙ sym (planned_fault_same (caller_of (settled m) f pc fp sp) (overlaid c).bytes table system fault ac (hard_behind c f kept.sound kept.youngest)) ∙ ap of (laid_other c)

-- ---- whether stacks are switched

system_switch_same : (f : Frames) (m : model.Memory) (bytes : ℕ → ℕ) (table n pc : ℕ) → AgreeWhere (is_hard f) m bytes → system_switch (with_other m bytes) f table n pc ≡ system_switch m f table n pc
system_switch_same f m bytes table n pc same = grind (arith, system_hazard_by_same, unless_same, word_same, first_none)

fault_switch_same : (f : Frames) (m : model.Memory) (bytes : ℕ → ℕ) (table system : ℕ) (fault : Fault) (pc : ℕ) → AgreeWhere (is_hard f) m bytes → fault_switch (with_other m bytes) f table system fault pc ≡ fault_switch m f table system fault pc
unfolding fault_switch
fault_switch_same f m bytes table system fault pc same =
    grind (arith, bind_same, handler_same, system_hazard_by_same, unless_same, word_same, first_none)

pub system_switch_laid : (lent : model.Memory) (m : Behind) (w : Watch) (h : Held) (table n pc : ℕ) → lent ≡ settled m → IsKept m w h → system_switch lent (frames_of w) table n pc ≡ system_switch (overlaid (cache_in m h)) (frames_of w) table n pc
system_switch_laid lent m w h table n pc is kept =
    let c = cache_in m h in
    let f = frames_of w in
    cc (
      system_switch_same f (settled m) (overlaid c).bytes table n pc (hard_behind c f kept.sound kept.youngest),
      laid_other c,
    )

pub fault_switch_laid : (lent : model.Memory) (m : Behind) (w : Watch) (h : Held) (table system : ℕ) (fault : Fault) (pc : ℕ) → lent ≡ settled m → IsKept m w h
    → fault_switch lent (frames_of w) table system fault pc ≡ fault_switch (overlaid (cache_in m h)) (frames_of w) table system fault pc
fault_switch_laid lent m w h table system fault pc is kept =
    let c = cache_in m h in
    let f = frames_of w in
    ap (λ (x : model.Memory). fault_switch x f table system fault pc) is
    ∙ sym (fault_switch_same f (settled m) (overlaid c).bytes table system fault pc (hard_behind c f kept.sound kept.youngest))
    ∙ ap (λ (x : model.Memory). fault_switch x f table system fault pc) (laid_other c)

-- ---- interrupts

pub chosen_laid : (lent : model.Memory) (m : Behind) (w : Watch) (h : Held) (i : Interrupts) (table pc : ℕ) → lent ≡ settled m → IsKept m w h → chosen_soft i lent (frames_of w) table pc ≡ chosen_soft i (overlaid (cache_in m h)) (frames_of w) table pc
chosen_laid lent m w h i table pc is kept =
    let c = cache_in m h in
    let f = frames_of w in
    cc (
      chosen_soft_same i f (settled m) (overlaid c).bytes table pc (hard_behind c f kept.sound kept.youngest),
      laid_other c,
    )

pub interrupt_laid : (lent : model.Memory) (m : Behind) (w : Watch) (h : Held) (table stack : ℕ) (chosen : Chosen) (pc ac fp sp : ℕ) → lent ≡ settled m → IsKept m w h
    → planned_interrupt (caller_of lent (frames_of w) pc fp sp) table stack chosen ac ≡ planned_interrupt (caller_of (overlaid (cache_in m h)) (frames_of w) pc fp sp) table stack chosen ac
interrupt_laid lent m w h table stack chosen pc ac fp sp is kept =
    let c = cache_in m h in
    let f = frames_of w in
    let of = λ (x : model.Memory). planned_interrupt (caller_of x f pc fp sp) table stack chosen ac in
    ap of is ∙ sym (planned_same (caller_of (settled m) f pc fp sp) (overlaid c).bytes table stack chosen ac (hard_behind c f kept.sound kept.youngest)) ∙ ap of (laid_other c)

pub plan_clears : (m : model.Memory) (f : Frames) (table stack : ℕ) (c : Chosen) (pc ac fp sp : ℕ) (r : Result Entry ℕ) → r ≡ planned_interrupt (caller_of m f pc fp sp) table stack c ac → IfOk r (λ e. cleared_hazard m f table c e.push e.words ≡ None)
unfolding interrupt_hazard planned_interrupt_by
plan_clears m f table stack c pc ac fp sp r is = grind arith

-- memory behind the frames has the configuration words of what lies over it
behind_other : (c : Cache) → with_other (overlaid c) c.behind.bytes ≡ c.behind
behind_other c = ap (λ (k : ℕ → ℕ). record { bytes = c.behind.bytes; mcon = k }) (over_mcon c.held c.behind)

pub clearing_laid : (lent : model.Memory) (m : Behind) (w : Watch) (h : Held) (table : ℕ) (chosen : Chosen) (push : Push) (words : List ℕ) → lent ≡ settled m → IsKept m w h → cleared_hazard (overlaid (cache_in m h)) (frames_of w) table chosen push words ≡ None
    → clearing_writes chosen.cause (with_writes lent (record_writes lent push words)) table chosen.vector
    ≡ clearing_writes chosen.cause (with_writes (overlaid (cache_in m h)) (record_writes (overlaid (cache_in m h)) push words)) table chosen.vector
clearing_laid lent m w h table chosen push words is kept none =
    let c = cache_in m h in
    let f = frames_of w in
    let same : AgreeWhere (is_hard f) (overlaid c) c.behind.bytes = λ x hard. sym (hard_behind c f kept.sound kept.youngest x hard) in
    ap (λ (x : model.Memory). clearing_writes chosen.cause (with_writes x (record_writes x push words)) table chosen.vector) (is ∙ sym (behind_other c))
    ∙ cleared_same f (overlaid c) c.behind.bytes table chosen push words same none

pub request_laid : (lent : model.Memory) (m : Behind) (w : Watch) (h : Held) (table v : ℕ) → lent ≡ settled m → IsKept m w h
    → unless (request_hazard (frames_of w) table v) (request_writes lent table v) ≡ unless (request_hazard (frames_of w) table v) (request_writes (overlaid (cache_in m h)) table v)
request_laid lent m w h table v is kept =
    let c = cache_in m h in
    let f = frames_of w in
    let hazard = request_hazard f table v in
    cc (
      unless_same hazard (request_writes (settled m) table v) (request_writes (with_other (settled m) (overlaid c).bytes) table v) (λ none. request_same f (settled m) (overlaid c).bytes table v (hard_behind c f kept.sound kept.youngest) none),
      laid_other c,
    )

-- ---- DMA

pub unit_laid : (lent : model.Memory) (m : Behind) (w : Watch) (h : Held) (d : Dma) (k : ℕ) (given : Option (List ℕ)) → lent ≡ settled m → IsKept m w h
    → planned_bytes lent (frames_of w) d k given ≡ planned_bytes (overlaid (cache_in m h)) (frames_of w) d k given
unfolding planned_bytes
unit_laid lent m w h d k given is kept =
    let c = cache_in m h in
    let f = frames_of w in
    let channel = d.channels k in
    let hazard = unit_hazard f channel given in
    let other = with_other (settled m) (overlaid c).bytes in
    let of : model.Memory → Result (Option (List ℕ)) ℕ = λ x. cond (is_idle d k given) (Ok None) (unless hazard (Some (unit_bytes x channel given))) in
    cc (
      unless_same hazard (Some (unit_bytes (settled m) channel given)) (Some (unit_bytes other channel given)) (λ none. ap (λ (bs : List ℕ). Some bs) (bytes_same f (settled m) (overlaid c).bytes channel given (hard_behind c f kept.sound kept.youngest) none)),
      laid_other c,
    )
