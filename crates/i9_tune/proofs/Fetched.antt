-- A block that stands in memory and is done there does the same in every order that stands there instead.
use Rattle.std.proofs.Common.{◌≡◌, ℕ, zero, suc, ◌+◌, ◌-◌, ◌*◌, ◌<◌, ◌≤◌, Bool, true, false, cond, List, [], ◌∷◌, ◌++◌, Option, Some, None, Ok, refl, sym, ap, ◌∙◌, subst, inl, inr, arith}
use Rattle.std.specs.Prelude.{◌==◌, find}
use Rattle.std.specs.List.{sum_by}
use Rattle.std.proofs.lemmas.Bool.{eqb-true, cases_lt, cond_both}
use Rattle.std.proofs.lemmas.List.Recursion.{is_sum_by}
use Rattle.std.proofs.lemmas.List.Sorted.{sum_by-IsPermutation}
use Rattle.i9_isa.specs.declared.inst.Inst.{Inst}
use Rattle.i9_isa.specs.Words.{words_of, decoded}
use Rattle.i9_isa.proofs.Decoding.{second_free}
use Rattle.i9_model.specs.Writes.{wrapped}
use Rattle.i9_model.specs.Memory.{Memory, word_in}
use Rattle.i9_model.specs.State.{State, Frames}
use Rattle.i9_model.specs.Frames.{places}
use Rattle.i9_model.specs.Hazards.{or_else, read_hazard}
use Rattle.i9_model.specs.Access.{access_of, data_of, second_hazard, fetch_hazard}
use Rattle.i9_model.specs.Standing.{Runs, stands_at}
use Rattle.i9_model.specs.Step.{Action, acted, counted, first_word, next_word}
use Rattle.i9_model.specs.Traced.{traced_action}
use Rattle.i9_model.specs.Run.{Instruction, after_kind, exit_in}
use Rattle.i9_model.proofs.Readings.{in_bytes-has, inner_word_same}
use Rattle.i9_model.proofs.FrameLaws.{read_hazard-none}
use Rattle.i9_statement.proofs.StatementWords.{one_or_two}
use Rattle.i9_past.proofs.Stands.{Known, known}
use Rattle.i9_tune.specs.Blocks.{is_allowed}
use Rattle.i9_tune.specs.Passes.{MissesBytes, is_broken, Passes, stepped, port_bytes, ArePassed, behind, sent}
use Rattle.i9_tune.specs.Orders.{IsOrder, AreAllowed}
use Rattle.i9_tune.specs.Standings.{byte_length, StandAt, IsDone, AreDone, after_all, port_bytes_of, Replaces, DoTheSame}
use Rattle.i9_tune.proofs.Orders.{permuted, order_keeps}
use Rattle.i9_tune.proofs.Sources.{IsAllowed, allowed_parts, other_memory}
use Rattle.i9_tune.proofs.Swaps.{own_step, in_port, order_good}
use Rattle.i9_tune.proofs.Stood.{stood, stands_there}
use Rattle.i9_tune.proofs.Watched.{unseen_from, untraced_by, as_action}
use Rattle.i9_tune.proofs.Carried.{byte_kept, all_carried}

-- ---- an order of a block

pub same_length : (block order : List Inst) → IsOrder block order → byte_length order ≡ byte_length block
same_length block order taken =
    as_sum order ∙ sum_by-IsPermutation (λ i. 4 * words_of i) block order (permuted block order taken) ∙ sym (as_sum block)
  where
    as_sum : (is : List Inst) → byte_length is ≡ sum_by (λ i. 4 * words_of i) is
    as_sum = is_sum_by byte_length (λ i. 4 * words_of i) refl (λ _ _. refl)

-- ---- without a trace event an instruction is as its action says

after_step : (i : Inst) (s : State) → (traced_action i s).trace ≡ None → after_kind (Instruction i) s ≡ stepped i s
after_step i s none = ap (λ (a : Action). counted 1 (acted s a)) (as_action i s none)

-- tracing stops nowhere in the area
abbrev NoneBroken : ℕ × ℕ → State → Type 0
NoneBroken area s = (k : ℕ) → k < area.1 → is_broken s (wrapped (area.0 + k)) ≡ false

done_passes : (area : ℕ × ℕ) (i : Inst) (s : State) → IsAllowed i → IsDone area i s → Passes area i s
done_passes area i s ok done =
    let calm = (stood s i done.stands).calm in
    record {
      proper = calm.proper;
      raised = calm.raised;
      later = calm.later;
      hazard = calm.hazard;
      exit = sym (ap (exit_in s) (as_action i s done.untraced)) ∙ done.exit;
      unseen = unseen_from i s ok done.untraced;
      misses = done.misses;
    }

record IsSameRun (area : ℕ × ℕ) (is : List Inst) (s : State) : Type 0 where
  passed : ArePassed area is s
  state : after_all is s ≡ behind is s
  port : port_bytes_of is s ≡ sent is s

same_run : (area : ℕ × ℕ) (is : List Inst) (s : State) → AreAllowed is → AreDone area is s → IsSameRun area is s
same_run area [] s ok done = record { passed = tt; state = refl; port = refl }
same_run area (i ∷ is) s ok done =
    let step = after_step i s done.0.untraced in
    let rest = same_run area is (stepped i s) ok.1 (subst (AreDone area is) step done.1) in
    record {
      passed = (done_passes area i s (allowed_parts i ok.0) done.0, rest.passed);
      state = ap (after_all is) step ∙ rest.state;
      port = ap (λ (a : Action). in_port a.writes ++ port_bytes_of is (counted 1 (acted s a))) (as_action i s done.0.untraced)
          ∙ ap (λ (ps : List (ℕ × ℕ)). port_bytes i s ++ ps) rest.port;
    }

-- ---- the bytes of the block are not soft

-- so many bytes from an address on are not soft
abbrev AreHard : Frames → ℕ → ℕ → Type 0
AreHard f a n = (k : ℕ) → k < n → f.soft (wrapped (a + k)) ≡ false

read_hard : (f : Frames) (a n : ℕ) → read_hazard f a n ≡ None → AreHard f a n
read_hard f a n none k h = read_hazard-none f a n (wrapped (a + k)) none (in_bytes-has a n k h)

few_words : (i : Inst) → (1 ≤ words_of i) × (words_of i ≤ 2)
few_words i = elim (one_or_two i.ea.mode) [ inl one ↦ (omega (arith, one), omega (arith, one)) | inr two ↦ (omega (arith, two), omega (arith, two)) ]

own_hard : (s : State) (i : Inst) → stands_at s ≡ Runs i → AreHard s.frames s.ip (4 * words_of i)
own_hard s i e k h =
    let read = (subst (Known s) e (known s)).0 in
    let few = few_words i in
    elim (cases_lt k 4) [
      | inl low ↦ read_hard s.frames s.ip 4 read.first k low
      | inr high ↦
          let place : wrapped (wrapped (s.ip + 4) + (k - 4)) ≡ wrapped (s.ip + k) = omega (arith, high) in
          sym (ap s.frames.soft place) ∙ read_hard s.frames (wrapped (s.ip + 4)) 4 (read.second (omega (arith, few.1, high, h))) (k - 4) (omega (arith, few.1, high, h))
    ]

-- the instructions stand so many bytes behind the beginning of the area, and end with it
record IsPlaced (area : ℕ × ℕ) (is : List Inst) (s : State) (o : ℕ) : Type 0 where
  here : s.ip ≡ wrapped (area.0 + o)
  ends : o + byte_length is ≡ area.1

next_place : (area : ℕ × ℕ) (i : Inst) (is : List Inst) (s : State) (o : ℕ) → IsAllowed i → IsPlaced area (i ∷ is) s o → IsPlaced area is (stepped i s) (o + 4 * words_of i)
next_place area i is s o ok place =
    let here = place.here in
    let ends = place.ends in
    let next : wrapped (s.ip + 4 * words_of i) ≡ wrapped (area.0 + (o + 4 * words_of i)) = omega (arith, here) in
    record { here = ap (λ (t : State). t.ip) (own_step i s ok) ∙ next; ends = omega (arith, ends) }

block_hard : (area : ℕ × ℕ) (is : List Inst) (s : State) (o : ℕ) → AreAllowed is → IsPlaced area is s o → AreDone area is s
    → (k : ℕ) → o ≤ k → k < area.1 → s.frames.soft (wrapped (area.0 + k)) ≡ false
block_hard area [] s o ok place done k from to = let ends = place.ends in absurd (omega (arith, ends, from, to))
block_hard area (i ∷ is) s o ok place done k from to = elim (cases_lt (k - o) (4 * words_of i)) [
  | inl low ↦
      let here = place.here in
      let same : wrapped (s.ip + (k - o)) ≡ wrapped (area.0 + k) = omega (arith, here, from) in
      sym (ap s.frames.soft same) ∙ own_hard s i done.0.stands (k - o) low
  | inr high ↦
      let allowed = allowed_parts i ok.0 in
      sym (byte_kept area i s (wrapped (area.0 + k)) allowed done.0.misses (in_bytes-has area.0 area.1 k to)).1
      ∙ block_hard area is (stepped i s) (o + 4 * words_of i) ok.1 (next_place area i is s o allowed place)
      (subst (AreDone area is) (after_step i s done.0.untraced) done.1) k (omega (arith, high, from)) to
]

-- ---- words that stand there are fetched

least_none : (test : ℕ → Bool) (a n : ℕ) → ((k : ℕ) → k < n → test (wrapped (a + k)) ≡ false) → find test (places a n) ≡ None
least_none test a zero h = refl
least_none test a (suc n) h =
    let here : wrapped (a + 0) ≡ wrapped a = omega arith in
    let first : test (wrapped a) ≡ false = sym (ap test here) ∙ h 0 (omega arith) in
    let later = least_none test (a + 1) n (λ k l. (let e : wrapped (a + 1 + k) ≡ wrapped (a + suc k) = omega arith in ap test e ∙ h (suc k) (omega (arith, l)))) in
    ap (λ (b : Bool). cond b (Some (wrapped a)) (find test (places (a + 1) n))) first ∙ later

hard_read : (f : Frames) (a n : ℕ) → AreHard f a n → read_hazard f a n ≡ None
unfolding read_hazard
hard_read f a n h = least_none f.soft a n h

second_none : (s : State) (i : Inst) → AreHard s.frames s.ip (4 * words_of i) → second_hazard s (Ok i) ≡ None
second_none s i hard =
    cond_both (words_of i == 2) (read_hazard s.frames (wrapped (s.ip + 4)) 4) None (λ o. o ≡ None)
    (λ e. hard_read s.frames (wrapped (s.ip + 4)) 4 (λ k l.
    let two = eqb-true (words_of i) 2 e in
    let place : wrapped (wrapped (s.ip + 4) + k) ≡ wrapped (s.ip + (4 + k)) = omega arith in
    ap s.frames.soft place ∙ hard (4 + k) (omega (arith, two, l))))
    (λ e. refl)

fetched : (s : State) (i : Inst) → AreHard s.frames s.ip (4 * words_of i) → decoded (first_word s) (next_word s) ≡ Ok i → fetch_hazard s ≡ None
unfolding fetch_hazard
fetched s i hard word =
    let some = (few_words i).0 in
    ap (λ (o : Option ℕ). or_else o (second_hazard s (decoded (first_word s) (next_word s)))) (hard_read s.frames s.ip 4 (λ k l. hard k (omega (arith, some, l))))
    ∙ ap (second_hazard s) word ∙ second_none s i hard

-- words of the area stand in another memory that has its bytes
stand_kept : (area : ℕ × ℕ) (m n : Memory) (is : List Inst) (o : ℕ) → m.mcon ≡ n.mcon → ((k : ℕ) → k < area.1 → n.bytes (wrapped (area.0 + k)) ≡ m.bytes (wrapped (area.0 + k)))
    → o + byte_length is ≡ area.1 → StandAt m (wrapped (area.0 + o)) is → StandAt n (wrapped (area.0 + o)) is
stand_kept area m n [] o orders same ends stand = tt
stand_kept area m n (i ∷ is) o orders same ends stand =
    let a = wrapped (area.0 + o) in
    let some = (few_words i).0 in
    let word_there : (k : ℕ) → k + 4 ≤ area.1 → word_in n (wrapped (area.0 + k)) ≡ word_in m (wrapped (area.0 + k)) = λ k h.
    ap (λ (x : Memory). word_in x (wrapped (area.0 + k))) (sym (other_memory m n orders)) ∙ inner_word_same m n.bytes area.0 area.1 k same h in
    let first : word_in n a ≡ word_in m a = word_there o (omega (arith, some, ends)) in
    let head : decoded (word_in n a) (word_in n (wrapped (a + 4))) ≡ Ok i = elim (one_or_two i.ea.mode) [
      | inl one ↦ ap (λ (w : ℕ). decoded w (word_in n (wrapped (a + 4)))) first ∙ second_free (word_in m a) (word_in m (wrapped (a + 4))) (word_in n (wrapped (a + 4))) i one stand.0
      | inr two ↦
          let place : wrapped (a + 4) ≡ wrapped (area.0 + (o + 4)) = omega arith in
          cc (word_there (o + 4) (omega (arith, two, ends)), stand.0)
    ] in
    let next : wrapped (a + 4 * words_of i) ≡ wrapped (area.0 + (o + 4 * words_of i)) = omega arith in (
      head,
      subst (λ (x : ℕ). StandAt n x is) (sym next)
          (stand_kept area m n is (o + 4 * words_of i) orders same (omega (arith, ends)) (subst (λ (x : ℕ). StandAt m x is) next stand.1)),
    )

-- what is ready to be fetched
record IsReady (area : ℕ × ℕ) (is : List Inst) (s : State) (o : ℕ) : Type 0 where
  place : IsPlaced area is s o
  hard : AreHard s.frames area.0 area.1
  stand : StandAt s.memory s.ip is

ready_after : (area : ℕ × ℕ) (i : Inst) (is : List Inst) (s : State) (o : ℕ) → IsAllowed i → MissesBytes (data_of (access_of i s)) area → IsReady area (i ∷ is) s o → IsReady area is (stepped i s) (o + 4 * words_of i)
ready_after area i is s o ok miss ready =
    let place = next_place area i is s o ok ready.place in
    let here = ready.place.here in
    let there : wrapped (s.ip + 4 * words_of i) ≡ wrapped (area.0 + (o + 4 * words_of i)) = omega (arith, here) in
    let kept = λ (k : ℕ) (h : k < area.1). byte_kept area i s (wrapped (area.0 + k)) ok miss (in_bytes-has area.0 area.1 k h) in
    record {
      place = place;
      hard = λ k h. (kept k h).1 ∙ ready.hard k h;
      stand = subst (λ (a : ℕ). StandAt (stepped i s).memory a is) (sym place.here)
          (stand_kept area s.memory (stepped i s).memory is (o + 4 * words_of i) (sym (ap (λ (t : State). t.memory.mcon) (own_step i s ok))) (λ k h. (kept k h).0) place.ends
          (subst (λ (a : ℕ). StandAt s.memory a is) there ready.stand.1));
    }

is_done : (area : ℕ × ℕ) (i : Inst) (is : List Inst) (s : State) (o : ℕ) → IsAllowed i → NoneBroken area s → Passes area i s → IsReady area (i ∷ is) s o → IsDone area i s
is_done area i is s o ok unbroken passes ready =
    let here = ready.place.here in
    let ends = ready.place.ends in
    let some = (few_words i).0 in
    let hard : AreHard s.frames s.ip (4 * words_of i) = λ k h.
    (let e : wrapped (s.ip + k) ≡ wrapped (area.0 + (o + k)) = omega (arith, here) in ap s.frames.soft e ∙ ready.hard (o + k) (omega (arith, ends, h))) in
    let none = untraced_by i s ok passes.unseen (ap (is_broken s) here ∙ unbroken o (omega (arith, some, ends))) in
    record {
      stands = stands_there s i (record { fetch = fetched s i hard ready.stand.0; word = ready.stand.0; calm = record { proper = passes.proper; raised = passes.raised; later = passes.later; hazard = passes.hazard } });
      untraced = none;
      exit = ap (exit_in s) (as_action i s none) ∙ passes.exit;
      misses = passes.misses;
    }

all_done : (area : ℕ × ℕ) (is : List Inst) (s : State) (o : ℕ) → AreAllowed is → NoneBroken area s → ArePassed area is s → IsReady area is s o → AreDone area is s
all_done area [] s o ok unbroken passed ready = tt
all_done area (i ∷ is) s o ok unbroken passed ready =
    let allowed = allowed_parts i ok.0 in
    let first = is_done area i is s o allowed unbroken passed.0 ready in
    let still = λ (k : ℕ) (h : k < area.1). ap (λ (t : State). is_broken t (wrapped (area.0 + k))) (own_step i s allowed) ∙ unbroken k h in (
      first,
      subst (AreDone area is) (sym (after_step i s first.untraced))
          (all_done area is (stepped i s) (o + 4 * words_of i) ok.1 still passed.1 (ready_after area i is s o allowed passed.0.misses ready)),
    )

-- ---- all together

pub tuned_same : (block order : List Inst) (s t : State) → AreAllowed block → IsOrder block order → Replaces block order s t → DoTheSame (s.ip, byte_length block) block order s t
tuned_same block order s t ok taken r =
    let area : ℕ × ℕ = (s.ip, byte_length block) in
    let small = r.address in
    let first : s.ip ≡ wrapped (s.ip + 0) = omega (arith, small) in
    let here = same_run area block s ok r.done in
    let carried = all_carried area block s t ok r.differs here.passed in
    let good = order_good area block order t ok taken carried.passed in
    let ok_order = order_keeps (λ i. is_allowed i ≡ true) block order taken ok in
    let long = same_length block order taken in
    let done_there = all_done area order t 0 ok_order (λ k h. ap (λ (u : State). is_broken u (wrapped (s.ip + k))) r.differs.rest ∙ r.unbroken k h) good.passed
    (record {
      place = record { here = ap (λ (u : State). u.ip) r.differs.rest ∙ first; ends = omega (arith, long) };
      hard = λ k h. ap (λ (u : State). u.frames.soft (wrapped (s.ip + k))) r.differs.rest
          ∙ block_hard area block s 0 ok (record { here = first; ends = omega arith }) r.done k (omega arith) h;
      stand = r.stands;
    }) in
    let there = same_run area order t ok_order done_there in
    let end_state = there.state ∙ good.state in
    record {
      done = done_there;
      state = rw (here.state, end_state) carried.state;
      kept = λ x h. ap (λ (u : State). u.memory.bytes x) end_state ∙ carried.kept x h;
      port = there.port ∙ good.port ∙ carried.port ∙ sym here.port;
    }
