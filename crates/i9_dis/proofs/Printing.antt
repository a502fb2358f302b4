-- Lines that are put behind a text.
use Rattle.std.proofs.Common.{◌≡◌, ℕ, zero, suc, ◌+◌, ◌<◌, List, [], ◌∷◌, ◌++◌, length, get_or, take, drop, map, sym, ap, subst, ◌∙◌, arith, append_assoc}
use Rattle.std.specs.List.{flat_map, AllByRecursion}
use Rattle.std.proofs.lemmas.List.{append-nil, take_more, map_push}
use Rattle.std.proofs.lemmas.Grind.{flat_map-append}
use Rattle.i9_model.specs.Image.{Part}
use Rattle.i9_hex.specs.Shown.{part_of}
use Rattle.i9_hex.specs.Writing.{with_line_feed}
use Rattle.i9_hex.specs.declared.segments.Segment.{Segment}
use Rattle.i9_hex.specs.Runs.{IsRun}
use Rattle.i9_asm.specs.Listing.{line_size, first_line, Lists, lists_none, lists_line, org_line, ListsAll, lists_all, lists_run}
use Rattle.i9_dis.specs.Printed.{AddsLines, AddsRuns}

-- the text of lines
abbrev pub flat : List (List ℕ) → List ℕ
flat lines = flat_map with_line_feed lines

-- ---- a run

-- what is listed of the rest goes behind the text
abbrev pub Goes : ℕ → List ℕ → List ℕ → ℕ → List ℕ → List ℕ → Type 0
Goes start bytes old place rest text = (tail : List (List ℕ)) → Lists place rest tail → AddsLines start bytes old (text ++ flat tail)

pub goes_turn : (start : ℕ) (bytes old : List ℕ) (place next n : ℕ) (rest left text more : List ℕ) → 0 < length rest → Goes start bytes old place rest text
    → more ≡ text ++ with_line_feed (first_line place rest) → n ≡ line_size place rest → next ≡ place + n → left ≡ drop n rest → Goes start bytes old next left more
goes_turn start bytes old place next n [] left text more some goes is size on cut tail lists = absurd (omega arith)
goes_turn start bytes old place next n (b ∷ bs) left text more some goes is size on cut tail lists =
    let there : next ≡ place + line_size place (b ∷ bs) = on ∙ ap (λ k. place + k) size in
    let behind : left ≡ drop (line_size place (b ∷ bs)) (b ∷ bs) = cut ∙ ap (λ k. drop k (b ∷ bs)) size in
    let listed : Lists (place + line_size place (b ∷ bs)) (drop (line_size place (b ∷ bs)) (b ∷ bs)) tail = subst (λ k. Lists k (drop (line_size place (b ∷ bs)) (b ∷ bs)) tail) there (subst (λ l. Lists next l tail) behind lists) in
    let joins : more ++ flat tail ≡ text ++ flat (first_line place (b ∷ bs) ∷ tail) = ap (λ t. t ++ flat tail) is ∙ append_assoc text (with_line_feed (first_line place (b ∷ bs))) (flat tail) in
    subst (λ t. AddsLines start bytes old t) (sym joins) (goes (first_line place (b ∷ bs) ∷ tail) (lists_line place b bs tail listed))

pub goes_end : (start : ℕ) (bytes old : List ℕ) (place : ℕ) (rest text : List ℕ) → length rest ≡ 0 → Goes start bytes old place rest text → AddsLines start bytes old text
goes_end start bytes old place [] text none goes = subst (λ t. AddsLines start bytes old t) (append-nil text) (goes [] (lists_none place))
goes_end start bytes old place (b ∷ bs) text none goes = absurd (omega arith)

-- ---- runs

lists_all-append : (rs ss : List Part) (xs ys : List (List ℕ)) → ListsAll rs xs → ListsAll ss ys → ListsAll (rs ++ ss) (xs ++ ys)
lists_all-append _ ss _ ys lists_all more = more
lists_all-append _ ss _ ys (lists_run a bs runs lines behind run rest) more =
    subst (λ ls. ListsAll (record { address = a; bytes = bs } ∷ (runs ++ ss)) (org_line a ∷ ls)) (sym (append_assoc lines behind ys))
    (lists_run a bs (runs ++ ss) lines (behind ++ ys) run (lists_all-append runs ss behind ys rest more))

run_more : (rs : List Part) (a : ℕ) (bs t begun done : List ℕ) → AddsRuns rs [] t → begun ≡ t ++ with_line_feed (org_line a) → AddsLines a bs begun done → AddsRuns (rs ++ record { address = a; bytes = bs } ∷ []) [] done
run_more rs a bs t begun done h org lines =
    let own = org_line a ∷ (lines.lines ++ []) in
    let text : done ≡ flat (h.lines ++ own) =
    lines.text ∙ ap (λ x. x ++ flat lines.lines) (org ∙ ap (λ x. x ++ with_line_feed (org_line a)) h.text)
    ∙ append_assoc (flat h.lines) (with_line_feed (org_line a)) (flat lines.lines)
    ∙ ap (λ ls. flat h.lines ++ (with_line_feed (org_line a) ++ flat ls)) (sym (append-nil lines.lines))
    ∙ sym (flat_map-append with_line_feed h.lines own) in
    record {
      lines = h.lines ++ own;
      listed = lists_all-append rs (record { address = a; bytes = bs } ∷ []) h.lines own h.listed (lists_run a bs [] lines.lines [] lines.listed lists_all);
      text = text;
    }

pub runs_turn : (runs : List Segment) (i : ℕ) (s : Segment) (t begun done : List ℕ) → i < length runs → s ≡ get_or runs i s → AddsRuns (map part_of (take i runs)) [] t
    → begun ≡ t ++ with_line_feed (org_line s.address) → AddsLines s.address s.bytes.items begun done → AddsRuns (map part_of (take (i + 1) runs)) [] done
runs_turn runs i s t begun done lt is h org lines =
    let more : take (i + 1) runs ≡ take i runs ++ s ∷ [] = take_more runs i s lt ∙ ap (λ x. take i runs ++ x ∷ []) (sym is) in
    subst (λ rs. AddsRuns rs [] done) (sym (ap (map part_of) more ∙ map_push part_of (take i runs) s)) (run_more (map part_of (take i runs)) s.address s.bytes.items t begun done h org lines)

pub run_at : (runs : List Segment) (i : ℕ) (s : Segment) → AllByRecursion IsRun (map part_of runs) → i < length runs → s ≡ get_or runs i s → IsRun (part_of s)
run_at [] i s h lt is = absurd (omega arith)
run_at (x ∷ runs) zero s h lt is = subst (λ (y : Segment). IsRun (part_of y)) (sym is) h.0
run_at (x ∷ runs) (suc i) s h lt is = run_at runs i s h.1 (omega arith) is
