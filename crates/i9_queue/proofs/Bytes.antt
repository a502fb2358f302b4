-- The last byte that is written at an address.
use Rattle.std.proofs.Common.{◌≡◌, ℕ, ◌+◌, ◌<◌, ◌≤◌, List, [], ◌∷◌, ◌++◌, length, get_or, drop, Option, None, refl, ap, ◌∙◌, arith}
use Rattle.std.proofs.lemmas.List.{at_drop_more, at_drop_all}
use Rattle.i9_model.specs.Writes.{upwards, last_put, or_earlier}
use Rattle.i9_model.specs.Late.{all_puts}
use Rattle.i9_model.proofs.LastPuts.{last_append, or_none}
use Rattle.i9_model.proofs.Upwards.{or_none as none_last}
use Rattle.i9_queue.specs.declared.queue.Request.{Request}
use Rattle.i9_queue.specs.Queue.{wait_in, waits_in}

pub request_more : (found : Option ℕ) (a : ℕ) (rs : List Request) (i : ℕ) (r : Request) → i < length rs → or_earlier (last_put (all_puts (waits_in (drop i rs))) a) found ≡ or_earlier (last_put (all_puts (waits_in (drop (i + 1) rs))) a) (or_earlier (last_put (upwards (get_or rs i r).address (get_or rs i r).bytes.items) a) found)
request_more found a rs i r h =
    at_drop_more (λ zs. or_earlier (last_put (all_puts (waits_in zs)) a) found) rs i r h
    ∙ ap (λ (o : Option ℕ). or_earlier o found) (last_append (upwards (get_or rs i r).address (get_or rs i r).bytes.items) (all_puts (waits_in (drop (i + 1) rs))) a)
    ∙ or_none (last_put (all_puts (waits_in (drop (i + 1) rs))) a) (last_put (upwards (get_or rs i r).address (get_or rs i r).bytes.items) a) found

pub request_none : (rs : List Request) (a : ℕ) → or_earlier (last_put (all_puts (waits_in rs)) a) None ≡ last_put (all_puts (waits_in rs)) a
request_none rs a = none_last (last_put (all_puts (waits_in rs)) a)

pub request_done : (found : Option ℕ) (a : ℕ) (rs : List Request) (i : ℕ) → length rs ≤ i → or_earlier (last_put (all_puts (waits_in (drop i rs))) a) found ≡ found
unfolding last_put
request_done found a rs i h = at_drop_all (λ zs. or_earlier (last_put (all_puts (waits_in zs)) a) found) rs i h

pub ruleset request_rules = (request_more, request_done, request_none)

pub length-waits : (rs : List Request) → length (waits_in rs) ≡ length rs
length-waits [] = refl
length-waits (r ∷ rs) = omega (arith, length-waits rs)

pub no-requests : (rs : List Request) → length rs ≡ 0 → rs ≡ []
no-requests [] none = refl
no-requests (r ∷ rs) none = absurd (omega arith)

pub none-waits : (rs : List Request) → waits_in rs ≡ [] → rs ≡ []
none-waits [] none = refl
none-waits (r ∷ rs) none = absurd cc

pub waits-put : (rs : List Request) (r : Request) → waits_in (rs ++ r ∷ []) ≡ waits_in rs ++ wait_in r ∷ []
waits-put [] r = refl
waits-put (q ∷ rs) r = ap (λ ws. wait_in q ∷ ws) (waits-put rs r)

pub ruleset copy_rules = (waits-put)

pub one_waits : (rs : List Request) → length rs ≡ 1 → [] ≡ drop 1 (waits_in rs)
one_waits [] one = absurd (omega arith)
one_waits (r ∷ []) one = refl
one_waits (r ∷ q ∷ rs) one = absurd (omega arith)
