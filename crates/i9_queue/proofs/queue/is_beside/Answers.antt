use Rattle.std.proofs.Common.{rules, ◌+◌, ◌-◌, ◌%◌, ◌^◌, ◌<◌, ◌≤◌, length, arith}
use Rattle.std.proofs.lemmas.Bool.Decides.{nat_tests}
use Rattle.i9_queue.proofs.Beside.{run_beside}
use Rattle.i9_queue.proofs.queue.is_beside.Goals as goal

pub returns : goal.returns
returns c t =
    let r = c.args.r.now in
    let more = c.args.n - 1 in
    let low : r.address < 2 ^ 32 = search rules in
    let few : length r.bytes.items ≤ 16 = search rules in
    let above : c.len.result + more ≤ ((c.args.a + more) % 2 ^ 32 + (2 ^ 32 - r.address)) % 2 ^ 32 = grind (arith, nat_tests, t) in
    run_beside r.address c.args.a c.args.n r.bytes.items low (omega arith) c.requires (omega (arith, few)) (omega (arith, c.len.ensures.value, above))
