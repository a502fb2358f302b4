use Rattle.std.proofs.Common.{length-append, arith}
use Rattle.std.specs.Option.{option_copied}
use Rattle.i9_model.specs.PrintedText.{last_lines, journal_lines}
use Rattle.i9_machine.proofs.machine.doing.put_end.Goals as goal

pub put_journal-requires-clause-room : goal.put_journal-requires-clause-room
put_journal-requires-clause-room c =
    let journal = journal_lines c.args.view.count (option_copied c.args.event) in
    let last = last_lines c.args.view c.args.e in
    let long = length-append journal last in
    let count = c.end_count.ensures c.args.view.count c.args.view in
    let room = c.in_ok-reserve_lines.ensures.room in
    omega (arith, long, count, room)

pub put_last-requires : goal.put_last-requires
put_last-requires c =
    let journal = journal_lines c.args.view.count (option_copied c.args.event) in
    let last = last_lines c.args.view c.args.e in
    let long = length-append journal last in
    let count = c.end_count.ensures c.args.view.count c.args.view in
    let room = c.in_ok-reserve_lines.ensures.room in
    let len = c.put_journal.ensures.len in
    let capacity = c.put_journal.ensures.capacity in
    omega (arith, long, count, room, len, capacity)
