use Rattle.std.proofs.Common.{sym, ap, ◌∙◌}
use Rattle.std.specs.BTreeMap.{get}
use Rattle.i9_statement.specs.Known.{key_cmp, definitions}
use Rattle.i9_statement.proofs.NameKeys.{entered, stays}
use Rattle.i9_statement.proofs.known.Table.define.Goals as goal

pub returns-in_ok-insert-in-Some : goal.returns-in_ok-insert-in-Some
unfolding definitions
returns-in_ok-insert-in-Some c =
    let key = c.key_of-key.ensures in
    let f = get key_cmp c.args.self.map in
    let g = get key_cmp c.insert.new.self in
    let h = get key_cmp c.insert-in-Some.new.self in
    let was = sym (c.in_ok-first.ensures.old ∙ ap f key) ∙ c.in-Some.is in
    let put = rw key at c.in_ok-first.ensures.updates.0 in
    let back = rw key at c.in_ok-insert-in-Some.ensures.updates.0 in
    stays f g h c.args.name.now c.args.definition c.in-Some.first c.requires was put back

pub returns-in-None : goal.returns-in-None
unfolding definitions
returns-in-None c =
    let key = c.key_of-key.ensures in
    let f = get key_cmp c.args.self.map in
    let g = get key_cmp c.insert.new.self in
    let was = sym (c.in_ok-first.ensures.old ∙ ap f key) ∙ c.in-None.is in
    entered f g c.args.name.now c.args.definition c.requires was (rw key at c.in_ok-first.ensures.updates.0)
