use Rattle.std.proofs.Common.{sym, arith}
use Rattle.std.proofs.lemmas.Bool.Decides.{nat_tests}
use Rattle.i9_memory.specs.Pages.{byte_of}
use Rattle.i9_memory.proofs.Runs.{stored_none}
use Rattle.i9_memory.proofs.pages.Pages.store.Goals as goal

pub returns-else-not-is_empty-clause-bytes : goal.returns-else-not-is_empty-clause-bytes
returns-else-not-is_empty-clause-bytes c =
    sym (stored_none (byte_of c.args.self.now) c.args.a c.args.bytes.now (grind (arith, nat_tests)))
