use Rattle.std.proofs.Common.{arith}
use Rattle.i9_ints.proofs.AfterRecords.{record_free}
use Rattle.i9_storage.specs.Storage.{frames_in}
use Rattle.i9_storage.proofs.StoragePlans.{clearing_laid}
use Rattle.i9_storage.proofs.storage.Storage.clearing_bytes.Goals as goal

pub clearing_bytes-requires : goal.clearing_bytes-requires
clearing_bytes-requires c = record_free (frames_in c.args.self.now) c.args.e.now.push c.requires.record

pub returns : goal.returns
returns c = grind (arith, clearing_laid)
