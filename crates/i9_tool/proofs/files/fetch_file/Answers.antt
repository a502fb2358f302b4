use Rattle.std.proofs.Common.{refl, arith}
use Rattle.i9_tool.specs.Refusals.{unread, too_long}
use Rattle.i9_tool.proofs.files.fetch_file.Goals as goal

pub returns-in-Ok-clause-fetches : goal.returns-in-Ok-clause-fetches
returns-in-Ok-clause-fetches g c = record {
  same = c.fetch.ensures.same;
  later = c.fetch.ensures.later;
  stays = c.fetch.ensures.stays;
  once = c.fetch.ensures.once;
  unread = λ more. absurd (omega (arith, c.in-Ok.ensures.cause));
  calm = λ sure. (λ e. cc, (c.fetch.ensures.calm sure).1);
}

pub returns-in-Ok-clause-whole : goal.returns-in-Ok-clause-whole
returns-in-Ok-clause-whole g c =
    let f = rw c.new-file.ensures.items at c.in-Ok.ensures.bytes in
    rw f.leaves.1 (record { is_file = f.is_file; short = f.leaves.0 })

pub returns-in-Failed-clause-fetches : goal.returns-in-Failed-clause-fetches
returns-in-Failed-clause-fetches g c = record {
  same = c.fetch.ensures.same;
  later = c.fetch.ensures.later;
  stays = c.fetch.ensures.stays;
  once = c.fetch.ensures.once;
  unread = λ more. refl;
  calm = λ sure. absurd ((c.fetch.ensures.calm sure).0 c.in-Failed.is);
}

pub returns-in-Failed-clause-missed : goal.returns-in-Failed-clause-missed
returns-in-Failed-clause-missed g c = unread c.in-Failed.ensures.cause

pub returns-in-TooLong-clause-fetches : goal.returns-in-TooLong-clause-fetches
returns-in-TooLong-clause-fetches g c = record {
  same = c.fetch.ensures.same;
  later = c.fetch.ensures.later;
  stays = c.fetch.ensures.stays;
  once = c.fetch.ensures.once;
  unread = λ more. absurd (omega (arith, c.in-TooLong.ensures.cause));
  calm = λ sure. (λ e. cc, (c.fetch.ensures.calm sure).1);
}

pub returns-in-TooLong-clause-missed : goal.returns-in-TooLong-clause-missed
returns-in-TooLong-clause-missed g c = let f = c.in-TooLong.ensures.bytes in too_long f.file f.is_file f.leaves.0

pub returns-in-Memory-clause-fetches : goal.returns-in-Memory-clause-fetches
returns-in-Memory-clause-fetches g c = record {
  same = c.fetch.ensures.same;
  later = c.fetch.ensures.later;
  stays = c.fetch.ensures.stays;
  once = c.fetch.ensures.once;
  unread = λ more. absurd (omega (arith, c.in-Memory.ensures.cause));
  calm = λ sure. (λ e. cc, (c.fetch.ensures.calm sure).1);
}
