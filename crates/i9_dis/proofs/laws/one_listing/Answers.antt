use Rattle.i9_dis.proofs.Listed.{some_listing, one_text, by_pairs}
use Rattle.i9_dis.proofs.laws.one_listing.Goals as goal

pub returns : goal.returns
returns c = record {
  text = one_text;
  some = some_listing;
  pairs = by_pairs;
}
