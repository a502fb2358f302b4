use Rattle.i9_back.proofs.Going.{rewound_stands}
use Rattle.i9_back.proofs.Watching.{answered_whole}
use Rattle.i9_back.proofs.rerun.last_change.Goals as goal

pub watch-requires-clause-stands : goal.watch-requires-clause-stands
watch-requires-clause-stands c = record {
  given = _;
  stands = rewound_stands _ _ _ _ c.args.plan.now _ c.in_ok-m.ensures.stands c.in_ok-m.ensures.turn c.rewind.ensures.first c.rewind.ensures.plan;
  reaches = c.requires.reaches;
}

pub returns-clause-found : goal.returns-clause-found
returns-clause-found c =
    answered_whole c.watch.result _ c.args.n c.args.a _ c.watch.new.plan
    (c.watch.ensures.found _ (rewound_stands _ _ _ _ c.args.plan.now _ c.in_ok-m.ensures.stands c.in_ok-m.ensures.turn c.rewind.ensures.first c.rewind.ensures.plan))
