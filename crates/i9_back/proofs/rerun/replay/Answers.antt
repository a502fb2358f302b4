use Rattle.i9_back.proofs.Going.{rewound_stands}
use Rattle.i9_back.proofs.rerun.replay.Goals as goal

pub forward-requires-clause-stands : goal.forward-requires-clause-stands
forward-requires-clause-stands c = record {
  given = _;
  stands = rewound_stands _ _ _ _ c.args.plan.now _ c.in_ok-m.ensures.stands c.in_ok-m.ensures.turn c.rewind.ensures.first c.rewind.ensures.plan;
  reaches = c.requires.reaches;
}

pub returns-clause-stands : goal.returns-clause-stands
returns-clause-stands c =
    c.in_ok-forward.ensures.stands _ (rewound_stands _ _ _ _ c.args.plan.now _ c.in_ok-m.ensures.stands c.in_ok-m.ensures.turn c.rewind.ensures.first c.rewind.ensures.plan)
