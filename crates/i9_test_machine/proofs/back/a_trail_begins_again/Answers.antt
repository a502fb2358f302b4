use Rattle.i9_test_machine.proofs.back.a_trail_begins_again.Goals as goal

pub replay-requires-clause-trail : goal.replay-requires-clause-trail
replay-requires-clause-trail g c = c.new-trail.ensures _

pub go_back-requires-clause-trail : goal.go_back-requires-clause-trail
go_back-requires-clause-trail g c =
    rw (c.in_ok-again.ensures.events, c.in_ok-m.ensures.events)
    (c.keep.ensures _ c.in_ok-m.ensures.trail c.in_ok-m.ensures.stands)
