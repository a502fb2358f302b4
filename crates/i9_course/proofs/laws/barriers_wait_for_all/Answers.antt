use Rattle.i9_course.proofs.Barriers.{next_barrier, record_barrier, end_barrier}
use Rattle.i9_course.proofs.laws.barriers_wait_for_all.Goals as goal

pub returns : goal.returns
returns c = record {
  need = next_barrier;
  kind = record_barrier;
  end = end_barrier;
}
