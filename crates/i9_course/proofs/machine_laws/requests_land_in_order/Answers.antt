use Rattle.i9_course.proofs.Landed.{request_last}
use Rattle.i9_course.proofs.machine_laws.requests_land_in_order.Goals as goal

pub returns : goal.returns
returns c = request_last
