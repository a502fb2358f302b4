-- Records that agree need the same.
use Rattle.std.proofs.Common.{◌≡◌, ℕ, Bool, Option, arith}
use Rattle.i9_model.specs.Alike.{NextsAgree}
use Rattle.i9_model.specs.HeldFrames.{Cache}
use Rattle.i9_model.specs.Run.{Next}
use Rattle.i9_course.specs.NeedOf.{need_of, need_ahead}

-- what comes next needs the same in states that agree
pub next-need-agree : (hides : Bool) (asked : Option ℕ) (c : Cache) (o p : Next) → NextsAgree hides o p → need_ahead asked c p ≡ need_ahead asked c o
unfolding need_of
next-need-agree hides asked c o p agree = grind arith
