-- What is known of an instruction can be known of it: whether it has a data access, and how long that waits at most.
use Rattle.std.proofs.Common.{◌≡◌, ℕ, ◌≤◌, Bool, false, List, [], ◌∷◌, Option, Some, None, refl, sym, ◌∙◌, arith}
use Rattle.i9_watch.proofs.Marking.{or_false}
use Rattle.std.specs.Prelude.{is_some, ◌||◌, find}
use Rattle.std.specs.List.{list_any}
use Rattle.i9_isa.specs.declared.op.Op.{Op}
use Rattle.i9_isa.specs.declared.op.Op.TheVariants.{Lda, Sysctl}
use Rattle.i9_isa.specs.declared.inst.Inst.{Inst}
use Rattle.i9_isa.specs.declared.size.Transfer.{Transfer}
use Rattle.i9_isa.specs.Transfers.{transfer_of}
use Rattle.i9_model.specs.Memory.{Memory}
use Rattle.i9_model.specs.State.{State}
use Rattle.i9_model.specs.Step.{Message, AsksNothing, asked_message}
use Rattle.i9_model.specs.Access.{Access, Reads, Writes, Changes, message_access, access_by_name, access_by, access_of, data_of}
use Rattle.i9_model.specs.Needs.{has_access}
use Rattle.i9_course.specs.NeedOf.{access_waits, stands_alone, facts_of}
use Rattle.i9_need.specs.Known.{AreFacts}
use Rattle.i9_plan.specs.Names.{is_atomic}
use Rattle.i9_plan.specs.Plain.{plain_facts}

-- one passes a test where a first one does
pub any_found : {A : Type 0} (p : A → Bool) (xs : List A) → is_some (find p xs) ≡ list_any p xs
any_found p [] = refl
any_found p (x ∷ xs) = let rest = any_found p xs in grind arith

-- ---- a data access

accesses : (op : Op) → (is_atomic op || is_some (transfer_of op)) ≡ has_access op
accesses Lda = refl
accesses _ = refl

message_data : (m : Message) (i : Inst) (s : State) → is_some (data_of (message_access m i s)) ≡ false
message_data AsksNothing i s = refl
message_data _ i s = refl

named_data : (op : Op) (i : Inst) (s : State) → is_some (data_of (access_by_name op i s)) ≡ is_atomic op
named_data Sysctl i s = message_data (asked_message i s) i s
named_data Lda i s = refl
named_data _ i s = refl

data_by : (t : Option Transfer) (i : Inst) (s : State)
    → is_some (data_of (access_by t i s)) ≡ (is_atomic i.op || is_some t)
data_by None i s = named_data i.op i s ∙ or_false (is_atomic i.op)
data_by (Some t) i s = grind arith

pub known_access : (i : Inst) (s : State) → is_some (data_of (access_of i s)) ≡ has_access i.op
known_access i s = data_by (transfer_of i.op) i s ∙ accesses i.op

pub none_of : {A : Type 0} (o : Option A) → is_some o ≡ false → o ≡ None
none_of None e = refl
none_of (Some x) e = absurd cc

-- an instruction without a data access
pub no_access : (i : Inst) (s : State) → has_access i.op ≡ false → data_of (access_of i s) ≡ None
no_access i s h = none_of (data_of (access_of i s)) (known_access i s ∙ h)

-- ---- its waits

no_data_waits : (m : Memory) (x : Access) → data_of x ≡ None → access_waits m x ≡ 0
no_data_waits m (Reads a n) h = absurd cc
no_data_waits m (Writes a n) h = absurd cc
no_data_waits m (Changes a n) h = absurd cc
no_data_waits m _ h = refl

pub no_waits : (i : Inst) (s : State) → has_access i.op ≡ false → access_waits s.memory (access_of i s) ≡ 0
no_waits i s h = no_data_waits s.memory (access_of i s) (no_access i s h)

pub ruleset no_access_rules = (no_access, no_waits)

pub known_waits : (m : Memory) (x : Access) → access_waits m x ≤ 62
known_waits m x = grind arith

-- ---- without a data access

pub plain_are : (i : Inst) (ip : ℕ) → has_access i.op ≡ false → AreFacts i (plain_facts ip)
plain_are i ip h = record { frames = omega arith; one = λ _. omega arith; waits = omega arith; access = sym h }

pub plain_known : (i : Inst) (s : State) → has_access i.op ≡ false → stands_alone s ≡ false → facts_of i s 0 false false ≡ plain_facts s.ip
plain_known i s h a = rw (no_access i s h, no_waits i s h, a)
