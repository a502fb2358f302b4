use Rattle.std.proofs.Common.{get_or, sym, ◌∙◌, arith}
use Rattle.i9_model.specs.Interrupts.{request_hazard}
use Rattle.i9_memory.specs.Memory.{memory_of}
use Rattle.i9_watch.specs.Watch.{frames_of}
use Rattle.i9_ints.proofs.Storing.{priority_room, pending_room, room_kept, planned_priority, planned_pending, planned_memory, planned_frames}
use Rattle.i9_ints.proofs.state.Ints.request.Goals as goal

pub store-requires : goal.store-requires
store-requires c =
    let table = c.args.table in
    let v = c.args.v in
    let ps = c.in_ok-priority.field-0 in
    priority_room c.args.m.now table v (get_or ps 0 (0, 0)).0 (omega arith) c.requires
    (planned_priority (memory_of c.args.m.now) table v (request_hazard (frames_of c.args.w.now) table v) ps (sym c.in_ok-priority.was ∙ c.plan_request.ensures))

pub store-requires-2 : goal.store-requires-2
store-requires-2 c =
    let table = c.args.table in
    let v = c.args.v in
    let ps = c.in_ok-priority.field-0 in
    let at = planned_pending (memory_of c.args.m.now) table v (request_hazard (frames_of c.args.w.now) table v) ps (sym c.in_ok-priority.was ∙ c.plan_request.ensures) in
    room_kept c.args.m.now c.store.new.m (get_or ps 1 (0, 0)).0 (pending_room c.args.m.now table v (get_or ps 1 (0, 0)).0 (omega arith) c.requires at) c.store.ensures.room

pub returns-clause-memory : goal.returns-clause-memory
returns-clause-memory c =
    let table = c.args.table in
    let v = c.args.v in
    planned_memory (memory_of c.args.m.now) table v (request_hazard (frames_of c.args.w.now) table v) c.in_ok-priority.field-0 (sym c.in_ok-priority.was ∙ c.plan_request.ensures)
    (memory_of c.store.new.m) (memory_of c.store-2.new.m) c.store.ensures.memory c.store-2.ensures.memory

pub returns-clause-frames : goal.returns-clause-frames
returns-clause-frames c =
    let table = c.args.table in
    let v = c.args.v in
    planned_frames (memory_of c.args.m.now) table v (request_hazard (frames_of c.args.w.now) table v) c.in_ok-priority.field-0 (sym c.in_ok-priority.was ∙ c.plan_request.ensures)
    (frames_of c.args.w.now) (frames_of c.store.new.w) (frames_of c.store-2.new.w) c.store.ensures.frames c.store-2.ensures.frames
