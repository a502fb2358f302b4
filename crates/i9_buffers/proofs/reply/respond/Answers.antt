use Rattle.std.proofs.Common.{◌≡◌, ◌<◌, ◌≤◌, ℕ, List, [], ◌++◌, length, map, sym, ap, ◌∙◌, subst}
use Rattle.std.specs.String.{string_bytes}
use Rattle.i9_outside.specs.MemSink.{written_bytes, calls_of, IsSureOf}
use Rattle.i9_tool.specs.CommandLine.{command_of}
use Rattle.i9_tool.specs.Outcome.{Gives}
use Rattle.i9_tool.specs.Fetches.{rose_in}
use Rattle.i9_buffers.specs.SlotFiles.{slot_file, miss_count}
use Rattle.i9_buffers.specs.Request.{RequestGives, IsFrontOf}
use Rattle.i9_buffers.proofs.Responses.{requested, none_planned, front_of, Puts, whole_reply, cut_reply, fits_reply}
use Rattle.i9_buffers.proofs.reply.respond.Goals as goal

-- the request that is answered
abbrev GivenTo : goal.After-drop-asked-2 → ℕ → List ℕ → Type 0
GivenTo c = RequestGives c.args.words.now c.args.first.now c.args.second.now c.args.third.now

-- what the command gave for its words and files is given for the request
given_to : (c : goal.After-drop-asked-2) (code : ℕ) (text : List ℕ)
    → Gives (slot_file c.new-files.result) (rose_in (λ s n. miss_count s) c.new-files.result c.i960-status.new.files) (command_of (map string_bytes c.in-Ok.asked.items)) code text
    → GivenTo c code text
given_to c code text g =
    requested c.where_none_rose.ensures.none c.where_none_rose.ensures.some c.args.words.now c.args.first.now c.args.second.now c.args.third.now (map string_bytes c.in-Ok.asked.items)
    (slot_file c.new-files.result) (miss_count c.new-files.result) (miss_count c.i960-status.new.files)
    c.in-Ok.ensures c.new-files.ensures.files c.new-files.ensures.misses (λ all. (c.i960-status.ensures.calm_files all).1 []) code text g

-- nothing was written before
start : (c : goal.After-drop-asked-2) → written_bytes c.room.new.self ≡ []
start c = c.room.ensures.bytes ∙ c.new-sink.ensures.bytes

-- the bytes are a whole text
is_whole : (c : goal.After-drop-asked-2) → c.i960-status.result.code < 6 → GivenTo c c.i960-status.result.code c.bytes.result.now
is_whole c low =
    let w = c.i960-status.ensures.whole low in
    let same : c.bytes.result.now ≡ w.text = c.bytes.ensures ∙ w.appended ∙ ap (λ (xs : List ℕ). xs ++ w.text) (start c) in
    subst (λ (t : List ℕ). GivenTo c c.i960-status.result.code t) (sym same) (given_to c c.i960-status.result.code w.text w.is_given)

-- or a front of one
is_front : (c : goal.After-drop-asked-2) → 6 ≤ c.i960-status.result.code → IsFrontOf (GivenTo c) c.bytes.result.now
is_front c high =
    let f = c.i960-status.ensures.front high in
    subst (λ (t : List ℕ). IsFrontOf (GivenTo c) t) (sym c.bytes.ensures)
    (front_of (GivenTo c) f.code f.text (written_bytes c.room.new.self) (written_bytes c.i960-status.new.out) (given_to c f.code f.text f.is_given) (start c) f.appended)

puts : (c : goal.After-drop-asked-2) → Puts c.i960-status.result.code (length c.args.out.now) c.put.result.code c.put.result.length c.bytes.result.now c.put.new.out
puts c = record { whole = c.put.ensures.whole; short = c.put.ensures.short }

-- a text that fits is sure to be written
is_sure : (c : goal.After-drop-asked-2) (text : List ℕ) → length text ≤ length c.args.out.now → IsSureOf c.room.new.self (length text)
is_sure c text fit = record {
  has_room = subst (λ (n : ℕ). length text ≤ n) (sym c.in-Ok-room.ensures.ok) fit;
  none_fails = none_planned (calls_of c.room.new.self) (c.room.ensures.calls ∙ c.new-sink.ensures.calls);
}

pub returns-clause-whole : goal.returns-clause-whole
returns-clause-whole c = λ low. whole_reply (GivenTo c) c.i960-status.result.code (length c.args.out.now) c.put.result.code c.put.result.length c.bytes.result.now c.put.new.out (puts c) (is_whole c) low

pub returns-clause-cut : goal.returns-clause-cut
returns-clause-cut c = λ high. cut_reply (GivenTo c) c.i960-status.result.code (length c.args.out.now) c.put.result.code c.put.result.length c.bytes.result.now c.put.new.out (puts c) (is_front c) high

pub returns-clause-fits : goal.returns-clause-fits
returns-clause-fits c = λ fit.
    let calm = c.i960-status.ensures.calm_sink (λ code text g. is_sure c text (fit code text (given_to c code text g))) in
    fits_reply (GivenTo c) c.i960-status.result.code (length c.args.out.now) c.put.result.code c.put.result.length c.bytes.result.now c.put.new.out (puts c) (is_whole c) (is_front c) fit calm.0
