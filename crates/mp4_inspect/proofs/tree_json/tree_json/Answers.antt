use Rattle.std.proofs.Common.{◌≡◌, ◌-◌, ◌≤◌, length, ap, arith, rules}
use Rattle.mp4_inspect.proofs.Json.{leads_none, leads_more, leads_all, is_json, room_after}
use Rattle.mp4_inspect.proofs.tree_json.tree_json.Goals as goal

pub loop-found-init : goal.loop-found-init
loop-found-init g c = record {
  written =
      leads_none g.B.Shown.known g.B.Shown.named_reading g.B.BoxFields.shown c.args.tree.now.bytes c.args.boxes.now
      c.begin_file.new.sink.out;
  room = search rules;
  kept = search rules;
}

pub loop-found-preserved : goal.loop-found-preserved
loop-found-preserved g c = record {
  written =
      rw c.either-faulty.ensures
      (leads_more g.B.Shown.known g.B.Shown.named_reading g.B.BoxFields.shown c.args.tree.now.bytes c.args.boxes.now
      c.loop-found.found-index c.loop-found.begun c.write_box.new.begun _ c.loop-found.faulty c.in_ok-here.here
      c.begin_file.new.sink.out c.loop-found.sink.out c.write_box.new.sink.out c.loop-found.tree.bytes
      (ap (λ t. t.bytes) c.loop-found.invariant.kept) (search rules) c.loop-found.invariant.written
      c.in_ok-here.ensures.json c.in_ok-here.ensures.begun);
  room =
      room_after c.write_box.new.begun c.loop-found.begun c.loop-found.found-index _ _ c.in_ok-here.ensures.begun
      c.loop-found.invariant.room;
  kept = search rules;
}

pub returns : goal.returns
returns g c =
    let known = g.B.Shown.known in
    let reading = g.B.Shown.named_reading in
    let shown = g.B.BoxFields.shown in
    let bytes = c.args.tree.now.bytes in
    let boxes = c.args.boxes.now in
    let all : length boxes ≤ c.loop-found.found-index = search rules in
    let same : c.loop-found.begun - 0 ≡ c.loop-found.begun = omega arith in
    record {
      json =
          is_json known reading shown bytes g.B.BoxFields.whole c.args.name.now c.in_ok-or_memory-4.field-0.items
          boxes c.loop-found.faulty
          c.new-sink.result.out c.begin_file.new.sink.out c.end_levels.new.sink.out c.end_file.new.sink.out
          c.new-sink.ensures.before c.new-sink.ensures.tokens
          (rw c.in_ok-or_memory.ensures.ok at c.begin_file.ensures.tokens)
          (leads_all known reading shown bytes boxes c.loop-found.found-index c.loop-found.begun
          (c.loop-found.begun - 0)
          c.loop-found.faulty c.begin_file.new.sink.out c.loop-found.sink.out c.end_levels.new.sink.out all same
          c.loop-found.invariant.written
          (rw c.in_ok-or_memory-2.ensures.ok at c.end_levels.ensures.tokens))
          (rw c.in_ok-or_memory-3.ensures.ok at c.end_file.ensures.tokens)
          (λ before. rw c.in_ok-or_memory-4.ensures.ok at (c.json_text.ensures.text before));
    }
