use Rattle.mp4_inspect.proofs.tree_json.end_box.Goals as goal

pub returns : goal.returns
returns c = record { tokens = (c.in_ok-end_object.ensures.room.0, c.in_ok-end_object.ensures.ok) }
