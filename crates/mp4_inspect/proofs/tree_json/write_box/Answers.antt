use Rattle.mp4_inspect.proofs.tree_json.write_box.Goals as goal

pub returns-clause-json : goal.returns-clause-json
returns-clause-json g c =
    let (rest, is_rest, put) = rw c.in_ok-or_memory.ensures.ok at c.put_box.ensures.tokens in
    (rest, (c.in_ok-content.content, c.in_ok-content.ensures.shows, is_rest, c.is_faulty.ensures), put)
