use Rattle.std.proofs.Common.{ap, subst, ◌∙◌}
use Rattle.mp4_inspect.specs.TreeLines.{IsEnd, with_entry_name}
use Rattle.mp4_show.specs.Lines.{TextState, state_of}
use Rattle.mp4_inspect.proofs.tree_text.put_rest.Goals as goal

pub returns : goal.returns
returns g c =
    let (words, told) = c.in_ok-put_track.ensures in (
      words,
      subst (λ (s : TextState).
          IsEnd g.B.BoxFields.shown c.args.found.now c.args.content.now s (state_of c.put_end.new.sink))
          (c.in_ok-put_entry_name.ensures ∙ ap (with_entry_name c.args.found.now) told) c.in_ok-put_end.ensures,
    )
