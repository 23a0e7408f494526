use Rattle.std.specs.Option.{option_map}
use Rattle.mp4_info.proofs.TagSteps.{tags_begin, tags_end, tags_on}
use Rattle.mp4_info.proofs.file_json.put_tags.Goals as goal

pub loop-index-init : goal.loop-index-init
loop-index-init c = tags_begin c.args.sink.now.out c.args.tags.now

pub loop-index-preserved : goal.loop-index-preserved
loop-index-preserved c =
    tags_on c.args.sink.now.out c.loop-index.sink.out c.put_tag.new.sink.out c.args.tags.now c.loop-index.index
    c.index-tags-index.result (option_map (λ name. name.now) c.name_by.result) c.loop-index-test.true
    c.index-tags-index.is c.loop-index.invariant c.in_ok-put_tag.ensures

pub returns : goal.returns
returns c =
    tags_end c.args.sink.now.out c.loop-index.sink.out c.args.tags.now c.loop-index.index c.loop-index-test.false
    c.loop-index.invariant
