use Rattle.std.specs.Prelude.{codes}
use Rattle.mp4_info.specs.Headers.{language}
use Rattle.mp4_info.specs.Members.{array, member}
use Rattle.mp4_info.specs.TrackJson.{duration_pair, entry_members, header_members, language_value, media_members}
use Rattle.mp4_info.specs.TrackJson.{reference_items, sample_members, track_members}
use Rattle.mp4_info.proofs.Sequences.{puts_7}
use Rattle.mp4_info.proofs.file_json.put_members.Goals as goal

pub returns : goal.returns
unfolding track_members
returns c =
    let t = c.args.facts.now in
    puts_7 c.args.sink.now.out c.put_headers.new.sink.out c.put_entry.new.sink.out c.put_durations.new.sink.out
    c.put_samples.new.sink.out c.put_language.new.sink.out c.put_media.new.sink.out c.put_references.new.sink.out
    (header_members c.args.tracks.now t.headers) (entry_members t.entry) (duration_pair t) (sample_members t.samples)
    (member (codes "language") (language_value (language t.headers))) (media_members t t.entry)
    (member (codes "references") (array (reference_items t.headers.references))) c.in_ok-put_headers.ensures
    c.in_ok-put_entry.ensures c.in_ok-put_durations.ensures c.in_ok-put_samples.ensures c.in_ok-put_language.ensures
    c.in_ok-put_media.ensures c.in_ok-put_references.ensures
