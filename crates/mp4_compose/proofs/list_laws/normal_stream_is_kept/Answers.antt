use Rattle.std.proofs.Common.{Ok, [], ap, ◌∙◌, arith}
use Rattle.std.proofs.lemmas.List.Elements.{recursion_from_All}
use Rattle.mp4_frame.proofs.RoundTrip.{whole}
use Rattle.mp4_compose.proofs.StableLists.{own_normal_forms, read_lists_are_stable}
use Rattle.mp4_compose.proofs.list_laws.normal_stream_is_kept.Goals as goal

pub returns : goal.returns
returns g c =
    let b = g.B.Mp4Box.format in
    let m = g.met.B.WriteBox in
    let s = g.B.StreamBox in
    let t = g.met.B.StreamBox in
    λ bytes o vs are e w top.
    whole b.name b.size b.Writable b.bytes b.normal s.known s.named_reading m.write_laws.header m.write_laws.normal_form
    t.own_name t.read_back vs (recursion_from_All b.Writable vs w) [] (omega arith)
    ∙ ap (λ us. Ok us) (own_normal_forms b s.known s.named_reading vs
    (read_lists_are_stable b s.known s.named_reading g.met.B.StableBox.stable bytes are o vs e))
