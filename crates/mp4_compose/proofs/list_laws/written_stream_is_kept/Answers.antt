use Rattle.std.proofs.Common.{◌≡◌, [], map, sym, subst, ◌∙◌, ap, arith}
use Rattle.std.specs.Prelude.{All}
use Rattle.std.proofs.lemmas.List.Elements.{All-from_recursion, recursion_from_All}
use Rattle.mp4_frame.proofs.Checks.{is_value}
use Rattle.mp4_frame.proofs.RoundTrip.{whole}
use Rattle.mp4_frame.specs.Streams.{stream}
use Rattle.mp4_compose.proofs.StableLists.{normals_are_writable, normals_have_same_bytes}
use Rattle.mp4_compose.proofs.list_laws.written_stream_is_kept.Goals as goal

pub returns-clause-writable : goal.returns-clause-writable
returns-clause-writable g c =
    let b = g.B.Mp4Box.format in
    let m = g.met.B.WriteBox in
    let s = g.B.StreamBox in
    let t = g.met.B.StreamBox in
    λ vs ws w top e.
    let each = recursion_from_All b.Writable vs w in
    let same : map b.normal vs ≡ ws =
    is_value (map b.normal vs) ws
    (sym (whole b.name b.size b.Writable b.bytes b.normal s.known s.named_reading m.write_laws.header
    m.write_laws.normal_form t.own_name t.read_back vs each [] (omega arith)) ∙ e) in
    subst (All b.Writable) same
    (All-from_recursion b.Writable (map b.normal vs) (normals_are_writable b m.write_laws vs each))

pub returns-clause-bytes : goal.returns-clause-bytes
returns-clause-bytes g c =
    let b = g.B.Mp4Box.format in
    let m = g.met.B.WriteBox in
    let s = g.B.StreamBox in
    let t = g.met.B.StreamBox in
    λ vs ws w top e.
    let each = recursion_from_All b.Writable vs w in
    let same : map b.normal vs ≡ ws =
    is_value (map b.normal vs) ws
    (sym (whole b.name b.size b.Writable b.bytes b.normal s.known s.named_reading m.write_laws.header
    m.write_laws.normal_form t.own_name t.read_back vs each [] (omega arith)) ∙ e) in
    sym (ap (stream b.bytes) same) ∙ normals_have_same_bytes b m.write_laws vs each
