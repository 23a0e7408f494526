use Rattle.std.proofs.Common.{◌<◌, ◌^◌}
use Rattle.std.proofs.lemmas.List.Elements.{All-from_recursion, recursion_from_All}
use Rattle.mp4_compose.proofs.StableLists.{own_normal_forms, are_writable, read_lists_are_stable}
use Rattle.mp4_compose.proofs.list_laws.read_list_is_stable.Goals as goal

pub returns-clause-normal : goal.returns-clause-normal
returns-clause-normal g c =
    let b = g.B.Mp4Box.format in
    let s = g.B.StreamBox in
    λ bytes o vs are e. own_normal_forms b s.known s.named_reading vs
    (read_lists_are_stable b s.known s.named_reading g.met.B.StableBox.stable bytes are o vs e)

pub returns-clause-writable : goal.returns-clause-writable
returns-clause-writable g c =
    let b = g.B.Mp4Box.format in
    let s = g.B.StreamBox in
    λ bytes o vs are e small. All-from_recursion b.Writable vs
    (are_writable b s.known s.named_reading vs
    (read_lists_are_stable b s.known s.named_reading g.met.B.StableBox.stable bytes are o vs e)
    (recursion_from_All (λ v. b.size v < 2 ^ 32) vs small))
