use Rattle.std.proofs.Common.{◌≡◌, ℕ, List, ◌∷◌, map, ap, ◌∙◌}
use Rattle.mp4_c.proofs.TrackRows.{first_put}
use Rattle.mp4_c.proofs.file_info.put_brands.Goals as goal
use Rattle.mp4_frame.specs.FourCC.{number_of}
use Rattle.mp4_frame.specs.declared.four_cc.FourCC.{FourCC}

pub returns : goal.returns
returns c =
    let others = map number_of c.in-Some.brands.compatible_brands in
    let put : c.put_codes.new.out ≡ others =
    c.put_codes.ensures ∙ ap (λ (cs : List FourCC). map number_of cs) c.as_slice.ensures in
    rw c.in-Some.is
    (first_put c.args.out.now c.put_codes.new.out c.from.result others (rw c.in-Some.is at c.requires) put
    ∙ ap (λ (n : ℕ). n ∷ others) c.from.ensures)
