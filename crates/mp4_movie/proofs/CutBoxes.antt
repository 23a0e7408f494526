-- A box that is not whole has no bytes.
use Rattle.std.proofs.Common.{◌≡◌, ℕ, false, List, None, Some, Err, refl, sym, ap}
use Rattle.std.specs.declared.option.Option.{Option}
use Rattle.mp4_frame.specs.FourCC.{four_cc_of}
use Rattle.mp4_frame.specs.Reading.{End}
use Rattle.mp4_frame.specs.declared.codes.TheConstants as codes
use Rattle.mp4_frame.specs.declared.error.Error.TheVariants as refusals
use Rattle.mp4_frame.specs.declared.four_cc.FourCC.{FourCC}
use Rattle.mp4_movie.specs.Descriptions.{bytes_at}
use Rattle.mp4_movie.specs.Problems.{Faulty}
use Rattle.mp4_movie.specs.Trafs.{ReturnsForAs}
use Rattle.mp4_movie.specs.declared.error.BoxError.TheVariants as faults
use Rattle.mp4_movie.specs.declared.error.MovieError.TheVariants as errors
use Rattle.mp4_walk.specs.Tops.{is_whole}
use Rattle.mp4_walk.specs.declared.tree_box.TreeBox.{TreeBox}

pub cut_box : {A : Type 0} (view : A → List ℕ) (bytes : Option (List ℕ)) (x : TreeBox) (code : FourCC)
    → is_whole x.state ≡ false → code ≡ four_cc_of codes.STSD
    → ReturnsForAs view bytes (Err (errors.Box (faults.Fault code x.position refusals.IoError)))
    (λ file. bytes_at codes.STSD file x)
cut_box {A} view None x code not is = tt
cut_box {A} view (Some file) x code not is = (
  Faulty (four_cc_of codes.STSD) x.position End,
  rw not refl,
  (End, refl, ap (λ (c : FourCC). Faulty c x.position End) (sym is)),
)
