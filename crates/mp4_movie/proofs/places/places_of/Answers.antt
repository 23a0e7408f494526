use Rattle.std.proofs.Common.{◌≡◌, ℕ, drop, ◌++◌, ◌∙◌, List, None, Some, map, sym, ap, arith, subst, append-nil}
use Rattle.std.specs.declared.option.Option.{Option}
use Rattle.mp4_frame.specs.FourCC.{four_cc_of}
use Rattle.mp4_frame.specs.declared.codes.TheConstants as codes
use Rattle.mp4_walk.specs.declared.tree_box.TreeBox.{TreeBox}
use Rattle.mp4_movie.specs.Levels.{Found, all_in, after_of, first_in}
use Rattle.mp4_movie.specs.Movies.{found_at, traks}
use Rattle.mp4_movie.specs.declared.places.TrakPlace.{TrakPlace}
use Rattle.mp4_movie.proofs.Levels.{EndsIn, end_of_end, ends_in, next_in, one_more}
use Rattle.mp4_movie.proofs.places.places_of.Goals as goal

pub loop-place-init : goal.loop-place-init
loop-place-init c =
    let boxes = c.args.boxes.now in
    let f : Found = record { box = c.in-Some.movie.found; after = c.in-Some.movie.after.now } in
    let is : Some f ≡ first_in 0 (four_cc_of codes.MOOV) boxes = c.in-Some.ensures.first in
    let end : EndsIn boxes (Some f) =
    subst (λ (o : Option Found). EndsIn boxes o) (sym is) (ends_in 0 (four_cc_of codes.MOOV) boxes) in
    record {
      all = ap (λ (ps : List TrakPlace). map (found_at boxes) ps ++ all_in 1 (four_cc_of codes.TRAK) f.after)
          c.new-places.ensures.items
          ∙ ap (λ (o : Option Found). all_in 1 (four_cc_of codes.TRAK) (after_of o)) is;
      ends = end.0;
      few = omega (arith, end.1);
    }

pub loop-place-preserved : goal.loop-place-preserved
loop-place-preserved c =
    let boxes = c.args.boxes.now in
    let rest = c.loop-place.rest.now in
    let old = c.loop-place.places.items in
    let f : Found = record { box = c.in-Some-first_in.place.found; after = c.in-Some-first_in.place.after.now } in
    let p : TrakPlace = record { found = f.box; first = c.saturating_sub.result } in
    let is : Some f ≡ first_in 1 (four_cc_of codes.TRAK) rest = c.in-Some-first_in.ensures.first in
    let end : EndsIn rest (Some f) =
    subst (λ (o : Option Found). EndsIn rest o) (sym is) (ends_in 1 (four_cc_of codes.TRAK) rest) in
    let ends = end_of_end boxes rest f.after c.loop-place.invariant.ends
    (omega (arith, c.loop-place.invariant.few)) end.0 (omega (arith, end.1)) in
    let same : found_at boxes p ≡ f =
    ap (λ (n : ℕ). let g : Found = record { box = f.box; after = drop n boxes } in g) c.saturating_sub.ensures
    ∙ ap (λ (xs : List TreeBox). let g : Found = record { box = f.box; after = xs } in g) ends in
    record {
      all = ap (λ (ps : List TrakPlace). map (found_at boxes) ps ++ all_in 1 (four_cc_of codes.TRAK) f.after)
          c.in_ok-push.ensures.items
          ∙ one_more (four_cc_of codes.TRAK) boxes rest old p f (traks boxes) is same c.loop-place.invariant.all;
      ends = ends;
      few = omega (arith, end.1, c.loop-place.invariant.few);
    }

pub returns : goal.returns
returns c =
    let boxes = c.args.boxes.now in
    let rest = c.loop-place.rest.now in
    sym (append-nil (map (found_at boxes) c.loop-place.places.items))
    ∙ ap (λ (fs : List Found). map (found_at boxes) c.loop-place.places.items ++ fs)
    (sym (next_in 1 (four_cc_of codes.TRAK) rest None c.in_default-first_in.ensures.first))
    ∙ c.loop-place.invariant.all
