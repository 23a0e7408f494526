-- The brands and the tracks of a file for C are put into arrays, one after the other.
use Rattle.std.proofs.Common.{◌≡◌, ℕ, ◌+◌, ◌-◌, ◌<◌, List, [], ◌∷◌, ◌++◌, length, get_or, take, sym, ap, ◌∙◌}
use Rattle.std.proofs.Common.{append-nil, arith}
use Rattle.std.specs.Prelude.{slice_set}
use Rattle.std.proofs.lemmas.List.{drop_all, take_more, take_more_set}
use Rattle.std.proofs.lemmas.List.Concat.{flat_map-append}
use Rattle.std.proofs.lemmas.List.Sums.{sum_by-cons, sum_by_more}
use Rattle.mp4_c.specs.FileInfos.{text_size, track_infos, track_texts}
use Rattle.mp4_c.specs.TrackInfos.{track_info, track_text}
use Rattle.mp4_c.specs.declared.track_info.TrackInfo.{TrackInfo}
use Rattle.mp4_info.specs.declared.facts.TrackFacts.{TrackFacts}
use borrow.Rule.Slice.PartMut.{put_mid}

-- The first number is put before the others.
pub first_put : (out new : List ℕ) (code : ℕ) (codes : List ℕ) → length out ≡ length (code ∷ codes) → new ≡ codes
    → put_mid 1 (length (slice_set out 0 code) - 1) (slice_set out 0 code) new ≡ code ∷ codes
first_put [] new code codes long same = absurd (omega (arith, long))
first_put (x ∷ xs) new code codes long same =
    ap (λ (ys : List ℕ). code ∷ ys)
    (ap (λ (ys : List ℕ). new ++ ys) (drop_all (length (code ∷ xs) - 1) xs (omega arith))
    ∙ append-nil new ∙ same)

infos_append : (at : ℕ) (ts : List TrackFacts) (t : TrackFacts)
    → track_infos at (ts ++ t ∷ []) ≡ track_infos at ts ++ track_info (at + text_size ts) t ∷ []
infos_append at [] t =
    let none : at ≡ at + 0 = omega arith in
    ap (λ (n : ℕ). track_info n t ∷ []) none
infos_append at (x ∷ xs) t =
    let size = length (track_text x) in
    let more : at + size + text_size xs ≡ at + text_size (x ∷ xs) =
    omega (arith, sum_by-cons (λ (t : TrackFacts). length (track_text t)) x xs) in
    ap (λ (rs : List TrackInfo). track_info at x ∷ rs)
    (infos_append (at + size) xs t
    ∙ ap (λ (n : ℕ). track_infos (at + size) xs ++ track_info n t ∷ []) more)

-- The texts of one more track are after those of the tracks before it.
pub size_more : (ts : List TrackFacts) (i at next : ℕ) (t : TrackFacts) → i < length ts → t ≡ get_or ts i t
    → at ≡ text_size (take i ts) → next ≡ at + length (track_text t) → next ≡ text_size (take (i + 1) ts)
size_more ts i at next t lt is before after =
    let size : length (track_text (get_or ts i t)) ≡ length (track_text t) =
    ap (λ (x : TrackFacts). length (track_text x)) (sym is) in
    omega (arith, sum_by_more (λ (x : TrackFacts). length (track_text x)) ts i t lt, size)

-- One more track is put into the array.
pub rows_more : (ts : List TrackFacts) (i at : ℕ) (t : TrackFacts) (row : TrackInfo) (rows : List TrackInfo)
    → i < length ts → i < length rows → t ≡ get_or ts i t → at ≡ text_size (take i ts)
    → take i rows ≡ track_infos 0 (take i ts) → row ≡ track_info at t
    → take (i + 1) (slice_set rows i row) ≡ track_infos 0 (take (i + 1) ts)
rows_more ts i at t row rows lt within is before first own =
    let start : at ≡ 0 + text_size (take i ts) = omega arith in
    let all : take (i + 1) ts ≡ take i ts ++ t ∷ [] =
    take_more ts i t lt ∙ ap (λ (x : TrackFacts). take i ts ++ x ∷ []) (sym is) in
    take_more_set rows i row within
    ∙ ap (λ (rs : List TrackInfo). rs ++ row ∷ []) first
    ∙ ap (λ (r : TrackInfo). track_infos 0 (take i ts) ++ r ∷ []) (own ∙ ap (λ (n : ℕ). track_info n t) start)
    ∙ sym (infos_append 0 (take i ts) t)
    ∙ sym (ap (λ (xs : List TrackFacts). track_infos 0 xs) all)

-- The texts of one more track are put into the array.
pub texts_more : (ts : List TrackFacts) (i : ℕ) (t : TrackFacts) (old new : List ℕ) → i < length ts → t ≡ get_or ts i t
    → old ≡ track_texts (take i ts) → new ≡ old ++ track_text t → new ≡ track_texts (take (i + 1) ts)
texts_more ts i t old new lt is before put =
    let all : take (i + 1) ts ≡ take i ts ++ t ∷ [] =
    take_more ts i t lt ∙ ap (λ (x : TrackFacts). take i ts ++ x ∷ []) (sym is) in
    put ∙ ap (λ (xs : List ℕ). xs ++ track_text t) before
    ∙ ap (λ (xs : List ℕ). track_texts (take i ts) ++ xs) (sym (append-nil (track_text t)))
    ∙ sym (flat_map-append track_text (take i ts) (t ∷ []))
    ∙ sym (ap (λ (xs : List TrackFacts). track_texts xs) all)
