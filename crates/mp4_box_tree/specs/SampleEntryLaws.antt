-- Written fields of a sample entry are read back.
use Rattle.std.proofs.Common.{◌≡◌, ℕ, ◌<◌, ◌^◌, List, [], ◌++◌, length, take, drop, refl, sym, ap, ◌∙◌}
use Rattle.std.proofs.Common.{append_assoc, arith, length-append, lit≤}
use Rattle.std.proofs.lemmas.List.{take_at, drop_at, append-nil}
use Rattle.mp4_frame.specs.Bytes.{number, be_bytes, bytes_of_fields, FieldsFit}
use Rattle.mp4_frame.proofs.Fields.{found, numbers-fields, number-be_bytes, length-fields, length-be_bytes}
use Rattle.mp4_frame.proofs.Numbers.{number-after}
use Rattle.mp4_box_tree.specs.Fronts.{audio_fields}
use Rattle.mp4_box_tree.specs.SampleEntry.{visual_at, visual_in, front_visual, bytes_visual}
use Rattle.mp4_box_tree.specs.SampleEntry.{audio_at, common_fields, versioned_fields, bytes_audio}
use Rattle.mp4_box_tree.specs.declared.sample_entry.AudioFields.{AudioFields}
use Rattle.mp4_box_tree.specs.declared.sample_entry.AudioVersion.{AudioVersion}
use Rattle.mp4_box_tree.specs.declared.sample_entry.AudioVersion.TheVariants as versions
use Rattle.mp4_box_tree.specs.declared.sample_entry.VisualFields.{VisualFields}

abbrev after_front : VisualFields → List ℕ
after_front v = v.compressorname ++ (be_bytes 2 v.depth ++ be_bytes 2 0xffff)

regrouped : (v : VisualFields) → bytes_visual v ≡ bytes_of_fields (front_visual v) ++ after_front v
unfolding bytes_visual
regrouped v =
    let front = bytes_of_fields (front_visual v) in
    append_assoc (front ++ v.compressorname) (be_bytes 2 v.depth) (be_bytes 2 0xffff)
    ∙ append_assoc front v.compressorname (be_bytes 2 v.depth ++ be_bytes 2 0xffff)

name_back : (v : VisualFields) → length v.compressorname ≡ 32
    → take 32 (drop 42 (bytes_of_fields (front_visual v) ++ after_front v)) ≡ v.compressorname
name_back v long =
    ap (take 32) (drop_at (bytes_of_fields (front_visual v)) (after_front v) 42 (length-fields (front_visual v)))
    ∙ take_at v.compressorname (be_bytes 2 v.depth ++ be_bytes 2 0xffff) 32 long

depth_back : (v : VisualFields) → length v.compressorname ≡ 32 → v.depth < 256 ^ 2
    → number (after_front v) 32 2 ≡ v.depth
depth_back v long fits =
    number-after v.compressorname (be_bytes 2 v.depth ++ be_bytes 2 0xffff) 32 32 2 long (lit≤ tt)
    ∙ number-be_bytes 2 v.depth (be_bytes 2 0xffff) fits

pub visual_back : (v : VisualFields) → FieldsFit (front_visual v) → v.depth < 256 ^ 2 → length v.compressorname ≡ 32
    → visual_in (bytes_visual v) ≡ v
visual_back v fits depth long =
    let all = bytes_of_fields (front_visual v) ++ after_front v in
    ap visual_in (regrouped v)
    ∙ (ap (λ (at : ℕ → ℕ → ℕ). visual_at at (take 32 (drop 42 all)))
    (numbers-fields (front_visual v) (after_front v) fits)
    ∙ (ap (λ (xs : List ℕ). record v { compressorname = xs; depth = number (after_front v) 32 2 }) (name_back v long)
    ∙ ap (λ (n : ℕ). record v { depth = n }) (depth_back v long depth)))

pub visual_long : (v : VisualFields) → length v.compressorname ≡ 32 → length (bytes_visual v) ≡ 78
visual_long v long =
    let tail = be_bytes 2 v.depth ++ be_bytes 2 0xffff in
    ap length (regrouped v)
    ∙ omega (
      arith,
      long,
      length-append (bytes_of_fields (front_visual v)) (after_front v),
      length-fields (front_visual v),
      length-append v.compressorname tail,
      length-append (be_bytes 2 v.depth) (be_bytes 2 0xffff),
      length-be_bytes 2 v.depth,
      length-be_bytes 2 0xffff,
    )

alone : (cs : List (ℕ × ℕ)) → FieldsFit cs → number (bytes_of_fields cs) ≡ found cs []
alone cs fits =
    ap (λ (xs : List ℕ). number xs) (sym (append-nil (bytes_of_fields cs))) ∙ numbers-fields cs [] fits

-- fields fit their bytes, with further fields after them
pub fits_with : (version : ℕ) (v : AudioFields) (more : List (ℕ × ℕ)) → FieldsFit (common_fields version v [])
    → FieldsFit more → FieldsFit (common_fields version v more)
fits_with version v more a b =
    let c = a.1.1.1.1.1 in
    (a.0, (a.1.0, (a.1.1.0, (a.1.1.1.0, (a.1.1.1.1.0, (c.0, (c.1.0, (c.1.1.0, (c.1.1.1.0, (c.1.1.1.1.0, b))))))))))

back_as : (v : AudioFields) (w : AudioVersion) → FieldsFit (versioned_fields v w)
    → audio_at (number (bytes_of_fields (versioned_fields v w))) ≡ record v { version = w }
back_as v versions.Zero fits = ap audio_at (alone (versioned_fields v versions.Zero) fits)
back_as v (versions.First f) fits = ap audio_at (alone (versioned_fields v (versions.First f)) fits)
back_as v (versions.Second s) fits = ap audio_at (alone (versioned_fields v (versions.Second s)) fits)

pub audio_back : (v : AudioFields) → FieldsFit (versioned_fields v v.version)
    → audio_at (number (bytes_audio v)) ≡ v
unfolding bytes_audio
audio_back v fits = back_as v v.version fits

long_as : (v : AudioFields) (w : AudioVersion) → FieldsFit (versioned_fields v w)
    → length (bytes_of_fields (versioned_fields v w)) ≡ audio_fields (bytes_of_fields (versioned_fields v w))
unfolding audio_fields
long_as v versions.Zero fits =
    let cs = versioned_fields v versions.Zero in rw (length-fields cs, alone cs fits) refl
long_as v (versions.First f) fits =
    let cs = versioned_fields v (versions.First f) in rw (length-fields cs, alone cs fits) refl
long_as v (versions.Second s) fits =
    let cs = versioned_fields v (versions.Second s) in rw (length-fields cs, alone cs fits) refl

pub audio_long_back : (v : AudioFields) → FieldsFit (versioned_fields v v.version)
    → length (bytes_audio v) ≡ audio_fields (bytes_audio v)
unfolding bytes_audio
audio_long_back v fits = long_as v v.version fits
