-- Clauses about a file, if it is known, by clauses about what was read of it.
use Rattle.std.proofs.Common.{◌≡◌, ◌∙◌, ◌<◌, ℕ, List, None, Some, ap, subst, sym}
use Rattle.std.specs.Prelude.{IfSome}
use Rattle.std.specs.BTreeMap.{get}
use Rattle.std.specs.Ordering.{nat_cmp}
use Rattle.std.specs.declared.option.Option.{Option}
use Rattle.mp4_extra_pictures.specs.declared.hvcc.Hvcc.{Hvcc}
use Rattle.mp4_extra_samples.specs.declared.sidx.Sidx.{Sidx}
use Rattle.mp4_flat.specs.Boxes.{reads_mvhd}
use Rattle.mp4_flat.specs.declared.mvhd.MvhdBox.{MvhdBox}
use Rattle.mp4_frame.specs.FourCC.{four_cc_of}
use Rattle.mp4_frame.specs.Reading.{Reading}
use Rattle.mp4_frame.specs.declared.codes.TheConstants as codes
use Rattle.mp4_frame.specs.declared.four_cc.FourCC.{FourCC}
use Rattle.mp4_info.specs.Codecs.{hevc_text, in_entry}
use Rattle.mp4_info.specs.Facts.{AreTracks, InfoReadings, facts_if, heads_in, known, samples_in}
use Rattle.mp4_info.specs.Found.{found}
use Rattle.mp4_info.specs.RunTimes.{fragment_times_by}
use Rattle.mp4_info.specs.Totals.{pieces_of}
use Rattle.mp4_info.specs.TrackPieces.{AreByTrack, pieces_in, times_in}
use Rattle.mp4_info.specs.declared.facts.Heads.{Heads}
use Rattle.mp4_info.specs.declared.facts.SampleFacts.{SampleFacts}
use Rattle.mp4_info.specs.declared.facts.TrackFacts.{TrackFacts}
use Rattle.mp4_info.specs.declared.totals.Piece.{Piece}
use Rattle.mp4_info.specs.declared.track_pieces.AllPieces.{AllPieces}
use Rattle.mp4_info.proofs.Tracks.{TracksSoFar, tracks_end}
use Rattle.mp4_movie.specs.Levels.{all_in, first_in, movie_in}
use Rattle.mp4_movie.specs.Tables.{tables_in}
use Rattle.mp4_movie.specs.declared.moof.MoofFragments.{MoofFragments}
use Rattle.mp4_movie.specs.declared.sample_boxes.SampleBoxes.{SampleBoxes}
use Rattle.mp4_tables.specs.declared.stts_entry.SttsEntry.{SttsEntry}
use Rattle.mp4_text.specs.Boxes.{reads_ftyp}
use Rattle.mp4_text.specs.declared.ftyp.FtypBox.{FtypBox}
use Rattle.mp4_walk.specs.declared.tree_box.TreeBox.{TreeBox}

-- the string of HEVC video by its configuration
pub hevc_known : (bytes : Option (List ℕ)) (reads : List ℕ → ℕ → ℕ → Reading Hvcc) (code : FourCC)
    (entry : List TreeBox) (config : Option Hvcc) (text : List ℕ) → text ≡ hevc_text code config
    → IfSome bytes (λ file. config ≡ in_entry reads codes.HVCC file entry)
    → IfSome bytes (λ file. text ≡ hevc_text code (in_entry reads codes.HVCC file entry))
hevc_known None reads code entry config text is h = tt
hevc_known (Some file) reads code entry config text is h =
    is ∙ ap (λ (c : Option Hvcc). hevc_text code c) h

-- the samples of a track by its tables
pub samples_known : (bytes : Option (List ℕ)) (stbl : List TreeBox) (id timescale : ℕ) (m : AllPieces)
    (tables : Option (Option SampleBoxes)) (facts : Option SampleFacts)
    → facts ≡ facts_if tables timescale (pieces_in (get nat_cmp m.by_track id)) (times_in (get nat_cmp m.by_track id))
    → IfSome bytes (λ file. tables ≡ known (tables_in file stbl))
    → IfSome bytes (λ file. (moofs : List MoofFragments) → AreByTrack moofs m
    → facts ≡ samples_in file stbl id timescale moofs)
samples_known None stbl id timescale m tables facts is h = tt
samples_known (Some file) stbl id timescale m tables facts is h = λ moofs are.
    is
    ∙ (ap (λ (t : Option (Option SampleBoxes)). facts_if t timescale (pieces_in (get nat_cmp m.by_track id))
    (times_in (get nat_cmp m.by_track id))) h
    ∙ (ap (λ (ps : List Piece). facts_if (known (tables_in file stbl)) timescale ps
    (times_in (get nat_cmp m.by_track id))) (are.pieces id)
    ∙ ap (λ (ts : List SttsEntry). facts_if (known (tables_in file stbl)) timescale (pieces_of id moofs) ts)
    (are.times id)))

-- the tracks of a movie, when none remains
pub tracks_known : (r : InfoReadings) (bytes : Option (List ℕ)) (m : AllPieces) (movie : ℕ)
    (boxes rest : List TreeBox) (tracks : List TrackFacts) → None ≡ first_in 1 (four_cc_of codes.TRAK) rest
    → IfSome bytes (λ file. (moofs : List MoofFragments) → AreByTrack moofs m
    → TracksSoFar r file moofs movie boxes rest tracks)
    → IfSome bytes (λ file. (moofs : List MoofFragments) → AreByTrack moofs m
    → AreTracks r file moofs movie (all_in 1 (four_cc_of codes.TRAK) boxes) tracks)
tracks_known r None m movie boxes rest tracks is h = tt
tracks_known r (Some file) m movie boxes rest tracks is h = λ moofs are.
    tracks_end r file moofs movie boxes rest tracks is (h moofs are)

-- the first boxes of a file, which were read one after the other
abbrev heads : Option FtypBox → Option MvhdBox → Option Sidx → Heads
heads brands movie index = record { brands = brands; movie = movie; index = index }

same_heads : (brands brands' : Option FtypBox) (movie movie' : Option MvhdBox) (index index' : Option Sidx)
    → brands ≡ brands' → movie ≡ movie' → index ≡ index' → heads brands movie index ≡ heads brands' movie' index'
same_heads brands brands' movie movie' index index' a b c =
    ap (λ (x : Option FtypBox). heads x movie index) a
    ∙ (ap (λ (x : Option MvhdBox). heads brands' x index) b ∙ ap (λ (x : Option Sidx). heads brands' movie' x) c)

pub heads_known : (r : InfoReadings) (bytes second third : Option (List ℕ)) (boxes level : List TreeBox)
    (brands : Option FtypBox) (movie : Option MvhdBox) (index : Option Sidx) → second ≡ bytes → third ≡ bytes
    → level ≡ movie_in boxes
    → IfSome bytes (λ file. brands ≡ found reads_ftyp file (first_in 0 (four_cc_of codes.FTYP) boxes))
    → IfSome second (λ file. movie ≡ found reads_mvhd file (first_in 1 (four_cc_of codes.MVHD) level))
    → IfSome third (λ file. index ≡ found r.sidx file (first_in 0 (four_cc_of codes.SIDX) boxes))
    → IfSome bytes (λ file. heads brands movie index ≡ heads_in r file boxes)
heads_known r None second third boxes level brands movie index same again inside a b c = tt
heads_known r (Some file) second third boxes level brands movie index same again inside a b c =
    same_heads brands (found reads_ftyp file (first_in 0 (four_cc_of codes.FTYP) boxes)) movie
    (found reads_mvhd file (first_in 1 (four_cc_of codes.MVHD) (movie_in boxes))) index
    (found r.sidx file (first_in 0 (four_cc_of codes.SIDX) boxes)) a
    (subst (λ (o : Option (List ℕ)). IfSome o
    (λ file. movie ≡ found reads_mvhd file (first_in 1 (four_cc_of codes.MVHD) level))) same b
    ∙ ap (λ (l : List TreeBox). found reads_mvhd file (first_in 1 (four_cc_of codes.MVHD) l)) inside)
    (subst (λ (o : Option (List ℕ)). IfSome o
    (λ file. index ≡ found r.sidx file (first_in 0 (four_cc_of codes.SIDX) boxes))) again c)
