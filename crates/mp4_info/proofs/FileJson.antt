-- The object of a file, part by part.
use Rattle.std.proofs.Common.{◌≡◌, ◌∙◌, ℕ, List, [], ◌∷◌, ◌++◌, Result, Ok, Err, ap}
use Rattle.std.specs.Prelude.{IfOk, codes, flat_map}
use Rattle.json.specs.Print.{print}
use Rattle.json.specs.Token.{Token}
use Rattle.json.specs.Written.{Written}
use Rattle.mp4_info.specs.FileJson.{IsFileJson, PutsFile, PutsTagList, file_members, head_members, segment_items}
use Rattle.mp4_info.specs.Members.{array, member, object}
use Rattle.mp4_info.specs.TrackJson.{track_value}
use Rattle.mp4_info.specs.declared.facts.FileFacts.{FileFacts}
use Rattle.mp4_show.specs.Escaped.{json_escaped}
use Rattle.mp4_shown_json.proofs.Puts.{puts_more}
use Rattle.mp4_shown_json.specs.Tokens.{Puts}

-- the members of a file
abbrev segments_of : FileFacts → List Token
segments_of f = member (codes "segments") (array (segment_items f.index f.tracks.items f.fragments.items))

abbrev tracks_of : FileFacts → List Token
tracks_of f = member (codes "tracks") (array (flat_map (track_value f.tracks.items) f.tracks.items))

pub file_put : (a b c d e : Written) (name : List ℕ) (f : FileFacts) → Puts a b (head_members name f)
    → Puts b c (segments_of f) → PutsTagList c d f.tags.items → Puts d e (tracks_of f) → PutsFile a e name f
unfolding file_members
file_put a b c d e name f head segments (ts, are, tags) tracks =
    let last : List Token = member (codes "tags") (array ts) ++ tracks_of f in (
      ts,
      are,
      puts_more a b e (head_members name f) (segments_of f ++ last) head
          (puts_more b c e (segments_of f) last segments
          (puts_more c d e (member (codes "tags") (array ts)) (tracks_of f) tags tracks)),
    )

-- the text of a sink that held nothing before the object
pub object_is : {A E : Type 0} (r : Result A E) (items : A → List ℕ) (a b c d : Written) (name : List ℕ)
    (f : FileFacts) → a.before ≡ [] → a.tokens ≡ [] → Puts a b (Token.begin_object ∷ []) → PutsFile b c name f
    → Puts c d (Token.end_object ∷ [])
    → (d.before ≡ [] → IfOk r (λ text. items text ≡ json_escaped (print d.tokens)))
    → IfOk r (λ text. IsFileJson name f (items text))
object_is (Ok text) items a b c d name f none nothing begun (ts, are, put) ended made =
    let members : List Token = file_members ts name f in
    let all : Puts a d (object members) =
    puts_more a b d (Token.begin_object ∷ []) (members ++ Token.end_object ∷ []) begun
    (puts_more b c d members (Token.end_object ∷ []) put ended) in (
      ts,
      are,
      made (all.0 ∙ none)
          ∙ ap (λ (xs : List Token). json_escaped (print xs))
          (all.1 ∙ ap (λ (xs : List Token). xs ++ object members) nothing),
    )
object_is (Err _) items a b c d name f none nothing begun put ended made = tt
