-- The objects of tags, one after the other.
use Rattle.std.proofs.Common.{◌≡◌, ◌∙◌, ◌<◌, ◌≤◌, ◌+◌, ℕ, List, [], ◌∷◌, ◌++◌, ap, append_assoc, append-nil, drop}
use Rattle.std.proofs.Common.{get_or, length, refl, subst, sym}
use Rattle.std.proofs.lemmas.List.{drop_all, drop_more}
use Rattle.std.specs.Prelude.{codes}
use Rattle.std.specs.declared.option.Option.{Option}
use Rattle.json.specs.Token.{Token}
use Rattle.json.specs.Written.{Written}
use Rattle.mp4_info.specs.FileJson.{AreTags, PutsTagList, PutsTags, tag_value}
use Rattle.mp4_info.specs.declared.tags.Tag.{Tag}
use Rattle.mp4_shown_json.proofs.Puts.{puts_more}
use Rattle.mp4_shown_json.specs.Tokens.{Puts}

-- these objects are written, and followed by those of the tags that remain they are the objects of all tags
abbrev pub PutsSoFar : Written → Written → List Tag → List Tag → Type 0
PutsSoFar old now tags rest =
    (so_far : List Token) × Puts old now so_far
    × ((more : List Token) → AreTags rest more → AreTags tags (so_far ++ more))

pub tags_begin : (w : Written) (tags : List Tag) → PutsSoFar w w tags tags
tags_begin w tags = ([], (refl, sym (append-nil w.tokens)), λ more are. are)

pub tags_on : (a b c : Written) (tags : List Tag) (i : ℕ) (t : Tag) (name : Option (List ℕ)) → i < length tags
    → t ≡ get_or tags i t → PutsSoFar a b tags (drop i tags) → Puts b c (tag_value name t)
    → PutsSoFar a c tags (drop (i + 1) tags)
tags_on a b c tags i t name within is (so_far, before, known) put =
    let next : drop i tags ≡ t ∷ drop (i + 1) tags =
    drop_more tags i t within ∙ ap (λ (x : Tag). x ∷ drop (i + 1) tags) (sym is) in (
      so_far ++ tag_value name t,
      puts_more a b c so_far (tag_value name t) before put,
      λ more are.
          subst (λ (ts : List Token). AreTags tags ts) (sym (append_assoc so_far (tag_value name t) more))
          (known (tag_value name t ++ more)
          (subst (λ (xs : List Tag). AreTags xs (tag_value name t ++ more)) (sym next) (name, more, are, refl))),
    )

pub tags_end : (a b : Written) (tags : List Tag) (i : ℕ) → length tags ≤ i → PutsSoFar a b tags (drop i tags)
    → PutsTags a b tags
tags_end a b tags i all (so_far, put, known) = (
  so_far,
  subst (λ (ts : List Token). AreTags tags ts) (append-nil so_far)
      (known [] (subst (λ (xs : List Tag). AreTags xs []) (sym (drop_all i tags all)) refl)),
  put,
)

-- and an array of them
pub tags_listed : (a b c d e : Written) (tags : List Tag) → Puts a b (Token.key (codes "tags") ∷ [])
    → Puts b c (Token.begin_array ∷ []) → PutsTags c d tags → Puts d e (Token.end_array ∷ []) → PutsTagList a e tags
tags_listed a b c d e tags named begun (ts, are, put) ended = (
  ts,
  are,
  puts_more a b e (Token.key (codes "tags") ∷ []) (Token.begin_array ∷ (ts ++ Token.end_array ∷ [])) named
      (puts_more b c e (Token.begin_array ∷ []) (ts ++ Token.end_array ∷ []) begun
      (puts_more c d e ts (Token.end_array ∷ []) put ended)),
)
