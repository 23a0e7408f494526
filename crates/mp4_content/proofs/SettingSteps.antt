-- A box that is shown whole, and its bytes after settings.
use Rattle.std.proofs.Common.{◌≡◌, ℕ, Bool, List, Option, Result, Some, Ok, Err, inr, refl, subst, sym}
use Rattle.std.specs.Prelude.{MatchResult}
use Rattle.json.specs.Json.{Json}
use Rattle.mp4_content.specs.Content.{ShowsAs, ShowsKnown, leaf}
use Rattle.mp4_content.specs.Fields.{json_view}
use Rattle.mp4_content.specs.Kind.{kind_of}
use Rattle.mp4_content.specs.Setting.{IsUnset, SetsFields, SetsKnown, SetsNone, SetsNoneAt, own_bytes}
use Rattle.mp4_content.specs.declared.content.Content.{Content}
use Rattle.mp4_content.specs.declared.content.Content.TheVariants as contents
use Rattle.mp4_content.specs.declared.kind.Kind.{Kind}
use Rattle.mp4_content.specs.declared.kind.Kind.TheVariants as kinds
use Rattle.mp4_content.specs.declared.setting.SetError.{SetError}
use Rattle.mp4_content.specs.declared.setting.Setting.{Setting}
use Rattle.mp4_frame.specs.Format.{Format}
use Rattle.mp4_frame.specs.FourCC.{number_of}
use Rattle.mp4_frame.specs.Reading.{Reading}
use Rattle.mp4_frame.specs.declared.box_type.BoxType.{BoxType}
use Rattle.mp4_frame.specs.declared.four_cc.FourCC.{FourCC}
use Rattle.mp4_lemmas.proofs.Booleans.{by_bool}
use Rattle.mp4_shown.specs.Event.{Event}
use Rattle.mp4_shown.specs.Taking.{Taking}
use Rattle.mp4_shown.specs.declared.view.View.{View}
use Rattle.mp4_walk.specs.declared.tree_box.TreeBox.{TreeBox}

module _ {A : Type 0} (known : BoxType → Bool) (reading : BoxType → List ℕ → ℕ → ℕ → Reading A)
    (shown : View → A → List Event) (read : ℕ → Option Json → Taking (Option A)) (format : Format A) (file : List ℕ)
    (found : TreeBox) (settings : List Setting) where
  abbrev IsRead : Kind → A → Type 0
  IsRead kind v =
      (name : BoxType) × (kind ≡ kinds.Known name) × ((leaf reading name (own_bytes file found) 0).outcome ≡ Ok v)

  read_known : (name : BoxType) (v : A) → ShowsKnown known reading name file found (contents.Known v)
      → IsRead (kinds.Known name) v
  read_known name v shows =
      by_bool (known name)
      (λ yes. let is = rw yes at shows in (name, refl, is))
      (λ no. let is = rw no at shows in absurd cc)

  -- Only a box with a known name is shown whole.
  is_read : (kind : Kind) (v : A) → ShowsAs known reading file found kind (contents.Known v) → IsRead kind v
  is_read (kinds.Known name) v shows = read_known name v shows
  is_read kinds.Boxes v shows = absurd cc
  is_read kinds.Deep v shows = absurd cc
  is_read kinds.Unread v shows = absurd cc
  is_read kinds.Cut v shows = absurd cc
  is_read kinds.Small v shows = absurd shows
  is_read kinds.Reference v shows = absurd shows
  is_read kinds.Full v shows = absurd shows
  is_read kinds.List v shows = absurd shows
  is_read kinds.Entry v shows = absurd shows
  is_read kinds.Visual v shows = absurd shows
  is_read kinds.Sound v shows = absurd shows
  is_read kinds.Uuid v shows = absurd shows
  is_read kinds.Terminator v shows = absurd shows

  abbrev IsSetOrNot : {V : Type 0} → Result V SetError → (V → List ℕ) → Type 0
  IsSetOrNot r items =
      MatchResult r (λ x. SetsFields known reading shown read format file found settings (items x))
      (SetsNone known reading shown read format file found settings)

  pub known_box : {V : Type 0} (r : Result V SetError) (items : V → List ℕ) (code : FourCC) (content : Content A)
      (v : A) (own : List ℕ) → found.code ≡ Some code → content ≡ contents.Known v
      → ShowsAs known reading file found (kind_of known found) content → own ≡ own_bytes file found
      → MatchResult r (λ x. SetsKnown (read (number_of code)) format (shown json_view v) own settings (items x))
      (IsUnset (read (number_of code)) format (shown json_view v) own settings)
      → IsSetOrNot r items
  known_box (Ok x) items code content v own is whole shows bytes set =
      let here = rw whole at shows in
      let (name, kind, reads) = is_read (kind_of known found) v here in
      let sets = rw bytes at set in
      (name, kind, (code, is, (v, reads, sets)))
  known_box (Err e) items code content v own is whole shows bytes unset =
      let here = rw whole at shows in
      let unsets = rw bytes at unset in
      subst
      (λ (c : Option FourCC). SetsNoneAt known reading (shown json_view) read format file found settings c e) (sym is)
      (inr (contents.Known v, here, unsets))
