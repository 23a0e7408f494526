-- The codec's boxes of strings and references come back.
use Rattle.std.proofs.Common.{◌≡◌, ℕ, true, List, [], ◌∷◌, ◌++◌, None, Ok, Some, Option, refl, ap, ◌∙◌, arith, suc}
use Rattle.std.specs.Prelude.{codes, is_some, if◌then◌else◌, Bool}
use Rattle.std.specs.Str.{IsUtf8}
use Rattle.std.specs.Str.Lossy.{utf8_lossy}
use Rattle.std.proofs.lemmas.Str.{utf8_lossy-IsUtf8}
use Rattle.json.specs.Json.{Json, Members, member, no_members, object, string}
use Rattle.mp4_declared.specs.OwnBox.{no_context}
use Rattle.mp4_declared.specs.declared.context.Context.{Context}
use Rattle.mp4_frame.specs.OptionalChild.{WritableOptional, normal_optional}
use Rattle.mp4_text.specs.Dinf.{WritableDinf, normal_dinf}
use Rattle.mp4_text.specs.Dref.{WritableDref, normal_dref}
use Rattle.mp4_text.specs.Ftyp.{WritableFtyp}
use Rattle.mp4_text.specs.Hdlr.{WritableHdlr}
use Rattle.mp4_text.specs.Url.{WritableUrl, format_url}
use Rattle.mp4_text.specs.declared.dinf.DinfBox.{DinfBox}
use Rattle.mp4_text.specs.declared.dref.DrefBox.{DrefBox}
use Rattle.mp4_text.specs.declared.ftyp.FtypBox.{FtypBox}
use Rattle.mp4_text.specs.declared.hdlr.HdlrBox.{HdlrBox}
use Rattle.mp4_text.specs.declared.url.UrlBox.{UrlBox}
use Rattle.mp4_stream.specs.declared.any_box.AnyBox.TheVariants as any
use Rattle.mp4_show.specs.Row.{group_if}
use Rattle.mp4_show.specs.TakenShapes.{plain_text, plain_text_taken}
use Rattle.mp4_show.specs.TakenText.{DrefParts, FtypParts, HdlrParts, UrlParts, make_dinf, make_dref, make_ftyp}
use Rattle.mp4_show.specs.TakenText.{make_hdlr}
use Rattle.mp4_show.specs.TakenText.{make_url}
use Rattle.mp4_shown.specs.Event.{Text, field, text as shown_text}
use Rattle.mp4_shown.specs.Numbers.{NumberName}
use Rattle.mp4_shown.specs.Object.{first_of, has}
use Rattle.mp4_shown.specs.TakenNumbers.{at_path}
use Rattle.mp4_shown.specs.TakenShapes.{group_taken, map_taken, taken_if}
use Rattle.mp4_shown.specs.Taking.{Taking, ◌>>=◌}
use Rattle.mp4_shown.specs.declared.number_name.NumberAs.TheVariants as number_as
use Rattle.mp4_shown_json.specs.Tokens.{all_tokens}
use Rattle.mp4_shown_json.specs.Whole.{tokens_of_members}
use Rattle.mp4_read_back.specs.Codec.{IsReadAs, IsTextAs, codec_back, codec_taken, flags_name, plain, u32_part}
use Rattle.mp4_read_back.specs.Codec.{version_name}
use Rattle.mp4_read_back.specs.CodecShapes.{box_comes, box_part}
use Rattle.mp4_read_back.specs.CodeLaws.{code_comes}
use Rattle.mp4_read_back.specs.Codes.{code_part}
use Rattle.mp4_read_back.specs.ComesBack.{ComesBack, Part}
use Rattle.mp4_read_back.specs.ComesBackLaws.{last_comes, last_part, pair_comes, pair_part}
use Rattle.mp4_read_back.specs.FieldLaws.{field_printed, first_again, one_again}
use Rattle.mp4_read_back.specs.Fields.{field_before}
use Rattle.mp4_read_back.specs.ItemLaws.{codes_come}
use Rattle.mp4_read_back.specs.Items.{codes_part}
use Rattle.mp4_read_back.specs.NumberLaws.{one_apart}
use Rattle.mp4_read_back.specs.Structure.{before_or_none, full_part, group_part}
use Rattle.mp4_read_back.specs.StructureLaws.{full_comes, group_comes}
use Rattle.mp4_read_back.specs.Widths.{u32_comes}

-- ---- texts

abbrev pub plain_text_part : Part Text (List ℕ)
plain_text_part = record {
  shown = λ n t. field n.now (shown_text t) ∷ [];
  taken = λ n c ms. plain_text_taken n.now ms;
  Fits = λ c t. IsUtf8 t;
  names = λ n. n.now ∷ [];
  is_good = λ n. true;
  before = λ n t ms. field_before n.now (shown_text t) ms;
  deep = 0;
}

pub plain_text_comes : ComesBack plain_text_part
plain_text_comes = record {
  printed = λ n c t ms good fits. field_printed n.now (shown_text t) ms;
  back = λ n c t ms good fits free.
      ap (λ (s : List ℕ). plain_text_taken n.now (member n.now (string s) ms)) (utf8_lossy-IsUtf8 t fits)
      ∙ ap (λ (q : Taking (Json × Members)). q >>= λ p. at_path n.now (plain_text p.0) >>= λ s. Ok (s, p.1))
      (one_again n.now (string t) ms free.0);
  apart = λ n t ms name other none. one_apart n.now name (string (utf8_lossy t)) ms other none;
  numbers = λ n c t ms good fits have. (tt, have);
  shallow = λ n t ms d deep rest. omega (arith, rest);
}

-- ---- a group that may be absent

abbrev pub FitsIfSome : {A : Type 0} → (A → Type 0) → Option A → Type 0
FitsIfSome Fits (Some x) = Fits x
FitsIfSome Fits None = Unit {0}

abbrev pub optional_group : {N A : Type 0} → Part N A → Part (Text × N) (Option A)
optional_group p = record {
  shown = λ n v. group_if n.0.now (p.shown n.1) v;
  taken = λ n c ms. taken_if (has n.0.now ms) (group_taken n.0.now (p.taken n.1 c)) ms;
  Fits = λ c v. FitsIfSome (p.Fits c) v;
  names = λ n. n.0.now ∷ [];
  is_good = λ n. p.is_good n.1;
  before = λ n v ms. before_or_none (group_part p).before n v ms;
  deep = suc p.deep;
}

module _ {N A : Type 0} (p : Part N A) (comes : ComesBack p) where
  whole : ComesBack (group_part p)
  whole = group_comes p comes

  optional_printed : (n : Text × N) (c : Context) (v : Option A) (ms : Members) → p.is_good n.1 ≡ true
      → FitsIfSome (p.Fits c) v
      → all_tokens (group_if n.0.now (p.shown n.1) v) ++ tokens_of_members ms
      ≡ tokens_of_members (before_or_none (group_part p).before n v ms)
  optional_printed n c (Some x) ms good fits = whole.printed n c x ms good fits
  optional_printed n c None ms good fits = refl

  optional_back : (n : Text × N) (c : Context) (v : Option A) (ms : Members) → p.is_good n.1 ≡ true
      → FitsIfSome (p.Fits c) v → first_of n.0.now ms ≡ None
      → (optional_group p).taken n c (before_or_none (group_part p).before n v ms) ≡ Ok (v, ms)
  optional_back n c (Some x) ms good fits none =
      let ahead = (group_part p).before n x ms in
      ap (λ (b : Bool). if b then map_taken Some (group_taken n.0.now (p.taken n.1 c) ahead) else Ok (None, ahead))
      (ap (λ (o : Option (Json × Members)). is_some o) (first_again n.0.now (object (p.before n.1 x no_members)) ms))
      ∙ ap (map_taken Some) (whole.back n c x ms good fits (none, tt))
  optional_back n c None ms good fits none =
      ap (λ (b : Bool). if b then map_taken Some (group_taken n.0.now (p.taken n.1 c) ms) else Ok (None, ms))
      (ap (λ (o : Option (Json × Members)). is_some o) none)

  pub optional_group_comes : ComesBack (optional_group p)
  optional_group_comes = record {
    printed = optional_printed;
    back = λ n c v ms good fits free. optional_back n c v ms good fits free.0;
    apart = λ n. elim [
      | Some x ↦ λ ms name other none. whole.apart n x ms name other none
      | None ↦ λ ms name other none. none
    ];
    numbers = λ n c. elim [
      | Some x ↦ λ ms good fits have. whole.numbers n c x ms good fits have
      | None ↦ λ ms good fits have. have
    ];
    shallow = λ n. elim [
      | Some x ↦ λ ms d deep rest. whole.shallow n x ms d deep rest
      | None ↦ λ ms d deep rest. rest
    ];
  }

-- ---- ftyp

abbrev FtypNames : Type 0
FtypNames = Text × (NumberName × (Text × Unit {0}))

abbrev pub ftyp_part : Part FtypNames FtypParts
ftyp_part = pair_part code_part (pair_part u32_part (last_part codes_part))

abbrev pub ftyp_names : FtypNames
ftyp_names = (
  record { now = codes "major_brand" },
  (
    plain (codes "minor_version"),
    (record { now = codes "compatible_brands" }, tt),
  ),
)

abbrev pub ftyp_content : FtypBox → FtypParts
ftyp_content b = (b.major_brand, (b.minor_version, (b.compatible_brands, tt)))

pub ftyp_back : (b : FtypBox) → WritableFtyp b
    → IsReadAs ftyp_part ftyp_names make_ftyp (ftyp_content b) any.FtypBox b
ftyp_back b w =
    codec_back ftyp_part ftyp_names
    (pair_comes code_part _ code_comes (pair_comes u32_part _ u32_comes (last_comes codes_part codes_come))) refl
    make_ftyp
    (ftyp_content b) (w.major, (w.fit.1.1.1.0, w.each)) any.FtypBox b refl

-- ---- hdlr

abbrev Named : Type 0 → Type 0
Named N = NumberName × (NumberName × N)

abbrev pub hdlr_part : Part (Named (Text × (Text × Unit {0}))) HdlrParts
hdlr_part = full_part 256 (pair_part code_part (last_part plain_text_part))

abbrev pub hdlr_names : Named (Text × (Text × Unit {0}))
hdlr_names = (version_name, (flags_name, (record { now = codes "handler_type" }, (record { now = codes "name" }, tt))))

abbrev pub hdlr_content : HdlrBox → HdlrParts
hdlr_content b = (b.version, (b.flags, (b.handler_type, (b.name, tt))))

pub hdlr_back : (b : HdlrBox) → WritableHdlr b
    → IsReadAs hdlr_part hdlr_names make_hdlr (hdlr_content b) any.HdlrBox b
hdlr_back b w =
    let fit = w.fit.1.1 in
    codec_back hdlr_part hdlr_names
    (full_comes 256 _ (pair_comes code_part _ code_comes (last_comes plain_text_part plain_text_comes))) refl make_hdlr
    (hdlr_content b) (fit.0, fit.0, fit.1.0, (w.handler, w.text)) any.HdlrBox b refl

-- ---- url

abbrev UrlNames : Type 0
UrlNames = Named (Text × Unit {0})

abbrev url_content : UrlBox → UrlParts
url_content b = (b.version, (b.flags, (b.location, tt)))

abbrev pub url_part : Part UrlNames UrlBox
url_part = box_part (λ c x. WritableUrl x) url_content make_url (full_part 256 (last_part plain_text_part))

abbrev reference_flags : NumberName
reference_flags = (
  record { now = codes "flags" },
  number_as.Flags 6,
  record {
    now = (1, record { now = codes "same_file" }) ∷ [];
  },
)

abbrev pub url_names : UrlNames
url_names = (version_name, (reference_flags, (record { now = codes "location" }, tt)))

url_comes : ComesBack url_part
url_comes =
    box_comes (λ c x. WritableUrl x) url_content make_url (full_part 256 (last_part plain_text_part))
    (λ c x w. let fit = w.fit.1.1 in (fit.0, fit.0, fit.1.0, w.text)) (λ c x w. refl)
    (full_comes 256 _ (last_comes plain_text_part plain_text_comes))

pub url_back : (b : UrlBox) → WritableUrl b
    → IsTextAs (url_part.shown url_names b) (url_part.taken url_names no_context) any.UrlBox b
url_back b w = codec_taken url_part url_names url_comes refl b w any.UrlBox b refl

-- ---- dref

abbrev DrefNames : Type 0
DrefNames = Named ((Text × UrlNames) × Unit {0})

abbrev dref_content : DrefBox → DrefParts
dref_content b = (b.version, (b.flags, (b.url, tt)))

abbrev pub dref_part : Part DrefNames DrefBox
dref_part = box_part (λ c x. WritableDref x) dref_content make_dref
    (full_part 256 (last_part (optional_group url_part)))

abbrev pub dref_names : DrefNames
dref_names = (version_name, (flags_name, ((record { now = codes "url " }, url_names), tt)))

url_fits : (o : Option UrlBox) → WritableOptional format_url o → FitsIfSome WritableUrl o
url_fits (Some x) w = w
url_fits None w = tt

url_same : (o : Option UrlBox) → o ≡ normal_optional format_url o
url_same (Some x) = refl
url_same None = refl

dref_comes : ComesBack dref_part
dref_comes =
    box_comes (λ c x. WritableDref x) dref_content make_dref (full_part 256 (last_part (optional_group url_part)))
    (λ c x w. let fit = w.fit.1.1 in (fit.0, fit.0, fit.1.0, url_fits x.url w.child)) (λ c x w. refl)
    (full_comes 256 _ (last_comes (optional_group url_part) (optional_group_comes url_part url_comes)))

dref_same : (b : DrefBox) → b ≡ normal_dref b
dref_same b = ap (λ (o : Option UrlBox). record b { url = o }) (url_same b.url)

pub dref_back : (b : DrefBox) → WritableDref b
    → IsTextAs (dref_part.shown dref_names b) (dref_part.taken dref_names no_context) any.DrefBox (normal_dref b)
dref_back b w = codec_taken dref_part dref_names dref_comes refl b w any.DrefBox (normal_dref b) (dref_same b)

-- ---- dinf

abbrev pub dinf_part : Part (Text × DrefNames) DinfBox
dinf_part = box_part (λ c x. WritableDinf x) (λ x. x.dref) make_dinf (group_part dref_part)

abbrev pub dinf_names : Text × DrefNames
dinf_names = (record { now = codes "dref" }, dref_names)

pub dinf_back : (b : DinfBox) → WritableDinf b
    → IsTextAs (dinf_part.shown dinf_names b) (dinf_part.taken dinf_names no_context) any.DinfBox (normal_dinf b)
dinf_back b w =
    codec_taken dinf_part dinf_names
    (box_comes (λ c x. WritableDinf x) (λ x. x.dref) make_dinf (group_part dref_part) (λ c x w. w.child) (λ c x w. refl)
    (group_comes dref_part dref_comes)) refl b w any.DinfBox (normal_dinf b)
    (ap (λ (d : DrefBox). record { dref = d }) (dref_same b.dref))
