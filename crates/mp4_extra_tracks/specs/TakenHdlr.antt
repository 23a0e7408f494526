-- hdlr: the type of the component says how the name ends
use Rattle.std.specs.Prelude.{ℕ, ◌==◌, nat_lt, not, List, [], ◌∷◌, ◌++◌, if◌then◌else◌, Option, Some, None, Ok}
use Rattle.std.specs.Prelude.{length}
use Rattle.std.specs.Str.Lossy.{utf8_lossy}
use Rattle.json.specs.Json.{Json}
use Rattle.json.specs.Find.{as_str}
use Rattle.mp4_shown.specs.Runs.{BytesName, unended}
use Rattle.mp4_extra_tracks.specs.ShownHandler.{after_count}
use Rattle.mp4_frame.specs.declared.four_cc.FourCC.{FourCC}
use Rattle.mp4_frame.specs.FourCC.{number_of}
use Rattle.mp4_extra_tracks.specs.declared.hdlr.Hdlr.{Hdlr}
use Rattle.mp4_extra_tracks.specs.declared.hdlr.TheConstants as hdlr
use Rattle.mp4_shown.specs.TakenLists.{code_or, code_taken}
use Rattle.mp4_shown.specs.TakenNumbers.{agrees, at_path, number_taken}
use Rattle.mp4_shown.specs.Object.{take_out}
use Rattle.mp4_shown.specs.TakenShapes.{Takes}
use Rattle.mp4_shown.specs.Taking.{Taking, expect, refused, ◌>>=◌}
use Rattle.mp4_shown.specs.TakenValues.{code_in, hex_in}
use Rattle.mp4_shown.specs.declared.taken.error.Reason.TheVariants as reasons

abbrev no_code : FourCC
no_code = record { value = 0 ∷ 0 ∷ 0 ∷ 0 ∷ [] }

abbrev pub code_or_zero : List ℕ → Option Json → Taking FourCC
code_or_zero name (Some j) = code_or name (code_in j)
code_or_zero name None = Ok no_code

-- a code, which is 0 if it is absent
abbrev pub set_code_taken : List ℕ → Takes FourCC
set_code_taken name ms = take_out name ms >>= λ p. code_or_zero name p.0 >>= λ c. Ok (c, p.1)

-- the usual bytes of a name: in the standard a byte of 0 ends them, and in QuickTime they are counted
abbrev pub usual_name : List ℕ → FourCC → List ℕ → Taking (List ℕ)
usual_name name component text =
    if number_of component == 0 then Ok (text ++ 0 ∷ [])
    else expect (nat_lt (length text) 256) name reasons.WrongLength >>= λ _. Ok (length text ∷ text)

-- one byte at least, from which the text follows
abbrev pub name_in_hex : BytesName → Option Json → Json → Taking (List ℕ)
name_in_hex name text j =
    at_path name.2.now (hex_in j) >>= λ bytes.
    expect (not (length bytes == 0)) name.2.now reasons.WrongLength >>= λ _.
    expect (agrees (Some (utf8_lossy (unended (after_count bytes)))) text) name.0.now reasons.Contradiction >>= λ _.
    Ok bytes

abbrev pub name_in_text : BytesName → FourCC → Json → Option (List ℕ) → Taking (List ℕ)
name_in_text name component j (Some s) = usual_name name.0.now component s
name_in_text name component j None = refused name.0.now reasons.NotText

-- the bytes are the field if they are there; otherwise the text is
abbrev pub name_in : BytesName → FourCC → Option Json → Option Json → Taking (List ℕ)
name_in name component text (Some j) = name_in_hex name text j
name_in name component (Some t) None = name_in_text name component t (as_str t)
name_in name component None None = refused name.0.now reasons.Missing

abbrev pub name_taken : BytesName → FourCC → Takes (List ℕ)
name_taken name component ms =
    take_out name.0.now ms >>= λ p. take_out name.2.now p.1 >>= λ q.
    name_in name component p.0 q.0 >>= λ bytes. Ok (bytes, q.1)

abbrev make_hdlr : ℕ → ℕ → FourCC → FourCC → FourCC → ℕ → ℕ → List ℕ → Hdlr
make_hdlr version flags component handler maker component_flags mask name = record {
  version = version;
  flags = flags;
  component_type = component;
  handler_type = handler;
  component_manufacturer = maker;
  component_flags = component_flags;
  component_flags_mask = mask;
  name = name;
}

abbrev pub hdlr_taken : Takes Hdlr
hdlr_taken ms =
    number_taken hdlr.NAMES.now.0 8 ms >>= λ a. number_taken hdlr.NAMES.now.1.0 24 a.1 >>= λ b.
    set_code_taken hdlr.NAMES.now.1.1.0.now b.1 >>= λ c. code_taken hdlr.NAMES.now.1.1.1.0.now c.1 >>= λ d.
    set_code_taken hdlr.NAMES.now.1.1.1.1.0.now d.1 >>= λ e.
    number_taken hdlr.NAMES.now.1.1.1.1.1.0 32 e.1 >>= λ f.
    number_taken hdlr.NAMES.now.1.1.1.1.1.1.0 32 f.1 >>= λ g.
    name_taken hdlr.NAMES.now.1.1.1.1.1.1.1 c.0 g.1 >>= λ h.
    Ok (make_hdlr a.0 b.0 c.0 d.0 e.0 f.0 g.0 h.0, h.1)
