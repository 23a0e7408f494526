-- The fields before the boxes can be separated from the boxes, whatever the boxes are.
use Rattle.std.proofs.Common.{◌≡◌, ℕ, ◌+◌, ◌-◌, ◌≤◌, Bool, true, false, cond, eqb, List, [], ◌∷◌, ◌++◌, None, Some}
use Rattle.std.proofs.Common.{length, take, drop, refl, sym, ap, ◌∙◌, arith, length-append}
use Rattle.std.specs.Prelude.{nat_lt, nat_le, ◌==◌, ◌&&◌, ◌||◌}
use Rattle.std.proofs.lemmas.Bool.{cond_both, and_parts, eqb-true, eq-eqb, le-leb, leb-true}
use Rattle.std.proofs.lemmas.Bool.{le-ltb}
use Rattle.std.proofs.lemmas.List.{length-take-le, take-append-drop}
use Rattle.mp4_frame.specs.Bytes.{number}
use Rattle.mp4_frame.specs.declared.codes.TheConstants as codes
use Rattle.mp4_frame.proofs.Numbers.{number-front}
use Rattle.mp4_walk.specs.Fronts.{is_container, is_full_meta, sound_front, length_of, front_of}
use Rattle.mp4_walk.specs.Peek.{peek, number_or_zero}
use Rattle.mp4_walk.specs.declared.fronts.Front.{Front}
use Rattle.mp4_walk.specs.declared.fronts.Front.TheVariants as fronts
use Rattle.mp4_walk.specs.declared.peek.Peek.{Peek}
use Rattle.mp4_box_tree.specs.EntryCodes.{is_item, is_more_sound, is_more_video}
use Rattle.mp4_box_tree.specs.Fronts.{audio_fields, begins_with_zeros, context_of, length_if_any, width_in, is_front}
use Rattle.mp4_box_tree.specs.Fronts.{is_plain_entry, is_sound_entry, is_video_entry}

-- what determines the length of the fields, in boxes of one code
data By : Type 0 where
  Same : ℕ → By
  Zeros : By
  Version : By
  EntryVersion : By

abbrev width_by : By → Peek → ℕ
width_by (Same n) w = n
width_by Zeros w = cond (is_full_meta w) 4 0
width_by Version w = cond (w.version == 0) 6 8
width_by EntryVersion w = length_of (sound_front 0 w.entry_version)

-- the tests of a code, in their order
abbrev by_tests : Bool → Bool → Bool → Bool → Bool → Bool → Bool → Bool → Bool → Bool → Bool → Bool → By
by_tests video sound text entry item header alone meta full short list count =
    cond video (Same 78) (cond sound EntryVersion (cond text (Same 38) (cond entry (Same 8) (cond item (Same 0)
    (cond header (Same 0) (cond alone (Same 0) (cond meta Zeros (cond full (Same 4)
    (cond short (Same 6) (cond list Version (cond count (Same 8) (Same 0))))))))))))

abbrev by_code : ℕ → By
by_code code =
    by_tests (is_video_entry code) (is_sound_entry code) (code == codes.TX3G) (is_plain_entry code) (is_item code)
    (code == codes.TMCD) (is_container code) (code == codes.META) (code == codes.IREF)
    ((code == codes.IPRO) || (code == codes.FIIN)) (code == codes.IINF)
    ((code == codes.STSD) || ((code == codes.DREF) || (code == codes.TREP)))

abbrev width_of : ℕ → Peek → ℕ
width_of code w = length_if_any (front_of (context_of code) code w)

abbrev IsBy : ℕ → Peek → Type 0
IsBy code w = width_of code w ≡ width_by (by_code code) w

-- the codes that no list has
text_is_by : (w : Peek) → IsBy codes.TX3G w
unfolding front_of is_video_entry is_sound_entry is_item is_more_video is_more_sound
text_is_by w = refl

webvtt_is_by : (w : Peek) → IsBy codes.WVTT w
unfolding front_of is_video_entry is_sound_entry is_item is_more_video is_more_sound
webvtt_is_by w = refl

systems_is_by : (w : Peek) → IsBy codes.MP4S w
unfolding front_of is_video_entry is_sound_entry is_item is_more_video is_more_sound
systems_is_by w = refl

uri_is_by : (w : Peek) → IsBy codes.URIM w
unfolding front_of is_video_entry is_sound_entry is_item is_more_video is_more_sound
uri_is_by w = refl

timecode_is_by : (w : Peek) → IsBy codes.TMCD w
unfolding front_of is_video_entry is_sound_entry is_item is_more_video is_more_sound
timecode_is_by w = refl

literal_is_by : (k : ℕ) → ((w : Peek) → IsBy k w) → (code : ℕ) (w : Peek) → (code == k) ≡ true → IsBy code w
literal_is_by k is code w e = rw (eqb-true code k e) (is w)

video_width : (code : ℕ) (w : Peek) → is_video_entry code ≡ true → width_of code w ≡ 78
unfolding front_of
video_width code w e = rw e refl

sound_width : (code : ℕ) (w : Peek) → is_video_entry code ≡ false → is_sound_entry code ≡ true
    → width_of code w ≡ length_of (sound_front 0 w.entry_version)
unfolding front_of
sound_width code w e f = rw (e, f) refl

module _ (code : ℕ) (w : Peek) (video : is_video_entry code ≡ false) (sound : is_sound_entry code ≡ false)
    (text : (code == codes.TX3G) ≡ false) (plain : is_plain_entry code ≡ false) where
  item_width : is_item code ≡ true → width_of code w ≡ 0
  unfolding front_of
  item_width i = rw (video, sound, text, plain, i) refl

  other_width : is_item code ≡ false → (code == codes.TMCD) ≡ false
      → (alone meta full short list count : Bool) → is_container code ≡ alone → (code == codes.META) ≡ meta
      → (code == codes.IREF) ≡ full → ((code == codes.IPRO) || (code == codes.FIIN)) ≡ short
      → (code == codes.IINF) ≡ list → ((code == codes.STSD) || ((code == codes.DREF) || (code == codes.TREP))) ≡ count
      → width_of code w ≡ width_by (by_tests false false false false false false alone meta full short list count) w
  unfolding front_of
  other_width i h true meta full short list count a b c d g k = rw (video, sound, text, plain, i, h, a) refl
  other_width i h false true full short list count a b c d g k =
      rw (video, sound, text, plain, i, h, a, b) (cond_both (is_full_meta w) fronts.FullBox fronts.Nothing
      (λ (x : Front). length_of x ≡ cond (is_full_meta w) 4 0)
      (λ t. rw t refl) (λ t. rw t refl))
  other_width i h false false true short list count a b c d g k =
      rw (video, sound, text, plain, i, h, a, b, c) refl
  other_width i h false false false true list count a b c d g k =
      rw (video, sound, text, plain, i, h, a, b, c, d) refl
  other_width i h false false false false true count a b c d g k =
      rw (video, sound, text, plain, i, h, a, b, c, d, g) (cond_both (w.version == 0) fronts.ShortCount fronts.Count
      (λ (x : Front). length_of x ≡ cond (w.version == 0) 6 8)
      (λ t. rw t refl) (λ t. rw t refl))
  other_width i h false false false false false true a b c d g k =
      rw (video, sound, text, plain, i, h, a, b, c, d, g, k) refl
  other_width i h false false false false false false a b c d g k =
      rw (video, sound, text, plain, i, h, a, b, c, d, g, k) refl

named_is_by : (code : ℕ) (w : Peek) → (code == codes.TX3G) ≡ false → is_plain_entry code ≡ false
    → (code == codes.TMCD) ≡ false → (video sound item : Bool) → is_video_entry code ≡ video
    → is_sound_entry code ≡ sound → is_item code ≡ item → IsBy code w
named_is_by code w t p h true sound item e f i =
    let by : width_by (by_code code) w ≡ 78 = rw e refl in video_width code w e ∙ sym by
named_is_by code w t p h false true item e f i =
    let by : width_by (by_code code) w ≡ length_of (sound_front 0 w.entry_version) = rw (e, f) refl in
    sound_width code w e f ∙ sym by
named_is_by code w t p h false false true e f i =
    let by : width_by (by_code code) w ≡ 0 = rw (e, f, t, p, i) refl in item_width code w e f t p i ∙ sym by
named_is_by code w t p h false false false e f i =
    let short = (code == codes.IPRO) || (code == codes.FIIN) in
    let count = (code == codes.STSD) || ((code == codes.DREF) || (code == codes.TREP)) in
    let by : width_by (by_code code) w ≡ width_by (by_tests false false false false false false (is_container code)
    (code == codes.META) (code == codes.IREF) short (code == codes.IINF) count) w = rw (e, f, t, p, i, h) refl in
    other_width code w e f t p i h (is_container code) (code == codes.META) (code == codes.IREF) short
    (code == codes.IINF) count refl refl refl refl refl refl
    ∙ sym by

width_is_by : (code : ℕ) (w : Peek) → (text webvtt systems uri timecode : Bool) → (code == codes.TX3G) ≡ text
    → (code == codes.WVTT) ≡ webvtt → (code == codes.MP4S) ≡ systems → (code == codes.URIM) ≡ uri
    → (code == codes.TMCD) ≡ timecode → IsBy code w
width_is_by code w true webvtt systems uri timecode a b c d h = literal_is_by codes.TX3G text_is_by code w a
width_is_by code w false true systems uri timecode a b c d h = literal_is_by codes.WVTT webvtt_is_by code w b
width_is_by code w false false true uri timecode a b c d h = literal_is_by codes.MP4S systems_is_by code w c
width_is_by code w false false false true timecode a b c d h = literal_is_by codes.URIM uri_is_by code w d
width_is_by code w false false false false true a b c d h = literal_is_by codes.TMCD timecode_is_by code w h
width_is_by code w false false false false false a b c d h =
    let plain : is_plain_entry code ≡ false = rw (b, c, d) refl in
    named_is_by code w a plain h (is_video_entry code) (is_sound_entry code) (is_item code) refl refl refl

abbrev peek_of : List ℕ → Peek
peek_of content = peek content 0 (length content)

width_as : (code : ℕ) (content : List ℕ) → width_in code content ≡ width_by (by_code code) (peek_of content)
unfolding width_in
width_as code content =
    width_is_by code (peek_of content) (code == codes.TX3G) (code == codes.WVTT) (code == codes.MP4S)
    (code == codes.URIM) (code == codes.TMCD) refl refl refl refl refl

abbrev pub by_version : ℕ → ℕ
by_version n = cond (n == 1) 44 (cond (n == 2) 64 28)

sound_by_version : (n : ℕ) → length_of (sound_front 0 n) ≡ by_version n
sound_by_version n =
    cond_both (n == 1) fronts.QuickTimeSound1 (cond (n == 2) fronts.QuickTimeSound2 fronts.SoundEntry)
    (λ (f : Front). length_of f ≡ by_version n)
    (λ e. rw e refl)
    (λ e. cond_both (n == 2) fronts.QuickTimeSound2 fronts.SoundEntry
    (λ (f : Front). length_of f ≡ by_version n) (λ t. rw (e, t) refl) (λ t. rw (e, t) refl))

by_version_least : (n : ℕ) → 28 ≤ by_version n
by_version_least n =
    cond_both (n == 1) 44 (cond (n == 2) 64 28) (λ k. 28 ≤ k) (λ _. omega arith)
    (λ _. cond_both (n == 2) 64 28 (λ k. 28 ≤ k) (λ _. omega arith) (λ _. omega arith))

-- a number within the content
number_within : (content : List ℕ) (o w : ℕ) → o + w ≤ length content
    → number_or_zero content (length content) o w ≡ number content o w
number_within content o w room = rw (le-ltb (length content) (o + w) room) refl

audio_by_version : (content : List ℕ)
    → audio_fields content ≡ by_version (number_or_zero content (length content) 8 2)
unfolding audio_fields
audio_by_version content = sound_by_version (number_or_zero content (length content) 8 2)

pub audio_least : (content : List ℕ) → 28 ≤ audio_fields content
audio_least content =
    let least = by_version_least (number_or_zero content (length content) 8 2) in
    omega (arith, least, audio_by_version content)

pub audio_long : (content : List ℕ) → 10 ≤ length content → audio_fields content ≡ by_version (number content 8 2)
audio_long content long = audio_by_version content ∙ ap by_version (number_within content 8 2 (omega (arith, long)))

-- a number in the fields is the same with boxes after them
front_same : (fields rest : List ℕ) (o w : ℕ) → o + w ≤ length fields
    → number_or_zero (fields ++ rest) (length (fields ++ rest)) o w ≡ number_or_zero fields (length fields) o w
front_same fields rest o w room =
    number_within (fields ++ rest) o w (omega (arith, length-append fields rest, room))
    ∙ number-front fields rest o w room ∙ sym (number_within fields o w room)

-- the bytes are those of version and flags of a `meta`
abbrev is_full : List ℕ → Bool
is_full content = is_full_meta (peek_of content)

full_within : (content : List ℕ) → 4 ≤ length content → is_full content ≡ (number content 0 4 == 0)
full_within content room =
    rw (le-leb 4 (length content - 0) (omega (arith, room)), number_within content 0 4 room) refl

zeros_are_full : (content : List ℕ) → begins_with_zeros content ≡ false → is_full content ≡ false
unfolding begins_with_zeros
zeros_are_full content none = by (nat_le 4 (length content - 0)) refl
  where
    by : (b : Bool) → nat_le 4 (length content - 0) ≡ b → is_full content ≡ false
    by true e =
        let room : 4 ≤ length content = omega (arith, leb-true 4 (length content - 0) e) in
        let both : (nat_le 4 (length content) && (number content 0 4 == 0)) ≡ (number content 0 4 == 0) =
        rw (le-leb 4 (length content) room) refl in
        full_within content room ∙ sym both ∙ none
    by false e = rw e refl

-- the fields and the boxes after them are read as these fields, if the boxes do not start with zeros
width_with : (b : By) (fields boxes : List ℕ) → length fields ≡ width_by b (peek_of fields)
    → begins_with_zeros boxes ≡ false → width_by b (peek_of (fields ++ boxes)) ≡ length fields
width_with (Same n) fields boxes is none = sym is
width_with Zeros [] boxes is none = rw (zeros_are_full boxes none) refl
width_with Zeros (f ∷ fs) boxes is none = by (is_full (f ∷ fs)) refl
  where
    by : (b : Bool) → is_full (f ∷ fs) ≡ b → width_by Zeros (peek_of ((f ∷ fs) ++ boxes)) ≡ length (f ∷ fs)
    by true e =
        let width : width_by Zeros (peek_of (f ∷ fs)) ≡ 4 = rw e refl in
        let long : length (f ∷ fs) ≡ 4 = is ∙ width in
        let room : 4 ≤ length (f ∷ fs) = omega (arith, long) in
        let whole : 4 ≤ length ((f ∷ fs) ++ boxes) = omega (arith, length-append (f ∷ fs) boxes, long) in
        let same : is_full ((f ∷ fs) ++ boxes) ≡ true =
        full_within ((f ∷ fs) ++ boxes) whole
        ∙ ap (λ (n : ℕ). n == 0) (number-front (f ∷ fs) boxes 0 4 (omega (arith, room)))
        ∙ sym (full_within (f ∷ fs) room) ∙ e in
        rw same (sym long)
    by false e =
        let width : width_by Zeros (peek_of (f ∷ fs)) ≡ 0 = rw e refl in
        let long : length (f ∷ fs) ≡ 0 = is ∙ width in absurd (omega (arith, long))
width_with Version fields boxes is none =
    let least : 6 ≤ length fields =
    cond_both ((peek_of fields).version == 0) 6 8 (λ n. length fields ≡ n → 6 ≤ length fields)
    (λ _ e. omega (arith, e)) (λ _ e. omega (arith, e)) is in
    ap (λ (n : ℕ). cond (n == 0) 6 8) (front_same fields boxes 0 1 (omega (arith, least))) ∙ sym is
width_with EntryVersion fields boxes is none =
    let least = by_version_least (peek_of fields).entry_version in
    let long = is ∙ sound_by_version (peek_of fields).entry_version in
    ap (λ (n : ℕ). length_of (sound_front 0 n)) (front_same fields boxes 8 2 (omega (arith, least, long))) ∙ sym is

-- the content determines the number of bytes of the fields, if the boxes after them do not start with zeros
pub width_back : (code : ℕ) (fields boxes : List ℕ) → is_front code fields ≡ true → begins_with_zeros boxes ≡ false
    → width_in code (fields ++ boxes) ≡ length fields
width_back code fields boxes is none =
    width_as code (fields ++ boxes)
    ∙ width_with (by_code code) fields boxes (eqb-true (length fields) (width_in code fields) is ∙ width_as code fields)
    none

first_number : (content : List ℕ) (n o w : ℕ) → n ≤ length content → o + w ≤ n
    → number (take n content) o w ≡ number content o w
first_number content n o w room inside =
    sym (number-front (take n content) (drop n content) o w (omega (arith, length-take-le n content room, inside)))
    ∙ ap (λ (bs : List ℕ). number bs o w) (take-append-drop n content)

-- a number in the first n bytes of a content
first_same : (content : List ℕ) (n o w : ℕ) → n ≤ length content → o + w ≤ n
    → number_or_zero (take n content) (length (take n content)) o w ≡ number_or_zero content (length content) o w
first_same content n o w room inside =
    let long = length-take-le n content room in
    sym (front_same (take n content) (drop n content) o w (omega (arith, long, inside)))
    ∙ ap (λ (bs : List ℕ). number_or_zero bs (length bs) o w) (take-append-drop n content)

width_first : (b : By) (content : List ℕ) → width_by b (peek_of content) ≤ length content
    → width_by b (peek_of (take (width_by b (peek_of content)) content)) ≡ width_by b (peek_of content)
width_first (Same n) content room = refl
width_first Zeros content room = by (is_full content) refl
  where
    by : (b : Bool) → is_full content ≡ b
        → width_by Zeros (peek_of (take (cond b 4 0) content)) ≡ cond b 4 0
    by true e =
        let p = and_parts (nat_le 4 (length content - 0)) ((peek_of content).first == 0) e in
        let enough : 4 ≤ length content = omega (arith, leb-true 4 (length content - 0) p.0) in
        let long = length-take-le 4 content enough in
        let same : is_full (take 4 content) ≡ true =
        full_within (take 4 content) (omega (arith, long))
        ∙ ap (λ (n : ℕ). n == 0) (first_number content 4 0 4 enough (omega arith))
        ∙ sym (full_within content enough) ∙ e in
        rw same refl
    by false e = refl
width_first Version content room = by ((peek_of content).version == 0) refl
  where
    by : (b : Bool) → ((peek_of content).version == 0) ≡ b
        → width_by Version (peek_of (take (cond b 6 8) content)) ≡ cond b 6 8
    by true e =
        let width : width_by Version (peek_of content) ≡ 6 = rw e refl in
        let enough : 6 ≤ length content = omega (arith, room, width) in
        rw (first_same content 6 0 1 enough (omega arith), e) refl
    by false e =
        let width : width_by Version (peek_of content) ≡ 8 = rw e refl in
        let enough : 8 ≤ length content = omega (arith, room, width) in
        rw (first_same content 8 0 1 enough (omega arith), e) refl
width_first EntryVersion content room =
    let n = length_of (sound_front 0 (peek_of content).entry_version) in
    let least = by_version_least (peek_of content).entry_version in
    let long = sound_by_version (peek_of content).entry_version in
    ap (λ (k : ℕ). length_of (sound_front 0 k)) (first_same content n 8 2 room (omega (arith, least, long)))

-- the bytes that are read as fields are possible fields
pub front_read : (code : ℕ) (content : List ℕ) → width_in code content ≤ length content
    → is_front code (take (width_in code content) content) ≡ true
front_read code content room =
    let b = by_code code in
    let n = width_in code content in
    let same = width_as code content in
    let long = length-take-le n content room in
    let first : width_by b (peek_of (take n content)) ≡ n =
    ap (λ (k : ℕ). width_by b (peek_of (take k content))) same
    ∙ width_first b content (omega (arith, room, same)) ∙ sym same in
    eq-eqb _ _ (long ∙ sym (width_as code (take n content) ∙ first))
