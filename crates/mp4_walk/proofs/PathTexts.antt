-- Texts of paths, one character at a time.
use Rattle.std.proofs.Common.{◌≡◌, ◌≢◌, ℕ, zero, suc, ◌+◌, ◌<◌, ◌≤◌, List, [], ◌∷◌, ◌++◌, length, take, map, flat_map}
use Rattle.std.proofs.Common.{Option, Result, None, Some, Ok, Err, Bor, IfNone, IfSome, IfErr, MatchOption, IsUtf8}
use Rattle.std.proofs.Common.{encode_utf8, slice_get, get_or, refl, sym, subst, ap, ◌∙◌, append_assoc, inl, inr, arith}
use Rattle.std.specs.Result.{result_ok, IsErrAnd}
use Rattle.std.proofs.lemmas.List.{append_cancel_left, append_cancel_right, nil_from_length, take_all}
use Rattle.std.proofs.lemmas.List.{length-take, length-map}
use Rattle.std.proofs.lemmas.Option.{slice_get-map, slice_get-get_or}
use Rattle.std.proofs.lemmas.Str.{chars_past_char, chars-nil}
use Rattle.std.specs.List.{AllZip}
use Rattle.std.specs.Str.{chars}
use Rattle.std.specs.Str.Parse.{ParsesUnsigned}
use Rattle.std.specs.Option.{option_map}
use Rattle.mp4_walk.specs.declared.path.PathPart.{PathPart}
use Rattle.mp4_walk.specs.declared.path.PathError.{PathError}
use Rattle.mp4_walk.specs.declared.path.PathError.TheVariants as faults
use Rattle.mp4_walk.specs.PathText.{texts_of, ArePathParts, IsFault, IsFirstFault}
use Rattle.mp4_walk.specs.PathText.{AreBytes, HasCode, IsNumber, HasNoIndex, IsPart}

-- a text has one first character, and one rest
same_first : (text r s : List ℕ) (c d : ℕ) → IsUtf8 text → text ≡ encode_utf8 c ++ r → text ≡ encode_utf8 d ++ s
    → (c ≡ d) × (r ≡ s)
same_first text r s c d utf8 p q =
    let heads : c ∷ chars r ≡ d ∷ chars s = sym (chars_past_char text r c utf8 p) ∙ chars_past_char text s d utf8 q in
    let same : c ≡ d = cc in
    (same, append_cancel_left (encode_utf8 c) r s (sym p ∙ q ∙ (λ i. encode_utf8 (sym same i) ++ s)))

-- a text does not begin with n characters that are bytes
abbrev pub HasNot : ℕ → List ℕ → Type 0
HasNot n text = (code rest : List ℕ) → (length code ≡ n) × AreBytes code → ¬ (HasCode text code rest)

pub no_first : (n : ℕ) (text : List ℕ) → ((byte : ℕ) (rest : List ℕ) → byte < 256 → text ≢ encode_utf8 byte ++ rest)
    → HasNot (suc n) text
no_first n text none [] rest (long, bytes) is = absurd cc
no_first n text none (b ∷ code) rest (long, bytes) is =
    none b (flat_map encode_utf8 code ++ rest) bytes.0
    (is ∙ append_assoc (encode_utf8 b) (flat_map encode_utf8 code) rest)

pub no_next : (n : ℕ) (text after : List ℕ) (c : ℕ) → IsUtf8 text → text ≡ encode_utf8 c ++ after → HasNot n after
    → HasNot (suc n) text
no_next n text after c utf8 first none [] rest (long, bytes) is = absurd cc
no_next n text after c utf8 first none (b ∷ code) rest (long, bytes) is =
    let behind = flat_map encode_utf8 code ++ rest in
    let same =
    same_first text after behind c b utf8 first (is ∙ append_assoc (encode_utf8 b) (flat_map encode_utf8 code) rest) in
    none code rest (omega (arith, long), bytes.1) same.1

-- a text that is empty, and one that begins with a character that is no byte
pub no_char : (text left : List ℕ) → left ≡ text → length left ≡ 0 → IsUtf8 text
    → (byte : ℕ) (rest : List ℕ) → byte < 256 → text ≢ encode_utf8 byte ++ rest
no_char text left is none utf8 byte rest small begins =
    let empty : text ≡ [] = sym is ∙ nil_from_length left none in
    let more : chars [] ≡ byte ∷ chars rest = ap chars (sym empty) ∙ chars_past_char text rest byte utf8 begins in
    let never : [] ≡ byte ∷ chars rest = sym chars-nil ∙ more in
    absurd cc

pub other_char : (text left after : List ℕ) (c : ℕ) → left ≡ text → left ≡ encode_utf8 c ++ after → 256 ≤ c
    → IsUtf8 text → (byte : ℕ) (rest : List ℕ) → byte < 256 → text ≢ encode_utf8 byte ++ rest
other_char text left after c is first large utf8 byte rest small begins =
    let same = same_first text after rest c byte utf8 (sym is ∙ first) begins in
    absurd (omega (arith, same.0, large, small))

-- what a result says that has no value
pub if_none : {A : Type 0} (r : Option A) (P : Type 0) → P → IfNone r P
if_none None P p = p
if_none (Some x) P p = tt

pub of_none : {A : Type 0} (r : Option A) (P : Type 0) → IfNone r P → ((x : A) → r ≢ Some x) → P
of_none None P p none = p
of_none (Some x) P p none = absurd (none x refl)

-- the end of a text that begins with a bracket
pub inside_some : (r : Option (Bor (List ℕ))) (text rest : List ℕ) → text ≡ 91 ∷ rest
    → MatchOption r ((front : List ℕ) → rest ≢ front ++ 93 ∷ []) (λ x. rest ≡ x.now ++ 93 ∷ [])
    → IfSome r (λ inside. text ≡ 91 ∷ (inside.now ++ 93 ∷ []))
inside_some None text rest is cases = tt
inside_some (Some x) text rest is cases = is ∙ ap (λ (t : List ℕ). 91 ∷ t) cases

pub inside_none : (r : Option (Bor (List ℕ))) (text rest : List ℕ) → text ≡ 91 ∷ rest
    → MatchOption r ((front : List ℕ) → rest ≢ front ++ 93 ∷ []) (λ x. rest ≡ x.now ++ 93 ∷ [])
    → IfNone r ((inside : List ℕ) → text ≢ 91 ∷ (inside ++ 93 ∷ []))
inside_none None text rest is cases = λ inside ends.
    let both : 91 ∷ rest ≡ 91 ∷ (inside ++ 93 ∷ []) = sym is ∙ ends in
    let tails : rest ≡ inside ++ 93 ∷ [] = cc in
    cases inside tails
inside_none (Some x) text rest is cases = tt

-- a text that is not empty and is not in brackets
pub no_brackets : (text : List ℕ) → text ≢ [] → ((inside : List ℕ) → text ≢ 91 ∷ (inside ++ 93 ∷ [])) → HasNoIndex text
no_brackets text some none index (inl is) = some is.0
no_brackets text some none index (inr is) = none is.0 is.1

-- brackets around what is no number
pub no_number : (text inside : List ℕ) → text ≡ 91 ∷ (inside ++ 93 ∷ []) → ((n : ℕ) → ¬ (IsNumber inside n))
    → HasNoIndex text
no_number text inside is none index (inl empty) = absurd cc
no_number text inside is none index (inr found) =
    let both : 91 ∷ (inside ++ 93 ∷ []) ≡ 91 ∷ (found.0 ++ 93 ∷ []) = sym is ∙ found.1 in
    let tails : inside ++ 93 ∷ [] ≡ found.0 ++ 93 ∷ [] = cc in
    let same : inside ≡ found.0 = append_cancel_right inside found.0 (93 ∷ []) tails in
    none index (subst (λ (digits : List ℕ). IsNumber digits index) (sym same) found.2)

pub no_parse : {E : Type 0} (text inside : List ℕ) (parsed : Result ℕ E) (r : Option ℕ)
    → text ≡ 91 ∷ (inside ++ 93 ∷ []) → ParsesUnsigned 64 10 inside parsed → r ≡ result_ok parsed
    → IfNone r (HasNoIndex text)
no_parse text inside (Ok x) r is parses got = subst (λ (o : Option ℕ). IfNone o (HasNoIndex text)) (sym got) tt
no_parse text inside (Err e) r is parses got =
    if_none r (HasNoIndex text) (no_number text inside is (λ n found. parses (found.0, found.1)))

-- one more part
next_part : {X Y : Type 0} (R : X → Y → Type 0) (xs : List X) (ys : List Y) (k : ℕ) (x : X) (y : Y)
    → AllZip R (take k xs) ys → slice_get xs k ≡ Some x → R x y → AllZip R (take (suc k) xs) (ys ++ y ∷ [])
next_part R [] ys k x y before is here = absurd cc
next_part R (w ∷ ws) [] zero x y before is here =
    let same : w ≡ x = cc in (subst (λ v. R v y) (sym same) here, tt)
next_part R (w ∷ ws) (z ∷ zs) zero x y before is here = absurd before
next_part R (w ∷ ws) [] (suc k) x y before is here = absurd before
next_part R (w ∷ ws) (z ∷ zs) (suc k) x y before is here = (before.0, next_part R ws zs k x y before.1 is here)

pub parts_more : {X Y : Type 0} (R : X → Y → Type 0) (xs : List X) (ys : List Y) (k : ℕ) (x : X) (y : Y)
    → AllZip R (take k xs) ys → slice_get xs k ≡ Some x → R x y → AllZip R (take (k + 1) xs) (ys ++ y ∷ [])
parts_more R xs ys k x y before is here =
    let next : suc k ≡ k + 1 = omega arith in
    subst (λ (n : ℕ). AllZip R (take n xs) (ys ++ y ∷ [])) next (next_part R xs ys k x y before is here)

-- as many parts as texts
pub parts_long : {X Y : Type 0} (R : X → Y → Type 0) (xs : List X) (ys : List Y) → AllZip R xs ys
    → length ys ≡ length xs
parts_long R [] [] all = refl
parts_long R [] (y ∷ ys) all = absurd all
parts_long R (x ∷ xs) [] all = absurd all
parts_long R (x ∷ xs) (y ∷ ys) all = ap suc (parts_long R xs ys all.1)

-- the texts of pieces
abbrev pub text_at : Bor (List ℕ) → List ℕ
text_at x = x.now

abbrev pub texts_in : List (Bor (List ℕ)) → List (List ℕ)
texts_in items = map text_at items

-- the piece at an index
pub piece_at : (items : List (Bor (List ℕ))) (k : ℕ) (d : Bor (List ℕ)) → k < length items
    → slice_get (texts_in items) k ≡ Some (get_or items k d).now
piece_at items k d within =
    slice_get-map text_at items k ∙ ap (option_map text_at) (slice_get-get_or items k d within)

-- all pieces are parts
pub all_parts : (text : List ℕ) (items : List (Bor (List ℕ))) (k : ℕ) (parts : List PathPart)
    → texts_in items ≡ texts_of text → length items ≤ k → AllZip IsPart (take k (texts_in items)) parts
    → ArePathParts text parts
all_parts text items k parts are end all =
    let texts = texts_in items in
    let short : length texts ≤ k = omega (arith, length-map items text_at, end) in
    subst (λ ts. AllZip IsPart ts parts) (take_all k texts short ∙ are) all

-- the piece after some parts is none
pub first_fault : (text : List ℕ) (items : List (Bor (List ℕ))) (k number : ℕ) (d : Bor (List ℕ))
    (parts : List PathPart) (e : PathError) → texts_in items ≡ texts_of text → k < length items
    → AllZip IsPart (take k (texts_in items)) parts → number ≡ length parts
    → IsFault (get_or items k d).now number e → IsFirstFault text e
first_fault text items k number d parts e are within all counted fault =
    let texts = texts_in items in
    let piece = (get_or items k d).now in
    let long = parts_long IsPart (take k texts) parts all in
    let same : number ≡ k =
    omega (arith, counted, long, length-take k texts, length-map items text_at, within) in
    let here : slice_get (texts_of text) k ≡ Some piece =
    subst (λ ts. slice_get ts k ≡ Some piece) are (piece_at items k d within) in
    let before : AllZip IsPart (take k (texts_of text)) parts = subst (λ ts. AllZip IsPart (take k ts) parts) are all in
    (k, piece, here, subst (λ n. IsFault piece n e) same fault, (parts, before))

-- what is known of an error is known of the error that a call passes on
pub passed_on : {A E : Type 0} (r : Result A E) (P : E → Type 0) (e : E) → IsErrAnd r (λ f. f ≡ e) → P e → IfErr r P
passed_on (Ok x) P e is fault = tt
passed_on (Err f) P e is fault = subst P (sym is) fault
