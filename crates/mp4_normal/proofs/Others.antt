-- Boxes of other codes, and of types of the codec, as boxes that are kept.
use Rattle.std.proofs.Common.{◌≡◌, ℕ, ◌+◌, ◌-◌, ◌<◌, ◌≤◌, ◌^◌, Bool, true, false, List, [], ◌∷◌, ◌++◌, length, take}
use Rattle.std.proofs.Common.{drop, map, Result, Ok, Err, refl, ap, sym, subst, arith, length-drop}
use Rattle.std.specs.Prelude.{nat_lt, nat_le, IfOk, IfErr}
use Rattle.std.proofs.Math.Bool.{or-true}
use Rattle.std.proofs.lemmas.Bool.{lt-ltb, le-leb}
use Rattle.std.proofs.lemmas.List.{drop-drop, length-take-le}
use Rattle.mp4_frame.specs.BoxType.{code_of}
use Rattle.mp4_frame.specs.Bytes.{bytes_of_fields}
use Rattle.mp4_frame.specs.Format.{Format}
use Rattle.mp4_frame.specs.Laws.{AreBytes}
use Rattle.mp4_frame.specs.Reading.{Fault, Reading, Refuses, ◌>>=◌, and_then, done, map_reading}
use Rattle.mp4_frame.specs.Reading.{reading}
use Rattle.mp4_frame.specs.declared.box_type.BoxType.{BoxType}
use Rattle.mp4_frame.specs.Streams.{append_read}
use Rattle.mp4_frame.specs.declared.error.Error.{Error}
use Rattle.mp4_frame.specs.declared.error.Error.TheVariants as errors
use Rattle.mp4_frame.proofs.Decided.{first_faults}
use Rattle.mp4_frame.proofs.Checks.{expect_bytes_present, are_bytes-drop}
use Rattle.mp4_stream.specs.AnyBox.{format_any, known_any, reading_any}
use Rattle.mp4_stream.specs.KeptBox.{format_kept, reading_kept}
use Rattle.mp4_stream.specs.Other.{is_typed}
use Rattle.mp4_stream.specs.OtherBox.{content_other, reads_other, bytes_other, format_other, WritableOther}
use Rattle.mp4_stream.specs.OtherBoxLaws.{stable_other}
use Rattle.mp4_stream.specs.declared.kept_box.KeptBox.TheVariants as kept
use Rattle.mp4_normal.specs.Changes.{AppendsIf, OneMade, other_at}

-- a box that is read is kept, which takes memory
asks : {A : Type 0} (b : Bool) (o : Result A Fault) (v : A) → o ≡ Ok v
    → (append_read [] (record { asks_memory = b; outcome = o })).asks_memory ≡ true
asks b (Ok w) v is = or-true b
asks b (Err k) v is = absurd cc

pub read_asks : {A : Type 0} (r : Reading A) (v : A) → r.outcome ≡ Ok v → (append_read [] r).asks_memory ≡ true
read_asks r v is = asks r.asks_memory r.outcome v is

module _ {A C : Type 0} (wrap : A → C) where
  wrapped : (b : Bool) (o : Result A Fault)
      → (append_read [] (record { asks_memory = b; outcome = o }) >>= λ vs. done (map wrap vs))
      ≡ append_read [] (map_reading wrap (record { asks_memory = b; outcome = o }))
  wrapped true (Ok v) = refl
  wrapped false (Ok v) = refl
  wrapped b (Err k) = refl

  refused_wrapped : (r : Reading A) (e : Error) → Refuses e (append_read [] r)
      → Refuses e (append_read [] (map_reading wrap r))
  refused_wrapped r e h =
      subst (Refuses e) (wrapped r.asks_memory r.outcome)
      (first_faults e (append_read [] r) (λ vs. done (map wrap vs)) h)

module _ (code start size : ℕ) (B : List ℕ) (least : 8 ≤ size) (within : start + size ≤ length B) where
  content_long : 8 + length (take (size - 8) (drop (start + 8) B)) ≡ size
  content_long = omega (
    arith,
    least,
    within,
    length-drop (start + 8) B,
    length-take-le (size - 8) (drop (start + 8) B) (omega (arith, length-drop (start + 8) B, least, within)),
  )

  -- a header and the content are the bytes of the box
  pub bytes_of_other : bytes_of_fields ((4, size) ∷ (4, code) ∷ []) ++ take (size - 8) (drop (start + 8) B)
      ≡ bytes_other (other_at code B start size)
  unfolding bytes_other
  bytes_of_other = ap (λ (n : ℕ). bytes_of_fields ((4, n) ∷ (4, code) ∷ []) ++ take (size - 8) (drop (start + 8) B))
      (sym content_long)

  -- the box is read
  other_is_read : (reads_other code (drop start B) start size).outcome ≡ Ok (other_at code B start size)
  unfolding content_other
  other_is_read =
      let enough : nat_le 8 size ≡ true = le-leb 8 size least in
      let present = expect_bytes_present (drop start B) 8 (size - 8)
      (omega (arith, least, within, length-drop start B)) in
      rw (enough, present, drop-drop 8 start B) refl

  -- the box can be written
  pub other_is_writable : code < 2 ^ 32 → size < 2 ^ 32 → is_typed code ≡ false → AreBytes B
      → WritableOther (other_at code B start size)
  other_is_writable fits small untyped are =
      (stable_other code fits untyped (drop start B) start size (other_at code B start size)
      (are_bytes-drop start B are) other_is_read).1 (omega (arith, small, content_long))

  other_is_kept : (can : Bool) (old new : List ℕ) → AppendsIf format_other (other_at code B start size) old new can
      → AppendsIf format_kept (kept.Other (other_at code B start size)) old new can
  other_is_kept true old new h = h
  other_is_kept false old new h = h

  module _ (name : BoxType) (is : code_of name ≡ code) (unknown : known_any name ≡ false)
      (top : start + size < 2 ^ 64) where
    -- under a name that no type of the codec has, the box is read as a box that is kept
    other_is_kept_under : (reading_kept name B start size).outcome ≡ Ok (kept.Other (other_at code B start size))
    other_is_kept_under =
        let below : nat_lt (start + size) (2 ^ 64) ≡ true = lt-ltb (start + size) (2 ^ 64) top in
        let read : (reading (reads_other code) B start size).outcome ≡ Ok (other_at code B start size) =
        rw (below, other_is_read) refl in
        rw (unknown, is) (ap
        (λ (o : Result _ Fault).
        (and_then (reading (reads_other code) B start size).asks_memory o (λ v. done (kept.Other v))).outcome) read)

    -- the changes of the box are found
    pub other_found : (old new : List ℕ) (result : Result Bool Error)
        → IfOk result (λ can. AppendsIf format_other (other_at code B start size) old new can)
        → IfErr result (λ e. e ≡ errors.OutOfMemory)
        → OneMade format_kept (reading_kept name B start size) old new result
    other_found old new (Ok can) made error =
        (kept.Other (other_at code B start size), other_is_kept_under, other_is_kept can old new made)
    other_found old new (Err e) made error =
        subst (λ (e : Error). Refuses e (append_read [] (reading_kept name B start size))) (sym error)
        (read_asks (reading_kept name B start size) (kept.Other (other_at code B start size)) other_is_kept_under)

module _ {A C : Type 0} (from : Format A) (to : Format C) (wrap : A → C) (r : Reading A) (old new : List ℕ)
    (same : (v : A) (can : Bool) → AppendsIf from v old new can → AppendsIf to (wrap v) old new can) where
  one_wrapped : (result : Result Bool Error) → OneMade from r old new result
      → OneMade to (map_reading wrap r) old new result
  one_wrapped (Ok can) h = (
    wrap h.0,
    ap (λ (o : Result A Fault). (and_then r.asks_memory o (λ v. done (wrap v))).outcome) h.1,
    same h.0 can h.2,
  )
  one_wrapped (Err e) h = refused_wrapped wrap r e h

any_is_kept : (old new : List ℕ) (v : _) (can : Bool) → AppendsIf format_any v old new can
    → AppendsIf format_kept (kept.Any v) old new can
any_is_kept old new v true h = h
any_is_kept old new v false h = h

-- a box of a type of the codec is one that is kept
pub any_made : (name : BoxType) (B : List ℕ) (start size : ℕ) (old new : List ℕ) (result : Result Bool Error)
    → known_any name ≡ true → OneMade format_any (reading_any name B start size) old new result
    → OneMade format_kept (reading_kept name B start size) old new result
any_made name B start size old new result known h =
    rw known (one_wrapped format_any format_kept kept.Any (reading_any name B start size) old new
    (any_is_kept old new) result h)
