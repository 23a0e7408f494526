-- Boxes that are listed.
use Rattle.std.proofs.Common.{◌≡◌, ℕ, zero, suc, ◌+◌, ◌-◌, ◌^◌, ◌<◌, Bool, true, false, cond, List, [], ◌∷◌, ◌++◌}
use Rattle.std.proofs.Common.{length, Result, Ok, Err, refl, sym, ap, arith}
use Rattle.std.specs.Prelude.{nat_le, IsOk}
use Rattle.std.specs.List.{AllByRecursion}
use Rattle.mp4_frame.specs.Format.{Format}
use Rattle.mp4_frame.specs.Heads.{frame, end_in}
use Rattle.mp4_frame.specs.Laws.{BeginsWithHeader, Normal, OwnName, ReadsBack}
use Rattle.mp4_frame.specs.Reading.{Fault, Reading, done, and_then, ◌>>=◌}
use Rattle.mp4_frame.specs.Spans.{spans, span_item, places}
use Rattle.mp4_frame.specs.Streams.{stream, walk_on, walk_at_most}
use Rattle.mp4_frame.specs.declared.box_type.BoxType.{BoxType}
use Rattle.mp4_frame.specs.declared.frame.Frame.{Frame}
use Rattle.mp4_frame.specs.declared.list.BoxSpan.{BoxSpan}
use Rattle.mp4_frame.proofs.RoundTrip.{walk_whole, written_frame}

abbrev pub place : {A : Type 0} → Format A → ℕ → A → BoxSpan
place format o v = record { position = o; length = format.size v; name = format.name v }

module _ {A : Type 0} (format : Format A) (known : BoxType → Bool) (reading : BoxType → List ℕ → ℕ → ℕ → Reading A)
    (header_law : (v : A) → format.Writable v → BeginsWithHeader (format.size v) (format.name v) (format.bytes v))
    (normal_law : (v : A) → format.Writable v → Normal format.Writable format.bytes format.normal v)
    (name_law : (v : A) → format.Writable v → OwnName known (format.name v))
    (back_law : (v : A) → format.Writable v → ReadsBack (reading (format.name v)) (format.bytes v) (format.normal v))
  where
    more_places : (o : ℕ) (v : A) (vs : List A) → format.Writable v
        → places format o (v ∷ vs) ≡ place format o v ∷ places format (o + length (format.bytes v)) vs
    more_places o v vs w = ap (λ (n : ℕ). place format o v ∷ places format (o + n) vs) (sym (header_law v w).long)

    span_written : (v : A) → format.Writable v → (x y : List ℕ) → length x + length (format.bytes v) < 2 ^ 64
        → (span_item (written_frame format.name format.bytes v (length x))).outcome
        ≡ Ok (place format (length x) v ∷ [])
    span_written v w x y top =
        let long : length x + length (format.bytes v) - length x ≡ format.size v =
        omega (arith, (header_law v w).long) in
        rw (long, (name_law v w).is_own) refl

    -- a written list at the end of the buffer is listed as its places
    pub places_listed : (vs : List A) → AllByRecursion format.Writable vs → (x : List ℕ)
        → length x + length (stream format.bytes vs) < 2 ^ 64
        → (spans (x ++ stream format.bytes vs) (length x)).outcome ≡ Ok (places format (length x) vs)
    places_listed = walk_whole format.name format.size format.Writable format.bytes format.normal known
        reading header_law
        normal_law name_law back_law (λ B. span_item) (place format) (places format) (λ o. refl) more_places
        span_written

bind_ok_by : {A C : Type 0} (a : Bool) (o : Result A Fault) (f : A → Reading C) → IsOk (and_then a o f).outcome
    → IsOk o × ((v : A) × IsOk (f v).outcome)
bind_ok_by a (Ok v) f h = (refl, (v, h))
bind_ok_by a (Err k) f h = absurd cc

bind_is_ok : {A C : Type 0} (a : Bool) (o : Result A Fault) (f : A → Reading C) → IsOk o
    → ((v : A) → IsOk (f v).outcome) → IsOk (and_then a o f).outcome
bind_is_ok a (Ok v) f h rest = rest v
bind_is_ok a (Err k) f h rest = absurd cc

either_is_ok : {A C : Type 0} (b : Bool) (p q : Reading A) (r s : Reading C) → IsOk r.outcome
    → (IsOk q.outcome → IsOk s.outcome) → IsOk (cond b p q).outcome → IsOk (cond b r s).outcome
either_is_ok true p q r s first second h = first
either_is_ok false p q r s first second h = second h

-- items without faults: their walk is Ok if any walk over the same frames is
module _ {X Y : Type 0} (item : Frame → Reading (List X)) (other : Frame → Reading (List Y))
    (no_fault : (f : Frame) → IsOk (other f).outcome) (B : List ℕ) where
  walk_on_is_ok : (rest : ℕ → Reading (List X)) (others : ℕ → Reading (List Y))
      → ((e : ℕ) → IsOk (rest e).outcome → IsOk (others e).outcome) → (r : Result Frame Fault)
      → IsOk (walk_on item rest r).outcome → IsOk (walk_on other others r).outcome
  walk_on_is_ok rest others each (Err k) h = h
  walk_on_is_ok rest others each (Ok f) h =
      let i = item f in
      let e = end_in f in
      let later = (bind_ok_by i.asks_memory i.outcome (λ xs. rest e >>= λ ys. done (xs ++ ys)) h).1 in
      let rest_ok = (bind_ok_by (rest e).asks_memory (rest e).outcome (λ ys. done (later.0 ++ ys)) later.1).0 in
      bind_is_ok (other f).asks_memory (other f).outcome (λ xs. others e >>= λ ys. done (xs ++ ys)) (no_fault f)
      (λ xs.
      bind_is_ok (others e).asks_memory (others e).outcome (λ ys. done (xs ++ ys)) (each e rest_ok) (λ ys. refl))

  pub walk_is_ok : (n o : ℕ) → IsOk (walk_at_most item B n o).outcome → IsOk (walk_at_most other B n o).outcome
  unfolding walk_at_most
  walk_is_ok zero o h = refl
  walk_is_ok (suc n) o h =
      either_is_ok (nat_le (length B) o) (done []) (walk_on item (λ e. walk_at_most item B n e) (frame B o))
      (done []) (walk_on other (λ e. walk_at_most other B n e) (frame B o)) refl
      (walk_on_is_ok (λ e. walk_at_most item B n e) (λ e. walk_at_most other B n e) (walk_is_ok n) (frame B o)) h
