-- Changes of values in JSON, one after the other.
use Rattle.std.proofs.Common.{◌≡◌, ◌<◌, ◌≤◌, ◌-◌, ℕ, zero, suc, Bool, false, List, [], ◌∷◌, length, take, cond, Bor}
use Rattle.std.proofs.Common.{Option, None, Some, Ok, Err, refl, sym, ap, ◌∙◌, ⊎_elim, arith}
use Rattle.std.proofs.lemmas.Bool.{cases_Bool}
use Rattle.std.proofs.lemmas.Bool.Decides.{Decides-eqb}
use Rattle.std.proofs.lemmas.Slice.Eq.{ends_is}
use Rattle.std.specs.List.{ends_with, insert, remove}
use Rattle.std.specs.Prelude.{MatchOption, codes, nat_eq, option_map, slice_index_or, string_bytes}
use Rattle.std.specs.Str.Pattern.{FindsTextSuffix, StripsSuffix}
use Rattle.json.specs.Json.{Json, array, Items, item}
use Rattle.json.specs.Value.{items_view, value_view}
use Rattle.json.specs.declared.value.Value.{Value}
use Rattle.mp4_content.specs.ChangedJson.{before_hex, entry_put, put_at}
use Rattle.mp4_content.specs.Field.{Place, Numbered}
use Rattle.mp4_shown.specs.TakenRuns.{items_in}
use Rattle.mp4_shown.specs.Taking.{Fault, RefusedAs, Taking, refused, ◌>>=◌}
use Rattle.mp4_shown.specs.declared.taken.error.Error.{Error}
use Rattle.mp4_shown.specs.declared.taken.error.Error.TheVariants as errors
use Rattle.mp4_shown.specs.declared.taken.error.Reason.TheVariants.{Missing}

-- what is before the end of a name
pub before_is : (name : List ℕ) (r : Option (Bor (List ℕ)))
    → MatchOption r (FindsTextSuffix (codes "_hex") name None)
    (λ x. StripsSuffix (FindsTextSuffix (codes "_hex")) name x.now)
    → option_map (λ x. x.now) r ≡ before_hex name
before_is name None none =
    let ended = ends_with nat_eq name (codes "_hex") in
    let other : ended ≡ false =
    ⊎_elim (λ e. absurd (none _ ((ends_is Decides-eqb name (codes "_hex") _ refl).0 e))) (λ e. e) (cases_Bool ended) in
    sym (ap (λ (b : Bool). cond b (Some (take (length name - 4) name)) None) other)
before_is name (Some x) cut =
    let ended = (ends_is Decides-eqb name (codes "_hex") _ refl).1 (take (length name - cut.0) name) cut.1.1 in
    ap (λ (t : List ℕ). Some t) cut.2
    ∙ ap (λ (k : ℕ). Some (take (length name - k) name)) cut.1.0
    ∙ sym (ap (λ (b : Bool). cond b (Some (take (length name - 4) name)) None) ended)

-- the item with a number is changed
entry_is : {A : Type 0} (vs : List (Value A)) (n : ℕ) (d w : Value A) (change : Json → Taking Json) → n < length vs
    → change (value_view (slice_index_or vs n d)) ≡ Ok (value_view w)
    → entry_put n change (items_view vs) ≡ Ok (items_view (insert (remove vs n) n w))
entry_is [] n d w change less is = absurd (omega (arith, less))
entry_is (v ∷ vs) zero d w change less is = ap (λ (t : Taking Json). t >>= λ k. Ok (item k (items_view vs))) is
entry_is (v ∷ vs) (suc n) d w change less is =
    ap (λ (t : Taking Items). t >>= λ ks. Ok (item (value_view v) ks))
    (entry_is vs n d w change (omega (arith, less)) is)

pub put_entry : {A : Type 0} (n : ℕ) (ps : List Place) (new j : Json) (vs : List (Value A)) (d w : Value A)
    → n < length vs → items_in [] j ≡ Ok (items_view vs)
    → put_at ps new (value_view (slice_index_or vs n d)) ≡ Ok (value_view w)
    → put_at (Numbered n ∷ ps) new j ≡ Ok (array (items_view (insert (remove vs n) n w)))
put_entry n ps new j vs d w less is put =
    ap (λ (t : Taking Items). t >>= entry_put n (put_at ps new) >>= λ js. Ok (array js)) is
    ∙ ap (λ (t : Taking Items). t >>= λ js. Ok (array js)) (entry_is vs n d w (put_at ps new) less put)

-- there is no item with the number
none_is : {A : Type 0} (vs : List (Value A)) (n : ℕ) (change : Json → Taking Json) → length vs ≤ n
    → entry_put n change (items_view vs) ≡ refused [] Missing
none_is [] n change more = refl
none_is (v ∷ vs) zero change more = absurd (omega (arith, more))
none_is (v ∷ vs) (suc n) change more =
    ap (λ (t : Taking Items). t >>= λ ks. Ok (item (value_view v) ks)) (none_is vs n change (omega (arith, more)))

pub no_entry : {A : Type 0} (n : ℕ) (ps : List Place) (new j : Json) (vs : List (Value A)) → length vs ≤ n
    → items_in [] j ≡ Ok (items_view vs) → put_at (Numbered n ∷ ps) new j ≡ refused [] Missing
no_entry n ps new j vs more is =
    ap (λ (t : Taking Items). t >>= entry_put n (put_at ps new) >>= λ js. Ok (array js)) is
    ∙ ap (λ (t : Taking Items). t >>= λ js. Ok (array js)) (none_is vs n (put_at ps new) more)

-- the change of the item with a number is refused
fault_is : {A : Type 0} (vs : List (Value A)) (n : ℕ) (d : Value A) (change : Json → Taking Json) (fault : Fault)
    → n < length vs → change (value_view (slice_index_or vs n d)) ≡ Err fault
    → entry_put n change (items_view vs) ≡ Err fault
fault_is [] n d change fault less is = absurd (omega (arith, less))
fault_is (v ∷ vs) zero d change fault less is =
    ap (λ (t : Taking Json). t >>= λ k. Ok (item k (items_view vs))) is
fault_is (v ∷ vs) (suc n) d change fault less is =
    ap (λ (t : Taking Items). t >>= λ ks. Ok (item (value_view v) ks))
    (fault_is vs n d change fault (omega (arith, less)) is)

pub refused_entry : {A : Type 0} (e : Error) (n : ℕ) (ps : List Place) (new j : Json) (vs : List (Value A))
    (d : Value A) → n < length vs → items_in [] j ≡ Ok (items_view vs)
    → RefusedAs e (put_at ps new (value_view (slice_index_or vs n d)))
    → RefusedAs e (put_at (Numbered n ∷ ps) new j)
refused_entry errors.OutOfMemory n ps new j vs d less is put = tt
refused_entry (errors.Refused refusal) n ps new j vs d less is put =
    ap (λ (t : Taking Items). t >>= entry_put n (put_at ps new) >>= λ js. Ok (array js)) is
    ∙ ap (λ (t : Taking Items). t >>= λ js. Ok (array js))
    (fault_is vs n d (put_at ps new) (string_bytes refusal.path, refusal.reason) less put)
