-- An input that is read in parts.
use Rattle.std.proofs.Common.{◌≡◌, ℕ, ◌+◌, ◌-◌, ◌<◌, ◌≤◌, List, [], ◌++◌, length, take, drop, Some, Result, Ok}
use Rattle.std.proofs.Common.{Err, IfOk, IfSome, sym, ap, subst, ◌∙◌, arith, append_assoc, length-append}
use Rattle.std.specs.declared.option.Option.{Option}
use Rattle.std.specs.Io.KnownBytes.{Consumes, IsAtEnd}
use Rattle.std.proofs.KnownBytes.{Consumes-trans}
use Rattle.std.proofs.Math.Seq.{take-add, drop-append-le}
use Rattle.std.proofs.lemmas.List.{length-take-le, length-drop, drop-drop}
use Rattle.mp4_lemmas.proofs.Outcomes.{if_known, known_rest}
use Rattle.mp4_boxes.specs.Parts.{Ends, HasEnd, HasPart, HasRest, LinesIn, ReadsOn}
use Rattle.mp4_boxes.specs.declared.fault.RunFault.{RunFault}
use Rattle.mp4_boxes.specs.declared.fault.RunFault.TheVariants as faults

pub long_of : (read part : List ℕ) (from : ℕ) → HasEnd read from part → length read ≡ from + length part
long_of read part from has = omega (arith, has.0, length-drop from read, ap length has.1)

-- the last bytes that were read are a part of each input that begins with the bytes read
pub has_part : (read part more : List ℕ) (from : ℕ) → HasEnd read from part → HasPart (read ++ more) from part more
has_part read part more from has = (
  omega (arith, has.0, length-append read more),
  drop-append-le from read more has.0 ∙ ap (λ (l : List ℕ). l ++ more) has.1,
)

-- `n` more bytes of a buffer are filled
pub pulled : (read P Q : List ℕ) (from held n : ℕ) → take held Q ≡ take held P → HasEnd read from (take held P)
    → HasEnd (read ++ take n (drop held Q)) from (take (held + n) Q)
pulled read P Q from held n same has =
    let t = take n (drop held Q) in (
      omega (arith, has.0, length-append read t),
      drop-append-le from read t has.0 ∙ ap (λ (l : List ℕ). l ++ t) (has.1 ∙ sym same) ∙ sym (take-add held n Q),
    )

-- with `n` more bytes, more than `limit` are read
pub passed : (read P Q : List ℕ) (from held n limit : ℕ) → take held Q ≡ take held P → held + n ≤ length Q
    → limit < from + (held + n) → HasEnd read from (take held P) → limit < length (read ++ take n (drop held Q))
passed read P Q from held n limit same within lt has =
    let t = take n (drop held Q) in
    let all = pulled read P Q from held n same has in
    omega (arith, lt, long_of (read ++ t) (take (held + n) Q) from all, length-take-le (held + n) Q within)

-- the first `k` bytes are done
pub done_with : (read P Q : List ℕ) (from filled k : ℕ) → filled ≤ length P → k ≤ filled
    → take (filled - k) Q ≡ drop k (take filled P)
    → HasEnd read from (take filled P) → HasEnd read (from + k) (take (filled - k) Q)
done_with read P Q from filled k within le moved has = (
  omega (arith, long_of read (take filled P) from has, length-take-le filled P within, le),
  sym (drop-drop k from read) ∙ ap (drop k) has.1 ∙ sym moved,
)

-- The bytes that were read of the input end with the filled bytes of a part. The bytes before `seen` show that the text
-- has the lines of the boxes before `next`, in each input that begins with the bytes that were read.
pub record Held (init now : Option (List ℕ)) (from filled seen next : ℕ) (part text : List ℕ) : Type 0 where
  pub read : List ℕ
  pub taken : Consumes init now read
  pub has : HasEnd read from (take filled part)
  pub told : (more : List ℕ) → LinesIn (read ++ more) seen text next
  pub within : filled ≤ length part

-- more bytes are read
pub held_on : (init mid now : Option (List ℕ)) (from filled seen next : ℕ) (part text read : List ℕ)
    → Consumes init mid read → ((more : List ℕ) → LinesIn (read ++ more) seen text next)
    → ReadsOn mid now read (λ all. HasEnd all from (take filled part)) → filled ≤ length part
    → Held init now from filled seen next part text
held_on init mid now from filled seen next part text read taken told on within = record {
  read = read ++ on.0;
  taken = Consumes-trans _ _ _ _ _ taken on.1;
  has = on.2;
  told = λ more. subst (λ (xs : List ℕ). LinesIn xs seen text next) (sym (append_assoc read on.0 more))
      (told (on.0 ++ more));
  within = within;
}

module _ {init now : Option (List ℕ)} {from filled seen next : ℕ} {part text : List ℕ}
    (h : Held init now from filled seen next part text) where
  pub read_size : length h.read ≡ from + filled
  read_size = long_of h.read (take filled part) from h.has
      ∙ ap (λ (n : ℕ). from + n) (length-take-le filled part h.within)

  -- the part in an input, as a buffer that holds the part has it
  pub part_of : (buffer : List ℕ) → buffer ≡ part → (more : List ℕ)
      → HasPart (h.read ++ more) from (take filled buffer) more
  part_of buffer is more =
      subst (λ (xs : List ℕ). HasPart (h.read ++ more) from (take filled xs) more) (sym is)
      (has_part h.read (take filled part) more from h.has)

  -- what holds of each input that begins with the bytes that were read holds of the input
  pub on_input : (P : List ℕ → Type 0) → ((more : List ℕ) → P (h.read ++ more)) → (B : List ℕ) → init ≡ Some B → P B
  on_input P holds B is = let rest = known_rest init now B h.read is h.taken in subst P (sym rest.2) (holds rest.0)

  pub rest_left : (B : List ℕ) → init ≡ Some B → HasRest B (from + filled) now
  rest_left B is =
      let rest = known_rest init now B h.read is h.taken in
      (rest.0, rest.1, omega (arith, ap length rest.2, length-append h.read rest.0, read_size))

  -- at the end of the input all of it is read
  pub all_read : IsAtEnd now → (B : List ℕ) → init ≡ Some B → from + filled ≡ length B
  all_read end B is =
      let rest = rest_left B is in
      let none : rest.0 ≡ [] = subst IsAtEnd rest.1 end in
      omega (arith, rest.2, ap length none)

  pub lines_read : seen ≡ from + filled → (B : List ℕ) → init ≡ Some B → LinesIn B (from + filled) text next
  lines_read all B is =
      subst (λ (n : ℕ). LinesIn B n text next) all (on_input (λ (xs : List ℕ). LinesIn xs seen text next) h.told B is)

pub if_ok_known : {V : Type 0} (r : Result V RunFault) (a : Option (List ℕ)) (Was P : List ℕ → Type 0)
    → IfOk r (λ _. (B : List ℕ) → Was B → P B) → ((B : List ℕ) → a ≡ Some B → Was B) → IfOk r (λ _. IfSome a P)
if_ok_known (Ok v) a Was P h known = if_known a P (λ B is. h B (known B is))
if_ok_known (Err fault) a Was P h known = tt

-- the end of listing, if less is known of the input
pub ends_where : {V : Type 0} (items : V → List ℕ) (Was Is : List ℕ → Type 0) (new : Option (List ℕ))
    → ((B : List ℕ) → Is B → Was B) → (r : Result V RunFault) → Ends items Was new r → Ends items Is new r
ends_where items Was Is new known (Ok v) h = (λ B is. h.0 B (known B is), h.1)
ends_where items Was Is new known (Err faults.Read) h = tt
ends_where items Was Is new known (Err faults.Write) h = absurd h
ends_where items Was Is new known (Err (faults.Boxes e)) h = λ B is. h B (known B is)

pub lines_at : (B text : List ℕ) (r s o p : ℕ) → r ≡ s → o ≡ p → LinesIn B r text o → LinesIn B s text p
lines_at B text r s o p e f h = subst (λ (n : ℕ). LinesIn B n text p) e (subst (λ (n : ℕ). LinesIn B r text n) f h)
