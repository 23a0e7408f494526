-- The steps of a loop over fields: each number is read from the bytes, or put in them.
use Rattle.std.proofs.Common.{◌≡◌, ℕ, zero, suc, ◌+◌, ◌-◌, ◌*◌, ◌/◌, ◌%◌, ◌^◌, ◌<◌, ◌≤◌, true, List, [], ◌∷◌, ◌++◌}
use Rattle.std.proofs.Common.{length, take, drop, set, slice_index, refl, sym, ap, subst, ◌∙◌, append_assoc, arith}
use Rattle.std.proofs.lemmas.Nat.{mod-pow-add}
use Rattle.std.proofs.lemmas.Bool.{eqb-true}
use Rattle.std.proofs.lemmas.List.{drop_more, drop_all, take_more_set, append-nil, length-set}
use Rattle.std.proofs.Math.Nat.{mod-lt, div-one}
use Rattle.std.proofs.Math.Pow.{pow_pos, pow_mono}
use Rattle.std.proofs.Math.Seq.{take_all}
use Rattle.mp4_lemmas.proofs.Numbers.{div-pow, in_bytes}
use Rattle.mp4_frame.specs.Bytes.{number, be_bytes}
use Rattle.mp4_frame.specs.Laws.{AreBytes}
use Rattle.mp4_declared.specs.Bits.{bits, bytes_in, joined, split, NumbersFit, are_whole, are_fields}
use Rattle.mp4_declared.specs.BitsLaws.{pow256, split-joined, field_is_short, rest_is_whole, bits_in, bits_at_offset}
use Rattle.mp4_declared.specs.BitsLaws.{be_bytes-parts, be_bytes-mod, cut_twice, cut_again, fields_whole}

pub bits-drop : (ws : List ℕ) (k : ℕ) → k < length ws → bits (drop k ws) ≡ slice_index ws k + bits (drop (k + 1) ws)
bits-drop ws k lt = ap bits (drop_more ws k 0 lt)

-- ---- reading

-- The first k numbers are read, from `from` bits. The fields make the number x.
pub record NumbersRead (ws : List ℕ) (x k from : ℕ) (ns : List ℕ) : Type 0 where
  pub long : length ns ≡ length ws
  pub most : k ≤ length ws
  pub sofar : from + bits (drop k ws) ≡ bits ws
  pub whole : are_whole from (drop k ws) ≡ true
  pub numbers : take k ns ++ split (drop k ws) x ≡ split ws x

-- The next field and the bits before it in its first byte are at most 64 bits, and end in the last byte or before it.
pub record FieldAt (ws : List ℕ) (k from : ℕ) : Type 0 where
  pub short : from % 8 + slice_index ws k ≤ 64
  pub room : from / 8 + (from % 8 + slice_index ws k + 7) / 8 ≤ bytes_in ws
  pub is_at : 8 * bytes_in ws ≡ 8 * (from / 8) + (from % 8 + slice_index ws k) + bits (drop (k + 1) ws)
  pub next : from + slice_index ws k + bits (drop (k + 1) ws) ≡ bits ws
  pub whole : are_whole (from + slice_index ws k) (drop (k + 1) ws) ≡ true

pub field_at : (ws : List ℕ) (k from : ℕ) → are_fields ws ≡ true → k < length ws → from + bits (drop k ws) ≡ bits ws
    → are_whole from (drop k ws) ≡ true → FieldAt ws k from
field_at ws k from fields lt is whole =
    let all = bits_in ws (fields_whole ws fields) in
    let parts = bits-drop ws k lt in
    let here : are_whole from (slice_index ws k ∷ drop (k + 1) ws) ≡ true =
    subst (λ (l : List ℕ). are_whole from l ≡ true) (drop_more ws k 0 lt) whole in
    let at : 8 * bytes_in ws ≡ 8 * (from / 8) + (from % 8 + slice_index ws k) + bits (drop (k + 1) ws) =
    omega (arith, all, parts, is) in
    record {
      short = field_is_short from (slice_index ws k) (drop (k + 1) ws) here;
      room = omega (arith, at);
      is_at = at;
      next = omega (arith, parts, is);
      whole = rest_is_whole from (slice_index ws k) (drop (k + 1) ws) here;
    }

pub number_read : (ws ns bytes : List ℕ) (at k from : ℕ) (d : ℕ) → AreBytes bytes → are_fields ws ≡ true → k < length ws
    → NumbersRead ws (number bytes at (bytes_in ws)) k from ns
    → d ≡ number bytes (at + from / 8) ((from % 8 + slice_index ws k + 7) / 8)
    / 2 ^ (8 * ((from % 8 + slice_index ws k + 7) / 8) - (from % 8 + slice_index ws k)) % 2 ^ slice_index ws k
    → NumbersRead ws (number bytes at (bytes_in ws)) (k + 1) (from + slice_index ws k) (set ns k d)
number_read ws ns bytes at k from d are fields lt r is =
    let f = field_at ws k from fields lt r.sofar r.whole in
    let w = slice_index ws k in
    let x = number bytes at (bytes_in ws) in
    let digit : d ≡ x / 2 ^ bits (drop (k + 1) ws) % 2 ^ w =
    is ∙ sym (bits_at_offset bytes at (bytes_in ws) (from / 8) (from % 8) w (bits (drop (k + 1) ws)) are f.is_at) in
    let more : take (k + 1) (set ns k d) ≡ take k ns ++ d ∷ [] = take_more_set ns k d (omega (arith, r.long)) in
    let parts : split (drop k ws) x ≡ x / 2 ^ bits (drop (k + 1) ws) % 2 ^ w ∷ split (drop (k + 1) ws) x =
    ap (λ (l : List ℕ). split l x) (drop_more ws k 0 lt) in
    record {
      long = length-set ns k d ∙ r.long;
      most = omega arith;
      sofar = f.next;
      whole = f.whole;
      numbers = ap (λ (l : List ℕ). l ++ split (drop (k + 1) ws) x) more
          ∙ append_assoc (take k ns) (d ∷ []) (split (drop (k + 1) ws) x)
          ∙ ap (λ (e : ℕ). take k ns ++ e ∷ split (drop (k + 1) ws) x) digit
          ∙ ap (λ (l : List ℕ). take k ns ++ l) (sym parts) ∙ r.numbers;
    }

pub all_read : (ws ns : List ℕ) (x k from : ℕ) → length ws ≤ k → NumbersRead ws x k from ns → ns ≡ split ws x
all_read ws ns x k from end r =
    let none : drop k ws ≡ [] = drop_all k ws end in
    let front : take k ns ≡ ns = take_all k ns (omega (arith, r.long)) in
    sym (append-nil ns) ∙ ap (λ (l : List ℕ). l ++ []) (sym front)
    ∙ ap (λ (l : List ℕ). take k ns ++ split l x) (sym none) ∙ r.numbers

-- ---- putting

-- The first k numbers are put: bytes between `at` and `next`, and then the `count` bits of `word`, which don't fill a
-- byte.
pub record NumbersPut (ws ns : List ℕ) (at : ℕ) (old : List ℕ) (k next word count : ℕ) (out : List ℕ) : Type 0 where
  pub least : at ≤ next
  pub most : k ≤ length ws
  pub short : count < 8
  pub from : 8 * (next - at) + count + bits (drop k ws) ≡ bits ws
  pub whole : are_whole (8 * (next - at) + count) (drop k ws) ≡ true
  pub left : word ≡ joined ws ns / 2 ^ bits (drop k ws) % 2 ^ count
  pub put : take next out ≡ take at old ++ be_bytes (next - at) (joined ws ns / 2 ^ (bits (drop k ws) + count))

split-at : (ws : List ℕ) (x k : ℕ) → k < length ws
    → slice_index (split ws x) k ≡ x / 2 ^ bits (drop (k + 1) ws) % 2 ^ slice_index ws k
split-at [] x k lt = absurd (omega arith)
split-at (w ∷ ws) x zero lt = refl
split-at (w ∷ ws) x (suc k) lt = let e : suc k + 1 ≡ suc (k + 1) = omega arith in rw e (split-at ws x k (omega arith))

-- the word that the next number and the bits left over make
pub record WordAt (ws ns : List ℕ) (at k next word count : ℕ) : Type 0 where
  pub short : count + slice_index ws k ≤ 64
  pub shifts : word * 2 ^ slice_index ws k < 2 ^ 64
  pub fits : word * 2 ^ slice_index ws k + slice_index ns k < 2 ^ 64
  pub is_word : word * 2 ^ slice_index ws k + slice_index ns k
      ≡ joined ws ns / 2 ^ bits (drop (k + 1) ws) % 2 ^ (count + slice_index ws k)
  pub piece : (word * 2 ^ slice_index ws k + slice_index ns k) / 2 ^ ((count + slice_index ws k) % 8)
      < 256 ^ ((count + slice_index ws k) / 8)
  pub few : (count + slice_index ws k) / 8 ≤ 8
  pub room : next - at + (count + slice_index ws k) / 8 ≤ bytes_in ws

pub word_at : (ws ns : List ℕ) (at : ℕ) (old : List ℕ) (k next word count : ℕ) (out : List ℕ) → are_fields ws ≡ true
    → NumbersFit ws ns → k < length ws → NumbersPut ws ns at old k next word count out
    → WordAt ws ns at k next word count
word_at ws ns at old k next word count out fields fit lt p =
    let w = slice_index ws k in
    let n = slice_index ns k in
    let J = joined ws ns in
    let R = bits (drop (k + 1) ws) in
    let t = count + w in
    let f = field_at ws k (8 * (next - at) + count) fields lt p.from p.whole in
    let parts = bits-drop ws k lt in
    let digit : n ≡ J / 2 ^ R % 2 ^ w = ap (λ (l : List ℕ). slice_index l k) (sym (split-joined ws ns fit))
    ∙ split-at ws J k lt in
    let high : word ≡ J / 2 ^ R / 2 ^ w % 2 ^ count =
    p.left ∙ ap (λ (b : ℕ). J / 2 ^ b % 2 ^ count) (let e : bits (drop k ws) ≡ R + w = omega (arith, parts) in e)
    ∙ ap (λ (x : ℕ). x % 2 ^ count) (sym (div-pow J R w)) in
    let is : word * 2 ^ w + n ≡ J / 2 ^ R % 2 ^ t = ap (λ (x : ℕ). x * 2 ^ w + n) high
    ∙ ap (λ (x : ℕ). J / 2 ^ R / 2 ^ w % 2 ^ count * 2 ^ w + x) digit ∙ sym (mod-pow-add (J / 2 ^ R) count w) in
    let short : t ≤ 64 = omega (arith, f.short, p.short) in
    let below : word * 2 ^ w + n < 2 ^ t = rw is (mod-lt (J / 2 ^ R) (pow_pos t)) in
    let top : 2 ^ t ≤ 2 ^ 64 = pow_mono short in
    let bytes : (word * 2 ^ w + n) / 2 ^ (t % 8) ≡ J / 2 ^ R / 2 ^ (t % 8) % 2 ^ (8 * (t / 8)) =
    ap (λ (x : ℕ). x / 2 ^ (t % 8)) is ∙ ap (λ (e : ℕ). J / 2 ^ R % 2 ^ e / 2 ^ (t % 8)) (in_bytes t)
    ∙ cut_twice (J / 2 ^ R) (8 * (t / 8)) (t % 8) in
    let piece : J / 2 ^ R / 2 ^ (t % 8) % 2 ^ (8 * (t / 8)) < 2 ^ (8 * (t / 8)) =
    mod-lt (J / 2 ^ R / 2 ^ (t % 8)) (pow_pos (8 * (t / 8))) in
    record {
      short = short;
      shifts = omega (arith, below, top);
      fits = omega (arith, below, top);
      is_word = is;
      piece = rw (bytes, pow256 (t / 8)) piece;
      few = omega (arith, short);
      room = omega (arith, f.is_at, p.short);
    }

pub number_put : (ws ns : List ℕ) (at : ℕ) (old : List ℕ) (k next word count : ℕ) (out new : List ℕ)
    → are_fields ws ≡ true → NumbersFit ws ns → k < length ws → NumbersPut ws ns at old k next word count out
    → take (next + (count + slice_index ws k) / 8) new ≡ take next out ++ be_bytes ((count + slice_index ws k) / 8)
    ((word * 2 ^ slice_index ws k + slice_index ns k) / 2 ^ ((count + slice_index ws k) % 8))
    → NumbersPut ws ns at old (k + 1) (next + (count + slice_index ws k) / 8)
    ((word * 2 ^ slice_index ws k + slice_index ns k) % 2 ^ ((count + slice_index ws k) % 8))
    ((count + slice_index ws k) % 8) new
number_put ws ns at old k next word count out new fields fit lt p put =
    let w = slice_index ws k in
    let n = slice_index ns k in
    let J = joined ws ns in
    let R = bits (drop (k + 1) ws) in
    let t = count + w in
    let q = t / 8 in
    let c = t % 8 in
    let m = next - at in
    let f = field_at ws k (8 * m + count) fields lt p.from p.whole in
    let h = word_at ws ns at old k next word count out fields fit lt p in
    let parts = bits-drop ws k lt in
    let bytes : (word * 2 ^ w + n) / 2 ^ c ≡ J / 2 ^ R / 2 ^ c % 256 ^ q =
    ap (λ (x : ℕ). x / 2 ^ c) h.is_word ∙ ap (λ (e : ℕ). J / 2 ^ R % 2 ^ e / 2 ^ c) (in_bytes t)
    ∙ cut_twice (J / 2 ^ R) (8 * q) c ∙ ap (λ (x : ℕ). J / 2 ^ R / 2 ^ c % x) (sym (pow256 q)) in
    let all : J / 2 ^ R / 2 ^ c ≡ J / 2 ^ (R + c) = div-pow J R c in
    let before : J / 2 ^ (R + c) / 256 ^ q ≡ J / 2 ^ (bits (drop k ws) + count) =
    ap (λ (x : ℕ). J / 2 ^ (R + c) / x) (pow256 q) ∙ div-pow J (R + c) (8 * q)
    ∙ ap (λ (e : ℕ). J / 2 ^ e) (let e : R + c + 8 * q ≡ bits (drop k ws) + count = omega (arith, parts) in e) in
    let last : be_bytes q ((word * 2 ^ w + n) / 2 ^ c) ≡ be_bytes q (J / 2 ^ (R + c)) =
    ap (be_bytes q) bytes ∙ be_bytes-mod q (J / 2 ^ R / 2 ^ c) ∙ ap (be_bytes q) all in
    let joint : be_bytes (m + q) (J / 2 ^ (R + c)) ≡ be_bytes m (J / 2 ^ (bits (drop k ws) + count))
    ++ be_bytes q (J / 2 ^ (R + c)) =
    be_bytes-parts m q (J / 2 ^ (R + c)) ∙ ap (λ (x : ℕ). be_bytes m x ++ be_bytes q (J / 2 ^ (R + c))) before in
    let long : m + q ≡ next + q - at = let l = p.least in omega arith in
    let sofar : 8 * m + count + w ≡ 8 * (next + q - at) + c = let l = p.least in omega arith in
    record {
      least = omega (arith, p.least);
      most = omega arith;
      short = omega arith;
      from = let e = f.next in omega (arith, sofar, e);
      whole = subst (λ (b : ℕ). are_whole b (drop (k + 1) ws) ≡ true) sofar f.whole;
      left = ap (λ (x : ℕ). x % 2 ^ c) h.is_word ∙ ap (λ (e : ℕ). J / 2 ^ R % 2 ^ e % 2 ^ c) (in_bytes t)
          ∙ cut_again (J / 2 ^ R) (8 * q) c;
      put = put ∙ ap (λ (l : List ℕ). l ++ be_bytes q ((word * 2 ^ w + n) / 2 ^ c)) p.put
          ∙ append_assoc (take at old) (be_bytes m (J / 2 ^ (bits (drop k ws) + count)))
          (be_bytes q ((word * 2 ^ w + n) / 2 ^ c))
          ∙ ap (λ (l : List ℕ). take at old ++ (be_bytes m (J / 2 ^ (bits (drop k ws) + count)) ++ l)) last
          ∙ ap (λ (l : List ℕ). take at old ++ l) (sym joint)
          ∙ ap (λ (i : ℕ). take at old ++ be_bytes i (J / 2 ^ (R + c))) long;
    }

pub none_put : (ws ns : List ℕ) (at : ℕ) (old : List ℕ) → are_fields ws ≡ true → NumbersPut ws ns at old 0 at 0 0 old
unfolding be_bytes
none_put ws ns at old fields =
    let none : at - at ≡ 0 = omega arith in
    let start : 0 ≡ 8 * (at - at) + 0 = omega arith in
    record {
      least = omega arith;
      most = omega arith;
      short = omega arith;
      from = omega arith;
      whole = subst (λ (b : ℕ). are_whole b ws ≡ true) start (fields_whole ws fields);
      left = omega arith;
      put = rw none (sym (append-nil (take at old)));
    }

pub all_put : (ws ns : List ℕ) (at : ℕ) (old : List ℕ) (k next word count : ℕ) (out : List ℕ) → length ws ≤ k
    → NumbersPut ws ns at old k next word count out
    → (next ≡ at + bytes_in ws) × (take next out ≡ take at old ++ be_bytes (bytes_in ws) (joined ws ns))
all_put ws ns at old k next word count out end p =
    let none : drop k ws ≡ [] = drop_all k ws end in
    let rest : bits (drop k ws) ≡ 0 = ap bits none in
    let whole : are_whole (8 * (next - at) + count) [] ≡ true =
    subst (λ (l : List ℕ). are_whole (8 * (next - at) + count) l ≡ true) none p.whole in
    let even = eqb-true ((8 * (next - at) + count) % 8) 0 whole in
    let exact : bits (drop k ws) + count ≡ 0 = let s = p.short in omega (arith, rest, even) in
    let m : next - at ≡ bytes_in ws = let s = p.from in omega (arith, exact) in
    let l = p.least in (
      omega (arith, m),
      p.put
          ∙ ap (λ (i : ℕ). take at old ++ be_bytes i (joined ws ns / 2 ^ (bits (drop k ws) + count))) m
          ∙ ap (λ (e : ℕ). take at old ++ be_bytes (bytes_in ws) (joined ws ns / 2 ^ e)) exact
          ∙ ap (λ (x : ℕ). take at old ++ be_bytes (bytes_in ws) x) (div-one (joined ws ns)),
    )
