-- The laws of a declared entry follow from a few facts about its layout.
use Rattle.std.proofs.Common.{◌≡◌, ℕ, suc, ◌<◌, ◌^◌, ◌&&◌, Bool, true, false, List, [], ◌∷◌, slice_index, refl, sym, ap}
use Rattle.std.proofs.Common.{lit<, subst, ◌∙◌}
use Rattle.std.proofs.lemmas.Bool.{eqb-true, ltb-true}
use Rattle.std.specs.Prelude.{◌==◌, nat_lt}
use Rattle.std.proofs.lemmas.List.{append-nil}
use Rattle.mp4_frame.specs.Bytes.{number, be_bytes}
use Rattle.mp4_frame.proofs.Fields.{length-be_bytes, number-be_bytes}
use Rattle.mp4_frame.proofs.TableLaws.{IsEntry}
use Rattle.mp4_declared.specs.Bits.{bits, bytes_in, joined, split, NumbersFit, are_fields}
use Rattle.mp4_declared.specs.BitsLaws.{pow256, joined-lt, split-joined, split-below, bits_in, fields_whole}
use Rattle.mp4_declared.specs.BitsLaws.{and_first, and_second}
use Rattle.mp4_declared.specs.Layout.{bit, EntryLayout, row_of, entry_of, FitsEntry, BitField, flag, unsigned, width_of}
use Rattle.mp4_declared.specs.Layout.{widths_of, InField, InFields, number_of, numbers_of, value_of, values_of}
use Rattle.mp4_declared.specs.Layout.{OwnEntry, layout_in}

-- A flag is read back, and fits one bit.
pub flag_back : (flag : Bool) → (bit flag == 1) ≡ flag
flag_back true = refl
flag_back false = refl

pub flag_fits : (flag : Bool) → bit flag < 2
flag_fits true = lit< tt
flag_fits false = lit< tt

-- The facts about the layout of an entry: its fields fill e bytes, an entry is made of its numbers, and an entry that
-- is made of numbers that fit has numbers that fit.
pub record IsEntryLayout {X : Type 0} (l : EntryLayout X) (e : ℕ) : Type 0 where
  pub long : bytes_in l.widths ≡ e
  pub fields : are_fields l.widths ≡ true
  pub some : 0 < e
  pub back : (x : X) → l.value (slice_index (l.numbers x)) ≡ x
  pub fit : (n : ℕ → ℕ) → ((k : ℕ) → n k < 2 ^ slice_index l.widths k) → NumbersFit l.widths (l.numbers (l.value n))

pub joined_small : (ws ns : List ℕ) → are_fields ws ≡ true → NumbersFit ws ns → joined ws ns < 256 ^ bytes_in ws
joined_small ws ns fields fit =
    let power : 256 ^ bytes_in ws ≡ 2 ^ bits ws =
    pow256 (bytes_in ws) ∙ ap (λ (k : ℕ). 2 ^ k) (bits_in ws (fields_whole ws fields)) in
    rw power (joined-lt ws ns fit)

pub entry_laws : {X : Type 0} (l : EntryLayout X) {e : ℕ} → IsEntryLayout l e
    → IsEntry (row_of l) (entry_of l) (FitsEntry l) e
entry_laws {X} l {e} is = subst (λ (k : ℕ). IsEntry (row_of l) (entry_of l) (FitsEntry l) k) is.long (record {
  long = λ x fits. length-be_bytes (bytes_in l.widths) (joined l.widths (l.numbers x));
  back = λ x fits.
      let w = bytes_in l.widths in
      let j = joined l.widths (l.numbers x) in
      let whole : number (be_bytes w j) 0 w ≡ j =
      ap (λ (bytes : List ℕ). number bytes 0 w) (sym (append-nil (be_bytes w j)))
      ∙ number-be_bytes w j [] (joined_small l.widths (l.numbers x) is.fields fits) in
      ap (λ (n : ℕ). l.value (slice_index (split l.widths n))) whole
      ∙ ap (λ (ns : List ℕ). l.value (slice_index ns)) (split-joined l.widths (l.numbers x) fits) ∙ is.back x;
  fits = λ bytes read.
      is.fit (slice_index (split l.widths (number bytes 0 (bytes_in l.widths))))
      (split-below l.widths (number bytes 0 (bytes_in l.widths)));
})

-- ---- an entry whose fields are listed

value_back : (f : BitField) (v : InField f) → value_of f (number_of f v) ≡ v
value_back flag v = flag_back v
value_back (unsigned w) v = refl

values_back : (fs : List BitField) (v : InFields fs) → values_of fs (slice_index (numbers_of fs v)) ≡ v
values_back [] v = refl
values_back (f ∷ fs) v =
    let first : value_of f (number_of f v.0) ≡ v.0 = value_back f v.0 in
    let rest : values_of fs (slice_index (numbers_of fs v.1)) ≡ v.1 = values_back fs v.1 in
    λ i. (first i, rest i)

value_fits : (f : BitField) (n : ℕ) → n < 2 ^ width_of f → number_of f (value_of f n) < 2 ^ width_of f
value_fits flag n small = flag_fits (n == 1)
value_fits (unsigned w) n small = small

values_fit : (fs : List BitField) (n : ℕ → ℕ) → ((k : ℕ) → n k < 2 ^ slice_index (widths_of fs) k)
    → NumbersFit (widths_of fs) (numbers_of fs (values_of fs n))
values_fit [] n small = tt
values_fit (f ∷ fs) n small =
    (value_fits f (n 0) (small 0), values_fit fs (λ k. n (suc k)) (λ k. small (suc k)))

pub laws_in : {X : Type 0} {e : ℕ} (o : OwnEntry X e) → IsEntryLayout (layout_in o) e
laws_in {X} {e} o =
    let ws = widths_of o.fields in
    let rest = and_second (are_fields ws) (bytes_in ws == e && nat_lt 0 e) o.whole in
    record {
      long = eqb-true (bytes_in ws) e (and_first (bytes_in ws == e) (nat_lt 0 e) rest);
      fields = and_first (are_fields ws) (bytes_in ws == e && nat_lt 0 e) o.whole;
      some = ltb-true 0 e (and_second (bytes_in ws == e) (nat_lt 0 e) rest);
      back = λ x. ap o.value (values_back o.fields (o.content x)) ∙ o.back x;
      fit = λ n small.
          subst (λ (v : InFields o.fields). NumbersFit ws (numbers_of o.fields v))
          (sym (o.again (values_of o.fields n))) (values_fit o.fields n small);
    }
