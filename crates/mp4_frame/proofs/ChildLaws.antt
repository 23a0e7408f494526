-- Laws of a box that follow from the laws of a child, which the box always has or may lack.
use Rattle.std.proofs.Common.{◌≡◌, ℕ, zero, suc, ◌+◌, ◌<◌, ◌≤◌, ◌^◌, Bool, cond, ◌&&◌, List, [], ◌++◌, length, Result}
use Rattle.std.proofs.Common.{Ok, Err, Option, Some, None, refl, sym, ap, subst, ◌∙◌, arith, lit<}
use Rattle.std.proofs.lemmas.Bool.{leb-true, and_parts}
use Rattle.std.specs.Prelude.{nat_le, nat_lt}
use Rattle.mp4_frame.specs.BoxType.{code_of}
use Rattle.mp4_frame.specs.Bytes.{bytes_of_fields}
use Rattle.mp4_frame.specs.Children.{child, child_if_named, last, children}
use Rattle.mp4_frame.specs.Heads.{head}
use Rattle.mp4_frame.specs.Format.{Format, IsBox}
use Rattle.mp4_frame.specs.Laws.{AreBytes}
use Rattle.mp4_frame.specs.Reading.{Reading, Fault, ◌>>=◌, and_then, also, check, done}
use Rattle.mp4_frame.specs.declared.frame.Frame.{Frame}
use Rattle.mp4_frame.proofs.Chains.{children_none, children_zero}
use Rattle.mp4_frame.proofs.Children.{only_child, children_stable, ForSome}
use Rattle.mp4_frame.proofs.Fields.{length-fields}
use Rattle.mp4_frame.proofs.Checks.{check_ok, is_value}
use Rattle.mp4_frame.proofs.Heads.{head_room}
use Rattle.mp4_frame.proofs.Tables.{value_first}
use Rattle.mp4_frame.specs.OptionalChild.{count_optional, size_optional, WritableOptional, bytes_optional}
use Rattle.mp4_frame.specs.OptionalChild.{normal_optional}

-- a child ends at least 8 bytes after the offset where its header begins
child_end : (bytes : List ℕ) (start size o : ℕ) (c : Frame) → (child bytes start size o).outcome ≡ Ok c
    → o + 8 ≤ c.start + c.size
unfolding child
child_end bytes start size o c e =
    let small = λ (h : Frame). nat_le 8 h.size && nat_le h.size size in
    let ends = λ (h : Frame). check (nat_lt (start + h.start + h.size) (2 ^ 64)) >>= λ _. done h in
    let p = value_first (head bytes o) (λ h. check (small h) >>= λ _. ends h) c e in
    let q = check_ok (small p.0) (λ _. ends p.0) c p.2 in
    let r = check_ok (nat_lt (start + p.0.start + p.0.size) (2 ^ 64)) (λ _. done p.0) c q.1 in
    let least : 8 ≤ p.0.size = leb-true 8 p.0.size (and_parts (nat_le 8 p.0.size) (nat_le p.0.size size) q.0).0 in
    let first : o ≤ p.0.start = (head_room bytes o p.0 p.1).0 in
    subst (λ (h : Frame). o + 8 ≤ h.start + h.size) (is_value p.0 c r.1) (omega (arith, least, first))

module _ {A : Type 0} (reads : List ℕ → ℕ → ℕ → Reading A) (code : ℕ) (bytes : List ℕ) (start size : ℕ) where
  after : ℕ → Frame → Reading (Option A)
  after n c = child_if_named reads code bytes start c >>= λ mine.
      children reads code bytes start size n (c.start + c.size) >>= λ later. done (last mine later)

  same_after : (o m n : ℕ)
      → ((q : ℕ) → o + 8 ≤ q → children reads code bytes start size m q ≡ children reads code bytes start size n q)
      → (a : Bool) (r : Result Frame Fault) → (child bytes start size o).outcome ≡ r
      → and_then a r (after m) ≡ and_then a r (after n)
  unfolding after
  same_after o m n same a (Err k) e = refl
  same_after o m n same a (Ok c) e =
      ap (λ (rest : Reading (Option A)).
      also a (child_if_named reads code bytes start c >>= λ mine. rest >>= λ later. done (last mine later)))
      (same (c.start + c.size) (child_end bytes start size o c e))

  -- the bound on the number of children changes nothing if it is at least the number of bytes that are left
  pub all_children : (n more o : ℕ) → size ≤ o + n
      → children reads code bytes start size (n + more) o ≡ children reads code bytes start size n o
  unfolding children after
  all_children zero more o le = children_none reads code bytes start size (0 + more) o (omega (arith, le))
      ∙ sym (children_zero reads code bytes start size o)
  all_children (suc n) more o le =
      let count : suc n + more ≡ suc (n + more) = omega arith in
      let c = child bytes start size o in
      ap (λ (k : ℕ). children reads code bytes start size k o) count
      ∙ ap (λ (r : Reading (Option A)). cond (nat_le size o) (done None) r)
      (same_after o (n + more) n (λ q later. all_children n more q (omega (arith, le, later))) c.asks_memory
      c.outcome refl)

-- The laws of the box, from the laws of the child.
module _ {A : Type 0} {reads : List ℕ → ℕ → ℕ → Reading A} {format : Format A} (laws : IsBox reads format) where
  -- the normal form has the same size
  pub normal_size : (v : A) → format.Writable v → format.size (format.normal v) ≡ format.size v
  normal_size v w =
      let n = laws.normal_form v w in
      sym (laws.header (format.normal v) n.writable).long ∙ ap length n.same_bytes ∙ (laws.header v w).long

  pub optional_long : (c : Option A) → WritableOptional format c
      → length (bytes_optional format c) ≡ size_optional format c
  optional_long (Some v) w = (laws.header v w).long
  optional_long None w = refl

  pub optional_size : (c : Option A) → WritableOptional format c
      → size_optional format (normal_optional format c) ≡ size_optional format c
  optional_size (Some v) w = normal_size v w
  optional_size None w = refl

  pub optional_count : (c : Option A) → count_optional (normal_optional format c) ≡ count_optional c
  optional_count (Some v) = refl
  optional_count None = refl

  pub optional_writable : (c : Option A) → WritableOptional format c
      → WritableOptional format (normal_optional format c)
  optional_writable (Some v) w = (laws.normal_form v w).writable
  optional_writable None w = tt

  pub optional_again : (c : Option A) → WritableOptional format c
      → normal_optional format (normal_optional format c) ≡ normal_optional format c
  optional_again (Some v) w = ap (λ (u : A). Some u) (laws.normal_form v w).again
  optional_again None w = refl

  pub optional_bytes : (c : Option A) → WritableOptional format c
      → bytes_optional format (normal_optional format c) ≡ bytes_optional format c
  optional_bytes (Some v) w = (laws.normal_form v w).same_bytes
  optional_bytes None w = refl

  module _ (code : ℕ) (coded : (v : A) → code_of (format.name v) ≡ code) (cs : List (ℕ × ℕ)) (k : ℕ)
      (long : length (bytes_of_fields cs) ≡ k) where
    -- a child after fields is read back
    pub child_back : (v : A) (rest : List ℕ) (start n : ℕ) → format.Writable v
        → start + (k + format.size v) < 2 ^ 64 → 0 < n
        → (children reads code (bytes_of_fields cs ++ (format.bytes v ++ rest)) start (k + format.size v) n k).outcome
        ≡ Ok (Some (format.normal v))
    child_back v rest start n w top more =
        let f = laws.header v w in
        only_child reads code cs (format.bytes v) rest start k (format.size v) (format.normal v)
        (sym (length-fields cs) ∙ long) f.long f.least f.most top f.size_first (f.code_next ∙ coded v)
        (laws.read_back v w rest (start + k) (omega (arith, top))) n more

    pub optional_back : (c : Option A) (rest : List ℕ) (start : ℕ) → WritableOptional format c
        → start + (k + size_optional format c) < 2 ^ 64
        → (children reads code (bytes_of_fields cs ++ (bytes_optional format c ++ rest)) start
        (k + size_optional format c) (count_optional c) k).outcome ≡ Ok (normal_optional format c)
    optional_back (Some v) rest start w top = child_back v rest start 1 w top (lit< tt)
    optional_back None rest start w top =
        ap (λ (r : Reading (Option A)). r.outcome)
        (children_zero reads code (bytes_of_fields cs ++ ([] ++ rest)) start (k + 0) k)

  module _ (code : ℕ) (input : List ℕ) (start long n o : ℕ) (c : Option A) (are : AreBytes input)
      (read : (children reads code input start long n o).outcome ≡ Ok c) where
    by : (d : Option A) → ForSome (λ v. (format.normal v ≡ v) × (format.size v < 2 ^ 32 → format.Writable v)) d
        → (normal_optional format d ≡ d) × (size_optional format d < 2 ^ 32 → WritableOptional format d)
    by (Some v) is = (ap (λ (u : A). Some u) is.0, is.1)
    by None is = (refl, λ small. tt)

    -- a child that was read is its own normal form, and can be written unless it is too large
    pub optional_stable : (normal_optional format c ≡ c) × (size_optional format c < 2 ^ 32 → WritableOptional format c)
    optional_stable = by c
        (children_stable reads code input start long
        (λ v. (format.normal v ≡ v) × (format.size v < 2 ^ 32 → format.Writable v)) laws.stable are n o c read)
