-- Reading an stsd takes no memory, unless its entry is an avc1.
use Rattle.std.proofs.Common.{◌≡◌, ℕ, ◌+◌, ◌<◌, ◌^◌, Bool, true, false, cond, List, drop, Result, Ok, Err, Some, None}
use Rattle.std.proofs.Common.{refl, sym, ap, ◌∙◌}
use Rattle.std.specs.Prelude.{nat_lt}
use Rattle.std.proofs.lemmas.Bool.{ltb-true}
use Rattle.mp4_frame.specs.BoxType.{name_of, code_of, code_of-name_of}
use Rattle.mp4_frame.specs.Bytes.{number}
use Rattle.mp4_frame.specs.Format.{Format}
use Rattle.mp4_frame.specs.Members.{Is, kind}
use Rattle.mp4_frame.specs.OneChild.{child_head, child_content, named_child}
use Rattle.mp4_frame.specs.Reading.{Reading, Fault, TakesNone, ◌>>=◌, and_then, expect_bytes, check, done}
use Rattle.mp4_frame.specs.declared.box_type.BoxType.{BoxType}
use Rattle.mp4_frame.specs.declared.box_type.BoxType.TheVariants as names
use Rattle.mp4_frame.specs.declared.codes.TheConstants as codes
use Rattle.mp4_frame.specs.declared.frame.Frame.{Frame}
use Rattle.mp4_frame.proofs.NoMemory.{bind_takes_none, expect_bytes_takes_none, check_takes_none}
use Rattle.mp4_frame.proofs.NoMemory.{named_child_takes_none}
use Rattle.mp4_entries.specs.Boxes.{reads_hev1, format_hev1, reads_vp09, format_vp09, reads_tx3g, format_tx3g}
use Rattle.mp4_entries.specs.Hev1Laws.{hev1_takes_none}
use Rattle.mp4_entries.specs.Tx3gLaws.{tx3g_takes_none}
use Rattle.mp4_entries.specs.Vp09Laws.{vp09_takes_none}
use Rattle.mp4_sound.specs.Mp4a.{reads_mp4a, format_mp4a}
use Rattle.mp4_sound.specs.Mp4aLaws.{mp4a_takes_none}
use Rattle.mp4_sound.specs.Stsd.{Entry, Hev1, Vp09, Mp4a, Tx3g, kinds_of_entry, entry_if_known, entry_at, value_stsd}
use Rattle.mp4_sound.specs.Stsd.{reads_stsd}

-- If a reading takes no memory, its first part takes none.
first_takes_none : {A C : Type 0} (a : Bool) (o : Result A Fault) (f : A → Reading C)
    → (and_then a o f).asks_memory ≡ false → a ≡ false
first_takes_none true (Ok x) f none = absurd cc
first_takes_none true (Err k) f none = none
first_takes_none false o f none = refl

module _ (bytes : List ℕ) (start : ℕ) where
  head_takes_none : (size : ℕ) → TakesNone (child_head bytes size 16)
  unfolding named_child
  head_takes_none size =
      let r = child_head bytes size 16 in
      first_takes_none r.asks_memory r.outcome _
      (named_child_takes_none reads_mp4a mp4a_takes_none bytes start 0 size 16)

  kind_takes_none : {A : Type 0} (reads : List ℕ → ℕ → ℕ → Reading A) (format : Format A) (wrap : A → Entry)
      → ((bytes : List ℕ) (start size : ℕ) → TakesNone (reads bytes start size))
      → (c : Frame) → TakesNone (entry_if_known (Is (kind reads format wrap)) bytes start c)
  unfolding child_content
  kind_takes_none reads format wrap none c =
      let ends = nat_lt (start + c.start + c.size) (2 ^ 64) in
      bind_takes_none (child_content reads bytes start c) (λ v. done (Some (wrap v)))
      (bind_takes_none (check ends) _ (check_takes_none ends)
      (λ _. none (drop c.start bytes) (start + c.start) c.size)) (λ _. refl)

  entry_takes_none : (name : BoxType) → ¬ (name ≡ names.Avc1Box) → (c : Frame)
      → TakesNone (entry_if_known (kinds_of_entry name) bytes start c)
  entry_takes_none names.Avc1Box other c = absurd (other refl)
  entry_takes_none names.Hev1Box other c = kind_takes_none reads_hev1 format_hev1 Hev1 hev1_takes_none c
  entry_takes_none names.Vp09Box other c = kind_takes_none reads_vp09 format_vp09 Vp09 vp09_takes_none c
  entry_takes_none names.Mp4aBox other c = kind_takes_none reads_mp4a format_mp4a Mp4a mp4a_takes_none c
  entry_takes_none names.Tx3gBox other c = kind_takes_none reads_tx3g format_tx3g Tx3g tx3g_takes_none c
  entry_takes_none _ other c = refl

  found_takes_none : (a : Bool) (o : Result Frame Fault) → a ≡ false
      → ((c : Frame) → o ≡ Ok c → ¬ (c.code ≡ codes.AVC1))
      → (and_then a o (λ c. entry_if_known (kinds_of_entry (name_of c.code)) bytes start c)).asks_memory ≡ false
  found_takes_none false (Ok c) none other =
      entry_takes_none (name_of c.code) (λ is. other c refl (sym (code_of-name_of c.code) ∙ ap code_of is)) c
  found_takes_none true (Ok c) none other = absurd cc
  found_takes_none a (Err k) none other = none

  at_takes_none : (size : ℕ) (more : Bool)
      → (more ≡ true → (c : Frame) → (child_head bytes size 16).outcome ≡ Ok c → ¬ (c.code ≡ codes.AVC1))
      → TakesNone (cond more
      (child_head bytes size 16 >>= λ c. entry_if_known (kinds_of_entry (name_of c.code)) bytes start c)
      (done None))
  at_takes_none size true other =
      let r = child_head bytes size 16 in
      found_takes_none r.asks_memory r.outcome (head_takes_none size) (other refl)
  at_takes_none size false other = refl

pub stsd_takes_none : (bytes : List ℕ) (start size : ℕ)
    → (16 < size → (c : Frame) → (child_head bytes size 16).outcome ≡ Ok c → ¬ (c.code ≡ codes.AVC1))
    → TakesNone (reads_stsd bytes start size)
unfolding reads_stsd
stsd_takes_none bytes start size other =
    bind_takes_none (expect_bytes bytes 8 8) _ (expect_bytes_takes_none bytes 8 8)
    (λ _. bind_takes_none (entry_at bytes start size) (λ c. done (value_stsd (number bytes) c))
    (at_takes_none bytes start size (nat_lt 16 size) (λ more. other (ltb-true 16 size more))) (λ _. refl))
