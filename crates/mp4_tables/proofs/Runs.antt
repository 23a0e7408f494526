-- The first samples of entries, computed one entry after the other.
use Rattle.std.proofs.Common.{◌≡◌, ℕ, ◌+◌, ◌<◌, ◌≤◌, List, [], ◌∷◌, ◌++◌, length, map, drop, get_or, Option, Some, None}
use Rattle.std.proofs.Common.{is_some, Bool, true, false, refl, sym, ap, ◌∙◌, append_assoc}
use Rattle.std.proofs.lemmas.List.{append-nil, drop_more, drop_all}
use Rattle.mp4_tables.specs.declared.stsc_entry.StscEntry.{StscEntry}
use Rattle.mp4_tables.specs.Chunks.{next_sample, with_sample}
use Rattle.mp4_tables.specs.StscEntry.{entry_stsc}

abbrev pub front_of : StscEntry → Option (List StscEntry) → Option (List StscEntry)
front_of e None = None
front_of e (Some es) = Some (e ∷ es)

abbrev pub where_some : Option ℕ → (ℕ → Option (List StscEntry)) → Option (List StscEntry)
where_some None f = None
where_some (Some s) f = f s

-- the entries with their first samples, computed one after the other, or None if one does not fit. The run before the
-- entries begins at this chunk with this sample, and has this number of samples in each chunk
unfoldable pub run : ℕ → ℕ → ℕ → List StscEntry → Option (List StscEntry)
run sample chunk samples [] = Some []
run sample chunk samples (e ∷ es) =
    where_some (next_sample sample chunk samples e.first_chunk)
    (λ s. front_of (with_sample e s) (run s e.first_chunk e.samples_per_chunk es))

-- the entries whose first samples are computed already, and then the rest
abbrev pub with_front : List StscEntry → Option (List StscEntry) → Option (List StscEntry)
with_front front None = None
with_front front (Some rest) = Some (front ++ rest)

front_more : (front : List StscEntry) (e : StscEntry) (rest : Option (List StscEntry))
    → with_front front (front_of e rest) ≡ with_front (front ++ e ∷ []) rest
front_more front e None = refl
front_more front e (Some rest) = ap (λ (es : List StscEntry). Some es) (sym (append_assoc front (e ∷ []) rest))

-- the entries of the rows that start at row i are the entry of row i and the entries of the rows after it
entries_more : (rows : List (List ℕ)) (i : ℕ) (e : StscEntry) (d : List ℕ) → i < length rows
    → e ≡ entry_stsc (get_or rows i d)
    → map entry_stsc (drop i rows) ≡ e ∷ map entry_stsc (drop (i + 1) rows)
entries_more rows i e d lt is =
    ap (λ (rs : List (List ℕ)). map entry_stsc rs) (drop_more rows i d lt)
    ∙ ap (λ (x : StscEntry). x ∷ map entry_stsc (drop (i + 1) rows)) (sym is)

-- a row whose entry has a first sample that fits
pub goes_on : (rows : List (List ℕ)) (i s k m n : ℕ) (e : StscEntry) (d : List ℕ) (front : List StscEntry)
    (total : Option (List StscEntry)) → i < length rows → e ≡ entry_stsc (get_or rows i d)
    → next_sample s k m e.first_chunk ≡ Some n
    → with_front front (run s k m (map entry_stsc (drop i rows))) ≡ total
    → with_front (front ++ with_sample e n ∷ [])
    (run n e.first_chunk e.samples_per_chunk (map entry_stsc (drop (i + 1) rows))) ≡ total
unfolding run
goes_on rows i s k m n e d front total lt is next so_far =
    let rest = map entry_stsc (drop (i + 1) rows) in
    let now = entries_more rows i e d lt is in
    let one : with_front front (run s k m (map entry_stsc (drop i rows)))
    ≡ with_front front (front_of (with_sample e n) (run n e.first_chunk e.samples_per_chunk rest)) =
    rw (now, next) refl in
    sym (front_more front (with_sample e n) (run n e.first_chunk e.samples_per_chunk rest)) ∙ sym one ∙ so_far

-- a row whose entry has a first sample that does not fit
pub stops : (rows : List (List ℕ)) (i s k m : ℕ) (e : StscEntry) (d : List ℕ) (front : List StscEntry)
    (total : Option (List StscEntry)) → i < length rows → e ≡ entry_stsc (get_or rows i d)
    → next_sample s k m e.first_chunk ≡ None
    → with_front front (run s k m (map entry_stsc (drop i rows))) ≡ total → total ≡ None
unfolding run
stops rows i s k m e d front total lt is next so_far =
    let now = entries_more rows i e d lt is in
    let one : with_front front (run s k m (map entry_stsc (drop i rows))) ≡ None = rw (now, next) refl in
    sym so_far ∙ one

pub ends : (rows : List (List ℕ)) (i s k m : ℕ) (front : List StscEntry) (total : Option (List StscEntry))
    → length rows ≤ i → with_front front (run s k m (map entry_stsc (drop i rows))) ≡ total → total ≡ Some front
unfolding run
ends rows i s k m front total le so_far =
    let one : with_front front (run s k m (map entry_stsc (drop i rows))) ≡ Some front =
    rw (drop_all i rows le) (ap (λ (xs : List StscEntry). Some xs) (append-nil front)) in
    sym so_far ∙ one

-- the check that all first samples fit takes the same steps, and does not compute the entries
is_some-front_of : (e : StscEntry) (o : Option (List StscEntry)) → is_some (front_of e o) ≡ is_some o
is_some-front_of e None = refl
is_some-front_of e (Some es) = refl

pub still : (es : List StscEntry) (i s k m n : ℕ) (d : StscEntry) (t : Bool) → i < length es
    → next_sample s k m (get_or es i d).first_chunk ≡ Some n
    → is_some (run s k m (drop i es)) ≡ t
    → is_some (run n (get_or es i d).first_chunk (get_or es i d).samples_per_chunk (drop (i + 1) es)) ≡ t
unfolding run
still es i s k m n d t lt next so_far =
    let e = get_or es i d in
    let now = drop_more es i d lt in
    let one : is_some (run s k m (drop i es))
    ≡ is_some (front_of (with_sample e n) (run n e.first_chunk e.samples_per_chunk (drop (i + 1) es))) =
    rw (now, next) refl in
    sym (is_some-front_of (with_sample e n) (run n e.first_chunk e.samples_per_chunk (drop (i + 1) es)))
    ∙ sym one ∙ so_far

pub halts : (es : List StscEntry) (i s k m : ℕ) (d : StscEntry) (t : Bool) → i < length es
    → next_sample s k m (get_or es i d).first_chunk ≡ None
    → is_some (run s k m (drop i es)) ≡ t → false ≡ t
unfolding run
halts es i s k m d t lt next so_far =
    let now = drop_more es i d lt in
    let one : is_some (run s k m (drop i es)) ≡ false = rw (now, next) refl in
    sym one ∙ so_far

pub passes : (es : List StscEntry) (i s k m : ℕ) (t : Bool) → length es ≤ i
    → is_some (run s k m (drop i es)) ≡ t → true ≡ t
unfolding run
passes es i s k m t le so_far =
    let one : is_some (run s k m (drop i es)) ≡ true = rw (drop_all i es le) refl in
    sym one ∙ so_far
