-- Pieces of bytes that are taken out of an object.
use Rattle.std.specs.Prelude.{ℕ, ◌==◌, List, ◌++◌, if◌then◌else◌, Ok, flat_map}
use Rattle.json.specs.Json.{Json, Members}
use Rattle.mp4_shown.specs.Lists.{ListName}
use Rattle.mp4_shown.specs.Runs.{BytesName}
use Rattle.mp4_shown.specs.TakenLists.{length_of, list_taken}
use Rattle.mp4_shown.specs.Object.{has}
use Rattle.mp4_shown.specs.TakenRuns.{each_taken, run_taken}
use Rattle.mp4_shown.specs.Taking.{Taking, expect, ◌>>=◌}
use Rattle.mp4_shown.specs.declared.taken.error.Reason.TheVariants.{Contradiction}

-- the bytes of all pieces
abbrev pub concat : List (List ℕ) → List ℕ
concat pieces = flat_map (λ piece. piece) pieces

-- the bytes of as many pieces as the count says
abbrev pub pieces_in : ListName → (Json → Taking (List ℕ)) → List ℕ → ℕ → Members → Taking (List ℕ × Members)
pieces_in l taken count_name count ms =
    list_taken l ms >>= λ p. expect (length_of p.0 == count) count_name Contradiction >>= λ _.
    each_taken taken l.0.now 0 p.0 >>= λ pieces. Ok (concat pieces, p.1)

-- as many pieces as the count says, and the bytes after them
abbrev pub listed_pieces : ListName → BytesName → (Json → Taking (List ℕ)) → List ℕ → ℕ → Members
    → Taking (List ℕ × Members)
listed_pieces l rest taken count_name count ms =
    pieces_in l taken count_name count ms >>= λ p. run_taken rest p.1 >>= λ q. Ok (p.0 ++ q.0, q.1)

-- pieces, or all bytes if there is no list
abbrev pub pieces_taken : ListName → BytesName → BytesName → (Json → Taking (List ℕ)) → List ℕ → ℕ → Members
    → Taking (List ℕ × Members)
pieces_taken l all rest taken count_name count ms =
    if has l.0.now ms then listed_pieces l rest taken count_name count ms else run_taken all ms
