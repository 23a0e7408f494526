-- The JSON of a C caller is read, and its fault is reported.
use Rattle.std.proofs.Common.{◌≡◌, ◌∙◌, ℕ, List, [], Option, Err, inl, inr, refl, sym, ap}
use Rattle.std.specs.Str.{IsUtf8}
use Rattle.json.specs.Json.{Json, document}
use Rattle.mp4_c.specs.FromJson.{ChecksJson, TakesText, TellsOrRefuses}
use Rattle.mp4_c.specs.declared.from_json.JsonFault.{JsonFault}
use Rattle.mp4_shown.specs.Taking.{Fault, Taking}
use Rattle.mp4_shown.specs.declared.taken.error.Reason.TheVariants as reasons

-- a text is read
pub text_read : {A : Type 0} (read : Option Json → Taking A) (json text : List ℕ) (taking : Taking A)
    → (text ≡ json) × IsUtf8 json → read (document text) ≡ taking → TakesText read json taking
text_read read json text taking given is = inl (given.1, sym is ∙ ap (λ (t : List ℕ). read (document t)) given.0)

-- bytes that aren't a text are no JSON
pub no_text : {A : Type 0} (read : Option Json → Taking A) (json : List ℕ) → ¬ (IsUtf8 json)
    → TakesText read json (Err ([], reasons.NotJson))
no_text read json none = inr (none, refl)

-- a fault is reported
pub fault_told : {A : Type 0} (read : Option Json → Taking (Option A)) (json : List ℕ) (fault : Fault) (status : ℕ)
    (old new : List ℕ) (row_old row_new : JsonFault) → TakesText read json (Err fault)
    → TellsOrRefuses fault status old new row_old row_new → ChecksJson read json status old new row_old row_new
fault_told read json fault status old new row_old row_new takes (inl told) = inl (Err fault, (takes, told))
fault_told read json fault status old new row_old row_new takes (inr refused) = inr refused
