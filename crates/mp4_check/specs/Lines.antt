-- The line or the JSON object of a fault. The words are any text: tests compare them.
use Rattle.std.specs.Prelude.{◌≡◌, ℕ, ◌||◌, Bool, true, false, List, [], ◌∷◌, ◌++◌, codes, decimal, fold, None, Some}
use Rattle.std.specs.Prelude.{if◌then◌else◌}
use Rattle.std.specs.Borrow.{Bor}
use Rattle.std.specs.Io.KnownBytes.{Appends}
use Rattle.std.specs.declared.option.Option.{Option}
use Rattle.json.specs.Print.{print}
use Rattle.json.specs.Token.{Token}
use Rattle.mp4_check.specs.Codes.{code_of, severity_of, severity_word, word_of}
use Rattle.mp4_check.specs.FaultValues.{Value}
use Rattle.mp4_content.specs.PathTexts.{path_shown}
use Rattle.mp4_check.specs.declared.fault.Severity.{Severity}
use Rattle.mp4_check.specs.declared.fault.Severity.TheVariants as severities
use Rattle.mp4_check.specs.declared.lines.Form.{Form}
use Rattle.mp4_check.specs.declared.lines.Form.TheVariants as forms
use Rattle.mp4_check.specs.declared.lines.Told.{Told}
use Rattle.mp4_show.specs.Escaped.{json_escaped}

-- the name of a file before each of its lines, if there are several files
abbrev pub front_text : Option (Bor (List ℕ)) → List ℕ
front_text None = []
front_text (Some name) = name.now ++ codes ": "

abbrev pub severity_at : Value → Severity
severity_at v = severity_of (code_of v.what)

abbrev pub severity_text : Severity → List ℕ
severity_text severities.Failure = []
severity_text severities.Warning = codes "warning: "

-- a line: the position, the path, a word if it is a warning, and the words
abbrev pub line_text : List ℕ → Value → List ℕ → List ℕ → List ℕ
line_text front v path said =
    front ++ (decimal v.position ++ (codes " " ++ (path ++ (codes ": " ++ (severity_text (severity_at v)
    ++ (said ++ 10 ∷ []))))))

abbrev pub IsLine : Form → Value → List ℕ → Type 0
IsLine (forms.Lines name) v text =
    (said : List ℕ) × (text ≡ line_text (front_text name) v (path_shown v.path) said)
IsLine (forms.Objects name) v text = ⊥

abbrev pub text_member : List ℕ → List ℕ → List Token
text_member name text = Token.key name ∷ Token.string text ∷ []

abbrev pub position_member : ℕ → List Token
position_member position = Token.key (codes "position") ∷ Token.number (decimal position) ∷ []

-- the file, the position and the path
abbrev pub place_tokens : List ℕ → Value → List ℕ → List Token
place_tokens name v path =
    text_member (codes "file") name ++ (position_member v.position ++ text_member (codes "path") path)

-- an object: the file, the position, the path, the code, the severity and the words
abbrev pub fault_tokens : List ℕ → Value → List ℕ → List ℕ → List Token
fault_tokens name v path said =
    Token.begin_object ∷ (place_tokens name v path ++ (text_member (codes "code") (word_of (code_of v.what))
    ++ (text_member (codes "severity") (severity_word (severity_at v))
    ++ (text_member (codes "text") said ++ Token.end_object ∷ []))))

abbrev pub IsObject : List ℕ → Value → List ℕ → Type 0
IsObject name v text =
    (said : List ℕ) × (text ≡ json_escaped (print (fault_tokens name v (path_shown v.path) said)))

abbrev pub IsShown : Form → Value → List ℕ → Type 0
IsShown (forms.Lines name) v text = IsLine (forms.Lines name) v text
IsShown (forms.Objects name) v text = IsObject name.now v text

-- a comma comes before each object except the first
abbrev pub between : Form → Bool → List ℕ
between (forms.Lines name) any = []
between (forms.Objects name) any = if any then codes ",\n" else []

-- the texts of these faults, in order, after others if there were any
abbrev pub AreShown : Form → Bool → List Value → List ℕ → Type 0
AreShown form any [] text = text ≡ []
AreShown form any (v ∷ vs) text =
    (one rest : List ℕ) × IsShown form v one × AreShown form true vs rest × (text ≡ between form any ++ (one ++ rest))

abbrev pub is_failure : Severity → Bool
is_failure severities.Failure = true
is_failure severities.Warning = false

abbrev pub is_warning : Severity → Bool
is_warning severities.Failure = false
is_warning severities.Warning = true

-- what was written after one more fault, and after these
abbrev pub told_after : Told → Severity → Told
told_after t s =
    record { any = true; failures = t.failures || is_failure s; warnings = t.warnings || is_warning s }

abbrev pub told_all : Told → List Value → Told
told_all t vs = fold (λ t v. told_after t (severity_at v)) t vs

-- these faults are written, and no others; `before` and `now` summarize all faults before and after them
abbrev pub Writes : Form → Told → List Value → Option (List ℕ) → Option (List ℕ) → Told → Type 0
Writes form before vs old new now =
    (text : List ℕ) × AreShown form before.any vs text × Appends old new text × (now ≡ told_all before vs)
