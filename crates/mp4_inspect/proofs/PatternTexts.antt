-- Texts of patterns, one step at a time.
use Rattle.std.proofs.Common.{◌≡◌, ◌≢◌, ℕ, zero, suc, ◌+◌, ◌<◌, ◌≤◌, ◌==◌, ◌&&◌, ◌||◌, Bool, true, false, List, []}
use Rattle.std.proofs.Common.{◌∷◌, ◌++◌, length, take, drop, None, Some, Bor, codes, bytes_eq, slice_get, get_or, refl}
use Rattle.std.proofs.Common.{sym, subst, ap, ◌∙◌, if◌then◌else◌, arith, true≢false, IsCharBoundary}
use Rattle.std.proofs.lemmas.Bool.{ne_eqb, and_right}
use Rattle.std.proofs.lemmas.List.{take_all, length-take, length-map}
use Rattle.std.proofs.lemmas.Slice.Eq.{bytes_eq-Decides}
use Rattle.std.proofs.lemmas.Str.Pattern.{starts_text}
use Rattle.std.specs.Str.Pattern.{FindsTextPrefix, StripsPrefix}
use Rattle.mp4_inspect.specs.PatternText.{IsStep, IsStepFault, AreSteps, IsPatternFault}
use Rattle.mp4_inspect.specs.PatternText.{is_anywhere, is_each, steps_text}
use Rattle.mp4_inspect.specs.declared.pattern.Step.{Step}
use Rattle.mp4_walk.proofs.PathTexts.{text_at, texts_in, piece_at}
use Rattle.mp4_walk.specs.PathText.{texts_of}
use Rattle.mp4_walk.specs.declared.path.PathError.{PathError}

-- a text that begins with `**/`, and one that doesn't
pub after_stars : (text rest : List ℕ) → StripsPrefix (FindsTextPrefix (codes "**/")) text rest
    → (true ≡ is_anywhere text) × (rest ≡ steps_text text)
after_stars text rest strips =
    let cut : IsCharBoundary text strips.0 =
    subst (λ (n : ℕ). IsCharBoundary text n) (sym strips.1.0) strips.1.2 in
    let begins : true ≡ is_anywhere text = starts_text true (codes "**/") text (strips.0, strips.1, cut) in
    let three : rest ≡ drop 3 text = strips.2 ∙ ap (λ (n : ℕ). drop n text) strips.1.0 in
    (begins, subst (λ (b : Bool). rest ≡ (if b then drop 3 text else text)) begins three)

pub no_stars : (text : List ℕ) → FindsTextPrefix (codes "**/") text None
    → (false ≡ is_anywhere text) × (text ≡ steps_text text)
no_stars text none =
    let other : false ≡ is_anywhere text = starts_text false (codes "**/") text none in
    (other, subst (λ (b : Bool). text ≡ (if b then drop 3 text else text)) other refl)

-- what follows a code for one box is not `[*]`
pub no_star : (each : Bool) (rest : List ℕ) → is_each each rest ≡ false → rest ≢ codes "[*]"
no_star each rest one is =
    let same : bytes_eq rest (codes "[*]") ≡ true = (bytes_eq-Decides rest (codes "[*]")).1 is in
    let both : is_each each rest ≡ true = ap (λ (b : Bool). b || (each && (length rest == 0))) same in
    true≢false (sym both ∙ one)

and_true : (b : Bool) → (b && true) ≡ b
and_true true = refl
and_true false = refl

-- one more step
next_step : (each : Bool) (texts : List (List ℕ)) (steps : List Step) (k : ℕ) (text : List ℕ) (step : Step)
    → AreSteps each (take k texts) steps → slice_get texts k ≡ Some text
    → IsStep (each && (length steps == 0)) text step → AreSteps each (take (suc k) texts) (steps ++ step ∷ [])
next_step each [] steps k text step before is here = absurd cc
next_step each (t ∷ ts) [] zero text step before is here =
    let same : t ≡ text = cc in
    (subst (λ v. IsStep each v step) (sym same) (subst (λ (b : Bool). IsStep b text step) (and_true each) here), tt)
next_step each (t ∷ ts) (s ∷ ss) zero text step before is here = absurd before
next_step each (t ∷ ts) [] (suc k) text step before is here = absurd before
next_step each (t ∷ ts) (s ∷ ss) (suc k) text step before is here =
    let later : (each && (suc (length ss) == 0)) ≡ false =
    and_right each (suc (length ss) == 0) (ne_eqb (suc (length ss)) 0 (λ e. absurd (omega (arith, e)))) in
    let behind : IsStep false text step = subst (λ (b : Bool). IsStep b text step) later here in
    (before.0, next_step false ts ss k text step before.1 is behind)

pub steps_more : (each : Bool) (texts : List (List ℕ)) (steps : List Step) (k number : ℕ) (flag : Bool)
    (text : List ℕ) (step : Step) → AreSteps each (take k texts) steps → slice_get texts k ≡ Some text
    → number ≡ length steps → flag ≡ (each && (number == 0)) → IsStep flag text step
    → AreSteps each (take (k + 1) texts) (steps ++ step ∷ [])
steps_more each texts steps k number flag text step before is counted flagged here =
    let next : suc k ≡ k + 1 = omega arith in
    let counts : flag ≡ (each && (length steps == 0)) = flagged ∙ ap (λ (n : ℕ). each && (n == 0)) counted in
    subst (λ (n : ℕ). AreSteps each (take n texts) (steps ++ step ∷ [])) next
    (next_step each texts steps k text step before is (subst (λ (b : Bool). IsStep b text step) counts here))

-- as many steps as texts
steps_long : (each : Bool) (texts : List (List ℕ)) (steps : List Step) → AreSteps each texts steps
    → length steps ≡ length texts
steps_long each [] [] all = refl
steps_long each [] (s ∷ ss) all = absurd all
steps_long each (t ∷ ts) [] all = absurd all
steps_long each (t ∷ ts) (s ∷ ss) all = ap suc (steps_long false ts ss all.1)

-- all pieces are steps
pub all_steps : (text : List ℕ) (each : Bool) (items : List (Bor (List ℕ))) (k : ℕ) (steps : List Step)
    → each ≡ is_anywhere text → texts_in items ≡ texts_of (steps_text text) → length items ≤ k
    → AreSteps each (take k (texts_in items)) steps
    → (each ≡ is_anywhere text) × AreSteps (is_anywhere text) (texts_of (steps_text text)) steps
all_steps text each items k steps flag are end all =
    let texts = texts_in items in
    let short : length texts ≤ k = omega (arith, length-map items text_at, end) in
    let whole : AreSteps each (texts_of (steps_text text)) steps =
    subst (λ ts. AreSteps each ts steps) (take_all k texts short ∙ are) all in
    (flag, subst (λ (b : Bool). AreSteps b (texts_of (steps_text text)) steps) flag whole)

-- the piece after some steps is none
pub first_fault : (text : List ℕ) (each : Bool) (items : List (Bor (List ℕ))) (k number : ℕ) (d : Bor (List ℕ))
    (steps : List Step) (e : PathError) → each ≡ is_anywhere text → texts_in items ≡ texts_of (steps_text text)
    → k < length items → AreSteps each (take k (texts_in items)) steps → number ≡ length steps
    → IsStepFault (get_or items k d).now number e → IsPatternFault text e
first_fault text each items k number d steps e flag are within all counted fault =
    let texts = texts_in items in
    let piece = (get_or items k d).now in
    let long = steps_long each (take k texts) steps all in
    let same : number ≡ k =
    omega (arith, counted, long, length-take k texts, length-map items text_at, within) in
    let here : slice_get (texts_of (steps_text text)) k ≡ Some piece =
    subst (λ ts. slice_get ts k ≡ Some piece) are (piece_at items k d within) in
    let before : AreSteps each (take k (texts_of (steps_text text))) steps =
    subst (λ ts. AreSteps each (take k ts) steps) are all in
    let first = subst (λ (b : Bool). AreSteps b (take k (texts_of (steps_text text))) steps) flag before in
    (k, piece, here, subst (λ n. IsStepFault piece n e) same fault, (steps, first))
