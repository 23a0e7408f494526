use Rattle.std.proofs.Common.{◌≡◌, ◌+◌, List, ℕ, set, subst, sym, arith, rules}
use Rattle.std.proofs.lemmas.Str.{chars_past_char, IsUtf8-past_char}
use Rattle.std.specs.Str.{chars}
use Rattle.std.specs.Str.Iter.{chars_rest}
use Rattle.mp4_shown.proofs.CodeSteps.{AreBytes, no_chars, none_if_few, none_if_large, none_if_more, one_more}
use Rattle.mp4_shown.proofs.CodeSteps.{some_if_four}
use Rattle.mp4_shown.proofs.taken.code.latin_in.Goals as goal

pub returns-then-count-eq4 : goal.returns-then-count-eq4
returns-then-count-eq4 c =
    let held = c.loop-c.invariant in
    let step = chars_past_char _ _ c.in-Some.c held.valid c.in-Some.ensures.steps.0 in
    sym (none_if_more _ _ c.loop-c.value c.loop-c.count c.in-Some.c (search rules)
    (subst (λ (cs : List ℕ). AreBytes (chars c.args.text.now) cs c.loop-c.value c.loop-c.count) step held.bytes))

pub returns-then-number-ge256 : goal.returns-then-number-ge256
returns-then-number-ge256 c =
    let held = c.loop-c.invariant in
    let step = chars_past_char _ _ c.in-Some.c held.valid c.in-Some.ensures.steps.0 in
    sym (none_if_large _ _ c.loop-c.value c.loop-c.count c.in-Some.c (omega (arith, c.from-number.ensures))
    (subst (λ (cs : List ℕ). AreBytes (chars c.args.text.now) cs c.loop-c.value c.loop-c.count) step held.bytes))

pub loop-c-preserved : goal.loop-c-preserved
loop-c-preserved c =
    let held = c.loop-c.invariant in
    let parts = c.in-Some.ensures.steps.0 in
    let step = chars_past_char _ _ c.in-Some.c held.valid parts in
    let same : c.from-number.result ≡ c.in-Some.c = search rules in
    let rest = chars (chars_rest c.next.new.self) in
    let next = one_more (chars c.args.text.now) rest c.loop-c.value c.loop-c.count c.in-Some.c
    (omega (arith, held.bytes.few, c.if-count-eq4.false)) (omega (arith, same, c.if-number-ge256.false))
    (subst (λ (cs : List ℕ). AreBytes (chars c.args.text.now) cs c.loop-c.value c.loop-c.count) step held.bytes) in
    record {
      valid = IsUtf8-past_char _ _ c.in-Some.c held.valid parts;
      bytes = subst (λ (n : ℕ). AreBytes (chars c.args.text.now) rest (set c.loop-c.value c.loop-c.count n)
          (c.loop-c.count + 1)) (sym same) next;
    }

pub returns-then-count-eq4-2 : goal.returns-then-count-eq4-2
returns-then-count-eq4-2 c =
    let none = no_chars _ c.in-None.ensures.steps.0.0 in
    sym (some_if_four _ c.loop-c.value c.loop-c.count (search rules)
    (subst (λ (cs : List ℕ). AreBytes (chars c.args.text.now) cs c.loop-c.value c.loop-c.count) none
    c.loop-c.invariant.bytes))

pub returns-else-count-eq4-2 : goal.returns-else-count-eq4-2
returns-else-count-eq4-2 c =
    let none = no_chars _ c.in-None.ensures.steps.0.0 in
    sym (none_if_few _ c.loop-c.value c.loop-c.count
    (λ (e : c.loop-c.count ≡ 4). omega (arith, e, c.if-count-eq4-2.false))
    (subst (λ (cs : List ℕ). AreBytes (chars c.args.text.now) cs c.loop-c.value c.loop-c.count) none
    c.loop-c.invariant.bytes))
