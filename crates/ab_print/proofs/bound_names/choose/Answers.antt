use Rattle.std.proofs.Common.{◌≡◌, ◌+◌, ◌-◌, List, ℕ, Bool, ◌++◌, decimal, true, false, ◌∙◌, ap, sym, arith}
use Rattle.ab_print.specs.Places.{places_at, any_within}
use Rattle.ab_print.proofs.Chosen.{goes_on, found, at_last, numbered_by, hint_by}
use Rattle.ab_print.proofs.bound_names.choose.Goals as goal

pub returns-then-not-is_used : goal.returns-then-not-is_used
returns-then-not-is_used c = λ used few tells.
    c.in_ok-same.ensures.items ∙ hint_by (λ x. any_within (places_at c.args.places.now x) c.args.part.now.start c.args.part.now.end) used c.args.hint.now (sym c.is_used.ensures ∙ c.if-not-is_used.true) tells

pub returns-then-not-is_used-2 : goal.returns-then-not-is_used-2
returns-then-not-is_used-2 c = λ used few tells.
    let used_here : List ℕ → Bool = λ x. any_within (places_at c.args.places.now x) c.args.part.now.start c.args.part.now.end in
    let most : ℕ = c.args.part.now.end - c.args.part.now.start in
    let taken : any_within (places_at c.args.places.now c.args.hint.now) c.args.part.now.start c.args.part.now.end ≡ true = sym c.is_used.ensures ∙ c.if-not-is_used.false in
    let free : any_within (places_at c.args.places.now (c.stem-stem.result.now ++ decimal c.loop-number.number)) c.args.part.now.start c.args.part.now.end ≡ false =
    ap used_here (sym (c.deref.ensures.value ∙ c.in_ok-name.ensures)) ∙ sym c.is_used-in-loop-number.ensures ∙ c.if-not-is_used-2.true in
    c.in_ok-name.ensures ∙ numbered_by used_here used c.args.hint.now c.stem-stem.result.now most c.loop-number.number c.stem-stem.ensures taken
    (c.loop-number.invariant ∙ found (λ n. used_here (c.stem-stem.result.now ++ decimal n)) most c.loop-number.number (omega arith) free) few (omega (arith, c.requires.short)) tells

pub loop-number-preserved : goal.loop-number-preserved
loop-number-preserved c =
    let used_here : List ℕ → Bool = λ x. any_within (places_at c.args.places.now x) c.args.part.now.start c.args.part.now.end in
    let most : ℕ = c.args.part.now.end - c.args.part.now.start in
    let not_free : any_within (places_at c.args.places.now (c.stem-stem.result.now ++ decimal c.loop-number.number)) c.args.part.now.start c.args.part.now.end ≡ true =
    ap used_here (sym (c.deref.ensures.value ∙ c.in_ok-name.ensures)) ∙ sym c.is_used-in-loop-number.ensures ∙ c.if-not-is_used-2.false in
    c.loop-number.invariant ∙ goes_on (λ n. used_here (c.stem-stem.result.now ++ decimal n)) most c.loop-number.number (omega arith) not_free

pub returns : goal.returns
returns c = λ used few tells.
    let used_here : List ℕ → Bool = λ x. any_within (places_at c.args.places.now x) c.args.part.now.start c.args.part.now.end in
    let most : ℕ = c.args.part.now.end - c.args.part.now.start in
    let taken : any_within (places_at c.args.places.now c.args.hint.now) c.args.part.now.start c.args.part.now.end ≡ true = sym c.is_used.ensures ∙ c.if-not-is_used.false in
    let end : c.loop-number.number ≡ most + 1 = omega arith in
    c.in_ok-name-2.ensures ∙ numbered_by used_here used c.args.hint.now c.stem-stem.result.now most (most + 1) c.stem-stem.ensures taken
    (c.loop-number.invariant ∙ at_last (λ n. used_here (c.stem-stem.result.now ++ decimal n)) most c.loop-number.number end ∙ end) few (omega (arith, c.requires.short)) tells
