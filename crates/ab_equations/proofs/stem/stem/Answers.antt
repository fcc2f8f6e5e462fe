use Rattle.std.specs.Prelude.{IfOk, slice_range}
use Rattle.std.proofs.Common.{◌≡◌, ◌∙◌, ℕ, List, Result, Ok, Err, take, ◌-◌, refl, sym, ap, subst, arith, length, ◌≤◌}
use Rattle.ab_formulas.specs.NewNames.{IsStem}
use Rattle.ab_formulas.proofs.Digits.{is_stem}
use Rattle.ab_equations.proofs.stem.stem.Goals as goal

answered : {E : Type 0} (r : Result (List ℕ) E) (name x : List ℕ) → IfOk r (λ n. n ≡ x) → IsStem name x → IfOk r (IsStem name)
answered (Ok n) name x is stem = subst (IsStem name) (sym is) stem
answered (Err e) name x is stem = tt

front : (xs : List ℕ) (n : ℕ) → slice_range xs 0 n ≡ take n xs
front xs n = let e : n - 0 ≡ n = omega arith in ap (λ k. take k xs) e

pub returns : goal.returns
returns c =
    let bytes = c.as_bytes.result.now in
    let end = c.stem_end-end.result in
    let same : bytes ≡ c.args.name.now = c.as_bytes.ensures.value ∙ c.as_str-text.ensures in
    let stem : IsStem c.args.name.now (take end c.args.name.now) =
    subst (λ (x : List ℕ). IsStem x (take end x)) same (is_stem bytes end c.stem_end-end.ensures.within c.stem_end-end.ensures.digits c.stem_end-end.ensures.stops) in
    let taken : c.range.result.now ≡ take end c.args.name.now =
    c.range.ensures.value ∙ front c.as_str-text.result.now end ∙ ap (take end) c.as_str-text.ensures in
    answered c.from_text.result c.args.name.now c.range.result.now c.from_text.ensures (subst (IsStem c.args.name.now) (sym taken) stem)
