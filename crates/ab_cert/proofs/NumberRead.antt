-- A number is what a scan of its whole piece comes to.
use Rattle.std.proofs.Common.{◌≡◌, ◌<◌, ◌≤◌, ◌^◌, ◌-◌, ℕ, List, [], ◌∷◌, ◌++◌, length, take, drop, decimal, Option, Some, None, refl, sym, ap, ◌∙◌, arith, lit≤}
use Rattle.std.proofs.lemmas.List.{take-append-drop}
use Rattle.ab_cert.specs.declared.count.Count.{Count}
use Rattle.ab_cert.specs.declared.count.Count.TheVariants.{Nothing, Value}
use Rattle.ab_cert.specs.Counts.{next_count, count_run, IsFull, IsCountScan}
use Rattle.ab_cert.proofs.Counts.{run_none, run_more, number_runs}
use Rattle.ab_cert.proofs.Clean.{widen}

stopped : (limit : ℕ) (s t : Count) (back : List ℕ) → IsFull limit s back → count_run limit (Some s) back ≡ Some t → s ≡ t
stopped limit s t [] f e = cc
stopped limit s t (b ∷ back) f e =
    let g : None ≡ Some t = sym (run_none limit back) ∙ (sym (ap (λ o. count_run limit o back) f) ∙ e) in
    cc

pub number_read : (p : List ℕ) (to n : ℕ) (s : Count) → p ≡ decimal n → n < 10 ^ 30 → IsCountScan (10 ^ 30) p 0 to s → s ≡ Value n
number_read p to n s e l scan =
    let limit = 10 ^ 30 in
    let all : count_run limit (Some Nothing) p ≡ Some (Value n) = ap (count_run limit (Some Nothing)) e ∙ number_runs limit n l (widen n limit l (lit≤ tt)) in
    let from : to - 0 ≡ to = omega arith in
    let came : count_run limit (Some Nothing) (take to p) ≡ Some s = ap (λ k. count_run limit (Some Nothing) (take k p)) (sym from) ∙ scan.came in
    let split : count_run limit (Some Nothing) p ≡ count_run limit (Some s) (drop to p) =
    ap (count_run limit (Some Nothing)) (sym (take-append-drop to p))
    ∙ (run_more limit (Some Nothing) (take to p) (drop to p) ∙ ap (λ o. count_run limit o (drop to p)) came) in
    stopped limit s (Value n) (drop to p) scan.full (sym split ∙ all)
