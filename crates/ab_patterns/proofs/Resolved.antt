-- Terms in which no bound cell stands, in a store that has got more terms.
use Rattle.std.proofs.Common.{◌≡◌, ◌≤◌, ◌-◌, suc, List, [], ◌∷◌, take, drop, length, ap, subst, sym, ◌∙◌, arith, take_all}
use Rattle.std.specs.Prelude.{Contains}
use Rattle.std.specs.List.{All}
use Rattle.std.proofs.lemmas.List.Elements.{All-head, All-tail, All-cons, All-nil}
use Rattle.ab_norm.specs.ab_store.specs.declared.node.TermId.{TermId}
use Rattle.ab_norm.specs.ab_store.specs.Trees.{Contents, Holds}
use Rattle.ab_norm.specs.ab_store.specs.Reading.{bound_in}
use Rattle.ab_norm.specs.ab_store.specs.Bindings.{IsResolved}
use Rattle.ab_norm.specs.ab_store.specs.Growth.{IsExtendedBy}
use Rattle.ab_norm.specs.ab_store.proofs.Cells.{numbers}
use Rattle.ab_norm.proofs.Clear.{resolved_by, unbound_by}

pub still_resolved : (s t : Contents) → IsExtendedBy s t → (r : TermId) → Holds s r → IsResolved s r → IsResolved t r
still_resolved s t e r held clear = resolved_by [] t r (λ n m.
    ap (λ bs. bound_in bs (record { 0 = n })) e.bindings
    ∙ unbound_by [] s r clear n (subst (λ q. Contains (numbers q) n) (e.trees [] r held) m))

pub all_resolved : (s t : Contents) → IsExtendedBy s t → (rs : List TermId) → All (Holds s) rs → All (IsResolved s) rs → All (IsResolved t) rs
all_resolved s t e [] held clear = All-nil (IsResolved t)
all_resolved s t e (r ∷ rs) held clear = All-cons (IsResolved t) r rs (still_resolved s t e r (All-head (Holds s) r rs held) (All-head (IsResolved s) r rs clear)) (all_resolved s t e rs (All-tail (Holds s) r rs held) (All-tail (IsResolved s) r rs clear))

pub rest_resolved : (s t : Contents) (rs : List TermId) → 1 ≤ length rs → IsExtendedBy s t → All (Holds s) rs → All (IsResolved s) rs → All (IsResolved t) (take (length rs - 1) (drop 1 rs))
rest_resolved s t [] l e held clear = absurd (omega (arith, l))
rest_resolved s t (r ∷ rs) l e held clear =
    let rest : take (length (r ∷ rs) - 1) (drop 1 (r ∷ rs)) ≡ rs = ap (λ n. take n rs) (let n : suc (length rs) - 1 ≡ length rs = omega arith in n) ∙ take_all (length rs) rs (omega arith) in
    subst (All (IsResolved t)) (sym rest) (all_resolved s t e rs (All-tail (Holds s) r rs held) (All-tail (IsResolved s) r rs clear))
