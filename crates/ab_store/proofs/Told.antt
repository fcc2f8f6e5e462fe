-- What is known of a list of terms, one by one.
use Rattle.std.proofs.Common.{◌≡◌, ℕ, ◌+◌, ◌<◌, max, List, [], ◌∷◌, ◌++◌, map, take, length, get_or, sym, ◌∙◌, ap, arith, append_assoc, append-nil}
use Rattle.std.proofs.lemmas.List.{map_more}
use Rattle.ab_term.specs.Terms.{terms_of, Read}
use Rattle.ab_term.specs.Reach.{reach, reach_of_all}
use Rattle.ab_term.specs.Names.{support, support_of_all}
use Rattle.ab_term.specs.Variables.{variables, variables_of_all}
use Rattle.ab_store.specs.declared.node.TermId.{TermId}
use Rattle.ab_store.specs.declared.facts.Facts.{Facts}
use Rattle.ab_store.specs.Layout.{Covers, HoldOfAll}

reach_push : (ts : List Read) (t : Read) → reach_of_all (terms_of (ts ++ t ∷ [])) ≡ max (reach_of_all (terms_of ts)) (reach t)
reach_push [] t = omega arith
reach_push (u ∷ ts) t = omega (arith, reach_push ts t)

support_push : (ts : List Read) (t : Read) → support_of_all (terms_of (ts ++ t ∷ [])) ≡ support_of_all (terms_of ts) ++ support t
support_push [] t = append-nil (support t)
support_push (u ∷ ts) t = ap (λ l. support u ++ l) (support_push ts t) ∙ sym (append_assoc (support u) (support_of_all (terms_of ts)) (support t))

variables_push : (ts : List Read) (t : Read) → variables_of_all (terms_of (ts ++ t ∷ [])) ≡ variables_of_all (terms_of ts) ++ variables t
variables_push [] t = append-nil (variables t)
variables_push (u ∷ ts) t = ap (λ l. variables u ++ l) (variables_push ts t) ∙ sym (append_assoc (variables u) (variables_of_all (terms_of ts)) (variables t))

told_push : (ts : List Read) (t : Read) (facts : Facts) → Covers facts (max (reach_of_all (terms_of ts)) (reach t)) (support_of_all (terms_of ts) ++ support t) (variables_of_all (terms_of ts) ++ variables t) → HoldOfAll facts (terms_of (ts ++ t ∷ []))
told_push ts t facts c = record {
  reach = c.reach ∙ sym (reach_push ts t);
  nominals = λ no. support_push ts t ∙ c.nominals no;
  cells = λ no. variables_push ts t ∙ c.cells no;
}

pub told_more : (f : TermId → Read) (ts : List TermId) (i : ℕ) (d : TermId) (facts : Facts) → i < length ts
    → Covers facts (max (reach_of_all (terms_of (map f (take i ts)))) (reach (f (get_or ts i d)))) (support_of_all (terms_of (map f (take i ts))) ++ support (f (get_or ts i d))) (variables_of_all (terms_of (map f (take i ts))) ++ variables (f (get_or ts i d)))
    → HoldOfAll facts (terms_of (map f (take (i + 1) ts)))
told_more f ts i d facts h c = rw (map_more f ts i d h) (told_push (map f (take i ts)) (f (get_or ts i d)) facts c)
