-- HYPOTHESES THAT BEGIN WITH `exists`, under a guess and under a renaming of constants.
use Rattle.std.proofs.Common.{◌≡◌, ◌⊎◌, inl, inr, ℕ, List, [], ◌∷◌, Bool, refl, sym, ◌∙◌, ap, subst}
use Rattle.ab_term.specs.Types.{Ty}
use Rattle.ab_term.specs.Logical as plain
use Rattle.ab_term.specs.Logical.{Logical}
use Rattle.ab_term.specs.Terms.{Nominal, constant, logical, nominal, variable, index, Term, lam, spine, Terms, no_terms, term, Read}
use Rattle.ab_term.specs.Typing.{Signature}
use Rattle.ab_term.specs.Names.{rename, rename_all}
use Rattle.ab_term.specs.Translation.{forget, forget_all}
use Rattle.ab_term.proofs.Lists.{Contains-none, Contains-here, Contains-there, Contains-cases}
use Rattle.ab_unifiers.proofs.Following.{Put}
use Rattle.ab_formulas.specs.Formulas.{a_formula, StandsIn}
use Rattle.ab_formulas.specs.Forms.{Form, truth, falsity, both, either, implies, equal, for_all, exists, nabla, marked, other, form_of, form_alone, form_with, form_between}
use Rattle.ab_formulas.specs.Marks.{erased}
use Rattle.ab_search_trees.specs.Goals.{Now}
use Rattle.ab_search_trees.proofs.Forms.{Makes, MakesAll}
use Rattle.ab_search_trees.proofs.Facts.{AllParts}
use Rattle.ab_search_trees.proofs.Atoms.{IsFirm, marked_firm}
use Rattle.ab_search_trees.proofs.Against.{MakesEach}
use Rattle.ab_search_trees.proofs.Unmarked.{makes_erased}
use Rattle.ab_search_completeness.specs.Places.{HasExistential}
use Rattle.ab_search_completeness.proofs.Assumed.{given_from}
use Rattle.ab_search_completeness.proofs.Judged.{begun}

-- a formula that begins with `exists`
abbrev BeginsSo : Ty → Read → Form → Read → Type 0
BeginsSo A F (exists B G) t = (B ≡ A) → (G ≡ F) → t ≡ spine (logical (plain.existential A)) (term F no_terms)
BeginsSo A F _ t = Unit {0}

begins_alone : (A : Ty) (F : Read) (l : Logical) → BeginsSo A F (form_alone l) (spine (logical l) no_terms)
begins_alone A F plain.truth = tt
begins_alone A F plain.falsity = tt
begins_alone A F _ = tt

begins_with : (A : Ty) (F : Read) (l : Logical) (u : Read) → BeginsSo A F (form_with l u) (spine (logical l) (term u no_terms))
begins_with A F (plain.universal B) u = tt
begins_with A F (plain.existential B) u = λ p q. ap (λ C. spine (logical (plain.existential C)) (term u no_terms)) p ∙ ap (λ v. spine (logical (plain.existential A)) (term v no_terms)) q
begins_with A F (plain.nabla B) u = tt
begins_with A F (plain.star i) u = tt
begins_with A F (plain.at_sign i) u = tt
begins_with A F (plain.plus i) u = tt
begins_with A F (plain.hash i) u = tt
begins_with A F _ u = tt

begins_between : (A : Ty) (F : Read) (l : Logical) (u v : Read) → BeginsSo A F (form_between l u v) (spine (logical l) (term u (term v no_terms)))
begins_between A F plain.conjunction u v = tt
begins_between A F plain.disjunction u v = tt
begins_between A F plain.implication u v = tt
begins_between A F (plain.equality B) u v = tt
begins_between A F _ u v = tt

begins_so : (A : Ty) (F : Read) (t : Read) → BeginsSo A F (form_of t) t
begins_so A F (lam B x t) = tt
begins_so A F (spine (constant c) ts) = tt
begins_so A F (spine (nominal a) ts) = tt
begins_so A F (spine (variable y) ts) = tt
begins_so A F (spine (index i) ts) = tt
begins_so A F (spine (logical l) no_terms) = begins_alone A F l
begins_so A F (spine (logical l) (term u no_terms)) = begins_with A F l u
begins_so A F (spine (logical l) (term u (term v no_terms))) = begins_between A F l u v
begins_so A F (spine (logical l) (term u (term v (term w ts)))) = tt

exists_form : (t : Read) (A : Ty) (F : Read) → form_of t ≡ exists A F → t ≡ spine (logical (plain.existential A)) (term F no_terms)
exists_form t A F e = subst (λ k. BeginsSo A F k t) e (begins_so A F t) refl refl

-- a formula without marks begins with no variable
erased_firm : (t : Read) → StandsIn a_formula t → IsFirm (erased t)
erased_firm (lam A x t) s = absurd s
erased_firm (spine (variable y) ts) s = absurd s.0
erased_firm (spine (index i) ts) s = absurd s.0
erased_firm (spine (constant c) ts) s = tt
erased_firm (spine (nominal a) ts) s = tt
erased_firm (spine (logical (plain.star i)) no_terms) s = tt
erased_firm (spine (logical (plain.star i)) (term t ts)) s = marked_firm t s.1.0
erased_firm (spine (logical (plain.at_sign i)) no_terms) s = tt
erased_firm (spine (logical (plain.at_sign i)) (term t ts)) s = marked_firm t s.1.0
erased_firm (spine (logical (plain.plus i)) no_terms) s = tt
erased_firm (spine (logical (plain.plus i)) (term t ts)) s = marked_firm t s.1.0
erased_firm (spine (logical (plain.hash i)) no_terms) s = tt
erased_firm (spine (logical (plain.hash i)) (term t ts)) s = marked_firm t s.1.0
erased_firm (spine (logical l) ts) s = tt

one_made : (f : Put) (ts : Terms ℕ (List ℕ)) (F : Read) → MakesAll f ts (term F no_terms) → (E : Read) × (ts ≡ term E no_terms)
one_made f no_terms F m = absurd (cc)
one_made f (term t no_terms) F m = (t, refl)
one_made f (term t (term u us)) F m = absurd (let bad : MakesAll f (term u us) no_terms = cc in cc)

-- WHAT BECOMES ONE is one
pub exists_before : (f : Put) (E B : Read) → StandsIn a_formula E → Makes f E B → (A : Ty) (F : Read) → form_of (erased B) ≡ exists A F → (G : Read) × (form_of (erased E) ≡ exists A G)
exists_before f E B s m A F e =
    let b = begun f (plain.existential A) (erased E) (term F no_terms) (erased_firm E s) (makes_erased f E B s m ∙ ap forget (exists_form (erased B) A F e)) in
    let one = one_made f b.0 F b.2 in
    (one.0, ap form_of (b.1 ∙ ap (spine (logical (plain.existential A))) one.1))

-- what is renamed to one is one
pub exists_renamed : (m : Nominal → Nominal) (t : Read) (A : Ty) (z : Term ℕ (Unit {0})) → forget (rename m t) ≡ spine (logical (plain.existential A)) (term z no_terms) → (E : Read) × (form_of t ≡ exists A E)
exists_renamed m (lam B x t) A z e = absurd (cc)
exists_renamed m (spine (constant c) ts) A z e = absurd (cc)
exists_renamed m (spine (nominal a) ts) A z e = absurd (cc)
exists_renamed m (spine (variable y) ts) A z e = absurd (cc)
exists_renamed m (spine (index i) ts) A z e = absurd (cc)
exists_renamed m (spine (logical l) ts) A z e = go ts rest
  where
    same : l ≡ plain.existential A
    same = cc

    rest : forget_all (rename_all m ts) ≡ term z no_terms
    rest = cc

    go : (ts : Terms ℕ (List ℕ)) → forget_all (rename_all m ts) ≡ term z no_terms → (E : Read) × (form_of (spine (logical l) ts) ≡ exists A E)
    go no_terms r = absurd (cc)
    go (term t no_terms) r = (t, ap (λ k. form_of (spine (logical k) (term t no_terms))) same)
    go (term t (term u us)) r = absurd (let bad : forget_all (rename_all m (term u us)) ≡ no_terms = cc in cc)

-- whether a hypothesis begins so
existing : (H : Read) → ((A : Ty) × (E : Read) × (form_of (erased H) ≡ exists A E)) ⊎ ((A : Ty) (E : Read) → form_of (erased H) ≡ exists A E → ⊥)
existing H = go (form_of (erased H)) refl
  where
    go : (k : Form) → form_of (erased H) ≡ k → ((A : Ty) × (E : Read) × (form_of (erased H) ≡ exists A E)) ⊎ ((A : Ty) (E : Read) → form_of (erased H) ≡ exists A E → ⊥)
    go (exists A E) e = inl (A, E, e)
    go truth e = inr (λ A E q. let bad : truth ≡ exists A E = sym e ∙ q in cc)
    go falsity e = inr (λ A E q. let bad : falsity ≡ exists A E = sym e ∙ q in cc)
    go (both B C) e = inr (λ A E q. let bad : both B C ≡ exists A E = sym e ∙ q in cc)
    go (either B C) e = inr (λ A E q. let bad : either B C ≡ exists A E = sym e ∙ q in cc)
    go (implies B C) e = inr (λ A E q. let bad : implies B C ≡ exists A E = sym e ∙ q in cc)
    go (equal B t u) e = inr (λ A E q. let bad : equal B t u ≡ exists A E = sym e ∙ q in cc)
    go (for_all B t) e = inr (λ A E q. let bad : for_all B t ≡ exists A E = sym e ∙ q in cc)
    go (nabla B t) e = inr (λ A E q. let bad : nabla B t ≡ exists A E = sym e ∙ q in cc)
    go (marked m t) e = inr (λ A E q. let bad : marked m t ≡ exists A E = sym e ∙ q in cc)
    go other e = inr (λ A E q. let bad : other ≡ exists A E = sym e ∙ q in cc)

pub some_or_none : (Hs : List Read) → HasExistential Hs ⊎ (HasExistential Hs → ⊥)
some_or_none [] = inr (λ e. Contains-none e.0 e.3)
some_or_none (H ∷ Hs) = elim (existing H) [
  | inl e ↦ inl (H, e.0, e.1, Contains-here H Hs, e.2)
  | inr n ↦ elim (some_or_none Hs) [
    | inl e ↦ inl (e.0, e.1, e.2, Contains-there H Hs e.0 e.3, e.4)
    | inr k ↦ inr (λ e. elim (Contains-cases H Hs e.0 e.3) [
      | inl q ↦ n e.1 e.2 (ap (λ B. form_of (erased B)) q ∙ e.4)
      | inr m ↦ k (e.0, e.1, e.2, m, e.4)
    ])
  ]
]

-- where none of the first does, none of the others does
pub none_after : (sg : Signature) (now : Now) (branch : List Nominal) (u : Bool) (f : Put) (Hs Bs : List Read) → AllParts sg now branch u Hs → MakesEach f Hs Bs → (HasExistential Hs → ⊥) → HasExistential Bs → ⊥
none_after sg now branch u f Hs Bs p m n e =
    let given = given_from sg now branch u f Hs Bs p m e.0 e.3 in
    let before = exists_before f given.from e.0 given.part.formula.stands given.makes e.1 e.2 e.4 in
    n (given.from, e.1, before.0, given.there, before.1)
