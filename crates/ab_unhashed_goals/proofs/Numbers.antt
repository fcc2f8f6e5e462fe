-- OTHER NUMBERS for the variables of a goal leave the marks of its formulas.
use Rattle.std.proofs.Common.{◌≡◌, ℕ, zero, List, [], ◌∷◌, map, refl, sym, ◌∙◌, ap, subst}
use Rattle.std.specs.Prelude.{All}
use Rattle.std.proofs.lemmas.List.Elements.{All-cons, All-head, All-tail}
use Rattle.ab_term.specs.Terms.{Head, constant, logical, nominal, variable, index, lam, spine, Terms, no_terms, term, Read}
use Rattle.ab_term.specs.Translation.{translate_head, translate, translate_all}
use Rattle.ab_unifiers.specs.Renumbering.{renumbered}
use Rattle.ab_formulas.specs.Marks.{marks_of}
use Rattle.ab_formulas.specs.NamedGoals as names
use Rattle.ab_formulas.specs.NamedGoals.{Goal, Named, name_in, with_names, hypothesis_named, named}
use Rattle.ab_formulas.specs.Sequents.{Variable, Hypothesis, Sequent}
use Rattle.ab_search_trees.proofs.MovedForms.{marks_same}
use Rattle.ab_search_answers.specs.Unmarked.{HoldNoHash, HasNoHash}
use Rattle.ab_unhashed_goals.specs.Unhashed.{NoJudgementIsHashed}

-- all variables by one number
abbrev blank : Named → Read
blank = translate (λ x. zero) (λ x. x)

blank_head : (xs : List Variable) (h : Head ℕ) → translate_head (λ x. zero) (translate_head (name_in xs) h) ≡ translate_head (λ n. zero) h
blank_head xs (constant c) = refl
blank_head xs (logical l) = refl
blank_head xs (nominal a) = refl
blank_head xs (variable x) = refl
blank_head xs (index i) = refl

mutual
  blank_named : (xs : List Variable) (t : Read) → blank (with_names xs t) ≡ renumbered (λ n. zero) t
  blank_named xs (lam A x t) = ap (lam A x) (blank_named xs t)
  blank_named xs (spine h ts) = ap (λ g. spine g (translate_all (λ x. zero) (λ x. x) (translate_all (name_in xs) (λ x. x) ts))) (blank_head xs h) ∙ ap (spine (translate_head (λ n. zero) h)) (all_blank_named xs ts)

  all_blank_named : (xs : List Variable) (ts : Terms ℕ (List ℕ)) → translate_all (λ x. zero) (λ x. x) (translate_all (name_in xs) (λ x. x) ts) ≡ translate_all (λ n. zero) (λ x. x) ts
  all_blank_named xs no_terms = refl
  all_blank_named xs (term t ts) = ap (λ u. term u (translate_all (λ x. zero) (λ x. x) (translate_all (name_in xs) (λ x. x) ts))) (blank_named xs t) ∙ ap (term (renumbered (λ n. zero) t)) (all_blank_named xs ts)

marks_named : (xs : List Variable) (F : Read) → marks_of F ≡ marks_of (blank (with_names xs F))
marks_named xs F = sym (ap marks_of (blank_named xs F) ∙ marks_same (λ n. zero) F)

-- of two formulas with one form by names both have such a judgement, or none
named_none : (xs ys : List Variable) (F G : Read) → with_names xs F ≡ with_names ys G → HasNoHash F → HasNoHash G
named_none xs ys F G e n = subst HoldNoHash (marks_named xs F ∙ ap (λ k. marks_of (blank k)) e ∙ sym (marks_named ys G)) n

all_named_none : (xs ys : List Variable) (hs ks : List Hypothesis) → map (hypothesis_named xs) hs ≡ map (hypothesis_named ys) ks → All (λ (h : Hypothesis). HasNoHash h.formula) hs → All (λ (h : Hypothesis). HasNoHash h.formula) ks
all_named_none xs ys [] [] e all = all
all_named_none xs ys [] (k ∷ ks) e all = absurd (cc)
all_named_none xs ys (h ∷ hs) [] e all = absurd (cc)
all_named_none xs ys (h ∷ hs) (k ∷ ks) e all =
    let P : Hypothesis → Type 0 = λ (h : Hypothesis). HasNoHash h.formula in
    let first : hypothesis_named xs h ≡ hypothesis_named ys k = cc in
    let rest : map (hypothesis_named xs) hs ≡ map (hypothesis_named ys) ks = cc in
    All-cons P k ks (named_none xs ys h.formula k.formula (ap (λ (g : names.Hypothesis). g.formula) first) (All-head P h hs all)) (all_named_none xs ys hs ks rest (All-tail P h hs all))

pub goal_none : (s t : Sequent) → named s ≡ named t → NoJudgementIsHashed s → NoJudgementIsHashed t
goal_none s t e is = record {
  conclusion = named_none s.variables t.variables s.conclusion t.conclusion (ap (λ (g : Goal). g.conclusion) e) is.conclusion;
  hypotheses = all_named_none s.variables t.variables s.hypotheses t.hypotheses (ap (λ (g : Goal). g.hypotheses) e) is.hypotheses;
}
