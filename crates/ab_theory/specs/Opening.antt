-- GOALS ARE OPENED: what `pi`, `=>` and `&` say of a goal is said by formulas of the reasoning logic.
use Rattle.std.specs.Prelude.{ℕ, zero, List, [], ◌∷◌, Bool, true, false}
use Rattle.ab_term.specs.Logical.{truth, conjunction, nabla, spec_universal, spec_implication, spec_conjunction}
use Rattle.ab_term.specs.Terms.{Head, constant, logical, nominal, variable, index, lam, spine, no_terms, term, Read}
use Rattle.ab_term.specs.Substitution.{shift}
use Rattle.ab_unifiers.specs.Member.{before}
use Rattle.ab_formulas.specs.Marks.{Sign}
use Rattle.ab_theory.specs.Judgements.{marked_judgement}

abbrev pub both : Read → Read → Read
both F G = spine (logical conjunction) (term F (term G no_terms))

-- THE GOAL, OPENED in a list; each judgement that comes of it has the mark
abbrev pub open_goal : Sign → Read → Read → Read
open_goal m L (spine (logical (spec_universal A)) (term (lam B x G) no_terms)) = spine (logical (nabla A)) (term (lam A x (open_goal m (shift zero L) G)) no_terms)
open_goal m L (spine (logical spec_implication) (term F (term G no_terms))) = open_goal m (before F L) G
open_goal m L (spine (logical spec_conjunction) (term F (term G no_terms))) = both (open_goal m L F) (open_goal m L G)
open_goal m L G = marked_judgement m L G

-- a conjunction, which groups to the left; of nothing it is `true`
abbrev pub conjunction_from : Read → List Read → Read
conjunction_from F [] = F
conjunction_from F (G ∷ Gs) = conjunction_from (both F G) Gs

abbrev pub conjunction_of : List Read → Read
conjunction_of [] = spine (logical truth) no_terms
conjunction_of (F ∷ Fs) = conjunction_from F Fs

-- what a formula of the specification logic is by its head: made of others; an atom; or neither, since its head is a variable
-- or a bound name
pub data Kind : Type 0 where
  compound atomic undetermined : Kind

abbrev pub kind_of_head : Head ℕ → Kind
kind_of_head (constant c) = atomic
kind_of_head (nominal a) = atomic
kind_of_head (logical l) = compound
kind_of_head (variable x) = undetermined
kind_of_head (index i) = undetermined

abbrev pub kind_of : Read → Kind
kind_of (lam A x t) = undetermined
kind_of (spine h ts) = kind_of_head h

abbrev pub is_undetermined : Kind → Bool
is_undetermined compound = false
is_undetermined atomic = false
is_undetermined undetermined = true
