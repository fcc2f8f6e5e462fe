-- AN EQUATION THAT IS SOLVED in a goal loses no substitution that makes both sides equal.
use Rattle.std.proofs.Common.{◌≡◌, inl, inr, ℕ, List, [], ◌∷◌, ◌++◌, map, codes, Some, None, sym, ◌∙◌, ap, subst, append-nil, length-append, arith}
use Rattle.std.specs.Prelude.{All, Contains}
use Rattle.std.proofs.lemmas.List.Elements.{All-nil, All-cons, All-head, All-tail, All-contains, All-weaker, Contains-append_left, Contains-append_right}
use Rattle.ab_term.specs.Types.{Ty, prop}
use Rattle.ab_term.specs.Logical as plain
use Rattle.ab_term.specs.Logical.{Logical}
use Rattle.ab_term.specs.Terms as tree
use Rattle.ab_term.specs.Terms.{Nominal, constant, logical, nominal, variable, index, lam, spine, Terms, no_terms, term, Read}
use Rattle.ab_term.specs.Typing.{Signature, HasType}
use Rattle.ab_term.specs.Translation.{EqualPastHints}
use Rattle.ab_term.specs.Names.{support}
use Rattle.ab_term.specs.Variables.{Substitution, variables, image, IsTyped, IsClean}
use Rattle.ab_term.specs.Sameness.{same_number}
use Rattle.ab_term.proofs.Lists.{All-from_contains, Contains-here, Contains-there}
use Rattle.ab_unifiers.specs.Replacements.{Cell}
use Rattle.ab_unifiers.specs.Unification.{Answer, unified, apart, Solves}
use Rattle.ab_unifiers.specs.Unifiers.{AreKnown, given}
use Rattle.ab_unifiers.specs.Clauses.{Each, Within}
use Rattle.ab_unifiers.specs.InstanceCover.{CoversEquality}
use Rattle.ab_unifiers.proofs.Agreeing.{contains_holds}
use Rattle.ab_unifiers.proofs.Equality.{equality_covered}
use Rattle.ab_unifiers.proofs.Variables.{holds_contains}
use Rattle.ab_formulas.specs.Formulas.{IsFormula}
use Rattle.ab_formulas.specs.Forms.{as_equal, equal_in, form_alone, form_with, form_between}
use Rattle.ab_formulas.specs.Declarations.{Declarations, signature_in}
use Rattle.ab_formulas.specs.NewNames.{IsNoVariable}
use Rattle.ab_formulas.specs.Sequents.{Hypothesis, Sequent, IsSequent, HoldsOnly, formula_of, formulas, formulas_of, goal_names, in_terms}
use Rattle.ab_formulas.proofs.Sides.{equation_sides, AreSides}
use Rattle.ab_theory.specs.Equations.{AreCells, Becomes}
use Rattle.ab_theory.specs.Splits.{IsCase, cell_for}
use Rattle.ab_theory.specs.Row.{Takes, solves}
use Rattle.ab_theory.proofs.Carried.{one_equation, becomes_arises}
use Rattle.ab_theory.proofs.Raised.{known_there}
use Rattle.ab_theory.proofs.Sequents.{goal_of, found_may, found_there}
use Rattle.ab_coverage.specs.GoalFormulas.{IsUnder}
use Rattle.ab_coverage.proofs.OwnFormulas.{arising_carries}
use Rattle.ab_coverage.proofs.Written.{variables_differ}

-- an equation, as it is written
abbrev pub IsEquation : Read → Read × Read → Type 0
IsEquation F p = (A : Ty) × (F ≡ spine (logical (plain.equality A)) (term p.0 (term p.1 no_terms)))

no_equation : {X : Type 0} (p : Read × Read) → None ≡ Some p → X
no_equation p e = absurd (cc)

alone_none : (l : Logical) (p : Read × Read) {X : Type 0} → equal_in (form_alone l) ≡ Some p → X
alone_none plain.truth p e = no_equation p e
alone_none plain.falsity p e = no_equation p e
alone_none l p e = no_equation p e

with_none : (l : Logical) (t : Read) (p : Read × Read) {X : Type 0} → equal_in (form_with l t) ≡ Some p → X
with_none (plain.universal A) t p e = no_equation p e
with_none (plain.existential A) t p e = no_equation p e
with_none (plain.nabla A) t p e = no_equation p e
with_none (plain.star i) t p e = no_equation p e
with_none (plain.at_sign i) t p e = no_equation p e
with_none (plain.plus i) t p e = no_equation p e
with_none (plain.hash i) t p e = no_equation p e
with_none l t p e = no_equation p e

between : (l : Logical) (t u : Read) (p : Read × Read) → equal_in (form_between l t u) ≡ Some p → IsEquation (spine (logical l) (term t (term u no_terms))) p
between plain.conjunction t u p e = no_equation p e
between plain.disjunction t u p e = no_equation p e
between plain.implication t u p e = no_equation p e
between (plain.equality A) t u p e =
    let whole : Some (t, u) ≡ Some p = e in
    let same : (t, u) ≡ p = cc in
    (A, ap (λ (k : Read × Read). spine (logical (plain.equality A)) (term k.0 (term k.1 no_terms))) same)
between l t u p e = no_equation p e

pub equation_read : (F : Read) (p : Read × Read) → as_equal F ≡ Some p → IsEquation F p
equation_read (lam A x t) p e = no_equation p e
equation_read (spine (constant c) ts) p e = no_equation p e
equation_read (spine (nominal a) ts) p e = no_equation p e
equation_read (spine (variable y) ts) p e = no_equation p e
equation_read (spine (index i) ts) p e = no_equation p e
equation_read (spine (logical l) no_terms) p e = alone_none l p e
equation_read (spine (logical l) (term t no_terms)) p e = with_none l t p e
equation_read (spine (logical l) (term t (term u no_terms))) p e = between l t u p e
equation_read (spine (logical l) (term t (term u (term v ts)))) p e = no_equation p e

left_names : (F : Read) (p : Read × Read) → IsEquation F p → (a : Nominal) → Contains (support p.0) a → Contains (support F) a
left_names F p k a m = subst (λ t. Contains (support t) a) (sym k.1) (Contains-append_left (support p.0) (support p.1 ++ []) a m)

right_names : (F : Read) (p : Read × Read) → IsEquation F p → (a : Nominal) → Contains (support p.1) a → Contains (support F) a
right_names F p k a m = subst (λ t. Contains (support t) a) (sym k.1) (Contains-append_right (support p.0) (support p.1 ++ []) a (Contains-append_left (support p.1) [] a m))

-- what stays of the goal is a sequent; both sides may stand there, and hold no constant of what is put in
module _ (D : Declarations) (rest : Sequent) (rest_is : IsSequent D rest) (p : Read × Read) (side : AreSides (signature_in D) rest.variables p)
    (q : Substitution ℕ (List ℕ)) (q_typed : IsTyped (signature_in D) q) (q_clean : IsClean q (p.0 ∷ p.1 ∷ [])) (same : EqualPastHints (image same_number q p.0) (image same_number q p.1)) where
  abbrev sg : Signature
  sg = signature_in D

  abbrev V : List (tree.Variable ℕ)
  V = map in_terms rest.variables

  within : (t : Read) → HoldsOnly rest.variables t → Within (variables t) V
  within t closed y h = contains_holds V y (All-contains (Contains V) (variables t) y closed (holds_contains (variables t) y h))

  covered : (cells : List (Cell (List ℕ))) → AreKnown cells V → (a : Answer (List ℕ)) → Solves (codes "x") (given (record { place = 0; left = p.0; right = p.1 } ∷ []) cells V) a → CoversEquality sg (record { cells = cells; variables = V; constants = [] }) a q
  covered cells known a sol = equality_covered sg (codes "x") q q_typed (record { cells = cells; variables = V; constants = [] }) (variables_differ D rest rest_is) known p.0 p.1 side.type side.left side.right (within p.0 side.left_closed) (within p.1 side.right_closed) q_clean same a sol

  -- the case is well made
  well : (cells : List (Cell (List ℕ))) → AreCells cells rest → IsCase D (one_equation cells rest p.0 p.1)
  well cells are =
      let wider : (t : Read) → HoldsOnly rest.variables t → HoldsOnly (rest.variables ++ []) t = λ t closed. subst (λ xs. HoldsOnly xs t) (sym (append-nil rest.variables)) closed in
      let Over : Read → Type 0 = HoldsOnly (rest.variables ++ []) in record {
        cells = are;
        formulas = rest_is.formulas;
        closed = All-weaker (HoldsOnly rest.variables) (HoldsOnly (rest.variables ++ [])) wider (formulas_of rest) rest_is.closed;
        numbers_differ = rest_is.numbers_differ;
        names_differ = rest_is.names_differ;
        labels_differ = rest_is.labels_differ;
        one_type = rest_is.one_type;
        typed = (([], side.type, side.left, side.right), tt);
        over = All-cons Over p.0 (p.1 ∷ []) (wider p.0 side.left_closed) (All-cons Over p.1 [] (wider p.1 side.right_closed) (All-nil Over));
        flexible = All-from_contains (Contains (map in_terms (rest.variables ++ []))) V (λ y m. subst (λ xs. Contains (map in_terms xs) y) (sym (append-nil rest.variables)) m);
      }

  -- each formula of the goal
  each_under : (then r answer : Substitution ℕ (List ℕ)) → ((v : Read) (B : Ty) → HasType sg [] v B → Within (variables v) V → EqualPastHints (image same_number r (image same_number answer v)) (image same_number q v))
      → (gs hs : List Hypothesis) → All (IsFormula sg) (formulas hs) → All (HoldsOnly rest.variables) (formulas hs)
      → Each (λ (h k : Hypothesis). (h.name ≡ k.name) × EqualPastHints (image same_number then h.formula) (image same_number r (image same_number answer k.formula))) gs hs
      → Each (λ (h k : Hypothesis). (h.name ≡ k.name) × EqualPastHints (image same_number then h.formula) (image same_number q k.formula)) gs hs
  each_under then r answer f [] [] typed closed k = tt
  each_under then r answer f [] (h ∷ hs) typed closed k = absurd k
  each_under then r answer f (g ∷ gs) [] typed closed k = absurd k
  each_under then r answer f (g ∷ gs) (h ∷ hs) typed closed k = (
    (k.0.0, k.0.1 ∙ f h.formula prop (All-head (IsFormula sg) h.formula (formulas hs) typed).typed (within h.formula (All-head (HoldsOnly rest.variables) h.formula (formulas hs) closed))),
    each_under then r answer f gs hs (All-tail (IsFormula sg) h.formula (formulas hs) typed) (All-tail (HoldsOnly rest.variables) h.formula (formulas hs) closed) k.1,
  )

  becomes : (cells : List (Cell (List ℕ))) → AreCells cells rest → (g : Sequent) → Becomes (λ s hint name. IsNoVariable s name) cells rest p.0 p.1 g → (r : Substitution ℕ (List ℕ)) × IsTyped sg r × IsUnder EqualPastHints r q rest g
  becomes cells are g b =
      let a = becomes_arises (λ s hint name. IsNoVariable s name) cells rest g p.0 p.1 b in
      let known : AreKnown (cells ++ []) V = λ y h. let low = known_there cells rest.variables are y h in let long = length-append cells [] in omega (arith, low, long) in
      let k = covered (cells ++ []) known (unified a.more a.answer) a.solved in
      let c = arising_carries D (λ s hint name. IsNoVariable s name) (one_equation cells rest p.0 p.1) (well cells are) (b.0 ++ map cell_for b.3.0) g a k.0 k.1 in (
        c.0,
        c.1,
        record {
          hypotheses = each_under c.0 k.0 a.answer k.2 g.hypotheses rest.hypotheses (All-tail (IsFormula sg) rest.conclusion (formulas rest.hypotheses) rest_is.formulas) (All-tail (HoldsOnly rest.variables) rest.conclusion (formulas rest.hypotheses) rest_is.closed) c.2.hypotheses;
          conclusion = c.2.conclusion ∙ k.2 rest.conclusion prop (All-head (IsFormula sg) rest.conclusion (formulas rest.hypotheses) rest_is.formulas).typed (within rest.conclusion (All-head (HoldsOnly rest.variables) rest.conclusion (formulas rest.hypotheses) rest_is.closed));
        },
      )

  pub equation_met : (cells : List (Cell (List ℕ))) → AreCells cells rest → (ps : List Sequent) → Takes (solves (λ s hint name. IsNoVariable s name) cells rest p.0 p.1) ps
      → (g : Sequent) × Contains ps g × ((r : Substitution ℕ (List ℕ)) × IsTyped sg r × IsUnder EqualPastHints r q rest g)
  equation_met cells are ps (inl b) = (b.0, subst (λ l. Contains l b.0) (sym b.2) (Contains-here b.0 []), becomes cells are b.0 b.1)
  equation_met cells are ps (inr b) = absurd (covered cells (known_there cells rest.variables are) apart b.0)

-- where both sides are those of a hypothesis

pub sides_there : (D : Declarations) (s : Sequent) → IsSequent D s → (H : List ℕ) (F : Read) (p : Read × Read) → formula_of s H ≡ Some F → as_equal F ≡ Some p → AreSides (signature_in D) s.variables p
sides_there D s is H F p e is_equal =
    let may = found_may D (goal_names s) s H F (goal_of D s is) e in
    equation_sides (signature_in D) s.variables F p may.formula.typed may.closed is_equal

pub clean_sides : (s : Sequent) (H : List ℕ) (F : Read) (p : Read × Read) → formula_of s H ≡ Some F → as_equal F ≡ Some p → (q : Substitution ℕ (List ℕ)) → IsClean q (formulas_of s) → IsClean q (p.0 ∷ p.1 ∷ [])
clean_sides s H F p e is_equal =
    let in_sequent : Contains (formulas_of s) F = Contains-there s.conclusion (formulas s.hypotheses) F (found_there s.hypotheses H F e) in
    All-weaker (λ k. All (λ t. All (λ a. ¬ (Contains (support t) a)) (support k.1)) (formulas_of s)) (λ k. All (λ t. All (λ a. ¬ (Contains (support t) a)) (support k.1)) (p.0 ∷ p.1 ∷ []))
    (λ k all.
    let none = All-contains (λ t. All (λ a. ¬ (Contains (support t) a)) (support k.1)) (formulas_of s) F all in_sequent in
    let read = equation_read F p is_equal in
    All-cons (λ t. All (λ a. ¬ (Contains (support t) a)) (support k.1)) p.0 (p.1 ∷ [])
    (All-from_contains (λ a. ¬ (Contains (support p.0) a)) (support k.1) (λ a m n. All-contains (λ a. ¬ (Contains (support F) a)) (support k.1) a none m (left_names F p read a n)))
    (All-cons (λ t. All (λ a. ¬ (Contains (support t) a)) (support k.1)) p.1 []
    (All-from_contains (λ a. ¬ (Contains (support p.1) a)) (support k.1) (λ a m n. All-contains (λ a. ¬ (Contains (support F) a)) (support k.1) a none m (right_names F p read a n)))
    (All-nil (λ t. All (λ a. ¬ (Contains (support t) a)) (support k.1)))))
