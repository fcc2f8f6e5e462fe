-- One use of one formula, in two goals that are one with names for numbers: each choice of constants has the same outcome.
use Rattle.std.specs.Prelude.{codes, filter}
use Rattle.std.proofs.Common.{◌≡◌, ℕ, ◌+◌, List, [], ◌∷◌, ◌++◌, map, length, drop, Bool, true, false, cond, Option, Some, None, option_map, refl, sym, ◌∙◌, ap, subst}
use Rattle.ab_term.specs.Terms.{Nominal, Read}
use Rattle.ab_term.specs.Translation.{translate, translate_variable}
use Rattle.ab_term.specs.Variables.{Substitution, variables, image}
use Rattle.ab_term.specs.Sameness.{same_number}
use Rattle.ab_term.proofs.Translations.{variables-translate}
use Rattle.ab_term.proofs.ImageTranslations.{translate-image}
use Rattle.ab_unifiers.specs.Replacements.{Cell, holds}
use Rattle.ab_unifiers.specs.Unification.{Answer, unified, apart, stuck, Solves}
use Rattle.ab_unifiers.proofs.Unique.{unique}
use Rattle.ab_unifiers.specs.Clauses.{Each}
use Rattle.ab_formulas.specs.Declarations.{Declarations}
use Rattle.ab_formulas.specs.Sequents.{Variable, Sequent, in_terms}
use Rattle.ab_formulas.specs.NamedGoals.{Goal, with_names, variable_named}
use Rattle.ab_theory.specs.Equations.{AreCells, made}
use Rattle.ab_theory.specs.Splits.{Case, problem_of, NeverArises, IsOpen}
use Rattle.ab_unifiers.specs.Renumbering.{renumbered, renumbered_pairs, IsRenumbering}
use Rattle.ab_unifiers.proofs.Changes.{agreeing}
use Rattle.ab_unifiers.proofs.Tests.{holds_moved}
use Rattle.ab_effects.specs.Likeness.{IsSameTerm}
use Rattle.ab_effects.proofs.Namings.{HaveSameNames}
use Rattle.ab_effects.proofs.Renumbered.{moved_variable, moved_goal, names_kept, with_names_moved}
use Rattle.ab_effects.proofs.Thirds.{by_place, named_place}
use Rattle.ab_effects.proofs.Outcomes.{third, first_numbering, second_numbering, term_placed, goal_placed, placed_goal}
use Rattle.ab_effects.proofs.Arising.{Moves, never_moved, never_back, open_moved, open_back, solved_moved, solved_back, E, made_answered}
use Rattle.ab_theory.specs.Pieces.{Part, variable_for, given_term, constant_for, antecedent}
use Rattle.ab_theory.specs.Uses.{choices_for}
use Rattle.ab_theory.specs.UseAnswers.{Using, case_by, standing_in, IsSolvedBy}
use Rattle.ab_determinism.specs.UsesByNames.{IsSamePart, IsSameIfAny, IsSameUse}
use Rattle.ab_determinism.proofs.Pieces.{part_moved}
use Rattle.ab_determinism.proofs.Uses.{aim_moved, choices_moved, use_case_moves}

abbrev Cells : Type 0
Cells = List (Cell (List ℕ))

filter_map : {X Y : Type 0} (g : X → Y) (p : X → Bool) (q : Y → Bool) → ((x : X) → q (g x) ≡ p x) → (xs : List X) → filter q (map g xs) ≡ map g (filter p xs)
filter_map g p q same [] = refl
filter_map g p q same (x ∷ xs) =
    ap (λ b. cond b (g x ∷ filter q (map g xs)) (filter q (map g xs))) (same x)
    ∙ ap (λ l. cond (p x) (g x ∷ l) l) (filter_map g p q same xs)
    ∙ go (p x)
  where
    go : (b : Bool) → cond b (g x ∷ map g (filter p xs)) (map g (filter p xs)) ≡ map g (cond b (x ∷ filter p xs) (filter p xs))
    go true = refl
    go false = refl

-- the variables that stand in a formula, with other numbers
standing_moved : (f : ℕ → ℕ) → ((i j : ℕ) → same_number (f i) (f j) ≡ same_number i j) → (K : Read) (ys : List Variable) → standing_in (renumbered f K) (map (moved_variable f) ys) ≡ map (moved_variable f) (standing_in K ys)
standing_moved f agree K ys =
    filter_map (moved_variable f) (λ y. holds (variables K) (in_terms y)) (λ y. holds (variables (renumbered f K)) (in_terms y))
    (λ y. ap (λ l. holds l (translate_variable f (in_terms y))) (variables-translate f (λ (x : List ℕ). x) K) ∙ holds_moved f agree (variables K) (in_terms y))
    ys

module _ (D : Declarations) (a b : Using) (same : IsSameUse D a b) (cells others : Cells) (are : AreCells cells a.goal) (also : AreCells others b.goal) where
  abbrev s : Sequent
  s = a.goal

  abbrev u : Sequent
  u = b.goal

  abbrev C : Cells
  C = third s.variables cells others

  abbrev f : ℕ → ℕ
  f = by_place s.variables cells (length s.variables) (length C)

  abbrev g : ℕ → ℕ
  g = by_place u.variables others (length s.variables + length cells) (length C)

  same_names : HaveSameNames s u
  same_names = ap (λ (q : Goal). q.variables) same.goals

  one : IsRenumbering f cells C
  one = first_numbering s.variables cells others are

  two : IsRenumbering g others C
  two = second_numbering s.variables cells others u.variables same_names also

  goals_meet : moved_goal f s ≡ moved_goal g u
  goals_meet = goal_placed D s same.first cells C (length s.variables) ∙ ap placed_goal same.goals ∙ sym (goal_placed D u same.second others C (length s.variables + length cells))

  terms_meet : (t v : Read) → IsSameTerm s u t v → renumbered f t ≡ renumbered g v
  terms_meet t v is =
      term_placed D s same.first cells C (length s.variables) t is.first
      ∙ ap (translate (named_place (map variable_named s.variables) 0) (λ x. x)) is.same
      ∙ ap (λ vs. translate (named_place vs 0) (λ x. x) (with_names u.variables v)) same_names
      ∙ sym (term_placed D u same.second others C (length s.variables + length cells) v is.second)

  part_meets : (p q : Part) → IsSamePart s u p q → part_moved f p ≡ part_moved g q
  part_meets (variable_for x A) (variable_for y B) e = ap (λ z. variable_for z A) e.0 ∙ ap (variable_for y) e.1
  part_meets (given_term t) (given_term v) e = ap given_term (terms_meet t v e)
  part_meets (constant_for A) (constant_for B) e = ap constant_for e
  part_meets antecedent antecedent e = refl
  part_meets _ _ e = absurd e

  parts_meet : (ps qs : List Part) → Each (IsSamePart s u) ps qs → map (part_moved f) ps ≡ map (part_moved g) qs
  parts_meet [] [] e = refl
  parts_meet [] (q ∷ qs) e = absurd e
  parts_meet (p ∷ ps) [] e = absurd e
  parts_meet (p ∷ ps) (q ∷ qs) e = ap (λ r. r ∷ map (part_moved f) ps) (part_meets p q e.0) ∙ ap (λ l. part_moved g q ∷ l) (parts_meet ps qs e.1)

  option_meets : (h k : Option Read) → IsSameIfAny s u h k → option_map (renumbered f) h ≡ option_map (renumbered g) k
  option_meets None None e = refl
  option_meets (Some F) (Some G) e = ap (λ H. Some H) (terms_meet F G e)
  option_meets None (Some G) e = absurd e
  option_meets (Some F) None e = absurd e

  options_meet : (hs ks : List (Option Read)) → Each (IsSameIfAny s u) hs ks → map (option_map (renumbered f)) hs ≡ map (option_map (renumbered g)) ks
  options_meet [] [] e = refl
  options_meet [] (k ∷ ks) e = absurd e
  options_meet (h ∷ hs) [] e = absurd e
  options_meet (h ∷ hs) (k ∷ ks) e = ap (λ r. r ∷ map (option_map (renumbered f)) hs) (option_meets h k e.0) ∙ ap (λ l. option_map (renumbered g) k ∷ l) (options_meet hs ks e.1)

  -- both uses, over the third numbers
  abbrev moved : (ℕ → ℕ) → Using → Using
  moved h c = record { goal = moved_goal h c.goal; parts = map (part_moved h) c.parts; aim = aim_moved h c.aim; formula = renumbered h c.formula }

  uses_meet : moved f a ≡ moved g b
  uses_meet =
      let parts = parts_meet a.parts b.parts same.parts in
      let hypotheses = options_meet a.aim.hypotheses b.aim.hypotheses same.hypotheses in
      let conclusion = option_meets a.aim.conclusion b.aim.conclusion same.conclusions in
      let formula = terms_meet a.formula b.formula same.formulas in
      λ i. record { goal = goals_meet i; parts = parts i; aim = record { hypotheses = hypotheses i; conclusion = conclusion i }; formula = formula i }

  pub choices_meet : choices_for a.goal a.parts a.formula ≡ choices_for b.goal b.parts b.formula
  choices_meet =
      sym (choices_moved f a.goal a.parts a.formula)
      ∙ ap (λ (c : Using). choices_for c.goal c.parts c.formula) uses_meet
      ∙ choices_moved g b.goal b.parts b.formula

  module _ (names : List Nominal) where
    abbrev First : Case
    First = case_by cells a names

    abbrev Second : Case
    Second = case_by others b names

    abbrev Third : Case
    Third = case_by C (moved f a) names

    first_moves : Moves f cells C First Third
    first_moves = use_case_moves f cells C one a.goal a.parts a.aim a.formula names

    second_moves : Moves g others C Second Third
    second_moves = subst (λ c. Moves g others C Second (case_by C c names)) (sym uses_meet) (use_case_moves g others C two b.goal b.parts b.aim b.formula names)

    pub never_also : NeverArises First → NeverArises Second
    never_also n = never_back g others C two Second Third second_moves (never_moved f cells C one First Third first_moves n)

    pub open_also : (i : ℕ) → IsOpen First i → IsOpen Second i
    open_also i o = open_back g others C two Second Third second_moves i (open_moved f cells C one First Third first_moves i o)

    -- what is left, under an answer
    abbrev left_under : Substitution ℕ (List ℕ) → Case → Read
    left_under p c = image same_number p c.goal.conclusion

    -- the answer over the other numbers: variables of the same names stand in what is left, which is the same
    record AnsweredAlso (more : Cells) (p : Substitution ℕ (List ℕ)) : Type 0 where
      most : Cells
      answer : Substitution ℕ (List ℕ)
      solved : Solves (codes "x") (problem_of Second) (unified most answer)
      standing : map variable_named (standing_in (left_under p First) (made cells more p)) ≡ map variable_named (standing_in (left_under answer Second) (made others most answer))
      left : with_names s.variables (left_under p First) ≡ with_names u.variables (left_under answer Second)

    conclusion_moved : (h : ℕ → ℕ) → ((i j : ℕ) → h i ≡ h j → i ≡ j) → (c d : Case) → moved_goal h c.goal ≡ d.goal → (p : Substitution ℕ (List ℕ)) → renumbered h (left_under p c) ≡ left_under (renumbered_pairs h p) d
    conclusion_moved h different c d e p =
        translate-image h (λ x. x) same_number same_number (agreeing h different) p c.goal.conclusion
        ∙ ap (λ (q : Sequent). image same_number (renumbered_pairs h p) q.conclusion) e

    answered_by : (more : Cells) (p : Substitution ℕ (List ℕ)) → Solves (codes "x") (problem_of First) (unified more p) → (r : Answer (List ℕ)) → Solves (codes "x") (problem_of Second) r
        → E g others C two Second Third second_moves r ≡ E f cells C one First Third first_moves (unified more p) → AnsweredAlso more p
    answered_by more p m apart n both = absurd (cc)
    answered_by more p m (stuck i) n both = absurd (cc)
    answered_by more p m (unified most q) n both =
        let lists : (Third.before ++ Third.own) ++ drop (length (Second.before ++ Second.own)) most ≡ (Third.before ++ Third.own) ++ drop (length (First.before ++ First.own)) more = cc in
        let pairs : renumbered_pairs g q ≡ renumbered_pairs f p = cc in
        let ys = made cells more p in
        let zs = made others most q in
        let K = left_under p First in
        let L = left_under q Second in
        let lists_meet : map (moved_variable f) ys ≡ map (moved_variable g) zs =
        sym (made_answered f cells C one First Third first_moves more p m)
        ∙ ap (λ l. made C l (renumbered_pairs f p)) (sym lists)
        ∙ ap (made C ((Third.before ++ Third.own) ++ drop (length (Second.before ++ Second.own)) most)) (sym pairs)
        ∙ made_answered g others C two Second Third second_moves most q n in
        let left_meet : renumbered f K ≡ renumbered g L =
        conclusion_moved f one.different First Third first_moves.goal p
        ∙ ap (λ r. left_under r Third) (sym pairs)
        ∙ sym (conclusion_moved g two.different Second Third second_moves.goal q) in
        let over : map (moved_variable f) s.variables ≡ map (moved_variable g) u.variables = ap (λ (q : Sequent). q.variables) goals_meet in
        record {
          most = most;
          answer = q;
          solved = n;
          standing =
              sym (names_kept f (standing_in K ys))
              ∙ ap (map variable_named) (sym (standing_moved f (agreeing f one.different) K ys))
              ∙ ap (λ F. map variable_named (standing_in F (map (moved_variable f) ys))) left_meet
              ∙ ap (λ l. map variable_named (standing_in (renumbered g L) l)) lists_meet
              ∙ ap (map variable_named) (standing_moved g (agreeing g two.different) L zs)
              ∙ names_kept g (standing_in L zs);
          left =
              sym (with_names_moved f (agreeing f one.different) s.variables K)
              ∙ ap (with_names (map (moved_variable f) s.variables)) left_meet
              ∙ ap (λ xs. with_names xs (renumbered g L)) over
              ∙ with_names_moved g (agreeing g two.different) u.variables L;
        }

    answered_also : (more : Cells) (p : Substitution ℕ (List ℕ)) → Solves (codes "x") (problem_of First) (unified more p) → AnsweredAlso more p
    answered_also more p m =
        let w = solved_back g others C two Second Third second_moves (E f cells C one First Third first_moves (unified more p)) (solved_moved f cells C one First Third first_moves (unified more p) m) in
        answered_by more p m w.0 w.1 w.2

    -- WHAT COMES OF ONE CHOICE
    pub solved_once : (K L : Read) (ys zs : List Variable) → IsSolvedBy cells a names K ys → IsSolvedBy others b names L zs
        → (map variable_named ys ≡ map variable_named zs) × (with_names s.variables K ≡ with_names u.variables L)
    solved_once K L ys zs m n =
        let w = answered_also m.more m.answer m.solved in
        let both : unified w.most w.answer ≡ unified n.more n.answer = unique (codes "x") w.solved n.solved in
        let lists : w.most ≡ n.more = cc in
        let answers : w.answer ≡ n.answer = cc in (
          ap (map variable_named) m.left_open
              ∙ ap (λ F. map variable_named (standing_in F (made cells m.more m.answer))) m.left
              ∙ w.standing
              ∙ ap (λ l. map variable_named (standing_in (left_under w.answer Second) (made others l w.answer))) lists
              ∙ ap (λ r. map variable_named (standing_in (left_under r Second) (made others n.more r))) answers
              ∙ ap (λ F. map variable_named (standing_in F (made others n.more n.answer))) (sym n.left)
              ∙ sym (ap (map variable_named) n.left_open),
          ap (with_names s.variables) m.left ∙ w.left ∙ ap (λ r. with_names u.variables (left_under r Second)) answers ∙ sym (ap (with_names u.variables) n.left),
        )
