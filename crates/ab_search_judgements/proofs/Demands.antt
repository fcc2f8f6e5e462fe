-- WHAT A PROGRAM CLAUSE DEMANDS of a judgement over some cells: its equations are typed, over the cells, and raised from one row of fresh variables.
use Rattle.std.proofs.Common.{◌≡◌, ◌⊎◌, inl, ℕ, ◌+◌, ◌<◌, List, [], ◌∷◌, ◌++◌, length, codes, true, Some, refl, sym, ◌∙◌, ap, subst, arith}
use Rattle.std.specs.Prelude.{All, Contains}
use Rattle.std.proofs.lemmas.List.Elements.{All-head, All-tail, Contains-append_right}
use Rattle.ab_term.specs.Types.{Ty, o}
use Rattle.ab_term.specs.Terms as tree
use Rattle.ab_term.specs.Terms.{Nominal, constant, nominal, spine, Terms, Read}
use Rattle.ab_term.specs.Typing.{Signature, HasType, TakeType}
use Rattle.ab_term.specs.Names.{support, support_of_all}
use Rattle.ab_term.specs.Translation.{forget, forget_all, EqualPastHints}
use Rattle.ab_term.specs.Variables.{Substitution, variables, variables_of_all, image, image_by, image_all_by}
use Rattle.ab_term.specs.Sameness.{same_number}
use Rattle.ab_term.proofs.Lists.{Contains-none}
use Rattle.ab_term.proofs.PastHints.{variables-forget, typed_past_hints, support_past_hints, variables_past_hints}
use Rattle.ab_term.proofs.Stands.{has_names, has_variables}
use Rattle.ab_term.proofs.Standing as standing
use Rattle.ab_term.proofs.Translations.{translate_typed, support-translate}
use Rattle.ab_unifiers.specs.Replacements.{Cell, holds}
use Rattle.ab_unifiers.specs.Unification.{Equation}
use Rattle.ab_unifiers.specs.Unifiers.{IsCell, AreTyped, AreKnown, AreOver, AllHoldCells, sides}
use Rattle.ab_unifiers.specs.Clauses.{Clause, numbered, put_together}
use Rattle.ab_unifiers.specs.Alternatives.{cells_over, made_over, made_terms, arguments_equal}
use Rattle.ab_unifiers.specs.Member.{HasMember}
use Rattle.ab_unifiers.specs.Prefixes.{arguments_of}
use Rattle.ab_unifiers.proofs.Cells.{cell_kept}
use Rattle.ab_unifiers.proofs.Choosing.{ordered_contains}
use Rattle.ab_unifiers.proofs.Constants as names_in
use Rattle.ab_unifiers.proofs.Following.{plain}
use Rattle.ab_unifiers.proofs.Lifting.{lifted, OfCells}
use Rattle.ab_unifiers.proofs.Past.{forget-image}
use Rattle.ab_unifiers.proofs.Sides.{all_sides}
use Rattle.ab_unifiers.proofs.Unifier as takes
use Rattle.ab_unifiers.proofs.Unifier.{have_each}
use Rattle.ab_unifiers.proofs.Variables as standing_in
use Rattle.ab_unifiers.proofs.Variables.{holds_contains}
use Rattle.ab_formulas.specs.Formulas.{IsFormula}
use Rattle.ab_formulas.specs.Marks.{plain as unmarked}
use Rattle.ab_formulas.specs.Programs.{IsProgramClause}
use Rattle.ab_theory.specs.Judgements.{Judgement, constants_of, support_of_focus}
use Rattle.ab_theory.specs.SpecRules.{Demand, by_clause, demand_of}
use Rattle.ab_theory.proofs.Demanded.{Over, IsWellMade}
use Rattle.ab_theory.proofs.RuleDemands.{JudgementKnown, IsRuleOf, rule_well}
use Rattle.ab_search_trees.proofs.Lifts.{known_cell, numbered_cell, at_behind, cells_all_over}
use Rattle.ab_pattern_matching.specs.Raising.{raising, AreRaised}
use Rattle.ab_pattern_matching.proofs.OfClauses.{from_to}
use Rattle.ab_coverage.proofs.Cases as cases
use Rattle.ab_coverage.proofs.Demands.{IsBelow, Ties, clause_index, clause_atom, clause_put, clause_ties}
use Rattle.ab_search_clauses.proofs.Along as along
use Rattle.ab_search_clauses.proofs.Lifted as lifting
use Rattle.ab_search_judgements.proofs.Raising.{listed, raising_is, each_raised}
use Rattle.ab_search_judgements.proofs.Shapes as shapes

-- equations over the cells
pub all_hold_cells : (cells : List (Cell (List ℕ))) (es : List (Equation (List ℕ))) → All (Over (IsCell cells)) (sides es) → AllHoldCells cells es
all_hold_cells cells [] a = tt
all_hold_cells cells (e ∷ es) a =
    let rest = All-tail (Over (IsCell cells)) e.left (e.right ∷ sides es) a in
    (All-head (Over (IsCell cells)) e.left (e.right ∷ sides es) a, All-head (Over (IsCell cells)) e.right (sides es) rest, all_hold_cells cells es (All-tail (Over (IsCell cells)) e.right (sides es) rest))

-- over no constants
none_over : (cs : List (Cell (List ℕ))) → cells_over (codes "x") [] cs ≡ cs
none_over [] = refl
none_over (c ∷ cs) = ap (λ l. c ∷ l) (none_over cs)

none_lifted : (sg : Signature) (cs : List (Cell (List ℕ))) (us : List Read) → OfCells sg (codes "x") cs us → lifted sg (codes "x") [] cs us ≡ us
none_lifted sg [] [] e = refl
none_lifted sg [] (u ∷ us) e = absurd e
none_lifted sg (c ∷ cs) [] e = absurd e
none_lifted sg (c ∷ cs) (u ∷ us) e = ap (λ l. u ∷ l) (none_lifted sg cs us e.1)

-- THE ATOM over fresh variables, as a list of terms
module _ (sg : Signature) (has : HasMember sg) (c : Clause (List ℕ)) (right : IsProgramClause sg c) (N : ℕ) where
  abbrev pub fresh_made : List Read
  fresh_made = made_terms (codes "x") N [] (shapes.own sg has.cons c right)

  abbrev pub fresh_arguments : Terms ℕ (Unit {0})
  fresh_arguments = forget_all (shapes.atom_head sg has.cons c right (made_terms (codes "x") N [] (shapes.own sg has.cons c right))).0

  fresh_are : shapes.AreOwn sg has.cons c right fresh_made
  fresh_are = along.made_are sg N [] (shapes.own sg has.cons c right) []

  atom_fresh : forget (shapes.atom_of sg has.cons c right fresh_made) ≡ spine (constant ((shapes.is_right sg has.cons c right).head).0) fresh_arguments
  atom_fresh = ap forget (shapes.atom_head sg has.cons c right fresh_made).1

  pub fresh_takes : (D : Ty) × TakeType sg [] fresh_arguments D o
  fresh_takes =
      let whole : HasType sg [] (forget (shapes.atom_of sg has.cons c right fresh_made)) o = translate_typed sg (λ k. k) (λ h. tt) (shapes.atom_typed sg has.cons c right fresh_made fresh_are) in
      let typed : HasType sg [] (spine (constant ((shapes.is_right sg has.cons c right).head).0) fresh_arguments) o = subst (λ t. HasType sg [] t o) atom_fresh whole in
      let r = takes.arguments_of sg tt typed in
      (r.0, r.2)

  over_fresh : standing.Has (cases.Over [] (made_over (codes "x") N [] (shapes.own sg has.cons c right))) (shapes.atom_of sg has.cons c right fresh_made)
  over_fresh = shapes.atom_over sg has.cons c right [] (made_over (codes "x") N [] (shapes.own sg has.cons c right)) fresh_made fresh_are (along.made_over_news sg N [] (shapes.own sg has.cons c right) [])

  pub fresh_variables : (y : tree.Variable ℕ) → holds (variables_of_all fresh_arguments) y ≡ true → holds (numbered N (shapes.own sg has.cons c right)) y ≡ true
  fresh_variables y h =
      let cs = shapes.own sg has.cons c right in
      let there : Contains (variables (forget (shapes.atom_of sg has.cons c right fresh_made))) y = subst (λ t. Contains (variables t) y) (sym atom_fresh) (holds_contains (variables_of_all fresh_arguments) y h) in
      subst (λ l. holds (numbered N l) y ≡ true) (none_over cs) (has_variables (Contains []) (λ y. holds (made_over (codes "x") N [] cs) y ≡ true) (shapes.atom_of sg has.cons c right fresh_made) over_fresh y
      (subst (λ l. Contains l y) (variables-forget (shapes.atom_of sg has.cons c right fresh_made)) there))

  pub fresh_nameless : (a : Nominal) → Contains (support_of_all fresh_arguments) a → ⊥
  fresh_nameless a m =
      let there : Contains (support (forget (shapes.atom_of sg has.cons c right fresh_made))) a = subst (λ t. Contains (support t) a) (sym atom_fresh) m in
      Contains-none a (has_names (Contains []) (λ y. holds (made_over (codes "x") N [] (shapes.own sg has.cons c right)) y ≡ true) (shapes.atom_of sg has.cons c right fresh_made) over_fresh a
      (subst (λ l. Contains l a) (support-translate (λ k. k) (λ h. tt) (shapes.atom_of sg has.cons c right fresh_made)) there))

  -- raised over constants, it is the atom with the new terms
  pub atom_raised : (n : ℕ) (S : List Nominal) → image_by (raising (from_to N n S) (numbered N (shapes.own sg has.cons c right))) (spine (constant ((shapes.is_right sg has.cons c right).head).0) fresh_arguments)
      ≡ forget (shapes.atom_of sg has.cons c right (made_terms (codes "x") n S (shapes.own sg has.cons c right)))
  atom_raised n S =
      let cs = shapes.own sg has.cons c right in
      let x = codes "x" in
      let ws = made_terms x n S cs in
      let ws_are = along.made_are sg n S cs [] in
      let u : Substitution ℕ (List ℕ) = put_together (made_over x N [] cs) (lifted sg x [] cs ws) in
      let u_is : u ≡ put_together (numbered N cs) ws = ap (λ l. put_together (numbered N l) (lifted sg x [] cs ws)) (none_over cs) ∙ ap (put_together (numbered N cs)) (none_lifted sg cs ws ws_are) in
      raising_is N n S cs (spine (constant ((shapes.is_right sg has.cons c right).head).0) fresh_arguments)
      ∙ ap (λ l. image_by (plain l) (spine (constant ((shapes.is_right sg has.cons c right).head).0) fresh_arguments)) (sym u_is)
      ∙ ap (image_by (plain u)) (sym atom_fresh)
      ∙ sym (forget-image u (shapes.atom_of sg has.cons c right fresh_made))
      ∙ shapes.atoms_become sg has.cons c right u (lifting.unifier_typed sg N [] cs ws ws_are) fresh_made ws fresh_are ws_are (lifting.become sg N [] cs ws ws_are)

-- AT A JUDGEMENT over these cells
module _ (sg : Signature) (has : HasMember sg) (c : Clause (List ℕ)) (cells : List (Cell (List ℕ))) (M : List Nominal) (j : Judgement) (parts : JudgementKnown sg (IsCell cells) M j) (rule : IsRuleOf sg j (by_clause c)) where
  abbrev x : List ℕ
  x = codes "x"

  abbrev pub right : IsProgramClause sg c
  right = rule.0

  abbrev pub own : List (Cell (List ℕ))
  own = shapes.own sg has.cons c right

  abbrev pub brings : List (Cell (List ℕ))
  brings = cells_over (codes "x") (constants_of j) (shapes.own sg has.cons c right)

  abbrev pub news : List (tree.Variable ℕ)
  news = made_over (codes "x") (length cells) (constants_of j) (shapes.own sg has.cons c right)

  abbrev pub made : List Read
  made = made_terms (codes "x") (length cells) (constants_of j) (shapes.own sg has.cons c right)

  abbrev pub demand : Demand
  demand = demand_of (length cells) unmarked j (by_clause c)

  pub made_own : OfCells sg (codes "x") own made
  made_own = along.made_are sg (length cells) (constants_of j) own []

  pub list_low : (y : tree.Variable ℕ) → Contains (variables j.context) y → y.name < length cells
  list_low y m = known_cell cells y.name y.type (parts.context.known.over y m)

  list_below : IsBelow (length cells) j.context
  list_below = standing_in.held_has (λ (y : tree.Variable ℕ). y.name < length cells) j.context (λ y h. list_low y (holds_contains (variables j.context) y h))

  abbrev atom : Read
  atom = image same_number (clause_put sg has.cons (length cells) j parts.context.typed list_below c right) (clause_atom sg has.cons (length cells) j parts.context.typed list_below c right)

  ties : Ties (constants_of j) (length cells) j.context (clause_index c) atom demand
  ties = clause_ties sg has.cons (length cells) j parts.context.typed list_below c right

  pub own_is : demand.own ≡ brings
  own_is = ties.own

  pub body_is : EqualPastHints demand.body (shapes.body_of sg has.cons c right j.context made)
  body_is = ties.body

  -- BOTH SIDES' ARGUMENTS
  abbrev pub lefts : Terms ℕ (List ℕ)
  lefts = arguments_of j.goal

  pub rights : Terms ℕ (List ℕ)
  rights = arguments_of atom

  pub equations_are : demand.equations ≡ arguments_equal (codes "x") 0 (arguments_of j.goal) rights
  unfolding rights
  equations_are = refl

  atom_typed : HasType sg [] atom o
  atom_typed = typed_past_hints sg (shapes.atom_of sg has.cons c right made) atom (sym ties.atom) (shapes.atom_typed sg has.cons c right made made_own)

  pub head : (D : Ty) × (sg c.predicate ≡ Some D) × TakeType sg [] rights D o
  unfolding rights
  head = takes.arguments_of sg x atom_spine
    where
      atom_spine : HasType sg [] (spine (constant c.predicate) (arguments_of atom)) o
      atom_spine = atom_typed

  pub lefts_are : arguments_of j.goal ≡ rule.1
  lefts_are = ap arguments_of rule.2

  pub lefts_take : TakeType sg [] (arguments_of j.goal) head.0 o
  lefts_take =
      let mine = takes.arguments_of sg x (subst (λ t. HasType sg [] t o) rule.2 parts.goal.typed) in
      let some : Some mine.0 ≡ Some head.0 = sym mine.1 ∙ head.1 in
      let one : mine.0 ≡ head.0 = cc in
      subst (λ l. TakeType sg [] l head.0 o) (sym lefts_are) (subst (λ D. TakeType sg [] rule.1 D o) one mine.2)

  pub rights_take : TakeType sg [] rights head.0 o
  rights_take = head.2

  -- they are like the goal and the atom
  pub goal_is : j.goal ≡ spine (constant c.predicate) (arguments_of j.goal)
  goal_is = rule.2 ∙ ap (spine (constant c.predicate)) (sym lefts_are)

  pub atom_is : spine (constant c.predicate) (forget_all rights) ≡ forget (shapes.atom_of sg has.cons c right made)
  unfolding rights
  atom_is = ties.atom

  left_variables : (y : tree.Variable ℕ) → holds (variables_of_all (arguments_of j.goal)) y ≡ true → Contains (variables j.goal) y
  left_variables y h = subst (λ t. Contains (variables t) y) (sym goal_is) (holds_contains (variables_of_all (arguments_of j.goal)) y h)

  pub lefts_low : (y : tree.Variable ℕ) → holds (variables_of_all (arguments_of j.goal)) y ≡ true → y.name < length cells
  lefts_low y h = known_cell cells y.name y.type (parts.goal.known.over y (left_variables y h))

  over_made : standing.Has (cases.Over (constants_of j) news) (shapes.atom_of sg has.cons c right made)
  over_made = shapes.atom_over sg has.cons c right (constants_of j) news made made_own (along.made_over_news sg (length cells) (constants_of j) own [])

  pub rights_new : (y : tree.Variable ℕ) → holds (variables_of_all rights) y ≡ true → holds news y ≡ true
  unfolding rights
  rights_new y h =
      let there : Contains (variables atom) y = holds_contains (variables_of_all (arguments_of atom)) y h in
      has_variables (Contains (constants_of j)) (λ y. holds news y ≡ true) (shapes.atom_of sg has.cons c right made) over_made y (subst (λ l. Contains l y) (variables_past_hints atom (shapes.atom_of sg has.cons c right made) ties.atom) there)

  -- CELLS
  pub new_cell : (y : tree.Variable ℕ) → holds news y ≡ true → IsCell (cells ++ brings) y
  new_cell y h = let at = numbered_cell brings (length cells) y h in at_behind cells brings at.0 y.name y.type at.1 at.2

  well : IsWellMade sg (IsCell (cells ++ brings)) M demand
  well = rule_well sg has (IsCell cells) (IsCell (cells ++ brings)) (cell_kept cells (cells ++ brings) (brings, refl)) (length cells) M unmarked j parts (by_clause c) rule (λ y h.
      let first : length cells + 0 ≡ length cells = omega arith in
      new_cell y (subst (λ l. holds (numbered (length cells) l) y ≡ true) own_is (subst (λ i. holds (numbered i demand.own) y ≡ true) first h)))

  pub typed : AreTyped sg demand.equations
  typed = well.typed

  pub hold : AllHoldCells (cells ++ brings) demand.equations
  hold = all_hold_cells (cells ++ brings) demand.equations well.over

  pub over_cells : AreOver (cells ++ brings) demand.equations
  over_cells = cells_all_over (cells ++ brings) demand.equations hold

  pub known : AreKnown (cells ++ brings) news
  known y h = known_cell (cells ++ brings) y.name y.type (new_cell y h)

  pub body_formula : IsFormula sg demand.body
  body_formula = well.formula

  pub body_cells : (y : tree.Variable ℕ) → Contains (variables demand.body) y → IsCell (cells ++ brings) y
  body_cells = well.body.over

  -- the equations' constants are those of the judgement
  pub held : All (names_in.Has (λ a. Contains (constants_of j) a ⊎ Contains [] a)) (sides demand.equations)
  unfolding rights
  held = subst (λ es. All (names_in.Has (λ a. Contains (constants_of j) a ⊎ Contains [] a)) (sides es)) (sym equations_are)
      (all_sides sg x (names_in.Has (λ a. Contains (constants_of j) a ⊎ Contains [] a)) 0 (arguments_of j.goal) (arguments_of atom)
      (have_each sg x (λ a. Contains (constants_of j) a ⊎ Contains [] a) (arguments_of j.goal) (names_in.support_all_have (λ a. Contains (constants_of j) a ⊎ Contains [] a) (arguments_of j.goal) (λ a i. inl (of_goal a (subst (λ t. Contains (support t) a) (sym goal_is) i)))))
      (have_each sg x (λ a. Contains (constants_of j) a ⊎ Contains [] a) (arguments_of atom) (names_in.support_all_have (λ a. Contains (constants_of j) a ⊎ Contains [] a) (arguments_of atom) (λ a i. inl (of_atom a i)))))
    where
      of_goal : (a : Nominal) → Contains (support j.goal) a → Contains (constants_of j) a
      of_goal a i = ordered_contains (support j.context ++ (support_of_focus j.focus ++ support j.goal)) a
          (Contains-append_right (support j.context) (support_of_focus j.focus ++ support j.goal) a (Contains-append_right (support_of_focus j.focus) (support j.goal) a i))

      of_atom : (a : Nominal) → Contains (support atom) a → Contains (constants_of j) a
      of_atom a i = has_names (Contains (constants_of j)) (λ y. holds news y ≡ true) (shapes.atom_of sg has.cons c right made) over_made a (subst (λ l. Contains l a) (support_past_hints atom (shapes.atom_of sg has.cons c right made) ties.atom) i)

  -- THEY ARE RAISED
  pub raised : (N : ℕ) → AreRaised (from_to N (length cells) (constants_of j)) (numbered N own) (listed (fresh_arguments sg has c right N)) demand.equations
  raised N = subst (AreRaised (from_to N (length cells) (constants_of j)) (numbered N own) (listed (fresh_arguments sg has c right N))) (sym equations_are)
      (each_raised sg (from_to N (length cells) (constants_of j)) (numbered N own) 0 (arguments_of j.goal) rights (fresh_arguments sg has c right N) lefts_take rights_take raised_so)
    where
      raised_so : forget_all rights ≡ image_all_by (raising (from_to N (length cells) (constants_of j)) (numbered N own)) (fresh_arguments sg has c right N)
      raised_so =
          let both : spine (constant c.predicate) (forget_all rights) ≡ spine (constant ((shapes.is_right sg has.cons c right).head).0) (image_all_by (raising (from_to N (length cells) (constants_of j)) (numbered N own)) (fresh_arguments sg has c right N)) =
          atom_is ∙ sym (atom_raised sg has c right N (length cells) (constants_of j)) in
          cc
