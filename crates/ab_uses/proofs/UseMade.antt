-- A use that was made on shared terms is the case of its choice, and what comes of it is what comes of the choice.
use Rattle.std.specs.List.{All}
use Rattle.std.specs.Prelude.{Contains, is_some}
use Rattle.std.specs.Option.{option_map}
use Rattle.std.proofs.Common.{◌≡◌, ℕ, suc, ◌+◌, ◌-◌, ◌≤◌, List, [], ◌∷◌, ◌++◌, map, length, take, codes, Option, Some, None, true, refl, sym, ◌∙◌, ap, subst, arith, length-append}
use Rattle.std.proofs.lemmas.List.{length-map}
use Rattle.std.proofs.lemmas.List.Elements.{All-head, All-tail, All-weaker}
use Rattle.std.proofs.lemmas.Simd.{map-map}
use Rattle.std.proofs.Math.Seq.{take-append_seam}
use Rattle.ab_term.specs.Types.{prop}
use Rattle.ab_term.specs.Terms as tree
use Rattle.ab_term.specs.Variables.{Substitution, image}
use Rattle.ab_term.specs.Sameness.{same_number}
use Rattle.ab_norm.specs.ab_types.specs.Entries.{Table}
use Rattle.ab_norm.specs.ab_store.specs.declared.node.TermId.{TermId}
use Rattle.ab_norm.specs.ab_store.specs.declared.node.Equation.{Equation as Kept}
use Rattle.ab_term.specs.Terms.{Read}
use Rattle.ab_norm.specs.ab_store.specs.Trees.{Contents, tree_of}
use Rattle.ab_norm.specs.ab_store.specs.Reading.{reading}
use Rattle.ab_norm.specs.ab_store.proofs.Growing.{unbound_reads}
use Rattle.ab_norm.specs.NodeGrowth.{AddsTypedTerms}
use Rattle.ab_unifiers.specs.Replacements.{Cell}
use Rattle.ab_unifiers.specs.Unification as rules
use Rattle.ab_unifiers.specs.Unification.{Equation, Solves, unified}
use Rattle.ab_unifiers.specs.Unifiers.{given}
use Rattle.ab_unify.specs.Problem.{cell_read, cells_read, variables_read, equations_from, problem}
use Rattle.ab_unify.specs.StoreChanges.{Grows}
use Rattle.ab_unify.proofs.Growth.{grown_term, grows_terms}
use Rattle.ab_alternatives.specs.ab_instances.specs.RaisedCells.{ids_from}
use Rattle.ab_formulas.specs.Sequents.{Variable}
use Rattle.ab_theory.specs.Splits.{problem_of}
use Rattle.ab_theory.specs.Equations.{made}
use Rattle.ab_alternatives.specs.ab_equations.specs.Meanwhile.{AreFrom}
use Rattle.ab_alternatives.specs.LeftAlternatives.{trees_from}
use Rattle.ab_theory.specs.Uses as uses
use Rattle.ab_theory.specs.Uses.{Use, equations, equation_behind, awaiting, use_by}
use Rattle.ab_theory.specs.UseAnswers.{Using, case_by, standing_in, awaited, result_in}
use Rattle.ab_unifiers.specs.Choices.{in_order}
use Rattle.ab_formulas.specs.Sequents.{goal_names}
use Rattle.ab_consequences.specs.NewConstants.{pairs_for}
use Rattle.ab_consequences.specs.UseStages.{stages_of, stage_under}
use Rattle.ab_uses.specs.UseCells.{IsMade, stages_read}
use Rattle.ab_uses.specs.declared.made_uses.Made.{Made}
use Rattle.ab_uses.specs.UseSolutions.{missing, equation_at, all_equations, behind_all, IsFormulaTerm, IsFormulaTermIfAny, aim_in}
use Rattle.ab_uses.specs.ChoiceAnswers.{IsSolvedSo, ComesOut}
use Rattle.ab_uses.specs.declared.aim.Aim.{Aim}
use Rattle.ab_uses.specs.declared.outcome.Outcome.{Outcome}
use Rattle.ab_uses.specs.declared.outcome.Outcome.TheVariants.{PassedOver, Apart, Stuck, Open, Used}
use Rattle.ab_theory.specs.Pieces.{Part}
use Rattle.ab_theory.specs.Uses.{used, types_chosen, given_constants}
use Rattle.ab_consequences.specs.UsesFollow.{antecedents_among, AreNone}
use Rattle.ab_consequences.proofs.Counted.{used_count}
use Rattle.ab_consequences.proofs.UsesFollow.{no_equations}
use Rattle.ab_consequences.proofs.UseStages.{types_of}
use Rattle.ab_uses.proofs.Equations.{map_missing}
use Rattle.ab_uses.proofs.Moved.{stages_same}
use Rattle.ab_uses.proofs.Left.{awaiting_is, behind_image, awaited_is, result_is}

-- as many antecedents are made as are among the parts
pub enough_made : (U : Table) (V : Contents) (before : List (Cell (List ℕ))) (held : List tree.Nominal) (n : ℕ) (ps : List Part) (names : List tree.Nominal) (F : Read) (m : Made) → types_of names ≡ types_chosen ps
    → IsMade U V before (used held n ps names F) m → length m.antecedents.items ≡ antecedents_among ps
enough_made U V before held n ps names F m types made =
    sym (length-map m.antecedents.items (tree_of U V)) ∙ ap length made.antecedents ∙ used_count held n ps names F types

-- where nothing is given for antecedents there is one equation at most
pub one_at_most : (x : uses.Aim) (As : List Read) (R : Read) → AreNone x.hypotheses → length (all_equations x As R) ≤ 1
one_at_most x As R none =
    subst (λ (l : List (Equation (List ℕ))). length (l ++ equation_at (length l) x.conclusion R) ≤ 1) (sym (no_equations 0 x.hypotheses As none)) (go x.conclusion)
  where
    go : (o : Option Read) → length ([] ++ equation_at 0 o R) ≤ 1
    go None = omega arith
    go (Some C) = omega arith

-- what the formula is used for stays, where a table and a store grow
module _ (T U : Table) (S V : Contents) (g : Grows T S U V) where
  any_read : (o : Option TermId) → IsFormulaTermIfAny T S o → option_map (tree_of U V) o ≡ option_map (tree_of T S) o
  any_read None h = refl
  any_read (Some t) h = ap Some (g.trees t h.0).1

  all_read : (os : List (Option TermId)) → All (IsFormulaTermIfAny T S) os → map (option_map (tree_of U V)) os ≡ map (option_map (tree_of T S)) os
  all_read [] all = refl
  all_read (o ∷ os) all =
      ap (λ r. r ∷ map (option_map (tree_of U V)) os) (any_read o (All-head (IsFormulaTermIfAny T S) o os all))
      ∙ ap (λ l. option_map (tree_of T S) o ∷ l) (all_read os (All-tail (IsFormulaTermIfAny T S) o os all))

  pub any_grown : (o : Option TermId) → IsFormulaTermIfAny T S o → IsFormulaTermIfAny U V o
  any_grown None h = tt
  any_grown (Some t) h = grown_term T U S V g [] t prop h

  pub all_grown : (os : List (Option TermId)) → All (IsFormulaTermIfAny T S) os → All (IsFormulaTermIfAny U V) os
  all_grown os all = All-weaker (IsFormulaTermIfAny T S) (IsFormulaTermIfAny U V) any_grown os all

  pub one_grown : (t : TermId) → IsFormulaTerm T S t → IsFormulaTerm U V t
  one_grown t h = grown_term T U S V g [] t prop h

  pub formulas_grown : (ts : List TermId) → All (IsFormulaTerm T S) ts → All (IsFormulaTerm U V) ts
  formulas_grown ts all = All-weaker (IsFormulaTerm T S) (IsFormulaTerm U V) (λ t h. grown_term T U S V g [] t prop h) ts all

  pub same_aim : (a : Aim) → All (IsFormulaTermIfAny T S) a.hypotheses.items → IsFormulaTermIfAny T S a.conclusion → aim_in U V a ≡ aim_in T S a
  same_aim a hs c =
      ap (λ l. record { hypotheses = l; conclusion = option_map (tree_of U V) a.conclusion }) (all_read a.hypotheses.items hs)
      ∙ ap (λ o. record { hypotheses = map (option_map (tree_of T S)) a.hypotheses.items; conclusion = o }) (any_read a.conclusion c)

-- equations where no cell is bound
unbound_equations : (T : Table) (S : Contents) → S.bindings ≡ [] → (k : ℕ) (es : List Kept) → equations_from T S k es ≡ trees_from T S k es
unbound_equations T S none k [] = refl
unbound_equations T S none k (e ∷ es) =
    ap (λ l. record { place = k; left = l; right = reading T S e.right } ∷ equations_from T S (k + 1) es) (unbound_reads S none T e.left)
    ∙ ap (λ r. record { place = k; left = tree_of T S e.left; right = r } ∷ equations_from T S (k + 1) es) (unbound_reads S none T e.right)
    ∙ ap (λ l. record { place = k; left = tree_of T S e.left; right = tree_of T S e.right } ∷ l) (unbound_equations T S none (k + 1) es)

-- a result that is given stands alone, or nothing is given for it
pub none_beside : (l : List (Equation (List ℕ))) (o : Option Read) (R : Read) → (is_some o ≡ true → length (l ++ equation_at (length l) o R) ≤ 1) → l ++ equation_at (length l) o R ≡ l ++ equation_behind o R
none_beside l None R f = refl
none_beside [] (Some C) R f = refl
none_beside (e ∷ l) (Some C) R f =
    absurd (let few = f refl in let many = length-append l (equation_at (suc (length l)) (Some C) R) in omega (arith, few, many))

ids_count : {X : Type 0} (n : ℕ) (xs : List X) → length (ids_from n xs) ≡ length xs
ids_count n [] = refl
ids_count n (x ∷ xs) = ap suc (ids_count (suc n) xs)

ids_are_from : {X : Type 0} (S : Contents) (n : ℕ) (xs : List X) → length S.cells ≡ n + length xs → AreFrom S n (ids_from n xs)
ids_are_from S n [] l = omega (arith, l)
ids_are_from S n (x ∷ xs) l =
    let next : suc n ≡ n + 1 = omega arith in
    (refl, subst (λ k. AreFrom S k (ids_from (suc n) xs)) next (ids_are_from S (suc n) xs (omega (arith, l))))

module _ (U : Table) (V W : Contents) (before : List (Cell (List ℕ))) (u : Use) (m : Made) (is : IsMade U V before u m) (adds : AddsTypedTerms U V W) where
  same_cells : cells_read U W ≡ before ++ u.variables
  same_cells = ap (map (cell_read U)) adds.cells ∙ is.all

  abbrev here : ℕ
  here = length W.cells - length m.cells.items

  many : length W.cells ≡ length before + length u.variables
  many = sym (length-map W.cells (cell_read U)) ∙ ap length same_cells ∙ length-append before u.variables

  own_many : length m.cells.items ≡ length u.variables
  own_many = ap length is.cells ∙ ids_count (length before) u.variables

  here_is : here ≡ length before
  here_is = let a = many in let b = own_many in omega (arith, a, b)

  -- its own cells are the last ones
  pub own_from : AreFrom W here m.cells.items
  own_from =
      subst (λ n. AreFrom W n m.cells.items) (sym here_is)
      (subst (AreFrom W (length before)) (sym is.cells) (ids_are_from W (length before) u.variables many))

  -- and the others are those that were there
  before_is : take here (cells_read U W) ≡ before
  before_is = ap (take here) same_cells ∙ ap (λ n. take n (before ++ u.variables)) here_is ∙ take-append_seam before u.variables

  same_variables : variables_read U W m.cells.items ≡ variables_read U V m.cells.items
  same_variables = ap (λ cs. variables_read U (record { nodes = W.nodes; cells = cs; bindings = W.bindings; room = W.room }) m.cells.items) adds.cells

module _ (T U : Table) (S V W : Contents) (x : Using) (names : List tree.Nominal) (aim : Aim) (m : Made) (es : List Kept)
    (is : IsMade U V (cells_read T S) (use_by x.goal (length (cells_read T S)) x.parts x.formula names) m) (adds : AddsTypedTerms U V W) (none : W.bindings ≡ [])
    (reads : trees_from U W 0 es ≡ all_equations (aim_in U V aim) (map (tree_of U V) m.antecedents.items) (tree_of U V m.result))
    (aim_is : aim_in U V aim ≡ x.aim) (few : is_some aim.conclusion ≡ true → length es ≤ 1) (enough : length aim.hypotheses.items ≤ length m.antecedents.items)
    (staged : stages_read U V m.stages.items ≡ stages_of (in_order (goal_names x.goal)) (length (cells_read T S)) x.parts names) (known : List tree.Nominal)
    (within : (a : tree.Nominal) → Contains (names ++ (goal_names x.goal ++ given_constants x.parts)) a → Contains known a) where
  abbrev there : List (Cell (List ℕ))
  there = cells_read T S

  abbrev u : Use
  u = use_by x.goal (length there) x.parts x.formula names

  count : (k : ℕ) (l : List Kept) → length (trees_from U W k l) ≡ length l
  count k [] = refl
  count k (e ∷ l) = ap suc (count (k + 1) l)

  given_some : {X Y : Type 0} (f : X → Y) (o : Option X) → is_some (option_map f o) ≡ true → is_some o ≡ true
  given_some f None e = e
  given_some f (Some y) e = refl

  same_equations : trees_from U W 0 es ≡ equations 0 x.aim.hypotheses u.antecedents ++ equation_behind x.aim.conclusion u.result
  same_equations =
      reads
      ∙ none_beside (equations 0 (aim_in U V aim).hypotheses (map (tree_of U V) m.antecedents.items)) (aim_in U V aim).conclusion (tree_of U V m.result)
      (λ e. let l = sym (ap length reads) ∙ count 0 es in let k = few (given_some (tree_of U V) aim.conclusion e) in omega (arith, l, k))
      ∙ ap (λ (a : uses.Aim). equations 0 a.hypotheses (map (tree_of U V) m.antecedents.items) ++ equation_behind a.conclusion (tree_of U V m.result)) aim_is
      ∙ ap (λ l. equations 0 x.aim.hypotheses l ++ equation_behind x.aim.conclusion (tree_of U V m.result)) is.antecedents
      ∙ ap (λ r. equations 0 x.aim.hypotheses u.antecedents ++ equation_behind x.aim.conclusion r) is.result

  -- THE PROBLEM IS THE CASE'S
  problem_is : problem U W es m.cells.items ≡ problem_of (case_by there x names)
  problem_is =
      ap (λ l. given l (cells_read U W) (variables_read U W m.cells.items)) (unbound_equations U W none 0 es ∙ same_equations)
      ∙ ap (λ l. given (equations 0 x.aim.hypotheses u.antecedents ++ equation_behind x.aim.conclusion u.result) l (variables_read U W m.cells.items)) (same_cells U V W there u m is adds)
      ∙ ap (given (equations 0 x.aim.hypotheses u.antecedents ++ equation_behind x.aim.conclusion u.result) (there ++ u.variables)) (same_variables U V W there u m is adds ∙ is.variables)

  abbrev hs : List (Option Read)
  hs = x.aim.hypotheses

  abbrev As : List TermId
  As = missing aim.hypotheses.items m.antecedents.items

  hypotheses_are : map (option_map (tree_of U V)) aim.hypotheses.items ≡ hs
  hypotheses_are = ap (λ (a : uses.Aim). a.hypotheses) aim_is

  read_later : (ts : List TermId) → All (IsFormulaTerm U V) ts → map (tree_of U W) ts ≡ map (tree_of U V) ts
  read_later [] all = refl
  read_later (t ∷ ts) all =
      ap (λ r. r ∷ map (tree_of U W) ts) (adds.before.trees U t (All-head (IsFormulaTerm U V) t ts all).0)
      ∙ ap (λ l. tree_of U V t ∷ l) (read_later ts (All-tail (IsFormulaTerm U V) t ts all))

  antecedents_are : map (tree_of U W) m.antecedents.items ≡ u.antecedents
  antecedents_are = read_later m.antecedents.items is.formulas ∙ is.antecedents

  result_read : tree_of U W m.result ≡ u.result
  result_read = adds.before.trees U m.result is.formula.0 ∙ is.result

  missing_are : map (tree_of U W) As ≡ missing hs u.antecedents
  missing_are =
      map_missing (tree_of U V) (tree_of U W) aim.hypotheses.items m.antecedents.items
      ∙ ap (λ l. missing l (map (tree_of U W) m.antecedents.items)) hypotheses_are
      ∙ ap (missing hs) antecedents_are

  behind_is : behind_all (map (tree_of U W) As) (tree_of U W m.result) ≡ awaiting hs u.antecedents u.result
  behind_is = ap (λ l. behind_all l (tree_of U W m.result)) missing_are ∙ ap (behind_all (missing hs u.antecedents)) result_read ∙ sym (awaiting_is hs u.antecedents u.result)

  there_many : length hs ≤ length u.antecedents
  there_many =
      let a = sym (ap length hypotheses_are) ∙ length-map aim.hypotheses.items (option_map (tree_of U V)) in
      let b = sym (ap length antecedents_are) ∙ length-map m.antecedents.items (tree_of U W) in
      omega (arith, a, b, enough)

  module _ (answer : Substitution ℕ (List ℕ)) where
    abbrev f : Read → Read
    f = image same_number answer

    abbrev K : Read
    K = f (behind_all (map (tree_of U W) As) (tree_of U W m.result))

    left_is : K ≡ f (case_by there x names).goal.conclusion
    left_is = ap f behind_is

    taken_apart : K ≡ behind_all (map f (missing hs u.antecedents)) (f u.result)
    taken_apart =
        ap (λ l. f (behind_all l (tree_of U W m.result))) missing_are
        ∙ ap (λ r. f (behind_all (missing hs u.antecedents) r)) result_read
        ∙ behind_image answer (missing hs u.antecedents) u.result

    awaited_so : map (λ t. f (tree_of U W t)) As ≡ awaited hs K
    awaited_so =
        sym (map-map f (tree_of U W) As)
        ∙ ap (map f) missing_are
        ∙ sym (awaited_is f hs u.antecedents (f u.result) there_many)
        ∙ ap (awaited hs) (sym taken_apart)

    result_so : f (tree_of U W m.result) ≡ result_in hs K
    result_so = ap f result_read ∙ sym (result_is f hs u.antecedents (f u.result) there_many) ∙ ap (result_in hs) (sym taken_apart)

  open_is : (more : List (Cell (List ℕ))) (answer : Substitution ℕ (List ℕ)) (ys : List Variable) → ys ≡ standing_in (K answer) (made (take (length W.cells - length m.cells.items) (cells_read U W)) more answer)
      → ys ≡ standing_in (K answer) (made there more answer)
  open_is more answer ys e = e ∙ ap (λ l. standing_in (K answer) (made l more answer)) (before_is U V W there u m is adds)

  staged_later : stages_read U W m.stages.items ≡ stages_of (in_order (goal_names x.goal)) (length there) x.parts names
  staged_later = stages_same U U V W (grows_terms U V W adds) m.stages.items is.stages ∙ staged

  -- SO THE CHOICE COMES OUT
  pub comes_out : (X : Table) (Y : Contents) (o : Outcome) → IsSolvedSo U W es m.cells.items As m.result m.stages.items known X Y o → ComesOut there x names X Y o
  comes_out X Y PassedOver e = absurd e
  comes_out X Y Apart e = (is.outside, subst (λ p. Solves (codes "x") p rules.apart) problem_is e)
  comes_out X Y (Stuck i) e = (is.outside, subst (λ p. Solves (codes "x") p (rules.stuck i)) problem_is e)
  comes_out X Y (Open y) e = (
    is.outside,
    (
      K e.1,
      e.3,
      e.4,
      record { more = e.0; answer = e.1; solved = subst (λ p. Solves (codes "x") p (unified e.0 e.1)) problem_is e.2; left = left_is e.1; left_open = open_is e.0 e.1 (e.3 ∷ e.4) e.5 },
      e.6,
    ),
  )
  comes_out X Y (Used found) e = (
    is.outside,
    e.4,
    e.5,
    e.6,
    (
      K e.1,
      record { more = e.0; answer = e.1; solved = subst (λ p. Solves (codes "x") p (unified e.0 e.1)) problem_is e.2; left = left_is e.1; left_open = open_is e.0 e.1 [] e.3 },
      e.7 ∙ awaited_so e.1,
      e.8 ∙ result_so e.1,
      (
        known,
        within,
        e.9
            ∙ ap (λ l. map (stage_under (pairs_for known (made l e.0 e.1))) (map (stage_under e.1) (stages_read U W m.stages.items))) (before_is U V W there u m is adds)
            ∙ ap (λ l. map (stage_under (pairs_for known (made there e.0 e.1))) (map (stage_under e.1) l)) staged_later,
      ),
    ),
  )
