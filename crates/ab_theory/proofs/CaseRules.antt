-- Each case into which an analysed atom splits a goal is well made: its formulas and its equations are over its
-- variables, and each nominal number has one type throughout.
use Rattle.std.proofs.Common.{◌≡◌, ◌≢◌, ℕ, ◌-◌, List, [], ◌∷◌, ◌++◌, map, take, drop, length, codes, refl, sym, ◌∙◌, ap, subst, arith, append-nil, append_assoc, length-append}
use Rattle.std.specs.Prelude.{All, AllPairs, Contains}
use Rattle.std.proofs.lemmas.List.{length-map}
use Rattle.std.proofs.Math.Seq.{take-append_seam, drop-append_seam}
use Rattle.std.proofs.lemmas.List.Elements.{All-nil, All-head, All-tail, All-cons, All-map, All-push, All-weaker, All-contains, All-append, All-get_or, Contains-append_left, Contains-append_right}
use Rattle.std.proofs.lemmas.List.Quantifiers.{all_pairs_push}
use Rattle.ab_term.specs.Types.{prop}
use Rattle.ab_term.specs.Terms as tree
use Rattle.ab_term.specs.Terms.{Nominal, constant, spine, Terms, Read}
use Rattle.ab_term.specs.Typing.{Signature, HasType}
use Rattle.ab_term.specs.Names.{support, support_of_all}
use Rattle.ab_term.specs.Variables.{Substitution, image, image_all}
use Rattle.ab_term.specs.Sameness.{same_number}
use Rattle.ab_term.proofs.Lists.{All-from_contains, AllPairs-map}
use Rattle.ab_unifiers.specs.Replacements.{Cell}
use Rattle.ab_unifiers.specs.Unification.{Equation}
use Rattle.ab_unifiers.specs.Unifiers.{AreTyped}
use Rattle.ab_unifiers.specs.Clauses.{Clause, Each, numbered, put_together, filled}
use Rattle.ab_unifiers.specs.Choices.{in_order, outside, choices}
use Rattle.ab_unifiers.specs.Alternatives.{Scope, Alternative, on_left, cells_over, cells_of, made_over, made_terms, arguments_equal, alternative_with, analysed, alternative}
use Rattle.ab_unifiers.proofs.Answered.{is_problem}
use Rattle.ab_unifiers.proofs.Choosing.{contains_ordered, outside_contains}
use Rattle.ab_unifiers.proofs.Left.{own_typed}
use Rattle.ab_unifiers.proofs.Lifting.{made_terms_typed}
use Rattle.ab_unifiers.proofs.Matching.{choice_right}
use Rattle.ab_unifiers.proofs.Rows.{together_typed}
use Rattle.ab_formulas.specs.Formulas.{IsFormula, HasOneTypeEach}
use Rattle.ab_formulas.specs.Declarations.{Declarations, signature_in, IsDefining}
use Rattle.ab_formulas.specs.Marks.{Sign}
use Rattle.ab_formulas.specs.Sequents.{Variable, Hypothesis, Sequent, formulas, formulas_of, goal_names, HoldsOnly, IsUsed, IsSequent, assuming, in_terms}
use Rattle.ab_theory.specs.Equations.{AreCells, Naming, changed, variables_from}
use Rattle.ab_theory.specs.Splits.{Case, CaseOver, IsCase, Split, done, never, arises}
use Rattle.ab_theory.proofs.Carried.{arising_is_sequent}
use Rattle.ab_formulas.specs.NewNames.{IsNoVariable}
use Rattle.ab_formulas.specs.BodyMarks.{marked_in}
use Rattle.ab_theory.specs.Analysis.{raised_variables, raised_goal}
use Rattle.ab_theory.proofs.RulesParts.{MayStand}
use Rattle.ab_theory.proofs.Sequents.{IsGoal, all_formulas, names_within, unused}
use Rattle.ab_theory.proofs.Marked.{marked_may}
use Rattle.ab_formulas.proofs.OneType.{fewer, choice_one_type}
use Rattle.ab_theory.proofs.Putting.{IsPut, put_may, nothing_put, together_put, made_good, own, own_within, old_within, body_may, sides_closed}
use Rattle.ab_theory.proofs.Raised.{AreThere, known_there, new_variables, raised_same, raised_new, new_in_terms, new_cells, new_there, new_numbers, new_names}

abbrev Cells : Type 0
Cells = List (Cell (List ℕ))

-- the case is well made, over these variables and others behind them
abbrev pub IsBehind : Declarations → Cells → Case → Type 0
IsBehind D cells c = (more : Cells) × (c.before ≡ cells ++ more) × IsCase D c

rekeyed : (Q : Read → Type 0) (cells : Cells) (n : ℕ) (V : List (tree.Variable ℕ)) (ts : List Read) → Each (λ y t. Q t) (numbered n (cells_of (codes "x") cells V)) ts → Each (λ y t. Q t) V ts
rekeyed Q cells n [] [] e = tt
rekeyed Q cells n [] (t ∷ ts) e = absurd e
rekeyed Q cells n (y ∷ V) [] e = absurd e
rekeyed Q cells n (y ∷ V) (t ∷ ts) e = (e.0, rekeyed Q cells _ V ts e.1)

module _ (D : Declarations) (t : Sequent) (N : List Nominal) (goal : IsGoal D N t) (one : HasOneTypeEach N) (cells : Cells) (are : AreCells cells t)
    (p : List ℕ) (ts : Terms ℕ (List ℕ)) (atom_typed : HasType (signature_in D) [] (spine (constant p) ts) prop) (atom_closed : HoldsOnly t.variables (spine (constant p) ts)) (held : (a : Nominal) → Contains (support_of_all ts) a → Contains N a)
    (c : Clause (List ℕ)) (well : IsDefining (signature_in D) c) (of_it : c.predicate ≡ p) (ns : List Nominal) (is_choice : Contains (choices (map (λ z. z.type) c.names) (in_order (support_of_all ts)) N) ns)
    (L : List ℕ) (new : ¬ (IsUsed t L)) (ps : List (List ℕ)) (m : Sign) where
  abbrev sg : Signature
  sg = signature_in D

  abbrev xs : List Variable
  xs = t.variables

  abbrev scope : Scope (List ℕ)
  scope = record { cells = cells; variables = map in_terms xs; constants = N }

  ordered_held : (a : Nominal) → Contains (in_order (support_of_all ts)) a → Contains N a
  ordered_held a i = held a (contains_ordered (support_of_all ts) a i)

  types : map (λ a. a.type) ns ≡ map (λ z. z.type) c.names
  types = (choice_right (map (λ z. z.type) c.names) (in_order (support_of_all ts)) N ordered_held ns is_choice).0

  clause_typed : HasType sg [] (spine (constant c.predicate) ts) prop
  clause_typed = subst (λ q. HasType sg [] (spine (constant q) ts) prop) (sym of_it) atom_typed

  one_each : HasOneTypeEach (ns ++ N)
  one_each = choice_one_type (map (λ z. z.type) c.names) (in_order (support_of_all ts)) N ns ordered_held one is_choice

  -- the case of an alternative
  abbrev pub case_with : Alternative (List ℕ) → Case
  case_with alt = record {
    before = take (length alt.cells - length c.variables) alt.cells;
    own = drop (length alt.cells - length c.variables) alt.cells;
    equations = alt.equations;
    flexible = alt.flexible;
    goal = assuming L (marked_in ps m alt.body) (raised_goal alt t);
  }

  abbrev unchosen : List Nominal
  unchosen = outside (in_order (support_of_all ts)) ns

  abbrev put_over : ℕ → Substitution ℕ (List ℕ)
  put_over n = filled (codes "x") c (made_terms (codes "x") n unchosen c.variables) ns

  -- over these cells, and these variables in the place of the goal's
  module _ (all : Cells) (zs : List Variable) (raised : Substitution ℕ (List ℕ)) (fresh : List Nominal) where
    abbrev own_cells : Cells
    own_cells = cells_over (codes "x") unchosen c.variables

    abbrev Z : List Variable
    Z = zs ++ variables_from (length all) own_cells

    abbrev M : List Nominal
    M = ns ++ N

    abbrev equations : List (Equation (List ℕ))
    equations = arguments_equal (codes "x") 0 (image_all same_number raised ts) (image_all same_number (put_over (length all)) c.arguments)

    abbrev body : Read
    body = marked_in ps m (image same_number (put_over (length all)) c.body)

    abbrev change : Hypothesis → Hypothesis
    change h = record { name = h.name; formula = image same_number raised h.formula }

    abbrev goal_there : List Variable → Sequent
    goal_there vs = assuming L body (changed (image same_number raised) vs t)

    module _ (there : AreThere all zs) (numbers : AllPairs (λ (x y : Variable). x.number ≢ y.number) zs) (names : AllPairs (λ (x y : Variable). x.name ≢ y.name) zs)
        (put_in : IsPut sg Z M (Contains (map in_terms xs)) raised) (typed : AreTyped sg equations) where
      abbrev May : Read → Type 0
      May = MayStand sg Z M

      old_may : (F : Read) → MayStand sg xs N F → May (image same_number raised F)
      old_may F may = put_may sg Z M (Contains (map in_terms xs)) raised put_in F may.formula may.closed (λ a k. Contains-append_right ns N a (may.names a k))

      body_there : May body
      body_there = marked_may sg Z M ps m (image same_number (put_over (length all)) c.body) (body_may sg xs zs N all ts c well ns types held)

      hypotheses_may : All (λ (h : Hypothesis). May h.formula) (map change t.hypotheses ++ record { name = L; formula = body } ∷ [])
      hypotheses_may =
          All-push (λ (h : Hypothesis). May h.formula) (map change t.hypotheses) (record { name = L; formula = body })
          (All-map (λ (h : Hypothesis). May h.formula) change t.hypotheses (All-weaker (λ (h : Hypothesis). MayStand sg xs N h.formula) (λ (h : Hypothesis). May (change h).formula) (λ h may. old_may h.formula may) t.hypotheses goal.hypotheses))
          body_there

      all_may : All May (formulas_of (goal_there zs))
      all_may =
          All-cons May (image same_number raised t.conclusion) (formulas (map change t.hypotheses ++ record { name = L; formula = body } ∷ [])) (old_may t.conclusion goal.conclusion)
          (all_formulas May (map change t.hypotheses ++ record { name = L; formula = body } ∷ []) hypotheses_may)

      labels : AllPairs (λ (h k : Hypothesis). h.name ≢ k.name) (map change t.hypotheses ++ record { name = L; formula = body } ∷ [])
      labels =
          let apart : All (λ (h : Hypothesis). h.name ≢ L) (map change t.hypotheses) = All-map (λ (h : Hypothesis). h.name ≢ L) change t.hypotheses (unused t.hypotheses L new) in
          all_pairs_push (λ (h k : Hypothesis). h.name ≢ k.name) (map change t.hypotheses) (record { name = L; formula = body })
          (AllPairs-map change (λ (h k : Hypothesis). h.name ≢ k.name) t.hypotheses goal.labels_differ)
          (λ k d l. All-get_or (λ (h : Hypothesis). h.name ≢ L) (map change t.hypotheses) k d l apart)

      abbrev flexible : List (tree.Variable ℕ)
      flexible = map in_terms zs ++ made_over (codes "x") (length all) unchosen c.variables

      abbrev case_over : Cells → Cells → List Variable → Case
      case_over before own vs = record { before = before; own = own; equations = equations; flexible = flexible; goal = goal_there vs }

      is_case : IsCase D (case_over all own_cells zs)
      is_case = record {
        cells = there;
        formulas = All-weaker May (IsFormula sg) (λ F may. may.formula) (formulas_of (goal_there zs)) all_may;
        closed = All-weaker May (HoldsOnly Z) (λ F may. may.closed) (formulas_of (goal_there zs)) all_may;
        numbers_differ = numbers;
        names_differ = names;
        labels_differ = labels;
        one_type = fewer (goal_names (goal_there zs)) M (names_within M (formulas_of (goal_there zs)) (λ F k. (All-contains May (formulas_of (goal_there zs)) F all_may k).names)) one_each;
        typed = typed;
        over = sides_closed sg xs zs N all ts c well ns types held raised put_in atom_closed;
        flexible =
            All-append (Contains (map in_terms Z)) (map in_terms zs) (made_over (codes "x") (length all) unchosen c.variables)
            (All-from_contains (Contains (map in_terms Z)) (map in_terms zs) (λ y k. old_within sg xs zs N all ts c well ns types held y k))
            (All-from_contains (Contains (map in_terms Z)) (made_over (codes "x") (length all) unchosen c.variables) (λ y k. own_within sg xs zs N all ts c well ns types held y k));
      }

      -- the cells of the alternative are these, and then the case's own
      many : length (all ++ own_cells) - length c.variables ≡ length all
      many =
          let long = length-append all own_cells in
          let same : length own_cells ≡ length c.variables = length-map c.variables _ in
          omega (arith, long, same)

      pub is_behind : (raised_variables xs flexible ≡ zs) → (more : Cells) → all ≡ cells ++ more
          → IsBehind D cells (case_over (take (length (all ++ own_cells) - length c.variables) (all ++ own_cells)) (drop (length (all ++ own_cells) - length c.variables) (all ++ own_cells)) (raised_variables xs flexible))
      is_behind variables more e =
          let front : take (length (all ++ own_cells) - length c.variables) (all ++ own_cells) ≡ all = ap (λ n. take n (all ++ own_cells)) many ∙ take-append_seam all own_cells in
          let back : drop (length (all ++ own_cells) - length c.variables) (all ++ own_cells) ≡ own_cells = ap (λ n. drop n (all ++ own_cells)) many ∙ drop-append_seam all own_cells in (
            more,
            front ∙ e,
            subst (λ b. IsCase D (case_over b (drop (length (all ++ own_cells) - length c.variables) (all ++ own_cells)) (raised_variables xs flexible))) (sym front)
                (subst (λ w. IsCase D (case_over all w (raised_variables xs flexible))) (sym back) (subst (λ vs. IsCase D (case_over all own_cells vs)) (sym variables) is_case)),
          )

  typed_by : (fresh : List Nominal) → outside ns (in_order (support_of_all ts)) ≡ fresh → AreTyped sg (analysed (codes "x") scope ts c ns fresh).equations
  typed_by fresh e = subst (λ f. AreTyped sg (analysed (codes "x") scope ts c ns f).equations) e (is_problem sg (codes "x") c well.clause ts clause_typed ns types scope (known_there cells xs are) on_left).0

  by_fresh : (fresh : List Nominal) → outside ns (in_order (support_of_all ts)) ≡ fresh → IsBehind D cells (case_with (analysed (codes "x") scope ts c ns fresh))
  by_fresh [] e =
      is_behind cells xs [] [] are goal.numbers_differ goal.names_differ
      (nothing_put sg (xs ++ variables_from (length cells) (cells_over (codes "x") unchosen c.variables)) (ns ++ N) (Contains (map in_terms xs)) (λ y k. old_within sg xs xs N cells ts c well ns types held y k))
      (typed_by [] e) (raised_same xs (made_over (codes "x") (length cells) unchosen c.variables)) [] (sym (append-nil cells))
  by_fresh (a ∷ bs) e =
      let fresh : List Nominal = a ∷ bs in
      let V : List (tree.Variable ℕ) = map in_terms xs in
      let old : Cells = cells_of (codes "x") cells V in
      let raised_cells : Cells = cells_over (codes "x") fresh old in
      let terms : List Read = made_terms (codes "x") (length cells) fresh old in
      let zs : List Variable = new_variables fresh (length cells) xs in
      let all : Cells = cells ++ raised_cells in
      let Zs : List Variable = zs ++ variables_from (length all) (cells_over (codes "x") unchosen c.variables) in
      let there : AreThere all zs = subst (λ l. AreThere (cells ++ l) zs) (sym (new_cells fresh cells (length cells) xs are)) (new_there fresh cells (length cells) xs refl) in
      let as_made : map in_terms zs ≡ made_over (codes "x") (length cells) fresh old = new_in_terms fresh cells (length cells) xs in
      let good = made_good sg Zs (ns ++ N) 0 (length cells) fresh old
      (λ z k. old_within sg xs zs N all ts c well ns types held z (subst (λ l. Contains l z) (sym as_made) k))
      (λ b k. Contains-append_left ns N b (outside_contains ns (in_order (support_of_all ts)) b (subst (λ l. Contains l b) (sym e) k)).0) in
      let put_in : IsPut sg Zs (ns ++ N) (Contains V) (put_together V terms) =
      together_put sg Zs (ns ++ N) V terms (together_typed sg V terms (own_typed sg (codes "x") cells V terms (made_terms_typed sg (codes "x") (length cells) fresh old)))
      (rekeyed (λ v. HoldsOnly Zs v × ((b : Nominal) → Contains (support v) b → Contains (ns ++ N) b)) cells 0 V terms good) in
      let behind = is_behind all zs (put_together V terms) fresh there (new_numbers fresh (length cells) xs) (new_names fresh (length cells) xs goal.names_differ) put_in (typed_by fresh e) in
      let made : List (tree.Variable ℕ) = made_over (codes "x") (length all) unchosen c.variables in
      subst (λ (olds : List (tree.Variable ℕ)). IsBehind D cells (case_with (alternative_with (codes "x") scope ts c ns fresh all olds (put_together V terms)))) as_made
      (behind (ap (λ (l : List (tree.Variable ℕ)). raised_variables xs (l ++ made)) as_made ∙ raised_new fresh cells (length cells) xs made) raised_cells refl)

  -- THE CASE IS WELL MADE
  pub case_is_behind : IsBehind D cells (case_with (alternative (codes "x") scope ts c ns on_left))
  case_is_behind = by_fresh (outside ns (in_order (support_of_all ts))) refl

-- cases that are well made whatever variables are made until then
abbrev pub AreBehind : Declarations → Cells → List CaseOver → Type 0
AreBehind D cells cs = All (λ (c : CaseOver). (more : Cells) → IsBehind D (cells ++ more) (c (cells ++ more))) cs

-- THE GOALS OF SUCH CASES ARE SEQUENTS
pub split_sequents : (D : Declarations) (IsName : Naming) → ((s : Sequent) (hint name : List ℕ) → IsName s hint name → IsNoVariable s name) → (cells : Cells) (cs : List CaseOver) (gs : List Sequent)
    → AreBehind D cells cs → Split IsName cells cs gs → All (IsSequent D) gs
split_sequents D IsName new cells [] [] all done = All-nil (IsSequent D)
split_sequents D IsName new cells [] (g ∷ gs) all s = elim s [ ]
split_sequents D IsName new cells (c ∷ cs) gs all (never n rest) = split_sequents D IsName new cells cs gs (All-tail (λ (k : CaseOver). (more : Cells) → IsBehind D (cells ++ more) (k (cells ++ more))) c cs all) rest
split_sequents D IsName new cells (c ∷ cs) (g ∷ gs) all (arises {after = after} a rest) =
    let Well : Cells → CaseOver → Type 0 = λ front k. (more : Cells) → IsBehind D (front ++ more) (k (front ++ more)) in
    let well : IsBehind D cells (c cells) = subst (λ (l : Cells). IsBehind D l (c l)) (append-nil cells) (All-head (Well cells) c cs all []) in
    let r = arising_is_sequent D IsName new (c cells) well.2 after g a in
    let more : Cells = well.0 ++ ((c cells).own ++ r.2.0) in
    let grown : after ≡ cells ++ more =
    r.2.1 ∙ append_assoc (c cells).before (c cells).own r.2.0 ∙ ap (λ (l : Cells). l ++ ((c cells).own ++ r.2.0)) well.1 ∙ append_assoc cells well.0 ((c cells).own ++ r.2.0) in
    All-cons (IsSequent D) g gs r.0
    (split_sequents D IsName new after cs gs
    (subst (λ (l : Cells). AreBehind D l cs) (sym grown)
    (All-weaker (Well cells) (Well (cells ++ more)) (λ k w other. subst (λ (l : Cells). IsBehind D l (k l)) (sym (append_assoc cells more other)) (w (more ++ other))) cs (All-tail (Well cells) c cs all))) rest)
