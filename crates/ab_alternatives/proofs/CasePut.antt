-- The case that is solved is that of the choice, as it reads.
use Rattle.std.specs.Prelude.{Contains}
use Rattle.std.specs.List.{All}
use Rattle.std.proofs.Common.{◌≡◌, ℕ, suc, ◌+◌, ◌<◌, ◌≤◌, List, [], ◌∷◌, ◌++◌, map, take, drop, length, codes, true, refl, sym, ◌∙◌, ap, subst, arith, length-append}
use Rattle.std.proofs.Math.Seq.{take-append_seam, drop-append_seam}
use Rattle.std.proofs.lemmas.List.{length-map, map-append}
use Rattle.std.proofs.lemmas.List.Elements.{All-nil, All-cons, All-head, All-tail, All-contains, All-weaker, All-append, All-take}
use Rattle.ab_term.specs.Terms as tree
use Rattle.ab_term.specs.Terms.{Nominal, Terms, Read}
use Rattle.ab_term.specs.Typing.{Signature, HasType}
use Rattle.ab_term.specs.Variables.{Substitution, IsTyped, image, image_all}
use Rattle.ab_term.specs.Sameness.{same_number}
use Rattle.ab_norm.specs.ab_types.specs.Entries.{Table}
use Rattle.ab_norm.specs.ab_store.specs.declared.node.CellId.{CellId}
use Rattle.ab_norm.specs.ab_store.specs.Trees.{Contents, HoldsCell}
use Rattle.ab_norm.specs.declared.nominal.Nominal.{Nominal as KeptNominal}
use Rattle.ab_unifiers.specs.Replacements.{Cell, holds}
use Rattle.ab_unifiers.specs.Unification.{Equation}
use Rattle.ab_unifiers.specs.Clauses.{Each, numbered, put_together, clause_variables, clause_names, name_term, filled}
use Rattle.ab_unifiers.specs.Alternatives.{cells_over, made_over, made_terms, cells_of, arguments_equal}
use Rattle.ab_unifiers.proofs.Covered.{names_typed}
use Rattle.ab_unifiers.proofs.Lifting.{OfCells, made_terms_typed}
use Rattle.ab_unifiers.proofs.Rows.{together_typed}
use Rattle.ab_unifiers.proofs.Variables.{Has, held_has, has_held}
use Rattle.ab_typing.specs.declared.definitions.ClauseTerm.{ClauseTerm}
use Rattle.ab_unify.specs.Problem.{cell_read, cells_read, variables_read, cells_at}
use Rattle.ab_unify.specs.StoreChanges.{Grows}
use Rattle.ab_norm.specs.ab_store.specs.Reading.{cell_variable}
use Rattle.ab_instances.proofs.Fitting.{variables_stay}
use Rattle.ab_formulas.specs.Formulas.{IsFormula}
use Rattle.ab_formulas.specs.Declarations.{IsDefining, signature_in}
use Rattle.ab_formulas.specs.Sequents.{Variable, Hypothesis, Sequent, formulas, formulas_of, in_terms, assuming}
use Rattle.ab_logic.specs.Worlds.{IsWorld, Holds, variable_of, declarations_of, read}
use Rattle.ab_logic.specs.SequentReadings.{sequent_of, hypothesis_of, HoldsSequent}
use Rattle.ab_logic.specs.declared.world.World.{World}
use Rattle.ab_logic.specs.declared.sequent.Sequent.{Sequent as Kept}
use Rattle.ab_logic.specs.declared.sequent.Hypothesis.{Hypothesis as KeptHypothesis}
use Rattle.ab_formulas.proofs.Images.{image_formula}
use Rattle.ab_formulas.specs.BodyMarks.{mark_below, marked_in}
use Rattle.ab_formulas.proofs.MarkedFormulas.{marked_formula, marked_variables}
use Rattle.ab_theory.specs.Equations.{changed}
use Rattle.ab_theory.specs.Splits.{Case}
use Rattle.ab_equations.specs.Meanwhile.{AreFrom, IsMeanwhile, count_before}
use Rattle.ab_equations.proofs.Going.{world_meanwhile}
use Rattle.ab_equations.proofs.Restored.{goal_same, goal_held, declarations_same}
use Rattle.ab_theory.specs.Atoms.{Defined, Choice}
use Rattle.ab_theory.specs.Analysis.{raised_variables, case_of}
use Rattle.ab_theory.specs.RaisedAlternatives.{raised_cells, raised_to, raised_terms}
use Rattle.ab_alternatives.specs.LeftAlternatives.{fresh_in, unchosen_in, base_in, own_in, filled_in, images_from, raising, goal_for, case_put, IsMade}
use Rattle.ab_alternatives.specs.AtomReadings.{defined_read, choice_read}
use Rattle.ab_alternatives.specs.declared.alternatives.Alternative.{Alternative}
use Rattle.ab_alternatives.specs.declared.atoms.DefinedAtom.{DefinedAtom}
use Rattle.ab_theory.proofs.AlternativesParts.{case_is}
use Rattle.ab_alternatives.proofs.Put.{in_terms_are, olds_are, below, renamed, put_same, both, images_are, equal_images, two_maps, raised_below}
use Rattle.ab_alternatives.proofs.Raised.{AreAt, are_at}
use Rattle.ab_formulas.proofs.Untouched as untouched

abbrev x : List ℕ
x = codes "x"

over_many : (n : ℕ) (ns : List Nominal) (cs : List (Cell (List ℕ))) → length (made_over x n ns cs) ≡ length (cells_over x ns cs)
over_many n ns [] = refl
over_many n ns (c ∷ cs) = ap suc (over_many (suc n) ns cs)

each_numbered : (sg : Signature) (n : ℕ) (cs : List (Cell (List ℕ))) (ts : List Read) → OfCells sg x cs ts → Each (λ y t. HasType sg [] t y.type) (numbered n cs) ts
each_numbered sg n [] [] e = tt
each_numbered sg n [] (t ∷ ts) e = absurd e
each_numbered sg n (c ∷ cs) [] e = absurd e
each_numbered sg n (c ∷ cs) (t ∷ ts) e = (e.0, each_numbered sg (suc n) cs ts e.1)

-- the last cells
pub are_from : (T : Table) (S : Contents) (n : ℕ) (post : List (Cell (List ℕ))) (cs : List CellId) → variables_read T S cs ≡ numbered n post → length S.cells ≡ n + length post → AreFrom S n cs
are_from T S n [] [] e l = sym (l ∙ omega arith)
are_from T S n (p ∷ post) [] e l = absurd (cc)
are_from T S n [] (c ∷ cs) e l = absurd (cc)
are_from T S n (p ∷ post) (c ∷ cs) e l =
    let first : cell_variable T S c ≡ record { name = n; type = p.type } = cc in
    let rest : variables_read T S cs ≡ numbered (suc n) post = cc in
    (ap (λ (v : tree.Variable ℕ). v.name) first, subst (λ m. AreFrom S m cs) (next n) (are_from T S (suc n) post cs rest (omega (arith, l))))
  where
    next : (n : ℕ) → suc n ≡ n + 1
    next n = omega arith

module _ (w v : World) (is : IsWorld w) (g : Grows w.types w.store v.types v.store) (additions : v.additions ≡ w.additions)
    (goal rest : Kept) (same : rest.variables ≡ goal.variables) (goal_there : HoldsSequent w goal) (rest_there : HoldsSequent w rest)
    (d : DefinedAtom) (clause : ClauseTerm) (ns : List KeptNominal) (alt : Alternative) (name : List ℕ)
    (defining : IsDefining (signature_in (declarations_of w)) (choice_read w clause ns).clause)
    (fit : map (λ a. a.type) (choice_read w clause ns).names ≡ map (λ z. z.type) (choice_read w clause ns).clause.names)
    (made : IsMade w.types w.store goal.variables (defined_read w d).block.predicates (defined_read w d).sign (defined_read w d).arguments (choice_read w clause ns) v.types v.store alt) where
  abbrev T : Table
  T = w.types

  abbrev S : Contents
  S = w.store

  abbrev c : Choice
  c = choice_read w clause ns

  abbrev D : Defined
  D = defined_read w d

  abbrev cells : List (Cell (List ℕ))
  cells = cells_read T S

  abbrev ys : List CellId
  ys = goal.variables

  abbrev olds : List (Cell (List ℕ))
  olds = cells_at T S ys

  abbrev fresh : List Nominal
  fresh = fresh_in D.arguments c

  abbrev unchosen : List Nominal
  unchosen = unchosen_in D.arguments c

  abbrev base : List (Cell (List ℕ))
  base = base_in cells olds D.arguments c

  abbrev own : List (Cell (List ℕ))
  own = own_in cells olds D.arguments c

  abbrev put : Substitution ℕ (List ℕ)
  put = filled_in cells olds D.arguments c

  abbrev over : Kept
  over = goal_for rest alt.raised.cells.items name alt.body

  abbrev s : Substitution ℕ (List ℕ)
  s = raising v.types v.store ys alt.raised

  abbrev zs : List (tree.Variable ℕ)
  zs = variables_read T S ys

  abbrev raised : Substitution ℕ (List ℕ)
  raised = put_together zs (raised_terms (length S.cells) fresh olds)

  meanwhile : IsMeanwhile w
  meanwhile = world_meanwhile w is

  -- numbers
  all_many : length v.store.cells ≡ length base + length own
  all_many = sym (length-map v.store.cells (cell_read v.types)) ∙ ap length made.cells ∙ length-append base own

  own_many : length alt.own.items ≡ length own
  own_many = sym (length-map alt.own.items _) ∙ ap length made.own ∙ over_many (length base) unchosen c.clause.variables

  pub before_is : count_before v alt.own.items ≡ length base
  before_is = omega (arith, all_many, own_many)

  base_long : length S.cells ≤ length base
  base_long = let a = length-append cells (raised_cells fresh olds) in let b = length-map S.cells (cell_read T) in omega (arith, a, b)

  low : (y : tree.Variable ℕ) → holds zs y ≡ true → y.name < length base
  low y h = let l = below T S ys goal_there.variables y h in omega (arith, l, base_long)

  -- what is put in
  put_is : s ≡ raised
  put_is = put_same v.types v.store fresh (length S.cells) olds ys zs alt.raised.terms.items made.raised.terms (length-map ys _) (variables_stay T v.types S v.store g is.typed ys goal_there.variables)

  abbrev sg : Signature
  sg = signature_in (declarations_of w)

  kept : (t : Read) → Has (λ z. holds (made_over x (length base) unchosen c.clause.variables) z ≡ true) t → image same_number raised t ≡ t
  kept = untouched.untouched sg c.clause defining.clause (length base) unchosen c.names fit zs low (raised_terms (length S.cells) fresh olds)

  equations_are : images_from v.types v.store s 0 alt.equations.items ≡ arguments_equal x 0 (image_all same_number raised D.arguments) (image_all same_number put c.clause.arguments)
  equations_are =
      images_are v.types v.store s 0 alt.equations.items
      ∙ ap (map (both s)) made.equations
      ∙ equal_images s 0 D.arguments (image_all same_number put c.clause.arguments)
      ∙ ap (λ q. arguments_equal x 0 (image_all same_number q D.arguments) (image_all same_number q (image_all same_number put c.clause.arguments))) put_is
      ∙ ap (arguments_equal x 0 (image_all same_number raised D.arguments))
      (untouched.all_untouched sg c.clause defining.clause (length base) unchosen c.names fit zs low (raised_terms (length S.cells) fresh olds) (image_all same_number put c.clause.arguments)
      (untouched.arguments_own sg c.clause defining.clause (length base) unchosen c.names fit))

  abbrev body : Read
  body = marked_in D.block.predicates (mark_below D.sign) (image same_number put c.clause.body)

  body_kept : image same_number raised body ≡ body
  body_kept = kept body (held_has (λ z. holds (made_over x (length base) unchosen c.clause.variables) z ≡ true) body
      (λ y h. has_held (λ z. holds (made_over x (length base) unchosen c.clause.variables) z ≡ true) (image same_number put c.clause.body)
      (untouched.body_own sg c.clause defining.clause (length base) unchosen c.names fit) y
      (subst (λ l. holds l y ≡ true) (marked_variables D.block.predicates (mark_below D.sign) (image same_number put c.clause.body)) h)))

  -- the goal
  goal_is : changed (image same_number s) (map (variable_of v) over.variables) (sequent_of v over)
      ≡ assuming name body (changed (image same_number raised) (raised_variables (map (variable_of w) ys) (raised_to (length S.cells) fresh zs olds)) (sequent_of w rest))
  goal_is =
      let f : Substitution ℕ (List ℕ) → Hypothesis → Hypothesis = λ q h. record { name = h.name; formula = image same_number q h.formula } in
      let again = goal_same w v meanwhile g additions rest rest_there in
      let build : List Variable → List Hypothesis → Read → Sequent = λ vs hs F. record { variables = vs; hypotheses = hs; conclusion = F; counter = rest.counter } in
      let vs0 = map (variable_of v) alt.raised.cells.items in
      let vs1 = raised_variables (map (variable_of w) ys) (raised_to (length S.cells) fresh zs olds) in
      let hs0 = map (f s) (map (hypothesis_of v) over.hypotheses) in
      let hs1 = map (f raised) (map (hypothesis_of w) rest.hypotheses) ++ record { name = name; formula = body } ∷ [] in
      let hs_are : hs0 ≡ hs1 =
      ap (λ q. map (f q) (map (hypothesis_of v) over.hypotheses)) put_is
      ∙ two_maps (f raised) (hypothesis_of v) rest.hypotheses (record { name = name; formula = alt.body })
      ∙ ap (λ (t : Sequent). map (f raised) t.hypotheses ++ record { name = name; formula = image same_number raised (read v alt.body) } ∷ []) again
      ∙ ap (λ F. map (f raised) (map (hypothesis_of w) rest.hypotheses) ++ record { name = name; formula = F } ∷ []) (ap (image same_number raised) made.body ∙ body_kept) in
      ap (λ l. build l hs0 (image same_number s (read v rest.conclusion))) (renamed w v alt.raised.cells.items ys (raised_to (length S.cells) fresh zs olds) made.raised.variables made.raised.hints)
      ∙ ap (λ l. build vs1 l (image same_number s (read v rest.conclusion))) hs_are
      ∙ ap (λ q. build vs1 hs1 (image same_number q (read v rest.conclusion))) put_is
      ∙ ap (λ (t : Sequent). build vs1 hs1 (image same_number raised t.conclusion)) again

  -- THE CASE by its parts
  abbrev parts_over : ℕ → List (tree.Variable ℕ) → List (Cell (List ℕ)) → List Variable → Case
  parts_over n us cs vs = record {
    before = cells ++ raised_cells fresh cs;
    own = own;
    equations = arguments_equal x 0 (image_all same_number (put_together us (raised_terms n fresh cs)) D.arguments)
        (image_all same_number (filled x c.clause (made_terms x (length (cells ++ raised_cells fresh cs)) unchosen c.clause.variables) c.names) c.clause.arguments);
    flexible = raised_to n fresh us cs ++ made_over x (length (cells ++ raised_cells fresh cs)) unchosen c.clause.variables;
    goal = assuming name (marked_in D.block.predicates (mark_below D.sign) (image same_number (filled x c.clause (made_terms x (length (cells ++ raised_cells fresh cs)) unchosen c.clause.variables) c.names) c.clause.body))
        (changed (image same_number (put_together us (raised_terms n fresh cs))) (raised_variables vs (raised_to n fresh us cs)) (sequent_of w rest));
  }

  here : case_put v ys alt over ≡ parts_over (length S.cells) zs olds (map (variable_of w) ys)
  here =
      let build : List (Cell (List ℕ)) → List (Cell (List ℕ)) → List (Equation (List ℕ)) → List (tree.Variable ℕ) → Sequent → Case = λ b o es fl q. record { before = b; own = o; equations = es; flexible = fl; goal = q } in
      let n = count_before v alt.own.items in
      let es0 = images_from v.types v.store s 0 alt.equations.items in
      let fl0 = variables_read v.types v.store (alt.raised.cells.items ++ alt.own.items) in
      let g0 = changed (image same_number s) (map (variable_of v) over.variables) (sequent_of v over) in
      let end = parts_over (length S.cells) zs olds (map (variable_of w) ys) in
      ap (λ l. build (take n l) (drop n l) es0 fl0 g0) made.cells
      ∙ ap (λ k. build (take k (base ++ own)) (drop k (base ++ own)) es0 fl0 g0) before_is
      ∙ ap (λ l. build l (drop (length base) (base ++ own)) es0 fl0 g0) (take-append_seam base own)
      ∙ ap (λ l. build base l es0 fl0 g0) (drop-append_seam base own)
      ∙ ap (λ l. build base own l fl0 g0) equations_are
      ∙ ap (λ l. build base own end.equations l g0) (map-append _ alt.raised.cells.items alt.own.items ∙ ap (λ l. l ++ variables_read v.types v.store alt.own.items) made.raised.variables
      ∙ ap (λ l. raised_to (length S.cells) fresh zs olds ++ l) made.own)
      ∙ ap (build base own end.equations end.flexible) goal_is

  pub put_case : case_put v ys alt over ≡ case_of (sequent_of w goal) (sequent_of w rest) name D c cells
  put_case =
      here
      ∙ ap (λ n. parts_over n zs olds (map (variable_of w) ys)) (sym (length-map S.cells (cell_read T)))
      ∙ ap (λ us. parts_over (length cells) us olds (map (variable_of w) ys)) (sym (in_terms_are w ys))
      ∙ ap (λ cs. parts_over (length cells) (map in_terms (map (variable_of w) ys)) cs (map (variable_of w) ys)) (olds_are w ys goal_there.variables)
      ∙ ap (λ l. parts_over (length cells) (map in_terms (map (variable_of w) ys)) (cells_of x cells (map in_terms (map (variable_of w) ys))) (map (variable_of w) l)) (sym same)
      ∙ sym (case_is (sequent_of w goal) (sequent_of w rest) name D c cells (length-map rest.variables (variable_of w) ∙ ap length same ∙ sym (length-map goal.variables (variable_of w))))

  -- WHAT SOLVING IT ASKS FOR

  pub over_held : HoldsSequent v over
  over_held =
      let there = goal_held w v meanwhile g additions rest rest_there in
      record {
        variables = made.raised.held;
        hypotheses = All-append (λ (h : KeptHypothesis). Holds v h.formula) rest.hypotheses (record { name = name; formula = alt.body } ∷ []) there.hypotheses
            (All-cons (λ (h : KeptHypothesis). Holds v h.formula) (record { name = name; formula = alt.body }) [] made.held (All-nil (λ (h : KeptHypothesis). Holds v h.formula)));
        conclusion = there.conclusion;
      }

  put_typed : IsTyped sg put
  put_typed = All-append (λ p. HasType sg [] p.1 p.0.type) (put_together (clause_variables c.clause) (made_terms x (length base) unchosen c.clause.variables)) (put_together (clause_names c.clause) (map (name_term x) c.names))
      (together_typed sg (clause_variables c.clause) (made_terms x (length base) unchosen c.clause.variables) (each_numbered sg 0 c.clause.variables (made_terms x (length base) unchosen c.clause.variables) (made_terms_typed sg x (length base) unchosen c.clause.variables)))
      (together_typed sg (clause_names c.clause) (map (name_term x) c.names) (names_typed sg x (length c.clause.variables) c.clause.names c.names fit))

  body_formula : IsFormula sg body
  body_formula = marked_formula sg D.block.predicates (mark_below D.sign) (image same_number put c.clause.body) (image_formula sg put put_typed c.clause.body defining.body)

  pub over_formulas : All (IsFormula sg) (formulas_of (sequent_of w rest)) → All (IsFormula (signature_in (declarations_of v))) (formulas_of (sequent_of v over))
  over_formulas all =
      let again = goal_same w v meanwhile g additions rest rest_there in
      let declared = declarations_same w v meanwhile g additions in
      subst (λ E. All (IsFormula (signature_in E)) (formulas_of (sequent_of v over))) (sym declared)
      (subst (λ F. All (IsFormula sg) (F ∷ formulas (map (hypothesis_of v) over.hypotheses))) (sym (ap (λ (t : Sequent). t.conclusion) again))
      (All-cons (IsFormula sg) (read w rest.conclusion) (formulas (map (hypothesis_of v) over.hypotheses)) (All-head (IsFormula sg) (read w rest.conclusion) (formulas (map (hypothesis_of w) rest.hypotheses)) all)
      (more rest.hypotheses (subst (λ (hs : List Hypothesis). All (IsFormula sg) (formulas hs)) (sym (ap (λ (t : Sequent). t.hypotheses) again)) (All-tail (IsFormula sg) (read w rest.conclusion) (formulas (map (hypothesis_of w) rest.hypotheses)) all)))))
    where
      more : (hs : List KeptHypothesis) → All (IsFormula sg) (formulas (map (hypothesis_of v) hs)) → All (IsFormula sg) (formulas (map (hypothesis_of v) (hs ++ record { name = name; formula = alt.body } ∷ [])))
      more [] a = All-cons (IsFormula sg) (read v alt.body) [] (subst (IsFormula sg) (sym made.body) body_formula) (All-nil (IsFormula sg))
      more (h ∷ hs) a = All-cons (IsFormula sg) (read v h.formula) (formulas (map (hypothesis_of v) (hs ++ record { name = name; formula = alt.body } ∷ []))) (All-head (IsFormula sg) (read v h.formula) (formulas (map (hypothesis_of v) hs)) a)
          (more hs (All-tail (IsFormula sg) (read v h.formula) (formulas (map (hypothesis_of v) hs)) a))

  own_at : AreAt v.types v.store (length base) own alt.own.items
  own_at = are_at v.types v.store (length base) base own alt.own.items refl made.cells made.own

  pub all_free : All (λ (c : CellId). HoldsCell v.store c × ¬ Contains (take (length alt.raised.terms.items) ys) c) (alt.raised.cells.items ++ alt.own.items)
  all_free = All-append (λ (c : CellId). HoldsCell v.store c × ¬ Contains (take (length alt.raised.terms.items) ys) c) alt.raised.cells.items alt.own.items
      (λ k d l. (made.raised.held k d l, made.raised.apart k d l))
      (λ k d l. (own_at.held k d l, late k d l))
    where
      late : All (λ (c : CellId). ¬ Contains (take (length alt.raised.terms.items) ys) c) alt.own.items
      late = All-weaker (λ (c : CellId). length base ≤ c.0) (λ (c : CellId). ¬ Contains (take (length alt.raised.terms.items) ys) c)
          (λ c late there.
          let early : c.0 < length S.cells = All-contains (HoldsCell S) (take (length alt.raised.terms.items) ys) c (All-take (HoldsCell S) (length alt.raised.terms.items) ys goal_there.variables) there in
          omega (arith, late, early, base_long))
          alt.own.items own_at.behind

  pub all_before : All (λ (c : CellId). c.0 < count_before v alt.own.items) alt.raised.cells.items
  all_before = subst (λ n. All (λ (c : CellId). c.0 < n) alt.raised.cells.items) (sym before_is) (raised_below T v.types S v.store fresh alt.raised.cells.items ys goal_there.variables made.raised.variables)

  pub own_last : AreFrom v.store (count_before v alt.own.items) alt.own.items
  own_last = subst (λ n. AreFrom v.store n alt.own.items) (sym before_is) (are_from v.types v.store (length base) own alt.own.items made.own all_many)
