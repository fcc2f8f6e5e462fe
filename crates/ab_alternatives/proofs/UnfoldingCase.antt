-- The case of a choice on the right, part by part, and as it is made on shared terms.
use Rattle.std.proofs.Common.{◌≡◌, ℕ, suc, ◌+◌, ◌-◌, List, [], ◌∷◌, ◌++◌, map, length, take, drop, codes, refl, sym, ◌∙◌, ap, subst, arith, length-append}
use Rattle.std.proofs.lemmas.List.{length-map}
use Rattle.std.proofs.Math.Seq.{take-append_seam, drop-append_seam}
use Rattle.ab_term.specs.Terms as tree
use Rattle.ab_term.specs.Terms.{Nominal, Terms, no_terms, term, Read}
use Rattle.ab_term.specs.Variables.{image, image_all}
use Rattle.ab_term.specs.Sameness.{same_number}
use Rattle.ab_norm.specs.ab_types.specs.Entries.{Table}
use Rattle.ab_norm.specs.ab_store.specs.declared.node.TermId.{TermId}
use Rattle.ab_norm.specs.ab_store.specs.declared.node.CellId.{CellId}
use Rattle.ab_norm.specs.ab_store.specs.declared.node.Equation.{Equation as Kept}
use Rattle.ab_norm.specs.ab_store.specs.Trees.{Contents, tree_of}
use Rattle.ab_norm.specs.ab_store.specs.Reading.{reading, cell_variable}
use Rattle.ab_norm.specs.ab_store.proofs.Growing.{unbound_reads}
use Rattle.ab_unifiers.specs.Replacements.{Cell}
use Rattle.ab_unifiers.specs.Unification.{Equation}
use Rattle.ab_unifiers.specs.Unifiers.{given}
use Rattle.ab_unifiers.proofs.Ruling.{image_none}
use Rattle.ab_unifiers.specs.Clauses.{numbered}
use Rattle.ab_unifiers.specs.Alternatives.{cells_over, made_over, arguments_equal}
use Rattle.ab_formulas.specs.Sequents.{Variable, Sequent, proving}
use Rattle.ab_unify.specs.Problem.{cell_read, cells_read, variables_read, equations_from, problem}
use Rattle.ab_theory.specs.Equations.{made}
use Rattle.ab_theory.specs.Splits.{Case, problem_of}
use Rattle.ab_equations.specs.Meanwhile.{AreFrom}
use Rattle.ab_formulas.specs.BodyMarks.{mark_above, marked_in}
use Rattle.ab_theory.specs.Atoms.{Defined, Choice}
use Rattle.ab_theory.specs.Unfolding.{unfolding_case, exists_all, nabla_all, closed_over, unfolded}
use Rattle.ab_alternatives.specs.LeftAlternatives.{unchosen_in, trees_from}
use Rattle.ab_alternatives.specs.RightAlternatives.{nabla_by, closed_by, put_into, IsOpened, Becomes}
use Rattle.ab_alternatives.specs.declared.clause_bodies.Unfolding.{Unfolding}

abbrev x : List ℕ
x = codes "x"

image_all_none : (ts : Terms ℕ (List ℕ)) → image_all same_number [] ts ≡ ts
image_all_none no_terms = refl
image_all_none (term t ts) = ap (λ u. term u (image_all same_number [] ts)) (image_none t) ∙ ap (term t) (image_all_none ts)

-- `nabla` by the hints of cells
nabla_so : (zs : List (Cell (List ℕ))) (ns : List Nominal) (F : Read) → nabla_by (map (λ z. z.hint) zs) ns F ≡ nabla_all zs ns F
nabla_so [] ns F = refl
nabla_so (z ∷ zs) [] F = refl
nabla_so (z ∷ zs) (a ∷ ns) F = ap (λ G. nabla_by (z.hint ∷ []) (a ∷ []) G) (nabla_so zs ns F)

pub closed_so : (ys : List Variable) (c : Choice) (F : Read) → closed_by ys (map (λ z. z.hint) c.clause.names) c.names F ≡ closed_over ys c F
closed_so [] c F = refl
closed_so (y ∷ ys) c F = ap (exists_all (y ∷ ys)) (nabla_so c.clause.names c.names F)

module _ (cells : List (Cell (List ℕ))) (s : Sequent) (d : Defined) (c : Choice) where
  abbrev own : List (Cell (List ℕ))
  own = cells_over x (unchosen_in d.arguments c) c.clause.variables

  abbrev made_with : List (Cell (List ℕ)) → List (Equation (List ℕ)) → Case
  made_with l es = record {
    before = cells;
    own = l;
    equations = es;
    flexible = made_over x (length cells) (unchosen_in d.arguments c) c.clause.variables;
    goal = proving (marked_in d.block.predicates (mark_above d.sign) (image same_number (put_into (length cells) d.arguments c) c.clause.body)) s;
  }

  -- THE PARTS
  abbrev pub parts : Case
  parts = made_with own (arguments_equal x 0 d.arguments (image_all same_number (put_into (length cells) d.arguments c) c.clause.arguments))

  pub case_is : unfolding_case cells s d c ≡ parts
  case_is =
      ap (λ ts. made_with (drop (length cells) (cells ++ own)) (arguments_equal x 0 ts (image_all same_number (put_into (length cells) d.arguments c) c.clause.arguments))) (image_all_none d.arguments)
      ∙ ap (λ l. made_with l parts.equations) (drop-append_seam cells own)

-- equations where no cell is bound
pub unbound_equations : (T : Table) (S : Contents) → S.bindings ≡ [] → (k : ℕ) (es : List Kept) → equations_from T S k es ≡ trees_from T S k es
unbound_equations T S none k [] = refl
unbound_equations T S none k (e ∷ es) =
    ap (λ l. record { place = k; left = l; right = reading T S e.right } ∷ equations_from T S (k + 1) es) (unbound_reads S none T e.left)
    ∙ ap (λ r. record { place = k; left = tree_of T S e.left; right = r } ∷ equations_from T S (k + 1) es) (unbound_reads S none T e.right)
    ∙ ap (λ l. record { place = k; left = tree_of T S e.left; right = tree_of T S e.right } ∷ l) (unbound_equations T S none (k + 1) es)

pub numbered_length : (n : ℕ) (cs : List (Cell (List ℕ))) → length (numbered n cs) ≡ length cs
numbered_length n [] = refl
numbered_length n (c ∷ cs) = ap suc (numbered_length (suc n) cs)

pub numbered_from : (T : Table) (S : Contents) (n : ℕ) (post : List (Cell (List ℕ))) (cs : List CellId) → variables_read T S cs ≡ numbered n post → length S.cells ≡ n + length post → AreFrom S n cs
numbered_from T S n [] [] e l = omega (arith, l)
numbered_from T S n (p ∷ post) [] e l = absurd (cc)
numbered_from T S n [] (c ∷ cs) e l = absurd (cc)
numbered_from T S n (p ∷ post) (c ∷ cs) e l =
    let first : cell_variable T S c ≡ record { name = n; type = p.type } = cc in
    let rest : variables_read T S cs ≡ numbered (suc n) post = cc in
    let next : suc n ≡ n + 1 = omega arith in
    (ap (λ (y : tree.Variable ℕ). y.name) first, subst (λ k. AreFrom S k cs) next (numbered_from T S (suc n) post cs rest (omega (arith, l))))

-- what is made on shared terms is that case
module _ (T U : Table) (S V : Contents) (s : Sequent) (d : Defined) (c : Choice) (made_one : Unfolding) (o : IsOpened T S d.block.predicates d.sign d.arguments c U V made_one) (none : V.bindings ≡ []) where
  abbrev there : List (Cell (List ℕ))
  there = cells_read T S

  abbrev own_cells : List (Cell (List ℕ))
  own_cells = own there s d c

  count : length S.cells ≡ length there
  count = sym (length-map S.cells (cell_read T))

  pub problem_is : problem U V made_one.equations.items made_one.own.items ≡ problem_of (unfolding_case there s d c)
  problem_is =
      ap (λ es. given es (cells_read U V) (variables_read U V made_one.own.items)) (unbound_equations U V none 0 made_one.equations.items ∙ o.equations
      ∙ ap (λ n. arguments_equal x 0 d.arguments (image_all same_number (put_into n d.arguments c) c.clause.arguments)) count)
      ∙ ap (λ cs. given (parts there s d c).equations cs (variables_read U V made_one.own.items)) o.cells
      ∙ ap (given (parts there s d c).equations (there ++ own_cells)) (o.own ∙ ap (λ n. made_over x n (unchosen_in d.arguments c) c.clause.variables) count)
      ∙ ap problem_of (sym (case_is there s d c))

  own_count : length made_one.own.items ≡ length own_cells
  own_count = sym (length-map made_one.own.items (cell_variable U V)) ∙ ap length o.own ∙ numbered_length (length S.cells) own_cells

  -- its own cells are the last ones
  pub own_from : AreFrom V (length V.cells - length made_one.own.items) made_one.own.items
  own_from =
      let whole = sym (length-map V.cells (cell_read U)) ∙ ap length o.cells ∙ length-append there own_cells in
      let own_many = own_count in
      let many = count in
      let n_is : length S.cells ≡ length V.cells - length made_one.own.items = omega (arith, whole, own_many, many) in
      subst (λ n. AreFrom V n made_one.own.items) n_is (numbered_from U V (length S.cells) own_cells made_one.own.items o.own (omega (arith, whole, many)))

  -- and the others are those that were there
  pub before_is : take (length V.cells - length made_one.own.items) (cells_read U V) ≡ there
  before_is =
      let whole = sym (length-map V.cells (cell_read U)) ∙ ap length o.cells ∙ length-append there own_cells in
      let own_many = own_count in
      let n_is : length V.cells - length made_one.own.items ≡ length there = omega (arith, whole, own_many) in
      ap (λ l. take (length V.cells - length made_one.own.items) l) o.cells ∙ ap (λ n. take n (there ++ own_cells)) n_is ∙ take-append_seam there own_cells

  -- AND SO IS ITS CONCLUSION
  pub conclusion_is : (W : Table) (X : Contents) (r : TermId) (xs : List (List ℕ)) (ns : List Nominal) → xs ≡ map (λ z. z.hint) c.clause.names → ns ≡ c.names → (b : Becomes U V made_one xs ns W X r)
      → tree_of W X r ≡ unfolded (unfolding_case there s d c) c b.0 b.1
  conclusion_is W X r xs ns xs_is ns_is b =
      let F = image same_number b.1 (tree_of U V made_one.body) in
      b.3
      ∙ ap (λ l. closed_by (made l b.0 b.1) xs ns F) before_is
      ∙ ap (λ l. closed_by (made there b.0 b.1) l ns F) xs_is
      ∙ ap (λ l. closed_by (made there b.0 b.1) (map (λ z. z.hint) c.clause.names) l F) ns_is
      ∙ closed_so (made there b.0 b.1) c F
      ∙ ap (λ G. closed_over (made there b.0 b.1) c (image same_number b.1 G)) (o.body ∙ ap (λ n. marked_in d.block.predicates (mark_above d.sign) (image same_number (put_into n d.arguments c) c.clause.body)) count)
      ∙ ap (λ u. unfolded u c b.0 b.1) (sym (case_is there s d c))
