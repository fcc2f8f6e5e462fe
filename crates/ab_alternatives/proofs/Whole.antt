-- An alternative is what it should be, once its instance is made and its body marked.
use Rattle.std.specs.List.{All}
use Rattle.std.proofs.Common.{◌≡◌, ℕ, List, [], ◌++◌, map, length, codes, refl, sym, ◌∙◌, ap, subst}
use Rattle.std.proofs.lemmas.List.{length-map}
use Rattle.ab_term.specs.Types.{Ty, prop}
use Rattle.ab_term.specs.Terms.{Nominal}
use Rattle.ab_term.specs.Variables.{image, image_all, Substitution}
use Rattle.ab_term.specs.Sameness.{same_number}
use Rattle.ab_norm.specs.ab_types.specs.Entries.{Table}
use Rattle.ab_norm.specs.ab_types.specs.declared.ids.ConstId.{ConstId}
use Rattle.ab_norm.specs.ab_store.specs.declared.node.TermId.{TermId}
use Rattle.ab_norm.specs.ab_store.specs.declared.node.CellId.{CellId}
use Rattle.ab_norm.specs.ab_store.specs.Trees.{Contents, Holds, tree_of}
use Rattle.ab_norm.specs.ab_store.specs.Naming.{IsTypedBy}
use Rattle.ab_norm.specs.NodeGrowth.{AddsTypedTerms}
use Rattle.ab_norm.specs.TypedArguments.{AreTaken}
use Rattle.ab_unifiers.specs.Replacements.{Cell}
use Rattle.ab_unify.specs.UnifyAnswers.{IsTypedPair}
use Rattle.ab_unifiers.specs.Clauses.{Clause, filled}
use Rattle.ab_unifiers.specs.Alternatives.{cells_over, made_over, made_terms, arguments_equal}
use Rattle.ab_typing.specs.DefinitionReadings.{name_of}
use Rattle.ab_formulas.specs.Marks.{Sign}
use Rattle.ab_formulas.specs.BodyMarks.{mark_below, marked_in}
use Rattle.ab_unify.specs.Problem.{cell_read, cells_read, variables_read, cells_at}
use Rattle.ab_unify.specs.StoreChanges.{Grows}
use Rattle.ab_unify.proofs.Growth.{grows_on, grows_terms}
use Rattle.ab_instances.specs.ListReadings.{given_at}
use Rattle.ab_instances.specs.declared.raised_variables.Over.{Over}
use Rattle.ab_theory.specs.Atoms.{Choice}
use Rattle.ab_theory.specs.RaisedAlternatives.{raised_cells}
use Rattle.ab_alternatives.specs.LeftAlternatives.{equate, trees_from, fresh_in, unchosen_in, base_in, own_in, filled_in, IsRaised}
use Rattle.ab_alternatives.proofs.Raised.{raised_on}
use Rattle.ab_alternatives.proofs.Assembled.{equate_trees, equate_typed, given_stays, still_held, names_same, taken_on, cells_same, variables_same}

abbrev x : List ℕ
x = codes "x"

abbrev put_with : ℕ → List Nominal → List Nominal → Clause (List ℕ) → Substitution ℕ (List ℕ)
put_with n us ns c = filled x c (made_terms x n us c.variables) ns

module _ (T0 T1 T2 : Table) (S0 S1 S2 S3 : Contents) (g1 : Grows T0 S0 T1 S1) (g2 : Grows T1 S1 T2 S2) (adds : AddsTypedTerms T2 S2 S3) where
  pub g02 : Grows T0 S0 T2 S2
  g02 = grows_on T0 T1 T2 S0 S1 S2 g1 g2

  pub g23 : Grows T2 S2 T2 S3
  g23 = grows_terms T2 S2 S3 adds

  pub g03 : Grows T0 S0 T2 S3
  g03 = grows_on T0 T2 T2 S0 S2 S3 g02 g23

  module _ (ys : List CellId) (ts us : List TermId) (held : All (Holds S0) ts) (made_held : All (Holds S2) us) (c c1 : Clause (List ℕ)) (ns ns1 fresh unchosen : List Nominal)
      (same_c : c1 ≡ c) (same_ns : ns1 ≡ ns)
      (is_fresh : fresh ≡ fresh_in (given_at T0 S0 ts) (record { clause = c; names = ns }))
      (is_unchosen : unchosen ≡ unchosen_in (given_at T0 S0 ts) (record { clause = c; names = ns }))
      (first : cells_read T1 S1 ≡ cells_read T0 S0 ++ raised_cells fresh (cells_at T0 S0 ys)) where
    abbrev ch : Choice
    ch = record { clause = c; names = ns }

    abbrev base : List (Cell (List ℕ))
    base = base_in (cells_read T0 S0) (cells_at T0 S0 ys) (given_at T0 S0 ts) ch

    base_is : cells_read T1 S1 ≡ base
    base_is = first ∙ ap (λ l. cells_read T0 S0 ++ raised_cells l (cells_at T0 S0 ys)) is_fresh

    many : length S1.cells ≡ length base
    many = sym (length-map S1.cells (cell_read T1)) ∙ ap length base_is

    put_same : put_with (length S1.cells) unchosen ns1 c1 ≡ put_with (length base) (unchosen_in (given_at T0 S0 ts) ch) ns c
    put_same = ap (λ n. put_with n unchosen ns1 c1) many ∙ ap (λ l. put_with (length base) l ns1 c1) is_unchosen ∙ ap (λ l. put_with (length base) (unchosen_in (given_at T0 S0 ts) ch) l c1) same_ns
        ∙ ap (λ d. put_with (length base) (unchosen_in (given_at T0 S0 ts) ch) ns d) same_c

    pub cells_are : cells_read T2 S2 ≡ cells_read T1 S1 ++ cells_over x unchosen c1.variables
        → cells_read T2 S3 ≡ base ++ own_in (cells_read T0 S0) (cells_at T0 S0 ys) (given_at T0 S0 ts) ch
    cells_are e = cells_same T2 S2 S3 adds.cells ∙ e ∙ ap (λ l. l ++ cells_over x unchosen c1.variables) base_is
        ∙ ap (λ l. base ++ cells_over x l c1.variables) is_unchosen ∙ ap (λ (d : Clause (List ℕ)). base ++ cells_over x (unchosen_in (given_at T0 S0 ts) ch) d.variables) same_c

    pub own_are : (own : List CellId) → variables_read T2 S2 own ≡ made_over x (length S1.cells) unchosen c1.variables
        → variables_read T2 S3 own ≡ made_over x (length base) (unchosen_in (given_at T0 S0 ts) ch) c.variables
    own_are own e = variables_same T2 S2 S3 adds.cells own ∙ e ∙ ap (λ n. made_over x n unchosen c1.variables) many
        ∙ ap (λ l. made_over x (length base) l c1.variables) is_unchosen ∙ ap (λ (d : Clause (List ℕ)). made_over x (length base) (unchosen_in (given_at T0 S0 ts) ch) d.variables) same_c

    pub equations_are : given_at T2 S2 us ≡ image_all same_number (put_with (length S1.cells) unchosen ns1 c1) c1.arguments
        → trees_from T2 S3 0 (equate ts us) ≡ arguments_equal x 0 (given_at T0 S0 ts) (image_all same_number (filled_in (cells_read T0 S0) (cells_at T0 S0 ys) (given_at T0 S0 ts) ch) c.arguments)
    equations_are e = equate_trees T2 S3 0 0 refl ts us
        ∙ ap (λ l. arguments_equal x 0 l (given_at T2 S3 us)) (given_stays T0 T2 S0 S3 g03 ts held)
        ∙ ap (arguments_equal x 0 (given_at T0 S0 ts)) (given_stays T2 T2 S2 S3 g23 us made_held ∙ e ∙ ap (λ s. image_all same_number s c1.arguments) put_same
        ∙ ap (λ (d : Clause (List ℕ)). image_all same_number (filled_in (cells_read T0 S0) (cells_at T0 S0 ys) (given_at T0 S0 ts) ch) d.arguments) same_c)

    pub body_is : (ps : List ConstId) (m : Sign) (b r : TermId) → tree_of T2 S3 r ≡ marked_in (map (name_of T2) ps) (mark_below m) (tree_of T2 S2 b)
        → tree_of T2 S2 b ≡ image same_number (put_with (length S1.cells) unchosen ns1 c1) c1.body
        → tree_of T2 S3 r ≡ marked_in (map (name_of T0) ps) (mark_below m) (image same_number (filled_in (cells_read T0 S0) (cells_at T0 S0 ys) (given_at T0 S0 ts) ch) c.body)
    body_is ps m b r e d = e ∙ ap (λ l. marked_in l (mark_below m) (tree_of T2 S2 b)) (names_same T0 T2 S0 S2 g02 ps)
        ∙ ap (marked_in (map (name_of T0) ps) (mark_below m)) (d ∙ ap (λ s. image same_number s c1.body) put_same
        ∙ ap (λ (d : Clause (List ℕ)). image same_number (filled_in (cells_read T0 S0) (cells_at T0 S0 ys) (given_at T0 S0 ts) ch) d.body) same_c)

    pub typed_are : (A : Ty) → AreTaken T0 S0 [] ts A prop → AreTaken T2 S2 [] us A prop → All (IsTypedPair T2 S3) (equate ts us)
    typed_are A d e = equate_typed T2 S3 A (codes "prop") (codes "prop") ts us (still_held T0 T2 S0 S3 g03 ts held) (still_held T2 T2 S2 S3 g23 us made_held)
        (taken_on T0 T2 S0 S3 g03 ts A prop held d) (taken_on T2 T2 S2 S3 g23 us A prop made_held e)

    pub raised_are : IsTypedBy T1 S1 → (over : Over) → All (Holds S1) over.terms.items → IsRaised T0 S0 ys fresh T1 S1 over → IsRaised T0 S0 ys (fresh_in (given_at T0 S0 ts) ch) T2 S3 over
    raised_are typed over terms_held r = subst (λ l. IsRaised T0 S0 ys l T2 S3 over) is_fresh (raised_on T0 T1 T2 S0 S1 S3 typed (grows_on T1 T2 T2 S1 S2 S3 g2 g23) ys fresh over terms_held r)
