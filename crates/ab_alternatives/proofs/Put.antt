-- What is solved while the goal's variables are bound to their raised terms is the case of the choice.
use Rattle.std.specs.List.{All}
use Rattle.std.proofs.Common.{◌≡◌, ℕ, suc, ◌+◌, ◌<◌, List, [], ◌∷◌, ◌++◌, map, take, length, codes, true, refl, sym, ◌∙◌, ap, arith, length-append, take_all}
use Rattle.std.proofs.lemmas.List.{length-map, get_or-map}
use Rattle.std.proofs.lemmas.List.Elements.{All-nil, All-cons, All-head, All-tail, All-contains, All-weaker}
use Rattle.ab_term.specs.Terms as tree
use Rattle.ab_term.specs.Terms.{Nominal, Terms, no_terms, term}
use Rattle.ab_term.specs.Variables.{Substitution, image, image_all}
use Rattle.ab_term.specs.Sameness.{same_number}
use Rattle.ab_norm.specs.ab_types.specs.Entries.{Table}
use Rattle.ab_norm.specs.ab_types.specs.Ids.{type_of}
use Rattle.ab_norm.specs.ab_store.specs.declared.node.TermId.{TermId}
use Rattle.ab_norm.specs.ab_store.specs.declared.node.CellId.{CellId}
use Rattle.ab_norm.specs.ab_store.specs.declared.node.Equation.{Equation}
use Rattle.ab_norm.specs.ab_store.specs.Trees.{Contents, HoldsCell, cell_of, tree_of}
use Rattle.ab_norm.specs.ab_store.specs.Reading.{cell_variable}
use Rattle.ab_unifiers.specs.Replacements.{Cell, holds, hint_of}
use Rattle.ab_unifiers.specs.Unification as solve
use Rattle.ab_unifiers.specs.Clauses.{numbered, put_together}
use Rattle.ab_unifiers.specs.Alternatives.{cells_over, made_terms, cells_of, arguments_equal}
use Rattle.ab_unifiers.proofs.Variables.{holds_contains}
use Rattle.ab_unify.specs.Problem.{cell_read, cells_read, variables_read, cells_at}
use Rattle.ab_instances.specs.ListReadings.{trees_at}
use Rattle.ab_formulas.specs.Sequents.{in_terms}
use Rattle.ab_logic.specs.Worlds.{variable_of}
use Rattle.ab_logic.specs.declared.world.World.{World}
use Rattle.ab_theory.specs.Analysis.{raised_variables}
use Rattle.ab_theory.specs.RaisedAlternatives.{raised_cells, raised_to, raised_terms}
use Rattle.ab_alternatives.specs.LeftAlternatives.{trees_from, images_from}
use Rattle.ab_theory.proofs.AlternativesParts.{together_none}

abbrev x : List ℕ
x = codes "x"

-- CELLS AS VARIABLES

pub in_terms_are : (w : World) (ys : List CellId) → map in_terms (map (variable_of w) ys) ≡ variables_read w.types w.store ys
in_terms_are w [] = refl
in_terms_are w (c ∷ cs) = ap (λ l. in_terms (variable_of w c) ∷ l) (in_terms_are w cs)

pub olds_are : (w : World) (ys : List CellId) → All (HoldsCell w.store) ys → cells_at w.types w.store ys ≡ cells_of x (cells_read w.types w.store) (map in_terms (map (variable_of w) ys))
olds_are w [] all = refl
olds_are w (c ∷ cs) all =
    let T = w.types in
    let S = w.store in
    let A = type_of T (cell_of S c).ty in
    let found = sym (get_or-map (cell_read T) S.cells c.0 (record { hint = []; ty = record { 0 = 0 } }) (record { hint = x; type = A }) (All-head (HoldsCell S) c cs all)) in
    ap (λ (z : Cell (List ℕ)). record { hint = z.hint; type = A } ∷ cells_at T S cs) found
    ∙ ap (λ l. record { hint = hint_of x (cells_read T S) (record { name = c.0; type = A }); type = A } ∷ l) (olds_are w cs (All-tail (HoldsCell S) c cs all))

pub below : (T : Table) (S : Contents) (ys : List CellId) → All (HoldsCell S) ys → (y : tree.Variable ℕ) → holds (variables_read T S ys) y ≡ true → y.name < length S.cells
below T S ys all y h = All-contains (λ (z : tree.Variable ℕ). z.name < length S.cells) (variables_read T S ys) y (names ys all) (holds_contains (variables_read T S ys) y h)
  where
    names : (cs : List CellId) → All (HoldsCell S) cs → All (λ (z : tree.Variable ℕ). z.name < length S.cells) (variables_read T S cs)
    names [] held = All-nil (λ (z : tree.Variable ℕ). z.name < length S.cells)
    names (c ∷ cs) held = All-cons (λ (z : tree.Variable ℕ). z.name < length S.cells) _ (variables_read T S cs) (All-head (HoldsCell S) c cs held) (names cs (All-tail (HoldsCell S) c cs held))

-- variables of these numbers, with the names of others
pub renamed : (w v : World) (cs ys : List CellId) (zs : List (tree.Variable ℕ)) → variables_read v.types v.store cs ≡ zs → map (λ c. (cell_of v.store c).hint) cs ≡ map (λ c. (cell_of w.store c).hint) ys
    → map (variable_of v) cs ≡ raised_variables (map (variable_of w) ys) zs
renamed w v cs ys zs e hints = go cs ys hints ∙ ap (raised_variables (map (variable_of w) ys)) e
  where
    go : (cs ys : List CellId) → map (λ c. (cell_of v.store c).hint) cs ≡ map (λ c. (cell_of w.store c).hint) ys → map (variable_of v) cs ≡ raised_variables (map (variable_of w) ys) (variables_read v.types v.store cs)
    go [] [] h = refl
    go [] (y ∷ ys) h = absurd (cc)
    go (c ∷ cs) [] h = absurd (cc)
    go (c ∷ cs) (y ∷ ys) h =
        let first : (cell_of v.store c).hint ≡ (cell_of w.store y).hint = cc in
        let others : map (λ c. (cell_of v.store c).hint) cs ≡ map (λ c. (cell_of w.store c).hint) ys = cc in
        ap (λ n. record { number = c.0; type = type_of v.types (cell_of v.store c).ty; name = n } ∷ map (variable_of v) cs) first
        ∙ ap (λ l. record { number = c.0; type = type_of v.types (cell_of v.store c).ty; name = (cell_of w.store y).hint } ∷ l) (go cs ys others)

-- WHAT IS PUT IN

made_many : (k : ℕ) (ns : List Nominal) (cs : List (Cell (List ℕ))) → length (made_terms x k ns cs) ≡ length cs
made_many k ns [] = refl
made_many k ns (c ∷ cs) = ap suc (made_many (suc k) ns cs)

pub put_same : (T : Table) (S : Contents) (F : List Nominal) (n : ℕ) (olds : List (Cell (List ℕ))) (ys : List CellId) (zs : List (tree.Variable ℕ)) (ts : List TermId)
    → trees_at T S ts ≡ raised_terms n F olds → length olds ≡ length ys → variables_read T S ys ≡ zs
    → put_together (variables_read T S (take (length ts) ys)) (trees_at T S ts) ≡ put_together zs (raised_terms n F olds)
put_same T S [] n olds ys zs ts e many vars = ap (put_together (variables_read T S (take (length ts) ys))) e ∙ together_none (variables_read T S (take (length ts) ys)) ∙ sym (together_none zs)
put_same T S (a ∷ bs) n olds ys zs ts e many vars =
    let count : length ts ≡ length ys = sym (length-map ts (tree_of T S)) ∙ ap length e ∙ made_many n (a ∷ bs) olds ∙ many in
    ap (λ l. put_together (variables_read T S l) (trees_at T S ts)) (take_all (length ts) ys (omega (arith, count)))
    ∙ ap (λ l. put_together l (trees_at T S ts)) vars ∙ ap (put_together zs) e

-- EQUATIONS

abbrev pub both : Substitution ℕ (List ℕ) → solve.Equation (List ℕ) → solve.Equation (List ℕ)
both s e = record { place = e.place; left = image same_number s e.left; right = image same_number s e.right }

pub images_are : (T : Table) (S : Contents) (s : Substitution ℕ (List ℕ)) (k : ℕ) (es : List Equation) → images_from T S s k es ≡ map (both s) (trees_from T S k es)
images_are T S s k [] = refl
images_are T S s k (e ∷ es) = ap (λ l. record { place = k; left = image same_number s (tree_of T S e.left); right = image same_number s (tree_of T S e.right) } ∷ l) (images_are T S s (k + 1) es)

pub equal_images : (s : Substitution ℕ (List ℕ)) (k : ℕ) (ts us : Terms ℕ (List ℕ)) → map (both s) (arguments_equal x k ts us) ≡ arguments_equal x k (image_all same_number s ts) (image_all same_number s us)
equal_images s k no_terms us = refl
equal_images s k (term t ts) no_terms = refl
equal_images s k (term t ts) (term u us) = ap (λ l. record { place = k; left = image same_number s t; right = image same_number s u } ∷ l) (equal_images s (suc k) ts us)

-- HYPOTHESES

pub two_maps : {A B C : Type 0} (f : B → C) (h : A → B) (xs : List A) (y : A) → map f (map h (xs ++ y ∷ [])) ≡ map f (map h xs) ++ f (h y) ∷ []
two_maps f h [] y = refl
two_maps f h (x ∷ xs) y = ap (λ l. f (h x) ∷ l) (two_maps f h xs y)

-- NUMBERS

pub numbered_below : (T : Table) (S : Contents) (n : ℕ) (post : List (Cell (List ℕ))) (cs : List CellId) → variables_read T S cs ≡ numbered n post → All (λ (c : CellId). c.0 < n + length post) cs
numbered_below T S n post [] e = All-nil (λ (c : CellId). c.0 < n + length post)
numbered_below T S n [] (c ∷ cs) e = absurd (cc)
numbered_below T S n (p ∷ post) (c ∷ cs) e =
    let first : cell_variable T S c ≡ record { name = n; type = p.type } = cc in
    let rest : variables_read T S cs ≡ numbered (suc n) post = cc in
    let number : c.0 ≡ n = ap (λ (v : tree.Variable ℕ). v.name) first in
    All-cons (λ (c : CellId). c.0 < n + length (p ∷ post)) c cs (omega (arith, number))
    (All-weaker (λ (c : CellId). c.0 < suc n + length post) (λ (c : CellId). c.0 < n + length (p ∷ post)) (λ c l. omega (arith, l)) cs (numbered_below T S (suc n) post cs rest))

numbers_same : (T U : Table) (S V : Contents) (n : ℕ) (cs ys : List CellId) → variables_read U V cs ≡ variables_read T S ys → All (λ (c : CellId). c.0 < n) ys → All (λ (c : CellId). c.0 < n) cs
numbers_same T U S V n [] ys e all = All-nil (λ (c : CellId). c.0 < n)
numbers_same T U S V n (c ∷ cs) [] e all = absurd (cc)
numbers_same T U S V n (c ∷ cs) (y ∷ ys) e all =
    let first : cell_variable U V c ≡ cell_variable T S y = cc in
    let rest : variables_read U V cs ≡ variables_read T S ys = cc in
    let number : c.0 ≡ y.0 = ap (λ (v : tree.Variable ℕ). v.name) first in
    let low = All-head (λ (c : CellId). c.0 < n) y ys all in
    All-cons (λ (c : CellId). c.0 < n) c cs (omega (arith, number, low)) (numbers_same T U S V n cs ys rest (All-tail (λ (c : CellId). c.0 < n) y ys all))

pub raised_below : (T U : Table) (S V : Contents) (F : List Nominal) (cs ys : List CellId) → All (HoldsCell S) ys → variables_read U V cs ≡ raised_to (length S.cells) F (variables_read T S ys) (cells_at T S ys)
    → All (λ (c : CellId). c.0 < length (cells_read T S ++ raised_cells F (cells_at T S ys))) cs
raised_below T U S V [] cs ys held e =
    let all = length-append (cells_read T S) [] in
    let many = length-map S.cells (cell_read T) in
    All-weaker (λ (c : CellId). c.0 < length S.cells) (λ (c : CellId). c.0 < length (cells_read T S ++ [])) (λ c l. omega (arith, l, all, many)) cs (numbers_same T U S V (length S.cells) cs ys e held)
raised_below T U S V (a ∷ bs) cs ys held e =
    let post = cells_over x (a ∷ bs) (cells_at T S ys) in
    let all = length-append (cells_read T S) post in
    let many = length-map S.cells (cell_read T) in
    All-weaker (λ (c : CellId). c.0 < length S.cells + length post) (λ (c : CellId). c.0 < length (cells_read T S ++ post)) (λ c l. omega (arith, l, all, many)) cs (numbered_below U V (length S.cells) post cs e)
