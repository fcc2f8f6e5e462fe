-- WHAT A RULE OF A JUDGEMENT ASKS, with other numbers for variables.
use Rattle.std.proofs.Common.{◌≡◌, ℕ, zero, suc, ◌+◌, List, [], ◌∷◌, map, filter, Bool, true, false, cond, not, ◌&&◌, ◌||◌, refl, sym, ◌∙◌, ap, arith, codes}
use Rattle.std.specs.List.{list_any}
use Rattle.ab_term.specs.Types.{Ty, kind, arrow}
use Rattle.ab_term.specs.Logical.{existential}
use Rattle.ab_term.specs.Terms as tree
use Rattle.ab_term.specs.Terms.{Nominal, Head, constant, logical, nominal, variable, index, lam, spine, Terms, no_terms, term, Read}
use Rattle.ab_term.specs.Expansion.{expansion_of, expansion}
use Rattle.ab_term.specs.Translation.{translate_all, translate_head, translate_variable}
use Rattle.ab_term.specs.Substitution.{shift_head}
use Rattle.ab_term.specs.Variables.{Substitution, variables, image}
use Rattle.ab_term.specs.Sameness.{same_number, same_head}
use Rattle.ab_term.specs.Abstraction.{over, name_terms, given_names, close, close_all, close_head}
use Rattle.ab_term.proofs.Translations.{translate-expansion, translate-expansion_of, variables-translate}
use Rattle.ab_term.proofs.ImageTranslations.{translate-image}
use Rattle.ab_unifiers.specs.Replacements.{Cell, holds, occurs}
use Rattle.ab_unifiers.specs.Unification.{Equation}
use Rattle.ab_unifiers.specs.Clauses.{put_together}
use Rattle.ab_unifiers.specs.Alternatives.{cells_over, made_terms}
use Rattle.ab_unifiers.specs.Renumbering.{renumbered_equation, renumbered_pairs}
use Rattle.ab_unifiers.proofs.Tests.{head_moved, holds_moved}
use Rattle.ab_formulas.specs.Marks.{Sign}
use Rattle.ab_formulas.specs.Sequents.{Variable, in_terms}
use Rattle.ab_theory.specs.Equations.{variables_from}
use Rattle.ab_theory.specs.Splits.{cell_for}
use Rattle.ab_theory.specs.Unfolding.{exists_all}
use Rattle.ab_theory.specs.Opening.{open_goal, conjunction_of}
use Rattle.ab_theory.specs.SpecRules.{Demand, stands_in_goals_alone, demand_by}
use Rattle.ab_effects.proofs.Carrying.{GoOn, one_on, at_once}
use Rattle.ab_effects.proofs.Renumbered.{moved_variable}
use Rattle.ab_effects.proofs.MovedParts.{T, conjunction_moved, all_opened_moved}

module _ (f : ℕ → ℕ) where
  abbrev pub V : tree.Variable ℕ → tree.Variable ℕ
  V = translate_variable f

  suc_on : (n m : ℕ) → GoOn f n m → GoOn f (suc n) (suc m)
  suc_on n m on k =
      let before : suc n + k ≡ n + (1 + k) = omega arith in
      let behind : m + (1 + k) ≡ suc m + k = omega arith in
      ap f before ∙ on (1 + k) ∙ behind

  pub variables_from_moved : (n m : ℕ) (cs : List (Cell (List ℕ))) → GoOn f n m → map (moved_variable f) (variables_from n cs) ≡ variables_from m cs
  variables_from_moved n m [] on = refl
  variables_from_moved n m (c ∷ cs) on =
      ap (λ i. record { number = i; type = c.type; name = c.hint } ∷ map (moved_variable f) (variables_from (n + 1) cs)) (at_once f n m on)
      ∙ ap (λ l. record { number = m; type = c.type; name = c.hint } ∷ l) (variables_from_moved (n + 1) (m + 1) cs (one_on f n m on))

  name_terms_moved : (A : Ty) (ns : List Nominal) → translate_all f (λ x. x) (name_terms (codes "x") A (map nominal ns)) ≡ name_terms (codes "x") A (map nominal ns)
  name_terms_moved A [] = refl
  name_terms_moved (kind k) (a ∷ ns) = refl
  name_terms_moved (arrow A B) (a ∷ ns) =
      ap (λ t. term t (translate_all f (λ x. x) (name_terms (codes "x") B (map nominal ns)))) (translate-expansion f (λ (x : List ℕ). x) (codes "x") A (nominal a))
      ∙ ap (term (expansion (codes "x") A (nominal a))) (name_terms_moved B ns)

  given_moved : (z : tree.Variable ℕ) (ns : List Nominal) (A : Ty) → T f (given_names (codes "x") z ns A) ≡ given_names (codes "x") (V z) ns A
  given_moved z ns A =
      translate-expansion_of f (λ (x : List ℕ). x) (codes "x") A (variable z) (name_terms (codes "x") z.type (map nominal ns))
      ∙ ap (expansion_of (codes "x") A (variable (V z))) (name_terms_moved z.type ns)

  made_terms_moved : (n m : ℕ) (ns : List Nominal) (cs : List (Cell (List ℕ))) → GoOn f n m → map (T f) (made_terms (codes "x") n ns cs) ≡ made_terms (codes "x") m ns cs
  made_terms_moved n m ns [] on = refl
  made_terms_moved n m ns (c ∷ cs) on =
      ap (λ t. t ∷ map (T f) (made_terms (codes "x") (suc n) ns cs)) (given_moved (record { name = n; type = over ns c.type }) ns c.type)
      ∙ ap (λ i. given_names (codes "x") (record { name = i; type = over ns c.type }) ns c.type ∷ map (T f) (made_terms (codes "x") (suc n) ns cs)) (at_once f n m on)
      ∙ ap (λ l. given_names (codes "x") (record { name = m; type = over ns c.type }) ns c.type ∷ l) (made_terms_moved (suc n) (suc m) ns cs (suc_on n m on))

  together_moved : (ys : List (tree.Variable ℕ)) (ts : List Read) → renumbered_pairs f (put_together ys ts) ≡ put_together (map V ys) (map (T f) ts)
  together_moved [] ts = refl
  together_moved (y ∷ ys) [] = refl
  together_moved (y ∷ ys) (t ∷ ts) = ap (λ l. (V y, T f t) ∷ l) (together_moved ys ts)

  in_terms_moved : (ys : List Variable) → map V (map in_terms ys) ≡ map in_terms (map (moved_variable f) ys)
  in_terms_moved [] = refl
  in_terms_moved (y ∷ ys) = ap (λ l. V (in_terms y) ∷ l) (in_terms_moved ys)

  cells_kept : (ys : List Variable) → map cell_for (map (moved_variable f) ys) ≡ map cell_for ys
  cells_kept [] = refl
  cells_kept (y ∷ ys) = ap (λ l. cell_for y ∷ l) (cells_kept ys)

  module _ (agree : (i j : ℕ) → same_number (f i) (f j) ≡ same_number i j) where
    -- CLOSED BY `exists`

    shift_head_moved : (k : ℕ) (h : Head ℕ) → translate_head f (shift_head k h) ≡ shift_head k (translate_head f h)
    shift_head_moved k (constant c) = refl
    shift_head_moved k (logical l) = refl
    shift_head_moved k (nominal a) = refl
    shift_head_moved k (variable x) = refl
    shift_head_moved k (index i) = refl

    close_head_moved : (k : ℕ) (h g : Head ℕ) → translate_head f (close_head k h g) ≡ close_head k (translate_head f h) (translate_head f g)
    close_head_moved k h g = go (same_head g h) ∙ ap (λ b. cond b (index k) (shift_head k (translate_head f g))) (sym (head_moved f agree g h))
      where
        go : (b : Bool) → translate_head f (cond b (index k) (shift_head k g)) ≡ cond b (index k) (shift_head k (translate_head f g))
        go true = refl
        go false = shift_head_moved k g

    mutual
      close_moved : (k : ℕ) (h : Head ℕ) (t : Read) → T f (close k h t) ≡ close k (translate_head f h) (T f t)
      close_moved k h (lam A x t) = ap (lam A x) (close_moved (suc k) (shift_head zero h) t ∙ ap (λ g. close (suc k) g (T f t)) (shift_head_moved zero h))
      close_moved k h (spine g ts) =
          ap (λ e. spine e (translate_all f (λ x. x) (close_all k h ts))) (close_head_moved k h g) ∙ ap (spine (close_head k (translate_head f h) (translate_head f g))) (close_all_moved k h ts)

      close_all_moved : (k : ℕ) (h : Head ℕ) (ts : Terms ℕ (List ℕ)) → translate_all f (λ x. x) (close_all k h ts) ≡ close_all k (translate_head f h) (translate_all f (λ x. x) ts)
      close_all_moved k h no_terms = refl
      close_all_moved k h (term t ts) = ap (λ s. term s (translate_all f (λ x. x) (close_all k h ts))) (close_moved k h t) ∙ ap (term (close k (translate_head f h) (T f t))) (close_all_moved k h ts)

    pub exists_all_moved : (ys : List Variable) (F : Read) → T f (exists_all ys F) ≡ exists_all (map (moved_variable f) ys) (T f F)
    exists_all_moved [] F = refl
    exists_all_moved (y ∷ ys) F =
        ap (λ t. spine (logical (existential y.type)) (term (lam y.type y.name t) no_terms))
        (close_moved zero (variable (in_terms y)) (exists_all ys F) ∙ ap (close zero (variable (V (in_terms y)))) (exists_all_moved ys F))

    -- WHICH NAMES STAND IN GOALS ALONE

    occurs_moved : (y : tree.Variable ℕ) (t : Read) → occurs (V y) (T f t) ≡ occurs y t
    occurs_moved y t = ap (λ l. holds l (V y)) (variables-translate f (λ (x : List ℕ). x) t) ∙ holds_moved f agree (variables t) y

    any_moved : (y : tree.Variable ℕ) (Gs : List Read) → list_any (occurs (V y)) (map (T f) Gs) ≡ list_any (occurs y) Gs
    any_moved y [] = refl
    any_moved y (G ∷ Gs) = ap (λ b. b || list_any (occurs (V y)) (map (T f) Gs)) (occurs_moved y G) ∙ ap (λ b. occurs y G || b) (any_moved y Gs)

    alone_moved : (A : Read) (Gs : List Read) (y : Variable) → stands_in_goals_alone (T f A) (map (T f) Gs) (moved_variable f y) ≡ stands_in_goals_alone A Gs y
    alone_moved A Gs y =
        ap (λ b. b && not (occurs (V (in_terms y)) (T f A))) (any_moved (in_terms y) Gs)
        ∙ ap (λ b. list_any (occurs (in_terms y)) Gs && not b) (occurs_moved (in_terms y) A)

    filter_moved : (P Q : Variable → Bool) → ((y : Variable) → Q (moved_variable f y) ≡ P y) → (ys : List Variable) → map (moved_variable f) (filter P ys) ≡ filter Q (map (moved_variable f) ys)
    filter_moved P Q same [] = refl
    filter_moved P Q same (y ∷ ys) =
        go (P y) (filter_moved P Q same ys) ∙ ap (λ b. cond b (moved_variable f y ∷ filter Q (map (moved_variable f) ys)) (filter Q (map (moved_variable f) ys))) (sym (same y))
      where
        go : (b : Bool) → map (moved_variable f) (filter P ys) ≡ filter Q (map (moved_variable f) ys)
            → map (moved_variable f) (cond b (y ∷ filter P ys) (filter P ys)) ≡ cond b (moved_variable f y ∷ filter Q (map (moved_variable f) ys)) (filter Q (map (moved_variable f) ys))
        go true rest = ap (λ l. moved_variable f y ∷ l) rest
        go false rest = rest

    -- WHAT IS ASKED, where the equations follow
    module _ (n k : ℕ) (on : GoOn f n k) (S : List Nominal) (m : Sign) (L : Read) (ps : List (Cell (List ℕ))) (ys : List Variable) (A : Read) (Gs : List Read)
        (e q : Substitution ℕ (List ℕ) → List (Equation (List ℕ))) (equations : (s : Substitution ℕ (List ℕ)) → map (renumbered_equation f) (e s) ≡ q (renumbered_pairs f s)) where
      abbrev First : Demand
      First = demand_by n S m L ps ys A Gs e

      abbrev Second : Demand
      Second = demand_by k S m (T f L) ps (map (moved_variable f) ys) (T f A) (map (T f) Gs) q

      abbrev Own : List Variable
      Own = filter (λ y. not (stands_in_goals_alone A Gs y)) ys

      abbrev Also : List Variable
      Also = filter (λ y. not (stands_in_goals_alone (T f A) (map (T f) Gs) y)) (map (moved_variable f) ys)

      own_moved : map (moved_variable f) Own ≡ Also
      own_moved = filter_moved (λ y. not (stands_in_goals_alone A Gs y)) (λ y. not (stands_in_goals_alone (T f A) (map (T f) Gs) y)) (λ y. ap not (alone_moved A Gs y)) ys

      cells_same : map cell_for Own ≡ map cell_for Also
      cells_same = sym (cells_kept Own) ∙ ap (map cell_for) own_moved

      pub own_same : First.own ≡ Second.own
      own_same = ap (cells_over (codes "x") S) cells_same

      new_moved : renumbered_pairs f (put_together (map in_terms Own) (made_terms (codes "x") n S (map cell_for Own))) ≡ put_together (map in_terms Also) (made_terms (codes "x") k S (map cell_for Also))
      new_moved =
          together_moved (map in_terms Own) (made_terms (codes "x") n S (map cell_for Own))
          ∙ ap (λ l. put_together l (map (T f) (made_terms (codes "x") n S (map cell_for Own)))) (in_terms_moved Own ∙ ap (map in_terms) own_moved)
          ∙ ap (put_together (map in_terms Also)) (made_terms_moved n k S (map cell_for Own) on ∙ ap (made_terms (codes "x") k S) cells_same)

      pub equations_same : map (renumbered_equation f) First.equations ≡ Second.equations
      equations_same = equations (put_together (map in_terms Own) (made_terms (codes "x") n S (map cell_for Own))) ∙ ap q new_moved

      pub body_same : T f First.body ≡ Second.body
      body_same =
          translate-image f (λ (x : List ℕ). x) same_number same_number agree (put_together (map in_terms Own) (made_terms (codes "x") n S (map cell_for Own)))
          (exists_all (filter (stands_in_goals_alone A Gs) ys) (conjunction_of (map (open_goal m L) Gs)))
          ∙ ap (λ s. image same_number s (T f (exists_all (filter (stands_in_goals_alone A Gs) ys) (conjunction_of (map (open_goal m L) Gs))))) new_moved
          ∙ ap (image same_number (put_together (map in_terms Also) (made_terms (codes "x") k S (map cell_for Also))))
          (exists_all_moved (filter (stands_in_goals_alone A Gs) ys) (conjunction_of (map (open_goal m L) Gs))
          ∙ ap (λ l. exists_all l (T f (conjunction_of (map (open_goal m L) Gs)))) (filter_moved (stands_in_goals_alone A Gs) (stands_in_goals_alone (T f A) (map (T f) Gs)) (alone_moved A Gs) ys)
          ∙ ap (exists_all (filter (stands_in_goals_alone (T f A) (map (T f) Gs)) (map (moved_variable f) ys)))
          (conjunction_moved f (map (open_goal m L) Gs) ∙ ap conjunction_of (all_opened_moved f m L Gs)))
