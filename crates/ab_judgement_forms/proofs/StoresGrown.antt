-- What stays where a store grew, and what is chosen of cells.
use Rattle.std.proofs.Common.{◌≡◌, ℕ, ◌+◌, ◌<◌, List, [], ◌∷◌, ◌++◌, map, length, not, Bool, true, false, cond, refl, sym, ap, ◌∙◌, subst, arith}
use Rattle.std.specs.List.{All}
use Rattle.std.specs.Prelude.{Contains}
use Rattle.std.proofs.lemmas.List.{map-append, length-map}
use Rattle.std.proofs.lemmas.List.Elements.{All-head, All-tail}
use Rattle.ab_term.specs.Types.{Ty}
use Rattle.ab_term.specs.Terms.{Read}
use Rattle.ab_term.specs.Variables.{variables, one_by_one}
use Rattle.ab_term.specs.Sameness.{same_number}
use Rattle.ab_norm.specs.ab_types.specs.Entries.{Table}
use Rattle.ab_norm.specs.ab_types.specs.Ids.{type_of}
use Rattle.ab_norm.specs.ab_store.specs.declared.node.CellId.{CellId}
use Rattle.ab_norm.specs.ab_store.specs.declared.node.CellEntry.{CellEntry}
use Rattle.ab_norm.specs.ab_store.specs.declared.node.TermId.{TermId}
use Rattle.ab_norm.specs.ab_store.specs.Trees.{Contents, Holds, HoldsCell, cell_of, tree_of}
use Rattle.ab_norm.specs.ab_store.specs.Reading.{reading}
use Rattle.ab_norm.specs.ab_store.specs.Naming.{IsTypedBy}
use Rattle.ab_norm.specs.ab_store.proofs.Putting.{pair}
use Rattle.ab_unifiers.specs.Replacements.{Cell}
use Rattle.ab_typing.specs.DefinitionReadings.{variable_of}
use Rattle.ab_formulas.specs.CaseClauses as cases
use Rattle.ab_formulas.specs.Sequents.{in_terms}
use Rattle.ab_unify.specs.Problem.{cell_read, cells_read, variables_read, cells_at}
use Rattle.ab_unify.specs.StoreChanges.{Grows}
use Rattle.ab_unifiers.proofs.Agreeing.{contains_holds}
use Rattle.ab_unify.proofs.Growth.{grown_type}
use Rattle.ab_unify.proofs.Over.{reads_over}
use Rattle.ab_theory.specs.Equations.{variables_from}
use Rattle.ab_theory.specs.Splits.{cell_for}
use Rattle.ab_logic.specs.Worlds.{variable_at}
use Rattle.ab_judgement_forms.specs.DemandWalks.{trues, chosen}
use Rattle.ab_judgement_forms.proofs.KeptScopes.{kept_variable}
use Rattle.ab_judgement_forms.proofs.StandIns.{IsBelow}

module _ (T U : Table) (S V : Contents) (g : Grows T S U V) (typed : IsTypedBy T S) where
  variable_stays : (c : CellId) → HoldsCell S c → variable_at U V c ≡ variable_at T S c
  variable_stays c h =
      ap (λ (A : Ty). record { number = c.0; type = A; name = (cell_of V c).hint }) (grown_type T U S V g typed c h)
      ∙ ap (λ (e : CellEntry). record { number = c.0; type = type_of T (cell_of S c).ty; name = e.hint }) (g.cells c h).1

  pub all_variables_stay : (cs : List CellId) → All (HoldsCell S) cs → map (variable_at U V) cs ≡ map (variable_at T S) cs
  all_variables_stay [] h = refl
  all_variables_stay (c ∷ cs) h =
      ap (λ v. v ∷ map (variable_at U V) cs) (variable_stays c (All-head (HoldsCell S) c cs h))
      ∙ ap (λ l. variable_at T S c ∷ l) (all_variables_stay cs (All-tail (HoldsCell S) c cs h))

  pub all_trees_stay : (ts : List TermId) → All (Holds S) ts → map (tree_of U V) ts ≡ map (tree_of T S) ts
  all_trees_stay [] h = refl
  all_trees_stay (t ∷ ts) h =
      ap (λ u. u ∷ map (tree_of U V) ts) (g.trees t (All-head (Holds S) t ts h)).1
      ∙ ap (λ l. tree_of T S t ∷ l) (all_trees_stay ts (All-tail (Holds S) t ts h))

module _ (T : Table) (S : Contents) where
  pub cells_by : (cs : List CellId) → cells_at T S cs ≡ map cell_for (map (variable_at T S) cs)
  cells_by [] = refl
  cells_by (c ∷ cs) = ap (λ l. cell_read T (cell_of S c) ∷ l) (cells_by cs)

  pub in_terms_by : (cs : List CellId) → variables_read T S cs ≡ map in_terms (map (variable_at T S) cs)
  in_terms_by [] = refl
  in_terms_by (c ∷ cs) = ap (λ l. in_terms (variable_at T S c) ∷ l) (in_terms_by cs)

  -- as a kept clause has them
  pub kept_are : (cs : List CellId) → map kept_variable (map (variable_of T S) cs) ≡ map (variable_at T S) cs
  kept_are [] = refl
  kept_are (c ∷ cs) = ap (λ l. variable_at T S c ∷ l) (kept_are cs)

  pub kept_cells : (cs : List CellId) → map cases.cell_of (map (variable_of T S) cs) ≡ cells_at T S cs
  kept_cells [] = refl
  kept_cells (c ∷ cs) = ap (λ l. cell_read T (cell_of S c) ∷ l) (kept_cells cs)

pub cells_from : (n : ℕ) (cs : List (Cell (List ℕ))) → map cell_for (variables_from n cs) ≡ cs
cells_from n [] = refl
cells_from n (c ∷ cs) = ap (λ l. c ∷ l) (cells_from (n + 1) cs)

-- WHAT IS CHOSEN
pub chosen_map : {X Y : Type 0} (f : X → Y) (bs : List Bool) (xs : List X) → map f (chosen bs xs) ≡ chosen bs (map f xs)
chosen_map f [] xs = refl
chosen_map f (b ∷ bs) [] = refl
chosen_map f (true ∷ bs) (a ∷ xs) = ap (λ l. f a ∷ l) (chosen_map f bs xs)
chosen_map f (false ∷ bs) (a ∷ xs) = chosen_map f bs xs

pub chosen_push : {X : Type 0} (bs : List Bool) (xs : List X) (b : Bool) (a : X) → length bs ≡ length xs → chosen (bs ++ (b ∷ [])) (xs ++ (a ∷ [])) ≡ chosen bs xs ++ cond b (a ∷ []) []
chosen_push [] [] true a e = refl
chosen_push [] [] false a e = refl
chosen_push [] (y ∷ xs) b a e = absurd (omega (arith, e))
chosen_push (c ∷ bs) [] b a e = absurd (omega (arith, e))
chosen_push (true ∷ bs) (y ∷ xs) b a e = let rest : length bs ≡ length xs = omega (arith, e) in ap (λ l. y ∷ l) (chosen_push bs xs b a rest)
chosen_push (false ∷ bs) (y ∷ xs) b a e = let rest : length bs ≡ length xs = omega (arith, e) in chosen_push bs xs b a rest

pub trues_push : (bs : List Bool) (b : Bool) → trues (bs ++ (b ∷ [])) ≡ trues bs + cond b 1 0
trues_push [] true = omega arith
trues_push [] false = omega arith
trues_push (true ∷ bs) b = let rest = trues_push bs b in omega (arith, rest)
trues_push (false ∷ bs) b = trues_push bs b

-- one more
pub chosen_next : {X : Type 0} (bs : List Bool) (xs : List X) (b : Bool) (a : X) → length bs ≡ length xs → (more : List Bool) (all : List X) → more ≡ bs ++ (b ∷ []) → all ≡ xs ++ (a ∷ []) → chosen bs xs ++ cond b (a ∷ []) [] ≡ chosen more all
chosen_next bs xs b a e more all m n = sym (chosen_push bs xs b a e) ∙ sym (ap (λ l. chosen l all) m ∙ ap (chosen (bs ++ (b ∷ []))) n)

pub others_next : {X : Type 0} (bs : List Bool) (xs : List X) (b : Bool) (a : X) → length bs ≡ length xs → (more : List Bool) (all : List X) → more ≡ bs ++ (b ∷ []) → all ≡ xs ++ (a ∷ [])
    → chosen (map not bs) xs ++ cond (not b) (a ∷ []) [] ≡ chosen (map not more) all
others_next bs xs b a e more all m n =
    chosen_next (map not bs) xs (not b) a (length-map bs not ∙ e) (map not more) all (ap (map not) m ∙ map-append not bs (b ∷ [])) n

pub trues_next : (bs : List Bool) (b : Bool) (more : List Bool) → more ≡ bs ++ (b ∷ []) → trues bs + cond b 1 0 ≡ trues more
trues_next bs b more m = sym (ap trues m ∙ trues_push bs b)

-- the variables of a tree are cells that there are, where none is bound
pub below_all : (T : Table) (S : Contents) (t : TermId) → IsTypedBy T S → S.bindings ≡ [] → Holds S t → IsBelow (length S.cells) (tree_of T S t)
below_all T S t typed unbound h y m =
    let plain : tree_of T S t ≡ reading T S t = sym (ap (λ bs. one_by_one same_number (map (pair T S) bs) (tree_of T S t)) unbound) in
    let low : y.name < length (cells_read T S) = reads_over T S typed t h y (contains_holds (variables (reading T S t)) y (subst (λ (u : Read). Contains (variables u) y) plain m)) in
    let long : length (cells_read T S) ≡ length S.cells = length-map S.cells (cell_read T) in
    omega (arith, low, long)
