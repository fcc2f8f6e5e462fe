-- Cells that are made for names, one after another.
use Rattle.std.proofs.Common.{◌≡◌, ℕ, ◌+◌, ◌<◌, List, [], ◌∷◌, ◌++◌, map, take, length, get_or, refl, sym, ap, ◌∙◌, subst, arith, append-nil, append_assoc, length-append}
use Rattle.std.specs.List.{All}
use Rattle.std.proofs.lemmas.List.{map-append, map_more, length-map}
use Rattle.std.proofs.lemmas.List.Elements.{All-head, All-tail, All-push, All-weaker}
use Rattle.ab_norm.specs.ab_types.specs.Entries.{Table}
use Rattle.ab_norm.specs.ab_types.specs.Ids.{type_of}
use Rattle.ab_norm.specs.ab_store.specs.declared.node.CellId.{CellId}
use Rattle.ab_norm.specs.ab_store.specs.declared.node.CellEntry.{CellEntry}
use Rattle.ab_norm.specs.ab_store.specs.Trees.{Contents, HoldsCell, cell_of}
use Rattle.ab_norm.specs.ab_store.specs.Growth.{IsExtendedBy}
use Rattle.ab_norm.specs.ab_store.specs.Naming.{IsTypedBy}
use Rattle.ab_unifiers.specs.Replacements.{Cell}
use Rattle.ab_unify.specs.Problem.{cell_read, cells_read}
use Rattle.ab_unify.specs.StoreChanges.{Grows}
use Rattle.ab_unify.proofs.Growth.{one_more}
use Rattle.ab_theory.specs.Equations.{variables_from}
use Rattle.ab_logic.specs.Worlds.{variable_at}
use Rattle.ab_judgement_forms.specs.declared.part_names.PartName.{PartName}
use Rattle.ab_judgement_forms.specs.PartReadings.{name_read}

variables_push : (n : ℕ) (cs : List (Cell (List ℕ))) (c : Cell (List ℕ)) → variables_from n (cs ++ c ∷ []) ≡ variables_from n cs ++ record { number = n + length cs; type = c.type; name = c.hint } ∷ []
variables_push n [] c = let e : n ≡ n + 0 = omega arith in ap (λ (k : ℕ). record { number = k; type = c.type; name = c.hint } ∷ []) e
variables_push n (d ∷ cs) c =
    let e : n + 1 + length cs ≡ n + length (d ∷ cs) = omega arith in
    ap (λ l. record { number = n; type = d.type; name = d.hint } ∷ l)
    (variables_push (n + 1) cs c ∙ ap (λ (k : ℕ). variables_from (n + 1) cs ++ record { number = k; type = c.type; name = c.hint } ∷ []) e)

module _ (T : Table) where
  pub grows_by : (S V : Contents) → IsExtendedBy S V → IsTypedBy T V → Grows T S T V
  grows_by S V more typed = record {
    table = ([], sym (append-nil T));
    kinds = refl;
    constants = refl;
    typed = typed;
    trees = λ t h. (more.ids t h, more.trees T t h);
    cells = λ c h. (more.cell_ids c h, more.cells c h);
    marks = more.marks;
  }

  pub still_at : (S V : Contents) → IsExtendedBy S V → (ds : List CellId) → All (HoldsCell S) ds → map (variable_at T V) ds ≡ map (variable_at T S) ds
  still_at S V more [] h = refl
  still_at S V more (c ∷ cs) h =
      ap (λ (e : CellEntry). record { number = c.0; type = type_of T e.ty; name = e.hint } ∷ map (variable_at T V) cs) (more.cells c (All-head (HoldsCell S) c cs h))
      ∙ ap (λ l. variable_at T S c ∷ l) (still_at S V more cs (All-tail (HoldsCell S) c cs h))

  count_is : (S0 S : Contents) (done : List (Cell (List ℕ))) → cells_read T S ≡ cells_read T S0 ++ done → length S.cells ≡ length S0.cells + length done
  count_is S0 S done e =
      sym (length-map S.cells (cell_read T)) ∙ ap length e ∙ length-append (cells_read T S0) done ∙ ap (λ k. k + length done) (length-map S0.cells (cell_read T))

  -- one cell more
  module _ (S0 S V : Contents) (typed : IsTypedBy T S) (more : IsExtendedBy S V) (after : IsTypedBy T V) (c : CellId) (number : c.0 ≡ length S.cells) (one : length V.cells ≡ length S.cells + 1)
      (names : List PartName) (i : ℕ) (d : PartName) (l : i < length names) (entry : cell_read T (cell_of V c) ≡ name_read T (get_or names i d)) (cells : cells_read T S ≡ cells_read T S0 ++ map (name_read T) (take i names)) where
    pub cells_more : cells_read T V ≡ cells_read T S0 ++ map (name_read T) (take (i + 1) names)
    cells_more =
        ap (map (cell_read T)) (one_more T T S V typed (grows_by S V more after) c number one)
        ∙ map-append (cell_read T) S.cells (cell_of V c ∷ [])
        ∙ ap (λ k. cells_read T S ++ k ∷ []) entry
        ∙ ap (λ k. k ++ name_read T (get_or names i d) ∷ []) cells
        ∙ append_assoc (cells_read T S0) (map (name_read T) (take i names)) (name_read T (get_or names i d) ∷ [])
        ∙ ap (λ k. cells_read T S0 ++ k) (sym (map_more (name_read T) names i d l))

    here : variable_at T V c ≡ record { number = length S0.cells + length (map (name_read T) (take i names)); type = (name_read T (get_or names i d)).type; name = (name_read T (get_or names i d)).hint }
    here =
        ap (λ (k : ℕ). record { number = k; type = type_of T (cell_of V c).ty; name = (cell_of V c).hint }) (number ∙ count_is S0 S (map (name_read T) (take i names)) cells)
        ∙ ap (λ (e : Cell (List ℕ)). record { number = length S0.cells + length (map (name_read T) (take i names)); type = e.type; name = e.hint }) entry

    pub made_more : (made new : List CellId) → new ≡ made ++ c ∷ [] → All (HoldsCell S) made
        → map (variable_at T S) made ≡ variables_from (length S0.cells) (map (name_read T) (take i names))
        → map (variable_at T V) new ≡ variables_from (length S0.cells) (map (name_read T) (take (i + 1) names))
    made_more made new push held before =
        ap (map (variable_at T V)) push
        ∙ map-append (variable_at T V) made (c ∷ [])
        ∙ ap (λ k. k ++ variable_at T V c ∷ []) (still_at S V more made held ∙ before)
        ∙ ap (λ v. variables_from (length S0.cells) (map (name_read T) (take i names)) ++ v ∷ []) here
        ∙ sym (variables_push (length S0.cells) (map (name_read T) (take i names)) (name_read T (get_or names i d)))
        ∙ ap (variables_from (length S0.cells)) (sym (map_more (name_read T) names i d l))

    pub held_more : (made new : List CellId) → new ≡ made ++ c ∷ [] → All (HoldsCell S) made → All (HoldsCell V) new
    held_more made new push held =
        let there : HoldsCell V c = omega (arith, number, one) in
        subst (All (HoldsCell V)) (sym push) (All-push (HoldsCell V) made c (All-weaker (HoldsCell S) (HoldsCell V) more.cell_ids made held) there)
