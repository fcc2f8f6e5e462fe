-- New constants stand for cells that are bound to nothing: what terms and stages read as then.
use Rattle.std.specs.Prelude.{filter, is_none}
use Rattle.std.specs.List.{All}
use Rattle.std.proofs.Common.{◌≡◌, ◌≢◌, ◌<◌, List, [], ◌∷◌, ◌++◌, map, get_or, cond, Bool, true, false, refl, sym, ◌∙◌, ap, arith, append-nil}
use Rattle.std.proofs.lemmas.List.Elements.{All-head, All-tail}
use Rattle.ab_term.specs.Terms as tree
use Rattle.ab_term.specs.Terms.{Read}
use Rattle.ab_term.specs.Variables.{one_by_one}
use Rattle.ab_term.specs.Sameness.{same_number}
use Rattle.ab_norm.specs.ab_types.specs.Entries.{Table}
use Rattle.ab_norm.specs.ab_types.specs.Ids.{type_of}
use Rattle.ab_norm.specs.ab_store.specs.declared.node.TermId.{TermId}
use Rattle.ab_norm.specs.ab_store.specs.declared.node.CellId.{CellId}
use Rattle.ab_norm.specs.ab_store.specs.Trees.{Contents, Holds, HoldsCell, cell_in, cell_of}
use Rattle.ab_norm.specs.ab_store.specs.Reading.{reading, bound_in, binding_of}
use Rattle.ab_norm.specs.NodeGrowth.{AddsTypedTerms}
use Rattle.ab_unify.specs.StoreChanges.{Grows}
use Rattle.ab_formulas.specs.Sequents.{Variable}
use Rattle.ab_logic.specs.Worlds.{variable_at}
use Rattle.ab_alternatives.specs.ab_equations.specs.Meanwhile.{unbound_of}
use Rattle.ab_consequences.specs.Leading.{instance_by}
use Rattle.ab_consequences.specs.NewConstants.{constants_for, pairs_for}
use Rattle.ab_uses.specs.StageReadings.{stage_by}
use Rattle.ab_uses.specs.ClosedReadings.{open_among, closed_reading}
use Rattle.ab_uses.specs.UseCells.{StageIsTyped}
use Rattle.ab_uses.specs.declared.stage.Stage.{Stage}
use Rattle.ab_uses.specs.declared.stage.Stage.TheVariants.{Instance, Chosen, Antecedent}

-- by the first of the cells
module _ (T : Table) (S : Contents) (c : CellId) (cs : List CellId) where
  pub open_bound : is_none (binding_of S c) ≡ false → open_among T S (c ∷ cs) ≡ open_among T S cs
  open_bound e = ap (λ b. map (variable_at T S) (cond b (c ∷ unbound_of S cs) (unbound_of S cs))) e

  pub open_free : is_none (binding_of S c) ≡ true → open_among T S (c ∷ cs) ≡ variable_at T S c ∷ open_among T S cs
  open_free e = ap (λ b. map (variable_at T S) (cond b (c ∷ unbound_of S cs) (unbound_of S cs))) e

-- cells that are bound as before
pub open_same : (T : Table) (S V : Contents) (cs : List CellId) → All (λ (d : CellId). (binding_of V d ≡ binding_of S d) × (cell_of V d ≡ cell_of S d)) cs → open_among T V cs ≡ open_among T S cs
open_same T S V [] all = refl
open_same T S V (d ∷ cs) all =
    let Same : CellId → Type 0 = λ d. (binding_of V d ≡ binding_of S d) × (cell_of V d ≡ cell_of S d) in
    let here = All-head Same d cs all in
    ap (λ o. map (variable_at T V) (cond (is_none o) (d ∷ unbound_of V cs) (unbound_of V cs))) here.0 ∙ go (open_same T S V cs (All-tail Same d cs all)) here.1 (is_none (binding_of S d))
  where
    go : open_among T V cs ≡ open_among T S cs → cell_of V d ≡ cell_of S d → (b : Bool) → map (variable_at T V) (cond b (d ∷ unbound_of V cs) (unbound_of V cs)) ≡ map (variable_at T S) (cond b (d ∷ unbound_of S cs) (unbound_of S cs))
    go rest cell true =
        ap (λ l. variable_at T V d ∷ l) rest ∙ ap (λ e. record { number = d.0; type = type_of T e.ty; name = e.hint } ∷ open_among T S cs) cell
    go rest cell false = rest

-- the cells behind one that is seen to are bound as before
pub later_same : (T : Table) (S V : Contents) → Grows T S T V → (c : CellId) (cs : List CellId) → All (HoldsCell S) cs → All (λ (d : CellId). c.0 < d.0) cs → ((d : CellId) → d.0 ≢ c.0 → binding_of V d ≡ binding_of S d)
    → open_among T V cs ≡ open_among T S cs
later_same T S V g c cs held behind others =
    open_same T S V cs (λ i d l. (
      others (get_or cs i d) (λ e. let less = behind i d l in omega (arith, less, e)),
      (g.cells (get_or cs i d) (held i d l)).1,
    ))

abbrev put : List tree.Nominal → List Variable → Read → Read
put ns ys F = one_by_one same_number (pairs_for ns ys) F

-- THE FIRST CELL IS SEEN TO, and the others are left
pub closed_step : (T : Table) (S V : Contents) (known next : List tree.Nominal) (c : CellId) (cs : List CellId) (t : TermId) → reading T V t ≡ closed_reading T S known (c ∷ []) t
    → next ≡ known ++ constants_for known (open_among T S (c ∷ [])) → open_among T V cs ≡ open_among T S cs → closed_reading T V next cs t ≡ closed_reading T S known (c ∷ cs) t
closed_step T S V known next c cs t reads names same = go (is_none (binding_of S c)) refl
  where
    go : (b : Bool) → is_none (binding_of S c) ≡ b → closed_reading T V next cs t ≡ closed_reading T S known (c ∷ cs) t
    go false e =
        let none : open_among T S (c ∷ []) ≡ [] = open_bound T S c [] e in
        ap (λ l. put next l (reading T V t)) same
        ∙ ap (λ k. put k (open_among T S cs) (reading T V t)) (names ∙ ap (λ l. known ++ constants_for known l) none ∙ append-nil known)
        ∙ ap (put known (open_among T S cs)) (reads ∙ ap (λ l. put known l (reading T S t)) none)
        ∙ ap (λ l. put known l (reading T S t)) (sym (open_bound T S c cs e))
    go true e =
        let one : open_among T S (c ∷ []) ≡ variable_at T S c ∷ [] = open_free T S c [] e in
        ap (λ l. put next l (reading T V t)) same
        ∙ ap (λ k. put k (open_among T S cs) (reading T V t)) (names ∙ ap (λ l. known ++ constants_for known l) one)
        ∙ ap (put (known ++ constants_for known (variable_at T S c ∷ [])) (open_among T S cs)) (reads ∙ ap (λ l. put known l (reading T S t)) one)
        ∙ ap (λ l. put known l (reading T S t)) (sym (open_free T S c cs e))

-- terms that are added change nothing
pub closed_same : (T : Table) (S W : Contents) → AddsTypedTerms T S W → (known : List tree.Nominal) (cs : List CellId) (t : TermId) → Holds S t → closed_reading T W known cs t ≡ closed_reading T S known cs t
closed_same T S W adds known cs t held =
    ap (λ l. one_by_one same_number (pairs_for known (map (variable_at T W) (filter (λ c. is_none (bound_in l c)) cs))) (reading T W t)) adds.before.bindings
    ∙ ap (λ l. one_by_one same_number (pairs_for known (map (λ (c : CellId). record { number = c.0; type = type_of T (cell_in l c).ty; name = (cell_in l c).hint }) (unbound_of S cs))) (reading T W t)) adds.cells
    ∙ ap (one_by_one same_number (pairs_for known (open_among T S cs))) (adds.before.readings T t held)

-- what stages stand for, by what their terms do
module _ (T : Table) (S : Contents) (f g : TermId → Read) (same : (t : TermId) → Holds S t → f t ≡ g t) where
  pub stage_alike : (s : Stage) → StageIsTyped T S s → stage_by T f s ≡ stage_by T g s
  stage_alike (Instance t) h = ap instance_by (same t h.1.0)
  stage_alike (Chosen a F) h = refl
  stage_alike Antecedent h = refl

  pub stages_alike : (ss : List Stage) → All (StageIsTyped T S) ss → map (stage_by T f) ss ≡ map (stage_by T g) ss
  stages_alike [] all = refl
  stages_alike (s ∷ ss) all =
      ap (λ p. p ∷ map (stage_by T f) ss) (stage_alike s (All-head (StageIsTyped T S) s ss all))
      ∙ ap (λ l. stage_by T g s ∷ l) (stages_alike ss (All-tail (StageIsTyped T S) s ss all))
