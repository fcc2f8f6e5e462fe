-- A goal with the bindings put in.
use Rattle.std.specs.List.{All}
use Rattle.std.specs.Prelude.{filter, is_none}
use Rattle.std.proofs.Common.{◌≡◌, ℕ, List, [], ◌∷◌, map, Bool, true, false, cond, refl, sym, ◌∙◌, ap, subst}
use Rattle.std.proofs.lemmas.List.Elements.{All-filter, All-weaker}
use Rattle.ab_norm.specs.ab_types.specs.Entries.{Table}
use Rattle.ab_norm.specs.ab_types.specs.Ids.{type_of}
use Rattle.ab_norm.specs.ab_store.specs.declared.node.TermId.{TermId}
use Rattle.ab_norm.specs.ab_store.specs.declared.node.CellId.{CellId}
use Rattle.ab_norm.specs.ab_store.specs.declared.node.CellEntry.{CellEntry}
use Rattle.ab_norm.specs.ab_store.specs.Trees.{Contents, Holds, HoldsCell, cell_in, tree_of}
use Rattle.ab_norm.specs.ab_store.specs.Reading.{binding_of, reading}
use Rattle.ab_norm.specs.NodeGrowth.{AddsTerms}
use Rattle.ab_formulas.specs.Sequents.{Hypothesis}
use Rattle.ab_logic.specs.Worlds.{read, variable_of}
use Rattle.ab_logic.specs.SequentReadings.{hypothesis_of, HoldsSequent}
use Rattle.ab_logic.specs.declared.world.World.{World}
use Rattle.ab_logic.specs.declared.additions.Added.{Added}
use Rattle.ab_logic.specs.declared.sequent.Sequent.{Sequent as Kept}
use Rattle.ab_logic.specs.declared.sequent.Hypothesis.{Hypothesis as KeptHypothesis}
use Rattle.ab_logic.proofs.Growing.{map_same}
use Rattle.ab_equations.specs.Meanwhile.{is_left, unbound_of, put_in, hypothesis_at, hypothesis_read, IsPutIn}

-- the cells that are left, as variables
pub left_variables : (w : World) (s : Contents) (cs : List CellId) → map (variable_of w) (unbound_of s cs) ≡ filter (is_left s) (map (variable_of w) cs)
left_variables w s [] = refl
left_variables w s (c ∷ cs) = go (is_none (binding_of s c)) (left_variables w s cs)
  where
    go : (b : Bool) → map (variable_of w) (unbound_of s cs) ≡ filter (is_left s) (map (variable_of w) cs)
        → map (variable_of w) (cond b (c ∷ unbound_of s cs) (unbound_of s cs)) ≡ cond b (variable_of w c ∷ filter (is_left s) (map (variable_of w) cs)) (filter (is_left s) (map (variable_of w) cs))
    go true e = ap (λ l. variable_of w c ∷ l) e
    go false e = e

put_in_all : (w : World) (hs : List KeptHypothesis) → map (hypothesis_read w.types w.store) hs ≡ map (λ (h : Hypothesis). record { name = h.name; formula = put_in w h.formula }) (map (hypothesis_of w) hs)
put_in_all w [] = refl
put_in_all w (h ∷ hs) = ap (λ l. hypothesis_read w.types w.store h ∷ l) (put_in_all w hs)

module _ (types : Table) (old mid now : Contents) (ts : List Added) (s : Kept) (first : AddsTerms old mid) (more : AddsTerms mid now)
    (variables : List CellId) (hypotheses : List KeptHypothesis) (conclusion : TermId) (counter : ℕ)
    (kept : variables ≡ unbound_of old s.variables) (held_hypotheses : All (λ (h : KeptHypothesis). Holds mid h.formula) hypotheses) (held_conclusion : Holds now conclusion) where
  abbrev w : World
  w = record { types = types; store = old; additions = ts }

  abbrev v : World
  v = record { types = types; store = now; additions = ts }

  abbrev g : Kept
  g = record { variables = variables; hypotheses = hypotheses; conclusion = conclusion; counter = counter }

  pub put_in_held : All (HoldsCell old) s.variables → HoldsSequent v g
  put_in_held cells = record {
    variables = subst (All (HoldsCell now)) (sym kept)
        (All-filter (λ c. is_none (binding_of old c)) (HoldsCell now) s.variables
        (All-weaker (HoldsCell old) (HoldsCell now) (λ c h. more.before.cell_ids c (first.before.cell_ids c h)) s.variables cells));
    hypotheses = All-weaker (λ (h : KeptHypothesis). Holds mid h.formula) (λ (h : KeptHypothesis). Holds now h.formula) (λ h. more.before.ids h.formula) hypotheses held_hypotheses;
    conclusion = held_conclusion;
  }

  pub is_put_in : HoldsSequent w s → counter ≡ s.counter → map (hypothesis_at types mid) hypotheses ≡ map (hypothesis_read types old) s.hypotheses → tree_of types now conclusion ≡ reading types mid s.conclusion → IsPutIn w s v g
  is_put_in held count reads tree =
      let cells : now.cells ≡ old.cells = more.cells ∙ first.cells in
      let xs : map (variable_of v) variables ≡ filter (is_left old) (map (variable_of w) s.variables) =
      ap (λ (es : List CellEntry). map (λ (c : CellId). record { number = c.0; type = type_of types (cell_in es c).ty; name = (cell_in es c).hint }) variables) cells
      ∙ ap (map (variable_of w)) kept
      ∙ left_variables w old s.variables in
      let hs : map (hypothesis_of v) hypotheses ≡ map (λ (h : Hypothesis). record { name = h.name; formula = put_in w h.formula }) (map (hypothesis_of w) s.hypotheses) =
      map_same (hypothesis_at types now) (hypothesis_at types mid) (λ (h : KeptHypothesis). Holds mid h.formula) (λ h k. ap (λ F. record { name = h.name; formula = F }) (more.before.trees types h.formula k)) hypotheses held_hypotheses
      ∙ reads
      ∙ put_in_all w s.hypotheses in
      let c : read v conclusion ≡ put_in w (read w s.conclusion) = tree ∙ first.before.readings types s.conclusion held.conclusion in
      ap (λ zs. record { variables = zs; hypotheses = map (hypothesis_of v) hypotheses; conclusion = read v conclusion; counter = counter }) xs
      ∙ ap (λ zs. record { variables = filter (is_left old) (map (variable_of w) s.variables); hypotheses = zs; conclusion = read v conclusion; counter = counter }) hs
      ∙ ap (λ t. record { variables = filter (is_left old) (map (variable_of w) s.variables); hypotheses = map (λ (h : Hypothesis). record { name = h.name; formula = put_in w h.formula }) (map (hypothesis_of w) s.hypotheses); conclusion = t; counter = counter }) c
      ∙ ap (λ n. record { variables = filter (is_left old) (map (variable_of w) s.variables); hypotheses = map (λ (h : Hypothesis). record { name = h.name; formula = put_in w h.formula }) (map (hypothesis_of w) s.hypotheses); conclusion = put_in w (read w s.conclusion); counter = n }) count
