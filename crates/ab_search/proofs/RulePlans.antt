-- What is planned for a rule of a judgement stays possible while the world grows.
use Rattle.std.specs.List.{All}
use Rattle.std.proofs.Common.{◌≡◌, List, [], sym, ◌∙◌, subst}
use Rattle.std.proofs.lemmas.List.Elements.{All-head, All-weaker}
use Rattle.ab_term.specs.Types.{prop}
use Rattle.ab_term.specs.Typing.{HasType}
use Rattle.ab_norm.specs.ab_store.specs.declared.node.TermId.{TermId}
use Rattle.ab_formulas.specs.Declarations.{signature_in}
use Rattle.ab_formulas.specs.Formulas.{IsFormula}
use Rattle.ab_formulas.specs.Sequents.{IsSequent, formulas}
use Rattle.ab_logic.specs.SequentReadings.{sequent_of, HoldsSequent}
use Rattle.ab_logic.specs.Worlds.{IsWorld, Holds, read, declarations_of}
use Rattle.ab_logic.specs.WorldGrowth.{Grows}
use Rattle.ab_logic.specs.declared.sequent.Sequent.{Sequent as Kept}
use Rattle.ab_logic.specs.declared.world.World.{World}
use Rattle.ab_logic.proofs.Growing.{same_constants, grows_on}
use Rattle.ab_steps.specs.ab_kernel.specs.ab_judgements.specs.ab_alternatives.specs.ab_instances.proofs.Made.{names_held}
use Rattle.ab_search.specs.declared.assumed_rows.AssumedRow.{AssumedRow}
use Rattle.ab_search_paths.specs.declared.terms_of_rules.NameTerm.{NameTerm}
use Rattle.ab_search_paths.specs.declared.terms_of_rules.NameTerm.TheVariants.{Term, Bound}
use Rattle.ab_search_paths.specs.declared.entries.Entry.{Entry}
use Rattle.ab_search_paths.specs.declared.entries.RuleTaken.{RuleTaken}
use Rattle.ab_search_paths.specs.ab_walk.specs.ab_next_ways.specs.ab_search_ways.specs.GoalReadings.{IsFormulaIn}
use Rattle.ab_search_paths.specs.Frames.{IsLater}
use Rattle.ab_search_paths.specs.Parts.{HoldsPathFrom}
use Rattle.ab_search_paths.specs.Paths.{IsTermIn}
use Rattle.ab_search.specs.RulePlans.{NamesTerm, HoldsRow}
use Rattle.ab_search_paths.proofs.Staying.{term_then, entries_then}

-- a world grew twice
pub later_twice : (u w v : World) → Grows u w → declarations_of w ≡ declarations_of u → Grows w v → declarations_of v ≡ declarations_of w → IsLater u v
later_twice u w v g d h e = record { grows = grows_on u w v g h; declared = e ∙ d }

-- typed terms are there
pub terms_held : (w : World) (ts : List TermId) → All (IsTermIn w) ts → All (Holds w) ts
terms_held w ts all = All-weaker (IsTermIn w) (Holds w) (λ t h. h.1.0) ts all

-- THE PATH, AND A PLAN, in a world that grew
module _ (w v : World) (grows : Grows w v) where
  name_then : (n : NameTerm) → NamesTerm w n → NamesTerm v n
  name_then (Term t) h = grows.ids t h
  name_then (Bound n) h = tt

  pub row_then : (row : AssumedRow) → HoldsRow w row → HoldsRow v row
  row_then row h = record {
    constants = names_held w.types v.types grows.types row.constants.items h.constants;
    formula = grows.ids row.found.formula h.formula;
    names = All-weaker (NamesTerm w) (NamesTerm v) name_then row.found.names.items h.names;
  }

  pub path_then : declarations_of v ≡ declarations_of w → (r : RuleTaken) (es : List Entry) → HoldsPathFrom w r es → HoldsPathFrom v r es
  path_then declared r es h = record {
    values = All-weaker (IsTermIn w) (IsTermIn v) (term_then w v grows declared) r.values.items h.values;
    behind = entries_then w v grows declared es h.behind;
  }

-- the conclusion of a goal is a formula
pub conclusion_typed : (w : World) → IsWorld w → (s : Kept) → HoldsSequent w s → IsSequent (declarations_of w) (sequent_of w s) → IsFormulaIn w s.conclusion
conclusion_typed w is s held sequent = (
  held.conclusion,
  subst (λ sg. HasType sg [] (read w s.conclusion) prop) (sym (same_constants w is))
      (All-head (IsFormula (signature_in (declarations_of w))) (read w s.conclusion) (formulas (sequent_of w s).hypotheses) sequent.formulas).typed,
)
