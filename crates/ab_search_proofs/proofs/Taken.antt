-- A step of which the premises are told is allowed.
use Rattle.std.proofs.Common.{ℕ, List}
use Rattle.ab_unifiers.specs.Replacements.{Cell}
use Rattle.ab_formulas.specs.Declarations.{Declarations}
use Rattle.ab_formulas.specs.Sequents.{Sequent}
use Rattle.ab_theory.specs.Equations.{AreCells}
use Rattle.ab_theory.specs.Steps.{Step}
use Rattle.ab_theory.specs.Row.{Takes}
use Rattle.ab_theory.specs.Rules.{row, any_name, Stuck}
use Rattle.ab_theory.proofs.OneAnswer.{never_both}
use Rattle.ab_search_proofs.specs.Taking.{LeadsTo}

abbrev Cells : Type 0
Cells = List (Cell (List ℕ))

pub leads_to : (D : Declarations) (step : Step) (s : Sequent) (P : List Sequent → Type 0)
    → ((cells : Cells) → AreCells cells s → (ps : List Sequent) × Takes (row D (any_name cells) step s) ps)
    → ((cells : Cells) → AreCells cells s → (i : ℕ) → Stuck D cells step s i → ⊥)
    → ((cells : Cells) → AreCells cells s → (ps : List Sequent) → Takes (row D (any_name cells) step s) ps → P ps)
    → LeadsTo D step s P
leads_to D step s P some within all = record {
  allowed = λ cells are i f. let t = some cells are in never_both (row D (any_name cells) step s) t.0 i t.1 f;
  within = within;
  some = some;
  all = λ ps rule. all rule.0 rule.1 ps rule.2;
}
