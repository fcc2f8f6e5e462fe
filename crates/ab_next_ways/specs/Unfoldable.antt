-- Whether a goal's conclusion may be unfolded, and whether the search goes on from it by rules. Public contracts don't speak of it.
use Rattle.std.specs.Prelude.{◌≡◌, ◌≤◌, [], Option, Some, None, true, false}
use Rattle.ab_logic.specs.Worlds.{read, declarations_of}
use Rattle.ab_logic.specs.declared.world.World.{World}
use Rattle.ab_theory.specs.Atoms.{defined_atom}
use Rattle.ab_theory.specs.Judgements.{as_judgement}
use Rattle.ab_theory.specs.Opening.{kind_of}
use Rattle.ab_judgements.specs.ab_alternatives.specs.AtomReadings.{defined_read, HoldsDefined}
use Rattle.ab_judgements.specs.ab_alternatives.specs.declared.atoms.DefinedAtom.{DefinedAtom}
use Rattle.ab_judgements.specs.DemandReadings.{IsTypedJudgement}
use Rattle.ab_judgements.specs.ab_judgement_forms.specs.JudgementReadings.{judgement_read, HoldsJudgement}
use Rattle.ab_judgements.specs.SubjectReadings.{HasRules}
use Rattle.ab_judgements.specs.ab_judgement_forms.specs.declared.judgements.Judgement.{Judgement}
use Rattle.ab_judgements.specs.declared.subjects.Subject.TheVariants.{Judgement as AJudgement}
use Rattle.ab_search_trees.specs.Goals as tree
use Rattle.ab_search_trees.specs.Goals.{Now}
use Rattle.ab_search_trees.specs.Judgements.{opens_by_layers}
use Rattle.ab_search_trees.specs.Ways.{unfolds, by_definition, by_judgement}
use Rattle.ab_search_ways.specs.declared.goal.Goal.{Goal}

-- the conclusion is this atom, which is defined and may be unfolded to the depth
pub record MayUnfold (w : World) (k : Goal) (a : DefinedAtom) : Type 0 where
  pub held : HoldsDefined w a
  pub reads : defined_atom (declarations_of w) (read w k.conclusion) ≡ Some (defined_read w a)
  pub unfolds : unfolds (defined_read w a).sign ≡ true
  pub deep : 1 ≤ k.depth

-- or there is no way by a definition
abbrev pub IsUnfoldable : World → Goal → Option DefinedAtom → Type 0
IsUnfoldable w k None = (now : Now) (g : tree.Goal) → by_definition (declarations_of w) now g k.depth (defined_atom (declarations_of w) (read w k.conclusion)) ≡ []
IsUnfoldable w k (Some a) = MayUnfold w k a

-- the conclusion is this judgement, which may be unfolded to the depth, and is opened by rules that are known
pub record HasRuleWays (w : World) (k : Goal) (j : Judgement) : Type 0 where
  pub held : HoldsJudgement w j
  pub typed : IsTypedJudgement w j
  pub known : HasRules w (AJudgement j)
  pub reads : as_judgement (read w k.conclusion) ≡ Some (judgement_read w j)
  pub unfolds : unfolds (judgement_read w j).sign ≡ true
  pub by_rules : opens_by_layers (judgement_read w j).focus (kind_of (judgement_read w j).goal) ≡ false
  pub deep : 1 ≤ k.depth

-- or there is no way by a rule
abbrev pub GoesByRules : World → Goal → Option Judgement → Type 0
GoesByRules w k None = (now : Now) (g : tree.Goal) → by_judgement (declarations_of w) now g k.depth (as_judgement (read w k.conclusion)) ≡ []
GoesByRules w k (Some j) = HasRuleWays w k j
