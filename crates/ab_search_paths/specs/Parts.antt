-- What a world holds of an atom, and of a rule, whose open names are looked for, and of what the path has for these.
use Rattle.std.specs.Prelude.{◌≡◌, List, Some, All}
use Rattle.ab_term.specs.Terms.{Read}
use Rattle.ab_formulas.specs.Declarations.{signature_in}
use Rattle.ab_formulas.specs.Formulas.{IsFormula}
use Rattle.ab_logic.specs.Worlds.{declarations_of}
use Rattle.ab_logic.specs.declared.world.World.{World}
use Rattle.ab_theory.specs.Atoms.{defined_atom}
use Rattle.ab_walk.specs.ab_next_ways.specs.ab_judgements.specs.ab_alternatives.specs.AtomReadings.{defined_read}
use Rattle.ab_walk.specs.ab_next_ways.specs.ab_judgements.specs.ab_alternatives.specs.declared.atoms.DefinedAtom.{DefinedAtom}
use Rattle.ab_walk.specs.ab_next_ways.specs.ab_judgements.specs.ab_judgement_forms.specs.PartReadings.{HoldsPart}
use Rattle.ab_walk.specs.ab_next_ways.specs.ab_judgements.specs.declared.demands.Rule.{Rule as Kept}
use Rattle.ab_walk.specs.ab_next_ways.specs.ab_judgements.specs.declared.demands.Rule.TheVariants.{Part}
use Rattle.ab_search_paths.specs.declared.entries.Entry.{Entry}
use Rattle.ab_search_paths.specs.declared.entries.RuleTaken.{RuleTaken}
use Rattle.ab_search_paths.specs.declared.terms_of_rules.NameTerm.{NameTerm}
use Rattle.ab_search_paths.specs.declared.terms_of_rules.NameTerm.TheVariants.{Term, Bound}
use Rattle.ab_search_paths.specs.declared.terms_of_rules.Assumed.{Assumed as Hypothesis}
use Rattle.ab_search_paths.specs.declared.terms_of_rules.RuleTerms.{RuleTerms}
use Rattle.ab_search_paths.specs.declared.terms_of_rules.RuleTerms.TheVariants.{Given, Assumed}
use Rattle.ab_search_paths.specs.Paths.{IsTermIn, IsFormulaIn, HoldsEntry}

-- some formula is the atom
abbrev pub IsOfFormula : World → DefinedAtom → Type 0
IsOfFormula w a = (F : Read) × IsFormula (signature_in (declarations_of w)) F × (defined_atom (declarations_of w) F ≡ Some (defined_read w a))

-- what a part names is there
abbrev pub HoldsRule : World → Kept → Type 0
HoldsRule w (Part p) = HoldsPart w.types w.store p
HoldsRule w _ = Unit {0}

-- the terms of a rule of the path, and the entries behind it, are there
pub record HoldsPathFrom (w : World) (r : RuleTaken) (es : List Entry) : Type 0 where
  pub values : All (IsTermIn w) r.values.items
  pub behind : All (HoldsEntry w) es

-- a term for a name is there
abbrev pub HoldsNameTerm : World → NameTerm → Type 0
HoldsNameTerm w (Term t) = IsTermIn w t
HoldsNameTerm w (Bound n) = Unit {0}

-- the hypothesis's formula, and the terms for names, are there
pub record HoldsAssumed (w : World) (a : Hypothesis) : Type 0 where
  pub formula : IsFormulaIn w a.formula
  pub names : All (HoldsNameTerm w) a.names.items

-- what the path has for the open names is there
abbrev pub HoldsRuleTerms : World → RuleTerms → Type 0
HoldsRuleTerms w (Given terms ways) = All (IsTermIn w) terms.items
HoldsRuleTerms w (Assumed a) = HoldsAssumed w a
