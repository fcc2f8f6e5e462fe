-- What the program's rules by which a judgement may hold stand for, and WHAT A RULE DEMANDS ON SHARED TERMS.
use Rattle.std.specs.Prelude.{◌≡◌, ℕ, ◌+◌, List, [], ◌++◌, length, All, Contains, Some, IfSome}
use Rattle.std.specs.Option.{option_map}
use Rattle.ab_term.specs.Types.{o, olist}
use Rattle.ab_term.specs.Terms.{Terms, constant, spine, Read}
use Rattle.ab_norm.specs.ab_types.specs.Entries.{Table}
use Rattle.ab_norm.specs.ab_store.specs.Naming.{IsTerm}
use Rattle.ab_norm.specs.ab_store.specs.declared.node.Equation.{Equation}
use Rattle.ab_norm.specs.ab_store.specs.Trees as trees
use Rattle.ab_norm.specs.ab_store.specs.Trees.{Contents, tree_of}
use Rattle.ab_unifiers.specs.Clauses.{numbered}
use Rattle.ab_unify.specs.Problem.{cells_read, variables_read}
use Rattle.ab_unify.specs.UnifyAnswers.{IsTypedPair}
use Rattle.ab_logic.specs.Worlds.{read, clause_read, IsKeptProgramClause}
use Rattle.ab_logic.specs.declared.world.World.{World}
use Rattle.ab_theory.specs.Parts.{parts_of}
use Rattle.ab_theory.specs.SpecRules.{SpecRule, by_clause, by_list, by_opening, by_part, Demand}
use Rattle.ab_alternatives.specs.LeftAlternatives.{trees_from}
use Rattle.ab_judgement_forms.specs.PartReadings.{part_read, HoldsPart}
use Rattle.ab_judgement_forms.specs.declared.judgements.Judgement.{Judgement}
use Rattle.ab_judgements.specs.declared.demands.Rule.{Rule}
use Rattle.ab_judgements.specs.declared.demands.Rule.TheVariants.{Clause, Item, Opening, Part}
use Rattle.ab_judgements.specs.declared.demands.DemandTerm.{DemandTerm}

-- THE READING of a rule
abbrev pub rule_read : World → Rule → SpecRule
rule_read w (Clause c) = by_clause (clause_read w c)
rule_read w Item = by_list
rule_read w Opening = by_opening
rule_read w (Part p) = by_part (part_read w.types w.store p)

-- its list, the formula in focus and its goal are terms
pub record IsTypedJudgement (w : World) (j : Judgement) : Type 0 where
  pub context : IsTerm w.types w.store [] j.context olist
  pub focus : IfSome j.focus (λ F. IsTerm w.types w.store [] F o)
  pub goal : IsTerm w.types w.store [] j.goal o

-- THE RULE IS ONE FOR THE JUDGEMENT: a clause of the program is one for its goal's head, and a part is one of the formula in focus
abbrev pub IsRuleFor : World → Judgement → Rule → Type 0
IsRuleFor w j (Clause c) = IsKeptProgramClause w.types w.store c × (ts : Terms ℕ (List ℕ)) × (read w j.goal ≡ spine (constant (clause_read w c).predicate) ts)
IsRuleFor w j Item = Unit {0}
IsRuleFor w j Opening = Unit {0}
IsRuleFor w j (Part p) = HoldsPart w.types w.store p × (F : Read) × (option_map (read w) j.focus ≡ Some F) × Contains (parts_of F) (part_read w.types w.store p)

-- THIS IS WHAT IS DEMANDED: the new cells are those made in passing and the own ones, and the equations and the body stand over them
pub record IsDemandMade (types : Table) (store : Contents) (d : Demand) (more : Table) (now : Contents) (made : DemandTerm) : Type 0 where
  pub cells : cells_read more now ≡ (cells_read types store ++ d.passing) ++ d.own
  pub own : variables_read more now made.own.items ≡ numbered (length store.cells + length d.passing) d.own
  pub equations : trees_from more now 0 made.equations.items ≡ d.equations
  pub typed : All (IsTypedPair more now) made.equations.items
  pub held : trees.Holds now made.body
  pub body : tree_of more now made.body ≡ d.body

-- the same, from one world to a later one
abbrev pub IsDemanded : World → Demand → World → DemandTerm → Type 0
IsDemanded w d v made = IsDemandMade w.types w.store d v.types v.store made

-- all of it but that the equations are typed. Public contracts don't speak of it.
pub record IsDemandTerm (types : Table) (store : Contents) (d : Demand) (more : Table) (now : Contents) (made : DemandTerm) : Type 0 where
  pub cells : cells_read more now ≡ (cells_read types store ++ d.passing) ++ d.own
  pub own : variables_read more now made.own.items ≡ numbered (length store.cells + length d.passing) d.own
  pub equations : trees_from more now 0 made.equations.items ≡ d.equations
  pub sides_held : All (λ (e : Equation). trees.Holds now e.left × trees.Holds now e.right) made.equations.items
  pub held : trees.Holds now made.body
  pub body : tree_of more now made.body ≡ d.body
