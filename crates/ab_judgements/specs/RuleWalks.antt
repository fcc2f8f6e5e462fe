-- Where the rules of a judgement are looked for: at places, of which the last alone may have none.
use Rattle.std.specs.Prelude.{◌≡◌, ℕ, List, [], ◌∷◌, ◌++◌, map, All, Option, Some, None, if◌then◌else◌, slice_get}
use Rattle.std.specs.List.{filter_map}
use Rattle.std.specs.Option.{option_and_then, option_map}
use Rattle.ab_term.specs.Terms.{Read}
use Rattle.ab_norm.specs.Nominals.{HoldsNominal}
use Rattle.ab_unifiers.specs.Clauses.{Clause}
use Rattle.ab_alternatives.specs.ab_instances.specs.ListReadings.{names_read}
use Rattle.ab_formulas.specs.Programs.{program_in}
use Rattle.ab_logic.specs.Additions.{clause_at_place}
use Rattle.ab_logic.specs.Worlds.{IsWorld, read, clause_read, declarations_of}
use Rattle.ab_logic.specs.declared.world.World.{World}
use Rattle.ab_theory.specs.Judgements.{constants_of}
use Rattle.ab_theory.specs.Parts.{parts_of}
use Rattle.ab_theory.specs.SpecRules.{SpecRule, by_clause, by_list, by_opening, by_part, clauses_for, is_nil, rules_of}
use Rattle.ab_judgements.specs.DemandReadings.{IsTypedJudgement}
use Rattle.ab_judgement_forms.specs.JudgementReadings.{judgement_read}
use Rattle.ab_judgement_forms.specs.PartReadings.{part_read, HoldsPart}
use Rattle.ab_judgement_forms.specs.declared.focus_parts.Part.{Part}
use Rattle.ab_judgement_forms.specs.declared.judgements.Judgement.{Judgement}
use Rattle.ab_judgements.specs.declared.rule_places.Source.{Source}
use Rattle.ab_judgements.specs.declared.rule_places.Source.TheVariants.{Program, Goal, Focus}
use Rattle.ab_judgements.specs.declared.rule_places.Ruled.{Ruled}

-- the clauses of the program for the atom, in order
abbrev pub clauses_of : World → Read → List (Clause (List ℕ))
clauses_of w A = clauses_for A (program_in (declarations_of w))

-- the clause of the program at a place of what was added, if one stands there
abbrev pub clause_there : World → ℕ → Option (Clause (List ℕ))
clause_there w place = option_map (clause_read w) (clause_at_place w.additions place)

abbrev pub list_slot : Read → Option SpecRule
list_slot L = if is_nil L then None else Some by_list

-- THE PLACES, in order
abbrev pub slots : World → Judgement → Source → List (Option SpecRule)
slots w j Program = map (λ c. Some (by_clause c)) (clauses_of w (read w j.goal)) ++ list_slot (read w j.context) ∷ []
slots w j Goal = Some by_opening ∷ []
slots w j (Focus ps) = map (λ p. Some (by_part (part_read w.types w.store p))) ps.items ++ None ∷ []

-- the rules at places
abbrev pub rules_in : List (Option SpecRule) → List SpecRule
rules_in = filter_map (λ r. r)

-- the rule at a place, if one stands there
abbrev pub rule_in : List (Option SpecRule) → ℕ → Option SpecRule
rule_in rs place = option_and_then (λ r. r) (slice_get rs place)

-- these are there, and are the parts of the formula in focus
abbrev pub AreParts : World → Judgement → List Part → Type 0
AreParts w j ps = All (HoldsPart w.types w.store) ps × (F : Read) × (option_map (read w) j.focus ≡ Some F) × (map (part_read w.types w.store) ps ≡ parts_of F)

abbrev pub IsSource : World → Judgement → Source → Type 0
IsSource w j (Focus ps) = AreParts w j ps.items
IsSource w j _ = Unit {0}

-- these are the rules of the judgement
abbrev pub HasListed : World → Judgement → List SpecRule → Type 0
HasListed w j rs = rules_of (program_in (declarations_of w)) (judgement_read w j) ≡ Some rs

-- they are those at places
abbrev pub HasRulesAt : World → Judgement → Source → Type 0
HasRulesAt w j src = HasListed w j (rules_in (slots w j src))

-- THESE ARE A JUDGEMENT, its constants and the places of its rules
pub record IsRuled (w : World) (r : Ruled) : Type 0 where
  pub world : IsWorld w
  pub typed : IsTypedJudgement w r.judgement
  pub constants : names_read w.types r.constants.items ≡ constants_of (judgement_read w r.judgement)
  pub constants_held : All (HoldsNominal w.types) r.constants.items
  pub source : IsSource w r.judgement r.source
  pub rules : HasRulesAt w r.judgement r.source
