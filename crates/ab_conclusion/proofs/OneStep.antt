-- The commands that are one step: the row of the command and the row of the rule are one.
use Rattle.std.proofs.Common.{inl, inr, ℕ, List, true, false, refl}
use Rattle.ab_grammar.specs.CommandTrees.{split, left, right, skip}
use Rattle.ab_unifiers.specs.Replacements.{Cell}
use Rattle.ab_formulas.specs.Declarations.{Declarations}
use Rattle.ab_formulas.specs.NewNames.{Label}
use Rattle.ab_formulas.specs.Sequents.{Sequent}
use Rattle.ab_theory.specs.Steps as plain
use Rattle.ab_theory.specs.Rules.{NamedRule, Fails}
use Rattle.ab_effects.specs.ProofCommands.{effect}
use Rattle.ab_meaning.specs.Refusals.{wrong_shape}
use Rattle.ab_effects.specs.Row.{Leads, Refuses}

pub split_leads : (D : Declarations) (l : Label) (s : Sequent) (ps : List Sequent) → NamedRule D plain.and_right s ps → Leads (effect D l split s) ps
split_leads D l s ps rule = rule.2

pub split_fails : (D : Declarations) (cells : List (Cell (List ℕ))) (l : Label) (s : Sequent) (i : ℕ) → Fails D cells plain.and_right s i → Refuses (effect D l split s) wrong_shape
split_fails D cells l s i (inl f) = inl (f.0, refl)
split_fails D cells l s i (inr f) = absurd f.2

pub left_leads : (D : Declarations) (l : Label) (s : Sequent) (ps : List Sequent) → NamedRule D (plain.or_right true) s ps → Leads (effect D l left s) ps
left_leads D l s ps rule = rule.2

pub left_fails : (D : Declarations) (cells : List (Cell (List ℕ))) (l : Label) (s : Sequent) (i : ℕ) → Fails D cells (plain.or_right true) s i → Refuses (effect D l left s) wrong_shape
left_fails D cells l s i (inl f) = inl (f.0, refl)
left_fails D cells l s i (inr f) = absurd f.2

pub right_leads : (D : Declarations) (l : Label) (s : Sequent) (ps : List Sequent) → NamedRule D (plain.or_right false) s ps → Leads (effect D l right s) ps
right_leads D l s ps rule = rule.2

pub right_fails : (D : Declarations) (cells : List (Cell (List ℕ))) (l : Label) (s : Sequent) (i : ℕ) → Fails D cells (plain.or_right false) s i → Refuses (effect D l right s) wrong_shape
right_fails D cells l s i (inl f) = inl (f.0, refl)
right_fails D cells l s i (inr f) = absurd f.2

pub skip_leads : (D : Declarations) (l : Label) (s : Sequent) (ps : List Sequent) → NamedRule D plain.skip s ps → Leads (effect D l skip s) ps
skip_leads D l s ps rule = rule.2
