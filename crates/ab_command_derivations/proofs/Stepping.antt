-- The proof commands that are one step, step by step: what the row asks is what the rule asks.
use Rattle.std.specs.Prelude.{codes, if◌then◌else◌, is_some, slice_get}
use Rattle.std.specs.Option.{IsSome}
use Rattle.std.proofs.Common.{◌≡◌, ℕ, List, [], ◌∷◌, ◌++◌, length, true, false, Option, Some, None, refl, sym, ◌∙◌, ap, subst}
use Rattle.ab_term.specs.Types.{olist}
use Rattle.ab_term.specs.Terms.{Read}
use Rattle.ab_grammar.specs.CommandTrees as command
use Rattle.ab_grammar.specs.CommandTrees.{ProofCommand}
use Rattle.ab_formulas.specs.Declarations.{Declarations}
use Rattle.ab_formulas.specs.Marks.{star_of, at_of, plus_of, hash_of}
use Rattle.ab_formulas.specs.NewNames.{Label, auto, given}
use Rattle.ab_formulas.specs.Sequents.{Sequent, IsSequent, IsUsed, formula_of, proving, assuming}
use Rattle.ab_unifiers.specs.Replacements.{Cell}
use Rattle.ab_theory.specs.Derivations.{Debt, debts_of}
use Rattle.ab_theory.specs.Equations.{AreCells}
use Rattle.ab_theory.specs.Rules.{Rule}
use Rattle.ab_theory.specs.Conjuncts.{conjuncts, with_parts}
use Rattle.ab_theory.specs.Induction.{marked_antecedents, marked_consequents}
use Rattle.ab_theory.specs.Levels.{next_level, inductive_level, coinductive_level}
use Rattle.ab_theory.specs.Row as rule
use Rattle.ab_theory.specs.Row.{labelled_each, Takes}
use Rattle.ab_theory.specs.Steps.{Step, and_right, or_right, exists_right, definition_right, induction, coinduction, cut_formula, spec_cut, spec_monotone, skip}
use Rattle.ab_theory.specs.Subjects.{ways_of}
use Rattle.ab_meaning.specs.Refusals.{clash}
use Rattle.ab_effects.specs.Debts.{debts_at}
use Rattle.ab_effects.specs.ProofCommands.{effect, clashing, IsNamedBy, hypotheses_named}
use Rattle.ab_effects.specs.Row.{Row, leads, Leads}
use Rattle.ab_search_proofs.proofs.Places.{some_cells}
use Rattle.ab_command_derivations.specs.Readings.{ReadingsFit}

-- what stands behind others stands at their number
behind_others : {X : Type 0} (before after : List X) (x : X) → slice_get (before ++ x ∷ after) (length before) ≡ Some x
behind_others [] after x = refl
behind_others (y ∷ before) after x = behind_others before after x

at_place : {X : Type 0} (before after : List X) (x : X) (xs : List X) → xs ≡ before ++ x ∷ after → slice_get xs (length before) ≡ Some x
at_place before after x xs e = ap (λ ys. slice_get ys (length before)) e ∙ behind_others before after x

-- NAMES OF HYPOTHESES OF INDUCTION

-- a label that doesn't clash is in use by no hypothesis
pub free_label : (x : List ℕ) (s : Sequent) → clashing (given x) s ≡ None → ¬ IsUsed s x
free_label x s e = by_used (formula_of s x) e
  where
    by_used : (o : Option Read) → (if is_some o then Some (clash x) else None) ≡ None → ¬ IsSome o
    by_used None e used = absurd (cc)
    by_used (Some F) e used = absurd (cc)

-- the name that the word or the label gives is in use by none
new_name : (word : List ℕ) (l : Label) (s : Sequent) (name : List ℕ) → clashing l s ≡ None → IsNamedBy word l s name → ¬ IsUsed s name
new_name word auto s name e is = subst (λ n. ¬ IsUsed s n) (sym is.2) is.1.has
new_name word (given x) s name e is = subst (λ n. ¬ IsUsed s n) (sym is) (free_label x s e)

-- hypotheses that are named by a word are named by labels
record ByLabels (Fs : List Read) (s : Sequent) (k : Sequent → rule.Row) (ps : List Sequent) : Type 0 where
  labels : List Label
  takes : Takes (labelled_each 3 labels Fs s k) ps

by_labels : (word : List ℕ) (l : Label) (Fs : List Read) (s : Sequent) (k : Sequent → Row) (j : Sequent → rule.Row) (ps : List Sequent) → clashing l s ≡ None
    → ((t : Sequent) → Leads (k t) ps → Takes (j t) ps) → Leads (hypotheses_named word l Fs s k) ps → ByLabels Fs s j ps
by_labels word l [] s k j ps e same h = record { labels = []; takes = same s h }
by_labels word l (F ∷ Fs) s k j ps e same h =
    let rest = by_labels word auto Fs (assuming h.0 F s) k j ps refl same h.2 in
    record { labels = given h.0 ∷ rest.labels; takes = (h.0, s, (new_name word l s h.0 e h.1, refl, refl), rest.takes) }

-- THE PROOF COMMANDS THAT ARE ONE STEP of the logic
abbrev pub IsOneStep : ProofCommand → Type 0
IsOneStep command.split = Unit {0}
IsOneStep command.left = Unit {0}
IsOneStep command.right = Unit {0}
IsOneStep (command.exists e) = Unit {0}
IsOneStep (command.assert e) = Unit {0}
IsOneStep (command.induction ns) = Unit {0}
IsOneStep command.coinduction = Unit {0}
IsOneStep (command.cut H K) = Unit {0}
IsOneStep (command.monotone H e) = Unit {0}
IsOneStep command.skip = Unit {0}
IsOneStep command.unfold_goal = Unit {0}
IsOneStep _ = ⊥

-- a step of the logic takes the goal to these, and owes just this
pub record IsTakenTo (D : Declarations) (s : Sequent) (ps : List Sequent) (owed : List Debt) : Type 0 where
  pub step : Step
  pub rule : Rule D step s ps
  pub owes : debts_of step ≡ owed

module _ (D : Declarations) (fit : ReadingsFit D) (s : Sequent) (is : IsSequent D s) where
  abbrev at : (cells : List (Cell (List ℕ))) × AreCells cells s
  at = some_cells s is.numbers_differ

  pub followed : (l : Label) (c : ProofCommand) (ps : List Sequent) → IsOneStep c → Leads (effect D l c s) ps → IsTakenTo D s ps (debts_at s c)
  followed l command.split ps one h = record { step = and_right; rule = (at.0, at.1, h); owes = refl }
  followed l command.left ps one h = record { step = or_right true; rule = (at.0, at.1, h); owes = refl }
  followed l command.right ps one h = record { step = or_right false; rule = (at.0, at.1, h); owes = refl }
  followed l (command.exists e) ps one (q, is_one, (t, means, so)) =
      record { step = exists_right t; rule = (at.0, at.1, (q, is_one, (fit s e q.0 t is.one_type means, so))); owes = refl }
  followed l (command.assert e) ps one (free, (F, asserts, (p, names, so))) =
      record { step = cut_formula F l; rule = (at.0, at.1, ((fit s e _ F is.one_type asserts.0, asserts.1), (p.0, p.1, names, so))); owes = refl }
  followed l (command.induction ns) ps one h =
      let i = next_level inductive_level s in
      let Fs = conjuncts s.conclusion in
      let C = with_parts (marked_antecedents ns (at_of i) Fs) s.conclusion in
      let by = by_labels (codes "IH") l (marked_antecedents ns (star_of i) Fs) s (λ t. leads (proving C t ∷ [])) (λ t. rule.leads (proving C t ∷ [])) ps h.0 (λ t k. k) h.1.2.2 in
      record { step = induction ns by.labels; rule = (at.0, at.1, (h.1.0, h.1.1, (h.1.2.1, by.takes))); owes = refl }
  followed l command.coinduction ps one h =
      let i = next_level coinductive_level s in
      let Fs = conjuncts s.conclusion in
      let C = with_parts (marked_consequents (hash_of i) Fs) s.conclusion in
      let by = by_labels (codes "CH") l (marked_consequents (plus_of i) Fs) s (λ t. leads (proving C t ∷ [])) (λ t. rule.leads (proving C t ∷ [])) ps h.0 (λ t k. k) h.1.2.2 in
      record { step = coinduction by.labels; rule = (at.0, at.1, (h.1.0, h.1.1, (h.1.2.1, by.takes))); owes = refl }
  followed l (command.cut H K) ps one h =
      let second = h.1.2 in
      let focus = second.2 in
      let other = focus.2 in
      let list = other.2 in
      let n = list.2 in
      record {
        step = spec_cut H K l;
        rule = (at.0, at.1, (h.1.0, h.1.1, (second.0, second.1, (focus.0, focus.1, (other.0, other.1, (list.0, list.1, (n.0.0, n.0.1, n.1, n.2)))))));
        owes = refl;
      }
  followed l (command.monotone H e) ps one h =
      let found = h.1.2 in
      let focus = found.2 in
      let n = focus.2 in
      record {
        step = spec_monotone H h.1.0 l;
        rule = (at.0, at.1, (found.0, found.1, (focus.0, focus.1, (fit s e olist h.1.0 is.one_type h.1.1, (n.0.0, n.0.1, n.1, n.2)))));
        owes = refl;
      }
  followed l command.skip ps one h = record { step = skip; rule = (at.0, at.1, h); owes = refl }
  followed l command.unfold_goal ps one h =
      let unfolded = h.2.2.1 in
      let way = at_place unfolded.first.0 unfolded.first.1 unfolded.way (ways_of s h.0) unfolded.first.2 in
      record {
        step = definition_right (length unfolded.first.0);
        rule = (unfolded.cells, unfolded.are_cells, (h.0, h.1, (h.2.1, (unfolded.way, way, (unfolded.more, unfolded.answer, unfolded.matched.0, h.2.2.2 ∙ ap (λ g. g ∷ []) unfolded.goal)))));
        owes = refl;
      }
  followed l (command.intros xs) ps one h = absurd one
  followed l (command.case H keep) ps one h = absurd one
  followed l (command.apply H vs is_given) ps one h = absurd one
  followed l (command.backchain H is_given) ps one h = absurd one
  followed l (command.inst H is_given) ps one h = absurd one
  followed l (command.search n) ps one h = absurd one
  followed l command.split_all ps one h = absurd one
  followed l (command.clear Hs) ps one h = absurd one
  followed l (command.rename H x) ps one h = absurd one
  followed l (command.permute ns x) ps one h = absurd one
