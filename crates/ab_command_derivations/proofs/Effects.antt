-- EACH EFFECT IS DERIVED, command by command.
use Rattle.std.specs.Prelude.{All, IfSome, nat_lt}
use Rattle.std.proofs.Common.{◌≡◌, ◌≤◌, ℕ, suc, List, [], ◌∷◌, ◌++◌, map, length, false, Option, Some, None, refl, sym, ◌∙◌, ap, subst, arith, append-nil}
use Rattle.std.proofs.lemmas.List.Elements.{All-nil, All-cons}
use Rattle.ab_term.specs.Names.{support, HasOneTypeEach, permute}
use Rattle.ab_term.specs.Terms.{Read}
use Rattle.ab_term.proofs.Lists.{Contains-here, Contains-there}
use Rattle.ab_grammar.specs.CommandTrees as command
use Rattle.ab_grammar.specs.CommandTrees.{ProofCommand, Argument}
use Rattle.ab_formulas.specs.Cycles.{cycle}
use Rattle.ab_formulas.specs.Declarations.{Declarations, signature_in}
use Rattle.ab_formulas.specs.Forms.{form_of}
use Rattle.ab_formulas.specs.Marks.{plain}
use Rattle.ab_formulas.specs.NamedGoals.{named}
use Rattle.ab_formulas.specs.NewNames.{Label}
use Rattle.ab_formulas.specs.Sequents.{Sequent, IsSequent, formula_of, formulas, goal_names, proving, assuming, without}
use Rattle.ab_theory.specs.Conjuncts.{conjuncts}
use Rattle.ab_theory.specs.Derivations.{debts_of}
use Rattle.ab_theory.specs.Judgements.{marked_judgement}
use Rattle.ab_theory.specs.Pieces.{pieces, antecedent_count}
use Rattle.ab_theory.specs.Rules.{Rule}
use Rattle.ab_theory.specs.Steps.{spec_instance}
use Rattle.ab_theory.specs.UseAnswers.{awaited}
use Rattle.ab_theory.proofs.RulesParts.{MayStand}
use Rattle.ab_theory.proofs.Sequents.{goal_of, found_may, found_there}
use Rattle.ab_search_proofs.proofs.Places.{some_cells}
use Rattle.ab_effects.specs.Debts.{debts_at}
use Rattle.ab_effects.specs.FormulaUses.{names_in, formulas_in}
use Rattle.ab_effects.specs.ProofCommands.{effect, cleared, repeated}
use Rattle.ab_effects.specs.Row.{Leads}
use Rattle.ab_consequences.proofs.Permuted.{permuted_stands}
use Rattle.ab_consequences.proofs.Rows.{applied_so, backchained_so}
use Rattle.ab_derived_goals.specs.Derived.{AreSound, IsDerived, IsDerivedAlike}
use Rattle.ab_derived_goals.proofs.Applying.{by_name, named_may, backchained, applied}
use Rattle.ab_derived_goals.proofs.Asking.{none_given, named_there}
use Rattle.ab_derived_goals.proofs.Casing.{cased}
use Rattle.ab_derived_goals.proofs.Hypotheses.{all_dropped, renamed, all_split}
use Rattle.ab_derived_goals.proofs.Introducing.{taken_off}
use Rattle.ab_derived_goals.proofs.Permuting.{conclusion_for, hypothesis_for}
use Rattle.ab_derived_goals.proofs.Trees.{left, all_left, stepped}
use Rattle.ab_command_derivations.specs.Readings.{ReadingsFit, NumbersHaveNames}
use Rattle.ab_command_derivations.proofs.Readings.{given_so, read_for, replaceable}
use Rattle.ab_command_derivations.proofs.Stepping.{IsOneStep, free_label, followed}

hypotheses_may : (D : Declarations) (s : Sequent) → IsSequent D s → (vs : List Argument) → All (λ o. IfSome o (MayStand (signature_in D) s.variables (goal_names s))) (formulas_in s vs)
hypotheses_may D s is [] = All-nil (λ o. IfSome o (MayStand (signature_in D) s.variables (goal_names s)))
hypotheses_may D s is (command.named H ∷ vs) =
    All-cons (λ o. IfSome o (MayStand (signature_in D) s.variables (goal_names s))) (formula_of s H) (formulas_in s vs) (go (formula_of s H) refl) (hypotheses_may D s is vs)
  where
    go : (o : Option Read) → formula_of s H ≡ o → IfSome o (MayStand (signature_in D) s.variables (goal_names s))
    go None e = tt
    go (Some F) e = found_may D (goal_names s) s H F (goal_of D s is) e
hypotheses_may D s is (command.hole ∷ vs) = All-cons (λ o. IfSome o (MayStand (signature_in D) s.variables (goal_names s))) None (formulas_in s vs) tt (hypotheses_may D s is vs)

as_long : (s : Sequent) (vs : List Argument) → length (formulas_in s vs) ≡ length vs
as_long s [] = refl
as_long s (command.named H ∷ vs) = ap suc (as_long s vs)
as_long s (command.hole ∷ vs) = ap suc (as_long s vs)

at_most : (m n : ℕ) → nat_lt m n ≡ false → n ≤ m
at_most m n e = grind arith

module _ (D : Declarations) (sound : AreSound D) (fit : ReadingsFit D) (one_name : NumbersHaveNames) (l : Label) (s : Sequent) (is : IsSequent D s) where
  -- goals as they are
  exactly : (qs ps : List Sequent) → ps ≡ qs → IsDerived D s qs [] → IsDerivedAlike D s ps []
  exactly qs ps e d = (qs, d, sym (ap (map named) e))

  by_one_step : (c : ProofCommand) (ps : List Sequent) → IsOneStep c → Leads (effect D l c s) ps → IsDerivedAlike D s ps (debts_at s c)
  by_one_step c ps one h =
      let f = followed D fit s is l c ps one h in
      (ps, subst (IsDerived D s ps) (append-nil (debts_of f.step) ∙ f.owes) (stepped D f.step s ps ps [] f.rule (all_left D ps)), refl)

  by_intros : (xs : List (List ℕ)) (ps : List Sequent) → Leads (effect D l (command.intros xs) s) ps → IsDerivedAlike D s ps []
  by_intros xs ps h =
      let p = h.1.2.0 in
      subst (λ qs. IsDerivedAlike D s qs []) (sym h.1.2.2.1) (taken_off D sound s p.1 is h.1.2.1)

  by_rename : (H x : List ℕ) (ps : List Sequent) → Leads (effect D l (command.rename H x) s) ps → IsDerivedAlike D s ps []
  by_rename H x ps h =
      let F = h.1.0 in
      let goal = assuming x F (without H s) in
      exactly (goal ∷ []) ps h.1.2 (renamed D sound s H x F (goal ∷ []) [] is h.1.1 (free_label x s h.0) (λ it. left D goal))

  by_permute : (ns : List ℕ) (o : Option (List ℕ)) (ps : List Sequent) → Leads (effect D l (command.permute ns o) s) ps → IsDerivedAlike D s ps []
  by_permute ns None ps (u, may, (A, among, e)) =
      let F = permute (cycle A ns) s.conclusion in
      exactly (proving F s ∷ []) ps e (conclusion_for D sound s is F (permuted_stands D s ns A is may among s.conclusion (Contains-here s.conclusion (formulas s.hypotheses))))
  by_permute ns (Some H) ps (u, may, (G, has, (A, among, e))) =
      let F = permute (cycle A ns) G in
      exactly (assuming H F (without H s) ∷ []) ps e
      (hypothesis_for D sound s is H F G has (permuted_stands D s ns A is may among G (Contains-there s.conclusion (formulas s.hypotheses) G (found_there s.hypotheses H G has))))

  by_inst : (H : List ℕ) (es : List command.Instance) (ps : List Sequent) → Leads (effect D l (command.inst H es) s) ps → IsDerivedAlike D s ps []
  by_inst H es ps (clear, (F, has, (p, judgement, (once, (there, h))))) =
      let G = marked_judgement plain p.0 p.1 in
      let r = read_for D fit s is [] (subst HasOneTypeEach (sym (append-nil (goal_names s))) is.one_type) (support G) es _ ps h in
      let n = r.leads in
      let at = some_cells s is.numbers_differ in
      let rule : Rule D (spec_instance H r.terms l) s ps =
      (at.0, at.1, (F, has, (p, judgement, (replaceable one_name G r.terms es r.each once, (r.all_fit_so, (n.0.0, n.0.1, n.1, n.2)))))) in
      (ps, stepped D (spec_instance H r.terms l) s ps ps [] rule (all_left D ps), refl)

  by_apply : (H : List ℕ) (vs : List Argument) (es : List command.Instance) (ps : List Sequent) → Leads (effect D l (command.apply H vs es) s) ps → IsDerivedAlike D s ps (debts_at s (command.apply H vs es))
  by_apply H vs es ps (clear, (F, name, (none, h))) =
      let n = length vs in
      let hs = formulas_in s vs in
      let g = given_so D fit s is (pieces n F) es (nat_lt (antecedent_count F) n) _ ps h in
      let (u, serve, (K, uses, (t, o, e))) = g.leads in
      let may = applied_so D s is F (named_may D sound s is H F name) n g.terms g.fitting (at_most (antecedent_count F) n g.enough) hs (hypotheses_may D s is vs) (as_long s vs) serve in
      subst (λ q. IsDerivedAlike D s q (debts_at s (command.apply H vs es))) (sym e)
      (by_name D sound s is H F (map (λ A. proving A s) (awaited hs K) ++ t ∷ []) name (applied D sound s is F g.terms (pieces n F) hs (names_in vs) K l t may uses g.fitting g.apart (named_there s vs none) o))

  by_backchain : (H : List ℕ) (es : List command.Instance) (ps : List Sequent) → Leads (effect D l (command.backchain H es) s) ps → IsDerivedAlike D s ps (debts_at s (command.backchain H es))
  by_backchain H es ps (F, name, h) =
      let n = antecedent_count F in
      let hs = repeated n in
      let g = given_so D fit s is (pieces n F) es false _ ps h in
      let (u, serve, (K, uses, e)) = g.leads in
      let may = backchained_so D s is F (named_may D sound s is H F name) n g.terms g.fitting (omega arith) s.conclusion (goal_of D s is).conclusion serve in
      let qs = map (λ A. proving A s) (awaited hs K) in
      subst (λ q. IsDerivedAlike D s q (debts_at s (command.backchain H es))) (sym e)
      (by_name D sound s is H F qs name (λ k x xs f. (qs, backchained D sound s is F g.terms (pieces n F) hs K may uses (none_given s n) k x xs f, refl)))

  pub derived : (c : ProofCommand) (ps : List Sequent) → Leads (effect D l c s) ps → IsDerivedAlike D s ps (debts_at s c)
  derived (command.intros xs) ps h = by_intros xs ps h
  derived command.split ps h = by_one_step command.split ps tt h
  derived command.split_all ps h = exactly (map (λ F. proving F s) (conjuncts s.conclusion)) ps h.2 (all_split D sound s s.conclusion is)
  derived command.left ps h = by_one_step command.left ps tt h
  derived command.right ps h = by_one_step command.right ps tt h
  derived (command.exists e) ps h = by_one_step (command.exists e) ps tt h
  derived (command.case H keep) ps h = cased D sound s is H h.1.0 h.1.1 keep l (form_of h.1.0) ps refl h.1.2
  derived (command.assert e) ps h = by_one_step (command.assert e) ps tt h
  derived (command.clear Hs) ps h = exactly (cleared Hs s ∷ []) ps h.1 (all_dropped D sound Hs s (cleared Hs s ∷ []) [] is (λ it. left D (cleared Hs s)))
  derived (command.rename H x) ps h = by_rename H x ps h
  derived (command.induction ns) ps h = by_one_step (command.induction ns) ps tt h
  derived command.coinduction ps h = by_one_step command.coinduction ps tt h
  derived (command.apply H vs es) ps h = by_apply H vs es ps h
  derived (command.backchain H es) ps h = by_backchain H es ps h
  derived (command.cut H K) ps h = by_one_step (command.cut H K) ps tt h
  derived (command.inst H es) ps h = by_inst H es ps h
  derived (command.monotone H e) ps h = by_one_step (command.monotone H e) ps tt h
  derived (command.search n) ps h = let no = h.0 in absurd (cc)
  derived command.skip ps h = by_one_step command.skip ps tt h
  derived command.unfold_goal ps h = by_one_step command.unfold_goal ps tt h
  derived (command.permute ns o) ps h = by_permute ns o ps h
