-- Induction and coinduction: where the command refuses nothing the rule holds, and its premise is the command's goal.
use Rattle.std.specs.List.{All}
use Rattle.std.specs.Prelude.{Result, Ok, Err, IsErrAnd, if◌then◌else◌}
use Rattle.std.proofs.Common.{◌≡◌, inl, inr, ℕ, zero, suc, List, [], ◌∷◌, length, Bool, true, false, Option, Some, None, refl, sym, ◌∙◌, ap, subst, arith}
use Rattle.std.proofs.lemmas.List.{length-map}
use Rattle.ab_term.specs.Terms.{Read}
use Rattle.ab_unifiers.specs.Replacements.{Cell}
use Rattle.ab_formulas.specs.Declarations.{Declarations}
use Rattle.ab_formulas.specs.Marks.{Sign, plain}
use Rattle.ab_formulas.specs.NewNames.{Label, auto, given}
use Rattle.ab_formulas.specs.Sequents.{Sequent, IsUsed, proving, assuming}
use Rattle.ab_theory.specs.Conjuncts.{conjuncts, with_parts}
use Rattle.ab_theory.specs.Induction.{inductive_at, coinductive_in, inductive_signs, coinductive_signs, sign_and, marked_antecedents, marked_consequent}
use Rattle.ab_theory.specs.Levels.{next_level}
use Rattle.ab_theory.specs.Rules.{NamedRule, Fails}
use Rattle.ab_theory.specs.Derivations.{debts_of}
use Rattle.ab_theory.specs.Row as rule
use Rattle.ab_steps.specs.ab_kernel.specs.ab_judgements.specs.ab_alternatives.specs.ab_sequents.specs.Kinds.{level_by, signs_by, marked_by}
use Rattle.ab_steps.specs.ab_kernel.specs.ab_judgements.specs.ab_alternatives.specs.ab_sequents.specs.declared.levels.Kind.{Kind}
use Rattle.ab_steps.specs.ab_kernel.specs.ab_judgements.specs.ab_alternatives.specs.ab_sequents.specs.declared.levels.Kind.TheVariants.{Induction, Coinduction}
use Rattle.ab_effects.specs.ProofCommands.{effect, clashing, is_used, IsNamedBy, hypotheses_named}
use Rattle.ab_meaning.specs.Refusals.{clash}
use Rattle.ab_effects.specs.Row.{Row, leads, Leads}
use Rattle.ab_steps.specs.ProofEffects.{RefusedBy}
use Rattle.ab_steps.specs.Progress.{SolvesNothing}
use Rattle.ab_steps.specs.ab_kernel.specs.ab_rules.specs.SizeSteps.{same_by, smaller_by, step_by}
use Rattle.ab_steps.specs.declared.fault.ProofCommandFault.{ProofCommandFault}
use Rattle.ab_steps.specs.declared.fault.ProofCommandFault.TheVariants.{Unknown, Clash, TypeClash, Untyped, NoHypothesis, WrongShape, Mark, NoMatch, NotPattern, Unresolved, NamesSpent, Memory}
use Rattle.ab_conclusion.specs.InductionSizes.{AreNamedBy, MayGetSizes, GetsNoSizes, command_by, word_by}
use Rattle.ab_conclusion.proofs.Numbering.{names_in, used_so, same_with_one}

-- the fault is the one that was answered
pub same_fault : (r : Result (Unit {0}) ProofCommandFault) (a f : ProofCommandFault) → IsErrAnd r (λ b. b ≡ a) → r ≡ Err f → a ≡ f
same_fault (Ok u) a f e is = absurd (cc)
same_fault (Err b) a f e is = let one : b ≡ f = cc in sym e ∙ one

no_clash : (b : Bool) (x : List ℕ) → (if b then Some (clash x) else None) ≡ None → b ≡ true → ⊥
no_clash true x e is = let clashes : Some (clash x) ≡ None = e in cc
no_clash false x e is = cc

-- a name is in use by no hypothesis
unused : (word : List ℕ) (l : Label) (s : Sequent) (name : List ℕ) → clashing l s ≡ None → IsNamedBy word l s name → ¬ IsUsed s name
unused word auto s name free named used = named.1.has (subst (IsUsed s) named.2 used)
unused word (given x) s name free named used = no_clash (is_used s x) x free (subst (IsUsed s) named used)

-- it is as good in another goal with the same names
module _ (word : List ℕ) (u s : Sequent) (name : List ℕ) (same : names_in u ≡ names_in s) where
  named_so : (l : Label) → IsNamedBy word l u name → IsNamedBy word l s name
  named_so auto (n, least, e) = (n, record { has = λ used. least.has (used_so s u _ (sym same) used); first = λ m l free. least.first m l (λ used. free (used_so u s _ same used)) }, e)
  named_so (given x) e = e

module _ (word : List ℕ) (goals : Sequent → List Sequent) where
  -- so many hypotheses get their names by the command, where they get them by the rule
  each_named : (Gs : List Read) (l : Label) (ms : List Label) (u s : Sequent) (ps : List Sequent) → names_in u ≡ names_in s → AreNamedBy word l u (length Gs) ms
      → rule.Takes (rule.labelled_each 3 ms Gs s (λ t. rule.leads (goals t))) ps → Leads (hypotheses_named word l Gs s (λ t. leads (goals t))) ps
  each_named [] l ms u s ps same e takes = subst (λ k. rule.Takes (rule.labelled_each 3 k [] s (λ t. rule.leads (goals t))) ps) e takes
  each_named (G ∷ Gs) l ms u s ps same (name, more, e, named, rest) takes =
      let first = subst (λ k. rule.Takes (rule.labelled_each 3 k (G ∷ Gs) s (λ t. rule.leads (goals t))) ps) e takes in
      let others = subst (λ x. rule.Takes (rule.labelled_each 3 more Gs (assuming x G first.1) (λ t. rule.leads (goals t))) ps) first.2.1 first.3 in (
        name,
        named_so word u s name same l named,
        each_named Gs auto more (assuming name u.conclusion u) (assuming name G s) ps (same_with_one u s name u.conclusion G same) rest
            (subst (λ t. rule.Takes (rule.labelled_each 3 more Gs (assuming name G t) (λ v. rule.leads (goals v))) ps) first.2.2 others),
      )

  -- and no name is refused
  each_sure : (Gs : List Read) (l : Label) (ms : List Label) (u s : Sequent) (i : ℕ) → names_in u ≡ names_in s → clashing l s ≡ None → AreNamedBy word l u (length Gs) ms
      → rule.FailsFirst (rule.labelled_each 3 ms Gs s (λ t. rule.leads (goals t))) i → ⊥
  each_sure [] l ms u s i same free e fails = subst (λ k. rule.FailsFirst (rule.labelled_each 3 k [] s (λ t. rule.leads (goals t))) i) e fails
  each_sure (G ∷ Gs) l ms u s i same free (name, more, e, named, rest) fails =
      go (each_sure Gs auto more (assuming name u.conclusion u) (assuming name G s) i (same_with_one u s name u.conclusion G same) refl rest)
      (subst (λ k. rule.FailsFirst (rule.labelled_each 3 k (G ∷ Gs) s (λ t. rule.leads (goals t))) i) e fails)
    where
      go : (rule.FailsFirst (rule.labelled_each 3 more Gs (assuming name G s) (λ t. rule.leads (goals t))) i → ⊥)
          → rule.FailsFirst (rule.labelled_each 3 (given name ∷ more) (G ∷ Gs) s (λ t. rule.leads (goals t))) i → ⊥
      go behind (inl none) = unused word l s name free (named_so word u s name same l named) none.0
      go behind (inr (x, t, is, later)) =
          let others = subst (λ y. rule.FailsFirst (rule.labelled_each 3 more Gs (assuming y G t) (λ v. rule.leads (goals v))) i) is.1 later in
          behind (subst (λ v. rule.FailsFirst (rule.labelled_each 3 more Gs (assuming name G v) (λ r. rule.leads (goals r))) i) is.2 others)

-- no equation is solved
pub step_plain : (k : Kind) (ns : List ℕ) (ms : List Label) → SolvesNothing (step_by k ns ms)
step_plain Induction ns ms = tt
step_plain Coinduction ns ms = tt

-- nor owes it anything
pub step_free : (k : Kind) (ns : List ℕ) (ms : List Label) → debts_of (step_by k ns ms) ≡ []
step_free Induction ns ms = refl
step_free Coinduction ns ms = refl

-- each part gets its mark

more_signs : (m : Option Sign) (ms : Option (List Sign)) (l : List Sign) → sign_and m ms ≡ Some l → (n : List Sign) × (ms ≡ Some n)
more_signs None ms l e = absurd (cc)
more_signs (Some m) None l e = absurd (cc)
more_signs (Some m) (Some n) l e = (n, refl)

antecedents_counted : (D : Declarations) (ns : List ℕ) (m : Sign) (Fs : List Read) (l : List Sign) → inductive_signs D ns Fs ≡ Some l → length (marked_antecedents ns m Fs) ≡ length Fs
antecedents_counted D [] m [] l e = refl
antecedents_counted D [] m (F ∷ Fs) l e = absurd (cc)
antecedents_counted D (n ∷ ns) m [] l e = absurd (cc)
antecedents_counted D (n ∷ ns) m (F ∷ Fs) l e =
    let more = more_signs (inductive_at D n F) (inductive_signs D ns Fs) l e in ap suc (antecedents_counted D ns m Fs more.0 more.1)

marked_counted : (D : Declarations) (k : Kind) (ns : List ℕ) (m : Sign) (Fs : List Read) (l : List Sign) → signs_by k D ns Fs ≡ Some l → length (marked_by k ns m Fs) ≡ length Fs
marked_counted D Induction ns m Fs l e = antecedents_counted D ns m Fs l e
marked_counted D Coinduction ns m Fs l e = length-map Fs (marked_consequent m)

module _ (D : Declarations) (l : Label) (s : Sequent) (ns : List ℕ) where
  -- the goal with the marks
  abbrev sized : Kind → Sequent → List Sequent
  sized k t = proving (with_parts (marked_by k ns (same_by k (next_level (level_by k) s)) (conjuncts s.conclusion)) s.conclusion) t ∷ []

  abbrev assumed : Kind → List Read
  assumed k = marked_by k ns (smaller_by k (next_level (level_by k) s)) (conjuncts s.conclusion)

  module _ (ms : List Label) where
    names_for : (k : Kind) → MayGetSizes D l s k ns ms → AreNamedBy (word_by k) l s (length (assumed k)) ms
    names_for k may =
        subst (λ n. AreNamedBy (word_by k) l s n ms)
        (sym (marked_counted D k ns (smaller_by k (next_level (level_by k) s)) (conjuncts s.conclusion) may.signs may.there)) may.named

    same_signs : (k : Kind) (may : MayGetSizes D l s k ns ms) (signs : List Sign) → signs_by k D ns (conjuncts s.conclusion) ≡ Some signs → signs ≡ may.signs
    same_signs k may signs e = let both : Some signs ≡ Some may.signs = sym e ∙ may.there in cc

    pub step_sure : (k : Kind) (cells : List (Cell (List ℕ))) → MayGetSizes D l s k ns ms → (i : ℕ) → Fails D cells (step_by k ns ms) s i → ⊥
    step_sure Induction cells may i (inl f) = let none : None ≡ Some may.signs = sym f.0 ∙ may.there in cc
    step_sure Induction cells may i (inr (signs, e, inl f)) = f.0 (subst (All (λ m. m ≡ plain)) (sym (same_signs Induction may signs e)) may.unmarked)
    step_sure Induction cells may i (inr (signs, e, inr (all, f))) =
        each_sure (word_by Induction) (sized Induction) (assumed Induction) l ms s s i refl may.free (names_for Induction may) f
    step_sure Coinduction cells may i (inl f) = let none : None ≡ Some may.signs = sym f.0 ∙ may.there in cc
    step_sure Coinduction cells may i (inr (signs, e, inl f)) = f.0 (subst (All (λ m. m ≡ plain)) (sym (same_signs Coinduction may signs e)) may.unmarked)
    step_sure Coinduction cells may i (inr (signs, e, inr (all, f))) =
        each_sure (word_by Coinduction) (sized Coinduction) (assumed Coinduction) l ms s s i refl may.free (names_for Coinduction may) f

    pub step_leads : (k : Kind) → MayGetSizes D l s k ns ms → (ps : List Sequent) → NamedRule D (step_by k ns ms) s ps → Leads (effect D l (command_by k ns) s) ps
    step_leads Induction may ps (cells, are, (signs, e, (all, takes))) =
        (may.free, (signs, e, (tt, all, each_named (word_by Induction) (sized Induction) (assumed Induction) l ms s s ps refl (names_for Induction may) takes)))
    step_leads Coinduction may ps (cells, are, (signs, e, (all, takes))) =
        (may.free, (signs, e, (tt, all, each_named (word_by Coinduction) (sized Coinduction) (assumed Coinduction) l ms s s ps refl (names_for Coinduction may) takes)))

  pub step_refused : (k : Kind) (fault : ProofCommandFault) → GetsNoSizes D l s k ns fault → RefusedBy (effect D l (command_by k ns) s) fault
  step_refused k (Unknown x) cause = absurd cause
  step_refused Induction (Clash x) cause = inl cause
  step_refused Coinduction (Clash x) cause = inl cause
  step_refused k (TypeClash i) cause = absurd cause
  step_refused k (Untyped i) cause = absurd cause
  step_refused k (NoHypothesis x) cause = absurd cause
  step_refused Induction WrongShape cause = inr (cause.0, inl (cause.1, refl))
  step_refused Coinduction WrongShape cause = inr (cause.0, inl (cause.1, refl))
  step_refused Induction Mark cause = inr (cause.0, inr (cause.1.0, cause.1.1, inl (cause.1.2, refl)))
  step_refused Coinduction Mark cause = inr (cause.0, inr (cause.1.0, cause.1.1, inl (cause.1.2, refl)))
  step_refused k NoMatch cause = absurd cause
  step_refused k (NotPattern i) cause = absurd cause
  step_refused k (Unresolved x) cause = absurd cause
  step_refused k NamesSpent cause = absurd cause
  step_refused k (Memory f) cause = tt
