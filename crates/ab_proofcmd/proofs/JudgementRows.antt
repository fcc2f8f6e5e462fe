-- The rows of `inst` and `monotone`: what their rules lead to, and why they aren't taken.
use Rattle.std.specs.Prelude.{◌≡◌, ℕ, List, [], ◌∷◌, map, true, false, Some, None, Err, if◌then◌else◌}
use Rattle.std.proofs.Common.{inl, inr, refl, sym, ◌∙◌, ap, subst}
use Rattle.ab_term.specs.Types.{olist}
use Rattle.ab_term.specs.Terms as tree
use Rattle.ab_term.specs.Terms.{Nominal, Read}
use Rattle.ab_term.specs.Names.{support, IsSupport}
use Rattle.ab_unifiers.specs.Replacements.{Cell}
use Rattle.ab_grammar.specs.Tree.{Tree}
use Rattle.ab_grammar.specs.CommandTrees as told
use Rattle.ab_grammar.specs.CommandTrees.{Instance}
use Rattle.ab_unify.specs.Problem.{cells_read}
use Rattle.ab_inference.specs.declared.fault.InferFault.{InferFault}
use Rattle.ab_inference.specs.declared.fault.InferFault.TheVariants as infer
use Rattle.ab_formulas.specs.Declarations.{Declarations, signature_in}
use Rattle.ab_formulas.specs.Formulas.{HasOneTypeEach}
use Rattle.ab_formulas.specs.Marks.{plain}
use Rattle.ab_formulas.specs.NewNames.{Label, NoName}
use Rattle.ab_formulas.specs.Sequents.{Sequent, IsSequent, Fits, formula_of, goal_names, assuming}
use Rattle.ab_logic.specs.Worlds.{declarations_of}
use Rattle.ab_logic.specs.declared.world.World.{World}
use Rattle.ab_theory.specs.Contexts.{MayBeReplaced, replace_constants}
use Rattle.ab_theory.specs.Judgements.{as_unfocused, marked_judgement}
use Rattle.ab_theory.specs.Steps.{spec_instance, spec_monotone}
use Rattle.ab_theory.specs.Rules.{NamedRule, Fails}
use Rattle.ab_theory.proofs.JudgementRules.{unfocused_known}
use Rattle.ab_theory.proofs.Known.{Known, known_marked}
use Rattle.ab_theory.proofs.Sequents.{goal_of, found_may}
use Rattle.ab_hypothesis.specs.ab_steps.specs.ab_kernel.specs.Layout.{Held, goals_of}
use Rattle.ab_effects.specs.FormulaUses.{given_twice}
use Rattle.ab_effects.specs.ProofCommands.{effect, clashing, constant_in, no_constant, naming, reading_for}
use Rattle.ab_effects.specs.Row.{Row, leads, unless, Leads, Refuses}
use Rattle.ab_meaning.specs.Refusals.{Refusal, no_hypothesis, wrong_shape, names_spent}
use Rattle.ab_meaning.specs.Terms.{Means}
use Rattle.ab_hypothesis.specs.ab_steps.specs.ProofEffects.{IsApplied, IsRefused, RefusedBy}
use Rattle.ab_hypothesis.specs.ab_steps.specs.Progress.{Took}
use Rattle.ab_hypothesis.specs.ab_steps.specs.declared.fault.ProofCommandFault.{ProofCommandFault}
use Rattle.ab_hypothesis.specs.ab_steps.proofs.Following.{first_at}
use Rattle.ab_hypothesis.specs.JudgementSteps.{fault_at, IsntTaken}
use Rattle.ab_hypothesis.proofs.JudgementSteps.{refused_so}
use Rattle.ab_proofcmd.specs.GoalExpressions.{IsReadAs, fault_for}
use Rattle.ab_proofcmd.specs.ReplacedConstants.{KnowsConstants, MayReplace}
use Rattle.ab_proofcmd.proofs.Given.{refused_by}
use Rattle.ab_proofcmd.proofs.Constants.{constant_same, for_leads, for_refuses, unread_so, no_constant_same, may_be}

-- MONOTONE

module _ (D : Declarations) (l : Label) (H : List ℕ) (e : Tree) (s : Sequent) (free : clashing l s ≡ None) where
  abbrev M : Row
  M = effect D l (told.monotone H e) s

  -- the list isn't read
  pub list_refused : (v : World) (f : InferFault) → IsReadAs D s e olist v (Err f) → RefusedBy M (fault_for f)
  list_refused v (infer.Unknown x) n = inr (free, inl n)
  list_refused v (infer.TypeClash p) n = inr (free, inl n)
  list_refused v (infer.Untyped p) n = inr (free, inl n)
  list_refused v (infer.Memory m) n = tt

  module _ (K : Read) (means : Means D s e olist K) where
    pub monotone_missing : formula_of s H ≡ None → Refuses M (no_hypothesis H)
    monotone_missing none = inr (free, inr (K, means, inl (none, refl)))

    monotone_leads : (ps : List Sequent) → NamedRule D (spec_monotone H K l) s ps → Leads M ps
    monotone_leads ps (cells, are, (F, is_F, (p, is_p, (fit, (N, t, named, led))))) = (free, (K, means, (F, is_F, (p, is_p, ((N, t), named, led)))))

    monotone_refuses : Fits D s K olist → (F : Read) → formula_of s H ≡ Some F → (cells : List (Cell (List ℕ))) (i : ℕ) → Fails D cells (spec_monotone H K l) s i → RefusedBy M (fault_at i)
    monotone_refuses fits F is cells i (inl none) = let clash : None ≡ Some F = sym none.0 ∙ is in absurd (cc)
    monotone_refuses fits F is cells i (inr (G, is_G, inl none)) =
        subst (λ j. RefusedBy M (fault_at j)) (sym none.1) (inr (free, inr (K, means, inr (G, is_G, inl (none.0, refl)))))
    monotone_refuses fits F is cells i (inr (G, is_G, inr (p, is_p, inl unfit))) = absurd (unfit.0 fits)
    monotone_refuses fits F is cells i (inr (G, is_G, inr (p, is_p, inr (fit, inl none)))) =
        subst (λ j. RefusedBy M (fault_at j)) (sym none.1) (inr (free, inr (K, means, inr (G, is_G, inr (p, is_p, inl (none.0, refl))))))
    monotone_refuses fits F is cells i (inr (G, is_G, inr (p, is_p, inr (fit, inr (N, t, named, none))))) = absurd none

-- at each first goal the label is free, the expression means the list, and the hypothesis is there
abbrev pub MayWiden : World → Held → Label → List ℕ → Tree → Read → Type 0
MayWiden w p l H e K = (s : Sequent) (rest : List Sequent) → goals_of w p ≡ s ∷ rest →
    (clashing l s ≡ None) × Means (declarations_of w) s e olist K × Fits (declarations_of w) s K olist × ((F : Read) × (formula_of s H ≡ Some F))

module _ (w m : World) (p : Held) (declared : declarations_of m ≡ declarations_of w) (goals : goals_of m p ≡ goals_of w p) (l : Label) (H : List ℕ) (e : Tree) (K : Read) (may : MayWiden w p l H e K) where
  pub monotone_applied : (v : World) (q : Held) → Took m p v q 0 (spec_monotone H K l) → IsApplied l (told.monotone H e) w p v q
  monotone_applied v q took s rest first =
      let here = may s rest first in
      let t = took [] rest s (first_at m p s rest (goals ∙ first)) in
      (t.0, monotone_leads (declarations_of w) l H e s here.0 K here.1 t.0 (subst (λ D. NamedRule D (spec_monotone H K l) s t.0) declared t.1), t.2)

  pub monotone_refused : (fault : ProofCommandFault) → IsntTaken m p (spec_monotone H K l) fault → IsRefused l (told.monotone H e) w p fault
  monotone_refused fault not s rest first =
      let here = may s rest first in
      refused_so (effect (declarations_of w) l (told.monotone H e) s) m p (spec_monotone H K l) s rest (goals ∙ first)
      (λ i fails. monotone_refuses (declarations_of w) l H e s here.0 K here.1 here.2 here.3.0 here.3.1 (cells_read m.types m.store) i
      (subst (λ D. Fails D (cells_read m.types m.store) (spec_monotone H K l) s i) declared fails)) fault not

-- INST

-- the constants of a judgement with nothing in focus are the goal's, so each number has one type
judged_one_type : (D : Declarations) (s : Sequent) → IsSequent D s → (H : List ℕ) (F : Read) (p : Read × Read) → formula_of s H ≡ Some F → as_unfocused F ≡ Some p
    → HasOneTypeEach (support (marked_judgement plain p.0 p.1))
judged_one_type D s sequent H F p is unfocused a b c d e =
    let N = goal_names s in
    let P : tree.Variable ℕ → Type 0 = λ y. Unit {0} in
    let may = found_may D N s H F (goal_of D s sequent) is in
    let over : Known P N F = record { over = λ y c. tt; names = may.names } in
    let parts = unfocused_known (signature_in D) P N F p unfocused may.formula.typed over in
    let known = known_marked P N plain p.0 p.1 (parts.0).known (parts.1).known in
    sequent.one_type a b (known.names a c) (known.names b d) e

-- so those that are found in order are found as they are
pub found_as : (D : Declarations) (s : Sequent) → IsSequent D s → (H : List ℕ) (F : Read) (p : Read × Read) → formula_of s H ≡ Some F → as_unfocused F ≡ Some p
    → (names : List Nominal) → IsSupport (marked_judgement plain p.0 p.1) names → (x : List ℕ) → constant_in names x ≡ constant_in (support (marked_judgement plain p.0 p.1)) x
found_as D s sequent H F p is unfocused names order =
    constant_same names (support (marked_judgement plain p.0 p.1)) (λ a. (order.same a).0) (λ a. (order.same a).1) (judged_one_type D s sequent H F p is unfocused)

module _ (D : Declarations) (l : Label) (H : List ℕ) (is : List Instance) (s : Sequent) (free : clashing l s ≡ None) where
  abbrev I : Row
  I = effect D l (told.inst H is) s

  pub inst_missing : formula_of s H ≡ None → Refuses I (no_hypothesis H)
  inst_missing none = inr (free, inl (none, refl))

  pub inst_shapeless : (F : Read) → formula_of s H ≡ Some F → as_unfocused F ≡ None → Refuses I wrong_shape
  inst_shapeless F is_F none = inr (free, inr (F, is_F, inl (none, refl)))

  pub inst_twice : (F : Read) → formula_of s H ≡ Some F → (p : Read × Read) → as_unfocused F ≡ Some p → given_twice is ≡ true → Refuses I wrong_shape
  inst_twice F is_F p is_p twice = inr (free, inr (F, is_F, inr (p, is_p, inl (ap (λ b. if b then Some wrong_shape else None) twice))))

  once_asked : given_twice is ≡ false → (if given_twice is then Some wrong_shape else None) ≡ None
  once_asked once = ap (λ b. if b then Some wrong_shape else None) once

  pub inst_strange : (F : Read) → formula_of s H ≡ Some F → (p : Read × Read) → as_unfocused F ≡ Some p → given_twice is ≡ false → (names : List Nominal)
      → ((x : List ℕ) → constant_in names x ≡ constant_in (support (marked_judgement plain p.0 p.1)) x) → (fault : ProofCommandFault) → RefusedBy (unless (no_constant names is) (leads [])) fault → RefusedBy I fault
  inst_strange F is_F p is_p once names found fault =
      refused_by (unless (no_constant names is) (leads [])) I to fault
    where
      to : (f : Refusal) → Refuses (unless (no_constant names is) (leads [])) f → Refuses I f
      to f (inl e) =
          inr (free, inr (F, is_F, inr (p, is_p, inr (once_asked once, inl (sym (no_constant_same D s names (support (marked_judgement plain p.0 p.1)) found is) ∙ e)))))
      to f (inr none) = absurd none.1

  module _ (names : List Nominal) (knows : KnowsConstants D H is s names) where
    abbrev J : Read
    J = marked_judgement plain knows.parts.0 knows.parts.1

    named_all : no_constant (support J) is ≡ None
    named_all = sym (no_constant_same D s names (support J) knows.found is) ∙ knows.known

    pub inst_unread : (fault : ProofCommandFault) → RefusedBy (reading_for D s [] names is (λ rs. leads [])) fault → RefusedBy I fault
    inst_unread fault =
        refused_by (reading_for D s [] names is (λ rs. leads [])) I
        (λ f refuses.
        inr (
          free,
          inr (
            knows.formula,
            knows.named,
            inr (
              knows.parts,
              knows.unfocused,
              inr (
                once_asked knows.once,
                inr (
                  named_all,
                  unread_so D s names (support J) knows.found [] is (λ rs. naming l s (λ name t. leads (assuming name (replace_constants rs J) t ∷ []))) f refuses,
                ),
              ),
            ),
          ),
        ))
        fault

  module _ (rs : List (Nominal × Read)) (may : MayReplace D H is s rs) where
    abbrev K : Read
    K = marked_judgement plain may.knows.parts.0 may.knows.parts.1

    abbrev assumed : List (Nominal × Read) → Row
    assumed qs = naming l s (λ name t. leads (assuming name (replace_constants qs K) t ∷ []))

    inst_leads : (ps : List Sequent) → NamedRule D (spec_instance H rs l) s ps → Leads I ps
    inst_leads ps (cells, are, (F, is_F, (p, is_p, (replaced, (fit, (N, t, named, led)))))) =
        let k = may.knows in
        let formulas : Some F ≡ Some k.formula = sym is_F ∙ k.named in
        let same_F : F ≡ k.formula = cc in
        let both : Some p ≡ Some k.parts = sym is_p ∙ ap as_unfocused same_F ∙ k.unfocused in
        let same_p : p ≡ k.parts = cc in
        let here : Leads (assumed rs) ps = ((N, t), named, led ∙ ap (λ (q : Read × Read). assuming N (replace_constants rs (marked_judgement plain q.0 q.1)) t ∷ []) same_p) in (
          free,
          (
            k.formula,
            k.named,
            (
              k.parts,
              k.unfocused,
              (
                once_asked k.once,
                (
                  named_all may.names k,
                  for_leads D s may.names (support K) k.found [] is may.given assumed ps may.read_in (subst (λ qs. Leads (assumed qs) ps) may.are here),
                ),
              ),
            ),
          ),
        )

    inst_nameless : NoName l s → Refuses I names_spent
    inst_nameless none =
        let k = may.knows in
        inr (
          free,
          inr (
            k.formula,
            k.named,
            inr (
              k.parts,
              k.unfocused,
              inr (
                once_asked k.once,
                inr (
                  named_all may.names k,
                  for_refuses D s may.names (support K) k.found [] is may.given assumed names_spent may.read_in (inl (none, refl)),
                ),
              ),
            ),
          ),
        )

    inst_refuses : (cells : List (Cell (List ℕ))) (i : ℕ) → Fails D cells (spec_instance H rs l) s i → RefusedBy I (fault_at i)
    inst_refuses cells i (inl none) = let clash : None ≡ Some may.knows.formula = sym none.0 ∙ may.knows.named in absurd (cc)
    inst_refuses cells i (inr (F, is_F, inl none)) =
        let formulas : Some F ≡ Some may.knows.formula = sym is_F ∙ may.knows.named in
        let same_F : F ≡ may.knows.formula = cc in
        let clash : None ≡ Some may.knows.parts = sym none.0 ∙ ap as_unfocused same_F ∙ may.knows.unfocused in
        absurd (cc)
    inst_refuses cells i (inr (F, is_F, inr (p, is_p, inl unfit))) =
        let k = may.knows in
        let formulas : Some F ≡ Some k.formula = sym is_F ∙ k.named in
        let same_F : F ≡ k.formula = cc in
        let both : Some p ≡ Some k.parts = sym is_p ∙ ap as_unfocused same_F ∙ k.unfocused in
        let same_p : p ≡ k.parts = cc in
        let replaced : MayBeReplaced K (map (λ (r : Nominal × Read). r.0) rs) =
        subst (λ qs. MayBeReplaced K (map (λ (r : Nominal × Read). r.0) qs)) (sym may.are) (may_be D s may.names K k.found is may.given may.read_in k.once) in
        absurd (unfit.0 (subst (λ (q : Read × Read). MayBeReplaced (marked_judgement plain q.0 q.1) (map (λ (r : Nominal × Read). r.0) rs)) (sym same_p) replaced))
    inst_refuses cells i (inr (F, is_F, inr (p, is_p, inr (replaced, inl unfit)))) = absurd (unfit.0 may.fit)
    inst_refuses cells i (inr (F, is_F, inr (p, is_p, inr (replaced, inr (fit, inl none))))) = subst (λ j. RefusedBy I (fault_at j)) (sym none.1) (inst_nameless none.0)
    inst_refuses cells i (inr (F, is_F, inr (p, is_p, inr (replaced, inr (fit, inr (N, t, named, none)))))) = absurd none

-- at each first goal the label is free, and these terms may be put for these constants
abbrev pub MayInst : World → Held → Label → List ℕ → List Instance → List (Nominal × Read) → Type 0
MayInst w p l H is rs = (s : Sequent) (rest : List Sequent) → goals_of w p ≡ s ∷ rest → (clashing l s ≡ None) × MayReplace (declarations_of w) H is s rs

module _ (w m : World) (p : Held) (declared : declarations_of m ≡ declarations_of w) (goals : goals_of m p ≡ goals_of w p) (l : Label) (H : List ℕ) (is : List Instance) (rs : List (Nominal × Read)) (may : MayInst w p l H is rs) where
  pub inst_applied : (v : World) (q : Held) → Took m p v q 0 (spec_instance H rs l) → IsApplied l (told.inst H is) w p v q
  inst_applied v q took s rest first =
      let here = may s rest first in
      let t = took [] rest s (first_at m p s rest (goals ∙ first)) in
      (t.0, inst_leads (declarations_of w) l H is s here.0 rs here.1 t.0 (subst (λ D. NamedRule D (spec_instance H rs l) s t.0) declared t.1), t.2)

  pub inst_refused : (fault : ProofCommandFault) → IsntTaken m p (spec_instance H rs l) fault → IsRefused l (told.inst H is) w p fault
  inst_refused fault not s rest first =
      let here = may s rest first in
      refused_so (effect (declarations_of w) l (told.inst H is) s) m p (spec_instance H rs l) s rest (goals ∙ first)
      (λ i fails. inst_refuses (declarations_of w) l H is s here.0 rs here.1 (cells_read m.types m.store) i
      (subst (λ D. Fails D (cells_read m.types m.store) (spec_instance H rs l) s i) declared fails)) fault not
