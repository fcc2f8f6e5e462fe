-- What the steps of `exists` and `assert` do, and why they aren't taken, in the words of the rows.
use Rattle.std.specs.Prelude.{◌≡◌, ℕ, List, [], ◌∷◌, ◌++◌, Option, Some, None, Result, Ok, Err, IfOk, OnOk, OnErr}
use Rattle.std.proofs.Common.{inl, inr, refl, sym, ◌∙◌, ap, subst, arith}
use Rattle.ab_term.specs.Types.{Ty, prop}
use Rattle.ab_grammar.specs.Tree.{Tree, place_of}
use Rattle.ab_grammar.specs.CommandTrees as told
use Rattle.ab_term.specs.Terms.{Read}
use Rattle.ab_unify.specs.Problem.{cells_read}
use Rattle.ab_inference.specs.declared.fault.InferFault.{InferFault}
use Rattle.ab_inference.specs.declared.fault.InferFault.TheVariants as infer
use Rattle.ab_formulas.specs.Declarations.{Declarations, signature_in}
use Rattle.ab_formulas.specs.Formulas.{IsFormula}
use Rattle.ab_formulas.specs.Forms.{as_exists}
use Rattle.ab_formulas.specs.NewNames.{Label}
use Rattle.ab_logic.specs.WorldGrowth.{Grows}
use Rattle.ab_formulas.specs.Sequents.{Sequent, Fits}
use Rattle.ab_logic.specs.Worlds.{declarations_of}
use Rattle.ab_logic.specs.declared.world.World.{World}
use Rattle.ab_theory.specs.Steps.{exists_right, cut_formula}
use Rattle.ab_theory.specs.Rules.{NamedRule, Fails}
use Rattle.ab_theory.specs.Derivations.{History, open_goals}
use Rattle.ab_hypothesis.specs.ab_steps.specs.ab_kernel.specs.Layout.{Held, IsProof, goals_of}
use Rattle.ab_hypothesis.specs.ab_steps.specs.ab_kernel.proofs.Later.{same_history, still_proof}
use Rattle.ab_effects.specs.ProofCommands.{effect, clashing}
use Rattle.ab_meaning.specs.Refusals.{type_clash}
use Rattle.ab_effects.specs.Row.{Leads}
use Rattle.ab_meaning.specs.Terms.{Means}
use Rattle.ab_hypothesis.specs.ab_steps.specs.ProofEffects.{IsApplied, RefusedBy}
use Rattle.ab_hypothesis.specs.ab_steps.specs.Progress.{Follows, Took, Holds}
use Rattle.ab_hypothesis.specs.ab_steps.specs.declared.fault.ProofCommandFault.{ProofCommandFault}
use Rattle.ab_hypothesis.specs.ab_steps.specs.declared.fault.ProofCommandFault.TheVariants.{Unknown, Clash, TypeClash, Untyped, NoHypothesis, WrongShape, Mark, NoMatch, NotPattern, Unresolved, NamesSpent, Memory}
use Rattle.ab_hypothesis.specs.ab_steps.proofs.Following.{first_at, at_first, follows_same}
use Rattle.ab_proofcmd.specs.GoalExpressions.{IsReadAs, fault_for}
use Rattle.ab_proofcmd.specs.CutRefusals.{CutFails}

-- THE FIRST GOAL, in a world that may have grown

pub same_goals : (w m : World) (p : Held) → Grows w m → IsProof w p → goals_of m p ≡ goals_of w p
same_goals w m p grows proof = ap (λ (h : History). open_goals h.tree) (same_history w m grows p proof)

pub follows_world : (w m : World) (p : Held) → Grows w m → declarations_of m ≡ declarations_of w → IsProof w p → Follows w p m p
follows_world w m p grows declared proof = follows_same w m p p grows declared proof (still_proof w m grows declared p proof) refl

pub on_err : {A E : Type 0} (P : Type 0) (r : Result A E) → P → OnErr r P
on_err P (Ok a) h = tt
on_err P (Err e) h = h

pub on_ok : {A E : Type 0} (P Q : Type 0) (r : Result A E) → (P → Q) → OnOk r P → IfOk r (λ a. Q)
on_ok P Q (Ok a) f h = f h
on_ok P Q (Err e) f h = tt

pub on_err_so : {A E : Type 0} (P Q : Type 0) (r : Result A E) → (P → Q) → OnErr r P → OnErr r Q
on_err_so P Q (Ok a) f h = tt
on_err_so P Q (Err e) f h = f h

none_some : {X : Type 0} (o : Option X) (x : X) → o ≡ None → o ≡ Some x → ⊥
none_some o x none some = let clash : None ≡ Some x = sym none ∙ some in cc

-- EXISTS

-- at each first goal the conclusion is an `exists` at the type, and the expression means the term there
abbrev pub Gives : World → Held → Tree → Ty → Read → Type 0
Gives w p e A t = (s : Sequent) (rest : List Sequent) → goals_of w p ≡ s ∷ rest →
    (b : Read) × (as_exists s.conclusion ≡ Some (A, b)) × Means (declarations_of w) s e A t × Fits (declarations_of w) s t A

module _ (w m : World) (p : Held) (declared : declarations_of m ≡ declarations_of w) (goals : goals_of m p ≡ goals_of w p) (e : Tree) (A : Ty) (t : Read) (gives : Gives w p e A t) where
  pub exists_sure : Holds m p 0 (exists_right t)
  exists_sure before behind s at i fails = go (gives s behind (sym goals ∙ at_first m p before behind s at)) (subst (λ D. Fails D (cells_read m.types m.store) (exists_right t) s i) declared fails)
    where
      go : ((b : Read) × (as_exists s.conclusion ≡ Some (A, b)) × Means (declarations_of w) s e A t × Fits (declarations_of w) s t A) → Fails (declarations_of w) (cells_read m.types m.store) (exists_right t) s i → ⊥
      go (b, are, means, fits) (inl (none, j)) = none_some (as_exists s.conclusion) (A, b) none are
      go (b, are, means, fits) (inr (q, is, inl (unfit, j))) =
          let both : Some q ≡ Some (A, b) = sym is ∙ are in
          let same : q ≡ (A, b) = cc in
          unfit (subst (λ (z : Ty × Read). Fits (declarations_of w) s t z.0) (sym same) fits)
      go (b, are, means, fits) (inr (q, is, inr (there, none))) = none

  pub exists_applied : (v : World) (q : Held) → Took m p v q 0 (exists_right t) → (l : Label) → IsApplied l (told.exists e) w p v q
  exists_applied v q took l s rest first = go (gives s rest first) (took [] rest s (first_at m p s rest (goals ∙ first)))
    where
      go : ((b : Read) × (as_exists s.conclusion ≡ Some (A, b)) × Means (declarations_of w) s e A t × Fits (declarations_of w) s t A)
          → ((ps : List Sequent) × NamedRule (declarations_of m) (exists_right t) s ps × (goals_of v q ≡ [] ++ ps ++ rest))
          → (ps : List Sequent) × Leads (effect (declarations_of w) l (told.exists e) s) ps × (goals_of v q ≡ ps ++ rest)
      go (b, are, means, fits) (ps, (cells, are_cells, (z, is, (fit, led))), now) =
          let both : Some z ≡ Some (A, b) = sym is ∙ are in
          let same : z ≡ (A, b) = cc in
          (ps, (z, is, (t, subst (λ (y : Ty × Read). Means (declarations_of w) s e y.0 t) (sym same) means, led)), now)

-- the expression of an `exists` isn't read
pub exists_refused : (D : Declarations) (v : World) (l : Label) (s : Sequent) (e : Tree) (A : Ty) (b : Read) (f : InferFault) → as_exists s.conclusion ≡ Some (A, b) → IsReadAs D s e A v (Err f)
    → RefusedBy (effect D l (told.exists e) s) (fault_for f)
exists_refused D v l s e A b (infer.Unknown x) are n = inr ((A, b), are, inl n)
exists_refused D v l s e A b (infer.TypeClash p) are n = inr ((A, b), are, inl n)
exists_refused D v l s e A b (infer.Untyped p) are n = inr ((A, b), are, inl n)
exists_refused D v l s e A b (infer.Memory m) are n = tt

-- ASSERT

-- at each first goal the label is free, and the expression means the term there
abbrev pub States : World → Held → Label → Tree → Read → Type 0
States w p l e F = (s : Sequent) (rest : List Sequent) → goals_of w p ≡ s ∷ rest →
    (clashing l s ≡ None) × Means (declarations_of w) s e prop F × Fits (declarations_of w) s F prop

module _ (w m : World) (p : Held) (declared : declarations_of m ≡ declarations_of w) (goals : goals_of m p ≡ goals_of w p) (l : Label) (e : Tree) (F : Read) (states : States w p l e F) where
  pub assert_applied : (v : World) (q : Held) → Took m p v q 0 (cut_formula F l) → IsApplied l (told.assert e) w p v q
  assert_applied v q took s rest first = go (states s rest first) (took [] rest s (first_at m p s rest (goals ∙ first)))
    where
      go : ((clashing l s ≡ None) × Means (declarations_of w) s e prop F × Fits (declarations_of w) s F prop)
          → ((ps : List Sequent) × NamedRule (declarations_of m) (cut_formula F l) s ps × (goals_of v q ≡ [] ++ ps ++ rest))
          → (ps : List Sequent) × Leads (effect (declarations_of w) l (told.assert e) s) ps × (goals_of v q ≡ ps ++ rest)
      go (free, means, fits) (ps, (cells, are_cells, ((fit, formula), (name, t, named, led))), now) =
          (ps, (free, (F, (means, subst (λ D. IsFormula (signature_in D) F) declared formula), ((name, t), named, led))), now)

  pub cut_refused : (s : Sequent) (rest : List Sequent) → goals_of w p ≡ s ∷ rest → (fault : ProofCommandFault) → CutFails (declarations_of m) F l (place_of e) s fault
      → RefusedBy (effect (declarations_of w) l (told.assert e) s) fault
  cut_refused s rest first (TypeClash n) (at, none) =
      let here = states s rest first in
      let no_formula : ¬ IsFormula (signature_in (declarations_of w)) F = λ is.
      none (subst (λ D. Fits D s F prop × IsFormula (signature_in D) F) (sym declared) (here.2, is)) in
      inr (here.0, inl (inr (F, here.1, no_formula, ap type_clash at)))
  cut_refused s rest first NamesSpent (formula, none) =
      let here = states s rest first in
      inr (here.0, inr (F, (here.1, subst (λ D. IsFormula (signature_in D) F) declared formula), inl (none, refl)))
  cut_refused s rest first (Memory f) none = tt
  cut_refused s rest first (Unknown x) none = absurd none
  cut_refused s rest first (Clash x) none = absurd none
  cut_refused s rest first (Untyped n) none = absurd none
  cut_refused s rest first (NoHypothesis x) none = absurd none
  cut_refused s rest first WrongShape none = absurd none
  cut_refused s rest first Mark none = absurd none
  cut_refused s rest first NoMatch none = absurd none
  cut_refused s rest first (NotPattern n) none = absurd none
  cut_refused s rest first (Unresolved x) none = absurd none

-- the formula isn't read
pub assert_refused : (D : Declarations) (v : World) (l : Label) (s : Sequent) (e : Tree) (f : InferFault) → clashing l s ≡ None → IsReadAs D s e prop v (Err f)
    → RefusedBy (effect D l (told.assert e) s) (fault_for f)
assert_refused D v l s e (infer.Unknown x) free n = inr (free, inl (inl n))
assert_refused D v l s e (infer.TypeClash p) free n = inr (free, inl (inl n))
assert_refused D v l s e (infer.Untyped p) free n = inr (free, inl (inl n))
assert_refused D v l s e (infer.Memory m) free n = tt

-- why the cut isn't taken
pub cut_fails : (D : Declarations) (w : World) (F : Read) (l : Label) (place : ℕ) (s : Sequent) → Fails D (cells_read w.types w.store) (cut_formula F l) s 1 → CutFails D F l place s (TypeClash place)
cut_fails D w F l place s (inl (unfit, j)) = (refl, unfit)
cut_fails D w F l place s (inr (is, inl (none, j))) = absurd (omega (arith, j))
cut_fails D w F l place s (inr (is, inr (name, t, named, none))) = absurd none

pub cut_nameless : (D : Declarations) (w : World) (F : Read) (l : Label) (place i : ℕ) (s : Sequent) → (i ≡ 1 → ⊥) → Fails D (cells_read w.types w.store) (cut_formula F l) s i → CutFails D F l place s NamesSpent
cut_nameless D w F l place i s other (inl (unfit, j)) = absurd (other j)
cut_nameless D w F l place i s other (inr (is, inl (none, j))) = (is.1, none)
cut_nameless D w F l place i s other (inr (is, inr (name, t, named, none))) = absurd none
