-- The rows of proof commands that open nothing are settled.
use Rattle.std.specs.Prelude.{codes, All, Ok}
use Rattle.std.proofs.Common.{◌≡◌, inl, inr, List, [], ◌∷◌, ◌++◌, map, Some, None, ℕ, refl, sym, ◌∙◌, ap, subst}
use Rattle.ab_term.specs.Types.{Ty, prop, olist}
use Rattle.ab_term.specs.Names.{support}
use Rattle.ab_term.specs.Substitution.{instance}
use Rattle.ab_term.specs.Terms.{Nominal, Read}
use Rattle.ab_grammar.specs.Tree.{Tree}
use Rattle.ab_grammar.specs.CommandTrees.{ProofCommand, Instance, intros, induction, coinduction, case, apply, backchain, cut, inst, monotone, search, skip, split, split_all, left, right, exists, unfold_goal, assert, clear, rename, permute}
use Rattle.ab_formulas.specs.Declarations.{Declarations, signature_in}
use Rattle.ab_formulas.specs.Formulas.{IsFormula}
use Rattle.ab_formulas.specs.Marks.{plain, star_of, at_of, plus_of, hash_of}
use Rattle.ab_formulas.specs.Sequents.{Sequent, IsUsed, formula_of, goal_names, proving, assuming}
use Rattle.ab_formulas.specs.NewNames.{Label, auto, given, Names, NoName, IsLeast}
use Rattle.ab_theory.specs.Conjuncts.{conjuncts, with_parts}
use Rattle.ab_theory.specs.Contexts.{replace_constants, is_within}
use Rattle.ab_theory.specs.Judgements.{as_unfocused, marked_judgement}
use Rattle.ab_theory.specs.Induction.{marked_antecedents, marked_consequents}
use Rattle.ab_theory.specs.Levels.{next_level, inductive_level, coinductive_level}
use Rattle.ab_theory.proofs.OneAnswer.{least_once, names_once}
use Rattle.ab_formulas.specs.NamedGoals.{named}
use Rattle.ab_effects.specs.ProofCommands.{effect, reading, reading_for, stating, naming, marked_so, numbered, IsNamedBy, hypotheses_named}
use Rattle.ab_meaning.specs.Refusals.{Refusal, no_hypothesis, wrong_shape}
use Rattle.ab_meaning.specs.ResolvedNames.{Resolved}
use Rattle.ab_meaning.specs.Scopes.{resolved}
use Rattle.ab_effects.specs.Row.{Row, leads, finds}
use Rattle.ab_effects.specs.FormulaUses.{scope_with}
use Rattle.ab_meaning.specs.Terms.{kinds_in, entry_of, Asserts, AssertsNothing}
use Rattle.ab_infer.proofs.MeaningNames.{FreeAreNominal, free_are_nominal}
use Rattle.ab_determinism.specs.OpeningCommands.{OpensNothing}
use Rattle.ab_determinism.proofs.Settled.{Settled}
use Rattle.ab_determinism.proofs.Namings.{used_also}
use Rattle.ab_determinism.proofs.OneReading.{means_or_not, one_meaning, one_cause, means_or_not_in, one_meaning_in, one_cause_in}

pub never_named : (l : Label) (s : Sequent) (x : List ℕ) (t : Sequent) → Names l s x t → NoName l s → ⊥
never_named auto s x t a none = none a.0 a.1.has
never_named (given z) s x t a used = a.0 used

reading_settled : (D : Declarations) (s : Sequent) (e : Tree) (A : Ty) (k : Read → Row) → ((t : Read) → Settled (k t)) → Settled (reading D s e A k)
reading_settled D s e A k rest = (means_or_not D s e A, one_cause D s e A, one_meaning D s e A, rest)

-- terms are read one after another for constants
readings_settled : (D : Declarations) (s : Sequent) (known names : List Nominal) (es : List Instance) (k : List (Nominal × Read) → Row) → ((rs : List (Nominal × Read)) → Settled (k rs)) → Settled (reading_for D s known names es k)
readings_settled D s known names [] k rest = rest []
readings_settled D s known names (e ∷ es) k rest = λ a.
    let scope = scope_with D s known in
    let nominal : (r : Resolved) → resolved scope [] e.term ≡ Ok r → FreeAreNominal r = λ r x. free_are_nominal (kinds_in D) (signature_in D) (map entry_of s.variables) (goal_names s ++ known) e.term r x in (
      means_or_not_in D scope e.term a.type nominal,
      one_cause_in D scope e.term a.type nominal,
      one_meaning_in D scope e.term a.type nominal,
      λ t. readings_settled D s (known ++ support t) names es (λ rs. k ((a, t) ∷ rs)) (λ rs. rest ((a, t) ∷ rs)),
    )

module _ (D : Declarations) (s : Sequent) (e : Tree) where
  states_or_not : (F : Read) (f : Refusal) → Asserts D s e F → AssertsNothing D s e f → ⊥
  states_or_not F f a (inl n) = means_or_not D s e prop F f a.0 n
  states_or_not F f a (inr (G, m, none, is)) = none (subst (IsFormula (signature_in D)) (one_meaning D s e prop F G a.0 m) a.1)

  one_fault : (f g : Refusal) → AssertsNothing D s e f → AssertsNothing D s e g → f ≡ g
  one_fault f g (inl n) (inl m) = one_cause D s e prop f g n m
  one_fault f g (inl n) (inr (G, m, none, is)) = absurd (means_or_not D s e prop G f m n)
  one_fault f g (inr (F, m, none, is)) (inl n) = absurd (means_or_not D s e prop F g m n)
  one_fault f g (inr (F, m, none, is)) (inr (G, k, other, at)) = is ∙ sym at

  stating_settled : (k : Read → Row) → ((F : Read) → Settled (k F)) → Settled (stating D s e k)
  stating_settled k rest = (states_or_not, one_fault, λ F G a b. one_meaning D s e prop F G a.0 b.0, rest)

naming_settled : (l : Label) (s : Sequent) (k : List ℕ → Sequent → Row) → ((x : List ℕ) (t : Sequent) → Settled (k x t)) → Settled (naming l s k)
naming_settled l s k rest = (
  λ p f named none. never_named l s p.0 p.1 named none.0,
  λ f g a b. a.1 ∙ sym b.1,
  λ p q a b. let same = names_once l s p.0 q.0 p.1 q.1 a b in pairs p q same.0 same.1,
  λ p. rest p.0 p.1,
)
  where
    pairs : (p q : List ℕ × Sequent) → p.0 ≡ q.0 → p.1 ≡ q.1 → p ≡ q
    pairs p q e d = ap (λ x. pair x p.1) e ∙ ap (pair q.0) d
      where
        pair : List ℕ → Sequent → List ℕ × Sequent
        pair x t = (x, t)

-- a hypothesis of induction gets one name, in goals that are one with names for numbers
pub named_by_once : (word : List ℕ) (l : Label) (s u : Sequent) → named s ≡ named u → (x y : List ℕ) → IsNamedBy word l s x → IsNamedBy word l u y → x ≡ y
named_by_once word auto s u same x y a b =
    let Free : ℕ → Type 0 = λ m. ¬ IsUsed u (numbered word m) in
    let also : IsLeast Free a.0 = record {
      has = λ used. a.1.has (used_also u s (sym same) (numbered word a.0) used);
      first = λ m l free. a.1.first m l (λ used. free (used_also s u same (numbered word m) used));
    } in
    a.2 ∙ ap (numbered word) (least_once Free a.0 b.0 also b.1) ∙ sym b.2
named_by_once word (given z) s u same x y a b = a ∙ sym b

marked_settled : (P : Type 0) (k : Row) → Settled k → Settled (marked_so P k)
marked_settled P k rest = (λ u f p n. n.0 p, λ f g m n. m.1 ∙ sym n.1, λ u v p q. refl, λ u. rest)

hypotheses_settled : (word : List ℕ) (Fs : List Read) (l : Label) (s : Sequent) (k : Sequent → Row) → ((t : Sequent) → Settled (k t)) → Settled (hypotheses_named word l Fs s k)
hypotheses_settled word [] l s k rest = rest s
hypotheses_settled word (F ∷ Fs) l s k rest =
    (λ x f m n. n, λ f g m n. absurd m, λ x y m n. named_by_once word l s s refl x y m n, λ x. hypotheses_settled word Fs auto (assuming x F s) k rest)

pub settled : (D : Declarations) (l : Label) (command : ProofCommand) (s : Sequent) → OpensNothing command → Settled (effect D l command s)
settled D l (intros xs) s no_opening = absurd no_opening
settled D l (case H keep) s no_opening = absurd no_opening
settled D l split s so = λ p. tt
settled D l split_all s so = λ p. tt
settled D l left s so = λ p. tt
settled D l right s so = λ p. tt
settled D l (exists e) s so = λ q. reading_settled D s e q.0 (λ t. leads (proving (instance q.1 t) s ∷ [])) (λ t. tt)
settled D l (assert e) s so =
    stating_settled D s e (λ F. naming l s (λ name t. leads (proving F s ∷ assuming name F t ∷ [])))
    (λ F. naming_settled l s (λ name t. leads (proving F s ∷ assuming name F t ∷ [])) (λ x t. tt))
settled D l (clear Hs) s so = tt
settled D l (rename H x) s so = λ F. tt
settled D l (induction ns) s so = λ ms.
    let Fs = conjuncts s.conclusion in
    let i = next_level inductive_level s in
    let last : Sequent → Row = λ t. leads (proving (with_parts (marked_antecedents ns (at_of i) Fs) s.conclusion) t ∷ []) in
    marked_settled (All (λ m. m ≡ plain) ms) (hypotheses_named (codes "IH") l (marked_antecedents ns (star_of i) Fs) s last)
    (hypotheses_settled (codes "IH") (marked_antecedents ns (star_of i) Fs) l s last (λ t. tt))
settled D l coinduction s so = λ ms.
    let Fs = conjuncts s.conclusion in
    let i = next_level coinductive_level s in
    let last : Sequent → Row = λ t. leads (proving (with_parts (marked_consequents (hash_of i) Fs) s.conclusion) t ∷ []) in
    marked_settled (All (λ m. m ≡ plain) ms) (hypotheses_named (codes "CH") l (marked_consequents (plus_of i) Fs) s last)
    (hypotheses_settled (codes "CH") (marked_consequents (plus_of i) Fs) l s last (λ t. tt))
settled D l (apply H vs is) s no_opening = absurd no_opening
settled D l (backchain H is) s no_opening = absurd no_opening
settled D l (cut H K) s so = λ F G p q L.
    naming_settled l s (λ name t. leads (assuming name (marked_judgement plain L p.1) t ∷ [])) (λ x t. tt)
settled D l (inst H is) s so = λ F p.
    let G = marked_judgement plain p.0 p.1 in
    let last : List (Nominal × Read) → Row = λ rs. naming l s (λ name t. leads (assuming name (replace_constants rs G) t ∷ [])) in
    readings_settled D s [] (support G) is last (λ rs. naming_settled l s (λ name t. leads (assuming name (replace_constants rs G) t ∷ [])) (λ x t. tt))
settled D l (monotone H e) s so =
    let last : Read → Read × Read → Row = λ K p. naming l s (λ name t. leads (proving (is_within p.0 K) s ∷ assuming name (marked_judgement plain K p.1) t ∷ [])) in
    reading_settled D s e olist (λ K. finds (no_hypothesis H) (formula_of s H) (λ F. finds wrong_shape (as_unfocused F) (λ p. last K p)))
    (λ K F p. naming_settled l s (λ name t. leads (proving (is_within p.0 K) s ∷ assuming name (marked_judgement plain K p.1) t ∷ [])) (λ x t. tt))
settled D l (search n) s so = tt
settled D l skip s so = tt
settled D l unfold_goal s no_opening = absurd no_opening
settled D l (permute ns None) s so = (λ u f p n. n.0 p, λ f g m n. m.1 ∙ sym n.1, λ u v p q. refl, λ u A. tt)
settled D l (permute ns (Some H)) s so = (λ u f p n. n.0 p, λ f g m n. m.1 ∙ sym n.1, λ u v p q. refl, λ u F A. tt)
