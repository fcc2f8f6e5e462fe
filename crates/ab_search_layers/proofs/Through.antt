-- Two steps, one at a hypothesis and one at the conclusion: what is derived of the parts is derived of the whole.
use Rattle.std.specs.Prelude.{All, Contains}
use Rattle.std.proofs.Common.{◌≡◌, ◌≢◌, inl, inr, ℕ, ◌+◌, ◌<◌, None, List, [], ◌∷◌, ◌++◌, map, codes, refl, sym, ◌∙◌, subst, arith}
use Rattle.std.proofs.lemmas.List.Elements.{Contains-append_left, Contains-append_right}
use Rattle.ab_term.specs.Types.{Ty, kind, arrow}
use Rattle.ab_term.specs.Terms as tree
use Rattle.ab_term.specs.Terms.{Nominal, nominal, variable, Terms, no_terms, Read}
use Rattle.ab_term.specs.Names.{support}
use Rattle.ab_term.specs.Typing.{HasType}
use Rattle.ab_term.specs.Substitution.{instance}
use Rattle.ab_term.specs.Expansion.{expansion_of}
use Rattle.ab_term.specs.Abstraction.{over}
use Rattle.ab_term.specs.Variables.{variables}
use Rattle.ab_term.proofs.Hinted.{given_typed}
use Rattle.ab_term.proofs.Lists.{Contains-none, Contains-cases, Contains-here, All-from_contains}
use Rattle.ab_unifiers.specs.Clauses.{name_term}
use Rattle.ab_unifiers.specs.Choices.{in_order}
use Rattle.ab_unifiers.specs.Member.{HasMember}
use Rattle.ab_formulas.specs.BodyMarks.{MayBeAnalysed, mark_below}
use Rattle.ab_formulas.specs.Declarations.{Declarations, HaveSentences, HaveDefinitions, signature_in}
use Rattle.ab_formulas.specs.Forms.{both, nabla, exists, form_of}
use Rattle.ab_formulas.specs.GoalTerms.{HoldsOnly}
use Rattle.ab_formulas.specs.Marks.{Sign, plain}
use Rattle.ab_formulas.specs.Programs.{HavePrograms}
use Rattle.ab_formulas.specs.Sequents.{Sequent}
use Rattle.ab_theory.specs.Judgements.{marked_judgement}
use Rattle.ab_theory.specs.Opening.{compound, kind_of, open_goal}
use Rattle.ab_theory.specs.Steps.{and_right, exists_right, nabla_right, definition_right}
use Rattle.ab_search_trees.specs.Guesses.{a_variable}
use Rattle.ab_search_trees.specs.Judgements.{judged}
use Rattle.ab_search_trees.proofs.Quantifiers.{given_variables}
use Rattle.ab_search_proofs.specs.Likeness.{StandIn, replaced, AreLike}
use Rattle.ab_search_proofs.specs.Coming.{ComesTo}
use Rattle.ab_search_proofs.proofs.Connectives.{both_step}
use Rattle.ab_search_proofs.proofs.Constants.{constant_step}
use Rattle.ab_search_proofs.proofs.Derived.{Derives, after, one_premise, two_premises, one_sequent, comes}
use Rattle.ab_search_proofs.proofs.Least.{above, number_below}
use Rattle.ab_search_proofs.proofs.Opening.{opening}
use Rattle.ab_search_proofs.proofs.Ruled.{rule_step}
use Rattle.ab_search_proofs.proofs.Witnesses.{term_step}
use Rattle.ab_search_layers.proofs.LeftSteps.{both_left, nabla_left_step, exists_left_step}
use Rattle.ab_search_layers.proofs.Meeting.{BeginsFree}
use Rattle.ab_search_layers.proofs.OpenedLeft.{opened_left_step}
use Rattle.ab_search_layers.proofs.TakenOut.{taken_out}

last_there : (Hs : List Read) (F : Read) → Contains (Hs ++ F ∷ []) F
last_there Hs F = Contains-append_right Hs (F ∷ []) F (Contains-here F [])

-- a number that no variable of the list has
abbrev beyond : List (tree.Variable ℕ) → ℕ
beyond [] = 0
beyond (y ∷ ys) = y.name + (beyond ys + 1)

within : (ys : List (tree.Variable ℕ)) (y : tree.Variable ℕ) → Contains ys y → y.name < beyond ys
within [] y m = absurd (Contains-none y m)
within (z ∷ ys) y m = elim (Contains-cases z ys y m) [
  | inl e ↦ subst (λ (k : tree.Variable ℕ). k.name < beyond (z ∷ ys)) e (omega arith)
  | inr n ↦ let l = within ys y n in omega (arith, l)
]

-- constants and variables as terms begin with themselves
name_free : (A : Ty) (a : Nominal) (ts : Terms ℕ (List ℕ)) → BeginsFree (expansion_of (codes "x") A (nominal a) ts)
name_free (kind k) a ts = tt
name_free (arrow A B) a ts = name_free B a _

variable_free : (A : Ty) (y : tree.Variable ℕ) (ts : Terms ℕ (List ℕ)) → BeginsFree (expansion_of (codes "x") A (variable y) ts)
variable_free (kind k) y ts = tt
variable_free (arrow A B) y ts = variable_free B y _

module _ (D : Declarations) (sentences : HaveSentences D) (definitions : HaveDefinitions D) (programs : HavePrograms D) (has : HasMember (signature_in D)) where
  -- each sequent like the goal has a whole derivation
  abbrev pub Derived : List StandIn → List Read → Read → Type 0
  Derived vs Hs C = Derives D sentences definitions programs has vs Hs C

  module _ (vs : List StandIn) (Hs : List Read) where
    pub both_left_through : (H K E F : Read) → form_of H ≡ both E F → Contains Hs H → ((Rs : List Read) → Contains Rs E → Contains Rs F → Derived vs Rs K) → Derived vs Hs K
    both_left_through H K E F h m next s is l =
        let t = taken_out D vs Hs K H s is l m in
        let step = both_left D vs Hs K H s is l t E F h in
        let Rs = (t.rest ++ E ∷ []) ++ F ∷ [] in
        after D sentences definitions programs has (AreLike D vs Rs (K ∷ [])) step.0 s is step.1 step.2
        (one_premise D sentences definitions programs has vs Rs K (next Rs (Contains-append_left (t.rest ++ E ∷ []) (F ∷ []) E (last_there t.rest E)) (last_there (t.rest ++ E ∷ []) F)))

    pub both_through : (H K E F A B : Read) → form_of H ≡ both E F → form_of K ≡ both A B → Contains Hs H → ((Rs : List Read) → Contains Rs E → Derived vs Rs A) → ((Rs : List Read) → Contains Rs F → Derived vs Rs B) → Derived vs Hs K
    both_through H K E F A B h k m first second =
        both_left_through H K E F h m (λ Rs e f u j g.
        after D sentences definitions programs has (AreLike D vs Rs (A ∷ B ∷ [])) and_right u j refl (both_step D vs Rs K u g A B k) (two_premises D sentences definitions programs has vs Rs A B (first Rs e) (second Rs f)))

    pub nabla_through : (H K F G : Read) (A : Ty) → form_of H ≡ nabla A F → form_of K ≡ nabla A G → Contains Hs H
        → ((t : Read) → BeginsFree t → (Rs : List Read) → Contains Rs (instance F t) → Derived vs Rs (instance G t)) → Derived vs Hs K
    nabla_through H K F G A h k m next s is l =
        let a : Nominal = record { number = above (support H) + above (support K); type = A } in
        let name = name_term (codes "x") a in
        let t = taken_out D vs Hs K H s is l m in
        let step = nabla_left_step D vs Hs K H s is l t A F a h refl (λ c. let low = number_below (support H) a c in omega (arith, low)) in
        let Rs = t.rest ++ instance F name ∷ [] in
        after D sentences definitions programs has (AreLike D vs Rs (K ∷ [])) step.0 s is step.1 step.2
        (one_premise D sentences definitions programs has vs Rs K (λ u j g.
        after D sentences definitions programs has (AreLike D vs Rs (instance G name ∷ [])) nabla_right u j refl (constant_step D vs Rs K u g A G a k refl (λ c. let low = number_below (support K) a c in omega (arith, low)))
        (one_premise D sentences definitions programs has vs Rs (instance G name) (next name (name_free A a no_terms) Rs (last_there t.rest (instance F name))))))

    pub exists_left_through : (H K F : Read) (A : Ty) → form_of H ≡ exists A F → Contains Hs H
        → ((t : Read) → BeginsFree t → HasType (signature_in D) [] t A → (v : StandIn) → HoldsOnly (map replaced (v ∷ vs)) t → (Rs : List Read) → Contains Rs (instance F t) → Derived (v ∷ vs) Rs K) → Derived vs Hs K
    exists_left_through H K F A h m next s is l =
        let n = beyond (map replaced vs) in
        let names = in_order (support H) in
        let x : tree.Variable ℕ = record { name = n; type = over names A } in
        let asked = a_variable n names A in
        let new : All (λ (y : tree.Variable ℕ). y.name ≢ n) (map replaced vs) = All-from_contains (λ (y : tree.Variable ℕ). y.name ≢ n) (map replaced vs) (λ y c e. let low = within (map replaced vs) y c in omega (arith, low, e)) in
        let t = taken_out D vs Hs K H s is l m in
        let Rs = t.rest ++ instance F asked ∷ [] in
        let step = exists_left_step D vs Hs K H s is l t A F n h new in
        after D sentences definitions programs has (λ qs. (v : StandIn) × (replaced v ≡ x) × AreLike D (v ∷ vs) Rs (K ∷ []) qs) step.0 s is step.1 step.2 (λ qs q all.
        let known : HoldsOnly (map replaced (q.0 ∷ vs)) asked = All-from_contains (Contains (map replaced (q.0 ∷ vs))) (variables asked) (λ y c. subst (Contains (map replaced (q.0 ∷ vs))) (q.1 ∙ sym (given_variables (codes "x") x names A y c)) (Contains-here (replaced q.0) (map replaced vs))) in
        one_premise D sentences definitions programs has (q.0 ∷ vs) Rs K (next asked (variable_free A x _) (given_typed (signature_in D) (codes "x") [] x names A refl) q.0 known Rs (last_there t.rest (instance F asked))) qs q.2 all)

    pub exists_through : (H K F G : Read) (A : Ty) → form_of H ≡ exists A F → form_of K ≡ exists A G → Contains Hs H
        → ((t : Read) → BeginsFree t → (ws : List StandIn) (Rs : List Read) → Contains Rs (instance F t) → Derived ws Rs (instance G t)) → Derived vs Hs K
    exists_through H K F G A h k m next =
        exists_left_through H K F A h m (λ t free typed v known Rs c u j g.
        let w = term_step D (v ∷ vs) Rs K u j g A G t k typed known in
        after D sentences definitions programs has (AreLike D (v ∷ vs) Rs (instance G t ∷ [])) (exists_right w.0) u j refl w.1 (one_premise D sentences definitions programs has (v ∷ vs) Rs (instance G t) (next t free (v ∷ vs) Rs c)))

    -- A JUDGEMENT IS OPENED, as a hypothesis
    pub left_through : (K : Read) (m : Sign) (L G : Read) → MayBeAnalysed m → kind_of G ≡ compound → Contains Hs (marked_judgement m L G) → ((Rs : List Read) → Contains Rs (open_goal (mark_below m) L G) → Derived vs Rs K) → Derived vs Hs K
    left_through K m L G may made there next s is l =
        let t = taken_out D vs Hs K (marked_judgement m L G) s is l there in
        let step = opened_left_step D has vs Hs K s l m L G t made may in
        let Rs = t.rest ++ open_goal (mark_below m) L G ∷ [] in
        after D sentences definitions programs has (AreLike D vs Rs (K ∷ [])) step.0 s is step.1 step.2
        (one_premise D sentences definitions programs has vs Rs K (next Rs (last_there t.rest (open_goal (mark_below m) L G))))

    -- and as the conclusion
    pub right_through : (L G : Read) → kind_of G ≡ compound → Derived vs Hs (open_goal plain L G) → Derived vs Hs (judged L G)
    right_through L G made next s is l =
        let C = judged L G in
        let B = open_goal plain L G in
        let i = opening D has (map replaced vs) C l.conclusion.formula l.conclusion.known (record { sign = plain; context = L; focus = None; goal = G }) refl tt refl made in
        let step = rule_step D programs has vs Hs C s is l [] B i in
        after D sentences definitions programs has (λ ps. (t : Sequent) × (ps ≡ t ∷ []) × ComesTo D vs Hs B t) (definition_right step.0) s is refl step.1
        (λ ps k j. one_sequent D sentences definitions programs has k.0 (λ h. comes D sentences definitions programs has vs Hs B next k.0 k.2 h) ps k.1 j)
