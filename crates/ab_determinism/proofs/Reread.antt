-- What an expression means in goals that are one but for the numbers of their variables: one term but for these numbers, or
-- nothing for one cause.
use Rattle.std.specs.Prelude.{Ok}
use Rattle.std.proofs.Common.{◌≡◌, inl, inr, ℕ, ◌<◌, List, [], ◌∷◌, ◌++◌, map, length, codes, get_or, Option, Some, None, refl, sym, ◌∙◌, ap, subst}
use Rattle.ab_term.specs.Types.{Ty, kind, arrow, prop}
use Rattle.ab_term.specs.Terms.{Nominal, Head, constant, logical, nominal, variable, index, lam, spine, Terms, no_terms, term, Read}
use Rattle.ab_term.specs.Typing.{Signature, head_type}
use Rattle.ab_term.specs.Substitution.{instance}
use Rattle.ab_term.specs.Expansion.{expansion_of}
use Rattle.ab_term.specs.Translation.{translate_head, translate_all}
use Rattle.ab_term.specs.Beta.{atom, abstraction, application}
use Rattle.ab_term.proofs.Translations.{translate-instance, translate-expansion_of, translate_typed}
use Rattle.ab_grammar.specs.Tree.{Tree}
use Rattle.ab_formulas.specs.Formulas.{Place, a_formula, a_scope, a_marked, any, places_of, IsRigid, IsAtomic, StandsIn, AllStandIn, IsFormula}
use Rattle.ab_meaning.specs.ResolvedNames.{Name, Resolved, free}
use Rattle.ab_meaning.specs.Scopes.{Scope, resolved, nominal_number, made_of}
use Rattle.ab_meaning.specs.Readings.{Raw, Reads, reads_bound, reads_known, reads_free, reads_apply, reads_behind, reads_abs, reads_equal, reads_bind}
use Rattle.ab_meaning.specs.ReadingCounts.{Reading, IsTheReading, Differ}
use Rattle.ab_meaning.specs.Normal.{left_type, given_all, long_form, normal_given, normal_form}
use Rattle.ab_formulas.specs.Declarations.{Declarations, signature_in}
use Rattle.ab_formulas.specs.Sequents.{Sequent, IsSequent, goal_names}
use Rattle.ab_formulas.specs.NamedGoals.{named}
use Rattle.ab_meaning.specs.Refusals.{Refusal, unknown, type_clash, untyped, clash, no_hypothesis, wrong_shape, mark, no_match, not_pattern, unresolved, names_spent}
use Rattle.ab_meaning.specs.Terms.{made, kinds_in, entry_of, constant_named, scope_of, MeansIn, MeansNothingIn, Means, MeansNothing, Asserts, AssertsNothing}
use Rattle.ab_effects.specs.FormulaUses.{scope_with}
use Rattle.ab_infer.proofs.MeaningNames.{free_are_nominal}
use Rattle.ab_determinism.proofs.OneReading.{means_or_not_in, one_cause_in, means_or_not, one_cause}
use Rattle.ab_determinism.proofs.Renumbered.{Renumbering, renumber, renumbering}
use Rattle.ab_determinism.proofs.Rescoped.{told, places_told, resolved_there, resolved_with}

-- READINGS with other numbers
module _ (f : ℕ → ℕ) where
  abbrev raw_told : Raw → Raw
  raw_told (atom h) = atom (translate_head f h)
  raw_told (abstraction A x t) = abstraction A x (raw_told t)
  raw_told (application t u) = application (raw_told t) (raw_told u)

  made_told : (x : Name) (n : Option ℕ) (A : Ty) → constant_named x n A ≡ translate_head f (constant_named x n A)
  made_told x None A = refl
  made_told x (Some n) A = refl

  reads_told : {types : Name → Ty} {G : List Ty} {e : Resolved} {t : Raw} {A : Ty} {As : List Ty} → Reads made types G e t A As → Reads made types G (told f e) (raw_told t) A As
  reads_told (reads_bound e) = reads_bound e
  reads_told reads_known = reads_known
  reads_told {types = types} {G = G} (reads_free {x = x} {p = p} k) =
      subst (λ h. Reads made types G (free x p) (atom h) (types x) (types x ∷ [])) (made_told x (nominal_number x) (types x)) (reads_free k)
  reads_told (reads_apply d h) = reads_apply (reads_told d) (reads_told h)
  reads_told (reads_behind d h) = reads_behind (reads_told d) (reads_told h)
  reads_told (reads_abs k d) = reads_abs k (reads_told d)
  reads_told (reads_equal d h) = reads_equal (reads_told d) (reads_told h)
  reads_told (reads_bind k w d) = reads_bind k w (reads_told d)

  reading_told : (e : Resolved) (A : Ty) → Reading made e A → Reading made (told f e) A
  reading_told e A r = record { term = raw_told r.term; given = r.given; types = r.types; reads = reads_told r.reads }

  differ_told : (e : Resolved) (A : Ty) (k : ℕ) → Differ made e A k → Differ made (told f e) A k
  unfolding reading_told
  differ_told e A k d = record { one = reading_told e A d.one; other = reading_told e A d.other; apart = d.apart }

  -- NORMAL FORMS

  head_type_told : (sg : Signature) (G : List Ty) (h : Head ℕ) → head_type sg G (translate_head f h) ≡ head_type sg G h
  head_type_told sg G (constant c) = refl
  head_type_told sg G (logical l) = refl
  head_type_told sg G (nominal a) = refl
  head_type_told sg G (variable x) = refl
  head_type_told sg G (index i) = refl

  left_told : (A : Ty) (ts : Terms ℕ (List ℕ)) → left_type A (translate_all f (λ h. h) ts) ≡ left_type A ts
  left_told A no_terms = refl
  left_told (kind k) (term t ts) = refl
  left_told (arrow A B) (term t ts) = left_told B ts

  given_told : (t : Read) (ts : Terms ℕ (List ℕ)) → given_all (renumber f t) (translate_all f (λ h. h) ts) ≡ renumber f (given_all t ts)
  given_told t no_terms = refl
  given_told t (term u us) = ap (λ v. given_all v (translate_all f (λ h. h) us)) (sym (translate-instance f (λ h. h) t u)) ∙ given_told (instance t u) us

  long_told : (o : Option Ty) (h : Head ℕ) (ts : Terms ℕ (List ℕ)) → long_form o (translate_head f h) (translate_all f (λ h. h) ts) ≡ renumber f (long_form o h ts)
  long_told None h ts = refl
  long_told (Some A) h ts =
      ap (λ B. expansion_of (codes "x") B (translate_head f h) (translate_all f (λ h. h) ts)) (left_told A ts) ∙ sym (translate-expansion_of f (λ h. h) (codes "x") (left_type A ts) h ts)

  normal_told : (sg : Signature) (G : List Ty) (t : Raw) (ts : Terms ℕ (List ℕ)) → normal_given sg G (raw_told t) (translate_all f (λ h. h) ts) ≡ renumber f (normal_given sg G t ts)
  normal_told sg G (atom h) ts =
      ap (λ o. long_form o (translate_head f h) (translate_all f (λ h. h) ts)) (head_type_told sg G h) ∙ long_told (head_type sg G h) h ts
  normal_told sg G (abstraction A x t) ts =
      ap (λ b. given_all (lam A x b) (translate_all f (λ h. h) ts)) (normal_told sg (A ∷ G) t no_terms) ∙ given_told (lam A x (normal_given sg (A ∷ G) t no_terms)) ts
  normal_told sg G (application t u) ts =
      ap (λ v. normal_given sg G (raw_told t) (term v (translate_all f (λ h. h) ts))) (normal_told sg G u no_terms) ∙ normal_told sg G t (term (normal_given sg G u no_terms) ts)

  -- FORMULAS

  rigid_told : (h : Head ℕ) → IsRigid h → IsRigid (translate_head f h)
  rigid_told (constant c) k = k
  rigid_told (logical l) k = k
  rigid_told (nominal a) k = k
  rigid_told (variable x) k = k
  rigid_told (index i) k = k

  places_same : (h : Head ℕ) → places_of h ≡ places_of (translate_head f h)
  places_same (constant c) = refl
  places_same (logical l) = refl
  places_same (nominal a) = refl
  places_same (variable x) = refl
  places_same (index i) = refl

  atomic_told : (h : Head ℕ) → IsAtomic h → IsAtomic (translate_head f h)
  atomic_told (constant c) k = k
  atomic_told (logical l) k = k
  atomic_told (nominal a) k = k
  atomic_told (variable x) k = k
  atomic_told (index i) k = k

  mutual
    stands_told : (p : Place) (t : Read) → StandsIn p t → StandsIn p (renumber f t)
    stands_told any t k = tt
    stands_told a_formula (lam A x t) k = k
    stands_told a_formula (spine h ts) k = (rigid_told h k.0, subst (λ p. AllStandIn p (translate_all f (λ h. h) ts)) (places_same h) (all_stand_told (places_of h) ts k.1))
    stands_told a_scope (lam A x t) k = stands_told a_formula t k
    stands_told a_scope (spine h ts) k = k
    stands_told a_marked (lam A x t) k = k
    stands_told a_marked (spine h ts) k = atomic_told h k

    all_stand_told : (p : Place) (ts : Terms ℕ (List ℕ)) → AllStandIn p ts → AllStandIn p (translate_all f (λ h. h) ts)
    all_stand_told p no_terms k = tt
    all_stand_told p (term t ts) k = (stands_told p t k.0, all_stand_told p ts k.1)

  pub formula_told : (sg : Signature) (F : Read) → IsFormula sg F → IsFormula sg (renumber f F)
  formula_told sg F is = record { typed = translate_typed sg f (λ h. h) is.typed; stands = stands_told a_formula F is.stands }

-- IN TWO SCOPES, where each name stands for the same but for the numbers
module _ (D : Declarations) (f : ℕ → ℕ) (here there : Scope) (e : Tree) (A : Ty) (goes : resolved there [] e ≡ made_of (told f) (resolved here [] e)) where
  told_name : (q : Resolved) → resolved here [] e ≡ Ok q → resolved there [] e ≡ Ok (told f q)
  told_name q is = goes ∙ ap (made_of (told f)) is

  named_there : (q v : Resolved) → resolved here [] e ≡ Ok q → resolved there [] e ≡ Ok v → told f q ≡ v
  named_there q v x y = let both : Ok (told f q) ≡ Ok v = sym (told_name q x) ∙ y in cc

  -- a reading in the one is the reading in the other
  one_term : (q v : Resolved) (t w : Raw) → told f q ≡ v → IsTheReading made q A t → IsTheReading made v A w → raw_told f t ≡ w
  unfolding reading_told
  one_term q v t w is m k =
      let back = subst (λ z. IsTheReading made z A w) (sym is) k in
      ap (raw_told f) (sym m.is) ∙ back.alone (reading_told f q A m.reading)

  pub same_meaning_in : (t v : Read) → MeansIn D here e A t → MeansIn D there e A v → v ≡ renumber f t
  same_meaning_in t v m k =
      let is : raw_told f m.raw ≡ k.raw = one_term m.named k.named m.raw k.raw (named_there m.named k.named m.names k.names) m.reading k.reading in
      k.normal ∙ ap (normal_form (signature_in D) []) (sym is) ∙ normal_told f (signature_in D) [] m.raw no_terms ∙ ap (renumber f) (sym m.normal)

module _ (D : Declarations) (f b : ℕ → ℕ) (here there : Scope) (e : Tree) (A : Ty) (goes : resolved there [] e ≡ made_of (told f) (resolved here [] e)) (back : resolved here [] e ≡ made_of (told b) (resolved there [] e)) where
  -- the expression in the other scope, and back
  told_back : (q : Resolved) → resolved here [] e ≡ Ok q → told b (told f q) ≡ q
  told_back q is =
      let both : Ok (told b (told f q)) ≡ Ok q = sym (told_name D b there here e A back (told f q) (told_name D f here there e A goes q is)) ∙ is in
      cc

  pub nothing_in : (c : Refusal) → MeansNothingIn here e A c → MeansNothingIn there e A c
  nothing_in (unknown x) n = goes ∙ ap (made_of (told f)) n
  nothing_in (type_clash p) n =
      let q = n.0.0 in
      ((told f q, told_name D f here there e A goes q n.0.1, λ d. n.0.2 (subst (λ w. Reading made w A) (told_back q n.0.1) (reading_told b (told f q) A d))), n.1)
  nothing_in (untyped p) n =
      let q = n.0 in (
        told f q,
        told_name D f here there e A goes q n.1,
        record {
          number = n.2.number;
          within = subst (λ l. n.2.number < length l) (sym (places_told f q)) n.2.within;
          place_is = n.2.place_is ∙ ap (λ l. get_or l n.2.number 0) (sym (places_told f q));
          differ = differ_told f q A n.2.number n.2.differ;
          first = λ k l d. n.2.first k l (subst (λ w. Differ made w A k) (told_back q n.1) (differ_told b (told f q) A k d));
        },
      )
  nothing_in (clash x) n = n
  nothing_in (no_hypothesis x) n = n
  nothing_in wrong_shape n = n
  nothing_in mark n = n
  nothing_in no_match n = n
  nothing_in (not_pattern i) n = n
  nothing_in (unresolved x) n = n
  nothing_in names_spent n = n

-- IN TWO GOALS
module _ (D : Declarations) (s u : Sequent) (r : Renumbering s u) (same : named s ≡ named u) (e : Tree) (A : Ty) where
  pub same_meaning : (t v : Read) → Means D s e A t → Means D u e A v → v ≡ renumber r.by t
  same_meaning = same_meaning_in D r.by (scope_of D s) (scope_of D u) e A (resolved_there D s u r same e)

module _ (D : Declarations) (s u : Sequent) (r : Renumbering s u) (b : Renumbering u s) (same : named s ≡ named u) (e : Tree) (A : Ty) where
  pub nothing_there : (c : Refusal) → MeansNothing D s e A c → MeansNothing D u e A c
  nothing_there = nothing_in D r.by b.by (scope_of D s) (scope_of D u) e A (resolved_there D s u r same e) (resolved_there D u s b (sym same) e)

-- what it means, and what it states, in goals that are one with names for numbers
module _ (D : Declarations) (s u : Sequent) (is : IsSequent D s) (its : IsSequent D u) (same : named s ≡ named u) (e : Tree) where
  r : Renumbering s u
  r = renumbering D s u is its same

  b : Renumbering u s
  b = renumbering D u s its is (sym same)

  -- where further constants are known
  module _ (more : List Nominal) (A : Ty) where
    pub meaning_or_not_with : (t : Read) (f : Refusal) → MeansIn D (scope_with D s more) e A t → MeansNothingIn (scope_with D u more) e A f → ⊥
    meaning_or_not_with t f m n =
        means_or_not_in D (scope_with D s more) e A (λ q x. free_are_nominal (kinds_in D) (signature_in D) (map entry_of s.variables) (goal_names s ++ more) e q x) t f m
        (nothing_in D b.by r.by (scope_with D u more) (scope_with D s more) e A (resolved_with D u s b (sym same) more e) (resolved_with D s u r same more e) f n)

    pub not_or_meaning_with : (t : Read) (f : Refusal) → MeansNothingIn (scope_with D s more) e A f → MeansIn D (scope_with D u more) e A t → ⊥
    not_or_meaning_with t f n m =
        means_or_not_in D (scope_with D u more) e A (λ q x. free_are_nominal (kinds_in D) (signature_in D) (map entry_of u.variables) (goal_names u ++ more) e q x) t f m
        (nothing_in D r.by b.by (scope_with D s more) (scope_with D u more) e A (resolved_with D s u r same more e) (resolved_with D u s b (sym same) more e) f n)

    pub cause_alike_with : (f g : Refusal) → MeansNothingIn (scope_with D s more) e A f → MeansNothingIn (scope_with D u more) e A g → f ≡ g
    cause_alike_with f g m n =
        one_cause_in D (scope_with D s more) e A (λ q x. free_are_nominal (kinds_in D) (signature_in D) (map entry_of s.variables) (goal_names s ++ more) e q x) f g m
        (nothing_in D b.by r.by (scope_with D u more) (scope_with D s more) e A (resolved_with D u s b (sym same) more e) (resolved_with D s u r same more e) g n)

  pub meaning_or_not : (A : Ty) (t : Read) (f : Refusal) → Means D s e A t → MeansNothing D u e A f → ⊥
  meaning_or_not A t f m n = means_or_not D s e A t f m (nothing_there D u s b r (sym same) e A f n)

  pub not_or_means : (A : Ty) (t : Read) (f : Refusal) → MeansNothing D s e A f → Means D u e A t → ⊥
  not_or_means A t f n m = means_or_not D u e A t f m (nothing_there D s u r b same e A f n)

  pub cause_alike : (A : Ty) (f g : Refusal) → MeansNothing D s e A f → MeansNothing D u e A g → f ≡ g
  cause_alike A f g m n = one_cause D s e A f g m (nothing_there D u s b r (sym same) e A g n)

  formula_there : (F G : Read) → Means D s e prop F → Means D u e prop G → IsFormula (signature_in D) F → IsFormula (signature_in D) G
  formula_there F G m k f = subst (IsFormula (signature_in D)) (sym (same_meaning D s u r same e prop F G m k)) (formula_told r.by (signature_in D) F f)

  formula_back : (F G : Read) → Means D s e prop F → Means D u e prop G → IsFormula (signature_in D) G → IsFormula (signature_in D) F
  formula_back F G m k f = subst (IsFormula (signature_in D)) (sym (same_meaning D u s b (sym same) e prop G F k m)) (formula_told b.by (signature_in D) G f)

  pub states_or_not : (F : Read) (f : Refusal) → Asserts D s e F → AssertsNothing D u e f → ⊥
  states_or_not F f a (inl n) = meaning_or_not prop F f a.0 n
  states_or_not F f a (inr (G, m, none, at)) = none (formula_there F G a.0 m a.1)

  pub not_or_states : (F : Read) (f : Refusal) → AssertsNothing D s e f → Asserts D u e F → ⊥
  not_or_states F f (inl n) a = not_or_means prop F f n a.0
  not_or_states F f (inr (G, m, none, at)) a = none (formula_back G F m a.0 a.1)

  pub faults_alike : (f g : Refusal) → AssertsNothing D s e f → AssertsNothing D u e g → f ≡ g
  faults_alike f g (inl n) (inl m) = cause_alike prop f g n m
  faults_alike f g (inl n) (inr (G, m, none, at)) = absurd (not_or_means prop G f n m)
  faults_alike f g (inr (F, m, none, at)) (inl n) = absurd (meaning_or_not prop F g m n)
  faults_alike f g (inr (F, m, none, at)) (inr (G, k, other, there)) = at ∙ sym there

pub same_meaning_with : (D : Declarations) (s u : Sequent) (r : Renumbering s u) → named s ≡ named u → (more : List Nominal) (e : Tree) (A : Ty) (t v : Read) → MeansIn D (scope_with D s more) e A t → MeansIn D (scope_with D u more) e A v
    → v ≡ renumber r.by t
same_meaning_with D s u r same more e A = same_meaning_in D r.by (scope_with D s more) (scope_with D u more) e A (resolved_with D s u r same more e)
