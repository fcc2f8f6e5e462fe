-- Goals with formulas that are still to be taken apart, which are the same with names for numbers.
use Rattle.std.specs.Prelude.{All, Contains}
use Rattle.std.proofs.Common.{◌≡◌, inl, inr, ℕ, List, [], ◌∷◌, ◌++◌, map, refl, sym, ◌∙◌, ap, subst}
use Rattle.std.proofs.lemmas.List.{map-append}
use Rattle.std.proofs.lemmas.List.Elements.{All-cons, All-head, All-tail, All-weaker, All-contains, Contains-append_left, Contains-append_right, Contains-append_cases, Contains-push, Contains-push_cases}
use Rattle.ab_term.specs.Types.{Ty}
use Rattle.ab_term.specs.Terms.{Nominal, Read}
use Rattle.ab_term.specs.Terms as tree
use Rattle.ab_term.specs.Names.{support, HasOneTypeEach}
use Rattle.ab_term.specs.Substitution.{instance}
use Rattle.ab_term.proofs.Lists.{All-from_contains, Contains-none}
use Rattle.ab_term.proofs.Translations.{translate-instance}
use Rattle.ab_formulas.specs.Declarations.{Declarations, signature_in}
use Rattle.ab_formulas.specs.Forms.{both, exists, nabla, form_of, both_in, exists_in, nabla_in}
use Rattle.ab_formulas.specs.Sequents.{Variable, Hypothesis, Sequent, HoldsOnly, assuming, goal_names, names_of, formulas, over}
use Rattle.ab_formulas.specs.NewNames.{Label, Names}
use Rattle.ab_theory.specs.Rules.{IsSupport, name_term, raised, applied}
use Rattle.ab_theory.proofs.Longer.{named_new}
use Rattle.ab_theory.proofs.RulesParts.{MayStand, IsScope, both_may, exists_scope, nabla_scope, instance_may, name_may, applied_may}
use Rattle.ab_theory.proofs.Sequents.{IsGoal, AllFormulas, goal_of, sequent_from, formula_names, assuming_goal, labelled_goal, may_more, scope_more, names_more, over_goal}
use Rattle.ab_formulas.specs.NamedGoals.{Goal, name_in, with_names, hypothesis_named, named}
use Rattle.ab_formulas.specs.NamedGoals as shown
use Rattle.ab_effects.specs.Openings.{MayTake, Taken}
use Rattle.ab_determinism.proofs.Namings.{IsClosed, names_alike, made_alike, over_more, name_term_is, same_constants, same_supports}

-- the goal, and the formulas over it, hold these nominal constants alone
pub record IsFine (D : Declarations) (N : List Nominal) (s : Sequent) (Fs : List Read) : Type 0 where
  pub goal : IsGoal D N s
  pub formulas : All (MayStand (signature_in D) s.variables N) Fs

pub record Alike (D : Declarations) (N : List Nominal) (s : Sequent) (Fs : List Read) (u : Sequent) (Gs : List Read) : Type 0 where
  pub goals : named s ≡ named u
  pub formulas : map (with_names s.variables) Fs ≡ map (with_names u.variables) Gs
  pub one : HasOneTypeEach N
  pub first : IsFine D N s Fs
  pub second : IsFine D N u Gs

pub flipped : (D : Declarations) (N : List Nominal) (s u : Sequent) (Fs Gs : List Read) → Alike D N s Fs u Gs → Alike D N u Gs s Fs
flipped D N s u Fs Gs a = record { goals = sym a.goals; formulas = sym a.formulas; one = a.one; first = a.second; second = a.first }

pub closed_goal : (D : Declarations) (N : List Nominal) (s : Sequent) → IsGoal D N s → IsClosed s
closed_goal D N s g = record {
  conclusion = g.conclusion.closed;
  hypotheses = All-weaker (λ (h : Hypothesis). MayStand (signature_in D) s.variables N h.formula) (λ (h : Hypothesis). HoldsOnly s.variables h.formula) (λ h m. m.closed) s.hypotheses g.hypotheses;
}

first_same : {X : Type 0} {x y : X} {xs ys : List X} → x ∷ xs ≡ y ∷ ys → x ≡ y
first_same e = cc

rest_same : {X : Type 0} {x y : X} {xs ys : List X} → x ∷ xs ≡ y ∷ ys → xs ≡ ys
rest_same e = cc

joined : {X : Type 0} (x y : X) (xs ys : List X) → x ≡ y → xs ≡ ys → x ∷ xs ≡ y ∷ ys
joined x y xs ys e f = ap (λ z. z ∷ xs) e ∙ ap (λ zs. y ∷ zs) f

-- ONE GOAL

module _ (D : Declarations) (N : List Nominal) where
  abbrev May : Sequent → Read → Type 0
  May s = MayStand (signature_in D) s.variables N

  pub dropped : (s : Sequent) (F : Read) (Fs : List Read) → IsFine D N s (F ∷ Fs) → IsFine D N s Fs
  dropped s F Fs f = record { goal = f.goal; formulas = All-tail (May s) F Fs f.formulas }

  pub here : (s : Sequent) (F : Read) (Fs : List Read) → IsFine D N s (F ∷ Fs) → May s F
  here s F Fs f = All-head (May s) F Fs f.formulas

  pub parted : (s : Sequent) (F A B : Read) (Fs : List Read) → form_of F ≡ both A B → IsFine D N s (F ∷ Fs) → IsFine D N s (A ∷ B ∷ Fs)
  parted s F A B Fs is f =
      let two = both_may (signature_in D) s.variables N F (A, B) (here s F Fs f) (ap both_in is) in
      record { goal = f.goal; formulas = All-cons (May s) A (B ∷ Fs) two.0 (All-cons (May s) B Fs two.1 (All-tail (May s) F Fs f.formulas)) }

  -- what a quantifier's name becomes over a new variable
  over_new : (s : Sequent) (number : ℕ) (name : List ℕ) (F : Read) (q : Ty × Read) (names : List Nominal) → May s F → IsScope (signature_in D) s.variables N q → IsSupport F names
      → MayStand (signature_in D) (s.variables ++ raised number name q.0 names ∷ []) N (instance q.1 (applied (raised number name q.0 names) names))
  over_new s number name F q names m scope support_of =
      let x = raised number name q.0 names in
      let xs = s.variables ++ x ∷ [] in
      instance_may (signature_in D) xs N q (applied x names)
      (scope_more D N N (λ a c. c) s.variables xs (λ y c. Contains-append_left s.variables (x ∷ []) y c) q scope)
      (applied_may (signature_in D) xs N number name q.0 names (Contains-push s.variables x)
      (All-from_contains (Contains N) names (λ a c. m.names a ((support_of.same a).0 c))))

  pub taken_fine : (s v : Sequent) (F G : Read) (A : Ty) (t : Read) (Fs : List Read) → IsScope (signature_in D) s.variables N (A, t) → May s F → IsGoal D N s → All (May s) Fs → Taken D s F A t G v
      → IsFine D N v (G ∷ Fs)
  taken_fine s v F G A t Fs scope may goal formulas k =
      let x = raised k.number k.name A k.names in
      let more = may_more D N N (λ a c. c) s.variables (s.variables ++ x ∷ []) (λ y c. Contains-append_left s.variables (x ∷ []) y c) in
      subst (λ (w : Sequent). IsFine D N w (G ∷ Fs)) (sym k.goal) (record {
        goal = over_goal D N s x goal k.new (named_new D s _ k.name k.named);
        formulas = All-cons (May (over x s)) G Fs (subst (May (over x s)) (sym k.body) (over_new s k.number k.name F (A, t) k.names may scope k.support_is))
            (All-weaker (May s) (May (over x s)) more Fs formulas);
      })

  pub assumed : (s v : Sequent) (l : Label) (name : List ℕ) (F : Read) (Fs : List Read) → IsGoal D N s → May s F → All (May s) Fs → Names l s name v → IsFine D N (assuming name F v) Fs
  assumed s v l name F Fs goal may formulas n =
      let lab = labelled_goal D N l s v name goal n in
      record {
        goal = assuming_goal D N v name F lab.goal lab.new (subst (λ xs. MayStand (signature_in D) xs N F) (sym lab.variables) may);
        formulas = subst (λ xs. All (MayStand (signature_in D) xs N) Fs) (sym lab.variables) formulas;
      }

-- one nominal constant more
module _ (D : Declarations) (N : List Nominal) (A : Ty) (n : ℕ) where
  abbrev pub M : List Nominal
  M = N ++ record { number = n; type = A } ∷ []

  more : (a : Nominal) → Contains N a → Contains M a
  more a c = Contains-append_left N (record { number = n; type = A } ∷ []) a c

  pub with_constant : (s : Sequent) (t : Read) (Fs : List Read) → IsScope (signature_in D) s.variables N (A, t) → IsGoal D N s → All (MayStand (signature_in D) s.variables N) Fs
      → IsFine D M s (instance t (name_term (record { number = n; type = A })) ∷ Fs)
  with_constant s t Fs scope goal formulas =
      let c : Nominal = record { number = n; type = A } in
      record {
        goal = names_more D N M more s goal;
        formulas = All-cons (MayStand (signature_in D) s.variables M) (instance t (name_term c)) Fs
            (instance_may (signature_in D) s.variables M (A, t) (name_term c) (scope_more D N M more s.variables s.variables (λ x d. d) (A, t) scope) (name_may (signature_in D) s.variables M c (Contains-push N c)))
            (All-weaker (MayStand (signature_in D) s.variables N) (MayStand (signature_in D) s.variables M) (may_more D N M more s.variables s.variables (λ x d. d)) Fs formulas);
      }

  pub one_more : HasOneTypeEach N → All (λ (b : Nominal). b.number ≡ n → b.type ≡ A) N → HasOneTypeEach M
  one_more one types a b c d e =
      let new : Nominal = record { number = n; type = A } in
      elim (Contains-push_cases N new a c) [
        | inl f ↦ elim (Contains-push_cases N new b d) [
          | inl g ↦ one a b f g e
          | inr g ↦ same_as a b (e ∙ sym (ap (λ (x : Nominal). x.number) g)) (All-contains (λ (x : Nominal). x.number ≡ n → x.type ≡ A) N a types f) g
        ]
        | inr f ↦ elim (Contains-push_cases N new b d) [
          | inl g ↦ sym (same_as b a (sym e ∙ sym (ap (λ (x : Nominal). x.number) f)) (All-contains (λ (x : Nominal). x.number ≡ n → x.type ≡ A) N b types g) f)
          | inr g ↦ sym f ∙ g
        ]
      ]
    where
      same_as : (x y : Nominal) → x.number ≡ n → (x.number ≡ n → x.type ≡ A) → record { number = n; type = A } ≡ y → x ≡ y
      same_as x y number type f = ap (λ m. record { number = m; type = x.type }) number ∙ ap (λ B. record { number = n; type = B }) (type number) ∙ f

-- the constants that stand in the goal and in the formulas
abbrev pub standing : Sequent → List Read → List Nominal
standing s Fs = goal_names s ++ names_of Fs

module _ (D : Declarations) (N : List Nominal) (one : HasOneTypeEach N) where
  in_hypotheses : (xs : List Variable) (hs : List Hypothesis) → AllFormulas (MayStand (signature_in D) xs N) hs → (a : Nominal) → Contains (names_of (formulas hs)) a → Contains N a
  in_hypotheses xs [] all a c = absurd (Contains-none a c)
  in_hypotheses xs (h ∷ hs) all a c =
      elim (Contains-append_cases (support h.formula) (names_of (formulas hs)) a c) [
        | inl d ↦ (All-head (λ (k : Hypothesis). MayStand (signature_in D) xs N k.formula) h hs all).names a d
        | inr d ↦ in_hypotheses xs hs (All-tail (λ (k : Hypothesis). MayStand (signature_in D) xs N k.formula) h hs all) a d
      ]

  in_formulas : (xs : List Variable) (Fs : List Read) → All (MayStand (signature_in D) xs N) Fs → (a : Nominal) → Contains (names_of Fs) a → Contains N a
  in_formulas xs [] all a c = absurd (Contains-none a c)
  in_formulas xs (F ∷ Fs) all a c =
      elim (Contains-append_cases (support F) (names_of Fs) a c) [
        | inl d ↦ (All-head (MayStand (signature_in D) xs N) F Fs all).names a d
        | inr d ↦ in_formulas xs Fs (All-tail (MayStand (signature_in D) xs N) F Fs all) a d
      ]

  in_all : (s : Sequent) (Fs : List Read) → IsFine D N s Fs → (a : Nominal) → Contains (standing s Fs) a → Contains N a
  in_all s Fs f a c =
      elim (Contains-append_cases (goal_names s) (names_of Fs) a c) [
        | inl d ↦ elim (Contains-append_cases (support s.conclusion) (names_of (formulas s.hypotheses)) a d) [
          | inl e ↦ f.goal.conclusion.names a e
          | inr e ↦ in_hypotheses s.variables s.hypotheses f.goal.hypotheses a e
        ]
        | inr d ↦ in_formulas s.variables Fs f.formulas a d
      ]

  pub one_standing : (s : Sequent) (Fs : List Read) → IsFine D N s Fs → HasOneTypeEach (standing s Fs)
  one_standing s Fs f a b c d e = one a b (in_all s Fs f a c) (in_all s Fs f b d) e

  pub fine_standing : (s : Sequent) (Fs : List Read) → IsFine D N s Fs → IsFine D (standing s Fs) s Fs
  fine_standing s Fs f = record {
    goal = names_more D (goal_names s) (standing s Fs) (λ a c. Contains-append_left (goal_names s) (names_of Fs) a c) s (goal_of D s (sequent_from D N s one f.goal));
    formulas = All-from_contains (MayStand (signature_in D) s.variables (standing s Fs)) Fs (λ F there.
        let m = All-contains (MayStand (signature_in D) s.variables N) Fs F f.formulas there in
        record { formula = m.formula; closed = m.closed; names = λ a c. Contains-append_right (goal_names s) (names_of Fs) a (formula_names Fs F a there c) });
  }

-- formulas over the goal say the same over one variable more
pub over_all : (D : Declarations) (N : List Nominal) (s v : Sequent) (F : Read) (A : Ty) (t G : Read) → Taken D s F A t G v → (Fs : List Read) → All (MayStand (signature_in D) s.variables N) Fs
    → map (with_names v.variables) Fs ≡ map (with_names s.variables) Fs
over_all D N s v F A t G k Fs all = ap (λ (g : Sequent). map (with_names g.variables) Fs) k.goal ∙ go Fs all
  where
    go : (Fs : List Read) → All (MayStand (signature_in D) s.variables N) Fs → map (with_names (s.variables ++ raised k.number k.name A k.names ∷ [])) Fs ≡ map (with_names s.variables) Fs
    go [] all = refl
    go (F ∷ Fs) all =
        joined _ _ _ _ (over_more s.variables (raised k.number k.name A k.names) F (All-head (MayStand (signature_in D) s.variables N) F Fs all).closed)
        (go Fs (All-tail (MayStand (signature_in D) s.variables N) F Fs all))

pub same_instance : (s u : Sequent) (t r : Read) (a : Nominal) → with_names s.variables t ≡ with_names u.variables r → with_names s.variables (instance t (name_term a)) ≡ with_names u.variables (instance r (name_term a))
same_instance s u t r a e =
    translate-instance (name_in s.variables) (λ h. h) t (name_term a)
    ∙ ap (λ z. instance z (with_names s.variables (name_term a))) e
    ∙ ap (instance (with_names u.variables r)) (name_term_is (name_in s.variables) a ∙ sym (name_term_is (name_in u.variables) a))
    ∙ sym (translate-instance (name_in u.variables) (λ h. h) r (name_term a))

pub same_all_constants : (s u : Sequent) → named s ≡ named u → (Fs Gs : List Read) → map (with_names s.variables) Fs ≡ map (with_names u.variables) Gs → standing s Fs ≡ standing u Gs
same_all_constants s u same Fs Gs e = ap (λ l. l ++ names_of Fs) (same_constants s u same) ∙ ap (λ l. goal_names u ++ l) (same_supports s.variables u.variables Fs Gs e)

abbrev with_hypothesis : shown.Hypothesis → Goal → Goal
with_hypothesis h g = record { variables = g.variables; hypotheses = g.hypotheses ++ h ∷ []; conclusion = g.conclusion; counter = g.counter }

abbrev goal_of_parts : List (tree.Variable (List ℕ)) → List shown.Hypothesis → shown.Named → ℕ → Goal
goal_of_parts vs hs C n = record { variables = vs; hypotheses = hs; conclusion = C; counter = n }

assumed_named : (v : Sequent) (x : List ℕ) (F : Read) → named (assuming x F v) ≡ with_hypothesis (record { name = x; formula = with_names v.variables F }) (named v)
assumed_named v x F =
    ap (λ hs. goal_of_parts (map shown.variable_named v.variables) hs (with_names v.variables v.conclusion) v.counter)
    (map-append (hypothesis_named v.variables) v.hypotheses (record { name = x; formula = F } ∷ []))

pub assumed_alike : (s u v w : Sequent) (x y : List ℕ) (F G : Read) → x ≡ y → named v ≡ named w → v.variables ≡ s.variables → w.variables ≡ u.variables → with_names s.variables F ≡ with_names u.variables G
    → named (assuming x F v) ≡ named (assuming y G w)
assumed_alike s u v w x y F G name goals first second same =
    assumed_named v x F
    ∙ ap (λ g. with_hypothesis (record { name = x; formula = with_names v.variables F }) g) goals
    ∙ ap (λ n. with_hypothesis (record { name = n; formula = with_names v.variables F }) (named w)) name
    ∙ ap (λ C. with_hypothesis (record { name = y; formula = C }) (named w)) (ap (λ xs. with_names xs F) first ∙ same ∙ sym (ap (λ xs. with_names xs G) second))
    ∙ sym (assumed_named w y G)

-- TWO GOALS, a step further

module _ (D : Declarations) (N : List Nominal) (s u : Sequent) (F G : Read) (Fs Gs : List Read) (alike : Alike D N s (F ∷ Fs) u (G ∷ Gs)) where
  pub same_formula : with_names s.variables F ≡ with_names u.variables G
  same_formula = first_same alike.formulas

  pub same_rest : map (with_names s.variables) Fs ≡ map (with_names u.variables) Gs
  same_rest = rest_same alike.formulas

  -- the formula gives way to nothing
  pub alike_nothing : Alike D N s Fs u Gs
  alike_nothing = record { goals = alike.goals; formulas = same_rest; one = alike.one; first = dropped D N s F Fs alike.first; second = dropped D N u G Gs alike.second }

  -- to its parts
  pub alike_parts : (A B C E : Read) → form_of F ≡ both A B → form_of G ≡ both C E → with_names s.variables A ≡ with_names u.variables C → with_names s.variables B ≡ with_names u.variables E
      → Alike D N s (A ∷ B ∷ Fs) u (C ∷ E ∷ Gs)
  alike_parts A B C E is at p q = record {
    goals = alike.goals;
    formulas = joined _ _ _ _ p (joined _ _ _ _ q same_rest);
    one = alike.one;
    first = parted D N s F A B Fs is alike.first;
    second = parted D N u G C E Gs at alike.second;
  }

  -- to its body over a new variable
  pub alike_variable : (A : Ty) (t r : Read) (X Y : Read) (v w : Sequent) → form_of F ≡ exists A t → form_of G ≡ exists A r → with_names s.variables t ≡ with_names u.variables r → Taken D s F A t X v → Taken D u G A r Y w
      → Alike D N v (X ∷ Fs) w (Y ∷ Gs)
  alike_variable A t r X Y v w is at p k j =
      let may = here D N s F Fs alike.first in
      let can = here D N u G Gs alike.second in
      let scope = exists_scope (signature_in D) s.variables N F (A, t) may (ap exists_in is) in
      let place = exists_scope (signature_in D) u.variables N G (A, r) can (ap exists_in at) in
      let fs = All-tail (MayStand (signature_in D) s.variables N) F Fs alike.first.formulas in
      let gs = All-tail (MayStand (signature_in D) u.variables N) G Gs alike.second.formulas in
      let made = made_alike D s u alike.goals (closed_goal D N s alike.first.goal) (closed_goal D N u alike.second.goal) F G same_formula
      (λ a b c d e. alike.one a b (may.names a c) (may.names b d) e) A t r p scope.put.closed place.put.closed X Y v w k j in
      record {
        goals = made.0;
        formulas = joined _ _ _ _ made.1 (over_all D N s v F A t X k Fs fs ∙ same_rest ∙ sym (over_all D N u w G A r Y j Gs gs));
        one = alike.one;
        first = taken_fine D N s v F X A t Fs scope may alike.first.goal fs k;
        second = taken_fine D N u w G Y A r Gs place can alike.second.goal gs j;
      }

  -- to its body with a nominal constant
  pub alike_constant : (A : Ty) (t r : Read) (n : ℕ) → form_of F ≡ nabla A t → form_of G ≡ nabla A r → with_names s.variables t ≡ with_names u.variables r → MayTake s F Fs A n
      → Alike D (M D (standing s (F ∷ Fs)) A n) s (instance t (name_term (record { number = n; type = A })) ∷ Fs) u (instance r (name_term (record { number = n; type = A })) ∷ Gs)
  alike_constant A t r n is at p m =
      let K = standing s (F ∷ Fs) in
      let same_standing : standing u (G ∷ Gs) ≡ K = sym (same_all_constants s u alike.goals (F ∷ Fs) (G ∷ Gs) alike.formulas) in
      let fine = fine_standing D N alike.one s (F ∷ Fs) alike.first in
      let other : IsFine D K u (G ∷ Gs) = subst (λ L. IsFine D L u (G ∷ Gs)) same_standing (fine_standing D N alike.one u (G ∷ Gs) alike.second) in
      let scope = nabla_scope (signature_in D) s.variables K F (A, t) (here D K s F Fs fine) (ap nabla_in is) in
      let place = nabla_scope (signature_in D) u.variables K G (A, r) (here D K u G Gs other) (ap nabla_in at) in
      record {
        goals = alike.goals;
        formulas = joined _ _ _ _ (same_instance s u t r (record { number = n; type = A }) p) same_rest;
        one = one_more D K A n (one_standing D N alike.one s (F ∷ Fs) alike.first) m.one_type;
        first = with_constant D K A n s t Fs scope fine.goal (All-tail (MayStand (signature_in D) s.variables K) F Fs fine.formulas);
        second = with_constant D K A n u r Gs place other.goal (All-tail (MayStand (signature_in D) u.variables K) G Gs other.formulas);
      }

  -- to a hypothesis
  pub alike_hypothesis : (l : Label) (x y : List ℕ) (v w : Sequent) → Names l s x v → Names l u y w → Alike D N (assuming x F v) Fs (assuming y G w) Gs
  alike_hypothesis l x y v w a b =
      let named_so = names_alike s u alike.goals l x y v w a b in
      record {
        goals = assumed_alike s u v w x y F G named_so.name named_so.goals named_so.first named_so.second same_formula;
        formulas = ap (λ xs. map (with_names xs) Fs) named_so.first ∙ same_rest ∙ sym (ap (λ xs. map (with_names xs) Gs) named_so.second);
        one = alike.one;
        first = assumed D N s v l x F Fs alike.first.goal (here D N s F Fs alike.first) (All-tail (MayStand (signature_in D) s.variables N) F Fs alike.first.formulas) a;
        second = assumed D N u w l y G Gs alike.second.goal (here D N u G Gs alike.second) (All-tail (MayStand (signature_in D) u.variables N) G Gs alike.second.formulas) b;
      }
