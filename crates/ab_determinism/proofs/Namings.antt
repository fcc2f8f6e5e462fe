-- How a goal names, chooses and makes what is new depends on the goal with names for numbers alone.
use Rattle.std.specs.Prelude.{if◌then◌else◌, ◌==◌, is_some, bytes_eq, codes, All, Contains}
use Rattle.std.proofs.Common.{◌≡◌, ◌≢◌, ◌⊎◌, inl, inr, ℕ, ◌<◌, List, [], ◌∷◌, ◌++◌, map, Bool, true, false, Some, refl, sym, ◌∙◌, ap, subst, arith}
use Rattle.std.specs.Fmt.{decimal}
use Rattle.std.proofs.lemmas.List.{map-append}
use Rattle.std.proofs.lemmas.List.Elements.{All-nil, All-cons, All-head, All-tail, All-map, All-contains}
use Rattle.ab_term.specs.Types.{Ty}
use Rattle.ab_term.specs.Terms as tree
use Rattle.ab_term.specs.Terms.{Nominal, nominal, variable, lam, spine, Read}
use Rattle.ab_term.specs.Names.{support, HasOneTypeEach, IsOrderOf}
use Rattle.ab_term.specs.Substitution.{instance, instance_by_all}
use Rattle.ab_term.specs.Expansion.{expansion}
use Rattle.ab_term.specs.Translation.{translate}
use Rattle.ab_term.specs.Variables.{variables}
use Rattle.ab_term.proofs.Lists.{Contains-none, Contains-cases}
use Rattle.ab_term.proofs.Ordering.{order_unique}
use Rattle.ab_term.proofs.Translations.{translate-instance, translate-instance_by_all, translate-expansion, support-translate}
use Rattle.ab_formulas.specs.Declarations.{Declarations}
use Rattle.ab_formulas.specs.Sequents as numbered
use Rattle.ab_formulas.specs.Sequents.{Variable, Sequent, HoldsOnly, IsUsed, goal_names, names_of, formulas, in_terms, counted, over}
use Rattle.ab_formulas.specs.NewNames.{Label, auto, given, Names, NoName, IsLeast, IsFree, IsFreeName, IsNamedFor, automatic}
use Rattle.ab_theory.specs.Rules.{MayName, hint_of, name_term, raised, applied}
use Rattle.ab_theory.proofs.OneAnswer.{least_once}
use Rattle.ab_theory.proofs.OneList.{one_name}
use Rattle.ab_formulas.specs.NamedGoals.{Named, Hypothesis, Goal, name_in, with_names, variable_named, hypothesis_named, named}
use Rattle.ab_formulas.proofs.GoalsAgreeing.{translate_agrees}
use Rattle.ab_effects.specs.Openings.{MayTake, Taken}

-- NAMES OF HYPOTHESES

abbrev has : List Hypothesis → List ℕ → Bool
has [] x = false
has (h ∷ hs) x = if bytes_eq h.name x then true else has hs x

used_is : (xs : List Variable) (hs : List numbered.Hypothesis) (x : List ℕ) → is_some (numbered.named hs x) ≡ has (map (hypothesis_named xs) hs) x
used_is xs [] x = refl
used_is xs (h ∷ hs) x =
    elim (bytes_eq h.name x) as (λ b. is_some (if b then Some h.formula else numbered.named hs x) ≡ (if b then true else has (map (hypothesis_named xs) hs) x))
    [ true ↦ refl | false ↦ used_is xs hs x ]

pub used_alike : (s u : Sequent) → named s ≡ named u → (x : List ℕ) → is_some (numbered.formula_of s x) ≡ is_some (numbered.formula_of u x)
used_alike s u same x = used_is s.variables s.hypotheses x ∙ ap (λ (g : Goal). has g.hypotheses x) same ∙ sym (used_is u.variables u.hypotheses x)

-- NOMINAL CONSTANTS

abbrev constants_in : List Hypothesis → List Nominal
constants_in [] = []
constants_in (h ∷ hs) = support h.formula ++ constants_in hs

constants_are : (xs : List Variable) (hs : List numbered.Hypothesis) → constants_in (map (hypothesis_named xs) hs) ≡ names_of (formulas hs)
constants_are xs [] = refl
constants_are xs (h ∷ hs) =
    ap (λ l. l ++ constants_in (map (hypothesis_named xs) hs)) (support-translate (name_in xs) (λ x. x) h.formula) ∙ ap (λ l. support h.formula ++ l) (constants_are xs hs)

abbrev goal_constants : Goal → List Nominal
goal_constants g = support g.conclusion ++ constants_in g.hypotheses

goal_constants_are : (s : Sequent) → goal_constants (named s) ≡ goal_names s
goal_constants_are s =
    ap (λ l. l ++ constants_in (map (hypothesis_named s.variables) s.hypotheses)) (support-translate (name_in s.variables) (λ x. x) s.conclusion)
    ∙ ap (λ l. support s.conclusion ++ l) (constants_are s.variables s.hypotheses)

abbrev term_constants : List Named → List Nominal
term_constants [] = []
term_constants (t ∷ ts) = support t ++ term_constants ts

term_constants_are : (xs : List Variable) (Fs : List Read) → term_constants (map (with_names xs) Fs) ≡ names_of Fs
term_constants_are xs [] = refl
term_constants_are xs (F ∷ Fs) =
    ap (λ l. l ++ term_constants (map (with_names xs) Fs)) (support-translate (name_in xs) (λ x. x) F) ∙ ap (λ l. support F ++ l) (term_constants_are xs Fs)

pub same_support : (xs ys : List Variable) (F G : Read) → with_names xs F ≡ with_names ys G → support F ≡ support G
same_support xs ys F G e = sym (support-translate (name_in xs) (λ x. x) F) ∙ ap support e ∙ support-translate (name_in ys) (λ x. x) G

pub same_supports : (xs ys : List Variable) (Fs Gs : List Read) → map (with_names xs) Fs ≡ map (with_names ys) Gs → names_of Fs ≡ names_of Gs
same_supports xs ys Fs Gs e = sym (term_constants_are xs Fs) ∙ ap term_constants e ∙ term_constants_are ys Gs

-- VARIABLES

before_named : (P : tree.Variable (List ℕ) → Type 0) (xs : List Variable) → All P (map variable_named xs) → All (λ x. P (variable_named x)) xs
before_named P [] all = All-nil (λ x. P (variable_named x))
before_named P (x ∷ xs) all =
    All-cons (λ x. P (variable_named x)) x xs (All-head P (variable_named x) (map variable_named xs) all) (before_named P xs (All-tail P (variable_named x) (map variable_named xs) all))

-- the number of a variable that is there already is named as before
name_before : (xs : List Variable) (x : Variable) (y : tree.Variable ℕ) → Contains (map in_terms xs) y → name_in (xs ++ x ∷ []) y.name ≡ name_in xs y.name
name_before [] x y c = absurd (Contains-none y c)
name_before (z ∷ zs) x y c = go (z.number == y.name) refl (λ d. name_before zs x y d) (Contains-cases (in_terms z) (map in_terms zs) y c)
  where
    go : (b : Bool) → (z.number == y.name) ≡ b → (Contains (map in_terms zs) y → name_in (zs ++ x ∷ []) y.name ≡ name_in zs y.name) → (in_terms z ≡ y) ⊎ Contains (map in_terms zs) y
        → name_in ((z ∷ zs) ++ x ∷ []) y.name ≡ name_in (z ∷ zs) y.name
    go true e rest c = rw e refl
    go false e rest (inl is) = let number : z.number ≡ y.name = ap (λ (v : tree.Variable ℕ). v.name) is in absurd (let bad : z.number ≢ y.name = grind arith in bad number)
    go false e rest (inr d) = rw e (rest d)

-- a new one is named by its name
name_last : (xs : List Variable) (x : Variable) → All (λ (y : Variable). y.number ≢ x.number) xs → name_in (xs ++ x ∷ []) x.number ≡ x.name
name_last [] x new = let same : (x.number == x.number) ≡ true = grind arith in rw same refl
name_last (z ∷ zs) x new =
    let apart = All-head (λ (y : Variable). y.number ≢ x.number) z zs new in
    let other : (z.number == x.number) ≡ false = grind arith in
    rw other (name_last zs x (All-tail (λ (y : Variable). y.number ≢ x.number) z zs new))

pub over_more : (xs : List Variable) (x : Variable) (F : Read) → HoldsOnly xs F → with_names (xs ++ x ∷ []) F ≡ with_names xs F
over_more xs x F closed =
    translate_agrees (name_in (xs ++ x ∷ [])) (name_in xs) (λ h. h) F (λ y c. name_before xs x y (All-contains (Contains (map in_terms xs)) (variables F) y closed c))

-- what a new variable makes of constants, with its name
abbrev constant_term : Nominal → Named
constant_term a = expansion (codes "x") a.type (nominal a)

abbrev made_of : List ℕ → Ty → List Nominal → Named
made_of name A names = instance_by_all (expansion (codes "x") A (variable (record { name = name; type = A }))) (map constant_term names)

constant_terms : (f : ℕ → List ℕ) (names : List Nominal) → map (translate f (λ x. x)) (map name_term names) ≡ map constant_term names
constant_terms f [] = refl
constant_terms f (a ∷ names) =
    ap (λ t. t ∷ map (translate f (λ x. x)) (map name_term names)) (translate-expansion f (λ x. x) (codes "x") a.type (nominal a)) ∙ ap (λ ts. constant_term a ∷ ts) (constant_terms f names)

applied_is : (f : ℕ → List ℕ) (x : Variable) (names : List Nominal) → f x.number ≡ x.name → translate f (λ h. h) (applied x names) ≡ made_of x.name x.type names
applied_is f x names e =
    translate-instance_by_all f (λ h. h) (map name_term names) (expansion (codes "x") x.type (variable (in_terms x)))
    ∙ ap (λ ts. instance_by_all (translate f (λ h. h) (expansion (codes "x") x.type (variable (in_terms x)))) ts) (constant_terms f names)
    ∙ ap (λ t. instance_by_all t (map constant_term names)) (translate-expansion f (λ h. h) (codes "x") x.type (variable (in_terms x)))
    ∙ ap (λ n. instance_by_all (expansion (codes "x") x.type (variable (record { name = n; type = x.type }))) (map constant_term names)) e

pub name_term_is : (f : ℕ → List ℕ) (a : Nominal) → translate f (λ h. h) (name_term a) ≡ constant_term a
name_term_is f a = translate-expansion f (λ h. h) (codes "x") a.type (nominal a)

hypotheses_more : (xs : List Variable) (x : Variable) (hs : List numbered.Hypothesis) → All (λ (h : numbered.Hypothesis). HoldsOnly xs h.formula) hs
    → map (hypothesis_named (xs ++ x ∷ [])) hs ≡ map (hypothesis_named xs) hs
hypotheses_more xs x [] all = refl
hypotheses_more xs x (h ∷ hs) all =
    ap (λ F. hypothesis_by h.name F ∷ map (hypothesis_named (xs ++ x ∷ [])) hs) (over_more xs x h.formula (All-head (λ (k : numbered.Hypothesis). HoldsOnly xs k.formula) h hs all))
    ∙ ap (λ l. hypothesis_named xs h ∷ l) (hypotheses_more xs x hs (All-tail (λ (k : numbered.Hypothesis). HoldsOnly xs k.formula) h hs all))
  where
    hypothesis_by : List ℕ → Named → Hypothesis
    hypothesis_by n F = record { name = n; formula = F }

abbrev with_variable : tree.Variable (List ℕ) → Goal → Goal
with_variable y g = record { variables = g.variables ++ y ∷ []; hypotheses = g.hypotheses; conclusion = g.conclusion; counter = g.counter }

goal_by : List (tree.Variable (List ℕ)) → List Hypothesis → Named → ℕ → Goal
goal_by vs hs F n = record { variables = vs; hypotheses = hs; conclusion = F; counter = n }

pub over_named : (s : Sequent) (x : Variable) → HoldsOnly s.variables s.conclusion → All (λ (h : numbered.Hypothesis). HoldsOnly s.variables h.formula) s.hypotheses
    → named (over x s) ≡ with_variable (variable_named x) (named s)
unfolding goal_by
over_named s x conclusion hypotheses =
    let xs = s.variables ++ x ∷ [] in
    ap (λ vs. goal_by vs (map (hypothesis_named xs) s.hypotheses) (with_names xs s.conclusion) s.counter) (map-append variable_named s.variables (x ∷ []))
    ∙ ap (λ hs. goal_by (map variable_named s.variables ++ variable_named x ∷ []) hs (with_names xs s.conclusion) s.counter) (hypotheses_more s.variables x s.hypotheses hypotheses)
    ∙ ap (λ F. goal_by (map variable_named s.variables ++ variable_named x ∷ []) (map (hypothesis_named s.variables) s.hypotheses) F s.counter) (over_more s.variables x s.conclusion conclusion)

-- what a quantifier's hint is
hint_in : Named → List ℕ
hint_in (lam A x t) = x
hint_in (spine h ts) = codes "x"

hint_is : (f : ℕ → List ℕ) (t : Read) → hint_in (translate f (λ x. x) t) ≡ hint_of t
unfolding hint_in
hint_is f (lam A x t) = refl
hint_is f (spine h ts) = refl

abbrev with_counter : ℕ → Goal → Goal
with_counter n g = record { variables = g.variables; hypotheses = g.hypotheses; conclusion = g.conclusion; counter = n }

-- GOALS THAT ARE THE SAME with names for numbers
module _ (s u : Sequent) (same : named s ≡ named u) where
  pub used_also : (x : List ℕ) → IsUsed s x → IsUsed u x
  used_also x used = sym (used_alike s u same x) ∙ used

  pub same_constants : goal_names s ≡ goal_names u
  same_constants = sym (goal_constants_are s) ∙ ap goal_constants same ∙ goal_constants_are u

  unnamed_also : (name : List ℕ) → All (λ (x : Variable). x.name ≢ name) s.variables → All (λ (x : Variable). x.name ≢ name) u.variables
  unnamed_also name all =
      before_named (λ y. y.name ≢ name) u.variables
      (subst (All (λ (y : tree.Variable (List ℕ)). y.name ≢ name)) (ap (λ (g : Goal). g.variables) same) (All-map (λ (y : tree.Variable (List ℕ)). y.name ≢ name) variable_named s.variables all))

  pub free_name_also : (D : Declarations) (name : List ℕ) → IsFreeName D s name → IsFreeName D u name
  free_name_also D name f = record { no_variable = unnamed_also name f.no_variable; no_constant = f.no_constant; no_nominal = f.no_nominal }

module _ (s u : Sequent) (same : named s ≡ named u) where
  free_also : (n : ℕ) → IsFree s n → IsFree u n
  free_also n f = record {
    above = subst (λ c. c < n) (ap (λ (g : Goal). g.counter) same) f.above;
    within = f.within;
    unused = λ used. f.unused (used_also u s (sym same) (automatic n) used);
  }

module _ (s u : Sequent) (same : named s ≡ named u) where
  least_also : (n : ℕ) → IsLeast (IsFree s) n → IsLeast (IsFree u) n
  least_also n l = record { has = free_also s u same n l.has; first = λ m k f. l.first m k (free_also u s (sym same) m f) }

  pub nameless_also : (l : Label) → NoName l s → NoName l u
  nameless_also auto none = λ n f. none n (free_also u s (sym same) n f)
  nameless_also (given x) used = used_also s u same x used

  pub named_for_also : (D : Declarations) (hint name : List ℕ) → IsNamedFor D s hint name → IsNamedFor D u hint name
  named_for_also D hint name (inl (f, e)) = inl (free_name_also s u same D hint f, e)
  named_for_also D hint name (inr (taken, (stem, n, is, least, e))) = inr (
    λ f. taken (free_name_also u s (sym same) D hint f),
    (
      stem,
      n,
      is,
      record {
        has = (least.has.0, free_name_also s u same D (stem ++ decimal n) least.has.1);
        first = λ m k f. least.first m k (f.0, free_name_also u s (sym same) D (stem ++ decimal m) f.1);
      },
      e,
    ),
  )

  -- what a hypothesis is named, and the goals then
  pub record NamedAlike (x y : List ℕ) (t v : Sequent) : Type 0 where
    pub name : x ≡ y
    pub goals : named t ≡ named v
    pub first : t.variables ≡ s.variables
    pub second : v.variables ≡ u.variables

  pub names_alike : (l : Label) (x y : List ℕ) (t v : Sequent) → Names l s x t → Names l u y v → NamedAlike x y t v
  names_alike auto x y t v a b =
      let number : a.0 ≡ b.0 = least_once (IsFree u) a.0 b.0 (least_also a.0 a.1) b.1 in
      record {
        name = a.2 ∙ ap automatic number ∙ sym b.2;
        goals = ap named a.3 ∙ ap (λ n. named (counted n s)) number ∙ ap (λ (g : Goal). with_counter b.0 g) same ∙ sym (ap named b.3);
        first = ap (λ (g : Sequent). g.variables) a.3;
        second = ap (λ (g : Sequent). g.variables) b.3;
      }
  names_alike (given z) x y t v a b = record {
    name = a.1 ∙ sym b.1;
    goals = ap named a.2 ∙ same ∙ sym (ap named b.2);
    first = ap (λ (g : Sequent). g.variables) a.2;
    second = ap (λ (g : Sequent). g.variables) b.2;
  }

  -- the constant that is taken for the name of a `nabla`
  pub taken_also : (F G : Read) (Fs Gs : List Read) (A : Ty) (n : ℕ) → with_names s.variables F ≡ with_names u.variables G → map (with_names s.variables) Fs ≡ map (with_names u.variables) Gs
      → MayTake s F Fs A n → MayTake u G Gs A n
  taken_also F G Fs Gs A n one more m =
      let constants = same_support s.variables u.variables F G one in
      let others = same_supports s.variables u.variables Fs Gs more in
      record {
        positive = m.positive;
        outside = λ c. m.outside (subst (λ l. Contains l (record { number = n; type = A })) (sym constants) c);
        one_type = subst (All (λ (b : Nominal). b.number ≡ n → b.type ≡ A))
            (ap (λ l. l ++ names_of (F ∷ Fs)) (same_constants s u same) ∙ ap (λ l. goal_names u ++ (l ++ names_of Fs)) constants ∙ ap (λ l. goal_names u ++ (support G ++ l)) others) m.one_type;
      }

  pub named_also : (F G : Read) (A : Ty) (n : ℕ) → with_names s.variables F ≡ with_names u.variables G → MayName s F A n → MayName u G A n
  named_also F G A n one m = record {
    positive = m.positive;
    outside = λ c. m.outside (subst (λ l. Contains l (record { number = n; type = A })) (sym (same_support s.variables u.variables F G one)) c);
    one_type = subst (All (λ (b : Nominal). b.number ≡ n → b.type ≡ A)) (same_constants s u same) m.one_type;
  }

-- the goal over its formulas
pub record IsClosed (s : Sequent) : Type 0 where
  pub conclusion : HoldsOnly s.variables s.conclusion
  pub hypotheses : All (λ (h : numbered.Hypothesis). HoldsOnly s.variables h.formula) s.hypotheses

-- NEW VARIABLES are made alike
module _ (D : Declarations) (s u : Sequent) (same : named s ≡ named u) (first : IsClosed s) (second : IsClosed u) (F G : Read) (one : with_names s.variables F ≡ with_names u.variables G) (each : HasOneTypeEach (support F))
    (A : Ty) (t r : Read) (scopes : with_names s.variables t ≡ with_names u.variables r) (t_closed : HoldsOnly s.variables t) (r_closed : HoldsOnly u.variables r) where
  pub made_alike : (E H : Read) (v w : Sequent) → Taken D s F A t E v → Taken D u G A r H w → (named v ≡ named w) × (with_names v.variables E ≡ with_names w.variables H)
  made_alike E H v w a b =
      let x = raised a.number a.name A a.names in
      let y = raised b.number b.name A b.names in
      let names : a.names ≡ b.names =
      order_unique (support F) a.names b.names each a.support_is (subst (IsOrderOf b.names) (sym (same_support s.variables u.variables F G one)) b.support_is) in
      let hints : hint_of t ≡ hint_of r = sym (hint_is (name_in s.variables) t) ∙ ap hint_in scopes ∙ hint_is (name_in u.variables) r in
      let name : a.name ≡ b.name =
      one_name D u (hint_of r) a.name b.name (subst (λ h. IsNamedFor D u h a.name) hints (named_for_also s u same D (hint_of t) a.name a.named)) b.named in
      let variables : variable_named x ≡ variable_named y = ap (λ n. variable_named (raised 0 n A a.names)) name ∙ ap (λ ns. variable_named (raised 0 b.name A ns)) names in
      let goals : named v ≡ named w =
      ap named a.goal ∙ over_named s x first.conclusion first.hypotheses ∙ ap (λ z. with_variable z (named s)) variables ∙ ap (with_variable (variable_named y)) same
      ∙ sym (over_named u y second.conclusion second.hypotheses) ∙ sym (ap named b.goal) in
      let here : with_names (s.variables ++ x ∷ []) E ≡ instance (with_names s.variables t) (made_of a.name x.type a.names) =
      ap (with_names (s.variables ++ x ∷ [])) a.body ∙ translate-instance (name_in (s.variables ++ x ∷ [])) (λ h. h) t (applied x a.names)
      ∙ ap (λ z. instance z (with_names (s.variables ++ x ∷ []) (applied x a.names))) (over_more s.variables x t t_closed)
      ∙ ap (instance (with_names s.variables t)) (applied_is (name_in (s.variables ++ x ∷ [])) x a.names (name_last s.variables x a.new)) in
      let there : with_names (u.variables ++ y ∷ []) H ≡ instance (with_names u.variables r) (made_of b.name y.type b.names) =
      ap (with_names (u.variables ++ y ∷ [])) b.body ∙ translate-instance (name_in (u.variables ++ y ∷ [])) (λ h. h) r (applied y b.names)
      ∙ ap (λ z. instance z (with_names (u.variables ++ y ∷ []) (applied y b.names))) (over_more u.variables y r r_closed)
      ∙ ap (instance (with_names u.variables r)) (applied_is (name_in (u.variables ++ y ∷ [])) y b.names (name_last u.variables y b.new)) in
      let between : instance (with_names s.variables t) (made_of a.name x.type a.names) ≡ instance (with_names u.variables r) (made_of b.name y.type b.names) =
      ap (λ z. instance z (made_of a.name x.type a.names)) scopes
      ∙ ap (λ n. instance (with_names u.variables r) (made_of n x.type a.names)) name
      ∙ ap (λ ns. instance (with_names u.variables r) (made_of b.name (raised 0 b.name A ns).type ns)) names in (
        goals,
        ap (λ (g : Sequent). with_names g.variables E) a.goal ∙ here ∙ between ∙ sym there ∙ sym (ap (λ (g : Sequent). with_names g.variables H) b.goal),
      )
