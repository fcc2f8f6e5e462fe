-- Terms that a command reads fit its goal, all together; and constants that it names may be replaced.
use Rattle.std.specs.Prelude.{All, AllPairs, Contains, ◌||◌, if◌then◌else◌, bytes_eq, ◌==◌}
use Rattle.std.specs.List.{list_any}
use Rattle.std.specs.Option.{option_and_then}
use Rattle.std.proofs.Common.{◌≡◌, ◌≢◌, inl, inr, ℕ, Bool, true, false, List, [], ◌∷◌, ◌++◌, map, Option, Some, None, refl, sym, ◌∙◌, ap, subst, append-nil, append_assoc, arith}
use Rattle.std.proofs.lemmas.List.Kept.{AllPairs-cons}
use Rattle.std.proofs.lemmas.List.Elements.{All-nil, All-cons, All-contains, Contains-append_left, Contains-append_right, Contains-append_cases}
use Rattle.std.proofs.lemmas.Slice.Eq.{bytes_eq-Decides}
use Rattle.ab_term.specs.Types.{Ty}
use Rattle.ab_term.specs.Terms.{Nominal, constant, nominal, spine, Terms, no_terms, term, Read}
use Rattle.ab_term.specs.Typing.{HasType}
use Rattle.ab_term.specs.Names.{support, support_of_all, HasOneTypeEach}
use Rattle.ab_term.proofs.Lists.{AllPairs-none, Contains-none, Contains-here, Contains-there, Contains-cases, All-from_contains}
use Rattle.ab_grammar.specs.Tree.{Tree}
use Rattle.ab_grammar.specs.CommandTrees.{Instance}
use Rattle.ab_unifiers.specs.Clauses.{Each}
use Rattle.ab_formulas.specs.Declarations.{Declarations, signature_in}
use Rattle.ab_formulas.specs.Sequents.{Hypothesis, Sequent, IsSequent, Fits, HoldsOnly, formulas, formulas_of, goal_names, names_of}
use Rattle.ab_theory.specs.Contexts.{MayBeReplaced, AllFit}
use Rattle.ab_theory.specs.Pieces.{Piece, Given, type_named}
use Rattle.ab_meaning.specs.Refusals.{wrong_shape}
use Rattle.ab_meaning.specs.Scopes.{nominal_number}
use Rattle.ab_meaning.specs.Terms.{scope_of, MeansIn, Means}
use Rattle.ab_effects.specs.FormulaUses.{given_twice, scope_with}
use Rattle.ab_effects.specs.ProofCommands.{constant_numbered, constant_in, reading_each, reading_for, giving}
use Rattle.ab_effects.specs.Row.{Row, unless, Leads}
use Rattle.ab_consequences.specs.UseRows.{AreFitting, constants_given}
use Rattle.ab_derived_goals.specs.GivenTerms.{AreApart}
use Rattle.ab_command_derivations.specs.Readings.{ReadingsFit, NumbersHaveNames}

-- A GOAL THAT HOLDS FURTHER CONSTANTS

abbrev holding_all : List Nominal → Terms ℕ (List ℕ)
holding_all [] = no_terms
holding_all (a ∷ ns) = term (spine (nominal a) no_terms) (holding_all ns)

holding_support : (ns : List Nominal) → support_of_all (holding_all ns) ≡ ns
holding_support [] = refl
holding_support (a ∷ ns) = ap (λ l. a ∷ l) (holding_support ns)

abbrev beside : List Nominal → Sequent → Sequent
beside ns s = record s { hypotheses = s.hypotheses ++ record { name = []; formula = spine (constant []) (holding_all ns) } ∷ [] }

hypotheses_beside : (ns : List Nominal) (hs : List Hypothesis) → names_of (formulas (hs ++ record { name = []; formula = spine (constant []) (holding_all ns) } ∷ [])) ≡ names_of (formulas hs) ++ ns
hypotheses_beside ns [] = append-nil (support_of_all (holding_all ns)) ∙ holding_support ns
hypotheses_beside ns (h ∷ hs) = ap (λ l. support h.formula ++ l) (hypotheses_beside ns hs) ∙ sym (append_assoc (support h.formula) (names_of (formulas hs)) ns)

names_beside : (ns : List Nominal) (s : Sequent) → goal_names (beside ns s) ≡ goal_names s ++ ns
names_beside ns s = ap (λ l. support s.conclusion ++ l) (hypotheses_beside ns s.hypotheses) ∙ sym (append_assoc (support s.conclusion) (names_of (formulas s.hypotheses)) ns)

-- a term that is read there holds the goal's variables alone, and gives no constant a second type
record FitsBeside (D : Declarations) (s : Sequent) (ns : List Nominal) (A : Ty) (t : Read) : Type 0 where
  typed : HasType (signature_in D) [] t A
  closed : HoldsOnly s.variables t
  one_type : HasOneTypeEach (goal_names s ++ (ns ++ support t))

term_fits : (D : Declarations) → ReadingsFit D → (s : Sequent) (ns : List Nominal) → HasOneTypeEach (goal_names s ++ ns) → (e : Tree) (A : Ty) (t : Read) → MeansIn D (scope_with D s ns) e A t → FitsBeside D s ns A t
term_fits D fit s ns one e A t m =
    let there : Means D (beside ns s) e A t = subst (λ l. MeansIn D (record (scope_of D s) { nominals = l }) e A t) (sym (names_beside ns s)) m in
    let f = fit (beside ns s) e A t (subst HasOneTypeEach (sym (names_beside ns s)) one) there in
    record {
      typed = f.typed;
      closed = f.closed;
      one_type = subst HasOneTypeEach (ap (λ l. l ++ support t) (names_beside ns s) ∙ append_assoc (goal_names s) ns (support t)) f.one_type;
    }

-- TERMS THAT ARE GIVEN, one for each name

abbrev HaveNames : List Given → List Instance → Type 0
HaveNames = Each (λ (g : Given) (i : Instance). g.name ≡ i.name)

neither : (a b : Bool) → (a || b) ≡ false → (a ≡ false) × (b ≡ false)
neither true b e = absurd (cc)
neither false b e = (refl, e)

not_said : (b : Bool) → (if b then Some wrong_shape else None) ≡ None → b ≡ false
not_said true e = absurd (cc)
not_said false e = refl

others_apart : (gs : List Given) (es : List Instance) (x : List ℕ) → HaveNames gs es → list_any (λ (j : Instance). bytes_eq j.name x) es ≡ false → All (λ (h : Given). bytes_eq h.name x ≡ false) gs
others_apart [] [] x names none = All-nil (λ (h : Given). bytes_eq h.name x ≡ false)
others_apart [] (e ∷ es) x names none = absurd names
others_apart (g ∷ gs) [] x names none = absurd names
others_apart (g ∷ gs) (e ∷ es) x names none =
    let both = neither (bytes_eq e.name x) (list_any (λ (j : Instance). bytes_eq j.name x) es) none in
    All-cons (λ (h : Given). bytes_eq h.name x ≡ false) g gs (subst (λ y. bytes_eq y x ≡ false) (sym names.0) both.0) (others_apart gs es x names.1 both.1)

all_apart : (gs : List Given) (es : List Instance) → HaveNames gs es → given_twice es ≡ false → AreApart gs
all_apart [] [] names once = tt
all_apart [] (e ∷ es) names once = absurd names
all_apart (g ∷ gs) [] names once = absurd names
all_apart (g ∷ gs) (e ∷ es) names once =
    let both = neither (list_any (λ (j : Instance). bytes_eq j.name e.name) es) (given_twice es) once in
    (others_apart gs es g.name names.1 (subst (λ x. list_any (λ (j : Instance). bytes_eq j.name x) es ≡ false) (sym names.0) both.0), all_apart gs es names.1 both.1)

module _ (D : Declarations) (fit : ReadingsFit D) (s : Sequent) (is : IsSequent D s) where
  record MayGive (ps : List Piece) (g : Given) : Type 0 where
    typed : HasType (signature_in D) [] g.value g.type
    closed : HoldsOnly s.variables g.value
    named : type_named g.name ps ≡ Some g.type

  record ReadEach (ns : List Nominal) (ps : List Piece) (es : List Instance) (k : List Given → Row) (qs : List Sequent) : Type 0 where
    given : List Given
    each : All (MayGive ps) given
    one_type : HasOneTypeEach (goal_names s ++ (ns ++ constants_given given))
    names : HaveNames given es
    leads : Leads (k given) qs

  read_each : (ns : List Nominal) → HasOneTypeEach (goal_names s ++ ns) → (ps : List Piece) (es : List Instance) (k : List Given → Row) (qs : List Sequent) → Leads (reading_each D s ns ps es k) qs → ReadEach ns ps es k qs
  read_each ns one ps [] k qs h = record { given = []; each = All-nil (MayGive ps); one_type = subst (λ l. HasOneTypeEach (goal_names s ++ l)) (sym (append-nil ns)) one; names = tt; leads = h }
  read_each ns one ps (e ∷ es) k qs (A, found, (t, means, h)) =
      let f = term_fits D fit s ns one e.term A t means in
      let g : Given = record { name = e.name; type = A; value = t } in
      let r = read_each (ns ++ support t) f.one_type ps es (λ gs. k (g ∷ gs)) qs h in
      record {
        given = g ∷ r.given;
        each = All-cons (MayGive ps) g r.given (record { typed = f.typed; closed = f.closed; named = found }) r.each;
        one_type = subst (λ l. HasOneTypeEach (goal_names s ++ l)) (append_assoc ns (support t) (constants_given r.given)) r.one_type;
        names = (refl, r.names);
        leads = r.leads;
      }

  -- each fits, since they fit together
  all_fit : (ps : List Piece) (gs : List Given) → HasOneTypeEach (goal_names s ++ constants_given gs) → All (MayGive ps) gs → AreFitting D s ps gs
  all_fit ps gs one all = record {
    fits =
        All-from_contains (λ (g : Given). Fits D s g.value g.type) gs (λ g c.
        let m = All-contains (MayGive ps) gs g all c in
        record { typed = m.typed; closed = m.closed; one_type = λ a b d e. one a b (inside g c a d) (inside g c b e) });
    named = All-from_contains (λ (g : Given). type_named g.name ps ≡ Some g.type) gs (λ g c. (All-contains (MayGive ps) gs g all c).named);
    one_type = one;
  }
    where
      held : (hs : List Given) (g : Given) → Contains hs g → (a : Nominal) → Contains (support g.value) a → Contains (constants_given hs) a
      held [] g c a d = absurd (Contains-none g c)
      held (h ∷ hs) g c a d = elim (Contains-cases h hs g c) [
        | inl e ↦ Contains-append_left (support h.value) (constants_given hs) a (subst (λ (k : Given). Contains (support k.value) a) (sym e) d)
        | inr k ↦ Contains-append_right (support h.value) (constants_given hs) a (held hs g k a d)
      ]

      inside : (g : Given) → Contains gs g → (a : Nominal) → Contains (goal_names s ++ support g.value) a → Contains (goal_names s ++ constants_given gs) a
      inside g c a d =
          elim (Contains-append_cases (goal_names s) (support g.value) a d)
          [ inl k ↦ Contains-append_left (goal_names s) (constants_given gs) a k | inr k ↦ Contains-append_right (goal_names s) (constants_given gs) a (held gs g c a k) ]

  -- WHAT IS GIVEN
  pub record IsGiven (ps : List Piece) (too_many : Bool) (k : List Given → Row) (qs : List Sequent) : Type 0 where
    pub terms : List Given
    pub fitting : AreFitting D s ps terms
    pub apart : AreApart terms
    pub enough : too_many ≡ false
    pub leads : Leads (k terms) qs

  pub given_so : (ps : List Piece) (es : List Instance) (too_many : Bool) (k : List Given → Row) (qs : List Sequent) → Leads (giving D s ps es too_many k) qs → IsGiven ps too_many k qs
  given_so ps es too_many k qs h =
      let r = read_each [] (subst HasOneTypeEach (sym (append-nil (goal_names s))) is.one_type) ps es (λ gs. unless (if given_twice es || too_many then Some wrong_shape else None) (k gs)) qs h.1 in
      let both = neither (given_twice es) too_many (not_said (given_twice es || too_many) r.leads.0) in
      record { terms = r.given; fitting = all_fit ps r.given r.one_type r.each; apart = all_apart r.given es r.names both.0; enough = both.1; leads = r.leads.1 }

  -- TERMS FOR CONSTANTS

  names_more : (Fs Gs : List Read) → names_of (Fs ++ Gs) ≡ names_of Fs ++ names_of Gs
  names_more [] Gs = refl
  names_more (F ∷ Fs) Gs = ap (λ l. support F ++ l) (names_more Fs Gs) ∙ sym (append_assoc (support F) (names_of Fs) (names_of Gs))

  abbrev IsFor : List Nominal → Nominal × Read → Instance → Type 0
  IsFor names r i = constant_in names i.name ≡ Some r.0

  pub record ReadFor (before : List Read) (names : List Nominal) (es : List Instance) (k : List (Nominal × Read) → Row) (qs : List Sequent) : Type 0 where
    pub terms : List (Nominal × Read)
    pub each : Each (IsFor names) terms es
    pub all_fit_so : AllFit D s before terms
    pub leads : Leads (k terms) qs

  pub read_for : (before : List Read) → HasOneTypeEach (goal_names s ++ names_of before) → (names : List Nominal) (es : List Instance) (k : List (Nominal × Read) → Row) (qs : List Sequent)
      → Leads (reading_for D s (names_of before) names es k) qs → ReadFor before names es k qs
  read_for before one names [] k qs h = record { terms = []; each = tt; all_fit_so = tt; leads = h }
  read_for before one names (e ∷ es) k qs (a, found, (t, means, h)) =
      let f = term_fits D fit s (names_of before) one e.term a.type t means in
      let known : names_of (before ++ t ∷ []) ≡ names_of before ++ support t = names_more before (t ∷ []) ∙ ap (λ l. names_of before ++ l) (append-nil (support t)) in
      let r = read_for (before ++ t ∷ []) (subst (λ l. HasOneTypeEach (goal_names s ++ l)) (sym known) f.one_type) names es (λ rs. k ((a, t) ∷ rs)) qs
      (subst (λ l. Leads (reading_for D s l names es (λ rs. k ((a, t) ∷ rs))) qs) (sym known) h) in
      let held : goal_names s ++ (names_of before ++ support t) ≡ names_of (formulas_of s ++ before) ++ support t =
      sym (append_assoc (goal_names s) (names_of before) (support t)) ∙ ap (λ l. l ++ support t) (sym (names_more (formulas_of s) before)) in
      record {
        terms = (a, t) ∷ r.terms;
        each = (found, r.each);
        all_fit_so = (record { typed = f.typed; closed = f.closed; one_type = subst HasOneTypeEach held f.one_type }, r.all_fit_so);
        leads = r.leads;
      }

-- THE CONSTANT OF A NAME

numbered_is : (xs : List Nominal) (n : ℕ) (a : Nominal) → constant_numbered xs n ≡ Some a → (a.number ≡ n) × Contains xs a
numbered_is [] n a e = absurd (cc)
numbered_is (x ∷ xs) n a e = go (x.number == n) refl e (numbered_is xs n a)
  where
    go : (b : Bool) → (x.number == n) ≡ b → (if b then Some x else constant_numbered xs n) ≡ Some a → (constant_numbered xs n ≡ Some a → (a.number ≡ n) × Contains xs a) → (a.number ≡ n) × Contains (x ∷ xs) a
    go true same e rest =
        let one : x ≡ a = cc in
        let number : x.number ≡ n = grind arith in
        (subst (λ (y : Nominal). y.number ≡ n) one number, subst (Contains (x ∷ xs)) one (Contains-here x xs))
    go false same e rest = let there = rest e in (there.0, Contains-there x xs a there.1)

constant_is : (xs : List Nominal) (x : List ℕ) (a : Nominal) → constant_in xs x ≡ Some a → (nominal_number x ≡ Some a.number) × Contains xs a
constant_is xs x a e = go (nominal_number x) refl e
  where
    go : (o : Option ℕ) → nominal_number x ≡ o → option_and_then (constant_numbered xs) o ≡ Some a → (nominal_number x ≡ Some a.number) × Contains xs a
    go None is e = absurd (cc)
    go (Some n) is e = let f = numbered_is xs n a e in (is ∙ ap Some (sym f.0), f.1)

module _ (one_name : NumbersHaveNames) (names : List Nominal) where
  abbrev For : Nominal × Read → Instance → Type 0
  For r i = constant_in names i.name ≡ Some r.0

  abbrev firsts : List (Nominal × Read) → List Nominal
  firsts = map (λ (r : Nominal × Read). r.0)

  -- a constant that has one name stands not among those of other names
  other_constants : (x : List ℕ) (a : Nominal) → constant_in names x ≡ Some a → (rs : List (Nominal × Read)) (es : List Instance) → Each For rs es → list_any (λ (j : Instance). bytes_eq j.name x) es ≡ false → All (λ b. a ≢ b) (firsts rs)
  other_constants x a is [] es each none = All-nil (λ b. a ≢ b)
  other_constants x a is (r ∷ rs) [] each none = absurd each
  other_constants x a is (r ∷ rs) (e ∷ es) each none =
      let both = neither (bytes_eq e.name x) (list_any (λ (j : Instance). bytes_eq j.name x) es) none in
      let here = constant_is names x a is in
      let there = constant_is names e.name r.0 each.0 in
      All-cons (λ b. a ≢ b) r.0 (firsts rs)
      (λ same.
      let number : nominal_number e.name ≡ Some a.number = there.0 ∙ ap (λ (b : Nominal). Some b.number) (sym same) in
      let yes = (bytes_eq-Decides e.name x).1 (one_name e.name x a.number number here.0) in
      let clash : true ≡ false = sym yes ∙ both.0 in
      cc)
      (other_constants x a is rs es each.1 both.1)

  constants_differ : (rs : List (Nominal × Read)) (es : List Instance) → Each For rs es → given_twice es ≡ false → AllPairs (λ a b. a ≢ b) (firsts rs)
  constants_differ [] es each once = AllPairs-none (λ a b. a ≢ b)
  constants_differ (r ∷ rs) [] each once = absurd each
  constants_differ (r ∷ rs) (e ∷ es) each once =
      let both = neither (list_any (λ (j : Instance). bytes_eq j.name e.name) es) (given_twice es) once in
      AllPairs-cons (λ a b. a ≢ b) r.0 (firsts rs) (other_constants e.name r.0 each.0 rs es each.1 both.0) (constants_differ rs es each.1 both.1)

  constants_there : (rs : List (Nominal × Read)) (es : List Instance) → Each For rs es → All (Contains names) (firsts rs)
  constants_there [] es each = All-nil (Contains names)
  constants_there (r ∷ rs) [] each = absurd each
  constants_there (r ∷ rs) (e ∷ es) each = All-cons (Contains names) r.0 (firsts rs) (constant_is names e.name r.0 each.0).1 (constants_there rs es each.1)

-- they may be replaced
pub replaceable : NumbersHaveNames → (G : Read) (rs : List (Nominal × Read)) (es : List Instance) → Each (λ (r : Nominal × Read) (i : Instance). constant_in (support G) i.name ≡ Some r.0) rs es
    → (if given_twice es then Some wrong_shape else None) ≡ None → MayBeReplaced G (map (λ (r : Nominal × Read). r.0) rs)
replaceable one_name G rs es each once = record {
  differ = constants_differ one_name (support G) rs es each (not_said (given_twice es) once);
  there = constants_there one_name (support G) rs es each;
}
