-- Nominal constants that are named: which one a name means among some, and terms that are read for them.
use Rattle.std.specs.Prelude.{◌≡◌, ◌≢◌, ◌==◌, ℕ, List, [], ◌∷◌, ◌++◌, map, Bool, true, false, ◌||◌, Option, Some, None, unwrap_or, is_some, bytes_eq, if◌then◌else◌, AllPairs, Contains}
use Rattle.std.specs.List.{list_any}
use Rattle.std.specs.Option.{option_and_then}
use Rattle.std.proofs.Common.{inl, inr, refl, sym, ◌∙◌, ap, subst, append-nil, append_assoc, arith}
use Rattle.std.proofs.lemmas.List.Kept.{AllPairs-cons}
use Rattle.ab_term.specs.Terms.{Nominal, Read}
use Rattle.ab_term.specs.Names.{support}
use Rattle.ab_term.proofs.Lists.{Contains-none, Contains-cases, Contains-here, Contains-there, All-from_contains, AllPairs-none}
use Rattle.ab_grammar.specs.CommandTrees.{Instance}
use Rattle.ab_formulas.specs.Declarations.{Declarations, signature_in}
use Rattle.ab_formulas.specs.Formulas.{HasOneTypeEach}
use Rattle.ab_formulas.specs.GoalTerms as fitting
use Rattle.ab_formulas.specs.Sequents.{Sequent, Fits, formulas_of, names_of, in_terms}
use Rattle.ab_theory.specs.Contexts.{MayBeReplaced, AllFit}
use Rattle.ab_theory.specs.Pieces.{Given}
use Rattle.ab_meaning.specs.Refusals.{Refusal, unknown}
use Rattle.ab_meaning.specs.Scopes.{nominal_number}
use Rattle.ab_meaning.specs.Terms.{MeansIn}
use Rattle.ab_effects.specs.FormulaUses.{given_twice, scope_with}
use Rattle.ab_effects.specs.ProofCommands.{constant_numbered, constant_in, no_constant, reading_for}
use Rattle.ab_effects.specs.Row.{Row, leads, Leads, Refuses}
use Rattle.ab_infer.proofs.MeaningNumbers.{same_name}
use Rattle.ab_hypothesis.proofs.Hypotheses.{same_or_not}
use Rattle.ab_proofcmd.specs.GivenTerms.{values_of, beside}
use Rattle.ab_proofcmd.specs.ReplacedConstants.{replace_of, AreReadFor}
use Rattle.ab_proofcmd.proofs.Given.{same_variables, names_beside}

-- THE CONSTANT OF A NAME

numbered_is : (xs : List Nominal) (n : ℕ) (a : Nominal) → constant_numbered xs n ≡ Some a → (a.number ≡ n) × Contains xs a
numbered_is [] n a e = absurd (cc)
numbered_is (x ∷ xs) n a e = go (x.number == n) refl e (numbered_is xs n a)
  where
    go : (b : Bool) → (x.number == n) ≡ b → (if b then Some x else constant_numbered xs n) ≡ Some a → (constant_numbered xs n ≡ Some a → (a.number ≡ n) × Contains xs a) → (a.number ≡ n) × Contains (x ∷ xs) a
    go true same e rest =
        let one : x ≡ a = cc in
        let number : x.number ≡ n = grind arith in
        (subst (λ (y : Nominal). y.number ≡ n) one number, subst (Contains (x ∷ xs)) one (Contains-here x xs))
    go false same e rest = let there = rest e in (there.0, Contains-there x xs a there.1)

numbered_none : (xs : List Nominal) (n : ℕ) (a : Nominal) → constant_numbered xs n ≡ None → Contains xs a → a.number ≡ n → ⊥
numbered_none [] n a e c is = Contains-none a c
numbered_none (x ∷ xs) n a e c is = go (x.number == n) refl e (λ none behind. numbered_none xs n a none behind is)
  where
    go : (b : Bool) → (x.number == n) ≡ b → (if b then Some x else constant_numbered xs n) ≡ None → (constant_numbered xs n ≡ None → Contains xs a → ⊥) → ⊥
    go true same e rest = let clash : Some x ≡ None = e in absurd (cc)
    go false same e rest =
        elim (Contains-cases x xs a c) [
          | inl one ↦
              let number : x.number ≡ n = ap (λ (y : Nominal). y.number) one ∙ is in
              let clash : (x.number == n) ≡ true = grind arith in
              absurd (cc)
          | inr behind ↦ rest e behind
        ]

pub constant_is : (xs : List Nominal) (x : List ℕ) (a : Nominal) → constant_in xs x ≡ Some a → (nominal_number x ≡ Some a.number) × Contains xs a
constant_is xs x a e = go (nominal_number x) refl e
  where
    go : (o : Option ℕ) → nominal_number x ≡ o → option_and_then (constant_numbered xs) o ≡ Some a → (nominal_number x ≡ Some a.number) × Contains xs a
    go None is e = absurd (cc)
    go (Some n) is e = let f = numbered_is xs n a e in (is ∙ ap Some (sym f.0), f.1)

-- where a number has one type, a list in order has the constants that it puts in order
module _ (xs ys : List Nominal) (same : (a : Nominal) → Contains xs a → Contains ys a) (back : (a : Nominal) → Contains ys a → Contains xs a) (one : HasOneTypeEach ys) where
  numbered_same : (n : ℕ) → constant_numbered xs n ≡ constant_numbered ys n
  numbered_same n = go (constant_numbered xs n) (constant_numbered ys n) refl refl
    where
      go : (o p : Option Nominal) → constant_numbered xs n ≡ o → constant_numbered ys n ≡ p → o ≡ p
      go None None e f = refl
      go (Some a) (Some b) e f =
          let x = numbered_is xs n a e in
          let y = numbered_is ys n b f in
          ap Some (one a b (same a x.1) y.1 (x.0 ∙ sym y.0))
      go (Some a) None e f = let x = numbered_is xs n a e in absurd (numbered_none ys n a f (same a x.1) x.0)
      go None (Some b) e f = let y = numbered_is ys n b f in absurd (numbered_none xs n b e (back b y.1) y.0)

  pub constant_same : (x : List ℕ) → constant_in xs x ≡ constant_in ys x
  constant_same x = go (nominal_number x)
    where
      go : (o : Option ℕ) → option_and_then (constant_numbered xs) o ≡ option_and_then (constant_numbered ys) o
      go None = refl
      go (Some n) = numbered_same n

-- TERMS READ FOR CONSTANTS, one after another

pub replace_is : (names : List Nominal) (x : List ℕ) (a : Nominal) (t : Read) → constant_in names x ≡ Some a → replace_of (record { name = x; type = a.type; value = t }) ≡ (a, t)
replace_is names x a t e =
    ap (λ (o : Option ℕ). (record { number = unwrap_or o 0; type = a.type }, t)) (constant_is names x a e).0

module _ (D : Declarations) (s : Sequent) (names : List Nominal) where
  behind_those : (known : List Nominal) (t : Read) (h : Given) (gs hs : List Given) → h.value ≡ t → gs ≡ h ∷ hs
      → known ++ names_of (values_of gs) ≡ (known ++ support t) ++ names_of (values_of hs)
  behind_those known t h gs hs is are =
      ap (λ l. known ++ names_of (values_of l)) are
      ∙ ap (λ u. known ++ (support u ++ names_of (values_of hs))) is
      ∙ sym (append_assoc known (support t) (names_of (values_of hs)))

  behind_none : (known : List Nominal) (gs : List Given) → gs ≡ [] → known ++ names_of (values_of gs) ≡ known
  behind_none known gs none = ap (λ l. known ++ names_of (values_of l)) none ∙ append-nil known

  pub read_more : (known : List Nominal) (is : List Instance) (gs : List Given) (i : Instance) (g : Given) (a : Nominal) → AreReadFor D s known names is gs → g.name ≡ i.name → constant_in names i.name ≡ Some a → g.type ≡ a.type
      → MeansIn D (scope_with D s (known ++ names_of (values_of gs))) i.term g.type g.value → AreReadFor D s known names (is ++ i ∷ []) (gs ++ g ∷ [])
  read_more known [] gs i g a none name is type means = (
    a,
    is,
    (
      g.value,
      subst (λ A. MeansIn D (scope_with D s known) i.term A g.value) type (subst (λ l. MeansIn D (scope_with D s l) i.term g.type g.value) (behind_none known gs none) means),
      (
        [],
        refl,
        ap (λ l. l ++ g ∷ []) none
            ∙ ap (λ (x : List ℕ). record { name = x; type = g.type; value = g.value } ∷ []) name
            ∙ ap (λ A. record { name = i.name; type = A; value = g.value } ∷ []) type,
      ),
    ),
  )
  read_more known (j ∷ is) gs i g a (b, at, (t, m, (hs, others, are))) name is_a type means =
      let h : Given = record { name = j.name; type = b.type; value = t } in (
        b,
        at,
        (
          t,
          m,
          (
            hs ++ g ∷ [],
            read_more (known ++ support t) is hs i g a others name is_a type (subst (λ l. MeansIn D (scope_with D s l) i.term g.type g.value) (behind_those known t h gs hs refl are) means),
            ap (λ l. l ++ g ∷ []) are,
          ),
        ),
      )

  -- the next isn't read
  next_refuses : (known : List Nominal) (i : Instance) (is : List Instance) (k : List (Nominal × Read) → Row) (f : Refusal) → Refuses (reading_for D s known names (i ∷ []) (λ rs. leads [])) f
      → Refuses (reading_for D s known names (i ∷ is) k) f
  next_refuses known i is k f (inl none) = inl none
  next_refuses known i is k f (inr (a, at, inl none)) = inr (a, at, inl none)
  next_refuses known i is k f (inr (a, at, inr (t, m, none))) = absurd none

  pub refuses_there : (known : List Nominal) (before : List Instance) (gs : List Given) (i : Instance) (is : List Instance) (k : List (Nominal × Read) → Row) (f : Refusal) → AreReadFor D s known names before gs
      → Refuses (reading_for D s (known ++ names_of (values_of gs)) names (i ∷ []) (λ rs. leads [])) f → Refuses (reading_for D s known names (before ++ i ∷ is) k) f
  refuses_there known [] gs i is k f none refuses =
      next_refuses known i is k f (subst (λ l. Refuses (reading_for D s l names (i ∷ []) (λ rs. leads [])) f) (behind_none known gs none) refuses)
  refuses_there known (j ∷ before) gs i is k f (b, at, (t, m, (hs, others, are))) refuses =
      let h : Given = record { name = j.name; type = b.type; value = t } in
      inr (
        b,
        at,
        inr (
          t,
          m,
          refuses_there (known ++ support t) before hs i is (λ rs. k ((b, t) ∷ rs)) f others
              (subst (λ l. Refuses (reading_for D s l names (i ∷ []) (λ rs. leads [])) f) (behind_those known t h gs hs refl are) refuses),
        ),
      )

  -- what is done with them then, where these constants are found as those are
  module _ (others : List Nominal) (found : (x : List ℕ) → constant_in names x ≡ constant_in others x) where
    pub for_leads : (known : List Nominal) (is : List Instance) (gs : List Given) (k : List (Nominal × Read) → Row) (qs : List Sequent) → AreReadFor D s known names is gs → Leads (k (map replace_of gs)) qs
        → Leads (reading_for D s known others is k) qs
    for_leads known [] gs k qs none led = subst (λ l. Leads (k (map replace_of l)) qs) none led
    for_leads known (i ∷ is) gs k qs (a, at, (t, m, (hs, rest, are))) led = (
      a,
      sym (found i.name) ∙ at,
      (
        t,
        m,
        for_leads (known ++ support t) is hs (λ rs. k ((a, t) ∷ rs)) qs rest
            (subst (λ r. Leads (k (r ∷ map replace_of hs)) qs) (replace_is names i.name a t at) (subst (λ l. Leads (k (map replace_of l)) qs) are led)),
      ),
    )

    pub for_refuses : (known : List Nominal) (is : List Instance) (gs : List Given) (k : List (Nominal × Read) → Row) (f : Refusal) → AreReadFor D s known names is gs → Refuses (k (map replace_of gs)) f
        → Refuses (reading_for D s known others is k) f
    for_refuses known [] gs k f none refuses = subst (λ l. Refuses (k (map replace_of l)) f) none refuses
    for_refuses known (i ∷ is) gs k f (a, at, (t, m, (hs, rest, are))) refuses =
        inr (
          a,
          sym (found i.name) ∙ at,
          inr (
            t,
            m,
            for_refuses (known ++ support t) is hs (λ rs. k ((a, t) ∷ rs)) f rest
                (subst (λ r. Refuses (k (r ∷ map replace_of hs)) f) (replace_is names i.name a t at) (subst (λ l. Refuses (k (map replace_of l)) f) are refuses)),
          ),
        )

    -- one that isn't read is refused so whatever is done then
    pub unread_so : (known : List Nominal) (is : List Instance) (k : List (Nominal × Read) → Row) (f : Refusal) → Refuses (reading_for D s known names is (λ rs. leads [])) f → Refuses (reading_for D s known others is k) f
    unread_so known [] k f none = absurd none
    unread_so known (i ∷ is) k f (inl none) = inl (sym (found i.name) ∙ none.0, none.1)
    unread_so known (i ∷ is) k f (inr (a, at, inl none)) = inr (a, sym (found i.name) ∙ at, inl none)
    unread_so known (i ∷ is) k f (inr (a, at, inr (t, m, rest))) =
        inr (a, sym (found i.name) ∙ at, inr (t, m, unread_so (known ++ support t) is (λ rs. k ((a, t) ∷ rs)) f rest))

    pub no_constant_same : (is : List Instance) → no_constant names is ≡ no_constant others is
    no_constant_same [] = refl
    no_constant_same (i ∷ is) =
        ap (λ (o : Option Nominal). if is_some o then no_constant names is else Some (unknown i.name)) (found i.name)
        ∙ ap (λ r. if is_some (constant_in others i.name) then r else Some (unknown i.name)) (no_constant_same is)

  -- each constant that is replaced is that of one of the names
  replaced_at : (known : List Nominal) (is : List Instance) (gs : List Given) → AreReadFor D s known names is gs → (a : Nominal) → Contains (map (λ (r : Nominal × Read). r.0) (map replace_of gs)) a
      → (j : Instance) × Contains is j × (constant_in names j.name ≡ Some a)
  replaced_at known [] gs none a c = absurd (Contains-none a (subst (λ l. Contains (map (λ (r : Nominal × Read). r.0) (map replace_of l)) a) none c))
  replaced_at known (i ∷ is) gs (b, at, (t, m, (hs, rest, are))) a c =
      let first = replace_is names i.name b t at in
      let here : Contains (b ∷ map (λ (r : Nominal × Read). r.0) (map replace_of hs)) a =
      subst (λ (r : Nominal × Read). Contains (r.0 ∷ map (λ (q : Nominal × Read). q.0) (map replace_of hs)) a) first
      (subst (λ l. Contains (map (λ (r : Nominal × Read). r.0) (map replace_of l)) a) are c) in
      elim (Contains-cases b (map (λ (r : Nominal × Read). r.0) (map replace_of hs)) a here) [
        | inl one ↦ (i, Contains-here i is, at ∙ ap Some one)
        | inr behind ↦ let j = replaced_at (known ++ support t) is hs rest a behind in (j.0, Contains-there i is j.0 j.1, j.2)
      ]

  any_there : (P : Instance → Bool) (is : List Instance) (j : Instance) → Contains is j → P j ≡ true → list_any P is ≡ true
  any_there P [] j c e = absurd (Contains-none j c)
  any_there P (i ∷ is) j c e = go (P i) (list_any P is) refl refl (λ behind. any_there P is j behind e)
    where
      go : (a b : Bool) → P i ≡ a → list_any P is ≡ b → (Contains is j → list_any P is ≡ true) → (a || b) ≡ true
      go true b p q rest = refl
      go false b p q rest =
          elim (Contains-cases i is j c) [
            | inl one ↦ let yes : P i ≡ true = ap P one ∙ e in absurd (cc)
            | inr behind ↦ sym q ∙ rest behind
          ]

  -- no name stands again behind it, so no constant does
  none_again : (i : Instance) (is : List Instance) (a : Nominal) → list_any (λ (j : Instance). bytes_eq j.name i.name) is ≡ false → constant_in names i.name ≡ Some a
      → (j : Instance) → Contains is j → constant_in names j.name ≡ Some a → ⊥
  none_again i is a once at j c also =
      let name = same_name j.name i.name a.number (constant_is names j.name a also).0 (constant_is names i.name a at).0 in
      let same : bytes_eq j.name i.name ≡ true = elim (same_or_not j.name i.name) [ inl e ↦ e.1 | inr d ↦ absurd (d.0 name) ] in
      let yes = any_there (λ (k : Instance). bytes_eq k.name i.name) is j c same in
      cc

  -- where no term is given twice, the constants differ
  pub all_differ : (known : List Nominal) (is : List Instance) (gs : List Given) → AreReadFor D s known names is gs → given_twice is ≡ false
      → AllPairs (λ a b. a ≢ b) (map (λ (r : Nominal × Read). r.0) (map replace_of gs))
  all_differ known [] gs none once =
      subst (λ l. AllPairs (λ a b. a ≢ b) (map (λ (r : Nominal × Read). r.0) (map replace_of l))) (sym none) (AllPairs-none (λ (a b : Nominal). a ≢ b))
  all_differ known (i ∷ is) gs (b, at, (t, m, (hs, rest, are))) once =
      subst (λ l. AllPairs (λ a b. a ≢ b) (map (λ (r : Nominal × Read). r.0) (map replace_of l))) (sym are)
      (subst (λ (r : Nominal × Read). AllPairs (λ a b. a ≢ b) (r.0 ∷ map (λ (q : Nominal × Read). q.0) (map replace_of hs))) (sym (replace_is names i.name b t at))
      (AllPairs-cons (λ a b. a ≢ b) b (map (λ (q : Nominal × Read). q.0) (map replace_of hs))
      (All-from_contains (λ c. b ≢ c) (map (λ (q : Nominal × Read). q.0) (map replace_of hs)) (λ c there same.
      let j = replaced_at (known ++ support t) is hs rest c there in
      none_again i is b (both_false (list_any (λ (k : Instance). bytes_eq k.name i.name) is) (given_twice is) once).0 at j.0 j.1 (j.2 ∙ ap Some (sym same))))
      (all_differ (known ++ support t) is hs rest (both_false (list_any (λ (k : Instance). bytes_eq k.name i.name) is) (given_twice is) once).1)))
    where
      both_false : (a b : Bool) → (a || b) ≡ false → (a ≡ false) × (b ≡ false)
      both_false false false e = (refl, refl)
      both_false false true e = absurd (cc)
      both_false true b e = absurd (cc)

  pub may_be : (J : Read) → ((x : List ℕ) → constant_in names x ≡ constant_in (support J) x) → (is : List Instance) (gs : List Given) → AreReadFor D s [] names is gs → given_twice is ≡ false
      → MayBeReplaced J (map (λ (r : Nominal × Read). r.0) (map replace_of gs))
  may_be J found is gs read once = record {
    differ = all_differ [] is gs read once;
    there = All-from_contains (Contains (support J)) (map (λ (r : Nominal × Read). r.0) (map replace_of gs)) (λ a c.
        let j = replaced_at [] is gs read a c in
        (constant_is (support J) j.0.name a (sym (found j.0.name) ∙ j.2)).1);
  }

-- TERMS FIT beside those before them

names_both : (Fs Gs : List Read) → names_of (Fs ++ Gs) ≡ names_of Fs ++ names_of Gs
names_both [] Gs = refl
names_both (F ∷ Fs) Gs = ap (λ l. support F ++ l) (names_both Fs Gs) ∙ sym (append_assoc (support F) (names_of Fs) (names_of Gs))

-- what fits the goal where these terms stand fits it beside them
pub fits_beside : (D : Declarations) (s : Sequent) (ts : List Read) (g : Given) → Fits D (beside s ts) g.value g.type
    → fitting.Fits (signature_in D) (map in_terms s.variables) (formulas_of s ++ ts) (replace_of g).1 (replace_of g).0.type
fits_beside D s ts g fit = record {
  typed = fit.typed;
  closed = subst (λ xs. fitting.HoldsOnly (map in_terms xs) g.value) (same_variables s ts) fit.closed;
  one_type = subst (λ l. HasOneTypeEach (l ++ support g.value)) (names_beside s ts ∙ sym (names_both (formulas_of s) ts)) fit.one_type;
}

pub fit_more : (D : Declarations) (s : Sequent) (before : List Read) (gs : List Given) (g : Given) → AllFit D s before (map replace_of gs)
    → fitting.Fits (signature_in D) (map in_terms s.variables) (formulas_of s ++ (before ++ values_of gs)) (replace_of g).1 (replace_of g).0.type → AllFit D s before (map replace_of (gs ++ g ∷ []))
fit_more D s before [] g all fit =
    (subst (λ l. fitting.Fits (signature_in D) (map in_terms s.variables) (formulas_of s ++ l) (replace_of g).1 (replace_of g).0.type) (append-nil before) fit, tt)
fit_more D s before (h ∷ gs) g all fit = (
  all.0,
  fit_more D s (before ++ h.value ∷ []) gs g all.1
      (subst (λ l. fitting.Fits (signature_in D) (map in_terms s.variables) (formulas_of s ++ l) (replace_of g).1 (replace_of g).0.type) (sym (append_assoc before (h.value ∷ []) (values_of gs))) fit),
)
