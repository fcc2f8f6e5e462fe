-- A derivation goes on at its first open goal.
use Rattle.std.specs.Prelude.{Contains, ◌↔◌}
use Rattle.std.proofs.Common.{◌≡◌, ◌⊎◌, inl, inr, List, [], ◌∷◌, ◌++◌, refl, sym, ◌∙◌, ap, subst, append_assoc, append-nil}
use Rattle.std.proofs.lemmas.List.Elements.{Contains-append_left, Contains-append_right, Contains-append_cases}
use Rattle.ab_term.proofs.Lists.{Contains-none}
use Rattle.ab_formulas.specs.Declarations.{Declarations}
use Rattle.ab_formulas.specs.Sequents.{Sequent}
use Rattle.ab_theory.specs.Derivations.{Derivation, goal, by, Derivations, none, more, root, roots, Valid, AllValid, open_goals, all_open_goals, Debt, debts_of, debts, all_debts}
use Rattle.ab_theory.specs.Rules.{Rule}
use Rattle.ab_derived_goals.specs.Derived.{IsDerived}
use Rattle.ab_derived_goals.specs.Extended.{IsExtended}

-- the second list has these more, in any order
abbrev Owes : List Debt → List Debt → List Debt → Type 0
Owes ts xs ys = (t : Debt) → Contains ys t ↔ (Contains xs t ⊎ Contains ts t)

owes_before : (ts zs xs ys : List Debt) → Owes ts xs ys → Owes ts (xs ++ zs) (ys ++ zs)
owes_before ts zs xs ys owes t = (back, forth)
  where
    back : Contains (ys ++ zs) t → Contains (xs ++ zs) t ⊎ Contains ts t
    back c = elim (Contains-append_cases ys zs t c) [
      | inl a ↦ elim ((owes t).0 a) [ inl b ↦ inl (Contains-append_left xs zs t b) | inr b ↦ inr b ]
      | inr a ↦ inl (Contains-append_right xs zs t a)
    ]

    forth : Contains (xs ++ zs) t ⊎ Contains ts t → Contains (ys ++ zs) t
    forth (inl c) = elim (Contains-append_cases xs zs t c) [ inl a ↦ Contains-append_left ys zs t ((owes t).1 (inl a)) | inr a ↦ Contains-append_right ys zs t a ]
    forth (inr c) = Contains-append_left ys zs t ((owes t).1 (inr c))

owes_behind : (ts zs xs ys : List Debt) → Owes ts xs ys → Owes ts (zs ++ xs) (zs ++ ys)
owes_behind ts zs xs ys owes t = (back, forth)
  where
    back : Contains (zs ++ ys) t → Contains (zs ++ xs) t ⊎ Contains ts t
    back c = elim (Contains-append_cases zs ys t c) [
      | inl a ↦ inl (Contains-append_left zs xs t a)
      | inr a ↦ elim ((owes t).0 a) [ inl b ↦ inl (Contains-append_right zs xs t b) | inr b ↦ inr b ]
    ]

    forth : Contains (zs ++ xs) t ⊎ Contains ts t → Contains (zs ++ ys) t
    forth (inl c) = elim (Contains-append_cases zs xs t c) [ inl a ↦ Contains-append_left zs ys t a | inr a ↦ Contains-append_right zs ys t ((owes t).1 (inl a)) ]
    forth (inr c) = Contains-append_right zs ys t ((owes t).1 (inr c))

record AllExtended (D : Declarations) (ds : Derivations) (ps rest : List Sequent) (owed : List Debt) (es : Derivations) : Type 0 where
  valid : AllValid D es
  derive : roots es ≡ roots ds
  leaves : all_open_goals es ≡ ps ++ rest
  owes : Owes owed (all_debts ds) (all_debts es)

module _ (D : Declarations) (s : Sequent) (ps : List Sequent) (owed : List Debt) (derived : IsDerived D s ps owed) where
  -- behind the first derivation of a list, or in it
  more_behind : (d : Derivation) (ds es : Derivations) (rest : List Sequent) → Valid D d → open_goals d ≡ [] → AllExtended D ds ps rest owed es → AllExtended D (more d ds) ps rest owed (more d es)
  more_behind d ds es rest valid is w = record {
    valid = (valid, w.valid);
    derive = ap (λ l. root d ∷ l) w.derive;
    leaves = ap (λ l. l ++ all_open_goals es) is ∙ w.leaves;
    owes = owes_behind owed (debts d) (all_debts ds) (all_debts es) w.owes;
  }

  more_first : (d e : Derivation) (ds : Derivations) (gs rest : List Sequent) → AllValid D ds → IsExtended D d ps gs owed e → gs ++ all_open_goals ds ≡ rest → AllExtended D (more d ds) ps rest owed (more e ds)
  more_first d e ds gs rest valid w behind = record {
    valid = (w.valid, valid);
    derive = ap (λ x. x ∷ roots ds) w.derives;
    leaves = ap (λ l. l ++ all_open_goals ds) w.leaves ∙ append_assoc ps gs (all_open_goals ds) ∙ ap (λ l. ps ++ l) behind;
    owes = owes_before owed (all_debts ds) (debts d) (debts e) w.owes;
  }

  by_first : (d : Derivation) (ds : Derivations) (rest : List Sequent) → Valid D d × AllValid D ds → ((gs : List Sequent) → open_goals d ≡ s ∷ gs → (e : Derivation) × IsExtended D d ps gs owed e)
      → (all_open_goals ds ≡ s ∷ rest → (es : Derivations) × AllExtended D ds ps rest owed es) → (gs : List Sequent) → open_goals d ≡ gs → gs ++ all_open_goals ds ≡ s ∷ rest → (es : Derivations) × AllExtended D (more d ds) ps rest owed es
  by_first d ds rest valid first later [] is e = let (es, w) = later e in (more d es, more_behind d ds es rest valid.0 is w)
  by_first d ds rest valid first later (g ∷ gs) is e =
      let same : g ≡ s = cc in
      let behind : gs ++ all_open_goals ds ≡ rest = cc in
      let (k, w) = first gs (is ∙ ap (λ x. x ∷ gs) same) in
      (more k ds, more_first d k ds gs rest valid.1 w behind)

  mutual
    pub extended : (d : Derivation) (rest : List Sequent) → Valid D d → open_goals d ≡ s ∷ rest → (e : Derivation) × IsExtended D d ps rest owed e
    extended (goal t) rest valid e =
        let same : t ≡ s = cc in
        let none_left : [] ≡ rest = cc in
        let d = derived.1 in (
          derived.0,
          record {
            valid = d.valid;
            derives = d.derives ∙ sym same;
            leaves = d.leaves ∙ sym (append-nil ps) ∙ ap (λ l. ps ++ l) none_left;
            owes = λ x. (λ c. inr (subst (λ l. Contains l x) d.owes c), λ c. elim c [ inl n ↦ absurd (Contains-none x n) | inr a ↦ subst (λ l. Contains l x) (sym d.owes) a ]);
          },
        )
    extended (by step r ds) rest valid e =
        let w = all_extended ds rest valid.1 e in (
          by step r w.0,
          record {
            valid = (subst (Rule D step r) (sym w.1.derive) valid.0, w.1.valid);
            derives = refl;
            leaves = w.1.leaves;
            owes = owes_behind owed (debts_of step) (all_debts ds) (all_debts w.0) w.1.owes;
          },
        )

    all_extended : (ds : Derivations) (rest : List Sequent) → AllValid D ds → all_open_goals ds ≡ s ∷ rest → (es : Derivations) × AllExtended D ds ps rest owed es
    all_extended none rest valid e = absurd (cc)
    all_extended (more d ds) rest valid e = by_first d ds rest valid (λ gs k. extended d gs valid.0 k) (λ k. all_extended ds rest valid.1 k) (open_goals d) refl e
