-- The heads of what an expression of a proof command means in a goal.
use Rattle.std.specs.Prelude.{◌≡◌, ◌⊎◌, ℕ, List, [], ◌++◌, map, Some, Ok, Contains, unwrap_or}
use Rattle.std.proofs.Common.{inl, inr, refl, sym, ◌∙◌, ap, subst}
use Rattle.std.proofs.lemmas.List.Elements.{Contains-append_cases}
use Rattle.ab_term.specs.Types.{Ty}
use Rattle.ab_term.specs.Logical.{Logical, truth, falsity, conjunction, disjunction, implication, equality, universal, existential, nabla, judgement, focused_judgement, star, at_sign, plus, hash, spec_universal, spec_implication, spec_conjunction}
use Rattle.ab_term.specs.Terms.{Head, Nominal, constant, logical, nominal, variable, index, lam, spine, Terms, no_terms, term, Read}
use Rattle.ab_term.specs.Terms as terms
use Rattle.ab_term.specs.Typing.{head_type}
use Rattle.ab_term.specs.Names.{support, support_of_all, HasOneTypeEach}
use Rattle.ab_term.specs.Variables.{variables, variables_of_all}
use Rattle.ab_term.proofs.Lists.{Contains-none, Contains-cases, Contains-map, Contains-from_map, All-from_contains}
use Rattle.ab_grammar.specs.Tree.{Tree}
use Rattle.ab_meaning.specs.ResolvedNames.{Name, Resolved, bound, known, free, apply, behind, abs, equal, bind, Binding, binding_head}
use Rattle.ab_meaning.specs.Scopes.{Entry, resolved}
use Rattle.ab_meaning.specs.Types.{PropFree}
use Rattle.ab_meaning.specs.Readings.{Raw, Making, Reads, reads_bound, reads_known, reads_free, reads_apply, reads_behind, reads_abs, reads_equal, reads_bind}
use Rattle.ab_infer.specs.Heads.{HeadsFit, AreHeads, AreAllHeads, AreRawHeads, IsOrdinary, IsOrdinaryConstant}
use Rattle.ab_infer.specs.Outcomes.{nominal_of, number_of}
use Rattle.ab_formulas.specs.Declarations.{Declarations, signature_in}
use Rattle.ab_formulas.specs.Sequents.{Variable, Sequent, goal_names, in_terms}
use Rattle.ab_meaning.specs.Terms.{kinds_in, entry_of, scope_of}
use Rattle.ab_infer.specs.Lists.{HasLists}
use Rattle.ab_infer.proofs.MeaningNames.{IsWritten, IsUnsettled, NamesAre, Admits, resolved_names}
use Rattle.ab_infer.proofs.MeaningNumbers.{same_name}
use Rattle.ab_infer.proofs.GoalLookups.{none_settled}

-- what holds of the heads that are known, of what free names stand for, of equality and of quantifiers holds of the
-- heads of a reading
module _ (Known : Head ℕ → Ty → Type 0) (Free : Name → Type 0) (P : Head ℕ → Type 0) (made : Making) (types : Name → Ty)
    (indices : (i : ℕ) → P (index i)) (equations : (A : Ty) → P (logical (equality A))) (binders : (q : Binding) (A : Ty) → PropFree A → P (logical (binding_head q A)))
    (heads : (h : Head ℕ) (A : Ty) → Known h A → P h) (names : (x : Name) → Free x → P (made x (types x))) where
  pub reading_heads : {G : List Ty} {e : Resolved} {t : Raw} {A : Ty} {As : List Ty} → NamesAre Known Free e → Reads made types G e t A As → AreRawHeads P t
  reading_heads k (reads_bound {i = i} at) = indices i
  reading_heads k (reads_known {h = h} {A = A}) = heads h A k
  reading_heads k (reads_free {x = x} plain) = names x k
  reading_heads k (reads_apply r s) = (reading_heads k.0 r, reading_heads k.1 s)
  reading_heads k (reads_behind r s) = (reading_heads k.1 s, reading_heads k.0 r)
  reading_heads k (reads_abs plain r) = reading_heads k r
  reading_heads k (reads_equal {A = A} r s) = ((equations A, reading_heads k.0 r), reading_heads k.1 s)
  reading_heads k (reads_bind {q = q} {A = A} plain keeps r) = (binders q A plain, reading_heads k r)

module _ (D : Declarations) (s : Sequent) where
  -- what a head of an expression may be: a constant or a sign, or a constant or variable of the goal
  abbrev pub IsThere : Head ℕ → Type 0
  IsThere (constant c) = Unit {0}
  IsThere (logical l) = IsWritten l
  IsThere (nominal a) = Contains (goal_names s) a
  IsThere (variable y) = Contains (map in_terms s.variables) y
  IsThere (index i) = ⊥

  abbrev pub IsKnown : Head ℕ → Ty → Type 0
  IsKnown h A = IsThere h × ((G : List Ty) → head_type (signature_in D) G h ≡ Some A)

  -- a nominal name whose number the goal doesn't have
  abbrev pub IsFree : Name → Type 0
  IsFree x = (n : ℕ) × IsUnsettled (goal_names s) x n

  goal_admits : HasLists D → Admits IsKnown IsFree (signature_in D) (map entry_of s.variables) (goal_names s)
  goal_admits lists = record {
    signs = λ l is. (is, λ G. refl);
    lists = (tt, λ G. lists.0);
    empty = (tt, λ G. lists.1);
    variables = All-from_contains (λ (e : Entry). IsKnown (variable (record { name = e.number; type = e.type })) e.type) (map entry_of s.variables)
        (λ e c.
        let x = Contains-from_map entry_of s.variables e c in
        subst (λ (e : Entry). IsKnown (variable (record { name = e.number; type = e.type })) e.type) x.2 (Contains-map in_terms s.variables x.0 x.1, λ G. refl));
    constants = λ x A e. (tt, λ G. e);
    nominals = All-from_contains (λ (a : Nominal). IsKnown (nominal a) a.type) (goal_names s) (λ a c. (c, λ G. refl));
    unsettled = λ x n u. (n, u);
  }

  pub names_known : HasLists D → (e : Tree) (r : Resolved) → resolved (scope_of D s) [] e ≡ Ok r → NamesAre IsKnown IsFree r
  names_known lists e r is = resolved_names IsKnown IsFree (kinds_in D) (signature_in D) (map entry_of s.variables) (goal_names s) (goal_admits lists) e r is

  pub heads_fit : (e : Resolved) → NamesAre IsKnown IsFree e → HeadsFit (signature_in D) e
  heads_fit (bound i) k = tt
  heads_fit (known h A) k = k.1
  heads_fit (free x p) k = tt
  heads_fit (apply e f) k = (heads_fit e k.0, heads_fit f k.1)
  heads_fit (behind e f) k = (heads_fit e k.0, heads_fit f k.1)
  heads_fit (abs x p e) k = heads_fit e k
  heads_fit (equal e f) k = (heads_fit e k.0, heads_fit f k.1)
  heads_fit (bind q x p w e) k = heads_fit e k

  -- what stands at the type of formulas is one, where no variable of the goal is of a type that holds formulas
  ordinary_sign : (l : Logical) → IsWritten l → IsOrdinaryConstant l
  ordinary_sign truth is = tt
  ordinary_sign falsity is = tt
  ordinary_sign conjunction is = tt
  ordinary_sign disjunction is = tt
  ordinary_sign implication is = tt
  ordinary_sign (equality A) is = tt
  ordinary_sign (universal A) is = absurd is
  ordinary_sign (existential A) is = absurd is
  ordinary_sign (nabla A) is = absurd is
  ordinary_sign judgement is = tt
  ordinary_sign focused_judgement is = tt
  ordinary_sign (star i) is = absurd is
  ordinary_sign (at_sign i) is = absurd is
  ordinary_sign (plus i) is = absurd is
  ordinary_sign (hash i) is = absurd is
  ordinary_sign (spec_universal A) is = tt
  ordinary_sign spec_implication is = tt
  ordinary_sign spec_conjunction is = tt

  pub ordinary_head : ((x : Variable) → Contains s.variables x → PropFree x.type) → (h : Head ℕ) (A : Ty) → IsKnown h A → IsOrdinary h
  ordinary_head plain (constant c) A k = tt
  ordinary_head plain (logical l) A k = ordinary_sign l k.0
  ordinary_head plain (nominal a) A k = tt
  ordinary_head plain (variable y) A k =
      let x = Contains-from_map in_terms s.variables y k.0 in
      subst (λ (y : terms.Variable ℕ). PropFree y.type) x.2 (plain x.0 x.1)
  ordinary_head plain (index i) A k = tt

  module _ (types : Name → Ty) where
    -- a constant of the goal, or what a free name stands for
    abbrev IsNamed : Nominal → Type 0
    IsNamed a = Contains (goal_names s) a ⊎ ((x : Name) × IsUnsettled (goal_names s) x a.number × (a.type ≡ types x))

    abbrev pub IsSaid : Head ℕ → Type 0
    IsSaid (constant c) = Unit {0}
    IsSaid (logical l) = Unit {0}
    IsSaid (nominal a) = IsNamed a
    IsSaid (variable y) = Contains (map in_terms s.variables) y
    IsSaid (index i) = Unit {0}

    said_known : (h : Head ℕ) (A : Ty) → IsKnown h A → IsSaid h
    said_known (constant c) A k = tt
    said_known (logical l) A k = tt
    said_known (nominal a) A k = inl k.0
    said_known (variable y) A k = k.0
    said_known (index i) A k = tt

    said_free : (x : Name) → IsFree x → IsSaid (nominal_of x (types x))
    said_free x (n, u) =
        let number : n ≡ number_of x = sym (ap (λ k. unwrap_or k 0) u.0) in
        inr (x, subst (IsUnsettled (goal_names s) x) number u, refl)

    pub reading_said : {e : Resolved} {t : Raw} {A : Ty} {As : List Ty} → NamesAre IsKnown IsFree e → Reads nominal_of types [] e t A As → AreRawHeads IsSaid t
    reading_said k r = reading_heads IsKnown IsFree IsSaid nominal_of types (λ i. tt) (λ A. tt) (λ q A f. tt) said_known said_free k r

    mutual
      pub variables_there : (t : Read) → AreHeads IsSaid t → (y : terms.Variable ℕ) → Contains (variables t) y → Contains (map in_terms s.variables) y
      variables_there (lam A x t) h y c = variables_there t h y c
      variables_there (spine (constant k) ts) h y c = all_variables_there ts h.1 y c
      variables_there (spine (logical l) ts) h y c = all_variables_there ts h.1 y c
      variables_there (spine (nominal a) ts) h y c = all_variables_there ts h.1 y c
      variables_there (spine (variable z) ts) h y c =
          elim (Contains-cases z (variables_of_all ts) y c) [ inl e ↦ subst (Contains (map in_terms s.variables)) e h.0 | inr d ↦ all_variables_there ts h.1 y d ]
      variables_there (spine (index i) ts) h y c = all_variables_there ts h.1 y c

      all_variables_there : (ts : Terms ℕ (List ℕ)) → AreAllHeads IsSaid ts → (y : terms.Variable ℕ) → Contains (variables_of_all ts) y → Contains (map in_terms s.variables) y
      all_variables_there no_terms h y c = absurd (Contains-none y c)
      all_variables_there (term t ts) h y c =
          elim (Contains-append_cases (variables t) (variables_of_all ts) y c) [ inl d ↦ variables_there t h.0 y d | inr d ↦ all_variables_there ts h.1 y d ]

    mutual
      names_named : (t : Read) → AreHeads IsSaid t → (a : Nominal) → Contains (support t) a → IsNamed a
      names_named (lam A x t) h a c = names_named t h a c
      names_named (spine (constant k) ts) h a c = all_names_named ts h.1 a c
      names_named (spine (logical l) ts) h a c = all_names_named ts h.1 a c
      names_named (spine (nominal b) ts) h a c =
          elim (Contains-cases b (support_of_all ts) a c) [ inl e ↦ subst IsNamed e h.0 | inr d ↦ all_names_named ts h.1 a d ]
      names_named (spine (variable z) ts) h a c = all_names_named ts h.1 a c
      names_named (spine (index i) ts) h a c = all_names_named ts h.1 a c

      all_names_named : (ts : Terms ℕ (List ℕ)) → AreAllHeads IsSaid ts → (a : Nominal) → Contains (support_of_all ts) a → IsNamed a
      all_names_named no_terms h a c = absurd (Contains-none a c)
      all_names_named (term t ts) h a c =
          elim (Contains-append_cases (support t) (support_of_all ts) a c) [ inl d ↦ names_named t h.0 a d | inr d ↦ all_names_named ts h.1 a d ]

    same_constant : (a b : Nominal) → a.number ≡ b.number → a.type ≡ b.type → a ≡ b
    same_constant a b e f = ap (λ n. of_parts n a.type) e ∙ ap (of_parts b.number) f
      where
        of_parts : ℕ → Ty → Nominal
        of_parts n A = record { number = n; type = A }

    -- constants of one number are one
    one_named : HasOneTypeEach (goal_names s) → (a b : Nominal) → IsNamed a → IsNamed b → a.number ≡ b.number → a ≡ b
    one_named one a b (inl c) (inl d) e = one a b c d e
    one_named one a b (inl c) (inr (x, u, f)) e = absurd (none_settled (goal_names s) b.number u.1 a c e)
    one_named one a b (inr (x, u, f)) (inl d) e = absurd (none_settled (goal_names s) a.number u.1 b d (sym e))
    one_named one a b (inr (x, u, f)) (inr (y, v, g)) e =
        let same = same_name x y b.number (u.0 ∙ ap Some e) v.0 in
        same_constant a b e (f ∙ ap types same ∙ sym g)

    pub one_type_each : HasOneTypeEach (goal_names s) → (t : Read) → AreHeads IsSaid t → HasOneTypeEach (goal_names s ++ support t)
    one_type_each one t h a b c d e = one_named one a b (named_in a c) (named_in b d) e
      where
        named_in : (a : Nominal) → Contains (goal_names s ++ support t) a → IsNamed a
        named_in a c = elim (Contains-append_cases (goal_names s) (support t) a c) [ inl d ↦ inl d | inr d ↦ names_named t h a d ]
