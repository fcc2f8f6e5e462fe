-- A term that is put in for a bound name of a formula: it stays a formula, its marks stay, and they are taken away before as well as after.
use Rattle.std.proofs.Common.{◌≡◌, ℕ, zero, suc, List, [], ◌∷◌, refl, ◌∙◌, ap}
use Rattle.ab_term.specs.Types.{Ty}
use Rattle.ab_term.specs.Logical as plain
use Rattle.ab_term.specs.Logical.{Logical}
use Rattle.ab_term.specs.Terms.{Head, constant, logical, nominal, variable, index, lam, spine, Terms, no_terms, term, Read}
use Rattle.ab_term.specs.Substitution.{shift, substitute, substitute_all}
use Rattle.ab_formulas.specs.Formulas.{Place, a_formula, a_scope, a_marked, any, places_of_constant, StandsIn, AllStandIn}
use Rattle.ab_formulas.specs.Marks.{Sign, star_of, at_of, plus_of, hash_of, Marks, by_scope, by_parts, marked, marks_made, marks_of, marks_of_all, erased, erased_all}

parts_same : (h : Head ℕ) (ts us : Terms ℕ (List ℕ)) (ms : List Marks) → marks_made by_parts h ts ms ≡ marks_made by_parts h us ms
parts_same h ts us [] = refl
parts_same h ts us (m ∷ []) = refl
parts_same h ts us (m ∷ n ∷ []) = refl
parts_same h ts us (m ∷ n ∷ k ∷ ms) = refl

scope_same : (h : Head ℕ) (ts us : Terms ℕ (List ℕ)) (ms : List Marks) → marks_made by_scope h ts ms ≡ marks_made by_scope h us ms
scope_same h ts us [] = refl
scope_same h ts us (m ∷ []) = refl
scope_same h ts us (m ∷ n ∷ ms) = refl

pub all_any : (ts : Terms ℕ (List ℕ)) → AllStandIn any ts
all_any no_terms = tt
all_any (term t ts) = (tt, all_any ts)

module _ (A : Ty) where
  abbrev T : Read → ℕ → Read → Read
  T u k t = substitute A u k t

  abbrev Ts : Read → ℕ → Terms ℕ (List ℕ) → Terms ℕ (List ℕ)
  Ts u k ts = substitute_all A u k ts

  -- OF A FORMULA
  pub record Keeps (u : Read) (k : ℕ) (t : Read) : Type 0 where
    pub stands : StandsIn a_formula (T u k t)
    pub unmarked : erased (T u k t) ≡ T u k (erased t)
    pub marks : marks_of (T u k t) ≡ marks_of t

  record AllKeep (p : Place) (u : Read) (k : ℕ) (ts : Terms ℕ (List ℕ)) : Type 0 where
    pub stand : AllStandIn p (Ts u k ts)
    pub unmarked : erased_all (Ts u k ts) ≡ Ts u k (erased_all ts)
    pub marks : marks_of_all (Ts u k ts) ≡ marks_of_all ts

  -- at a mark stands an atom or a judgement
  marked_stands : (u : Read) (k : ℕ) (t : Read) → StandsIn a_marked t → StandsIn a_marked (T u k t)
  marked_stands u k (lam B x t) s = absurd s
  marked_stands u k (spine (variable y) ts) s = absurd s
  marked_stands u k (spine (index i) ts) s = absurd s
  marked_stands u k (spine (constant c) ts) s = tt
  marked_stands u k (spine (nominal a) ts) s = tt
  marked_stands u k (spine (logical l) ts) s = s

  all_marked_stand : (u : Read) (k : ℕ) (ts : Terms ℕ (List ℕ)) → AllStandIn a_marked ts → AllStandIn a_marked (Ts u k ts)
  all_marked_stand u k no_terms s = tt
  all_marked_stand u k (term t ts) s = (marked_stands u k t s.0, all_marked_stand u k ts s.1)

  marked_same : (m : Sign) (u : Read) (k : ℕ) (t : Read) → StandsIn a_marked t → marked m (T u k t) ≡ marked m t
  marked_same m u k (lam B x t) s = absurd s
  marked_same m u k (spine (variable y) ts) s = absurd s
  marked_same m u k (spine (index i) ts) s = absurd s
  marked_same m u k (spine (constant c) ts) s = refl
  marked_same m u k (spine (nominal a) ts) s = refl
  marked_same m u k (spine (logical l) ts) s = refl

  parts_keep : (l : Logical) (u : Read) (k : ℕ) (ts : Terms ℕ (List ℕ)) → AllStandIn (places_of_constant l) ts → (AllStandIn a_formula ts → AllKeep a_formula u k ts) → (AllStandIn a_scope ts → AllKeep a_scope u k ts) → Keeps u k (spine (logical l) ts)
  parts_keep plain.conjunction u k ts s both scope = let r = both s in record { stands = (tt, r.stand); unmarked = ap (spine (logical plain.conjunction)) r.unmarked; marks = ap (marks_made by_parts (logical plain.conjunction) (Ts u k ts)) r.marks ∙ parts_same (logical plain.conjunction) (Ts u k ts) ts (marks_of_all ts) }
  parts_keep plain.disjunction u k ts s both scope = let r = both s in record { stands = (tt, r.stand); unmarked = ap (spine (logical plain.disjunction)) r.unmarked; marks = ap (marks_made by_parts (logical plain.disjunction) (Ts u k ts)) r.marks ∙ parts_same (logical plain.disjunction) (Ts u k ts) ts (marks_of_all ts) }
  parts_keep plain.implication u k ts s both scope = let r = both s in record { stands = (tt, r.stand); unmarked = ap (spine (logical plain.implication)) r.unmarked; marks = ap (marks_made by_parts (logical plain.implication) (Ts u k ts)) r.marks ∙ parts_same (logical plain.implication) (Ts u k ts) ts (marks_of_all ts) }
  parts_keep (plain.universal B) u k ts s both scope = let r = scope s in record { stands = (tt, r.stand); unmarked = ap (spine (logical (plain.universal B))) r.unmarked; marks = ap (marks_made by_scope (logical (plain.universal B)) (Ts u k ts)) r.marks ∙ scope_same (logical (plain.universal B)) (Ts u k ts) ts (marks_of_all ts) }
  parts_keep (plain.existential B) u k ts s both scope = let r = scope s in record { stands = (tt, r.stand); unmarked = ap (spine (logical (plain.existential B))) r.unmarked; marks = ap (marks_made by_scope (logical (plain.existential B)) (Ts u k ts)) r.marks ∙ scope_same (logical (plain.existential B)) (Ts u k ts) ts (marks_of_all ts) }
  parts_keep (plain.nabla B) u k ts s both scope = let r = scope s in record { stands = (tt, r.stand); unmarked = ap (spine (logical (plain.nabla B))) r.unmarked; marks = ap (marks_made by_scope (logical (plain.nabla B)) (Ts u k ts)) r.marks ∙ scope_same (logical (plain.nabla B)) (Ts u k ts) ts (marks_of_all ts) }
  parts_keep (plain.star i) u k no_terms s both scope = record { stands = (tt, tt); unmarked = refl; marks = refl }
  parts_keep (plain.star i) u k (term t ts) s both scope = record { stands = (tt, all_marked_stand u k (term t ts) s); unmarked = refl; marks = marked_same (star_of i) u k t s.0 }
  parts_keep (plain.at_sign i) u k no_terms s both scope = record { stands = (tt, tt); unmarked = refl; marks = refl }
  parts_keep (plain.at_sign i) u k (term t ts) s both scope = record { stands = (tt, all_marked_stand u k (term t ts) s); unmarked = refl; marks = marked_same (at_of i) u k t s.0 }
  parts_keep (plain.plus i) u k no_terms s both scope = record { stands = (tt, tt); unmarked = refl; marks = refl }
  parts_keep (plain.plus i) u k (term t ts) s both scope = record { stands = (tt, all_marked_stand u k (term t ts) s); unmarked = refl; marks = marked_same (plus_of i) u k t s.0 }
  parts_keep (plain.hash i) u k no_terms s both scope = record { stands = (tt, tt); unmarked = refl; marks = refl }
  parts_keep (plain.hash i) u k (term t ts) s both scope = record { stands = (tt, all_marked_stand u k (term t ts) s); unmarked = refl; marks = marked_same (hash_of i) u k t s.0 }
  parts_keep l u k ts s both scope = record { stands = (tt, all_any (Ts u k ts)); unmarked = refl; marks = refl }

  mutual
    pub keeps : (u : Read) (k : ℕ) (t : Read) → StandsIn a_formula t → Keeps u k t
    keeps u k (lam B x t) s = absurd s
    keeps u k (spine (variable y) ts) s = absurd s.0
    keeps u k (spine (index i) ts) s = absurd s.0
    keeps u k (spine (constant c) ts) s = record { stands = (tt, all_any (Ts u k ts)); unmarked = refl; marks = refl }
    keeps u k (spine (nominal a) ts) s = record { stands = (tt, all_any (Ts u k ts)); unmarked = refl; marks = refl }
    keeps u k (spine (logical l) ts) s = parts_keep l u k ts s.1 (all_keep u k ts) (scopes_keep u k ts)

    all_keep : (u : Read) (k : ℕ) (ts : Terms ℕ (List ℕ)) → AllStandIn a_formula ts → AllKeep a_formula u k ts
    all_keep u k no_terms s = record { stand = tt; unmarked = refl; marks = refl }
    all_keep u k (term t ts) s =
        let a = keeps u k t s.0 in
        let b = all_keep u k ts s.1 in
        record { stand = (a.stands, b.stand); unmarked = ap (λ v. term v (erased_all (Ts u k ts))) a.unmarked ∙ ap (term (T u k (erased t))) b.unmarked; marks = ap (λ m. m ∷ marks_of_all (Ts u k ts)) a.marks ∙ ap (λ ms. marks_of t ∷ ms) b.marks }

    scopes_keep : (u : Read) (k : ℕ) (ts : Terms ℕ (List ℕ)) → AllStandIn a_scope ts → AllKeep a_scope u k ts
    scopes_keep u k no_terms s = record { stand = tt; unmarked = refl; marks = refl }
    scopes_keep u k (term (spine h vs) ts) s = absurd s.0
    scopes_keep u k (term (lam B x t) ts) s =
        let a = keeps (shift zero u) (suc k) t s.0 in
        let b = scopes_keep u k ts s.1 in
        record { stand = (a.stands, b.stand); unmarked = ap (λ v. term (lam B x v) (erased_all (Ts u k ts))) a.unmarked ∙ ap (term (lam B x (T (shift zero u) (suc k) (erased t)))) b.unmarked; marks = ap (λ m. m ∷ marks_of_all (Ts u k ts)) a.marks ∙ ap (λ ms. marks_of t ∷ ms) b.marks }
