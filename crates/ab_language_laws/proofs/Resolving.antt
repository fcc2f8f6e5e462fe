-- Names are found where they are looked for: each in the binder that it was chosen for.
use Rattle.std.proofs.Common.{◌≡◌, ℕ, zero, suc, ◌+◌, ◌-◌, ◌^◌, ◌≤◌, ◌<◌, length, List, [], ◌∷◌, ◌++◌, Bool, true, false, Option, Some, None, inl, inr, Contains, codes, decimal, refl, sym, ◌∙◌, ap, subst, arith, length-append}
use Rattle.std.specs.Prelude.{bytes_eq, if◌then◌else◌, option_map, unwrap_or, nat_lt}
use Rattle.std.specs.List.{filter_map, cons_option}
use Rattle.std.specs.Cmp.Lexicographic.{bytes_decides}
use Rattle.std.proofs.lemmas.List.Elements.{Contains-append_left, Contains-append_right, Contains-append_cases}
use Rattle.std.proofs.lemmas.Bool.{lt-ltb, ltb-true, ltb_from_iff}
use Rattle.ab_term.specs.Types.{Ty}
use Rattle.ab_term.specs.Logical.{Logical}
use Rattle.ab_term.specs.Terms.{Head, constant, logical, nominal, variable, index, Term, lam, spine, Terms, no_terms, term}
use Rattle.ab_term.specs.Typing.{Signature, type_at, head_type, HasType, typed_lam, typed_spine, TakeType, take_none, take_term}
use Rattle.ab_term.specs.Substitution.{lower_head}
use Rattle.ab_term.specs.Sizes.{size, sizes}
use Rattle.ab_term.proofs.Lists.{Contains-none, Contains-here, Contains-there, Contains-cases}
use Rattle.ab_meaning.specs.Scopes.{index_of}
use Rattle.ab_print.specs.Shapes.{Shape, Shapes, no_shapes}
use Rattle.ab_print.specs.PrintedNames.{name_of, free_heads, free_heads_of_all}
use Rattle.ab_print.specs.NameAssignment.{outside, are_last, alone, takes_binder, head_form, name_form, constant_form, names_in, bound_name, contracted, named, named_all, printed}
use Rattle.ab_print.proofs.Membership.{to_filter_map, from_filter_map}
use Rattle.ab_print.proofs.Scoping.{captures_nothing}
use Rattle.ab_language_laws.specs.Resolution.{binder_of, form, StandsFor, ReadsAs, under_binder, by_name, by_sign, StandsAs, in_full, as_name, ReadAllAs, none, more}

-- fewer heads stand free in a term than it has nodes

module _ {X Y : Type 0} (f : X → Option Y) where
  fewer_by : (o : Option Y) (ys : List Y) → length (cons_option o ys) ≤ 1 + length ys
  fewer_by None ys = omega arith
  fewer_by (Some y) ys = omega arith

  fewer : (xs : List X) → length (filter_map f xs) ≤ length xs
  fewer [] = omega arith
  fewer (x ∷ xs) = omega (arith, fewer xs, fewer_by (f x) (filter_map f xs))

module _ {Var : Type 0} where
  mutual
    few_heads : (t : Term Var (List ℕ)) → length (free_heads t) ≤ size t
    few_heads (lam A x t) = omega (arith, few_heads t, fewer (lower_head 0) (free_heads t))
    few_heads (spine h ts) = omega (arith, few_in_all ts)

    few_in_all : (ts : Terms Var (List ℕ)) → length (free_heads_of_all ts) ≤ sizes ts
    few_in_all no_terms = omega arith
    few_in_all (term t ts) = omega (arith, few_heads t, few_in_all ts, length-append (free_heads t) (free_heads_of_all ts))

  -- bound names that stand free in a typed term are those of its list

  raised : (h : Head Var) (i : ℕ) → lower_head 0 h ≡ Some (index i) → h ≡ index (suc i)
  raised (constant c) i e = cc
  raised (logical l) i e = cc
  raised (nominal a) i e = cc
  raised (variable x) i e = cc
  raised (index zero) i e = cc
  raised (index (suc j)) i e = cc

  module _ (sg : Signature) where
    mutual
      pub listed : {G : List Ty} {A : Ty} {t : Term Var (List ℕ)} → HasType sg G t A → (i : ℕ) → Contains (free_heads t) (index i) → (B : Ty) × (type_at G i ≡ Some B)
      listed {t = lam D x t} (typed_lam d) i h =
          let r = from_filter_map (lower_head 0) (free_heads t) (index i) h in
          listed d (suc i) (subst (λ (w : Head Var). Contains (free_heads t) w) (raised r.0 i r.2) r.1)
      listed {G = G} {t = spine g ts} (typed_spine {A = A} e d) i h = elim (Contains-cases g (free_heads_of_all ts) (index i) h) [
        | inl same ↦ (A, subst (λ (w : Head Var). head_type sg G w ≡ Some A) same e)
        | inr later ↦ all_listed d i later
      ]

      all_listed : {G : List Ty} {A B : Ty} {ts : Terms Var (List ℕ)} → TakeType sg G ts A B → (i : ℕ) → Contains (free_heads_of_all ts) (index i) → (C : Ty) × (type_at G i ≡ Some C)
      all_listed take_none i h = absurd (Contains-none _ h)
      all_listed {ts = term t ts} (take_term d e) i h = elim (Contains-append_cases (free_heads t) (free_heads_of_all ts) (index i) h) [
        | inl a ↦ listed d i a
        | inr b ↦ all_listed e i b
      ]

module _ {Var : Type 0} (name : Var → List ℕ) where
  -- a logical constant, or a head whose name is found
  data IsFound (names : List (List ℕ)) (h : Head Var) : Type 0 where
    a_sign : (l : Logical) → h ≡ logical l → IsFound names h
    a_name : (x : List ℕ) → StandsFor name names x h → IsFound names h

  -- each head that stands free in the list is found
  abbrev AreFound : List (List ℕ) → List (Head Var) → Type 0
  AreFound names hs = (h : Head Var) → Contains hs h → IsFound names h

  not_bound : (y x : List ℕ) (names : List (List ℕ)) → (x ≡ y → ⊥) → (b : Bool) → bytes_eq y x ≡ b → index_of (y ∷ names) x ≡ option_map suc (index_of names x)
  not_bound y x names other true e = absurd (other (sym ((bytes_decides y x).0 e)))
  not_bound y x names other false e = ap (λ (w : Bool). if w then (Some zero) else (option_map suc (index_of names x))) e

  own : (y : List ℕ) (names : List (List ℕ)) → index_of (y ∷ names) y ≡ Some zero
  own y names = ap (λ (w : Bool). if w then (Some zero) else (option_map suc (index_of names y))) ((bytes_decides y y).1 refl)

  -- a head that stands outside a binder too, and is found there, is found under a binder of another name
  still_found : (y : List ℕ) (names : List (List ℕ)) (h g : Head Var) → name_of name (y ∷ names) h ≡ name_of name names g → binder_of h ≡ option_map suc (binder_of g)
      → ((x : List ℕ) → name_of name names g ≡ Some x → x ≡ y → ⊥) → (x : List ℕ) → StandsFor name names x g → IsFound (y ∷ names) h
  still_found y names h g same raises other x s = a_name x record {
    called = same ∙ s.called;
    found = not_bound y x names (other x s.called) (bytes_eq y x) refl ∙ ap (option_map suc) s.found ∙ sym raises;
  }

  no_sign : (l : Logical) (names : List (List ℕ)) (g : Head Var) (x : List ℕ) → g ≡ logical l → name_of name names g ≡ Some x → ⊥
  no_sign l names g x e s = let n : name_of name names (logical l) ≡ Some x = subst (λ (w : Head Var). name_of name names w ≡ Some x) e s in cc

  under_other : (y : List ℕ) (names : List (List ℕ)) (h g : Head Var) → lower_head 0 h ≡ Some g → ((x : List ℕ) → name_of name names g ≡ Some x → x ≡ y → ⊥) → IsFound names g → IsFound (y ∷ names) h
  under_other y names (constant c) g e other (a_sign l f) = let same : constant c ≡ g = cc in a_sign l (same ∙ f)
  under_other y names (constant c) g e other (a_name x s) = let same : constant c ≡ g = cc in still_found y names (constant c) g (ap (name_of name names) same) (ap (λ (w : Head Var). option_map suc (binder_of w)) same) other x s
  under_other y names (logical l) g e other f = a_sign l refl
  under_other y names (nominal a) g e other (a_sign l f) = let same : nominal a ≡ g = cc in a_sign l (same ∙ f)
  under_other y names (nominal a) g e other (a_name x s) = let same : nominal a ≡ g = cc in still_found y names (nominal a) g (ap (name_of name names) same) (ap (λ (w : Head Var). option_map suc (binder_of w)) same) other x s
  under_other y names (variable v) g e other (a_sign l f) = let same : variable v ≡ g = cc in a_sign l (same ∙ f)
  under_other y names (variable v) g e other (a_name x s) = let same : variable v ≡ g = cc in still_found y names (variable v) g (ap (name_of name names) same) (ap (λ (w : Head Var). option_map suc (binder_of w)) same) other x s
  under_other y names (index zero) g e other f = absurd (cc)
  under_other y names (index (suc i)) g e other (a_sign l f) = absurd (let same : index i ≡ g = cc in let bad : index i ≡ logical l = same ∙ f in cc)
  under_other y names (index (suc i)) g e other (a_name x s) = let same : index i ≡ g = cc in still_found y names (index (suc i)) g (ap (name_of name names) same) (ap (λ (w : Head Var). option_map suc (binder_of w)) same) other x s

  -- a head of a binder's body: the bound name, or one that stands outside too
  in_body : (names : List (List ℕ)) (A : Ty) (x : List ℕ) (t : Term Var (List ℕ)) → size t + 1 < 2 ^ 64 - 1 → AreFound names (free_heads (lam A x t))
      → (h : Head Var) (o : Option (Head Var)) → lower_head 0 h ≡ o → Contains (free_heads t) h → IsFound (bound_name name names x t ∷ names) h
  in_body names A x t small found h (Some g) e in_t =
      let outer : Contains (free_heads (lam A x t)) g = to_filter_map (lower_head 0) (free_heads t) h g in_t e in
      let few : length (free_heads (lam A x t)) ≤ length (free_heads t) = fewer (lower_head 0) (free_heads t) in
      let fits : length (free_heads t) ≤ size t = few_heads t in
      under_other (bound_name name names x t) names h g e
      (λ w s same. captures_nothing name names A x t (omega arith)
      (subst (λ (v : List ℕ). Contains (names_in name names (free_heads (lam A x t))) v) same (to_filter_map (name_of name names) (free_heads (lam A x t)) g w outer s)))
      (found g outer)
  in_body names A x t small found (constant c) None e in_t = absurd (cc)
  in_body names A x t small found (logical l) None e in_t = absurd (cc)
  in_body names A x t small found (nominal a) None e in_t = absurd (cc)
  in_body names A x t small found (variable v) None e in_t = absurd (cc)
  in_body names A x t small found (index zero) None e in_t = a_name (bound_name name names x t) record { called = refl; found = own (bound_name name names x t) names }
  in_body names A x t small found (index (suc i)) None e in_t = absurd (cc)

  found_in_body : (names : List (List ℕ)) (A : Ty) (x : List ℕ) (t : Term Var (List ℕ)) → size t + 1 < 2 ^ 64 - 1 → AreFound names (free_heads (lam A x t)) → AreFound (bound_name name names x t ∷ names) (free_heads t)
  found_in_body names A x t small found h in_t = in_body names A x t small found h (lower_head 0 h) refl in_t

  -- what is written for a head

  written : (names : List (List ℕ)) (x : List ℕ) (h : Head Var) (ss : Shapes) → StandsFor name names x h → head_form name names h ss ≡ form h x ss
  written names x (constant c) ss s = let same : Some c ≡ Some x = s.called in let e : c ≡ x = cc in ap (λ (w : List ℕ). constant_form w ss) e
  written names x (logical l) ss s = absurd (no_sign l names (logical l) x refl s.called)
  written names x (nominal a) ss s = ap (λ (o : Option (List ℕ)). name_form (unwrap_or o []) ss) s.called
  written names x (variable v) ss s = ap (λ (o : Option (List ℕ)). name_form (unwrap_or o []) ss) s.called
  written names x (index i) ss s = ap (λ (o : Option (List ℕ)). name_form (unwrap_or o []) ss) s.called

  by_head : (names : List (List ℕ)) (h : Head Var) (ss : Shapes) (ts : Terms Var (List ℕ)) → IsFound names h → ReadAllAs name names ss ts → ReadsAs name names (head_form name names h ss) (spine h ts)
  by_head names h ss ts (a_sign l e) r = subst (λ (w : Head Var). ReadsAs name names (head_form name names w ss) (spine w ts)) (sym e) (by_sign r)
  by_head names h ss ts (a_name x s) r = subst (λ (w : Shape). ReadsAs name names w (spine h ts)) (sym (written names x h ss s)) (by_name s r)

  -- the name of which a term is the eta-long form stands free in it

  pub data StandsOutside (n : ℕ) (t : Term Var (List ℕ)) (g : Head Var) : Type 0 where
    stands : (h : Head Var) → Contains (free_heads t) h → outside n h ≡ Some g → StandsOutside n t g

  pub by_guard : (b : Bool) (o : Option (Head Var)) (g : Head Var) → (if b then o else None) ≡ Some g → o ≡ Some g
  by_guard true o g e = e
  by_guard false o g e = absurd (cc)

  inner_none : (b : Bool) → b ≡ true → (h g : Head Var) → (if b then None else (Some h)) ≡ Some g → ⊥
  inner_none true p h g e = cc
  inner_none false p h g e = cc

  guarded : (b : Bool) (h g : Head Var) → (if b then None else (Some h)) ≡ Some g → h ≡ g
  guarded true h g e = absurd (cc)
  guarded false h g e = cc

  lowered : (n : ℕ) (h g : Head Var) → outside (suc n) h ≡ Some g → (k : Head Var) × (lower_head 0 h ≡ Some k) × (outside n k ≡ Some g)
  lowered n (constant c) g e = (constant c, refl, e)
  lowered n (logical l) g e = absurd (cc)
  lowered n (nominal a) g e = (nominal a, refl, e)
  lowered n (variable v) g e = (variable v, refl, e)
  lowered n (index zero) g e = absurd (inner_none (nat_lt 0 (suc n)) (lt-ltb 0 (suc n) (omega arith)) (index (zero - suc n)) g e)
  lowered n (index (suc i)) g e =
      let less : nat_lt (suc i) (suc n) ≡ nat_lt i n = ltb_from_iff ((λ h. let a : suc i < suc n = ltb-true (suc i) (suc n) h in omega arith), (λ h. lt-ltb (suc i) (suc n) (omega arith))) in
      let left : suc i - suc n ≡ i - n = omega arith in
      (index i, refl, sym (ap (λ (b : Bool). if b then None else (Some (index (suc i - suc n)))) less ∙ ap (λ (k : ℕ). if (nat_lt i n) then None else (Some (index k))) left) ∙ e)

  pub alone_free : (n : ℕ) (t : Term Var (List ℕ)) (g : Head Var) → alone n t ≡ Some g → StandsOutside n t g
  alone_free n (lam A x t) g e = elim (alone_free (suc n) t g e) [ stands h in_t o ↦ (let r = lowered n h g o in stands r.0 (to_filter_map (lower_head 0) (free_heads t) h r.0 in_t r.1) r.2) ]
  alone_free n (spine h ts) g e = stands h (Contains-here h (free_heads_of_all ts)) (by_guard (are_last n ts) (outside n h) g e)

  pub itself : (h g : Head Var) → outside 0 h ≡ Some g → h ≡ g
  itself (constant c) g e = cc
  itself (logical l) g e = absurd (cc)
  itself (nominal a) g e = cc
  itself (variable v) g e = cc
  itself (index i) g e = let same : i - 0 ≡ i = omega arith in ap index (sym same) ∙ guarded (nat_lt i 0) (index (i - 0)) g e

  whole : (names : List (List ℕ)) (t : Term Var (List ℕ)) (s : Shape) → AreFound names (free_heads t) → ReadsAs name names s t → (o : Option (Head Var)) → alone 0 t ≡ o → StandsAs name names (contracted name names o s) t
  whole names t s found r None e = in_full r
  whole names t s found r (Some g) e = elim (alone_free 0 t g e) [
    | stands h in_t o ↦ as_name e (by_head names g no_shapes no_terms (found g (subst (λ (w : Head Var). Contains (free_heads t) w) (itself h g o) in_t)) none)
  ]

  argument : (binds : Bool) (names : List (List ℕ)) (t : Term Var (List ℕ)) (s : Shape) → AreFound names (free_heads t) → ReadsAs name names s t → StandsAs name names (contracted name names (if binds then None else (alone 0 t)) s) t
  argument true names t s found r = in_full r
  argument false names t s found r = whole names t s found r (alone 0 t) refl

  mutual
    resolves : (names : List (List ℕ)) (t : Term Var (List ℕ)) → size t + 1 < 2 ^ 64 - 1 → AreFound names (free_heads t) → ReadsAs name names (named name names t) t
    resolves names (lam A x t) small found = under_binder (resolves (bound_name name names x t ∷ names) t (omega arith) (found_in_body names A x t (omega arith) found))
    resolves names (spine h ts) small found =
        by_head names h (named_all name (takes_binder h) names ts) ts (found h (Contains-here h (free_heads_of_all ts)))
        (all_resolve (takes_binder h) names ts (omega arith) (λ g in_ts. found g (Contains-there h (free_heads_of_all ts) g in_ts)))

    all_resolve : (binds : Bool) (names : List (List ℕ)) (ts : Terms Var (List ℕ)) → sizes ts + 1 < 2 ^ 64 - 1 → AreFound names (free_heads_of_all ts) → ReadAllAs name names (named_all name binds names ts) ts
    all_resolve binds names no_terms small found = none
    all_resolve binds names (term t ts) small found =
        let first : AreFound names (free_heads t) = λ g in_t. found g (Contains-append_left (free_heads t) (free_heads_of_all ts) g in_t) in
        more (argument binds names t (named name names t) first (resolves names t (omega arith) first))
        (all_resolve binds names ts (omega arith) (λ g in_ts. found g (Contains-append_right (free_heads t) (free_heads_of_all ts) g in_ts)))

  -- no bound name stands free in a closed term
  closed : (sg : Signature) (A : Ty) (t : Term Var (List ℕ)) → HasType sg [] t A → AreFound [] (free_heads t)
  closed sg A t d (constant c) in_t = a_name c record { called = refl; found = refl }
  closed sg A t d (logical l) in_t = a_sign l refl
  closed sg A t d (nominal a) in_t = a_name (codes "n" ++ decimal a.number) record { called = refl; found = refl }
  closed sg A t d (variable v) in_t = a_name (name v.name) record { called = refl; found = refl }
  closed sg A t d (index i) in_t = let r = listed sg d i in_t in let bad : type_at [] i ≡ Some r.0 = r.1 in absurd (cc)

  pub resolves_closed : (sg : Signature) (A : Ty) (t : Term Var (List ℕ)) → HasType sg [] t A → size t + 1 < 2 ^ 64 - 1 → StandsAs name [] (printed name t) t
  resolves_closed sg A t d small = let found : AreFound [] (free_heads t) = closed sg A t d in whole [] t (named name [] t) found (resolves [] t small found) (alone 0 t) refl
