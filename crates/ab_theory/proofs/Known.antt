-- What is known of the variables and the nominal constants of a term, through what is made of terms when a judgement is opened.
use Rattle.std.proofs.Common.{◌≡◌, ◌⊎◌, inl, inr, ℕ, zero, suc, List, [], ◌∷◌, ◌++◌, map, Option, Some, None, sym, ap, subst}
use Rattle.std.specs.Prelude.{Contains}
use Rattle.std.proofs.lemmas.List.Elements.{Contains-append_cases, Contains-append_left, Contains-append_right}
use Rattle.ab_term.specs.Types.{Ty}
use Rattle.ab_term.specs.Logical.{Logical, judgement, conjunction, nabla, spec_universal, spec_implication, spec_conjunction, star, at_sign, plus, hash}
use Rattle.ab_term.specs.Terms as tree
use Rattle.ab_term.specs.Terms.{Nominal, Head, constant, logical, nominal, variable, index, lam, spine, Terms, no_terms, term, Read}
use Rattle.ab_term.specs.Names.{support}
use Rattle.ab_term.specs.Substitution.{shift, instance, instance_by_all}
use Rattle.ab_term.specs.Reach.{raise}
use Rattle.ab_term.specs.Abstraction.{close}
use Rattle.ab_term.specs.Variables.{variables, image_by}
use Rattle.ab_term.proofs.Lists.{Contains-none, Contains-cases}
use Rattle.ab_term.proofs.ClosingImages.{support-close, variables-close}
use Rattle.ab_term.proofs.Reaching.{raise-none, raise-more}
use Rattle.ab_term.proofs.Stands.{support-shift, variables-shift, support-instance, variables-instance, support-image, variables-image}
use Rattle.ab_unifiers.specs.Member.{before}
use Rattle.ab_formulas.specs.Marks.{Sign, plain, star_of, at_of, plus_of, hash_of}
use Rattle.ab_formulas.specs.Sequents.{Variable, in_terms}
use Rattle.ab_theory.specs.Unfolding.{exists_over, exists_all}
use Rattle.ab_theory.specs.Judgements.{marked_judgement}
use Rattle.ab_theory.specs.Opening.{both, open_goal, conjunction_from, conjunction_of}

-- each variable of the term is such a one, and each of its constants one of these
pub record Known (P : tree.Variable ℕ → Type 0) (M : List Nominal) (t : Read) : Type 0 where
  pub over : (y : tree.Variable ℕ) → Contains (variables t) y → P y
  pub names : (a : Nominal) → Contains (support t) a → Contains M a

one_of : {X : Type 0} (Q : X → Type 0) (xs : List X) → ((x : X) → Contains xs x → Q x) → (x : X) → Contains (xs ++ []) x → Q x
one_of Q xs f x m = elim (Contains-append_cases xs [] x m) [ inl a ↦ f x a | inr b ↦ absurd (Contains-none x b) ]

two_of : {X : Type 0} (Q : X → Type 0) (xs ys : List X) → ((x : X) → Contains xs x → Q x) → ((x : X) → Contains ys x → Q x) → (x : X) → Contains (xs ++ (ys ++ [])) x → Q x
two_of Q xs ys f g x m = elim (Contains-append_cases xs (ys ++ []) x m) [ inl a ↦ f x a | inr b ↦ one_of Q ys g x b ]

module _ (P : tree.Variable ℕ → Type 0) (M : List Nominal) where
  abbrev K : Read → Type 0
  K = Known P M

  pub known_one : (l : Logical) (t : Read) → K t → K (spine (logical l) (term t no_terms))
  known_one l t a = record { over = one_of P (variables t) a.over; names = one_of (Contains M) (support t) a.names }

  pub known_two : (l : Logical) (t u : Read) → K t → K u → K (spine (logical l) (term t (term u no_terms)))
  known_two l t u a b = record { over = two_of P (variables t) (variables u) a.over b.over; names = two_of (Contains M) (support t) (support u) a.names b.names }

  pub known_given : (c : List ℕ) (t u : Read) → K t → K u → K (spine (constant c) (term t (term u no_terms)))
  known_given c t u a b = record { over = two_of P (variables t) (variables u) a.over b.over; names = two_of (Contains M) (support t) (support u) a.names b.names }

  pub known_under : (A : Ty) (x : List ℕ) (t : Read) → K t → K (lam A x t)
  known_under A x t a = record { over = a.over; names = a.names }

  pub known_body : (A : Ty) (x : List ℕ) (t : Read) → K (lam A x t) → K t
  known_body A x t a = record { over = a.over; names = a.names }

  pub known_index : (i : ℕ) → K (spine (index i) no_terms)
  known_index i = record { over = λ y m. absurd (Contains-none y m); names = λ a m. absurd (Contains-none a m) }

  pub known_first : (l : Logical) (t : Read) (ts : Terms ℕ (List ℕ)) → K (spine (logical l) (term t ts)) → K t
  known_first l t ts a = record { over = λ y m. a.over y (Contains-append_left (variables t) _ y m); names = λ n m. a.names n (Contains-append_left (support t) _ n m) }

  pub known_second : (l : Logical) (t u : Read) → K (spine (logical l) (term t (term u no_terms))) → K u
  known_second l t u a = record {
    over = λ y m. a.over y (Contains-append_right (variables t) (variables u ++ []) y (Contains-append_left (variables u) [] y m));
    names = λ n m. a.names n (Contains-append_right (support t) (support u ++ []) n (Contains-append_left (support u) [] n m));
  }

  pub known_shift : (k : ℕ) (t : Read) → K t → K (shift k t)
  known_shift k t a = record {
    over = λ y m. a.over y (subst (λ l. Contains l y) (variables-shift k t) m);
    names = λ n m. a.names n (subst (λ l. Contains l n) (support-shift k t) m);
  }

  pub known_raise : (d : ℕ) (t : Read) → K t → K (raise d zero t)
  known_raise zero t a = subst K (sym (raise-none t zero)) a
  known_raise (suc d) t a = subst K (sym (raise-more t d zero)) (known_shift zero (raise d zero t) (known_raise d t a))

  pub known_instance : (t u : Read) → K t → K u → K (instance t u)
  known_instance t u a b = record {
    over = λ y m. elim (variables-instance t u y m) [ inl c ↦ a.over y c | inr c ↦ b.over y c ];
    names = λ n m. elim (support-instance t u n m) [ inl c ↦ a.names n c | inr c ↦ b.names n c ];
  }

  abbrev pub AllKnown : List Read → Type 0
  AllKnown [] = Unit {0}
  AllKnown (t ∷ ts) = K t × AllKnown ts

  pub known_by_all : (us : List Read) (t : Read) → K t → AllKnown us → K (instance_by_all t us)
  known_by_all [] t a b = a
  known_by_all (u ∷ us) t a b = known_by_all us (instance t u) (known_instance t u a b.0) b.1

  -- A GOAL, OPENED

  pub known_marked : (m : Sign) (L G : Read) → K L → K G → K (marked_judgement m L G)
  known_marked plain L G a b = known_two judgement L G a b
  known_marked (star_of i) L G a b = known_one (star i) _ (known_two judgement L G a b)
  known_marked (at_of i) L G a b = known_one (at_sign i) _ (known_two judgement L G a b)
  known_marked (plus_of i) L G a b = known_one (plus i) _ (known_two judgement L G a b)
  known_marked (hash_of i) L G a b = known_one (hash i) _ (known_two judgement L G a b)

  pub known_opened : (m : Sign) (L G : Read) → K L → K G → K (open_goal m L G)
  known_opened m L (spine (logical (spec_universal A)) (term (lam B x G) no_terms)) a b =
      known_one (nabla A) (lam A x (open_goal m (shift zero L) G))
      (known_under A x (open_goal m (shift zero L) G) (known_opened m (shift zero L) G (known_shift zero L a) (known_body B x G (known_first (spec_universal A) (lam B x G) no_terms b))))
  known_opened m L (spine (logical spec_implication) (term F (term G no_terms))) a b =
      known_opened m (before F L) G (known_given _ F L (known_first spec_implication F (term G no_terms) b) a) (known_second spec_implication F G b)
  known_opened m L (spine (logical spec_conjunction) (term F (term G no_terms))) a b =
      known_two conjunction (open_goal m L F) (open_goal m L G) (known_opened m L F a (known_first spec_conjunction F (term G no_terms) b)) (known_opened m L G a (known_second spec_conjunction F G b))
  known_opened m L G a b = known_marked m L G a b

  known_conjoined : (m : Sign) (L F : Read) (Gs : List Read) → K F → K L → AllKnown Gs → K (conjunction_from F (map (open_goal m L) Gs))
  known_conjoined m L F [] a l b = a
  known_conjoined m L F (G ∷ Gs) a l b = known_conjoined m L (both F (open_goal m L G)) Gs (known_two conjunction F (open_goal m L G) a (known_opened m L G l b.0)) l b.1

  pub known_conjunction : (m : Sign) (L : Read) (Gs : List Read) → K L → AllKnown Gs → K (conjunction_of (map (open_goal m L) Gs))
  known_conjunction m L [] l b = record { over = λ y c. absurd (Contains-none y c); names = λ n c. absurd (Contains-none n c) }
  known_conjunction m L (G ∷ Gs) l b = known_conjoined m L (open_goal m L G) Gs (known_opened m L G l b.0) l b.1

-- closed over a variable

known_exists : (P : tree.Variable ℕ → Type 0) (M : List Nominal) (y : Variable) (F : Read) → Known (λ z. P z ⊎ (in_terms y ≡ z)) M F → Known P M (exists_over y F)
known_exists P M y F f = record {
  over = one_of P (variables (close zero (variable (in_terms y)) F)) (λ z m. let was = variables-close zero (variable (in_terms y)) F z m in elim (f.over z was.0) [ inl p ↦ p | inr e ↦ absurd (was.1 (ap variable (sym e))) ]);
  names = one_of (Contains M) (support (close zero (variable (in_terms y)) F)) (λ b m. f.names b (support-close zero (variable (in_terms y)) F b m).0);
}

pub known_exist_all : (P : tree.Variable ℕ → Type 0) (M : List Nominal) (ys : List Variable) (F : Read) → Known (λ z. P z ⊎ Contains (map in_terms ys) z) M F → Known P M (exists_all ys F)
known_exist_all P M [] F f = record { over = λ z m. elim (f.over z m) [ inl p ↦ p | inr n ↦ absurd (Contains-none z n) ]; names = f.names }
known_exist_all P M (y ∷ ys) F f =
    known_exists P M y (exists_all ys F)
    (known_exist_all (λ z. P z ⊎ (in_terms y ≡ z)) M ys F
    (record {
      over = λ z m. elim (f.over z m) [
        | inl p ↦ inl (inl p)
        | inr c ↦ elim (Contains-cases (in_terms y) (map in_terms ys) z c) [ inl e ↦ inl (inr e) | inr n ↦ inr n ]
      ];
      names = f.names;
    }))

-- what is put in for variables

pub known_image : (P Q : tree.Variable ℕ → Type 0) (M : List Nominal) (f : tree.Variable ℕ → Option Read) → ((y : tree.Variable ℕ) (u : Read) → f y ≡ Some u → Known Q M u) → ((y : tree.Variable ℕ) → f y ≡ None → P y → Q y)
    → (t : Read) → Known P M t → Known Q M (image_by f t)
known_image P Q M f values stays t a = record {
  over = λ y m. elim (variables-image f t y m) [ inl b ↦ stays y b.1 (a.over y b.0) | inr b ↦ (values b.0 b.1 (b.2).1).over y b.3 ];
  names = λ n m. elim (support-image f t n m) [ inl b ↦ a.names n b | inr b ↦ (values b.0 b.1 (b.2).1).names n b.3 ];
}
