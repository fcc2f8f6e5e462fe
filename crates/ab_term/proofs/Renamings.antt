-- Renaming nominal constants goes through every operation, and keeps types where each constant keeps its own.
use Rattle.std.proofs.Common.{◌≡◌, ℕ, zero, suc, List, [], ◌∷◌, ◌++◌, map, Bool, true, false, Option, Some, None, option_map, refl, sym, ◌∙◌, ap}
use Rattle.std.specs.Prelude.{cond}
use Rattle.ab_term.specs.Types.{Ty, kind, arrow}
use Rattle.ab_term.specs.Terms.{Nominal, Variable, Head, constant, logical, nominal, variable, index, Term, lam, spine, Terms, no_terms, term, with_last}
use Rattle.ab_term.specs.Typing.{Signature, head_type, HasType, TakeType, typed_lam, typed_spine, take_none, take_term}
use Rattle.ab_term.specs.Substitution.{shift_head, shift, shift_all, lower_index, lower_head, put, substitute_by, substitute_all_by, reduce, substitute, instance}
use Rattle.ab_term.specs.Expansion.{expansion_of, expansion}
use Rattle.ab_term.specs.Names.{support_of_head, support, support_of_all, rename_head, rename, rename_all}
use Rattle.ab_term.specs.Variables.{put_for, put_at, image_by, image_all_by, Substitution, same_variable, value_in, image}
use Rattle.ab_term.proofs.Translations.{map-append}

lower_index-rename : (Var : Type 0) (m : Nominal → Nominal) (o : Option ℕ) → option_map {U = Head Var} index o ≡ option_map (rename_head m) (option_map index o)
lower_index-rename Var m None = refl
lower_index-rename Var m (Some i) = refl

-- each constant keeps its type
abbrev pub KeepsTypes : (Nominal → Nominal) → Type 0
KeepsTypes m = (a : Nominal) → (m a).type ≡ a.type

module _ {Var : Type 0} (m : Nominal → Nominal) where
  rename_head-shift : (k : ℕ) (h : Head Var) → rename_head m (shift_head k h) ≡ shift_head k (rename_head m h)
  rename_head-shift k (constant c) = refl
  rename_head-shift k (logical l) = refl
  rename_head-shift k (nominal a) = refl
  rename_head-shift k (variable x) = refl
  rename_head-shift k (index i) = refl

  rename_head-lower : (k : ℕ) (h : Head Var) → lower_head k (rename_head m h) ≡ option_map (rename_head m) (lower_head k h)
  rename_head-lower k (constant c) = refl
  rename_head-lower k (logical l) = refl
  rename_head-lower k (nominal a) = refl
  rename_head-lower k (variable x) = refl
  rename_head-lower k (index i) = lower_index-rename Var m (lower_index k i)

  head_type-rename : KeepsTypes m → (sg : Signature) (G : List Ty) (h : Head Var) → head_type sg G (rename_head m h) ≡ head_type sg G h
  head_type-rename keeps sg G (constant c) = refl
  head_type-rename keeps sg G (logical l) = refl
  head_type-rename keeps sg G (nominal a) = ap Some (keeps a)
  head_type-rename keeps sg G (variable x) = refl
  head_type-rename keeps sg G (index i) = refl

  support-rename_head : (h : Head Var) → support_of_head (rename_head m h) ≡ map m (support_of_head h)
  support-rename_head (constant c) = refl
  support-rename_head (logical l) = refl
  support-rename_head (nominal a) = refl
  support-rename_head (variable x) = refl
  support-rename_head (index i) = refl

module _ {Var Hint : Type 0} (m : Nominal → Nominal) where
  mutual
    pub rename-shift : (t : Term Var Hint) (k : ℕ) → rename m (shift k t) ≡ shift k (rename m t)
    rename-shift (lam A x t) k = ap (lam A x) (rename-shift t (suc k))
    rename-shift (spine h ts) k = ap (λ e. spine e (rename_all m (shift_all k ts))) (rename_head-shift m k h) ∙ ap (spine (shift_head k (rename_head m h))) (rename_all-shift ts k)

    rename_all-shift : (ts : Terms Var Hint) (k : ℕ) → rename_all m (shift_all k ts) ≡ shift_all k (rename_all m ts)
    rename_all-shift no_terms k = refl
    rename_all-shift (term t ts) k = ap (λ s. term s (rename_all m (shift_all k ts))) (rename-shift t k) ∙ ap (term (shift k (rename m t))) (rename_all-shift ts k)

  -- a renaming goes through r
  abbrev RenamesThrough : (Term Var Hint → Terms Var Hint → Term Var Hint) → Type 0
  RenamesThrough r = (u : Term Var Hint) (ts : Terms Var Hint) → rename m (r u ts) ≡ r (rename m u) (rename_all m ts)

  rename-put : (r : Term Var Hint → Terms Var Hint → Term Var Hint) → RenamesThrough r → (u : Term Var Hint) (o : Option (Head Var)) (ts : Terms Var Hint)
      → rename m (put r u o ts) ≡ put r (rename m u) (option_map (rename_head m) o) (rename_all m ts)
  rename-put r thr u None ts = thr u ts
  rename-put r thr u (Some h) ts = refl

  mutual
    rename-substitute_by : (t : Term Var Hint) (r : Term Var Hint → Terms Var Hint → Term Var Hint) → RenamesThrough r → (u : Term Var Hint) (k : ℕ) → rename m (substitute_by r u k t) ≡ substitute_by r (rename m u) k (rename m t)
    rename-substitute_by (lam A x t) r thr u k = ap (lam A x) (rename-substitute_by t r thr (shift zero u) (suc k) ∙ ap (λ v. substitute_by r v (suc k) (rename m t)) (rename-shift u zero))
    rename-substitute_by (spine h ts) r thr u k =
        rename-put r thr u (lower_head k h) (substitute_all_by r u k ts)
        ∙ ap (λ o. put r (rename m u) o (rename_all m (substitute_all_by r u k ts))) (sym (rename_head-lower m k h))
        ∙ ap (put r (rename m u) (lower_head k (rename_head m h))) (rename_all-substitute_by ts r thr u k)

    rename_all-substitute_by : (ts : Terms Var Hint) (r : Term Var Hint → Terms Var Hint → Term Var Hint) → RenamesThrough r → (u : Term Var Hint) (k : ℕ) → rename_all m (substitute_all_by r u k ts) ≡ substitute_all_by r (rename m u) k (rename_all m ts)
    rename_all-substitute_by no_terms r thr u k = refl
    rename_all-substitute_by (term t ts) r thr u k =
        ap (λ s. term s (rename_all m (substitute_all_by r u k ts))) (rename-substitute_by t r thr u k)
        ∙ ap (term (substitute_by r (rename m u) k (rename m t))) (rename_all-substitute_by ts r thr u k)

  pub rename-reduce : (A : Ty) → RenamesThrough (reduce A)
  rename-reduce (kind c) u ts = refl
  rename-reduce (arrow A B) (lam C x t) no_terms = refl
  rename-reduce (arrow A B) (lam C x t) (term v vs) =
      rename-reduce B (substitute A v zero t) vs ∙ ap (λ s. reduce B s (rename_all m vs)) (rename-substitute_by t (reduce A) (rename-reduce A) v zero)
  rename-reduce (arrow A B) (spine h ss) ts = refl

  pub rename-substitute : (A : Ty) (u : Term Var Hint) (k : ℕ) (t : Term Var Hint) → rename m (substitute A u k t) ≡ substitute A (rename m u) k (rename m t)
  rename-substitute A u k t = rename-substitute_by t (reduce A) (rename-reduce A) u k

  pub rename-instance : (t u : Term Var Hint) → rename m (instance t u) ≡ instance (rename m t) (rename m u)
  rename-instance (lam A x t) u = rename-substitute A u zero t
  rename-instance (spine h ts) u = refl

  rename_all-with_last : (ts : Terms Var Hint) (t : Term Var Hint) → rename_all m (with_last ts t) ≡ with_last (rename_all m ts) (rename m t)
  rename_all-with_last no_terms t = refl
  rename_all-with_last (term s ts) t = ap (term (rename m s)) (rename_all-with_last ts t)

  pub rename-expansion_of : (x : Hint) (A : Ty) (h : Head Var) (ts : Terms Var Hint) → rename m (expansion_of x A h ts) ≡ expansion_of x A (rename_head m h) (rename_all m ts)
  rename-expansion_of x (kind c) h ts = refl
  rename-expansion_of x (arrow A B) h ts = ap (lam A x)
      (rename-expansion_of x B (shift_head zero h) (with_last (shift_all zero ts) (expansion x A (index zero)))
      ∙ ap (λ e. expansion_of x B e (rename_all m (with_last (shift_all zero ts) (expansion x A (index zero))))) (rename_head-shift m zero h)
      ∙ ap (expansion_of x B (shift_head zero (rename_head m h)))
      (rename_all-with_last (shift_all zero ts) (expansion x A (index zero))
      ∙ ap (λ l. with_last l (rename m (expansion x A (index zero)))) (rename_all-shift ts zero)
      ∙ ap (with_last (shift_all zero (rename_all m ts))) (rename-expansion_of x A (index zero) no_terms)))

  mutual
    pub support-rename : (t : Term Var Hint) → support (rename m t) ≡ map m (support t)
    support-rename (lam A x t) = support-rename t
    support-rename (spine h ts) =
        ap (λ l. l ++ support_of_all (rename_all m ts)) (support-rename_head m h)
        ∙ ap (λ l. map m (support_of_head h) ++ l) (support-rename_all ts)
        ∙ sym (map-append m (support_of_head h) (support_of_all ts))

    support-rename_all : (ts : Terms Var Hint) → support_of_all (rename_all m ts) ≡ map m (support_of_all ts)
    support-rename_all no_terms = refl
    support-rename_all (term t ts) =
        ap (λ l. l ++ support_of_all (rename_all m ts)) (support-rename t)
        ∙ ap (λ l. map m (support t) ++ l) (support-rename_all ts)
        ∙ sym (map-append m (support t) (support_of_all ts))

  -- a renamed variable substitution, at a renamed term
  put_for-rename : (x : Variable Var) (o : Option (Term Var Hint)) (ts : Terms Var Hint) → rename m (put_for x o ts) ≡ put_for x (option_map (rename m) o) (rename_all m ts)
  put_for-rename x None ts = refl
  put_for-rename x (Some u) ts = rename-reduce x.type u ts

  put_at-rename : (f : Variable Var → Option (Term Var Hint)) (h : Head Var) (ts : Terms Var Hint) → rename m (put_at f h ts) ≡ put_at (λ x. option_map (rename m) (f x)) (rename_head m h) (rename_all m ts)
  put_at-rename f (constant c) ts = refl
  put_at-rename f (logical l) ts = refl
  put_at-rename f (nominal a) ts = refl
  put_at-rename f (variable x) ts = put_for-rename x (f x) ts
  put_at-rename f (index i) ts = refl

  mutual
    pub rename-image_by : (f : Variable Var → Option (Term Var Hint)) (t : Term Var Hint) → rename m (image_by f t) ≡ image_by (λ x. option_map (rename m) (f x)) (rename m t)
    rename-image_by f (lam A x t) = ap (lam A x) (rename-image_by f t)
    rename-image_by f (spine h ts) = put_at-rename f h (image_all_by f ts) ∙ ap (put_at (λ x. option_map (rename m) (f x)) (rename_head m h)) (rename_all-image_by f ts)

    rename_all-image_by : (f : Variable Var → Option (Term Var Hint)) (ts : Terms Var Hint) → rename_all m (image_all_by f ts) ≡ image_all_by (λ x. option_map (rename m) (f x)) (rename_all m ts)
    rename_all-image_by f no_terms = refl
    rename_all-image_by f (term t ts) =
        ap (λ s. term s (rename_all m (image_all_by f ts))) (rename-image_by f t) ∙ ap (term (image_by (λ x. option_map (rename m) (f x)) (rename m t))) (rename_all-image_by f ts)

-- each term of a substitution renamed
abbrev pub renamed : {Var Hint : Type 0} → (Nominal → Nominal) → Substitution Var Hint → Substitution Var Hint
renamed m = map (λ p. (p.0, rename m p.1))

module _ {Var Hint : Type 0} (same : Var → Var → Bool) (m : Nominal → Nominal) where
  value_in-renamed : (s : Substitution Var Hint) (x : Variable Var) → value_in same (renamed m s) x ≡ option_map (rename m) (value_in same s x)
  value_in-renamed [] x = refl
  value_in-renamed (p ∷ s) x = go (value_in-renamed s x) (same_variable same p.0 x)
    where
      go : value_in same (renamed m s) x ≡ option_map (rename m) (value_in same s x) → (b : Bool) → cond b (Some (rename m p.1)) (value_in same (renamed m s) x) ≡ option_map (rename m) (cond b (Some p.1) (value_in same s x))
      go rest true = refl
      go rest false = rest

  pub rename-image : (s : Substitution Var Hint) (t : Term Var Hint) → rename m (image same s t) ≡ image same (renamed m s) (rename m t)
  rename-image s t = rename-image_by m (value_in same s) t ∙ ap (λ f. image_by f (rename m t)) (λ i x. sym (value_in-renamed s x) i)

module _ (sg : Signature) {Var Hint : Type 0} (m : Nominal → Nominal) (keeps : KeepsTypes m) where
  mutual
    pub rename_typed : {G : List Ty} {t : Term Var Hint} {A : Ty} → HasType sg G t A → HasType sg G (rename m t) A
    rename_typed (typed_lam d) = typed_lam (rename_typed d)
    rename_typed {G = G} (typed_spine {h = h} e ds) = typed_spine (head_type-rename m keeps sg G h ∙ e) (rename_all_typed ds)

    rename_all_typed : {G : List Ty} {ts : Terms Var Hint} {A B : Ty} → TakeType sg G ts A B → TakeType sg G (rename_all m ts) A B
    rename_all_typed take_none = take_none
    rename_all_typed (take_term d ds) = take_term (rename_typed d) (rename_all_typed ds)
