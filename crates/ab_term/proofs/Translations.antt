-- Other variables and hints go through every operation on terms.
use Rattle.std.proofs.Common.{◌≡◌, ℕ, zero, suc, max, ◌-◌, List, [], ◌∷◌, ◌++◌, map, Option, Some, None, option_map, refl, sym, ◌∙◌, ap}
use Rattle.ab_term.specs.Types.{Ty, kind, arrow}
use Rattle.ab_term.specs.Terms.{Nominal, Head, constant, logical, nominal, variable, index, Term, lam, spine, Terms, no_terms, term, with_last}
use Rattle.ab_term.specs.Typing.{Signature, head_type, HasType, TakeType, typed_lam, typed_spine, take_none, take_term}
use Rattle.ab_term.specs.Substitution.{shift_head, shift, shift_all, lower_index, lower_head, put, substitute_by, substitute_all_by, reduce, substitute, instance, instance_by_all}
use Rattle.ab_term.specs.Expansion.{expansion_of, expansion}
use Rattle.ab_term.specs.Translation.{translate_variable, translate_head, translate, translate_all}
use Rattle.ab_term.specs.Names.{support_of_head, support, support_of_all, rename_head, rename, rename_all}
use Rattle.ab_term.specs.Variables.{variables_of_head, variables, variables_of_all}
use Rattle.ab_term.specs.Reach.{head_reach, reach, reach_of_all}

lower_index-translate : {Var New : Type 0} (f : Var → New) (o : Option ℕ) → option_map index o ≡ option_map (translate_head f) (option_map index o)
lower_index-translate f None = refl
lower_index-translate f (Some i) = refl

pub map-append : {X Y : Type 0} (f : X → Y) (xs ys : List X) → map f (xs ++ ys) ≡ map f xs ++ map f ys
map-append f [] ys = refl
map-append f (x ∷ xs) ys = ap (λ zs. f x ∷ zs) (map-append f xs ys)

module _ {Var New : Type 0} (f : Var → New) where
  translate_head-shift : (k : ℕ) (h : Head Var) → translate_head f (shift_head k h) ≡ shift_head k (translate_head f h)
  translate_head-shift k (constant c) = refl
  translate_head-shift k (logical l) = refl
  translate_head-shift k (nominal a) = refl
  translate_head-shift k (variable x) = refl
  translate_head-shift k (index i) = refl

  translate_head-lower : (k : ℕ) (h : Head Var) → lower_head k (translate_head f h) ≡ option_map (translate_head f) (lower_head k h)
  translate_head-lower k (constant c) = refl
  translate_head-lower k (logical l) = refl
  translate_head-lower k (nominal a) = refl
  translate_head-lower k (variable x) = refl
  translate_head-lower k (index i) = lower_index-translate f (lower_index k i)

  head_type-translate : (sg : Signature) (G : List Ty) (h : Head Var) → head_type sg G (translate_head f h) ≡ head_type sg G h
  head_type-translate sg G (constant c) = refl
  head_type-translate sg G (logical l) = refl
  head_type-translate sg G (nominal a) = refl
  head_type-translate sg G (variable x) = refl
  head_type-translate sg G (index i) = refl

  support-translate_head : (h : Head Var) → support_of_head (translate_head f h) ≡ support_of_head h
  support-translate_head (constant c) = refl
  support-translate_head (logical l) = refl
  support-translate_head (nominal a) = refl
  support-translate_head (variable x) = refl
  support-translate_head (index i) = refl

  reach-translate_head : (h : Head Var) → head_reach (translate_head f h) ≡ head_reach h
  reach-translate_head (constant c) = refl
  reach-translate_head (logical l) = refl
  reach-translate_head (nominal a) = refl
  reach-translate_head (variable x) = refl
  reach-translate_head (index i) = refl

  variables-translate_head : (h : Head Var) → variables_of_head (translate_head f h) ≡ map (translate_variable f) (variables_of_head h)
  variables-translate_head (constant c) = refl
  variables-translate_head (logical l) = refl
  variables-translate_head (nominal a) = refl
  variables-translate_head (variable x) = refl
  variables-translate_head (index i) = refl

  translate_head-rename : (m : Nominal → Nominal) (h : Head Var) → translate_head f (rename_head m h) ≡ rename_head m (translate_head f h)
  translate_head-rename m (constant c) = refl
  translate_head-rename m (logical l) = refl
  translate_head-rename m (nominal a) = refl
  translate_head-rename m (variable x) = refl
  translate_head-rename m (index i) = refl

module _ {Var Hint New NewHint : Type 0} (f : Var → New) (g : Hint → NewHint) where
  mutual
    pub translate-shift : (t : Term Var Hint) (k : ℕ) → translate f g (shift k t) ≡ shift k (translate f g t)
    translate-shift (lam A x t) k = ap (lam A (g x)) (translate-shift t (suc k))
    translate-shift (spine h ts) k = ap (λ e. spine e (translate_all f g (shift_all k ts))) (translate_head-shift f k h) ∙ ap (spine (shift_head k (translate_head f h))) (translate_all-shift ts k)

    pub translate_all-shift : (ts : Terms Var Hint) (k : ℕ) → translate_all f g (shift_all k ts) ≡ shift_all k (translate_all f g ts)
    translate_all-shift no_terms k = refl
    translate_all-shift (term t ts) k = ap (λ s. term s (translate_all f g (shift_all k ts))) (translate-shift t k) ∙ ap (term (shift k (translate f g t))) (translate_all-shift ts k)

  -- the second way to apply a term does on translations what the first does
  abbrev pub TranslatesTo : (Term Var Hint → Terms Var Hint → Term Var Hint) → (Term New NewHint → Terms New NewHint → Term New NewHint) → Type 0
  TranslatesTo r q = (u : Term Var Hint) (ts : Terms Var Hint) → translate f g (r u ts) ≡ q (translate f g u) (translate_all f g ts)

  translate-put : (r : Term Var Hint → Terms Var Hint → Term Var Hint) (q : Term New NewHint → Terms New NewHint → Term New NewHint) → TranslatesTo r q → (u : Term Var Hint) (o : Option (Head Var)) (ts : Terms Var Hint)
      → translate f g (put r u o ts) ≡ put q (translate f g u) (option_map (translate_head f) o) (translate_all f g ts)
  translate-put r q rq u None ts = rq u ts
  translate-put r q rq u (Some h) ts = refl

  mutual
    translate-substitute_by : (t : Term Var Hint) (r : Term Var Hint → Terms Var Hint → Term Var Hint) (q : Term New NewHint → Terms New NewHint → Term New NewHint) → TranslatesTo r q → (u : Term Var Hint) (k : ℕ)
        → translate f g (substitute_by r u k t) ≡ substitute_by q (translate f g u) k (translate f g t)
    translate-substitute_by (lam A x t) r q rq u k =
        ap (lam A (g x)) (translate-substitute_by t r q rq (shift zero u) (suc k) ∙ ap (λ v. substitute_by q v (suc k) (translate f g t)) (translate-shift u zero))
    translate-substitute_by (spine h ts) r q rq u k =
        translate-put r q rq u (lower_head k h) (substitute_all_by r u k ts)
        ∙ ap (λ o. put q (translate f g u) o (translate_all f g (substitute_all_by r u k ts))) (sym (translate_head-lower f k h))
        ∙ ap (put q (translate f g u) (lower_head k (translate_head f h))) (translate_all-substitute_by ts r q rq u k)

    translate_all-substitute_by : (ts : Terms Var Hint) (r : Term Var Hint → Terms Var Hint → Term Var Hint) (q : Term New NewHint → Terms New NewHint → Term New NewHint) → TranslatesTo r q → (u : Term Var Hint) (k : ℕ)
        → translate_all f g (substitute_all_by r u k ts) ≡ substitute_all_by q (translate f g u) k (translate_all f g ts)
    translate_all-substitute_by no_terms r q rq u k = refl
    translate_all-substitute_by (term t ts) r q rq u k =
        ap (λ s. term s (translate_all f g (substitute_all_by r u k ts))) (translate-substitute_by t r q rq u k)
        ∙ ap (term (substitute_by q (translate f g u) k (translate f g t))) (translate_all-substitute_by ts r q rq u k)

  pub translate-reduce : (A : Ty) → TranslatesTo (reduce A) (reduce A)
  translate-reduce (kind c) u ts = refl
  translate-reduce (arrow A B) (lam C x t) no_terms = refl
  translate-reduce (arrow A B) (lam C x t) (term v vs) =
      translate-reduce B (substitute A v zero t) vs ∙ ap (λ s. reduce B s (translate_all f g vs)) (translate-substitute_by t (reduce A) (reduce A) (translate-reduce A) v zero)
  translate-reduce (arrow A B) (spine h ss) ts = refl

  pub translate-substitute : (A : Ty) (u : Term Var Hint) (k : ℕ) (t : Term Var Hint) → translate f g (substitute A u k t) ≡ substitute A (translate f g u) k (translate f g t)
  translate-substitute A u k t = translate-substitute_by t (reduce A) (reduce A) (translate-reduce A) u k

  pub translate-instance : (t u : Term Var Hint) → translate f g (instance t u) ≡ instance (translate f g t) (translate f g u)
  translate-instance (lam A x t) u = translate-substitute A u zero t
  translate-instance (spine h ts) u = refl

  pub translate-instance_by_all : (us : List (Term Var Hint)) (t : Term Var Hint) → translate f g (instance_by_all t us) ≡ instance_by_all (translate f g t) (map (translate f g) us)
  translate-instance_by_all [] t = refl
  translate-instance_by_all (u ∷ us) t = translate-instance_by_all us (instance t u) ∙ ap (λ s. instance_by_all s (map (translate f g) us)) (translate-instance t u)

  pub translate_all-with_last : (ts : Terms Var Hint) (t : Term Var Hint) → translate_all f g (with_last ts t) ≡ with_last (translate_all f g ts) (translate f g t)
  translate_all-with_last no_terms t = refl
  translate_all-with_last (term s ts) t = ap (term (translate f g s)) (translate_all-with_last ts t)

  pub translate-expansion_of : (x : Hint) (A : Ty) (h : Head Var) (ts : Terms Var Hint) → translate f g (expansion_of x A h ts) ≡ expansion_of (g x) A (translate_head f h) (translate_all f g ts)
  translate-expansion_of x (kind c) h ts = refl
  translate-expansion_of x (arrow A B) h ts = ap (lam A (g x))
      (translate-expansion_of x B (shift_head zero h) (with_last (shift_all zero ts) (expansion x A (index zero)))
      ∙ ap (λ e. expansion_of (g x) B e (translate_all f g (with_last (shift_all zero ts) (expansion x A (index zero))))) (translate_head-shift f zero h)
      ∙ ap (expansion_of (g x) B (shift_head zero (translate_head f h)))
      (translate_all-with_last (shift_all zero ts) (expansion x A (index zero))
      ∙ ap (λ l. with_last l (translate f g (expansion x A (index zero)))) (translate_all-shift ts zero)
      ∙ ap (with_last (shift_all zero (translate_all f g ts))) (translate-expansion_of x A (index zero) no_terms)))

  pub translate-expansion : (x : Hint) (A : Ty) (h : Head Var) → translate f g (expansion x A h) ≡ expansion (g x) A (translate_head f h)
  translate-expansion x A h = translate-expansion_of x A h no_terms

  mutual
    pub support-translate : (t : Term Var Hint) → support (translate f g t) ≡ support t
    support-translate (lam A x t) = support-translate t
    support-translate (spine h ts) = ap (λ l. l ++ support_of_all (translate_all f g ts)) (support-translate_head f h) ∙ ap (λ l. support_of_head h ++ l) (support-translate_all ts)

    support-translate_all : (ts : Terms Var Hint) → support_of_all (translate_all f g ts) ≡ support_of_all ts
    support-translate_all no_terms = refl
    support-translate_all (term t ts) = ap (λ l. l ++ support_of_all (translate_all f g ts)) (support-translate t) ∙ ap (λ l. support t ++ l) (support-translate_all ts)

  mutual
    pub reach-translate : (t : Term Var Hint) → reach (translate f g t) ≡ reach t
    reach-translate (lam A x t) = ap (λ n. n - 1) (reach-translate t)
    reach-translate (spine h ts) = ap (λ n. max n (reach_of_all (translate_all f g ts))) (reach-translate_head f h) ∙ ap (max (head_reach h)) (reach-translate_all ts)

    reach-translate_all : (ts : Terms Var Hint) → reach_of_all (translate_all f g ts) ≡ reach_of_all ts
    reach-translate_all no_terms = refl
    reach-translate_all (term t ts) = ap (λ n. max n (reach_of_all (translate_all f g ts))) (reach-translate t) ∙ ap (max (reach t)) (reach-translate_all ts)

  mutual
    pub variables-translate : (t : Term Var Hint) → variables (translate f g t) ≡ map (translate_variable f) (variables t)
    variables-translate (lam A x t) = variables-translate t
    variables-translate (spine h ts) =
        ap (λ l. l ++ variables_of_all (translate_all f g ts)) (variables-translate_head f h)
        ∙ ap (λ l. map (translate_variable f) (variables_of_head h) ++ l) (variables-translate_all ts)
        ∙ sym (map-append (translate_variable f) (variables_of_head h) (variables_of_all ts))

    variables-translate_all : (ts : Terms Var Hint) → variables_of_all (translate_all f g ts) ≡ map (translate_variable f) (variables_of_all ts)
    variables-translate_all no_terms = refl
    variables-translate_all (term t ts) =
        ap (λ l. l ++ variables_of_all (translate_all f g ts)) (variables-translate t)
        ∙ ap (λ l. map (translate_variable f) (variables t) ++ l) (variables-translate_all ts)
        ∙ sym (map-append (translate_variable f) (variables t) (variables_of_all ts))

  mutual
    pub translate-rename : (m : Nominal → Nominal) (t : Term Var Hint) → translate f g (rename m t) ≡ rename m (translate f g t)
    translate-rename m (lam A x t) = ap (lam A (g x)) (translate-rename m t)
    translate-rename m (spine h ts) = ap (λ e. spine e (translate_all f g (rename_all m ts))) (translate_head-rename f m h) ∙ ap (spine (rename_head m (translate_head f h))) (translate_all-rename m ts)

    translate_all-rename : (m : Nominal → Nominal) (ts : Terms Var Hint) → translate_all f g (rename_all m ts) ≡ rename_all m (translate_all f g ts)
    translate_all-rename m no_terms = refl
    translate_all-rename m (term t ts) = ap (λ s. term s (translate_all f g (rename_all m ts))) (translate-rename m t) ∙ ap (term (rename m (translate f g t))) (translate_all-rename m ts)

module _ (sg : Signature) {Var Hint New NewHint : Type 0} (f : Var → New) (g : Hint → NewHint) where
  mutual
    pub translate_typed : {G : List Ty} {t : Term Var Hint} {A : Ty} → HasType sg G t A → HasType sg G (translate f g t) A
    translate_typed (typed_lam d) = typed_lam (translate_typed d)
    translate_typed {G = G} (typed_spine {h = h} e ds) = typed_spine (head_type-translate f sg G h ∙ e) (translate_all_typed ds)

    pub translate_all_typed : {G : List Ty} {ts : Terms Var Hint} {A B : Ty} → TakeType sg G ts A B → TakeType sg G (translate_all f g ts) A B
    translate_all_typed take_none = take_none
    translate_all_typed (take_term d ds) = take_term (translate_typed d) (translate_all_typed ds)

  mutual
    pub typed_before : (t : Term Var Hint) {G : List Ty} {A : Ty} → HasType sg G (translate f g t) A → HasType sg G t A
    typed_before (lam B x t) (typed_lam d) = typed_lam (typed_before t d)
    typed_before (spine h ts) {G = G} (typed_spine e ds) = typed_spine (sym (head_type-translate f sg G h) ∙ e) (all_typed_before ts ds)

    pub all_typed_before : (ts : Terms Var Hint) {G : List Ty} {A B : Ty} → TakeType sg G (translate_all f g ts) A B → TakeType sg G ts A B
    all_typed_before no_terms take_none = take_none
    all_typed_before (term t ts) (take_term d ds) = take_term (typed_before t d) (all_typed_before ts ds)
