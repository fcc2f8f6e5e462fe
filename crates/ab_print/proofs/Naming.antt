-- Names in the place of what stands for variables go through everything that is printed of a term.
use Rattle.std.specs.Prelude.{unwrap_or, if◌then◌else◌, nat_lt, option_map}
use Rattle.std.proofs.Common.{◌≡◌, ℕ, zero, suc, ◌-◌, ◌==◌, List, [], ◌∷◌, ◌++◌, map, Bool, true, false, ◌&&◌, Option, Some, None, refl, sym, ap, ◌∙◌, subst}
use Rattle.std.specs.List.{filter_map, cons_option}
use Rattle.std.proofs.lemmas.List.{map-append}
use Rattle.ab_term.specs.Terms.{Head, constant, logical, nominal, variable, index, Term, lam, spine, Terms, no_terms, term}
use Rattle.ab_term.specs.Substitution.{lower_head, lower_index}
use Rattle.ab_term.specs.Translation.{translate_head, translate, translate_all}
use Rattle.ab_print.specs.Shapes as shape
use Rattle.ab_print.specs.Shapes.{Shape, abstraction, Shapes, no_shapes}
use Rattle.ab_print.specs.PrintedNames.{name_of, free_heads, free_heads_of_all, fresh}
use Rattle.ab_print.specs.NameAssignment.{are_last, is_bound_name, outside, alone, head_form, name_form, names_in, bound_name, contracted, takes_binder, named, named_all, printed}

module _ {Var : Type 0} (f : Var → List ℕ) where
  abbrev renamed : Head Var → Head (List ℕ)
  renamed = translate_head f

  abbrev told : Term Var (List ℕ) → Term (List ℕ) (List ℕ)
  told = translate f (λ x. x)

  abbrev told_all : Terms Var (List ℕ) → Terms (List ℕ) (List ℕ)
  told_all = translate_all f (λ x. x)

  same_name : (names : List (List ℕ)) (h : Head Var) → name_of (λ x. x) names (renamed h) ≡ name_of f names h
  same_name names (constant c) = refl
  same_name names (logical l) = refl
  same_name names (nominal a) = refl
  same_name names (variable x) = refl
  same_name [] (index i) = refl
  same_name (y ∷ names) (index zero) = refl
  same_name (y ∷ names) (index (suc i)) = same_name names (index i)

  renamed_index : (o : Option ℕ) → option_map index o ≡ option_map renamed (option_map index o)
  renamed_index None = refl
  renamed_index (Some i) = refl

  lowered : (k : ℕ) (h : Head Var) → lower_head k (renamed h) ≡ option_map renamed (lower_head k h)
  lowered k (constant c) = refl
  lowered k (logical l) = refl
  lowered k (nominal a) = refl
  lowered k (variable x) = refl
  lowered k (index i) = renamed_index (lower_index k i)

  lowered_front : (o : Option (Head Var)) (hs : List (Head Var)) → cons_option (option_map renamed o) (map renamed hs) ≡ map renamed (cons_option o hs)
  lowered_front None hs = refl
  lowered_front (Some h) hs = refl

  lowered_all : (hs : List (Head Var)) → filter_map (lower_head zero) (map renamed hs) ≡ map renamed (filter_map (lower_head zero) hs)
  lowered_all [] = refl
  lowered_all (h ∷ hs) =
      ap (λ o. cons_option o (filter_map (lower_head zero) (map renamed hs))) (lowered zero h)
      ∙ (ap (cons_option (option_map renamed (lower_head zero h))) (lowered_all hs) ∙ lowered_front (lower_head zero h) (filter_map (lower_head zero) hs))

  names_told : (names : List (List ℕ)) (hs : List (Head Var)) → names_in (λ x. x) names (map renamed hs) ≡ names_in f names hs
  names_told names [] = refl
  names_told names (h ∷ hs) =
      ap (λ o. cons_option o (names_in (λ x. x) names (map renamed hs))) (same_name names h) ∙ ap (cons_option (name_of f names h)) (names_told names hs)

  mutual
    free_told : (t : Term Var (List ℕ)) → free_heads (told t) ≡ map renamed (free_heads t)
    free_told (lam A x t) = ap (filter_map (lower_head zero)) (free_told t) ∙ lowered_all (free_heads t)
    free_told (spine h ts) = ap (λ q. renamed h ∷ q) (free_all_told ts)

    free_all_told : (ts : Terms Var (List ℕ)) → free_heads_of_all (told_all ts) ≡ map renamed (free_heads_of_all ts)
    free_all_told no_terms = refl
    free_all_told (term t ts) =
        ap (λ q. q ++ free_heads_of_all (told_all ts)) (free_told t)
        ∙ (ap (λ q. map renamed (free_heads t) ++ q) (free_all_told ts) ∙ sym (map-append renamed (free_heads t) (free_heads_of_all ts)))

  bound_told : (names : List (List ℕ)) (x : List ℕ) (t : Term Var (List ℕ)) → bound_name (λ y. y) names x (told t) ≡ bound_name f names x t
  bound_told names x t =
      ap (λ q. fresh q x) (ap (λ q. names_in (λ y. y) names (filter_map (lower_head zero) q)) (free_told t)
      ∙ (ap (names_in (λ y. y) names) (lowered_all (free_heads t)) ∙ names_told names (filter_map (lower_head zero) (free_heads t))))

  mutual
    last_told : (n : ℕ) (ts : Terms Var (List ℕ)) → are_last n (told_all ts) ≡ are_last n ts
    last_told zero no_terms = refl
    last_told zero (term t ts) = refl
    last_told (suc n) no_terms = refl
    last_told (suc n) (term t ts) = ap (λ b. b && are_last n (told_all ts)) (bound_name_told zero n t) ∙ ap (λ b. is_bound_name zero n t && b) (last_told n ts)

    bound_name_told : (n k : ℕ) (t : Term Var (List ℕ)) → is_bound_name n k (told t) ≡ is_bound_name n k t
    bound_name_told n k (lam A x t) = bound_name_told (suc n) (suc k) t
    bound_name_told n k (spine (index i) ts) = ap (λ b. (i == k) && b) (last_told n ts)
    bound_name_told n k (spine (constant c) ts) = refl
    bound_name_told n k (spine (logical l) ts) = refl
    bound_name_told n k (spine (nominal a) ts) = refl
    bound_name_told n k (spine (variable x) ts) = refl

  chosen : (b : Bool) (o : Option (Head Var)) (p : Option (Head (List ℕ))) → p ≡ option_map renamed o
      → (if b then p else None) ≡ option_map renamed (if b then o else None)
  chosen true o p e = e
  chosen false o p e = refl

  unless : (b : Bool) (h : Head Var) → (if b then None else Some (renamed h)) ≡ option_map renamed (if b then None else Some h)
  unless true h = refl
  unless false h = refl

  outside_told : (n : ℕ) (h : Head Var) → outside n (renamed h) ≡ option_map renamed (outside n h)
  outside_told n (constant c) = refl
  outside_told n (logical l) = refl
  outside_told n (nominal a) = refl
  outside_told n (variable x) = refl
  outside_told n (index i) = unless (nat_lt i n) (index (i - n))

  alone_told : (n : ℕ) (t : Term Var (List ℕ)) → alone n (told t) ≡ option_map renamed (alone n t)
  alone_told n (lam A x t) = alone_told (suc n) t
  alone_told n (spine h ts) =
      ap (λ (b : Bool). if b then (outside n (renamed h)) else None) (last_told n ts) ∙ chosen (are_last n ts) (outside n h) (outside n (renamed h)) (outside_told n h)

  form_told : (names : List (List ℕ)) (h : Head Var) (ss : Shapes) → head_form (λ x. x) names (renamed h) ss ≡ head_form f names h ss
  form_told names (constant c) ss = refl
  form_told names (logical l) ss = refl
  form_told names (nominal a) ss = refl
  form_told names (variable x) ss = refl
  form_told names (index i) ss = ap (λ o. name_form (unwrap_or o []) ss) (same_name names (index i))

  binder_told : (h : Head Var) → takes_binder (renamed h) ≡ takes_binder h
  binder_told (constant c) = refl
  binder_told (logical l) = refl
  binder_told (nominal a) = refl
  binder_told (variable x) = refl
  binder_told (index i) = refl

  contracted_told : (names : List (List ℕ)) (o : Option (Head Var)) (s : Shape) → contracted (λ x. x) names (option_map renamed o) s ≡ contracted f names o s
  contracted_told names None s = refl
  contracted_told names (Some h) s = form_told names h no_shapes

  abbrev unless_binder : {X : Type 0} → Bool → Option X → Option X
  unless_binder b o = if b then None else o

  unless_told : (b : Bool) (o : Option (Head Var)) → unless_binder b (option_map renamed o) ≡ option_map renamed (unless_binder b o)
  unless_told true o = refl
  unless_told false o = refl

  mutual
    named_told : (names : List (List ℕ)) (t : Term Var (List ℕ)) → named (λ x. x) names (told t) ≡ named f names t
    named_told names (lam A x t) =
        ap (λ y. abstraction y (named (λ z. z) (y ∷ names) (told t))) (bound_told names x t)
        ∙ ap (abstraction (bound_name f names x t)) (named_told (bound_name f names x t ∷ names) t)
    named_told names (spine h ts) =
        form_told names h (named_all (λ x. x) (takes_binder (renamed h)) names (told_all ts))
        ∙ ap (head_form f names h) (ap (λ b. named_all (λ x. x) b names (told_all ts)) (binder_told h) ∙ all_told (takes_binder h) names ts)

    all_told : (b : Bool) (names : List (List ℕ)) (ts : Terms Var (List ℕ)) → named_all (λ x. x) b names (told_all ts) ≡ named_all f b names ts
    all_told b names no_terms = refl
    all_told b names (term t ts) =
        let first : contracted (λ x. x) names (unless_binder b (alone zero (told t))) (named (λ x. x) names (told t)) ≡ contracted f names (unless_binder b (alone zero t)) (named f names t) =
        ap (λ o. contracted (λ x. x) names (unless_binder b o) (named (λ x. x) names (told t))) (alone_told zero t)
        ∙ (ap (λ o. contracted (λ x. x) names o (named (λ x. x) names (told t))) (unless_told b (alone zero t))
        ∙ (contracted_told names (unless_binder b (alone zero t)) (named (λ x. x) names (told t))
        ∙ ap (contracted f names (unless_binder b (alone zero t))) (named_told names t))) in
        ap (λ s. shape.shape s (named_all (λ x. x) b names (told_all ts))) first
        ∙ ap (shape.shape (contracted f names (unless_binder b (alone zero t)) (named f names t))) (all_told b names ts)

  -- what is printed of a term is what is printed of the term with names for its variables
  pub printed_told : (t : Term Var (List ℕ)) → printed (λ x. x) (told t) ≡ printed f t
  printed_told t =
      ap (λ o. contracted (λ x. x) [] o (named (λ x. x) [] (told t))) (alone_told zero t)
      ∙ (contracted_told [] (alone zero t) (named (λ x. x) [] (told t)) ∙ ap (contracted f [] (alone zero t)) (named_told [] t))
