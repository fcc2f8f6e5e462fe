-- Patterns, and what is put in for a variable, with other numbers.
use Rattle.std.proofs.Common.{◌≡◌, ℕ, zero, suc, List, [], ◌∷◌, map, Bool, true, false, cond, ◌&&◌, Option, Some, None, option_map, is_some, refl, sym, ◌∙◌, ap}
use Rattle.ab_term.specs.Types.{Ty, kind, arrow}
use Rattle.ab_term.specs.Terms.{Variable, Head, constant, logical, nominal, variable, index, Term, lam, spine, Terms, no_terms, term}
use Rattle.ab_term.specs.Substitution.{shift_head}
use Rattle.ab_term.specs.Expansion.{expansion}
use Rattle.ab_term.specs.Translation.{translate_variable, translate_head, translate, translate_all, forget, forget_all}
use Rattle.ab_term.specs.Sameness.{same_number, same_head, same_term}
use Rattle.ab_term.specs.Abstraction.{is_name, among, name_terms, close_head, close, close_all, abstracted}
use Rattle.ab_term.specs.EtaHeads.{lowered, inner_head, expands}
use Rattle.ab_term.proofs.Translations.{translate-expansion}
use Rattle.ab_unifiers.specs.Patterns.{name_if, new_name, tested_name, name_of, pattern, applied, value, kept}
use Rattle.ab_unifiers.specs.Replacements.{holds, patterns_at, has_patterns, all_have_patterns}
use Rattle.ab_unifiers.proofs.Tests.{head_moved, term_moved, holds_moved, among_moved, shift_moved, lower_moved, name_moved}

pub kept_map : {X Y : Type 0} (g : X → Y) (bs : List Bool) (xs : List X) → kept bs (map g xs) ≡ map g (kept bs xs)
kept_map g [] xs = refl
kept_map g (b ∷ bs) [] = refl
kept_map g (true ∷ bs) (x ∷ xs) = ap (λ l. g x ∷ l) (kept_map g bs xs)
kept_map g (false ∷ bs) (x ∷ xs) = kept_map g bs xs

is_some_map : {X Y : Type 0} (g : X → Y) (o : Option X) → is_some (option_map g o) ≡ is_some o
is_some_map g None = refl
is_some_map g (Some x) = refl

module _ (f : ℕ → ℕ) where
  forget_head_moved : (h : Head ℕ) → translate_head (λ v. v) (translate_head f h) ≡ translate_head f (translate_head (λ v. v) h)
  forget_head_moved (variable y) = refl
  forget_head_moved (constant c) = refl
  forget_head_moved (logical l) = refl
  forget_head_moved (nominal a) = refl
  forget_head_moved (index i) = refl

  module _ {Hint : Type 0} where
    mutual
      forget_moved : (t : Term ℕ Hint) → forget (translate f (λ x. x) t) ≡ translate f (λ x. x) (forget t)
      forget_moved (lam A x t) = ap (lam A tt) (forget_moved t)
      forget_moved (spine h ts) =
          ap (λ g. spine g (forget_all (translate_all f (λ x. x) ts))) (forget_head_moved h)
          ∙ ap (spine (translate_head f (translate_head (λ v. v) h))) (all_forget_moved ts)

      all_forget_moved : (ts : Terms ℕ Hint) → forget_all (translate_all f (λ x. x) ts) ≡ translate_all f (λ x. x) (forget_all ts)
      all_forget_moved no_terms = refl
      all_forget_moved (term t ts) = ap (λ u. term u (forget_all (translate_all f (λ x. x) ts))) (forget_moved t) ∙ ap (term (translate f (λ x. x) (forget t))) (all_forget_moved ts)

module _ (f : ℕ → ℕ) (agree : (i j : ℕ) → same_number (f i) (f j) ≡ same_number i j) where
  abbrev V : Variable ℕ → Variable ℕ
  V = translate_variable f

  abbrev H : Head ℕ → Head ℕ
  H = translate_head f

  if_moved : (b : Bool) (h : Head ℕ) → name_if b (H h) ≡ option_map H (name_if b h)
  if_moved true h = refl
  if_moved false h = refl

  new_moved : (o : Option (Head ℕ)) (q : Option (List (Head ℕ))) → new_name (option_map H o) (option_map (map H) q) ≡ option_map (map H) (new_name o q)
  new_moved None q = refl
  new_moved (Some h) None = refl
  new_moved (Some h) (Some hs) = ap (λ b. cond b None (Some (H h ∷ map H hs))) (among_moved f agree hs h) ∙ go (among hs h)
    where
      go : (b : Bool) → cond b None (Some (H h ∷ map H hs)) ≡ option_map (map H) (cond b None (Some (h ∷ hs)))
      go true = refl
      go false = refl

  lowered_moved : (o : Option (Head ℕ)) → lowered (option_map H o) ≡ option_map H (lowered o)
  lowered_moved None = refl
  lowered_moved (Some h) = lower_moved f agree zero h

  close_head_moved : (k : ℕ) (h g : Head ℕ) → close_head k (H h) (H g) ≡ H (close_head k h g)
  close_head_moved k h g =
      ap (λ b. cond b (index k) (shift_head k (H g))) (head_moved f agree g h)
      ∙ ap (λ e. cond (same_head g h) (index k) e) (shift_moved f agree k g)
      ∙ go (same_head g h)
    where
      go : (b : Bool) → cond b (index k) (H (shift_head k g)) ≡ H (cond b (index k) (shift_head k g))
      go true = refl
      go false = refl

  module _ {Hint : Type 0} where
    abbrev T : Term ℕ Hint → Term ℕ Hint
    T = translate f (λ x. x)

    abbrev Ts : Terms ℕ Hint → Terms ℕ Hint
    Ts = translate_all f (λ x. x)

    inner_moved : (t : Term ℕ Hint) → inner_head (T t) ≡ option_map H (inner_head t)
    inner_moved (lam A x t) = ap lowered (inner_moved t) ∙ lowered_moved (inner_head t)
    inner_moved (spine h ts) = refl

    expands_moved : (A : Ty) (t : Term ℕ Hint) (h : Head ℕ) → expands A (T t) (H h) ≡ expands A t h
    expands_moved A t h =
        ap (λ u. same_term u (expansion tt A (H h))) (forget_moved f t)
        ∙ ap (same_term (translate f (λ x. x) (forget t))) (sym (translate-expansion f (λ x. x) tt A h))
        ∙ term_moved f agree (forget t) (expansion tt A h)

    tested_moved : (A : Ty) (t : Term ℕ Hint) (o : Option (Head ℕ)) → tested_name A (T t) (option_map H o) ≡ option_map H (tested_name A t o)
    tested_moved A t None = refl
    tested_moved A t (Some h) =
        ap (λ b. name_if (b && expands A (T t) (H h)) (H h)) (name_moved f agree h)
        ∙ ap (λ b. name_if (is_name h && b) (H h)) (expands_moved A t h)
        ∙ if_moved (is_name h && expands A t h) h

    name_of_moved : (A : Ty) (t : Term ℕ Hint) → name_of A (T t) ≡ option_map H (name_of A t)
    name_of_moved A t = ap (tested_name A (T t)) (inner_moved t) ∙ tested_moved A t (inner_head t)

    pub pattern_moved : (A : Ty) (ts : Terms ℕ Hint) → pattern A (Ts ts) ≡ option_map (map H) (pattern A ts)
    pattern_moved A no_terms = refl
    pattern_moved (kind k) (term t ts) = refl
    pattern_moved (arrow A B) (term t ts) =
        ap (λ o. new_name o (pattern B (Ts ts))) (name_of_moved A t)
        ∙ ap (new_name (option_map H (name_of A t))) (pattern_moved B ts)
        ∙ new_moved (name_of A t) (pattern B ts)

    name_terms_moved : (x : Hint) (A : Ty) (hs : List (Head ℕ)) → Ts (name_terms x A hs) ≡ name_terms x A (map H hs)
    name_terms_moved x A [] = refl
    name_terms_moved x (kind k) (h ∷ hs) = refl
    name_terms_moved x (arrow A B) (h ∷ hs) =
        ap (λ t. term t (Ts (name_terms x B hs))) (translate-expansion f (λ x. x) x A h)
        ∙ ap (term (expansion x A (H h))) (name_terms_moved x B hs)

    pub applied_moved : (x : Hint) (y : Variable ℕ) (hs : List (Head ℕ)) → T (applied x y hs) ≡ applied x (V y) (map H hs)
    applied_moved x y hs = ap (spine (variable (V y))) (name_terms_moved x y.type hs)

    mutual
      close_moved : (t : Term ℕ Hint) (k : ℕ) (h : Head ℕ) → T (close k h t) ≡ close k (H h) (T t)
      close_moved (lam A x t) k h = ap (lam A x) (close_moved t (suc k) (shift_head zero h) ∙ ap (λ g. close (suc k) g (T t)) (sym (shift_moved f agree zero h)))
      close_moved (spine g ts) k h =
          ap (λ e. spine e (Ts (close_all k h ts))) (sym (close_head_moved k h g))
          ∙ ap (spine (close_head k (H h) (H g))) (all_close_moved ts k h)

      all_close_moved : (ts : Terms ℕ Hint) (k : ℕ) (h : Head ℕ) → Ts (close_all k h ts) ≡ close_all k (H h) (Ts ts)
      all_close_moved no_terms k h = refl
      all_close_moved (term t ts) k h = ap (λ u. term u (Ts (close_all k h ts))) (close_moved t k h) ∙ ap (term (close k (H h) (T t))) (all_close_moved ts k h)

    abstracted_moved : (x : Hint) (A : Ty) (hs : List (Head ℕ)) (t : Term ℕ Hint) → T (abstracted x A hs t) ≡ abstracted x A (map H hs) (T t)
    abstracted_moved x A [] t = refl
    abstracted_moved x (kind k) (h ∷ hs) t = refl
    abstracted_moved x (arrow A B) (h ∷ hs) t = ap (lam A x) (close_moved (abstracted x B hs t) zero h ∙ ap (close zero (H h)) (abstracted_moved x B hs t))

    pub value_moved : (x : Hint) (y : Variable ℕ) (hs : List (Head ℕ)) (t : Term ℕ Hint) → T (value x y hs t) ≡ value x (V y) (map H hs) (T t)
    value_moved x y hs t = abstracted_moved x y.type hs t

    at_moved : (ys : List (Variable ℕ)) (h : Head ℕ) (ts : Terms ℕ Hint) (b : Bool) → patterns_at (map V ys) (H h) (Ts ts) b ≡ patterns_at ys h ts b
    at_moved ys (variable y) ts b =
        ap (λ c. cond c (is_some (pattern y.type (Ts ts))) b) (holds_moved f agree ys y)
        ∙ ap (λ c. cond (holds ys y) c b) (ap is_some (pattern_moved y.type ts) ∙ is_some_map (map H) (pattern y.type ts))
    at_moved ys (constant c) ts b = refl
    at_moved ys (logical l) ts b = refl
    at_moved ys (nominal a) ts b = refl
    at_moved ys (index i) ts b = refl

    mutual
      pub patterns_moved : (ys : List (Variable ℕ)) (t : Term ℕ Hint) → has_patterns (map V ys) (T t) ≡ has_patterns ys t
      patterns_moved ys (lam A x t) = patterns_moved ys t
      patterns_moved ys (spine h ts) = ap (patterns_at (map V ys) (H h) (Ts ts)) (all_patterns_moved ys ts) ∙ at_moved ys h ts (all_have_patterns ys ts)

      all_patterns_moved : (ys : List (Variable ℕ)) (ts : Terms ℕ Hint) → all_have_patterns (map V ys) (Ts ts) ≡ all_have_patterns ys ts
      all_patterns_moved ys no_terms = refl
      all_patterns_moved ys (term t ts) = ap (λ b. b && all_have_patterns (map V ys) (Ts ts)) (patterns_moved ys t) ∙ ap (λ b. has_patterns ys t && b) (all_patterns_moved ys ts)
