-- The tests of variables, heads and terms give the same with other numbers.
use Rattle.std.proofs.Common.{◌≡◌, ℕ, zero, List, [], ◌∷◌, map, Bool, true, false, cond, not, ◌&&◌, ◌||◌, Option, Some, None, option_map, refl, ◌∙◌, ap}
use Rattle.std.specs.List.{list_all}
use Rattle.ab_term.specs.Types.{same_type}
use Rattle.ab_term.specs.Terms.{Variable, Head, constant, logical, nominal, variable, index, Term, lam, spine, Terms, no_terms, term}
use Rattle.ab_term.specs.Substitution.{shift_head, lower_index, lower_head}
use Rattle.ab_term.specs.Translation.{translate_variable, translate_head, translate, translate_all}
use Rattle.ab_term.specs.Sameness.{same_number, same_numbered, same_head, same_term, same_terms}
use Rattle.ab_term.specs.Abstraction.{is_name, among, under, may_stand}
use Rattle.ab_term.specs.Variables.{variables}
use Rattle.ab_term.proofs.Translations.{variables-translate}
use Rattle.ab_unifiers.specs.Replacements.{without, holds, is_flexible, occurs, no_foreign, no_foreign_all}
use Rattle.ab_unifiers.specs.Unification.{is_older, agreeing}

module _ (f : ℕ → ℕ) (agree : (i j : ℕ) → same_number (f i) (f j) ≡ same_number i j) where
  abbrev V : Variable ℕ → Variable ℕ
  V = translate_variable f

  abbrev H : Head ℕ → Head ℕ
  H = translate_head f

  pub numbered_moved : (y z : Variable ℕ) → same_numbered (V y) (V z) ≡ same_numbered y z
  numbered_moved y z = ap (λ b. b && same_type y.type z.type) (agree y.name z.name)

  pub head_moved : (g h : Head ℕ) → same_head (H g) (H h) ≡ same_head g h
  head_moved (variable y) (variable z) = numbered_moved y z
  head_moved (constant c) (constant d) = refl
  head_moved (logical l) (logical m) = refl
  head_moved (nominal a) (nominal b) = refl
  head_moved (index i) (index j) = refl
  head_moved _ _ = refl

  module _ {Hint : Type 0} where
    abbrev T : Term ℕ Hint → Term ℕ Hint
    T = translate f (λ x. x)

    abbrev Ts : Terms ℕ Hint → Terms ℕ Hint
    Ts = translate_all f (λ x. x)

    mutual
      pub term_moved : (t u : Term ℕ Hint) → same_term (T t) (T u) ≡ same_term t u
      term_moved (lam A x t) (lam B y u) = ap (λ b. same_type A B && b) (term_moved t u)
      term_moved (lam A x t) (spine h us) = refl
      term_moved (spine h ts) (lam B y u) = refl
      term_moved (spine g ts) (spine h us) = ap (λ b. b && same_terms (Ts ts) (Ts us)) (head_moved g h) ∙ ap (λ b. same_head g h && b) (terms_moved ts us)

      terms_moved : (ts us : Terms ℕ Hint) → same_terms (Ts ts) (Ts us) ≡ same_terms ts us
      terms_moved no_terms no_terms = refl
      terms_moved no_terms (term u us) = refl
      terms_moved (term t ts) no_terms = refl
      terms_moved (term t ts) (term u us) = ap (λ b. b && same_terms (Ts ts) (Ts us)) (term_moved t u) ∙ ap (λ b. same_term t u && b) (terms_moved ts us)

  pub holds_moved : (ys : List (Variable ℕ)) (y : Variable ℕ) → holds (map V ys) (V y) ≡ holds ys y
  holds_moved [] y = refl
  holds_moved (z ∷ ys) y = ap (λ b. b || holds (map V ys) (V y)) (numbered_moved z y) ∙ ap (λ b. same_numbered z y || b) (holds_moved ys y)

  pub without_moved : (y : Variable ℕ) (ys : List (Variable ℕ)) → without (V y) (map V ys) ≡ map V (without y ys)
  without_moved y [] = refl
  without_moved y (z ∷ ys) =
      ap (λ b. cond (not b) (V z ∷ without (V y) (map V ys)) (without (V y) (map V ys))) (numbered_moved z y)
      ∙ ap (λ zs. cond (not (same_numbered z y)) (V z ∷ zs) zs) (without_moved y ys)
      ∙ go (not (same_numbered z y))
    where
      go : (b : Bool) → cond b (V z ∷ map V (without y ys)) (map V (without y ys)) ≡ map V (cond b (z ∷ without y ys) (without y ys))
      go true = refl
      go false = refl

  pub flexible_moved : (ys : List (Variable ℕ)) (h : Head ℕ) → is_flexible (map V ys) (H h) ≡ is_flexible ys h
  flexible_moved ys (variable y) = holds_moved ys y
  flexible_moved ys (constant c) = refl
  flexible_moved ys (logical l) = refl
  flexible_moved ys (nominal a) = refl
  flexible_moved ys (index i) = refl

  pub among_moved : (hs : List (Head ℕ)) (h : Head ℕ) → among (map H hs) (H h) ≡ among hs h
  among_moved [] h = refl
  among_moved (g ∷ hs) h = ap (λ b. b || among (map H hs) (H h)) (head_moved g h) ∙ ap (λ b. same_head g h || b) (among_moved hs h)

  pub shift_moved : (k : ℕ) (h : Head ℕ) → shift_head k (H h) ≡ H (shift_head k h)
  shift_moved k (variable y) = refl
  shift_moved k (constant c) = refl
  shift_moved k (logical l) = refl
  shift_moved k (nominal a) = refl
  shift_moved k (index i) = refl

  shifts_moved : (hs : List (Head ℕ)) → map (shift_head zero) (map H hs) ≡ map H (map (shift_head zero) hs)
  shifts_moved [] = refl
  shifts_moved (h ∷ hs) = ap (λ g. g ∷ map (shift_head zero) (map H hs)) (shift_moved zero h) ∙ ap (λ gs. H (shift_head zero h) ∷ gs) (shifts_moved hs)

  pub under_moved : (hs : List (Head ℕ)) → under (map H hs) ≡ map H (under hs)
  under_moved hs = ap (λ gs. index zero ∷ gs) (shifts_moved hs)

  index_moved : (o : Option ℕ) → option_map index o ≡ option_map H (option_map index o)
  index_moved None = refl
  index_moved (Some i) = refl

  pub lower_moved : (k : ℕ) (h : Head ℕ) → lower_head k (H h) ≡ option_map H (lower_head k h)
  lower_moved k (variable y) = refl
  lower_moved k (constant c) = refl
  lower_moved k (logical l) = refl
  lower_moved k (nominal a) = refl
  lower_moved k (index i) = index_moved (lower_index k i)

  pub name_moved : (h : Head ℕ) → is_name (H h) ≡ is_name h
  name_moved (variable y) = refl
  name_moved (constant c) = refl
  name_moved (logical l) = refl
  name_moved (nominal a) = refl
  name_moved (index i) = refl

  pub may_moved : (names : List (Head ℕ)) (h : Head ℕ) → may_stand (map H names) (H h) ≡ may_stand names h
  may_moved names (variable y) = refl
  may_moved names (constant c) = refl
  may_moved names (logical l) = refl
  may_moved names (nominal a) = among_moved names (nominal a)
  may_moved names (index i) = among_moved names (index i)

  pub all_among_moved : (names hs : List (Head ℕ)) → list_all (among (map H names)) (map H hs) ≡ list_all (among names) hs
  all_among_moved names [] = refl
  all_among_moved names (h ∷ hs) = ap (λ b. b && list_all (among (map H names)) (map H hs)) (among_moved names h) ∙ ap (λ b. among names h && b) (all_among_moved names hs)

  pub each_among_moved : (names hs : List (Head ℕ)) → map (among (map H names)) (map H hs) ≡ map (among names) hs
  each_among_moved names [] = refl
  each_among_moved names (h ∷ hs) = ap (λ b. b ∷ map (among (map H names)) (map H hs)) (among_moved names h) ∙ ap (λ bs. among names h ∷ bs) (each_among_moved names hs)

  pub agreeing_moved : (gs hs : List (Head ℕ)) → agreeing (map H gs) (map H hs) ≡ agreeing gs hs
  agreeing_moved [] [] = refl
  agreeing_moved [] (h ∷ hs) = ap (λ bs. false ∷ bs) (agreeing_moved [] hs)
  agreeing_moved (g ∷ gs) [] = ap (λ bs. false ∷ bs) (agreeing_moved gs [])
  agreeing_moved (g ∷ gs) (h ∷ hs) = ap (λ b. b ∷ agreeing (map H gs) (map H hs)) (head_moved g h) ∙ ap (λ bs. same_head g h ∷ bs) (agreeing_moved gs hs)

  pub older_moved : (ys : List (Variable ℕ)) (y z : Variable ℕ) → is_older (map V ys) (V y) (V z) ≡ is_older ys y z
  older_moved [] y z = refl
  older_moved (v ∷ vs) y z =
      ap (λ b. cond b (not (same_numbered (V v) (V z))) (cond (same_numbered (V v) (V z)) false (is_older (map V vs) (V y) (V z)))) (numbered_moved v y)
      ∙ ap (λ b. cond (same_numbered v y) (not b) (cond b false (is_older (map V vs) (V y) (V z)))) (numbered_moved v z)
      ∙ ap (λ b. cond (same_numbered v y) (not (same_numbered v z)) (cond (same_numbered v z) false b)) (older_moved vs y z)

  module _ {Hint : Type 0} where
    pub occurs_moved : (y : Variable ℕ) (t : Term ℕ Hint) → occurs (V y) (T t) ≡ occurs y t
    occurs_moved y t = ap (λ l. holds l (V y)) (variables-translate f (λ x. x) t) ∙ holds_moved (variables t) y

    mutual
      pub foreign_moved : (ys : List (Variable ℕ)) (names : List (Head ℕ)) (t : Term ℕ Hint) → no_foreign (map V ys) (map H names) (T t) ≡ no_foreign ys names t
      foreign_moved ys names (lam A x t) = ap (λ l. no_foreign (map V ys) l (T t)) (under_moved names) ∙ foreign_moved ys (under names) t
      foreign_moved ys names (spine h ts) =
          ap (λ b. b || (may_stand (map H names) (H h) && no_foreign_all (map V ys) (map H names) (Ts ts))) (flexible_moved ys h)
          ∙ ap (λ b. is_flexible ys h || (b && no_foreign_all (map V ys) (map H names) (Ts ts))) (may_moved names h)
          ∙ ap (λ b. is_flexible ys h || (may_stand names h && b)) (all_foreign_moved ys names ts)

      all_foreign_moved : (ys : List (Variable ℕ)) (names : List (Head ℕ)) (ts : Terms ℕ Hint) → no_foreign_all (map V ys) (map H names) (Ts ts) ≡ no_foreign_all ys names ts
      all_foreign_moved ys names no_terms = refl
      all_foreign_moved ys names (term t ts) =
          ap (λ b. b && no_foreign_all (map V ys) (map H names) (Ts ts)) (foreign_moved ys names t)
          ∙ ap (λ b. no_foreign ys names t && b) (all_foreign_moved ys names ts)
