-- What rules make of lists and of constants, with other numbers.
use Rattle.std.specs.Prelude.{if◌then◌else◌, bytes_eq}
use Rattle.std.specs.Option.{option_and_then}
use Rattle.std.proofs.Common.{◌≡◌, ℕ, zero, suc, List, [], ◌∷◌, map, codes, Bool, true, false, cond, Option, Some, None, option_map, refl, sym, ◌∙◌, ap}
use Rattle.ab_term.specs.Types.{Ty, kind, arrow, prop, o}
use Rattle.ab_term.specs.Logical.{universal, implication}
use Rattle.ab_term.specs.Terms.{Nominal, Head, constant, logical, nominal, variable, index, lam, spine, Terms, no_terms, term, Read}
use Rattle.ab_term.specs.Abstraction.{over, close_head, close, close_all, abstracted}
use Rattle.ab_term.specs.Sameness.{same_head, same_number, same_term}
use Rattle.ab_term.specs.Substitution.{shift, shift_head, instance_by_all}
use Rattle.ab_term.specs.Translation.{translate_head, translate_all}
use Rattle.ab_term.proofs.Translations.{translate-shift, translate-instance_by_all}
use Rattle.ab_unifiers.specs.Member.{before, in_the_list}
use Rattle.ab_unifiers.proofs.Tests.{term_moved}
use Rattle.ab_theory.specs.Contexts.{without_item, list_if_same, cut_list, replace_constants, is_within}
use Rattle.ab_theory.specs.Judgements.{Judgement, unless_focused, parts_unfocused, as_judgement, as_unfocused}
use Rattle.ab_effects.specs.Judgements.{renumbered_judgement}
use Rattle.ab_search_trees.proofs.MovedForms.{T, judgement_moved}

-- A LIST WITHOUT AN ITEM

module _ (f : ℕ → ℕ) (agree : (i j : ℕ) → same_number (f i) (f j) ≡ same_number i j) where
  item_moved : (F L : Read) (b : Bool) (o : Option Read) → (if b then Some (T f L) else option_map (before (T f F)) (option_map (T f) o)) ≡ option_map (T f) (if b then Some L else option_map (before F) o)
  item_moved F L true o = refl
  item_moved F L false None = refl
  item_moved F L false (Some N) = refl

  cons_moved : (b : Bool) (o p : Option Read) → p ≡ option_map (T f) o → (if b then p else None) ≡ option_map (T f) (if b then o else None)
  cons_moved true o p e = e
  cons_moved false o p e = refl

  without_item_moved : (L G : Read) → without_item (T f L) (T f G) ≡ option_map (T f) (without_item L G)
  without_item_moved (spine (constant c) (term F (term L no_terms))) G =
      cons_moved (bytes_eq c (codes "::")) (if same_term F G then Some L else option_map (before F) (without_item L G)) (if same_term (T f F) (T f G) then Some (T f L) else option_map (before (T f F)) (without_item (T f L) (T f G)))
      (ap (λ b. if b then Some (T f L) else option_map (before (T f F)) (without_item (T f L) (T f G))) (term_moved f agree F G)
      ∙ ap (λ o. if same_term F G then Some (T f L) else option_map (before (T f F)) o) (without_item_moved L G)
      ∙ item_moved F L (same_term F G) (without_item L G))
  without_item_moved L G = refl

  same_list_moved : (M L : Read) → list_if_same (T f M) (T f L) ≡ option_map (T f) (list_if_same M L)
  same_list_moved M L = ap (λ b. if b then Some (T f L) else None) (term_moved f agree L M) ∙ go (same_term L M)
    where
      go : (b : Bool) → (if b then Some (T f L) else None) ≡ option_map (T f) (if b then Some L else None)
      go true = refl
      go false = refl

  pub cut_moved : (L G M : Read) → cut_list (T f L) (T f G) (T f M) ≡ option_map (T f) (cut_list L G M)
  cut_moved L G M = ap (option_and_then (list_if_same (T f M))) (without_item_moved L G) ∙ go (without_item L G)
    where
      go : (p : Option Read) → option_and_then (list_if_same (T f M)) (option_map (T f) p) ≡ option_map (T f) (option_and_then (list_if_same M) p)
      go None = refl
      go (Some N) = same_list_moved M N

-- CONSTANTS THAT ARE REPLACED

module _ (f : ℕ → ℕ) where
  shift_head_told : (k : ℕ) (h : Head ℕ) → translate_head f (shift_head k h) ≡ shift_head k (translate_head f h)
  shift_head_told k (constant c) = refl
  shift_head_told k (logical l) = refl
  shift_head_told k (nominal a) = refl
  shift_head_told k (variable y) = refl
  shift_head_told k (index i) = refl

  same_name_told : (a : Nominal) (h : Head ℕ) → same_head (translate_head f h) (nominal a) ≡ same_head h (nominal a)
  same_name_told a (constant c) = refl
  same_name_told a (logical l) = refl
  same_name_told a (nominal b) = refl
  same_name_told a (variable y) = refl
  same_name_told a (index i) = refl

  close_head_told : (k : ℕ) (a : Nominal) (h : Head ℕ) → translate_head f (close_head k (nominal a) h) ≡ close_head k (nominal a) (translate_head f h)
  close_head_told k a h =
      go (same_head h (nominal a))
      ∙ ap (cond (same_head h (nominal a)) (index k)) (shift_head_told k h)
      ∙ ap (λ b. cond b (index k) (shift_head k (translate_head f h))) (sym (same_name_told a h))
    where
      go : (b : Bool) → translate_head f (cond b (index k) (shift_head k h)) ≡ cond b (index k) (translate_head f (shift_head k h))
      go true = refl
      go false = refl

  mutual
    pub close_told : (k : ℕ) (a : Nominal) (t : Read) → T f (close k (nominal a) t) ≡ close k (nominal a) (T f t)
    close_told k a (lam A x t) = ap (lam A x) (close_told (suc k) a t)
    close_told k a (spine h ts) =
        ap (λ g. spine g (translate_all f (λ x. x) (close_all k (nominal a) ts))) (close_head_told k a h) ∙ ap (spine (close_head k (nominal a) (translate_head f h))) (all_close_told k a ts)

    all_close_told : (k : ℕ) (a : Nominal) (ts : Terms ℕ (List ℕ)) → translate_all f (λ x. x) (close_all k (nominal a) ts) ≡ close_all k (nominal a) (translate_all f (λ x. x) ts)
    all_close_told k a no_terms = refl
    all_close_told k a (term t ts) = ap (λ u. term u (translate_all f (λ x. x) (close_all k (nominal a) ts))) (close_told k a t) ∙ ap (term (close k (nominal a) (T f t))) (all_close_told k a ts)

  abstracted_told : (x : List ℕ) (A : Ty) (ns : List Nominal) (t : Read) → T f (abstracted x A (map nominal ns) t) ≡ abstracted x A (map nominal ns) (T f t)
  abstracted_told x A [] t = refl
  abstracted_told x (kind k) (a ∷ ns) t = refl
  abstracted_told x (arrow A B) (a ∷ ns) t = ap (lam A x) (close_told zero a (abstracted x B (map nominal ns) t) ∙ ap (close zero (nominal a)) (abstracted_told x B ns t))

  abbrev pub replacement_told : Nominal × Read → Nominal × Read
  replacement_told r = (r.0, T f r.1)

  pub constants_told : (rs : List (Nominal × Read)) → map (λ (r : Nominal × Read). r.0) (map replacement_told rs) ≡ map (λ (r : Nominal × Read). r.0) rs
  constants_told [] = refl
  constants_told (r ∷ rs) = ap (λ l. r.0 ∷ l) (constants_told rs)

  terms_told : (rs : List (Nominal × Read)) → map (λ (r : Nominal × Read). r.1) (map replacement_told rs) ≡ map (T f) (map (λ (r : Nominal × Read). r.1) rs)
  terms_told [] = refl
  terms_told (r ∷ rs) = ap (λ l. T f r.1 ∷ l) (terms_told rs)

  pub replaced_told : (rs : List (Nominal × Read)) (F : Read) → T f (replace_constants rs F) ≡ replace_constants (map replacement_told rs) (T f F)
  replaced_told rs F =
      let ns = map (λ (r : Nominal × Read). r.0) rs in
      let us = map (λ (r : Nominal × Read). r.1) rs in
      translate-instance_by_all f (λ h. h) us (abstracted (codes "x") (over ns prop) (map nominal ns) F)
      ∙ ap (λ t. instance_by_all t (map (T f) us)) (abstracted_told (codes "x") (over ns prop) ns F)
      ∙ ap (instance_by_all (abstracted (codes "x") (over ns prop) (map nominal ns) (T f F))) (sym (terms_told rs))
      ∙ ap (λ ms. instance_by_all (abstracted (codes "x") (over ms prop) (map nominal ms) (T f F)) (map (λ (r : Nominal × Read). r.1) (map replacement_told rs))) (sym (constants_told rs))

  -- A LIST WITHIN ANOTHER

  abbrev within_by : Read → Read → Read
  within_by L K =
      let X = spine (index zero) no_terms in
      spine (logical (universal o)) (term (lam o (codes "X")
      (spine (logical implication) (term (spine (constant (codes "member")) (in_the_list X L)) (term (spine (constant (codes "member")) (in_the_list X K)) no_terms)))) no_terms)

  pub within_told : (L K : Read) → T f (is_within L K) ≡ is_within (T f L) (T f K)
  within_told L K =
      ap (λ M. within_by M (T f (shift zero K))) (translate-shift f (λ (x : List ℕ). x) L zero) ∙ ap (within_by (shift zero (T f L))) (translate-shift f (λ (x : List ℕ). x) K zero)

  -- LIST AND GOAL of a judgement without focus

  abbrev pub pair_told : Read × Read → Read × Read
  pair_told p = (T f p.0, T f p.1)

  unless_told : (o : Option Read) (L G : Read) → unless_focused (option_map (T f) o) (T f L, T f G) ≡ option_map pair_told (unless_focused o (L, G))
  unless_told None L G = refl
  unless_told (Some F) L G = refl

  parts_told : (o : Option Judgement) → parts_unfocused (option_map (renumbered_judgement f) o) ≡ option_map pair_told (parts_unfocused o)
  parts_told None = refl
  parts_told (Some j) = unless_told j.focus j.context j.goal

  pub unfocused_told : (F : Read) → as_unfocused (T f F) ≡ option_map pair_told (as_unfocused F)
  unfocused_told F = ap parts_unfocused (judgement_moved f F) ∙ parts_told (as_judgement F)
