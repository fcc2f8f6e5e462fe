-- JUDGEMENTS WITH OTHER NUMBERS for variables: what a cut, an instance and monotonicity make of them.
use Rattle.std.specs.Prelude.{Contains, IfSome, if◌then◌else◌, bytes_eq}
use Rattle.std.specs.Option.{option_and_then}
use Rattle.std.proofs.Common.{◌≡◌, ℕ, zero, suc, List, [], ◌∷◌, ◌++◌, map, codes, Bool, true, false, cond, Option, Some, None, option_map, refl, sym, ◌∙◌, ap, subst}
use Rattle.std.proofs.lemmas.List.Elements.{All-nil, All-contains, All-append, Contains-append_left, Contains-append_right}
use Rattle.ab_term.specs.Types.{Ty, kind, arrow, prop, o}
use Rattle.ab_term.specs.Logical.{universal, implication}
use Rattle.ab_term.specs.Terms as tree
use Rattle.ab_term.specs.Terms.{Nominal, Head, constant, logical, nominal, variable, index, Term, lam, spine, Terms, no_terms, term, Read}
use Rattle.ab_term.specs.Abstraction.{over, close_head, close, close_all, abstracted}
use Rattle.ab_term.specs.Sameness.{same_head, same_term}
use Rattle.ab_term.specs.Substitution.{shift, shift_head, instance_by_all}
use Rattle.ab_term.specs.Translation.{translate_head, translate, translate_all, forget, forget_all, EqualPastHints}
use Rattle.ab_term.specs.Variables.{variables}
use Rattle.ab_term.proofs.Lists.{All-from_contains}
use Rattle.ab_term.proofs.Same.{same_term-Decides}
use Rattle.ab_term.proofs.Translations.{translate-shift, translate-instance_by_all}
use Rattle.ab_unifiers.specs.Member.{before, in_the_list}
use Rattle.ab_formulas.specs.Declarations.{Declarations}
use Rattle.ab_formulas.specs.Sequents.{Sequent, IsSequent, HoldsOnly, in_terms}
use Rattle.ab_formulas.specs.NamedGoals.{name_in, with_names}
use Rattle.ab_theory.specs.Contexts.{without_item, list_if_same, cut_list, replace_constants, is_within}
use Rattle.ab_theory.specs.Judgements.{Judgement, unless_focused, parts_unfocused, as_judgement, as_unfocused}
use Rattle.ab_effects.specs.Judgements.{renumbered_judgement}
use Rattle.ab_effects.proofs.MovedSubjects.{judgement_moved}
use Rattle.ab_determinism.proofs.Renumbered.{renumber, renumber_variable, number_in, formula_back}
use Rattle.ab_determinism.proofs.Retold.{KeepsNames, formula_named}

-- TERMS PAST THEIR HINTS, with others for their variables
module _ {A B : Type 0} (g : A → B) where
  forget_head_told : (h : Head A) → translate_head (λ v. v) (translate_head g h) ≡ translate_head g (translate_head (λ v. v) h)
  forget_head_told (constant c) = refl
  forget_head_told (logical l) = refl
  forget_head_told (nominal a) = refl
  forget_head_told (variable x) = refl
  forget_head_told (index i) = refl

  mutual
    forget_told : (t : Term A (List ℕ)) → forget (translate g (λ h. h) t) ≡ translate g (λ h. h) (forget t)
    forget_told (lam A x t) = ap (lam A tt) (forget_told t)
    forget_told (spine h ts) = ap (λ k. spine k (forget_all (translate_all g (λ h. h) ts))) (forget_head_told h) ∙ ap (spine (translate_head g (translate_head (λ v. v) h))) (forget_all_told ts)

    forget_all_told : (ts : Terms A (List ℕ)) → forget_all (translate_all g (λ h. h) ts) ≡ translate_all g (λ h. h) (forget_all ts)
    forget_all_told no_terms = refl
    forget_all_told (term t ts) = ap (λ u. term u (forget_all (translate_all g (λ h. h) ts))) (forget_told t) ∙ ap (term (translate g (λ h. h) (forget t))) (forget_all_told ts)

  pub past_told : (t u : Term A (List ℕ)) → EqualPastHints t u → EqualPastHints (translate g (λ h. h) t) (translate g (λ h. h) u)
  past_told t u e = forget_told t ∙ ap (translate g (λ h. h)) e ∙ sym (forget_told u)

one_test : (b c : Bool) → (b ≡ true → c ≡ true) → (c ≡ true → b ≡ true) → b ≡ c
one_test true c f g = sym (f refl)
one_test false true f g = g refl
one_test false false f g = refl

-- A LIST WITHOUT AN ITEM, of a goal whose variables keep their names
module _ (D : Declarations) (f : ℕ → ℕ) (s : Sequent) (is : IsSequent D s) (names : KeepsNames f s.variables) where
  abbrev T : Read → Read
  T = renumber f

  abbrev Closed : Read → Type 0
  Closed = HoldsOnly s.variables

  abbrev OfGoal : tree.Variable ℕ → Type 0
  OfGoal = Contains (map in_terms s.variables)

  same_before : (t u : Read) → Closed t → Closed u → EqualPastHints (T t) (T u) → EqualPastHints t u
  same_before t u first second e =
      let xs = s.variables in
      let ys = map (renumber_variable f) xs in
      let named : EqualPastHints (with_names xs t) (with_names xs u) =
      subst (λ v. EqualPastHints v (with_names xs u)) (sym (formula_named f s names t))
      (subst (EqualPastHints (with_names ys (T t))) (sym (formula_named f s names u)) (past_told (name_in ys) (T t) (T u) e)) in
      let own : EqualPastHints (translate (number_in 0 xs) (λ x. x) (with_names xs t)) (translate (number_in 0 xs) (λ x. x) (with_names xs u)) = past_told (number_in 0 xs) (with_names xs t) (with_names xs u) named in
      subst (λ v. EqualPastHints v u) (formula_back 0 xs is.numbers_differ is.names_differ t first)
      (subst (EqualPastHints (translate (number_in 0 xs) (λ x. x) (with_names xs t))) (formula_back 0 xs is.numbers_differ is.names_differ u second) own)

  test_told : (t u : Read) → Closed t → Closed u → same_term (T t) (T u) ≡ same_term t u
  test_told t u first second =
      one_test (same_term (T t) (T u)) (same_term t u)
      (λ e. (same_term-Decides t u).1 (same_before t u first second ((same_term-Decides (T t) (T u)).0 e)))
      (λ e. (same_term-Decides (T t) (T u)).1 (past_told f t u ((same_term-Decides t u).0 e)))

  first_closed : (c : List ℕ) (F L : Read) → Closed (spine (constant c) (term F (term L no_terms))) → Closed F
  first_closed c F L all =
      All-from_contains OfGoal (variables F) (λ y m. All-contains OfGoal (variables F ++ (variables L ++ [])) y all (Contains-append_left (variables F) (variables L ++ []) y m))

  second_closed : (c : List ℕ) (F L : Read) → Closed (spine (constant c) (term F (term L no_terms))) → Closed L
  second_closed c F L all =
      All-from_contains OfGoal (variables L)
      (λ y m. All-contains OfGoal (variables F ++ (variables L ++ [])) y all (Contains-append_right (variables F) (variables L ++ []) y (Contains-append_left (variables L) [] y m)))

  both_closed : (c : List ℕ) (F L : Read) → Closed F → Closed L → Closed (spine (constant c) (term F (term L no_terms)))
  both_closed c F L first second = All-append OfGoal (variables F) (variables L ++ []) first (All-append OfGoal (variables L) [] second (All-nil OfGoal))

  abbrev Told : Option Read → Option Read → Type 0
  Told o p = (p ≡ option_map T o) × IfSome o Closed

  item_told : (F L : Read) → Closed F → Closed L → (b : Bool) (o p : Option Read) → Told o p → Told (if b then Some L else option_map (before F) o) (if b then Some (T L) else option_map (before (T F)) p)
  item_told F L first second true o p w = (refl, second)
  item_told F L first second false None p w = (ap (option_map (before (T F))) w.0, tt)
  item_told F L first second false (Some N) p w = (ap (option_map (before (T F))) w.0, both_closed (codes "::") F N first w.1)

  cons_told : (b : Bool) (o p : Option Read) → Told o p → Told (if b then o else None) (if b then p else None)
  cons_told true o p w = w
  cons_told false o p w = (refl, tt)

  without_told : (L G : Read) → Closed L → Closed G → Told (without_item L G) (without_item (T L) (T G))
  without_told (spine (constant c) (term F (term L no_terms))) G list goal =
      let first = first_closed c F L list in
      let second = second_closed c F L list in
      let one = item_told F L first second (same_term F G) (without_item L G) (without_item (T L) (T G)) (without_told L G second goal) in
      cons_told (bytes_eq c (codes "::")) (if same_term F G then Some L else option_map (before F) (without_item L G)) (if same_term (T F) (T G) then Some (T L) else option_map (before (T F)) (without_item (T L) (T G)))
      (subst (λ b. Told (if same_term F G then Some L else option_map (before F) (without_item L G)) (if b then Some (T L) else option_map (before (T F)) (without_item (T L) (T G)))) (sym (test_told F G first goal)) one)
  without_told L G list goal = (refl, tt)

  same_list_told : (M L : Read) → Closed M → Closed L → list_if_same (T M) (T L) ≡ option_map T (list_if_same M L)
  same_list_told M L first second = ap (λ b. if b then Some (T L) else None) (test_told L M second first) ∙ go (same_term L M)
    where
      go : (b : Bool) → (if b then Some (T L) else None) ≡ option_map T (if b then Some L else None)
      go true = refl
      go false = refl

  pub cut_told : (L G M : Read) → Closed L → Closed G → Closed M → cut_list (T L) (T G) (T M) ≡ option_map T (cut_list L G M)
  cut_told L G M list goal other = let w = without_told L G list goal in ap (option_and_then (list_if_same (T M))) w.0 ∙ go (without_item L G) w.1
    where
      go : (p : Option Read) → IfSome p Closed → option_and_then (list_if_same (T M)) (option_map T p) ≡ option_map T (option_and_then (list_if_same M) p)
      go None all = refl
      go (Some N) all = same_list_told M N other all

-- CONSTANTS THAT ARE REPLACED

module _ (f : ℕ → ℕ) where
  shift_head_told : (k : ℕ) (h : Head ℕ) → translate_head f (shift_head k h) ≡ shift_head k (translate_head f h)
  shift_head_told k (constant c) = refl
  shift_head_told k (logical l) = refl
  shift_head_told k (nominal a) = refl
  shift_head_told k (variable y) = refl
  shift_head_told k (index i) = refl

  same_name_told : (a : Nominal) (h : Head ℕ) → same_head (translate_head f h) (nominal a) ≡ same_head h (nominal a)
  same_name_told a (constant c) = refl
  same_name_told a (logical l) = refl
  same_name_told a (nominal b) = refl
  same_name_told a (variable y) = refl
  same_name_told a (index i) = refl

  close_head_told : (k : ℕ) (a : Nominal) (h : Head ℕ) → translate_head f (close_head k (nominal a) h) ≡ close_head k (nominal a) (translate_head f h)
  close_head_told k a h =
      go (same_head h (nominal a))
      ∙ ap (cond (same_head h (nominal a)) (index k)) (shift_head_told k h)
      ∙ ap (λ b. cond b (index k) (shift_head k (translate_head f h))) (sym (same_name_told a h))
    where
      go : (b : Bool) → translate_head f (cond b (index k) (shift_head k h)) ≡ cond b (index k) (translate_head f (shift_head k h))
      go true = refl
      go false = refl

  mutual
    close_told : (k : ℕ) (a : Nominal) (t : Read) → renumber f (close k (nominal a) t) ≡ close k (nominal a) (renumber f t)
    close_told k a (lam A x t) = ap (lam A x) (close_told (suc k) a t)
    close_told k a (spine h ts) =
        ap (λ g. spine g (translate_all f (λ x. x) (close_all k (nominal a) ts))) (close_head_told k a h) ∙ ap (spine (close_head k (nominal a) (translate_head f h))) (all_close_told k a ts)

    all_close_told : (k : ℕ) (a : Nominal) (ts : Terms ℕ (List ℕ)) → translate_all f (λ x. x) (close_all k (nominal a) ts) ≡ close_all k (nominal a) (translate_all f (λ x. x) ts)
    all_close_told k a no_terms = refl
    all_close_told k a (term t ts) = ap (λ u. term u (translate_all f (λ x. x) (close_all k (nominal a) ts))) (close_told k a t) ∙ ap (term (close k (nominal a) (renumber f t))) (all_close_told k a ts)

  abstracted_told : (x : List ℕ) (A : Ty) (ns : List Nominal) (t : Read) → renumber f (abstracted x A (map nominal ns) t) ≡ abstracted x A (map nominal ns) (renumber f t)
  abstracted_told x A [] t = refl
  abstracted_told x (kind k) (a ∷ ns) t = refl
  abstracted_told x (arrow A B) (a ∷ ns) t = ap (lam A x) (close_told zero a (abstracted x B (map nominal ns) t) ∙ ap (close zero (nominal a)) (abstracted_told x B ns t))

  abbrev pub replacement_told : Nominal × Read → Nominal × Read
  replacement_told r = (r.0, renumber f r.1)

  same_constants : (rs : List (Nominal × Read)) → map (λ (r : Nominal × Read). r.0) (map replacement_told rs) ≡ map (λ (r : Nominal × Read). r.0) rs
  same_constants [] = refl
  same_constants (r ∷ rs) = ap (λ l. r.0 ∷ l) (same_constants rs)

  same_terms : (rs : List (Nominal × Read)) → map (λ (r : Nominal × Read). r.1) (map replacement_told rs) ≡ map (renumber f) (map (λ (r : Nominal × Read). r.1) rs)
  same_terms [] = refl
  same_terms (r ∷ rs) = ap (λ l. renumber f r.1 ∷ l) (same_terms rs)

  pub replaced_told : (rs : List (Nominal × Read)) (F : Read) → renumber f (replace_constants rs F) ≡ replace_constants (map replacement_told rs) (renumber f F)
  replaced_told rs F =
      let ns = map (λ (r : Nominal × Read). r.0) rs in
      let us = map (λ (r : Nominal × Read). r.1) rs in
      translate-instance_by_all f (λ h. h) us (abstracted (codes "x") (over ns prop) (map nominal ns) F)
      ∙ ap (λ t. instance_by_all t (map (renumber f) us)) (abstracted_told (codes "x") (over ns prop) ns F)
      ∙ ap (instance_by_all (abstracted (codes "x") (over ns prop) (map nominal ns) (renumber f F))) (sym (same_terms rs))
      ∙ ap (λ ms. instance_by_all (abstracted (codes "x") (over ms prop) (map nominal ms) (renumber f F)) (map (λ (r : Nominal × Read). r.1) (map replacement_told rs))) (sym (same_constants rs))

  -- A LIST WITHIN ANOTHER

  abbrev within_by : Read → Read → Read
  within_by L K =
      let X = spine (index zero) no_terms in
      spine (logical (universal o)) (term (lam o (codes "X")
      (spine (logical implication) (term (spine (constant (codes "member")) (in_the_list X L)) (term (spine (constant (codes "member")) (in_the_list X K)) no_terms)))) no_terms)

  pub within_told : (L K : Read) → renumber f (is_within L K) ≡ is_within (renumber f L) (renumber f K)
  within_told L K =
      ap (λ M. within_by M (renumber f (shift zero K))) (translate-shift f (λ (x : List ℕ). x) L zero) ∙ ap (within_by (shift zero (renumber f L))) (translate-shift f (λ (x : List ℕ). x) K zero)

  -- LIST AND GOAL of a judgement without focus

  abbrev pub pair_told : Read × Read → Read × Read
  pair_told p = (renumber f p.0, renumber f p.1)

  unless_told : (o : Option Read) (L G : Read) → unless_focused (option_map (renumber f) o) (renumber f L, renumber f G) ≡ option_map pair_told (unless_focused o (L, G))
  unless_told None L G = refl
  unless_told (Some F) L G = refl

  parts_told : (o : Option Judgement) → parts_unfocused (option_map (renumbered_judgement f) o) ≡ option_map pair_told (parts_unfocused o)
  parts_told None = refl
  parts_told (Some j) = unless_told j.focus j.context j.goal

  pub unfocused_told : (F : Read) → as_unfocused (renumber f F) ≡ option_map pair_told (as_unfocused F)
  unfocused_told F = ap parts_unfocused (judgement_moved f F) ∙ parts_told (as_judgement F)
