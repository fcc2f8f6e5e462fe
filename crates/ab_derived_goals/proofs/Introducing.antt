-- WHAT IS TAKEN OFF A CONCLUSION is derived: step by step by the rules on the right.
use Rattle.std.specs.Prelude.{All, Contains}
use Rattle.std.proofs.Common.{◌≡◌, ℕ, List, [], ◌∷◌, length, refl, sym, ◌∙◌, ap, subst}
use Rattle.std.proofs.lemmas.List.Elements.{All-nil}
use Rattle.ab_term.specs.Types.{Ty}
use Rattle.ab_term.specs.Terms.{Nominal, Read}
use Rattle.ab_term.specs.Names.{IsOrderOf}
use Rattle.ab_term.specs.Substitution.{instance}
use Rattle.ab_term.proofs.Translations.{support-translate}
use Rattle.ab_formulas.specs.Declarations.{Declarations, signature_in}
use Rattle.ab_formulas.specs.Forms.{for_all_in, nabla_in, implies_in}
use Rattle.ab_formulas.specs.Sequents.{Sequent, IsSequent, HoldsOnly, goal_names, proving, assuming, over}
use Rattle.ab_formulas.specs.NewNames.{IsLeast, IsNoVariable}
use Rattle.ab_theory.specs.Steps.{arrow_right, for_all_right, nabla_right}
use Rattle.ab_theory.specs.Rules.{MayName, IsSupport, hint_of, name_term, raised, applied}
use Rattle.ab_theory.proofs.Naming.{named_new}
use Rattle.ab_theory.proofs.NewNumbers.{new_number}
use Rattle.ab_theory.proofs.RulesParts.{for_all_scope}
use Rattle.ab_theory.proofs.Sequents.{goal_of}
use Rattle.ab_search_proofs.proofs.Places.{some_cells}
use Rattle.ab_search_trees.proofs.MovedForms.{T, form_moved, form_renumbered}
use Rattle.ab_effects.specs.Introductions.{Introduced, first_label}
use Rattle.ab_effects.proofs.Namings.{no_variable}
use Rattle.ab_effects.proofs.Renumbered.{moved_goal}
use Rattle.ab_effects.proofs.Following.{goal_names_moved, assuming_moved}
use Rattle.ab_derived_goals.specs.Derived.{AreSound, IsDerivedAlike}
use Rattle.ab_derived_goals.proofs.Itself.{as_it_is, as_it_is_apart, goal_itself}
use Rattle.ab_derived_goals.proofs.Moving.{TellsApart, names_moved, same_names, constant_moved, closed_before}
use Rattle.ab_derived_goals.proofs.Opening.{taken_there, closed_goal_before}
use Rattle.ab_derived_goals.proofs.Reaching.{Reaches, reached, reaches_by, reaches_same}

module _ (f : ℕ → ℕ) (s : Sequent) (F : Read) (A : Ty) where
  may_name_moved : (n : ℕ) → MayName s F A n → MayName (moved_goal f s) (T f F) A n
  may_name_moved n m = record {
    positive = m.positive;
    outside = λ c. m.outside (subst (λ l. Contains l (record { number = n; type = A })) (support-translate f (λ (x : List ℕ). x) F) c);
    one_type = subst (All (λ (b : Nominal). b.number ≡ n → b.type ≡ A)) (sym (goal_names_moved f s)) m.one_type;
  }

  may_name_before : (n : ℕ) → MayName (moved_goal f s) (T f F) A n → MayName s F A n
  may_name_before n m = record {
    positive = m.positive;
    outside = λ c. m.outside (subst (λ l. Contains l (record { number = n; type = A })) (sym (support-translate f (λ (x : List ℕ). x) F)) c);
    one_type = subst (All (λ (b : Nominal). b.number ≡ n → b.type ≡ A)) (goal_names_moved f s) m.one_type;
  }

  pub least_name_moved : (n : ℕ) → IsLeast (MayName s F A) n → IsLeast (MayName (moved_goal f s) (T f F) A) n
  least_name_moved n least = record { has = may_name_moved n least.has; first = λ m l h. least.first m l (may_name_before m h) }

module _ (D : Declarations) (sound : AreSound D) where
  pub introduced : {xs ys : List (List ℕ)} {s u : Sequent} → Introduced D xs s ys u → (f : ℕ → ℕ) → TellsApart f → IsSequent D (moved_goal f s) → Reaches D (moved_goal f s) u
  introduced (Introduced.none {s = s} kept) f apart is = record { goal = moved_goal f s; by = f; apart = apart; is = refl; goes = λ ps ts k. k is }
  introduced (Introduced.variable {s = s} {v = v} {u = u} {A = A} {t = t} {G = G} e k d) f apart is =
      let w = moved_goal f s in
      let C = T f s.conclusion in
      let at = some_cells w is.numbers_differ in
      let n = length at.0 in
      let is_all = ap for_all_in (form_moved f s.conclusion ∙ ap (form_renumbered f) e) in
      let scope = for_all_scope (signature_in D) w.variables (goal_names w) C (A, T f t) (goal_of D w is).conclusion is_all in
      let there = taken_there D f apart s v s.conclusion t G A [] k n (new_number at.0 w at.1) (closed_goal_before f apart s is.closed) (closed_before f apart s.variables t scope.put.closed) (All-nil (HoldsOnly s.variables)) in
      let x = raised n k.name A k.names in
      let name : IsNoVariable w k.name = no_variable s w k.name (same_names f s) (named_new D s (hint_of t) k.name k.named) in
      let supported : IsSupport C k.names = subst (IsOrderOf k.names) (sym (support-translate f (λ (y : List ℕ). y) s.conclusion)) k.support_is in
      let goal = proving (instance (T f t) (applied x k.names)) (over x w) in
      let same : moved_goal there.by (proving G v) ≡ goal = ap (λ F. proving F (moved_goal there.by v)) there.body ∙ ap (proving (instance (T f t) (applied x k.names))) there.goal in
      reaches_by D sound for_all_right w goal u is refl (at.0, at.1, ((A, T f t), is_all, ((k.names, k.name), (supported, name), refl)))
      (λ it. reaches_same D goal (moved_goal there.by (proving G v)) u same (introduced d there.by there.apart (subst (IsSequent D) (sym same) it)))
  introduced (Introduced.constant {s = s} {u = u} {A = A} {t = t} {n = n} e least d) f apart is =
      let w = moved_goal f s in
      let a : Nominal = record { number = n; type = A } in
      let at = some_cells w is.numbers_differ in
      let is_nabla = ap nabla_in (form_moved f s.conclusion ∙ ap (form_renumbered f) e) in
      let goal = proving (instance (T f t) (name_term a)) w in
      let same : moved_goal f (proving (instance t (name_term a)) s) ≡ goal = ap (λ F. proving F w) (constant_moved f t a) in
      reaches_by D sound nabla_right w goal u is refl (at.0, at.1, ((A, T f t), is_nabla, (n, least_name_moved f s s.conclusion A n least, refl)))
      (λ it. reaches_same D goal (moved_goal f (proving (instance t (name_term a)) s)) u same (introduced d f apart (subst (IsSequent D) (sym same) it)))
  introduced (Introduced.hypothesis {xs = xs} {s = s} {u = u} {A = A} {B = B} x v e names d) f apart is =
      let w = moved_goal f s in
      let at = some_cells w is.numbers_differ in
      let is_arrow = ap implies_in (form_moved f s.conclusion ∙ ap (form_renumbered f) e) in
      let goal = proving (T f B) (assuming x (T f A) (moved_goal f v)) in
      let same : moved_goal f (proving B (assuming x A v)) ≡ goal = ap (proving (T f B)) (assuming_moved f x A v) in
      reaches_by D sound (arrow_right (first_label xs)) w goal u is refl (at.0, at.1, ((T f A, T f B), is_arrow, (x, moved_goal f v, names_moved f (first_label xs) s v x names, refl)))
      (λ it. reaches_same D goal (moved_goal f (proving B (assuming x A v))) u same (introduced d f apart (subst (IsSequent D) (sym same) it)))

  -- from the goal itself
  pub taken_off : {xs ys : List (List ℕ)} (s u : Sequent) → IsSequent D s → Introduced D xs s ys u → IsDerivedAlike D s (u ∷ []) []
  taken_off s u is d =
      let r : Reaches D (moved_goal as_it_is s) u = introduced d as_it_is as_it_is_apart (subst (IsSequent D) (sym (goal_itself s)) is) in
      let v = reached D s u (subst (λ t. Reaches D t u) (goal_itself s) r) in
      (v.0 ∷ [], v.1, ap (λ g. g ∷ []) v.2)
