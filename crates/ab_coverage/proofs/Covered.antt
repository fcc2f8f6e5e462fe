-- Cover, by the ways in which an instance of a judgement comes.
use Rattle.std.proofs.Common.{◌≡◌, ℕ, zero, List, [], ◌∷◌, map, Bool, true, false, Option, Some, None, option_map, refl, sym, ◌∙◌, ap, subst}
use Rattle.std.specs.Prelude.{All, Contains}
use Rattle.std.proofs.lemmas.List.Elements.{All-head, All-tail, All-cons, All-nil, All-contains}
use Rattle.ab_term.specs.Types.{o}
use Rattle.ab_term.specs.Logical.{existential}
use Rattle.ab_term.specs.Terms.{Nominal, Variable, constant, logical, Term, lam, spine, Terms, no_terms, term}
use Rattle.ab_term.specs.Typing.{Signature, HasType, TakeType}
use Rattle.ab_term.specs.Substitution.{substitute}
use Rattle.ab_term.specs.Translation.{forget, forget_all}
use Rattle.ab_term.specs.Names.{support}
use Rattle.ab_term.specs.Variables.{Substitution, variables, value_in, image, image_all, image_by}
use Rattle.ab_term.specs.Sameness.{same_number}
use Rattle.ab_term.proofs.Depends.{image_rigid}
use Rattle.ab_term.proofs.Lists.{All-from_contains, Contains-none}
use Rattle.ab_term.proofs.Standing.{Has, AllHave}
use Rattle.ab_term.proofs.Stands.{has}
use Rattle.ab_term.proofs.Translations.{translate-shift, translate-substitute}
use Rattle.ab_unifiers.specs.Replacements.{Cell, holds}
use Rattle.ab_unifiers.specs.Unification.{Equation}
use Rattle.ab_unifiers.specs.Unifiers.{AreTyped, AreOver, IsOver, AreKnown, Unifies, sides}
use Rattle.ab_unifiers.proofs.Agreeing.{contains_holds}
use Rattle.ab_unifiers.specs.Alternatives.{arguments_equal}
use Rattle.ab_unifiers.specs.Clauses.{Within}
use Rattle.ab_unifiers.specs.Prefixes.{arguments_of}
use Rattle.ab_unifiers.proofs.Constants as names
use Rattle.ab_unifiers.proofs.Sides.{arguments_typed, arguments_unify, arguments_over, EachTerm, all_sides}
use Rattle.ab_unifiers.proofs.Unifier as cases
use Rattle.ab_coverage.proofs.IndexedGoals.{is_nil, for_some}
use Rattle.ab_coverage.proofs.IndexedSpecClauses.{SpecClause, clause_image}
use Rattle.ab_coverage.proofs.IndexedInstances.{IsProgramClause}
use Rattle.ab_coverage.proofs.IndexedCovering.{taken_off}
use Rattle.ab_coverage.proofs.Nearly.{Nearly, alike, inside, left_out, right_out}
use Rattle.ab_coverage.proofs.Cases.{Over, variables_held, constants_held}
use Rattle.ab_coverage.proofs.Parts.{IsPart}

-- a problem that has this unifier
pub record IsRight (sg : Signature) {Hint : Type 0} (cells : List (Cell Hint)) (S : List Nominal) (U : Substitution ℕ Hint) (es : List (Equation Hint)) : Type 0 where
  pub typed : AreTyped sg es
  pub over : AreOver cells es
  pub hold : All (names.Has (λ a. Contains S a)) (sides es)
  pub unifies : Unifies U es

module _ (sg : Signature) {Hint : Type 0} (x : Hint) (cells : List (Cell Hint)) (S : List Nominal) (W : List (Variable ℕ)) (known : AreKnown cells W) (U : Substitution ℕ Hint) where
  over_term : (t : Term ℕ Hint) → Has (Over S W) t → IsOver cells t
  over_term t h y e = known y (variables_held S W t h y e)

  hold_term : (t : Term ℕ Hint) → Has (Over S W) t → names.Has (λ a. Contains S a) t
  hold_term t h = constants_held S W t h

  each_over : (ts : Terms ℕ Hint) → AllHave (Over S W) ts → EachTerm sg x (IsOver cells) ts
  each_over no_terms h = tt
  each_over (term t ts) h = (over_term t h.0, each_over ts h.1)

  each_held : (ts : Terms ℕ Hint) → AllHave (Over S W) ts → EachTerm sg x (names.Has (λ a. Contains S a)) ts
  each_held no_terms h = tt
  each_held (term t ts) h = (hold_term t h.0, each_held ts h.1)

  -- the arguments of two atoms with one head
  pub arguments_right : (p : List ℕ) (ts : Terms ℕ Hint) → HasType sg [] (spine (constant p) ts) o → Has (Over S W) (spine (constant p) ts)
      → (b : Term ℕ Hint) (us : Terms ℕ Hint) → b ≡ spine (constant p) us → HasType sg [] b o → Has (Over S W) b
      → forget (image same_number U (spine (constant p) ts)) ≡ forget (image same_number U b) → IsRight sg cells S U (arguments_equal x 0 ts (arguments_of b))
  arguments_right p ts d h b us is e k same =
      let right_typed : HasType sg [] (spine (constant p) us) o = subst (λ t. HasType sg [] t o) is e in
      let right_has : Has (Over S W) (spine (constant p) us) = subst (Has (Over S W)) is k in
      let equal : forget (image same_number U (spine (constant p) ts)) ≡ forget (image same_number U (spine (constant p) us)) = same ∙ ap (λ t. forget (image same_number U t)) is in
      let inner : forget_all (image_all same_number U ts) ≡ forget_all (image_all same_number U us) = cc in
      let atom = cases.arguments_of sg x d in
      let head = cases.arguments_of sg x right_typed in
      let some : Some head.0 ≡ Some atom.0 = sym head.1 ∙ atom.1 in
      let one : head.0 ≡ atom.0 = cc in
      subst (λ t. IsRight sg cells S U (arguments_equal x 0 ts (arguments_of t))) (sym is) (record {
        typed = arguments_typed sg x 0 ts us atom.2 (subst (λ D. TakeType sg [] us D o) one head.2);
        over = arguments_over sg x cells 0 ts us (each_over ts h.1) (each_over us right_has.1);
        hold = all_sides sg x (names.Has (λ a. Contains S a)) 0 ts us (each_held ts h.1) (each_held us right_has.1);
        unifies = arguments_unify sg x U 0 ts us inner;
      })

  -- two atoms
  pub atoms_right : (t b : Term ℕ Hint) → HasType sg [] t o → Has (Over S W) t → HasType sg [] b o → Has (Over S W) b → forget (image same_number U t) ≡ forget (image same_number U b)
      → IsRight sg cells S U (record { place = 0; left = t; right = b } ∷ [])
  atoms_right t b d h e k same = record {
    typed = (([], o, d, e), tt);
    over = (over_term t h, over_term b k, tt);
    hold = All-cons (names.Has (λ a. Contains S a)) t (b ∷ []) (hold_term t h) (All-cons (names.Has (λ a. Contains S a)) b [] (hold_term b k) (All-nil (names.Has (λ a. Contains S a))));
    unifies = (same, tt);
  }

module _ {Hint : Type 0} where
  -- a term of a sequent
  pub over_of : (S : List Nominal) (V : List (Variable ℕ)) (t : Term ℕ Hint) → ((a : Nominal) → Contains (support t) a → Contains S a) → Within (variables t) V → Has (Over S V) t
  over_of S V t f g = has (Contains S) (λ y. holds V y ≡ true) t f (λ y m. g y (contains_holds (variables t) y m))

  -- a term without variables and nominal constants
  closed_over : (S : List Nominal) (V : List (Variable ℕ)) (t : Term ℕ Hint) → variables t ≡ [] → support t ≡ [] → Has (Over S V) t
  closed_over S V t e h = has (Contains S) (λ y. holds V y ≡ true) t (λ a m. absurd (Contains-none a (subst (λ l. Contains l a) h m))) (λ y m. absurd (Contains-none y (subst (λ l. Contains l y) e m)))

  pub program_part : (sg : Signature) (S : List Nominal) (V : List (Variable ℕ)) (c : SpecClause Hint) → IsProgramClause sg c → IsPart sg (Over S V) [] c
  program_part sg S V c w = record {
    atom = w.atom;
    goals = w.goals;
    atom_has = closed_over S V c.atom w.atom_closed.0 w.atom_closed.1;
    goals_have = All-from_contains (Has (Over S V)) c.goals (λ G m. let k = All-contains (λ G. (variables G ≡ []) × (support G ≡ [])) c.goals G w.goals_closed m in closed_over S V G k.0 k.1);
  }

  goals_stay : (s : Substitution ℕ Hint) (Gs : List (Term ℕ Hint)) → All (λ G. (variables G ≡ []) × (support G ≡ [])) Gs → map (image same_number s) Gs ≡ Gs
  goals_stay s [] all = refl
  goals_stay s (G ∷ Gs) all =
      ap (λ H. H ∷ map (image same_number s) Gs) (image_rigid (value_in same_number s) G (All-head (λ G. (variables G ≡ []) × (support G ≡ [])) G Gs all).0)
      ∙ ap (λ l. G ∷ l) (goals_stay s Gs (All-tail (λ G. (variables G ≡ []) × (support G ≡ [])) G Gs all))

  pub program_stays : (sg : Signature) (s : Substitution ℕ Hint) (c : SpecClause Hint) → IsProgramClause sg c → clause_image s c ≡ c
  program_stays sg s c w =
      ap (λ l. record { binders = c.binders; goals = l; atom = image same_number s c.atom }) (goals_stay s c.goals w.goals_closed)
      ∙ ap (λ t. record { binders = c.binders; goals = c.goals; atom = t }) (image_rigid (value_in same_number s) c.atom w.atom_closed.0)

  pub nil_stays : (f : Variable ℕ → Option (Term ℕ Hint)) (L : Term ℕ Hint) → is_nil L ≡ true → is_nil (image_by f L) ≡ true
  nil_stays f (spine (constant c) ts) e = e
  nil_stays f L e = absurd (let bad : false ≡ true = e in cc)

  -- past hints
  pub nearly-forget : {t u : Term ℕ Hint} → Nearly t u → Nearly (forget t) (forget u)
  nearly-forget alike = alike
  nearly-forget (inside n) = inside (nearly-forget n)
  nearly-forget (left_out {A = A} {x = x} {t = t} {u = u} n) = subst (λ w. Nearly (for_some A tt w) (forget u)) (sym (translate-shift (λ v. v) (λ h. tt) t zero)) (left_out (nearly-forget n))
  nearly-forget (right_out {A = A} {x = x} {t = t} {u = u} n) = subst (λ w. Nearly (forget t) (for_some A tt w)) (sym (translate-shift (λ v. v) (λ h. tt) u zero)) (right_out (nearly-forget n))

  pub taken-forget : (es : List Bool) (ks : List (Option (Term ℕ Hint))) (B : Term ℕ Hint) → forget (taken_off es ks B) ≡ taken_off es (map (option_map forget) ks) (forget B)
  taken-forget (false ∷ es) (k ∷ ks) B = taken-forget es ks B
  taken-forget (true ∷ es) (None ∷ ks) (spine (logical (existential A)) (term (lam C x F) no_terms)) = ap (λ t. spine (logical (existential A)) (term (lam C tt t) no_terms)) (taken-forget es ks F)
  taken-forget (true ∷ es) (Some k ∷ ks) (spine (logical (existential A)) (term (lam C x F) no_terms)) =
      translate-substitute (λ v. v) (λ h. tt) A k zero (taken_off es ks F) ∙ ap (substitute A (forget k) zero) (taken-forget es ks F)
  taken-forget es ks B = refl
