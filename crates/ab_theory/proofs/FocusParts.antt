-- THE PARTS OF A FORMULA IN FOCUS, typed and known, with variables for their names.
use Rattle.std.proofs.Common.{◌≡◌, inl, inr, ℕ, zero, suc, ◌+◌, List, [], ◌∷◌, ◌++◌, map, length, codes, Some, refl, sym, ◌∙◌, subst, arith}
use Rattle.std.specs.Prelude.{Contains}
use Rattle.ab_term.specs.Types.{Ty, arrow, arrows, o}
use Rattle.ab_term.specs.Logical.{spec_universal, spec_implication, spec_conjunction}
use Rattle.ab_term.specs.Terms as tree
use Rattle.ab_term.specs.Terms.{Nominal, Head, constant, logical, nominal, variable, index, lam, spine, Terms, no_terms, term, terms_of, Read}
use Rattle.ab_term.specs.Typing.{Signature, head_type, HasType, TakeType, typed_lam, typed_spine, take_none, take_term}
use Rattle.ab_term.specs.Expansion.{expansion}
use Rattle.ab_term.specs.Reach.{raise}
use Rattle.ab_term.proofs.Lists.{Contains-none, Contains-here, Contains-there, Contains-cases}
use Rattle.ab_term.proofs.Expansions.{expansion_typed}
use Rattle.ab_term.proofs.Preservation.{here, shift_typed, instance_by_all_typed}
use Rattle.ab_term.proofs.Reaching.{raise-none, raise-more}
use Rattle.ab_term.proofs.Stands.{variables-expansion_of, support-expansion_of}
use Rattle.ab_unifiers.specs.Replacements.{Cell}
use Rattle.ab_unifiers.specs.Prefixes.{own_terms}
use Rattle.ab_formulas.specs.Sequents.{Variable, in_terms}
use Rattle.ab_theory.specs.Equations.{variables_from}
use Rattle.ab_theory.specs.Parts.{Part, under_name, with_goal, parts_of, under_all, put_under}
use Rattle.ab_theory.proofs.Known.{Known, AllKnown, known_first, known_second, known_body, known_raise, known_by_all}
use Rattle.ab_theory.proofs.Demanded.{IsKnown, AllGoals}

-- the types of names
abbrev pub types_of : List (Cell (List ℕ)) → List Ty
types_of [] = []
types_of (c ∷ cs) = c.type ∷ types_of cs

-- the bound names under which a part stands
abbrev pub inside : List (Cell (List ℕ)) → List Ty → List Ty
inside [] G = G
inside (c ∷ cs) G = inside cs (c.type ∷ G)

module _ (sg : Signature) where
  under_typed : (cs : List (Cell (List ℕ))) (G : List Ty) (t : Read) → HasType sg (inside cs G) t o → HasType sg G (under_all cs t) (arrows (types_of cs) o)
  under_typed [] G t d = d
  under_typed (c ∷ cs) G t d = typed_lam (under_typed cs (c.type ∷ G) t d)

  raised_typed : (cs : List (Cell (List ℕ))) (G : List Ty) (d : ℕ) (t : Read) → HasType sg G (raise d zero t) o → HasType sg (inside cs G) (raise (length cs + d) zero t) o
  raised_typed [] G d t e = let same : d ≡ zero + d = omega arith in subst (λ k. HasType sg {Var = ℕ} {Hint = List ℕ} G (raise k zero t) o) same e
  raised_typed (c ∷ cs) G d t e =
      let count : length cs + suc d ≡ suc (length cs) + d = omega arith in
      subst (λ k. HasType sg (inside cs (c.type ∷ G)) (raise k zero t) o) count
      (raised_typed cs (c.type ∷ G) (suc d) t (subst (λ u. HasType sg {Var = ℕ} {Hint = List ℕ} (c.type ∷ G) u o) (sym (raise-more t d zero)) (shift_typed sg here e)))

  goal_inside : (cs : List (Cell (List ℕ))) (G : List Ty) (t : Read) → HasType sg G t o → HasType sg (inside cs G) (raise (length cs) zero t) o
  goal_inside cs G t d =
      let count : length cs + zero ≡ length cs = omega arith in
      subst (λ k. HasType sg (inside cs G) (raise k zero t) o) count (raised_typed cs G zero t (subst (λ u. HasType sg G u o) (sym (raise-none t zero)) d))

  abbrev AllInside : List Ty → List Read → Type 0
  AllInside G [] = Unit {0}
  AllInside G (t ∷ ts) = HasType sg G t o × AllInside G ts

  record IsTypedPart (G : List Ty) (p : Part) : Type 0 where
    pub atom : HasType sg (inside p.names G) p.atom o
    pub goals : AllInside (inside p.names G) p.goals

  abbrev AllTypedParts : List Ty → List Part → Type 0
  AllTypedParts G [] = Unit {0}
  AllTypedParts G (p ∷ ps) = IsTypedPart G p × AllTypedParts G ps

  typed_both : (G : List Ty) (ps qs : List Part) → AllTypedParts G ps → AllTypedParts G qs → AllTypedParts G (ps ++ qs)
  typed_both G [] qs a b = b
  typed_both G (p ∷ ps) qs a b = (a.0, typed_both G ps qs a.1 b)

  named_parts : (G : List Ty) (c : Cell (List ℕ)) (ps : List Part) → AllTypedParts (c.type ∷ G) ps → AllTypedParts G (map (under_name c) ps)
  named_parts G c [] a = tt
  named_parts G c (p ∷ ps) a = (record { atom = (a.0).atom; goals = (a.0).goals }, named_parts G c ps a.1)

  goal_parts : (G : List Ty) (F : Read) (ps : List Part) → HasType sg G F o → AllTypedParts G ps → AllTypedParts G (map (with_goal F) ps)
  goal_parts G F [] d a = tt
  goal_parts G F (p ∷ ps) d a = (record { atom = (a.0).atom; goals = (goal_inside p.names G F d, (a.0).goals) }, goal_parts G F ps d a.1)

  scope_typed : {G : List Ty} {A B : Ty} {x : List ℕ} {g : Read} → HasType sg G (spine (logical (spec_universal A)) (term (lam B x g) no_terms)) o → HasType sg (A ∷ G) g o
  scope_typed {G = G} {A = A} {g = g} (typed_spine {A = C} e (take_term {A = D} {B = E} (typed_lam {A = F} {B = Y} d) take_none)) =
      let whole : arrow (arrow A o) o ≡ C = cc in
      let domain : A ≡ F = cc in
      let range : o ≡ Y = cc in
      let there : HasType sg {Var = ℕ} {Hint = List ℕ} (F ∷ G) g o = subst (HasType sg {Var = ℕ} {Hint = List ℕ} (F ∷ G) g) (sym range) d in
      subst (λ Z. HasType sg {Var = ℕ} {Hint = List ℕ} (Z ∷ G) g o) (sym domain) there

  sides_typed : {G : List Ty} {l : Head ℕ} {F g : Read} → head_type sg G l ≡ Some (arrows (o ∷ o ∷ []) o) → HasType sg G (spine l (term F (term g no_terms))) o → HasType sg G F o × HasType sg G g o
  sides_typed {G = G} {F = F} {g = g} h (typed_spine {A = C} e (take_term {A = D} d (take_term {A = E} b take_none))) =
      let whole : Some C ≡ Some (arrows (o ∷ o ∷ []) o) = sym e ∙ h in
      let first : D ≡ o = cc in
      let second : E ≡ o = cc in
      (subst (HasType sg {Var = ℕ} {Hint = List ℕ} G F) first d, subst (HasType sg {Var = ℕ} {Hint = List ℕ} G g) second b)

  parts_typed : (G : List Ty) (F : Read) → HasType sg G F o → AllTypedParts G (parts_of F)
  parts_typed G (spine (logical (spec_universal A)) (term (lam B x F) no_terms)) d = named_parts G (record { hint = x; type = A }) (parts_of F) (parts_typed (A ∷ G) F (scope_typed d))
  parts_typed G (spine (logical spec_implication) (term H (term F no_terms))) d = let s = sides_typed refl d in goal_parts G H (parts_of F) s.0 (parts_typed G F s.1)
  parts_typed G (spine (logical spec_conjunction) (term E (term F no_terms))) d = let s = sides_typed refl d in typed_both G (parts_of E) (parts_of F) (parts_typed G E s.0) (parts_typed G F s.1)
  parts_typed G A d = (record { atom = d; goals = tt }, tt)

-- known

module _ (P : tree.Variable ℕ → Type 0) (M : List Nominal) where
  record IsKnownPart (p : Part) : Type 0 where
    pub atom : Known P M p.atom
    pub goals : AllKnown P M p.goals

  abbrev AllKnownParts : List Part → Type 0
  AllKnownParts [] = Unit {0}
  AllKnownParts (p ∷ ps) = IsKnownPart p × AllKnownParts ps

  known_both : (ps qs : List Part) → AllKnownParts ps → AllKnownParts qs → AllKnownParts (ps ++ qs)
  known_both [] qs a b = b
  known_both (p ∷ ps) qs a b = (a.0, known_both ps qs a.1 b)

  known_named : (c : Cell (List ℕ)) (ps : List Part) → AllKnownParts ps → AllKnownParts (map (under_name c) ps)
  known_named c [] a = tt
  known_named c (p ∷ ps) a = (record { atom = (a.0).atom; goals = (a.0).goals }, known_named c ps a.1)

  known_goal : (F : Read) (ps : List Part) → Known P M F → AllKnownParts ps → AllKnownParts (map (with_goal F) ps)
  known_goal F [] k a = tt
  known_goal F (p ∷ ps) k a = (record { atom = (a.0).atom; goals = (known_raise P M (length p.names) F k, (a.0).goals) }, known_goal F ps k a.1)

  parts_known : (F : Read) → Known P M F → AllKnownParts (parts_of F)
  parts_known (spine (logical (spec_universal A)) (term (lam B x F) no_terms)) k =
      known_named (record { hint = x; type = A }) (parts_of F) (parts_known F (known_body P M B x F (known_first P M (spec_universal A) (lam B x F) no_terms k)))
  parts_known (spine (logical spec_implication) (term H (term F no_terms))) k = known_goal H (parts_of F) (known_first P M spec_implication H (term F no_terms) k) (parts_known F (known_second P M spec_implication H F k))
  parts_known (spine (logical spec_conjunction) (term E (term F no_terms))) k = known_both (parts_of E) (parts_of F) (parts_known E (known_first P M spec_conjunction E (term F no_terms) k)) (parts_known F (known_second P M spec_conjunction E F k))
  parts_known A k = (record { atom = k; goals = tt }, tt)

  known_under_all : (cs : List (Cell (List ℕ))) (t : Read) → Known P M t → Known P M (under_all cs t)
  known_under_all [] t k = k
  known_under_all (c ∷ cs) t k = let r = known_under_all cs t k in record { over = r.over; names = r.names }

-- WITH VARIABLES for the names

module _ (sg : Signature) (P : tree.Variable ℕ → Type 0) (M : List Nominal) where
  own_taken : (n : ℕ) (cs : List (Cell (List ℕ))) → TakeType sg [] (terms_of (own_terms (codes "x") (map in_terms (variables_from n cs)))) (arrows (types_of cs) o) o
  own_taken n [] = take_none
  own_taken n (c ∷ cs) = take_term (expansion_typed sg (codes "x") c.type [] (variable (record { name = n; type = c.type })) refl) (own_taken (n + 1) cs)

  pub own_known : (y : Variable) → P (in_terms y) → Known P M (expansion (codes "x") y.type (variable (in_terms y)))
  own_known y p = record {
    over = λ z m. elim (Contains-cases (in_terms y) [] z (subst (λ l. Contains l z) (variables-expansion_of (codes "x") y.type (variable (in_terms y)) no_terms) m)) [ inl e ↦ subst P e p | inr n ↦ absurd (Contains-none z n) ];
    names = λ a m. absurd (Contains-none a (subst (λ l. Contains l a) (support-expansion_of (codes "x") y.type (variable (in_terms y)) no_terms) m));
  }

  pub all_own_known : (ys : List Variable) → ((y : Variable) → Contains ys y → P (in_terms y)) → AllKnown P M (own_terms (codes "x") (map in_terms ys))
  all_own_known [] f = tt
  all_own_known (y ∷ ys) f = (own_known y (f y (Contains-here y ys)), all_own_known ys (λ z m. f z (Contains-there y ys z m)))

  module _ (n : ℕ) (cs : List (Cell (List ℕ))) (these : (y : Variable) → Contains (variables_from n cs) y → P (in_terms y)) where
    abbrev pub Us : List Read
    Us = own_terms (codes "x") (map in_terms (variables_from n cs))

    put_known : (t : Read) → HasType sg (inside cs []) t o → Known P M t → IsKnown sg P M o (put_under cs Us t)
    put_known t d k = record {
      typed = instance_by_all_typed sg Us (under_typed sg cs [] t d) (own_taken n cs);
      known = known_by_all P M Us (under_all cs t) (known_under_all P M cs t k) (all_own_known (variables_from n cs) these);
    }

    goals_put : (ts : List Read) → AllInside sg (inside cs []) ts → AllKnown P M ts → AllGoals sg P M (map (put_under cs Us) ts)
    goals_put [] d k = tt
    goals_put (t ∷ ts) d k = (put_known t d.0 k.0, goals_put ts d.1 k.1)

  -- a part with variables for its names: the atom, and the goals
  one_of_parts : (ps : List Part) → AllTypedParts sg [] ps → AllKnownParts P M ps → (p : Part) → Contains ps p → IsTypedPart sg [] p × IsKnownPart P M p
  one_of_parts [] a b p m = absurd (Contains-none p m)
  one_of_parts (q ∷ ps) a b p m = elim (Contains-cases q ps p m) [
    | inl e ↦ subst (λ r. IsTypedPart sg [] r × IsKnownPart P M r) e (a.0, b.0)
    | inr n ↦ one_of_parts ps a.1 b.1 p n
  ]

  pub part_put : (F : Read) → IsKnown sg P M o F → (p : Part) → Contains (parts_of F) p → (n : ℕ) (these : (y : Variable) → Contains (variables_from n p.names) y → P (in_terms y))
      → IsKnown sg P M o (put_under p.names (own_terms (codes "x") (map in_terms (variables_from n p.names))) p.atom) × AllGoals sg P M (map (put_under p.names (own_terms (codes "x") (map in_terms (variables_from n p.names)))) p.goals)
  part_put F f p m n these =
      let w = one_of_parts (parts_of F) (parts_typed sg [] F f.typed) (parts_known P M F f.known) p m in
      (put_known n p.names these p.atom (w.0).atom (w.1).atom, goals_put n p.names these p.goals (w.0).goals (w.1).goals)
