-- The parts of a formula in focus, under binders for all their names: typed, and over variables that there were.
use Rattle.std.proofs.Common.{◌≡◌, inl, inr, ℕ, zero, suc, ◌+◌, ◌<◌, List, [], ◌∷◌, ◌++◌, map, length, Some, refl, sym, ◌∙◌, subst, arith}
use Rattle.std.specs.Prelude.{Contains}
use Rattle.ab_term.specs.Types.{Ty, arrow, arrows, o}
use Rattle.ab_term.specs.Logical.{spec_universal, spec_implication, spec_conjunction}
use Rattle.ab_term.specs.Terms as tree
use Rattle.ab_term.specs.Terms.{Nominal, Head, logical, lam, spine, no_terms, term, Read}
use Rattle.ab_term.specs.Typing.{Signature, head_type, HasType, typed_lam, typed_spine, take_none, take_term}
use Rattle.ab_term.specs.Names.{support}
use Rattle.ab_term.specs.Reach.{raise}
use Rattle.ab_term.proofs.Lists.{Contains-none, Contains-cases}
use Rattle.ab_term.proofs.Preservation.{here, shift_typed}
use Rattle.ab_term.proofs.Reaching.{raise-none, raise-more}
use Rattle.ab_unifiers.specs.Replacements.{Cell}
use Rattle.ab_theory.specs.Parts.{Part, under_name, with_goal, parts_of, under_all}
use Rattle.ab_theory.proofs.FocusParts.{types_of, inside}
use Rattle.ab_theory.proofs.Known.{Known, known_first, known_second, known_body, known_raise}
use Rattle.ab_judgement_forms.proofs.StandIns.{IsBelow, IsScope, AllScopes}

module _ (sg : Signature) (n : ℕ) (M : List Nominal) where
  abbrev IsKnown : Read → Type 0
  IsKnown t = Known (λ (y : tree.Variable ℕ). y.name < n) M t

  -- a formula under these names
  abbrev IsFine : List Ty → Read → Type 0
  IsFine G t = HasType sg G t o × IsKnown t

  abbrev AllFine : List Ty → List Read → Type 0
  AllFine G [] = Unit {0}
  AllFine G (t ∷ ts) = IsFine G t × AllFine G ts

  abbrev IsFinePart : List Ty → Part → Type 0
  IsFinePart G p = IsFine (inside p.names G) p.atom × AllFine (inside p.names G) p.goals

  abbrev AllFineParts : List Ty → List Part → Type 0
  AllFineParts G [] = Unit {0}
  AllFineParts G (p ∷ ps) = IsFinePart G p × AllFineParts G ps

  raised : (cs : List (Cell (List ℕ))) (G : List Ty) (d : ℕ) (t : Read) → HasType sg G (raise d zero t) o → HasType sg (inside cs G) (raise (length cs + d) zero t) o
  raised [] G d t e = let same : d ≡ zero + d = omega arith in subst (λ k. HasType sg {Var = ℕ} {Hint = List ℕ} G (raise k zero t) o) same e
  raised (c ∷ cs) G d t e =
      let count : length cs + suc d ≡ suc (length cs) + d = omega arith in
      subst (λ k. HasType sg (inside cs (c.type ∷ G)) (raise k zero t) o) count
      (raised cs (c.type ∷ G) (suc d) t (subst (λ u. HasType sg {Var = ℕ} {Hint = List ℕ} (c.type ∷ G) u o) (sym (raise-more t d zero)) (shift_typed sg here e)))

  fine_inside : (cs : List (Cell (List ℕ))) (G : List Ty) (t : Read) → IsFine G t → IsFine (inside cs G) (raise (length cs) zero t)
  fine_inside cs G t f =
      let count : length cs + zero ≡ length cs = omega arith in
      (subst (λ k. HasType sg (inside cs G) (raise k zero t) o) count (raised cs G zero t (subst (λ u. HasType sg G u o) (sym (raise-none t zero)) f.0)), known_raise (λ (y : tree.Variable ℕ). y.name < n) M (length cs) t f.1)

  both_parts : (G : List Ty) (ps qs : List Part) → AllFineParts G ps → AllFineParts G qs → AllFineParts G (ps ++ qs)
  both_parts G [] qs a b = b
  both_parts G (p ∷ ps) qs a b = (a.0, both_parts G ps qs a.1 b)

  named_parts : (G : List Ty) (c : Cell (List ℕ)) (ps : List Part) → AllFineParts (c.type ∷ G) ps → AllFineParts G (map (under_name c) ps)
  named_parts G c [] a = tt
  named_parts G c (p ∷ ps) a = (a.0, named_parts G c ps a.1)

  goal_parts : (G : List Ty) (F : Read) (ps : List Part) → IsFine G F → AllFineParts G ps → AllFineParts G (map (with_goal F) ps)
  goal_parts G F [] f a = tt
  goal_parts G F (p ∷ ps) f a = (((a.0).0, (fine_inside p.names G F f, (a.0).1)), goal_parts G F ps f a.1)

  scope_typed : {G : List Ty} {A B : Ty} {x : List ℕ} {g : Read} → HasType sg G (spine (logical (spec_universal A)) (term (lam B x g) no_terms)) o → HasType sg (A ∷ G) g o
  scope_typed {G = G} {A = A} {g = g} (typed_spine {A = C} e (take_term {A = D} {B = E} (typed_lam {A = F} {B = Y} d) take_none)) =
      let whole : arrow (arrow A o) o ≡ C = cc in
      let domain : A ≡ F = cc in
      let range : o ≡ Y = cc in
      let there : HasType sg {Var = ℕ} {Hint = List ℕ} (F ∷ G) g o = subst (HasType sg {Var = ℕ} {Hint = List ℕ} (F ∷ G) g) (sym range) d in
      subst (λ Z. HasType sg {Var = ℕ} {Hint = List ℕ} (Z ∷ G) g o) (sym domain) there

  sides_typed : {G : List Ty} {l : Head ℕ} {F g : Read} → head_type sg G l ≡ Some (arrows (o ∷ o ∷ []) o) → HasType sg G (spine l (term F (term g no_terms))) o → HasType sg G F o × HasType sg G g o
  sides_typed {G = G} {F = F} {g = g} h (typed_spine {A = C} e (take_term {A = D} d (take_term {A = E} b take_none))) =
      let whole : Some C ≡ Some (arrows (o ∷ o ∷ []) o) = sym e ∙ h in
      let first : D ≡ o = cc in
      let second : E ≡ o = cc in
      (subst (HasType sg {Var = ℕ} {Hint = List ℕ} G F) first d, subst (HasType sg {Var = ℕ} {Hint = List ℕ} G g) second b)

  all_fine : (G : List Ty) (F : Read) → IsFine G F → AllFineParts G (parts_of F)
  all_fine G (spine (logical (spec_universal A)) (term (lam B x F) no_terms)) f =
      let P = (λ (y : tree.Variable ℕ). y.name < n) in
      named_parts G (record { hint = x; type = A }) (parts_of F) (all_fine (A ∷ G) F (scope_typed f.0, known_body P M B x F (known_first P M (spec_universal A) (lam B x F) no_terms f.1)))
  all_fine G (spine (logical spec_implication) (term H (term F no_terms))) f =
      let P = (λ (y : tree.Variable ℕ). y.name < n) in
      let s = sides_typed refl f.0 in
      goal_parts G H (parts_of F) (s.0, known_first P M spec_implication H (term F no_terms) f.1) (all_fine G F (s.1, known_second P M spec_implication H F f.1))
  all_fine G (spine (logical spec_conjunction) (term E (term F no_terms))) f =
      let P = (λ (y : tree.Variable ℕ). y.name < n) in
      let s = sides_typed refl f.0 in
      both_parts G (parts_of E) (parts_of F) (all_fine G E (s.0, known_first P M spec_conjunction E (term F no_terms) f.1)) (all_fine G F (s.1, known_second P M spec_conjunction E F f.1))
  all_fine G A f = ((f, tt), tt)

  -- UNDER BINDERS for all its names
  under_typed : (cs : List (Cell (List ℕ))) (G : List Ty) (t : Read) → HasType sg (inside cs G) t o → HasType sg G (under_all cs t) (arrows (types_of cs) o)
  under_typed [] G t d = d
  under_typed (c ∷ cs) G t d = typed_lam (under_typed cs (c.type ∷ G) t d)

  under_below : (cs : List (Cell (List ℕ))) (t : Read) → IsBelow n t → IsBelow n (under_all cs t)
  under_below [] t b = b
  under_below (c ∷ cs) t b = under_below cs t b

  scope : (cs : List (Cell (List ℕ))) (t : Read) → IsFine (inside cs []) t → IsScope sg n cs (under_all cs t)
  scope cs t f = (under_typed cs [] t f.0, under_below cs t (f.1).over)

  scopes : (cs : List (Cell (List ℕ))) (ts : List Read) → AllFine (inside cs []) ts → AllScopes sg n cs (map (under_all cs) ts)
  scopes cs [] a = tt
  scopes cs (t ∷ ts) a = (scope cs t a.0, scopes cs ts a.1)

  one_fine : (ps : List Part) → AllFineParts [] ps → (p : Part) → Contains ps p → IsFinePart [] p
  one_fine [] a p m = absurd (Contains-none p m)
  one_fine (q ∷ ps) a p m = elim (Contains-cases q ps p m) [
    | inl e ↦ subst (IsFinePart []) e a.0
    | inr k ↦ one_fine ps a.1 p k
  ]

module _ (sg : Signature) (n : ℕ) (F : Read) (typed : HasType sg [] F o) (below : IsBelow n F) (p : Part) (one : Contains (parts_of F) p) where
  its_parts : IsFinePart sg n (support F) [] p
  its_parts = one_fine sg n (support F) (parts_of F) (all_fine sg n (support F) [] F (typed, record { over = below; names = λ a m. m })) p one

  pub atom_scope : IsScope sg n p.names (under_all p.names p.atom)
  atom_scope = scope sg n (support F) p.names p.atom its_parts.0

  pub goal_scopes : AllScopes sg n p.names (map (under_all p.names) p.goals)
  goal_scopes = scopes sg n (support F) p.names p.goals its_parts.1
