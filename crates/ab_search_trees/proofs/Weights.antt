-- How much there is to take apart in a formula: its connectives and quantifiers, each atom, equation and judgement counted
-- as one. Nothing that is put in for a variable or a bound name changes it.
use Rattle.std.proofs.Common.{◌≡◌, ℕ, zero, suc, ◌+◌, List, Bool, true, false, Option, if◌then◌else◌, refl, ap, subst, arith}
use Rattle.ab_term.specs.Logical as plain
use Rattle.ab_term.specs.Logical.{Logical}
use Rattle.ab_term.specs.Terms.{Variable, Head, constant, logical, nominal, variable, index, lam, spine, Terms, no_terms, term, Read}
use Rattle.ab_term.specs.Substitution.{shift, lower_head, put, substitute_by, substitute_all_by, reduce, instance}
use Rattle.ab_term.specs.Variables.{image_by, image_all_by}
use Rattle.ab_formulas.specs.Formulas.{Place, a_formula, a_scope, a_marked, any, places_of, places_of_constant, IsRigid, IsAtomic, StandsIn, AllStandIn}
use Rattle.ab_formulas.specs.Forms.{Form, both, either, implies, for_all, exists, nabla, form_of, form_alone, form_with, form_between}
use Rattle.ab_formulas.specs.Marks.{Sign, Making, by_head, by_scope, by_parts, by_mark, making_of, making_of_constant}
use Rattle.ab_formulas.specs.Marks as signs
use Rattle.ab_formulas.specs.BodyMarks.{with_mark, is_one_of, marked_in, all_marked_in}

abbrev connects : Logical → Bool
connects plain.conjunction = true
connects plain.disjunction = true
connects plain.implication = true
connects (plain.universal A) = true
connects (plain.existential A) = true
connects (plain.nabla A) = true
connects _ = false

abbrev is_connective : Head ℕ → Bool
is_connective (logical l) = connects l
is_connective _ = false

abbrev counted : Bool → ℕ → ℕ
counted true n = suc n
counted false n = 1

abbrev mutual
  pub weight : Read → ℕ
  weight (lam A x t) = weight t
  weight (spine h ts) = counted (is_connective h) (weights ts)

  pub weights : Terms ℕ (List ℕ) → ℕ
  weights no_terms = zero
  weights (term t ts) = weight t + weights ts

subst_place : (l : Logical) (p : Place) → places_of_constant l ≡ p → (ts : Terms ℕ (List ℕ)) → AllStandIn (places_of_constant l) ts → AllStandIn p ts
subst_place l p e ts s = subst (λ q. AllStandIn q ts) e s

-- the same weight, for what is given to a head
connected : (l : Logical) (ts us : Terms ℕ (List ℕ)) → (places_of_constant l ≡ a_formula → weights us ≡ weights ts) → (places_of_constant l ≡ a_scope → weights us ≡ weights ts) → counted (connects l) (weights us) ≡ counted (connects l) (weights ts)
connected plain.conjunction ts us f s = ap suc (f refl)
connected plain.disjunction ts us f s = ap suc (f refl)
connected plain.implication ts us f s = ap suc (f refl)
connected (plain.universal A) ts us f s = ap suc (s refl)
connected (plain.existential A) ts us f s = ap suc (s refl)
connected (plain.nabla A) ts us f s = ap suc (s refl)
connected _ ts us f s = refl

module _ (f : Variable ℕ → Option Read) where
  mutual
    pub image_weighs : (t : Read) → StandsIn a_formula t → weight (image_by f t) ≡ weight t
    image_weighs (lam A x t) s = absurd s
    image_weighs (spine (constant c) ts) s = refl
    image_weighs (spine (nominal a) ts) s = refl
    image_weighs (spine (variable y) ts) s = absurd s.0
    image_weighs (spine (index i) ts) s = absurd s.0
    image_weighs (spine (logical l) ts) s =
        connected l ts (image_all_by f ts)
        (λ e. images_weigh ts (subst_place l a_formula e ts s.1))
        (λ e. scopes_weigh ts (subst_place l a_scope e ts s.1))

    images_weigh : (ts : Terms ℕ (List ℕ)) → AllStandIn a_formula ts → weights (image_all_by f ts) ≡ weights ts
    images_weigh no_terms s = refl
    images_weigh (term t ts) s = let one = image_weighs t s.0 in let more = images_weigh ts s.1 in omega (arith, one, more)

    scopes_weigh : (ts : Terms ℕ (List ℕ)) → AllStandIn a_scope ts → weights (image_all_by f ts) ≡ weights ts
    scopes_weigh no_terms s = refl
    scopes_weigh (term (lam A x t) ts) s = let one = image_weighs t s.0 in let more = scopes_weigh ts s.1 in omega (arith, one, more)
    scopes_weigh (term (spine h us) ts) s = absurd s.0

abbrev Apply : Type 0
Apply = Read → Terms ℕ (List ℕ) → Read

mutual
  put_weighs : (apply : Apply) (u : Read) (k : ℕ) (t : Read) → StandsIn a_formula t → weight (substitute_by apply u k t) ≡ weight t
  put_weighs apply u k (lam A x t) s = absurd s
  put_weighs apply u k (spine (constant c) ts) s = refl
  put_weighs apply u k (spine (nominal a) ts) s = refl
  put_weighs apply u k (spine (variable y) ts) s = absurd s.0
  put_weighs apply u k (spine (index i) ts) s = absurd s.0
  put_weighs apply u k (spine (logical l) ts) s =
      connected l ts (substitute_all_by apply u k ts)
      (λ e. puts_weigh apply u k ts (subst_place l a_formula e ts s.1))
      (λ e. put_scopes_weigh apply u k ts (subst_place l a_scope e ts s.1))

  puts_weigh : (apply : Apply) (u : Read) (k : ℕ) (ts : Terms ℕ (List ℕ)) → AllStandIn a_formula ts → weights (substitute_all_by apply u k ts) ≡ weights ts
  puts_weigh apply u k no_terms s = refl
  puts_weigh apply u k (term t ts) s = let one = put_weighs apply u k t s.0 in let more = puts_weigh apply u k ts s.1 in omega (arith, one, more)

  put_scopes_weigh : (apply : Apply) (u : Read) (k : ℕ) (ts : Terms ℕ (List ℕ)) → AllStandIn a_scope ts → weights (substitute_all_by apply u k ts) ≡ weights ts
  put_scopes_weigh apply u k no_terms s = refl
  put_scopes_weigh apply u k (term (lam A x t) ts) s = let one = put_weighs apply (shift zero u) (suc k) t s.0 in let more = put_scopes_weigh apply u k ts s.1 in omega (arith, one, more)
  put_scopes_weigh apply u k (term (spine h us) ts) s = absurd s.0

pub instance_weighs : (F u : Read) → StandsIn a_scope F → weight (instance F u) ≡ weight F
instance_weighs (lam A x t) u s = put_weighs (reduce A) u zero t s
instance_weighs (spine h ts) u s = absurd s

-- a formula stays one

marked_put : (apply : Apply) (u : Read) (k : ℕ) (h : Head ℕ) (us : Terms ℕ (List ℕ)) → IsAtomic h → StandsIn a_marked (put apply u (lower_head k h) us)
marked_put apply u k (constant c) us s = tt
marked_put apply u k (nominal a) us s = tt
marked_put apply u k (logical l) us s = s
marked_put apply u k (variable x) us s = absurd s
marked_put apply u k (index i) us s = absurd s

rigid_put : (apply : Apply) (u : Read) (k : ℕ) (h : Head ℕ) (us : Terms ℕ (List ℕ)) → IsRigid h → AllStandIn (places_of h) us → StandsIn a_formula (put apply u (lower_head k h) us)
rigid_put apply u k (constant c) us r s = (tt, s)
rigid_put apply u k (nominal a) us r s = (tt, s)
rigid_put apply u k (logical l) us r s = (tt, s)
rigid_put apply u k (variable x) us r s = absurd r
rigid_put apply u k (index i) us r s = absurd r

mutual
  substitute_stands : (apply : Apply) (u : Read) (k : ℕ) (p : Place) (t : Read) → StandsIn p t → StandsIn p (substitute_by apply u k t)
  substitute_stands apply u k any t s = tt
  substitute_stands apply u k a_formula (lam A x t) s = absurd s
  substitute_stands apply u k a_formula (spine h ts) s = rigid_put apply u k h (substitute_all_by apply u k ts) s.0 (substitute_all_stand apply u k (places_of h) ts s.1)
  substitute_stands apply u k a_scope (lam A x t) s = substitute_stands apply (shift zero u) (suc k) a_formula t s
  substitute_stands apply u k a_scope (spine h ts) s = absurd s
  substitute_stands apply u k a_marked (lam A x t) s = absurd s
  substitute_stands apply u k a_marked (spine h ts) s = marked_put apply u k h (substitute_all_by apply u k ts) s

  substitute_all_stand : (apply : Apply) (u : Read) (k : ℕ) (p : Place) (ts : Terms ℕ (List ℕ)) → AllStandIn p ts → AllStandIn p (substitute_all_by apply u k ts)
  substitute_all_stand apply u k p no_terms s = tt
  substitute_all_stand apply u k p (term t ts) s = (substitute_stands apply u k p t s.0, substitute_all_stand apply u k p ts s.1)

pub instance_stands : (t u : Read) → StandsIn a_scope t → StandsIn a_formula (instance t u)
instance_stands (lam A x t) u s = substitute_stands (reduce A) u zero a_formula t s
instance_stands (spine h ts) u s = absurd s

-- so does one whose atoms are marked

pub with_mark_stands : (m : Sign) (h : Head ℕ) (ts : Terms ℕ (List ℕ)) → IsAtomic h → StandsIn a_formula (spine h ts) → StandsIn a_formula (with_mark m (spine h ts))
with_mark_stands signs.plain h ts a s = s
with_mark_stands (signs.star_of i) h ts a s = (tt, (a, tt))
with_mark_stands (signs.at_of i) h ts a s = (tt, (a, tt))
with_mark_stands (signs.plus_of i) h ts a s = (tt, (a, tt))
with_mark_stands (signs.hash_of i) h ts a s = (tt, (a, tt))

-- what is known of the parts, by how they are marked
abbrev PartsStand : Making → Place → Terms ℕ (List ℕ) → Type 0
PartsStand by_head p us = Unit {0}
PartsStand by_scope p us = AllStandIn p us
PartsStand by_parts p us = AllStandIn p us
PartsStand (by_mark m) p us = Unit {0}

mutual
  marked_stands : (ps : List (List ℕ)) (m : Sign) (t : Read) → StandsIn a_formula t → StandsIn a_formula (marked_in ps m t)
  marked_stands ps m (lam A x t) s = absurd s
  marked_stands ps m (spine (constant c) ts) s = go (is_one_of ps (constant c))
    where
      go : (b : Bool) → StandsIn a_formula (if b then with_mark m (spine (constant c) ts) else spine (constant c) ts)
      go true = with_mark_stands m (constant c) ts tt s
      go false = s
  marked_stands ps m (spine (nominal a) ts) s = s
  marked_stands ps m (spine (variable y) ts) s = absurd s.0
  marked_stands ps m (spine (index i) ts) s = absurd s.0
  marked_stands ps m (spine (logical plain.conjunction) ts) s = (tt, all_marked_stand ps m ts s.1)
  marked_stands ps m (spine (logical plain.disjunction) ts) s = (tt, all_marked_stand ps m ts s.1)
  marked_stands ps m (spine (logical plain.implication) ts) s = (tt, all_marked_stand ps m ts s.1)
  marked_stands ps m (spine (logical (plain.universal A)) ts) s = (tt, all_scopes_stand ps m ts s.1)
  marked_stands ps m (spine (logical (plain.existential A)) ts) s = (tt, all_scopes_stand ps m ts s.1)
  marked_stands ps m (spine (logical (plain.nabla A)) ts) s = (tt, all_scopes_stand ps m ts s.1)
  marked_stands ps m (spine (logical _) ts) s = s

  all_marked_stand : (ps : List (List ℕ)) (m : Sign) (ts : Terms ℕ (List ℕ)) → AllStandIn a_formula ts → AllStandIn a_formula (all_marked_in ps m ts)
  all_marked_stand ps m no_terms s = tt
  all_marked_stand ps m (term t ts) s = (marked_stands ps m t s.0, all_marked_stand ps m ts s.1)

  all_scopes_stand : (ps : List (List ℕ)) (m : Sign) (ts : Terms ℕ (List ℕ)) → AllStandIn a_scope ts → AllStandIn a_scope (all_marked_in ps m ts)
  all_scopes_stand ps m no_terms s = tt
  all_scopes_stand ps m (term (lam A x t) ts) s = (marked_stands ps m t s.0, all_scopes_stand ps m ts s.1)
  all_scopes_stand ps m (term (spine h us) ts) s = absurd s.0

pub body_stands : (ps : List (List ℕ)) (m : Sign) (t : Read) → StandsIn a_formula t → StandsIn a_formula (marked_in ps m t)
body_stands = marked_stands

-- WHAT THE PARTS OF A FORMULA ARE, by its form: formulas, and of less weight
abbrev pub Parts : ℕ → Form → Type 0
Parts n (both A B) = StandsIn a_formula A × StandsIn a_formula B × (n ≡ suc (weight A + weight B))
Parts n (either A B) = StandsIn a_formula A × StandsIn a_formula B × (n ≡ suc (weight A + weight B))
Parts n (implies A B) = StandsIn a_formula A × StandsIn a_formula B × (n ≡ suc (weight A + weight B))
Parts n (for_all A F) = StandsIn a_scope F × (n ≡ suc (weight F))
Parts n (exists A F) = StandsIn a_scope F × (n ≡ suc (weight F))
Parts n (nabla A F) = StandsIn a_scope F × (n ≡ suc (weight F))
Parts n _ = Unit {0}

alone_parts : (l : Logical) → Parts (counted (connects l) zero) (form_alone l)
alone_parts plain.truth = tt
alone_parts plain.falsity = tt
alone_parts _ = tt

with_parts : (l : Logical) (t : Read) → AllStandIn (places_of_constant l) (term t no_terms) → Parts (counted (connects l) (weight t + zero)) (form_with l t)
with_parts (plain.universal A) t s = (s.0, omega arith)
with_parts (plain.existential A) t s = (s.0, omega arith)
with_parts (plain.nabla A) t s = (s.0, omega arith)
with_parts _ t s = tt

between_parts : (l : Logical) (t u : Read) → AllStandIn (places_of_constant l) (term t (term u no_terms)) → Parts (counted (connects l) (weight t + (weight u + zero))) (form_between l t u)
between_parts plain.conjunction t u s = (s.0, s.1.0, omega arith)
between_parts plain.disjunction t u s = (s.0, s.1.0, omega arith)
between_parts plain.implication t u s = (s.0, s.1.0, omega arith)
between_parts _ t u s = tt

pub parts_of : (C : Read) → StandsIn a_formula C → Parts (weight C) (form_of C)
parts_of (lam A x t) s = absurd s
parts_of (spine (constant c) ts) s = tt
parts_of (spine (nominal a) ts) s = tt
parts_of (spine (variable y) ts) s = absurd s.0
parts_of (spine (index i) ts) s = absurd s.0
parts_of (spine (logical l) no_terms) s = alone_parts l
parts_of (spine (logical l) (term t no_terms)) s = with_parts l t s.1
parts_of (spine (logical l) (term t (term u no_terms))) s = between_parts l t u s.1
parts_of (spine (logical l) (term t (term u (term v ts)))) s = tt
