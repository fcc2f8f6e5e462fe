-- A formula taken apart: what its clauses are made of, and what a substitution makes of them.
use Rattle.std.proofs.Common.{◌≡◌, ℕ, zero, suc, List, [], ◌∷◌, ◌++◌, map, length, Option, refl, sym, ◌∙◌, ap, subst}
use Rattle.std.specs.Prelude.{All}
use Rattle.std.proofs.lemmas.List.Elements.{All-head, All-tail, All-cons, All-nil, All-append, All-contains, Contains-append_left, Contains-append_right}
use Rattle.ab_term.specs.Types.{Ty, o}
use Rattle.ab_term.specs.Logical.{spec_universal, spec_implication, spec_conjunction}
use Rattle.ab_term.specs.Terms.{Variable, Head, constant, logical, nominal, Term, lam, spine, no_terms, term}
use Rattle.ab_term.specs.Typing.{Signature, HasType}
use Rattle.ab_term.specs.Substitution.{shift}
use Rattle.ab_term.specs.Reach.{raise}
use Rattle.ab_term.specs.Variables.{image_by}
use Rattle.ab_term.proofs.ClosedMaps.{IsClosedMap, raise-image}
use Rattle.ab_term.proofs.Closed.{closed_reach}
use Rattle.ab_term.proofs.Lists.{All-from_contains, Contains-map}
use Rattle.ab_term.proofs.Preservation.{here, shift_typed}
use Rattle.ab_term.proofs.Reaching.{raise-none, raise-more, raise-short}
use Rattle.ab_term.proofs.Standing.{Has, shift_has}
use Rattle.ab_unifiers.specs.Replacements.{Cell}
use Rattle.ab_coverage.proofs.IndexedGoals.{atomic, goal_form}
use Rattle.ab_coverage.proofs.IndexedSpecClauses.{SpecClause, under_binder, with_goal, taken_apart, context_of}
use Rattle.ab_coverage.proofs.IndexedInstances.{IsRigid}
use Rattle.ab_coverage.proofs.Conjoined.{two_typed, scope_typed}

pub all_mapped : {X Y : Type 0} (P : Y → Type 0) (f : X → Y) (xs : List X) → All P (map f xs) → All (λ x. P (f x)) xs
all_mapped P f xs all = All-from_contains (λ x. P (f x)) xs (λ a m. All-contains P (map f xs) (f a) all (Contains-map f xs a m))

pub mapped_all : {X Y : Type 0} (P : Y → Type 0) (f : X → Y) (xs : List X) → All (λ x. P (f x)) xs → All P (map f xs)
mapped_all P f [] all = All-nil P
mapped_all P f (x ∷ xs) all = All-cons P (f x) (map f xs) (All-head (λ x. P (f x)) x xs all) (mapped_all P f xs (All-tail (λ x. P (f x)) x xs all))

pub all_front : {X : Type 0} (P : X → Type 0) (xs ys : List X) → All P (xs ++ ys) → All P xs
all_front P xs ys all = All-from_contains P xs (λ a m. All-contains P (xs ++ ys) a all (Contains-append_left xs ys a m))

pub all_behind : {X : Type 0} (P : X → Type 0) (xs ys : List X) → All P (xs ++ ys) → All P ys
all_behind P xs ys all = All-from_contains P ys (λ a m. All-contains P (xs ++ ys) a all (Contains-append_right xs ys a m))

map-append : {X Y : Type 0} (f : X → Y) (xs ys : List X) → map f (xs ++ ys) ≡ map f xs ++ map f ys
map-append f [] ys = refl
map-append f (x ∷ xs) ys = ap (λ l. f x ∷ l) (map-append f xs ys)

module _ {Hint : Type 0} where
  -- under one binder more at the front
  raise-front : (d : ℕ) (t : Term ℕ Hint) → raise (suc d) zero t ≡ raise d zero (shift zero t)
  raise-front zero t = raise-more t zero zero ∙ ap (shift zero) (raise-none t zero) ∙ sym (raise-none (shift zero t) zero)
  raise-front (suc d) t = raise-more t (suc d) zero ∙ ap (shift zero) (raise-front d t) ∙ sym (raise-more (shift zero t) d zero)

  pub raise_has : (P : Head ℕ → Type 0) (d : ℕ) (t : Term ℕ Hint) → Has P t → Has P (raise d zero t)
  raise_has P zero t p = subst (Has P) (sym (raise-none t zero)) p
  raise_has P (suc d) t p = subst (Has P) (sym (raise-more t d zero)) (shift_has P zero (raise d zero t) (raise_has P d t p))

  pub raise_typed : (sg : Signature) (A : Ty) (bs : List (Cell Hint)) (G : List Ty) (t : Term ℕ Hint) → HasType sg G t A → HasType sg (context_of bs G) (raise (length bs) zero t) A
  raise_typed sg A [] G t d = subst (λ u. HasType sg G u A) (sym (raise-none t zero)) d
  raise_typed sg A (b ∷ bs) G t d = subst (λ u. HasType sg (context_of bs (b.type ∷ G)) u A) (sym (raise-front (length bs) t)) (raise_typed sg A bs (b.type ∷ G) (shift zero t) (shift_typed sg here d))

  pub raise-closed : (sg : Signature) (A : Ty) (d : ℕ) (t : Term ℕ Hint) → HasType sg [] t A → raise d zero t ≡ t
  raise-closed sg A d t e = raise-short t d zero (closed_reach sg e)

  -- what a map makes of a clause
  abbrev pub imaged : (Variable ℕ → Option (Term ℕ Hint)) → SpecClause Hint → SpecClause Hint
  imaged f c = record { binders = c.binders; goals = map (image_by f) c.goals; atom = image_by f c.atom }

  module _ (f : Variable ℕ → Option (Term ℕ Hint)) (closed : IsClosedMap f) where
    binders_imaged : (x : Hint) (A : Ty) (cs : List (SpecClause Hint)) → map (under_binder x A) (map (imaged f) cs) ≡ map (imaged f) (map (under_binder x A) cs)
    binders_imaged x A [] = refl
    binders_imaged x A (c ∷ cs) = ap (λ l. imaged f (under_binder x A c) ∷ l) (binders_imaged x A cs)

    goals_imaged : (G : Term ℕ Hint) (cs : List (SpecClause Hint)) → map (with_goal (image_by f G)) (map (imaged f) cs) ≡ map (imaged f) (map (with_goal G) cs)
    goals_imaged G [] = refl
    goals_imaged G (c ∷ cs) =
        ap (λ l. with_goal (image_by f G) (imaged f c) ∷ l) (goals_imaged G cs)
        ∙ ap (λ H. record { binders = c.binders; goals = H ∷ map (image_by f) c.goals; atom = image_by f c.atom } ∷ map (imaged f) (map (with_goal G) cs)) (raise-image f closed G (length c.binders) zero)

    -- where no atom may become anything, the clauses are those of what the map makes of the formula
    pub apart-image : (sg : Signature) (F : Term ℕ Hint) → IsRigid sg F → taken_apart (image_by f F) ≡ map (imaged f) (taken_apart F)
    apart-image sg (spine (logical (spec_universal A)) (term (lam B x F) no_terms)) r =
        ap (map (under_binder x A)) (apart-image sg F (all_mapped (λ c. goal_form c.atom ≡ atomic) (under_binder x A) (taken_apart F) r)) ∙ binders_imaged x A (taken_apart F)
    apart-image sg (spine (logical spec_implication) (term G (term F no_terms))) r =
        ap (map (with_goal (image_by f G))) (apart-image sg F (all_mapped (λ c. goal_form c.atom ≡ atomic) (with_goal G) (taken_apart F) r)) ∙ goals_imaged G (taken_apart F)
    apart-image sg (spine (logical spec_conjunction) (term F (term G no_terms))) r =
        ap (λ l. l ++ taken_apart (image_by f G)) (apart-image sg F (all_front (λ c. goal_form c.atom ≡ atomic) (taken_apart F) (taken_apart G) r))
        ∙ ap (λ l. map (imaged f) (taken_apart F) ++ l) (apart-image sg G (all_behind (λ c. goal_form c.atom ≡ atomic) (taken_apart F) (taken_apart G) r))
        ∙ sym (map-append (imaged f) (taken_apart F) (taken_apart G))
    apart-image sg (spine (constant c) ts) r = refl
    apart-image sg (spine (nominal a) ts) r = refl
    apart-image sg F r = absurd (let bad : goal_form F ≡ atomic = All-head (λ c. goal_form c.atom ≡ atomic) (record { binders = []; goals = []; atom = F }) [] r in cc)

-- what is known of a clause's parts
pub record IsPart (sg : Signature) {Hint : Type 0} (P : Head ℕ → Type 0) (G : List Ty) (c : SpecClause Hint) : Type 0 where
  pub atom : HasType sg (context_of c.binders G) c.atom o
  pub goals : All (λ H. HasType sg (context_of c.binders G) H o) c.goals
  pub atom_has : Has P c.atom
  pub goals_have : All (Has P) c.goals

module _ (sg : Signature) {Hint : Type 0} (P : Head ℕ → Type 0) where
  under_part : (x : Hint) (A : Ty) (G : List Ty) (c : SpecClause Hint) → IsPart sg P (A ∷ G) c → IsPart sg P G (under_binder x A c)
  under_part x A G c p = record { atom = p.atom; goals = p.goals; atom_has = p.atom_has; goals_have = p.goals_have }

  goal_part : (H : Term ℕ Hint) (G : List Ty) → HasType sg G H o → Has P H → (c : SpecClause Hint) → IsPart sg P G c → IsPart sg P G (with_goal H c)
  goal_part H G d h c p = record {
    atom = p.atom;
    goals = All-cons (λ K. HasType sg (context_of c.binders G) K o) (raise (length c.binders) zero H) c.goals (raise_typed sg o c.binders G H d) p.goals;
    atom_has = p.atom_has;
    goals_have = All-cons (Has P) (raise (length c.binders) zero H) c.goals (raise_has P (length c.binders) H h) p.goals_have;
  }

  pub parts_right : (G : List Ty) (F : Term ℕ Hint) → HasType sg G F o → Has P F → All (IsPart sg P G) (taken_apart F)
  parts_right G (spine (logical (spec_universal A)) (term (lam B x F) no_terms)) d h =
      let inner = parts_right (A ∷ G) F (scope_typed sg A B x F d).1 h.1.0 in
      mapped_all (IsPart sg P G) (under_binder x A) (taken_apart F) (All-from_contains (λ c. IsPart sg P G (under_binder x A c)) (taken_apart F) (λ c m. under_part x A G c (All-contains (IsPart sg P (A ∷ G)) (taken_apart F) c inner m)))
  parts_right G (spine (logical spec_implication) (term H (term F no_terms))) d h =
      let types = two_typed sg spec_implication H F refl d in
      let inner = parts_right G F types.1 h.1.1.0 in
      mapped_all (IsPart sg P G) (with_goal H) (taken_apart F) (All-from_contains (λ c. IsPart sg P G (with_goal H c)) (taken_apart F) (λ c m. goal_part H G types.0 h.1.0 c (All-contains (IsPart sg P G) (taken_apart F) c inner m)))
  parts_right G (spine (logical spec_conjunction) (term F (term K no_terms))) d h =
      let types = two_typed sg spec_conjunction F K refl d in
      All-append (IsPart sg P G) (taken_apart F) (taken_apart K) (parts_right G F types.0 h.1.0) (parts_right G K types.1 h.1.1.0)
  parts_right G F d h = All-cons (IsPart sg P G) (record { binders = []; goals = []; atom = F }) [] (record { atom = d; goals = All-nil (λ H. HasType sg G H o); atom_has = h; goals_have = All-nil (Has P) }) (All-nil (IsPart sg P G))
