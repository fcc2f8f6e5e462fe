-- What is like a formula in focus has like parts, in the same order; and where the rules of the one are known, so are those of the other.
use Rattle.std.proofs.Common.{◌≡◌, inl, inr, ℕ, zero, suc, List, [], ◌∷◌, ◌++◌, map, length, Bool, true, false, if◌then◌else◌, Some, None, refl, sym, ◌∙◌, ap, subst}
use Rattle.std.specs.Prelude.{Contains}
use Rattle.std.specs.List.{list_any}
use Rattle.std.proofs.lemmas.Bool.{false≢true, or_parts, or_from}
use Rattle.std.proofs.lemmas.List.{length-map}
use Rattle.ab_term.specs.Types.{Ty, o}
use Rattle.ab_term.specs.Logical.{spec_universal, spec_implication, spec_conjunction}
use Rattle.ab_term.specs.Terms.{Nominal, logical, lam, spine, no_terms, term, Read}
use Rattle.ab_term.specs.Typing.{Signature, HasType}
use Rattle.ab_term.specs.Reach.{raise}
use Rattle.ab_term.specs.Translation.{forget}
use Rattle.ab_term.specs.Variables.{IsTyped}
use Rattle.ab_term.proofs.Lists.{Contains-none, Contains-here, Contains-there, Contains-cases}
use Rattle.ab_term.proofs.Reaching.{raise-none, raise-more}
use Rattle.ab_unifiers.specs.Replacements.{Cell}
use Rattle.ab_unifiers.specs.Clauses.{Each}
use Rattle.ab_theory.specs.Opening.{Kind, compound, atomic, undetermined, kind_of, is_undetermined}
use Rattle.ab_theory.specs.Parts.{Part, parts_of, under_name, with_goal}
use Rattle.ab_theory.specs.SpecRules.{SpecRule, by_part, rules_in_focus}
use Rattle.ab_search_trees.proofs.Forms.{begins_logical, one_more, no_more, abstraction}
use Rattle.ab_search_proofs.specs.Likeness.{StandIn, replacing}
use Rattle.ab_search_proofs.proofs.OpenedAlike.{IsSingle, Like, here, like_shift, single_like, arguments_of, first_of, rest_of, body_of}
use Rattle.ab_search_proofs.proofs.Opening.{compound_like, atomic_like}

-- a part with nothing in front of its atom
abbrev pub alone : Read → Part
alone A = record { names = []; goals = []; atom = A }

pub single_part : (A : Read) → IsSingle A → parts_of A ≡ alone A ∷ []
single_part (spine (logical (spec_universal A)) (term (lam B x G) no_terms)) i = absurd i
single_part (spine (logical spec_implication) (term F (term G no_terms))) i = absurd i
single_part (spine (logical spec_conjunction) (term F (term G no_terms))) i = absurd i
single_part A i = refl

-- ONE AGAINST ONE
module _ {X Y : Type 0} (R : X → Y → Type 0) where
  pub each_made : {V W : Type 0} (S : V → W → Type 0) (f : X → V) (g : Y → W) → ((a : X) (b : Y) → R a b → S (f a) (g b)) → (xs : List X) (zs : List Y) → Each R xs zs → Each S (map f xs) (map g zs)
  each_made S f g k [] [] e = tt
  each_made S f g k [] (b ∷ zs) e = absurd e
  each_made S f g k (a ∷ xs) [] e = absurd e
  each_made S f g k (a ∷ xs) (b ∷ zs) e = (k a b e.0, each_made S f g k xs zs e.1)

  each_joined : (xs : List X) (zs : List Y) (us : List X) (ws : List Y) → Each R xs zs → Each R us ws → Each R (xs ++ us) (zs ++ ws)
  each_joined [] [] us ws e f = f
  each_joined [] (b ∷ zs) us ws e f = absurd e
  each_joined (a ∷ xs) [] us ws e f = absurd e
  each_joined (a ∷ xs) (b ∷ zs) us ws e f = (e.0, each_joined xs zs us ws e.1 f)

  pub each_found : (xs : List X) (zs : List Y) → Each R xs zs → (a : X) → Contains xs a → (b : Y) × Contains zs b × R a b
  each_found [] zs e a m = absurd (Contains-none a m)
  each_found (c ∷ xs) [] e a m = absurd e
  each_found (c ∷ xs) (b ∷ zs) e a m = elim (Contains-cases c xs a m) [
    | inl q ↦ (b, Contains-here b zs, subst (λ k. R k b) q e.0)
    | inr n ↦ (let r = each_found xs zs e.1 a n in (r.0, Contains-there b zs r.0 r.1, r.2))
  ]

-- the types of a part's names
abbrev pub types_of : Part → List Ty
types_of p = map (λ (c : Cell (List ℕ)). c.type) p.names

module _ (sg : Signature) (vs : List StandIn) (typed : IsTyped sg (replacing vs)) (ps : List (Nominal × Nominal)) where
  -- goals and atoms are like, under as many names of the same types
  pub record PartLike (p q : Part) : Type 0 where
    pub names : types_of p ≡ types_of q
    pub goals : Each (Like sg vs typed ps) p.goals q.goals
    pub atom : Like sg vs typed ps p.atom q.atom

  raised_like : (d : ℕ) (G H : Read) → Like sg vs typed ps G H → Like sg vs typed ps (raise d zero G) (raise d zero H)
  raised_like zero G H e = subst (λ t. Like sg vs typed ps t (raise 0 zero H)) (sym (raise-none G zero)) (subst (Like sg vs typed ps G) (sym (raise-none H zero)) e)
  raised_like (suc d) G H e =
      subst (λ t. Like sg vs typed ps t (raise (suc d) zero H)) (sym (raise-more G d zero))
      (subst (Like sg vs typed ps _) (sym (raise-more H d zero)) (like_shift sg vs typed ps (raise d zero G) (raise d zero H) (raised_like d G H e)))

  under_like : (c d : Cell (List ℕ)) → c.type ≡ d.type → (p q : Part) → PartLike p q → PartLike (under_name c p) (under_name d q)
  under_like c d e p q k = record { names = ap (λ A. A ∷ types_of p) e ∙ ap (λ l. d.type ∷ l) k.names; goals = k.goals; atom = k.atom }

  as_many : (p q : Part) → types_of p ≡ types_of q → length p.names ≡ length q.names
  as_many p q e = sym (length-map p.names (λ (c : Cell (List ℕ)). c.type)) ∙ ap length e ∙ length-map q.names (λ (c : Cell (List ℕ)). c.type)

  goal_like : (G H : Read) → Like sg vs typed ps G H → (p q : Part) → PartLike p q → PartLike (with_goal G p) (with_goal H q)
  goal_like G H e p q k = record {
    names = k.names;
    goals = (subst (λ d. Like sg vs typed ps (raise (length p.names) zero G) (raise d zero H)) (as_many p q k.names) (raised_like (length p.names) G H e), k.goals);
    atom = k.atom;
  }

  -- THE PARTS
  pub parts_like : (Γ : List Ty) (F K : Read) → HasType sg Γ F o → Like sg vs typed ps F K → Each PartLike (parts_of F) (parts_of K)
  parts_like Γ (spine (logical (spec_universal A)) (term (lam B x f) no_terms)) K d e =
      let b = begins_logical (spec_universal A) (term (forget (here sg vs typed ps (lam B x f))) no_terms) K e in
      let one = one_more b.0 b.2 in
      let scope = abstraction one.0 one.3 in
      let whole : K ≡ spine (logical (spec_universal A)) (term (lam B scope.0 scope.1) no_terms) = b.1 ∙ ap (spine (logical (spec_universal A))) (one.2 ∙ ap (term one.0) (no_more one.4) ∙ ap (λ t. term t no_terms) scope.2) in
      let c : Cell (List ℕ) = record { hint = x; type = A } in
      let k : Cell (List ℕ) = record { hint = scope.0; type = A } in
      subst (λ t. Each PartLike (map (under_name c) (parts_of f)) (parts_of t)) (sym whole)
      (each_made PartLike PartLike (under_name c) (under_name k) (under_like c k refl) (parts_of f) (parts_of scope.1)
      (parts_like (A ∷ Γ) f scope.1 (body_of sg (first_of sg (arguments_of sg (spec_universal A) d))) scope.3))
  parts_like Γ (spine (logical spec_implication) (term G (term f no_terms))) K d e =
      let b = begins_logical spec_implication (term (forget (here sg vs typed ps G)) (term (forget (here sg vs typed ps f)) no_terms)) K e in
      let one = one_more b.0 b.2 in
      let two = one_more one.1 one.4 in
      let whole : K ≡ spine (logical spec_implication) (term one.0 (term two.0 no_terms)) = b.1 ∙ ap (spine (logical spec_implication)) (one.2 ∙ ap (term one.0) (two.2 ∙ ap (term two.0) (no_more two.4))) in
      subst (λ t. Each PartLike (map (with_goal G) (parts_of f)) (parts_of t)) (sym whole)
      (each_made PartLike PartLike (with_goal G) (with_goal one.0) (goal_like G one.0 one.3) (parts_of f) (parts_of two.0)
      (parts_like Γ f two.0 (first_of sg (rest_of sg (arguments_of sg spec_implication d))) two.3))
  parts_like Γ (spine (logical spec_conjunction) (term f (term g no_terms))) K d e =
      let b = begins_logical spec_conjunction (term (forget (here sg vs typed ps f)) (term (forget (here sg vs typed ps g)) no_terms)) K e in
      let one = one_more b.0 b.2 in
      let two = one_more one.1 one.4 in
      let whole : K ≡ spine (logical spec_conjunction) (term one.0 (term two.0 no_terms)) = b.1 ∙ ap (spine (logical spec_conjunction)) (one.2 ∙ ap (term one.0) (two.2 ∙ ap (term two.0) (no_more two.4))) in
      subst (λ t. Each PartLike (parts_of f ++ parts_of g) (parts_of t)) (sym whole)
      (each_joined PartLike (parts_of f) (parts_of one.0) (parts_of g) (parts_of two.0)
      (parts_like Γ f one.0 (first_of sg (arguments_of sg spec_conjunction d)) one.3) (parts_like Γ g two.0 (first_of sg (rest_of sg (arguments_of sg spec_conjunction d))) two.3))
  parts_like Γ F K d e =
      subst (Each PartLike (alone F ∷ [])) (sym (single_part K (single_like sg vs typed ps Γ F K d e tt))) (record { names = refl; goals = tt; atom = e }, tt)

-- WHERE RULES ARE KNOWN, neither the goal nor an atom is undetermined
abbrev pub hides_atom : Part → Bool
hides_atom p = is_undetermined (kind_of p.atom)

pub known_so : (parts : List Part) (k : Kind) (rs : List SpecRule) → rules_in_focus parts k ≡ Some rs → (is_undetermined k ≡ false) × (list_any hides_atom parts ≡ false)
known_so parts undetermined rs e = absurd (let bad : None ≡ Some rs = e in cc)
known_so parts compound rs e = (refl, go (list_any hides_atom parts) e)
  where
    go : (b : Bool) → (if b then None else Some (map by_part parts)) ≡ Some rs → b ≡ false
    go true q = absurd (let bad : None ≡ Some rs = q in cc)
    go false q = refl
known_so parts atomic rs e = (refl, go (list_any hides_atom parts) e)
  where
    go : (b : Bool) → (if b then None else Some (map by_part parts)) ≡ Some rs → b ≡ false
    go true q = absurd (let bad : None ≡ Some rs = q in cc)
    go false q = refl

pub so_known : (parts : List Part) (k : Kind) → is_undetermined k ≡ false → list_any hides_atom parts ≡ false → rules_in_focus parts k ≡ Some (map by_part parts)
so_known parts undetermined e none = absurd (false≢true (sym e))
so_known parts compound e none = ap (λ (b : Bool). if b then None else Some (map by_part parts)) none
so_known parts atomic e none = ap (λ (b : Bool). if b then None else Some (map by_part parts)) none

module _ (sg : Signature) (vs : List StandIn) (typed : IsTyped sg (replacing vs)) (ps : List (Nominal × Nominal)) where
  pub determined_like : (G H : Read) → Like sg vs typed ps G H → is_undetermined (kind_of G) ≡ false → is_undetermined (kind_of H) ≡ false
  determined_like G H e d = go (kind_of G) refl d
    where
      go : (k : Kind) → kind_of G ≡ k → is_undetermined k ≡ false → is_undetermined (kind_of H) ≡ false
      go compound q n = ap is_undetermined (compound_like ps vs G H e q)
      go atomic q n = ap is_undetermined (atomic_like ps vs G H e q)
      go undetermined q n = absurd (false≢true (sym n))

  pub atoms_like : (xs zs : List Part) → Each (PartLike sg vs typed ps) xs zs → list_any hides_atom xs ≡ false → list_any hides_atom zs ≡ false
  atoms_like [] [] e none = refl
  atoms_like [] (b ∷ zs) e none = absurd e
  atoms_like (a ∷ xs) [] e none = absurd e
  atoms_like (a ∷ xs) (b ∷ zs) e none =
      let two = or_parts (hides_atom a) (list_any hides_atom xs) none in
      or_from (hides_atom b) (list_any hides_atom zs) (determined_like a.atom b.atom e.0.atom two.0) (atoms_like xs zs e.1 two.1)
