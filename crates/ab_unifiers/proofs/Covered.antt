-- Cover, for clauses without `nabla`.
use Rattle.std.proofs.Common.{◌≡◌, ℕ, suc, List, [], ◌∷◌, map, length, Bool, true, false, cond, Some, refl, sym, ◌∙◌, ap, subst, arith}
use Rattle.std.specs.Prelude.{All, Contains}
use Rattle.std.proofs.lemmas.Slice.Eq.{bytes_eq-Decides}
use Rattle.std.proofs.lemmas.List.Elements.{All-contains, All-head, All-tail}
use Rattle.ab_term.specs.Terms.{Nominal, Variable, constant, Term, spine, Terms}
use Rattle.ab_term.specs.Typing.{Signature, HasType}
use Rattle.ab_term.specs.Translation.{EqualPastHints}
use Rattle.ab_term.specs.Names.{support, support_of_all}
use Rattle.ab_term.specs.Variables.{Substitution, value_in, image, IsTyped}
use Rattle.ab_term.proofs.Expansions.{expansion_typed}
use Rattle.ab_term.proofs.Lists.{Contains-here, Contains-map}
use Rattle.ab_term.specs.Sameness.{same_numbered, same_number}
use Rattle.ab_unifiers.specs.Replacements.{Cell}
use Rattle.ab_unifiers.specs.Unification.{Answer, unified, apart, stuck, Solves}
use Rattle.ab_unifiers.specs.Unifiers.{given}
use Rattle.ab_unifiers.specs.Clauses.{Clause, Each, numbered, clause_variables, clause_names, name_term, filled, head_of, IsClause, AreFor, HoldsNone, Instance, instance_by}
use Rattle.ab_unifiers.specs.Choices.{in_order, choices}
use Rattle.ab_unifiers.specs.Alternatives.{Scope, Alternative, on_left, alternative, clause_alternatives, alternatives}
use Rattle.ab_unifiers.specs.InstanceCover.{Covers, IsCovered, IsCleanFor}
use Rattle.ab_unifiers.proofs.Constants.{Has, support_has}
use Rattle.ab_unifiers.proofs.Choosing.{gathered, contains_ordered}
use Rattle.ab_unifiers.proofs.Atoms.{IsAtomOf}
use Rattle.ab_unifiers.proofs.Left.{LeftGives, left_gives}

-- a property of all that is put in, of what is found
pub found_of_all : {Hint : Type 0} (Q : Term ℕ Hint → Type 0) (s : Substitution ℕ Hint) → All (λ p. Q p.1) s → (y : Variable ℕ) (t : Term ℕ Hint) → value_in same_number s y ≡ Some t → Q t
found_of_all Q [] all y t e = absurd (cc)
found_of_all Q (p ∷ s) all y t e = go (same_numbered p.0 y) e (found_of_all Q s (All-tail (λ q. Q q.1) p s all) y t)
  where
    go : (b : Bool) → cond b (Some p.1) (value_in same_number s y) ≡ Some t → (value_in same_number s y ≡ Some t → Q t) → Q t
    go true f rest = let one : p.1 ≡ t = cc in subst Q one (All-head (λ q. Q q.1) p s all)
    go false f rest = rest f

module _ (sg : Signature) {Hint : Type 0} where
  -- terms that hold none of these constants, by the cells
  pub hold_none : (ns : List Nominal) (n : ℕ) (cs : List (Cell Hint)) (us : List (Term ℕ Hint)) → AreFor sg (numbered n cs) us → All (HoldsNone sg ns) us → Each (λ k u. Has (λ a. ¬ (Contains ns a)) u) cs us
  hold_none ns n [] [] e h = tt
  hold_none ns n [] (u ∷ us) e h = absurd e
  hold_none ns n (c ∷ cs) [] e h = absurd e
  hold_none ns n (c ∷ cs) (u ∷ us) e h = (
    support_has (λ a. ¬ (Contains ns a)) u (λ a m k. All-contains (λ a. ¬ (Contains (support u) a)) ns a (All-head (HoldsNone sg ns) u us h) k m),
    hold_none ns (suc n) cs us e.1 (All-tail (HoldsNone sg ns) u us h),
  )

  -- constants of the names' types
  pub names_typed : (x : Hint) (n : ℕ) (cs : List (Cell Hint)) (ns : List Nominal) → map (λ a. a.type) ns ≡ map (λ z. z.type) cs → AreFor sg (numbered n cs) (map (name_term x) ns)
  names_typed x n [] [] e = tt
  names_typed x n [] (a ∷ ns) e = absurd (cc)
  names_typed x n (c ∷ cs) [] e = absurd (cc)
  names_typed x n (c ∷ cs) (a ∷ ns) e =
      let one : a.type ≡ c.type = cc in
      let more : map (λ a. a.type) ns ≡ map (λ z. z.type) cs = cc in
      (subst (HasType sg [] (name_term x a)) one (expansion_typed sg x a.type [] _ refl), names_typed x (suc n) cs ns more)

  pub holds_none_of : (sequent : Scope Hint) (ts : Terms ℕ Hint) (s : Substitution ℕ Hint) → ((a : Nominal) → Contains (support_of_all ts) a → Contains sequent.constants a) → IsCleanFor sequent s
      → (y : Variable ℕ) (t : Term ℕ Hint) → value_in same_number s y ≡ Some t → Has (λ a. ¬ (Contains (in_order (support_of_all ts)) a)) t
  holds_none_of sequent ts s held clean y t e =
      let none : All (λ a. ¬ (Contains (support t) a)) sequent.constants = found_of_all (λ t. All (λ a. ¬ (Contains (support t) a)) sequent.constants) s clean y t e in
      support_has (λ a. ¬ (Contains (in_order (support_of_all ts)) a)) t (λ a m k. All-contains (λ a. ¬ (Contains (support t) a)) sequent.constants a none (held a (contains_ordered (support_of_all ts) a k)) m)

  pub same_predicate : (s r : Substitution ℕ Hint) (b p : List ℕ) (ts us : Terms ℕ Hint) → EqualPastHints (image same_number r (spine (constant b) us)) (image same_number s (spine (constant p) ts)) → b ≡ p
  same_predicate s r b p ts us e = cc

  -- the alternative of a choice is in the list
  pub alternative_listed : (x : Hint) (sequent : Scope Hint) (clauses : List (Clause Hint)) (c : Clause Hint) (ts : Terms ℕ Hint) (ns : List Nominal) → Contains clauses c
      → Contains (choices (map (λ z. z.type) c.names) (in_order (support_of_all ts)) sequent.constants) ns → Contains (alternatives x on_left sequent clauses (spine (constant c.predicate) ts)) (alternative x sequent ts c ns on_left)
  alternative_listed x sequent clauses c ts ns m k =
      gathered (clause_alternatives x on_left sequent c.predicate ts) clauses c (alternative x sequent ts c ns on_left) m
      (subst (λ b. Contains (cond b (map (λ ns. alternative x sequent ts c ns on_left) (choices (map (λ z. z.type) c.names) (in_order (support_of_all ts)) sequent.constants)) []) (alternative x sequent ts c ns on_left)) (sym ((bytes_eq-Decides c.predicate c.predicate).1 refl))
      (Contains-map (λ ns. alternative x sequent ts c ns on_left) (choices (map (λ z. z.type) c.names) (in_order (support_of_all ts)) sequent.constants) ns k))

module _ (sg : Signature) {Hint : Type 0} (x : Hint) (sequent : Scope Hint) (clauses : List (Clause Hint)) (well : All (IsClause sg) clauses) (s : Substitution ℕ Hint) (s_typed : IsTyped sg s) (s_clean : IsCleanFor sequent s) (B : Term ℕ Hint) where
  abbrev pub Covered : (Term ℕ Hint → Term ℕ Hint → Type 0) → Term ℕ Hint → Type 0
  Covered alike atom = IsCovered alike sg x sequent clauses atom s B

  by_plain_clause : (c : Clause Hint) (us : List (Term ℕ Hint)) (ts : Terms ℕ Hint) → Contains clauses c → c.names ≡ [] → IsAtomOf sg sequent (spine (constant c.predicate) ts)
      → AreFor sg (clause_variables c) us → EqualPastHints (image same_number (filled x c us []) (head_of c)) (image same_number s (spine (constant c.predicate) ts)) → EqualPastHints (image same_number (filled x c us []) c.body) B
      → Covered EqualPastHints (spine (constant c.predicate) ts)
  by_plain_clause c us ts m none atom for guess body = (
    alternative x sequent ts c [] on_left,
    alternative_listed sg x sequent clauses c ts [] m (subst (λ l. Contains (choices (map (λ z. z.type) l) (in_order (support_of_all ts)) sequent.constants) []) (sym none) (Contains-here [] [])),
    λ a e. covers a e,
  )
    where
      alt : Alternative Hint
      alt = alternative x sequent ts c [] on_left

      no_names : AreFor sg {Hint = Hint} (clause_names c) (map (name_term x) [])
      no_names = subst (λ l. AreFor sg {Hint = Hint} (numbered (length c.variables) l) []) (sym none) tt

      free : (n : ℕ) (cs : List (Cell Hint)) (vs : List (Term ℕ Hint)) → AreFor sg (numbered n cs) vs → Each (λ k u. Has (λ a. ¬ (Contains [] a)) u) cs vs
      free n [] [] e = tt
      free n [] (v ∷ vs) e = absurd e
      free n (k ∷ cs) [] e = absurd e
      free n (k ∷ cs) (v ∷ vs) e = (support_has (λ a. ¬ (Contains [] a)) v (λ a i j. omega (arith, j.1)), free (suc n) cs vs e.1)

      gives : (a : Answer Hint) → Solves x (given alt.equations alt.cells alt.flexible) a → LeftGives sg x sequent ts c [] us s atom.different atom.numbered (All-contains (IsClause sg) clauses c well m) atom.typed atom.over_variables for (free 0 c.variables us for) no_names s_typed (holds_none_of sg sequent ts s atom.constants_held s_clean) guess alt a
      gives a e = left_gives sg x sequent ts c [] us s atom.different atom.numbered (All-contains (IsClause sg) clauses c well m) atom.typed atom.over_variables for (free 0 c.variables us for) no_names s_typed (holds_none_of sg sequent ts s atom.constants_held s_clean) guess a e

      covers : (a : Answer Hint) → Solves x (given alt.equations alt.cells alt.flexible) a → Covers EqualPastHints sg sequent alt a s B
      covers apart e = gives apart e
      covers (stuck i) e = tt
      covers (unified more q) e = let g = gives (unified more q) e in (g.0, g.1, g.3 ∙ body, λ t A o. g.4 t A o.typed o.over_variables)

  pub covered_plain : All (λ c. c.names ≡ []) clauses → (p : List ℕ) (ts : Terms ℕ Hint) → IsAtomOf sg sequent (spine (constant p) ts) → Instance sg x clauses (image same_number s (spine (constant p) ts)) B → Covered EqualPastHints (spine (constant p) ts)
  covered_plain plain p ts atom (instance_by c us [] m for types different none guess body) =
      let one : c.predicate ≡ p = same_predicate sg s (filled x c us []) c.predicate p ts c.arguments guess in
      subst (λ b. Covered EqualPastHints (spine (constant b) ts)) one
      (by_plain_clause c us ts m (All-contains (λ c. c.names ≡ []) clauses c plain m) (subst (λ b. IsAtomOf sg sequent (spine (constant b) ts)) (sym one) atom) for (subst (λ b. EqualPastHints (image same_number (filled x c us []) (head_of c)) (image same_number s (spine (constant b) ts))) (sym one) guess) body)
  covered_plain plain p ts atom (instance_by c us (n ∷ ns) m for types different none guess body) =
      absurd (let no_names : c.names ≡ [] = All-contains (λ c. c.names ≡ []) clauses c plain m in let bad : map (λ a. a.type) (n ∷ ns) ≡ [] = types ∙ ap (map (λ z. z.type)) no_names in cc)
