-- A CLAUSE'S SIDES AS RAISED TERMS: its variables become fresh ones, which are raised over constants by each alternative.
use Rattle.std.proofs.Common.{◌≡◌, ◌⊎◌, inl, inr, ℕ, suc, ◌+◌, ◌-◌, List, [], ◌∷◌, ◌++◌, map, length, Bool, true, false, cond, Option, Some, None, option_map, refl, sym, ◌∙◌, ap, subst, arith}
use Rattle.std.specs.Prelude.{Contains}
use Rattle.std.proofs.lemmas.Bool.{false≢true, or_cases, or_left, or_right}
use Rattle.ab_term.specs.Types.{Ty}
use Rattle.ab_term.specs.Terms.{Nominal, Variable, nominal, variable, Term, no_terms}
use Rattle.ab_term.specs.Typing.{Signature, HasType}
use Rattle.ab_term.specs.Names.{moved_by, rename, permute, support, IsPermutationTable}
use Rattle.ab_term.specs.Expansion.{expansion}
use Rattle.ab_term.specs.Translation.{forget}
use Rattle.ab_term.specs.Variables.{Substitution, variables, value_in, image, image_by, IsTyped}
use Rattle.ab_term.specs.Sameness.{same_numbered, same_number}
use Rattle.ab_term.specs.Abstraction.{over, given_names}
use Rattle.ab_term.proofs.Compositions.{then_by, image_composed}
use Rattle.ab_term.proofs.Depends.{image_rigid}
use Rattle.ab_term.proofs.Expansions.{expansion_typed}
use Rattle.ab_term.proofs.Images.{IsTypedMap, image_by_typed}
use Rattle.ab_term.proofs.Lists.{Contains-none, Contains-here, Contains-there}
use Rattle.ab_term.proofs.OwnExpansion.{image_by-own}
use Rattle.ab_term.proofs.Permutations.{swapped, IsOneToOne, one_to_one}
use Rattle.ab_term.proofs.Permuting.{rename_agrees}
use Rattle.ab_term.proofs.Raising.{new_over, forget-given}
use Rattle.ab_term.proofs.Renamings.{rename-image_by, rename-expansion_of, rename_typed}
use Rattle.ab_term.proofs.Same.{same_numbered-Decides}
use Rattle.ab_term.proofs.Stands.{variables-expansion_of}
use Rattle.ab_term.proofs.PastHints.{variables-forget}
use Rattle.ab_term.proofs.Translations.{translate_typed, translate-expansion, support-translate}
use Rattle.ab_term.proofs.UpToNames.{rename-itself}
use Rattle.ab_unifiers.specs.Replacements.{Cell, holds}
use Rattle.ab_unifiers.specs.Clauses.{Clause, Each, numbered, clause_variables, clause_names, name_term, filled}
use Rattle.ab_unifiers.specs.Alternatives.{made_over, made_terms}
use Rattle.ab_unifiers.proofs.Core.{variables_found, names_found}
use Rattle.ab_unifiers.proofs.Covered.{names_typed}
use Rattle.ab_unifiers.proofs.Following.{Put, plain, plain_typed, image_plain}
use Rattle.ab_unifiers.proofs.Agreeing.{holds_front, holds_behind, image_agrees}
use Rattle.ab_unifiers.proofs.Constants as constants
use Rattle.ab_unifiers.proofs.Variables as stand
use Rattle.ab_unifiers.proofs.Lifting.{made_terms_typed}
use Rattle.ab_unifiers.proofs.Past.{bare_own}
use Rattle.ab_unifiers.proofs.Rows.{each_both, each_held, each_any, held_append, numbered_within}
use Rattle.ab_unifiers.proofs.Unifier.{from_cells, filled_typed}
use Rattle.ab_pattern_matching.specs.Raising.{Bare, Raising, raised, raised_term, raising}
use Rattle.ab_pattern_matching.proofs.Raised.{raising_typed}

module _ {Hint : Type 0} where
  -- numbered variables with one number are one
  pub numbered_one : (n : ℕ) (cs : List (Cell Hint)) (v w : Variable ℕ) → holds (numbered n cs) v ≡ true → holds (numbered n cs) w ≡ true → v.name ≡ w.name → v ≡ w
  numbered_one n [] v w h k e = absurd (false≢true h)
  numbered_one n (c ∷ cs) v w h k e =
      let z : Variable ℕ = record { name = n; type = c.type } in
      elim (or_cases (same_numbered z v) (holds (numbered (suc n) cs) v) h) [
        | inl a ↦ (elim (or_cases (same_numbered z w) (holds (numbered (suc n) cs) w) k) [
          | inl b ↦ sym ((same_numbered-Decides z v).0 a) ∙ (same_numbered-Decides z w).0 b
          | inr b ↦ (let name : n ≡ v.name = ap (λ y. y.name) ((same_numbered-Decides z v).0 a) in let low = (numbered_within (suc n) cs w b).0 in absurd (omega (arith, name, low, e)))
        ])
        | inr a ↦ (elim (or_cases (same_numbered z w) (holds (numbered (suc n) cs) w) k) [
          | inl b ↦ (let name : n ≡ w.name = ap (λ y. y.name) ((same_numbered-Decides z w).0 b) in let low = (numbered_within (suc n) cs v a).0 in absurd (omega (arith, name, low, e)))
          | inr b ↦ numbered_one (suc n) cs v w a b e
        ])
      ]

  -- the fresh variable for one of the clause
  pub numbered_moved : (N j : ℕ) (cs : List (Cell Hint)) (y : Variable ℕ) → holds (numbered j cs) y ≡ true → holds (numbered (N + j) cs) (record { name = N + y.name; type = y.type }) ≡ true
  numbered_moved N j [] y h = h
  numbered_moved N j (c ∷ cs) y h =
      let z : Variable ℕ = record { name = j; type = c.type } in
      let u : Variable ℕ = record { name = N + j; type = c.type } in
      let w : Variable ℕ = record { name = N + y.name; type = y.type } in
      elim (or_cases (same_numbered z y) (holds (numbered (suc j) cs) y) h) [
        | inl a ↦ or_left (same_numbered u w) (holds (numbered (suc (N + j)) cs) w) ((same_numbered-Decides u w).1 (ap (λ (v : Variable ℕ). record { name = N + v.name; type = v.type }) ((same_numbered-Decides z y).0 a)))
        | inr a ↦ or_right (same_numbered u w) (holds (numbered (suc (N + j)) cs) w) (let next : N + suc j ≡ suc (N + j) = omega arith in subst (λ i. holds (numbered i cs) w ≡ true) next (numbered_moved N (suc j) cs y a))
      ]

-- how an alternative raises fresh variables, numbered from N on, to those numbered from n on
abbrev pub from_to : ℕ → ℕ → List Nominal → Raising
from_to N n left = record { number = λ i. (i - N) + n; constants = left }

module _ {Hint : Type 0} (x : Hint) (N n : ℕ) (left : List Nominal) where
  -- the raised variables are the alternative's
  pub raised_are_made : (j : ℕ) (cs : List (Cell Hint)) → map (raised (from_to N n left)) (numbered (N + j) cs) ≡ made_over x (n + j) left cs
  raised_are_made j [] = refl
  raised_are_made j (c ∷ cs) =
      let number : ((N + j) - N) + n ≡ n + j = omega arith in
      let first : N + suc j ≡ suc (N + j) = omega arith in
      let second : n + suc j ≡ suc (n + j) = omega arith in
      ap (λ i. record { name = i; type = over left c.type } ∷ map (raised (from_to N n left)) (numbered (suc (N + j)) cs)) number
      ∙ ap (λ l. record { name = n + j; type = over left c.type } ∷ l)
      (ap (λ i. map (raised (from_to N n left)) (numbered i cs)) (sym first) ∙ raised_are_made (suc j) cs ∙ ap (λ i. made_over x i left cs) second)

  pub given_each : (j : ℕ) (cs : List (Cell Hint)) → Each (λ y t. t ≡ given_names x (new_over (n + y.name) left y.type) left y.type) (numbered j cs) (made_terms x (n + j) left cs)
  given_each j [] = tt
  given_each j (c ∷ cs) = (refl, let next : n + suc j ≡ suc (n + j) = omega arith in subst (λ i. Each (λ y t. t ≡ given_names x (new_over (n + y.name) left y.type) left y.type) (numbered (suc j) cs) (made_terms x i left cs)) next (given_each (suc j) cs))

-- ONE ALTERNATIVE
module _ (sg : Signature) {Hint : Type 0} (x : Hint) (c : Clause Hint) (n : ℕ) (left ns : List Nominal) (types : map (λ a. a.type) ns ≡ map (λ (z : Cell Hint). z.type) c.names) where
  abbrev pub put : Substitution ℕ Hint
  put = filled x c (made_terms x n left c.variables) ns

  made_typed : Each (λ y t. HasType sg [] t y.type) (clause_variables c) (made_terms x n left c.variables)
  made_typed = from_cells sg x 0 c.variables (made_terms x n left c.variables) (made_terms_typed sg x n left c.variables)

  names_are_typed : Each (λ y t. HasType sg [] t y.type) (clause_names c) (map (name_term x) ns)
  names_are_typed = names_typed sg x (length c.variables) c.names ns types

  pub put_typed : IsTyped sg (filled x c (made_terms x n left c.variables) ns)
  put_typed = filled_typed sg x c (made_terms x n left c.variables) ns made_typed names_are_typed

  made_any : Each (λ y t. Unit {0}) (clause_variables c) (made_terms x n left c.variables)
  made_any = each_any (λ y t. HasType sg [] t y.type) (clause_variables c) (made_terms x n left c.variables) made_typed

  names_any : Each (λ y t. Unit {0}) (clause_names c) (map (name_term x) ns)
  names_any = each_any (λ y t. HasType sg [] t y.type) (clause_names c) (map (name_term x) ns) names_are_typed

  -- a variable of the clause is raised
  pub variable_put : (y : Variable ℕ) → holds (clause_variables c) y ≡ true → value_in same_number (filled x c (made_terms x n left c.variables) ns) y ≡ Some (given_names x (new_over (n + y.name) left y.type) left y.type)
  variable_put = each_held (λ y t. (value_in same_number (filled x c (made_terms x n left c.variables) ns) y ≡ Some t) × (t ≡ given_names x (new_over (n + y.name) left y.type) left y.type))
      (λ y. value_in same_number (filled x c (made_terms x n left c.variables) ns) y ≡ Some (given_names x (new_over (n + y.name) left y.type) left y.type))
      (λ y t e. e.0 ∙ ap Some e.1) (clause_variables c) (made_terms x n left c.variables)
      (each_both (λ y t. value_in same_number (filled x c (made_terms x n left c.variables) ns) y ≡ Some t) (λ y t. t ≡ given_names x (new_over (n + y.name) left y.type) left y.type) (clause_variables c) (made_terms x n left c.variables)
      (variables_found sg x c (made_terms x n left c.variables) ns made_any names_any)
      (let start : n + 0 ≡ n = omega arith in subst (λ i. Each (λ y t. t ≡ given_names x (new_over (n + y.name) left y.type) left y.type) (clause_variables c) (made_terms x i left c.variables)) start (given_each x 0 n left 0 c.variables)))

  pub names_put : Each (λ y t. value_in same_number (filled x c (made_terms x n left c.variables) ns) y ≡ Some t) (clause_names c) (map (name_term x) ns)
  names_put = names_found sg x c (made_terms x n left c.variables) ns made_any names_any

-- TWO ALTERNATIVES of one clause, of which the second is up to a permutation
module _ (sg : Signature) {Hint : Type 0} (x : Hint) (c : Clause Hint) (n k : ℕ) (left right ns : List Nominal) (types : map (λ a. a.type) ns ≡ map (λ (z : Cell Hint). z.type) c.names) (ps : List (Nominal × Nominal)) (permutation : IsPermutationTable ps) (N : ℕ) where
  m : Nominal → Nominal
  m = moved_by ps

  one : IsOneToOne (moved_by ps) (moved_by (swapped ps))
  one = one_to_one ps permutation

  pub types_moved : map (λ a. a.type) (map (moved_by ps) ns) ≡ map (λ (z : Cell Hint). z.type) c.names
  types_moved = go ns ∙ types
    where
      go : (ls : List Nominal) → map (λ a. a.type) (map (moved_by ps) ls) ≡ map (λ a. a.type) ls
      go [] = refl
      go (a ∷ ls) = ap (λ t. t ∷ map (λ b. b.type) (map (moved_by ps) ls)) (one.keeps a) ∙ ap (λ l. a.type ∷ l) (go ls)

  abbrev pub first_put : Substitution ℕ Hint
  first_put = filled x c (made_terms x n left c.variables) ns

  abbrev pub second_put : Substitution ℕ Hint
  second_put = filled x c (made_terms x k right c.variables) (map (moved_by ps) ns)

  -- a name of the clause becomes a constant, and the permuted one
  names_at : (zs : List (Variable ℕ)) (ls : List Nominal) → Each (λ y t. value_in same_number first_put y ≡ Some t) zs (map (name_term x) ls) → Each (λ y t. value_in same_number second_put y ≡ Some t) zs (map (name_term x) (map (moved_by ps) ls))
      → (y : Variable ℕ) → holds zs y ≡ true → (a : Nominal) × Contains ls a × (value_in same_number first_put y ≡ Some (name_term x a)) × (value_in same_number second_put y ≡ Some (name_term x (moved_by ps a)))
  names_at [] ls e f y h = absurd (false≢true h)
  names_at (z ∷ zs) [] e f y h = absurd e
  names_at (z ∷ zs) (a ∷ ls) e f y h = elim (or_cases (same_numbered z y) (holds zs y) h) [
    | inl i ↦ (let same = (same_numbered-Decides z y).0 i in (a, Contains-here a ls, subst (λ v. value_in same_number first_put v ≡ Some (name_term x a)) same e.0, subst (λ v. value_in same_number second_put v ≡ Some (name_term x (moved_by ps a))) same f.0))
    | inr i ↦ (let r = names_at zs ls e.1 f.1 y i in (r.0, Contains-there a ls r.0 r.1, r.2, r.3))
  ]

  name_at : (y : Variable ℕ) → holds (clause_names c) y ≡ true → (a : Nominal) × Contains ns a × (value_in same_number first_put y ≡ Some (name_term x a)) × (value_in same_number second_put y ≡ Some (name_term x (moved_by ps a)))
  name_at = names_at (clause_names c) ns (names_put sg x c n left ns types) (names_put sg x c k right (map (moved_by ps) ns) types_moved)

  -- the fresh variables, and the clause's sides over them
  abbrev pub fresh : Variable ℕ → Variable ℕ
  fresh y = record { name = N + y.name; type = y.type }

  abbrev pub fresh_variables : List (Variable ℕ)
  fresh_variables = numbered N c.variables

  abbrev pub to_fresh : Put
  to_fresh y = cond (holds (clause_variables c) y) (Some (bare_own (record { name = N + y.name; type = y.type }))) (cond (holds (clause_names c) y) (plain first_put y) None)

  abbrev pub side : Term ℕ Hint → Bare
  side t = image_by to_fresh (forget t)

  fresh_held : (y : Variable ℕ) → holds (clause_variables c) y ≡ true → holds (numbered N c.variables) (record { name = N + y.name; type = y.type }) ≡ true
  fresh_held y h = let start : N + 0 ≡ N = omega arith in subst (λ i. holds (numbered i c.variables) (record { name = N + y.name; type = y.type }) ≡ true) start (numbered_moved N 0 c.variables y h)

  to_fresh_typed : IsTypedMap sg to_fresh
  to_fresh_typed y u e = go (holds (clause_variables c) y) (holds (clause_names c) y) e
    where
      go : (b d : Bool) → cond b (Some (bare_own (record { name = N + y.name; type = y.type }))) (cond d (plain first_put y) None) ≡ Some u → HasType sg [] u y.type
      go true d e = let same : bare_own (record { name = N + y.name; type = y.type }) ≡ u = cc in subst (λ t. HasType sg [] t y.type) same (expansion_typed sg tt y.type [] (variable (record { name = N + y.name; type = y.type })) refl)
      go false true e = plain_typed sg first_put (put_typed sg x c n left ns types) y u e
      go false false e = absurd (cc)

  pub side_typed : {G : List Ty} {t : Term ℕ Hint} {A : Ty} → HasType sg G t A → HasType sg G (side t) A
  side_typed d = image_by_typed sg ℕ (Unit {0}) to_fresh to_fresh_typed (translate_typed sg (λ v. v) (λ h. tt) d)

  name_forgotten : (a : Nominal) → forget (name_term x a) ≡ expansion tt a.type (nominal a)
  name_forgotten a = translate-expansion (λ v. v) (λ h. tt) x a.type (nominal a)

  name_stays : (g : Put) (a : Nominal) → image_by g (forget (name_term x a)) ≡ forget (name_term x a)
  name_stays g a = image_rigid g (forget (name_term x a)) (ap variables (name_forgotten a) ∙ variables-expansion_of tt a.type (nominal a) no_terms)

  name_moved : (a : Nominal) → rename (moved_by ps) (forget (name_term x a)) ≡ forget (name_term x (moved_by ps a))
  name_moved a =
      ap (rename (moved_by ps)) (name_forgotten a)
      ∙ rename-expansion_of (moved_by ps) tt a.type (nominal a) no_terms
      ∙ ap (λ A. expansion tt A (nominal (moved_by ps a))) (sym (one.keeps a))
      ∙ sym (name_forgotten (moved_by ps a))

  -- what raising makes of a fresh variable
  raised_at : (to : ℕ) (ls : List Nominal) (y : Variable ℕ) → holds (clause_variables c) y ≡ true → image_by (raising (from_to N to ls) (numbered N c.variables)) (bare_own (record { name = N + y.name; type = y.type })) ≡ forget (given_names x (new_over (to + y.name) ls y.type) ls y.type)
  raised_at to ls y h =
      let w : Variable ℕ = record { name = N + y.name; type = y.type } in
      let number : ((N + y.name) - N) + to ≡ to + y.name = omega arith in
      image_by-own sg ℕ (raising (from_to N to ls) (numbered N c.variables)) (raising_typed sg (from_to N to ls) (numbered N c.variables)) w (raised_term (from_to N to ls) w) (ap (λ b. cond b (Some (raised_term (from_to N to ls) w)) None) (fresh_held y h))
      ∙ ap (λ i. given_names tt (new_over i ls y.type) ls y.type) number
      ∙ sym (forget-given x (new_over (to + y.name) ls y.type) ls y.type)

  -- the variables of a side are the clause's
  abbrev pub OfClause : Term ℕ Hint → Type 0
  OfClause t = (y : Variable ℕ) → holds (variables t) y ≡ true → holds (clause_variables c ++ clause_names c) y ≡ true

  -- what a variable of the clause becomes: a fresh one, or a constant's form
  pub data Becomes (y : Variable ℕ) : Type 0 where
    a_variable : holds (clause_variables c) y ≡ true → to_fresh y ≡ Some (bare_own (record { name = N + y.name; type = y.type })) → Becomes y
    a_name : (a : Nominal) → Contains ns a → to_fresh y ≡ Some (forget (name_term x a)) → value_in same_number first_put y ≡ Some (name_term x a) → value_in same_number second_put y ≡ Some (name_term x (moved_by ps a)) → Becomes y

  becomes : (y : Variable ℕ) → holds (clause_variables c ++ clause_names c) y ≡ true → Becomes y
  becomes y h = go (holds (clause_variables c) y) refl (held_append (clause_variables c) (clause_names c) y h)
    where
      named : holds (clause_variables c) y ≡ false → holds (clause_names c) y ≡ true → Becomes y
      named i j =
          let r = name_at y j in
          a_name r.0 r.1
          (ap (λ b. cond b (Some (bare_own (record { name = N + y.name; type = y.type }))) (cond (holds (clause_names c) y) (plain first_put y) None)) i ∙ ap (λ b. cond b (plain first_put y) None) j ∙ ap (option_map forget) r.2)
          r.2 r.3

      go : (b : Bool) → holds (clause_variables c) y ≡ b → (holds (clause_variables c) y ≡ true) ⊎ (holds (clause_names c) y ≡ true) → Becomes y
      go true i e = a_variable i (ap (λ b. cond b (Some (bare_own (record { name = N + y.name; type = y.type }))) (cond (holds (clause_names c) y) (plain first_put y) None)) i)
      go false i (inl e) = absurd (false≢true (sym i ∙ e))
      go false i (inr e) = named i e

  -- what is put in is nothing else
  put_is : (y : Variable ℕ) (u : Bare) → to_fresh y ≡ Some u → holds (clause_variables c ++ clause_names c) y ≡ true
  put_is y u e = go (holds (clause_variables c) y) refl (holds (clause_names c) y) refl e
    where
      go : (b : Bool) → holds (clause_variables c) y ≡ b → (d : Bool) → holds (clause_names c) y ≡ d → cond b (Some (bare_own (record { name = N + y.name; type = y.type }))) (cond d (plain first_put y) None) ≡ Some u → holds (clause_variables c ++ clause_names c) y ≡ true
      go true h d i e = holds_front (clause_variables c) (clause_names c) y h
      go false h true i e = holds_behind (clause_variables c) (clause_names c) y i
      go false h false i e = absurd (cc)

  -- THE FIRST ALTERNATIVE'S SIDE is the clause's, raised
  pub first_raised : {G : List Ty} {A : Ty} (t : Term ℕ Hint) → HasType sg G t A → OfClause t → forget (image same_number first_put t) ≡ image_by (raising (from_to N n left) (numbered N c.variables)) (side t)
  first_raised t d of =
      image_plain first_put t
      ∙ image_agrees (plain first_put) (λ y. then_by (raising (from_to N n left) (numbered N c.variables)) y (to_fresh y)) (forget t) (λ y i. at y (becomes y (of y (ap (λ l. holds l y) (sym (variables-forget t)) ∙ i))))
      ∙ sym (image_composed sg ℕ (Unit {0}) to_fresh (raising (from_to N n left) (numbered N c.variables)) to_fresh_typed (raising_typed sg (from_to N n left) (numbered N c.variables)) (translate_typed sg (λ v. v) (λ h. tt) d))
    where
      at : (y : Variable ℕ) → Becomes y → plain first_put y ≡ then_by (raising (from_to N n left) (numbered N c.variables)) y (to_fresh y)
      at y (a_variable h e) = ap (option_map forget) (variable_put sg x c n left ns types y h) ∙ ap Some (sym (raised_at n left y h)) ∙ sym (ap (then_by (raising (from_to N n left) (numbered N c.variables)) y) e)
      at y (a_name a i e f g) = ap (option_map forget) f ∙ ap Some (sym (name_stays (raising (from_to N n left) (numbered N c.variables)) a)) ∙ sym (ap (then_by (raising (from_to N n left) (numbered N c.variables)) y) e)

  abbrev moved_fresh : Put
  moved_fresh y = option_map (rename (moved_by ps)) (to_fresh y)

  moved_fresh_typed : IsTypedMap sg moved_fresh
  moved_fresh_typed y u e = go (to_fresh y) refl e
    where
      go : (o : Option Bare) → to_fresh y ≡ o → option_map (rename (moved_by ps)) o ≡ Some u → HasType sg [] u y.type
      go None q e = absurd (cc)
      go (Some v) q e = let same : rename (moved_by ps) v ≡ u = cc in subst (λ t. HasType sg [] t y.type) same (rename_typed sg (moved_by ps) one.keeps (to_fresh_typed y v q))

  own_stays : (w : Variable ℕ) → rename (moved_by ps) (bare_own w) ≡ bare_own w
  own_stays w = rename-expansion_of (moved_by ps) tt w.type (variable w) no_terms

  -- AND THE SECOND'S, permuted
  pub second_raised : {G : List Ty} {A : Ty} (t : Term ℕ Hint) → HasType sg G t A → OfClause t → support t ≡ [] → forget (image same_number second_put t) ≡ image_by (raising (from_to N k right) (numbered N c.variables)) (permute ps (side t))
  second_raised t d of none =
      image_plain second_put t
      ∙ image_agrees (plain second_put) (λ y. then_by (raising (from_to N k right) (numbered N c.variables)) y (moved_fresh y)) (forget t) (λ y i. at y (becomes y (of y (ap (λ l. holds l y) (sym (variables-forget t)) ∙ i))))
      ∙ sym (image_composed sg ℕ (Unit {0}) moved_fresh (raising (from_to N k right) (numbered N c.variables)) moved_fresh_typed (raising_typed sg (from_to N k right) (numbered N c.variables)) (translate_typed sg (λ v. v) (λ h. tt) d))
      ∙ ap (λ u. image_by (raising (from_to N k right) (numbered N c.variables)) (image_by moved_fresh u)) (sym same)
      ∙ ap (image_by (raising (from_to N k right) (numbered N c.variables))) (sym (rename-image_by (moved_by ps) to_fresh (forget t)))
    where
      same : rename (moved_by ps) (forget t) ≡ forget t
      same = rename_agrees (moved_by ps) (λ a. a) (forget t) (λ a i. absurd (Contains-none a (subst (λ l. Contains l a) (support-translate (λ v. v) (λ h. tt) t ∙ none) i))) ∙ rename-itself (forget t)

      at : (y : Variable ℕ) → Becomes y → plain second_put y ≡ then_by (raising (from_to N k right) (numbered N c.variables)) y (moved_fresh y)
      at y (a_variable h e) =
          ap (option_map forget) (variable_put sg x c k right (map (moved_by ps) ns) types_moved y h) ∙ ap Some (sym (raised_at k right y h) ∙ ap (image_by (raising (from_to N k right) (numbered N c.variables))) (sym (own_stays (record { name = N + y.name; type = y.type }))))
          ∙ sym (ap (λ o. then_by (raising (from_to N k right) (numbered N c.variables)) y (option_map (rename (moved_by ps)) o)) e)
      at y (a_name a i e f g) =
          ap (option_map forget) g ∙ ap Some (sym (name_stays (raising (from_to N k right) (numbered N c.variables)) (moved_by ps a)) ∙ ap (image_by (raising (from_to N k right) (numbered N c.variables))) (sym (name_moved a)))
          ∙ sym (ap (λ o. then_by (raising (from_to N k right) (numbered N c.variables)) y (option_map (rename (moved_by ps)) o)) e)

  -- what stands in a side: fresh variables, and the clause's constants
  pub side_holds : (t : Term ℕ Hint) → OfClause t → (y : Variable ℕ) → holds (variables (side t)) y ≡ true → holds (numbered N c.variables) y ≡ true
  side_holds t of = stand.has_held (λ z. holds (numbered N c.variables) z ≡ true) (side t)
      (stand.image_by_has (λ z. holds (clause_variables c ++ clause_names c) z ≡ true) (λ z. holds (numbered N c.variables) z ≡ true) to_fresh (λ y u e. value y u e (becomes y (put_is y u e))) (λ y e p. gone y e (becomes y p)) (forget t)
      (stand.held_has (λ z. holds (clause_variables c ++ clause_names c) z ≡ true) (forget t) (λ y i. of y (ap (λ l. holds l y) (sym (variables-forget t)) ∙ i))))
    where
      value : (y : Variable ℕ) (u : Bare) → to_fresh y ≡ Some u → Becomes y → stand.Has (λ z. holds (numbered N c.variables) z ≡ true) u
      value y u e (a_variable h f) = let both : Some (bare_own (record { name = N + y.name; type = y.type })) ≡ Some u = sym f ∙ e in let same : bare_own (record { name = N + y.name; type = y.type }) ≡ u = cc in
          subst (stand.Has (λ z. holds (numbered N c.variables) z ≡ true)) same (stand.expansion_of_has (λ z. holds (numbered N c.variables) z ≡ true) tt y.type (variable (record { name = N + y.name; type = y.type })) no_terms (fresh_held y h) tt)
      value y u e (a_name a i f g h) = let both : Some (forget (name_term x a)) ≡ Some u = sym f ∙ e in let same : forget (name_term x a) ≡ u = cc in
          subst (stand.Has (λ z. holds (numbered N c.variables) z ≡ true)) (sym (name_forgotten a) ∙ same) (stand.expansion_of_has (λ z. holds (numbered N c.variables) z ≡ true) tt a.type (nominal a) no_terms tt tt)

      gone : (y : Variable ℕ) → to_fresh y ≡ None → Becomes y → holds (numbered N c.variables) y ≡ true
      gone y e (a_variable h f) = absurd (let both : Some (bare_own (record { name = N + y.name; type = y.type })) ≡ None = sym f ∙ e in cc)
      gone y e (a_name a i f g h) = absurd (let both : Some (forget (name_term x a)) ≡ None = sym f ∙ e in cc)

  pub side_constants : (t : Term ℕ Hint) → support t ≡ [] → (a : Nominal) → Contains (support (side t)) a → Contains ns a
  side_constants t none = constants.has_support (λ b. Contains ns b) (side t)
      (constants.image_by_has (λ b. Contains ns b) to_fresh (λ y u e. value y u e (becomes y (put_is y u e))) (forget t)
      (constants.support_has (λ b. Contains ns b) (forget t) (λ a i. absurd (Contains-none a (subst (λ l. Contains l a) (support-translate (λ v. v) (λ h. tt) t ∙ none) i)))))
    where
      value : (y : Variable ℕ) (u : Bare) → to_fresh y ≡ Some u → Becomes y → constants.Has (λ b. Contains ns b) u
      value y u e (a_variable h f) = let both : Some (bare_own (record { name = N + y.name; type = y.type })) ≡ Some u = sym f ∙ e in let same : bare_own (record { name = N + y.name; type = y.type }) ≡ u = cc in
          subst (constants.Has (λ b. Contains ns b)) same (constants.expansion_of_has (λ b. Contains ns b) tt y.type (variable (record { name = N + y.name; type = y.type })) no_terms tt tt)
      value y u e (a_name a i f g h) = let both : Some (forget (name_term x a)) ≡ Some u = sym f ∙ e in let same : forget (name_term x a) ≡ u = cc in
          subst (constants.Has (λ b. Contains ns b)) (sym (name_forgotten a) ∙ same) (constants.expansion_of_has (λ b. Contains ns b) tt a.type (nominal a) no_terms i tt)
