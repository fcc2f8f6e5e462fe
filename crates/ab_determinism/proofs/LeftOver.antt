-- What is left where a formula is used is a formula of the goal: its parts may stand over the variables that are made and with
-- the constants that are chosen, and so may what the answer makes of them.
use Rattle.std.specs.Prelude.{All, Contains, IfSome, bytes_eq, nat_lt, if◌then◌else◌}
use Rattle.std.proofs.Common.{◌≡◌, ◌⊎◌, inl, inr, ℕ, zero, suc, ◌+◌, ◌≤◌, List, [], ◌∷◌, ◌++◌, map, length, Bool, true, false, cond, not, Option, Some, None, codes, refl, sym, ◌∙◌, ap, subst, arith, append-nil}
use Rattle.std.proofs.lemmas.Bool.{false≢true, false_from_ne_true}
use Rattle.std.proofs.lemmas.List.Elements.{All-nil, All-cons, All-head, All-tail, All-weaker, All-contains, Contains-append_left, Contains-append_right, Contains-append_cases}
use Rattle.std.proofs.lemmas.Slice.Eq.{bytes_eq-Decides}
use Rattle.ab_term.specs.Types.{Ty, prop}
use Rattle.ab_term.specs.Logical.{universal, nabla, implication}
use Rattle.ab_term.specs.Terms as tree
use Rattle.ab_term.specs.Terms.{Nominal, logical, lam, spine, no_terms, term, Read}
use Rattle.ab_term.specs.Typing.{Signature, typed_spine, take_none, take_term}
use Rattle.ab_term.specs.Names.{support, HasOneTypeEach}
use Rattle.ab_term.specs.Abstraction.{over, given_names}
use Rattle.ab_term.specs.Variables.{Substitution, variables, image}
use Rattle.ab_term.specs.Sameness.{same_number}
use Rattle.ab_term.proofs.Lists.{Contains-none, Contains-here, Contains-there, Contains-cases, Contains-map, Contains-from_map, All-from_contains}
use Rattle.ab_term.proofs.Hinted.{given_typed}
use Rattle.ab_term.proofs.Translations.{map-append}
use Rattle.ab_unifiers.specs.Replacements.{Cell, holds}
use Rattle.ab_unifiers.specs.Unification.{Equation, unified, Solves}
use Rattle.ab_unifiers.specs.Unifiers.{AreTyped, sides}
use Rattle.ab_unifiers.proofs.Agreeing.{contains_holds}
use Rattle.ab_unifiers.specs.Clauses.{numbered, name_term}
use Rattle.ab_unifiers.specs.Choices.{in_order, outside, choices}
use Rattle.ab_unifiers.specs.Alternatives.{made_over}
use Rattle.ab_unifiers.proofs.Choosing.{contains_kept, contains_ordered, outside_contains}
use Rattle.ab_unifiers.proofs.Constants.{has_support}
use Rattle.ab_unifiers.proofs.Matching.{choice_right}
use Rattle.ab_unifiers.proofs.Unifier.{made_have, made_over_vars}
use Rattle.ab_unifiers.proofs.Variables.{holds_contains, has_held}
use Rattle.ab_formulas.specs.Declarations.{Declarations, signature_in}
use Rattle.ab_formulas.specs.Marks.{erased}
use Rattle.ab_formulas.specs.Sequents.{Variable, Sequent, HoldsOnly, goal_names, in_terms}
use Rattle.ab_theory.specs.Equations.{AreCells, made, variables_from}
use Rattle.ab_theory.specs.Splits.{Case, problem_of, variables_of}
use Rattle.ab_formulas.proofs.Members.{place_cases}
use Rattle.ab_theory.proofs.RulesParts.{MayStand, MayBePut, for_all_scope, nabla_scope, implies_may, instance_may, name_may}
use Rattle.ab_theory.proofs.Sequents.{may_more}
use Rattle.ab_theory.specs.Pieces.{Piece, universal_of, nabla_of, antecedent_of, pieces, antecedent_count, type_named, Given, given_for, given_otherwise, Part, part_for, parts}
use Rattle.ab_theory.specs.Uses.{with_term, left_side, right_side, implied, Use, used, types_chosen, given_constants, use_by, choices_for, equations, awaiting}
use Rattle.ab_theory.specs.UseAnswers.{Using, case_by, standing_in, IsUsedFor, result_in}
use Rattle.ab_effects.specs.FormulaUses.{using}
use Rattle.ab_determinism.proofs.Fronts.{for_all_of, for_new_of, implied_of, HasFront, has_front, for_all_front, nabla_front, implied_front, front_put}
use Rattle.ab_determinism.proofs.Unmarked.{erased_typed, erased_closed}
use Rattle.ab_formulas.proofs.OneType.{fewer, choice_one_type}
use Rattle.ab_determinism.proofs.Answered.{left_may}
use Rattle.ab_determinism.proofs.Giving.{constants_of, AreApart, MayGive, AreGiven}

abbrev Cells : Type 0
Cells = List (Cell (List ℕ))

first_same : {X : Type 0} {x y : X} {xs ys : List X} → x ∷ xs ≡ y ∷ ys → x ≡ y
first_same e = cc

rest_same : {X : Type 0} {x y : X} {xs ys : List X} → x ∷ xs ≡ y ∷ ys → xs ≡ ys
rest_same e = cc

none_same : {X : Type 0} {x : X} {xs : List X} → [] ≡ x ∷ xs → ⊥
none_same e = cc

-- cells as variables of a goal are those of cases
numbered_from : (n : ℕ) (cs : Cells) → map in_terms (variables_from n cs) ≡ numbered n cs
numbered_from n [] = refl
numbered_from n (c ∷ cs) =
    let one : n + 1 ≡ suc n = omega arith in
    ap (λ k. record { name = n; type = c.type } ∷ map in_terms (variables_from k cs)) one ∙ ap (λ l. record { name = n; type = c.type } ∷ l) (numbered_from (suc n) cs)

-- TERMS THAT ARE GIVEN, one for each name

-- the names are those of the pieces, at these types
abbrev AreNamed : List Piece → List Given → Type 0
AreNamed ps = All (λ (g : Given). type_named g.name ps ≡ Some g.type)

module _ (x : List ℕ) (A : Ty) (ps : List Piece) where
  abbrev Named : Given → Type 0
  Named g = type_named g.name (universal_of x A ∷ ps) ≡ Some g.type

  -- the one that is given for the outermost name is of its type
  own_type : (g : Given) → bytes_eq g.name x ≡ true → Named g → A ≡ g.type
  own_type g e named =
      let same : g.name ≡ x = (bytes_eq-Decides g.name x).0 e in
      let found : bytes_eq x g.name ≡ true = (bytes_eq-Decides x g.name).1 (sym same) in
      let both : Some A ≡ Some g.type = sym (ap (λ b. if b then Some A else type_named g.name ps) found) ∙ named in
      cc

  other_type : (g : Given) → bytes_eq g.name x ≡ false → Named g → type_named g.name ps ≡ Some g.type
  other_type g e named =
      let other : bytes_eq x g.name ≡ false = false_from_ne_true (bytes_eq x g.name) (λ t. false≢true (sym e ∙ (bytes_eq-Decides g.name x).1 (sym ((bytes_eq-Decides x g.name).0 t)))) in
      sym (ap (λ b. if b then Some A else type_named g.name ps) other) ∙ named

  others_named : (gs : List Given) → AreNamed (universal_of x A ∷ ps) gs → AreNamed ps (given_otherwise x gs)
  others_named [] all = All-nil (λ (g : Given). type_named g.name ps ≡ Some g.type)
  others_named (g ∷ gs) all = go (bytes_eq g.name x) refl (others_named gs (All-tail Named g gs all))
    where
      go : (b : Bool) → bytes_eq g.name x ≡ b → AreNamed ps (given_otherwise x gs) → AreNamed ps (cond (not b) (g ∷ given_otherwise x gs) (given_otherwise x gs))
      go true e rest = rest
      go false e rest = All-cons (λ (h : Given). type_named h.name ps ≡ Some h.type) g (given_otherwise x gs) (other_type g e (All-head Named g gs all)) rest

  module _ (P : Ty → Read → Type 0) where
    found_put : (gs : List Given) → AreNamed (universal_of x A ∷ ps) gs → All (λ (g : Given). P g.type g.value) gs → (t : Read) → given_for x gs ≡ Some t → P A t
    found_put [] named all t e = absurd (cc)
    found_put (g ∷ gs) named all t e = go (bytes_eq g.name x) refl e (found_put gs (All-tail Named g gs named) (All-tail (λ (h : Given). P h.type h.value) g gs all) t)
      where
        go : (b : Bool) → bytes_eq g.name x ≡ b → (if b then Some g.value else given_for x gs) ≡ Some t → (given_for x gs ≡ Some t → P A t) → P A t
        go true d is rest =
            let value : g.value ≡ t = cc in
            subst (P A) value (subst (λ B. P B g.value) (sym (own_type g d (All-head Named g gs named))) (All-head (λ (h : Given). P h.type h.value) g gs all))
        go false d is rest = rest is

module _ (P : Given → Type 0) (x : List ℕ) where
  others_all : (gs : List Given) → All P gs → All P (given_otherwise x gs)
  others_all [] all = all
  others_all (g ∷ gs) all = go (bytes_eq g.name x) (others_all gs (All-tail P g gs all))
    where
      go : (b : Bool) → All P (given_otherwise x gs) → All P (cond (not b) (g ∷ given_otherwise x gs) (given_otherwise x gs))
      go true rest = rest
      go false rest = All-cons P g (given_otherwise x gs) (All-head P g gs all) rest

others_apart : (x : List ℕ) (gs : List Given) → AreApart gs → AreApart (given_otherwise x gs)
others_apart x [] apart = tt
others_apart x (g ∷ gs) apart = go (bytes_eq g.name x) (others_apart x gs apart.1)
  where
    go : (b : Bool) → AreApart (given_otherwise x gs) → AreApart (cond (not b) (g ∷ given_otherwise x gs) (given_otherwise x gs))
    go true rest = rest
    go false rest = (others_all (λ (h : Given). bytes_eq h.name g.name ≡ false) x gs apart.0, rest)

all_others : (x : List ℕ) (gs : List Given) → All (λ (h : Given). bytes_eq h.name x ≡ false) gs → given_otherwise x gs ≡ gs
all_others x [] all = refl
all_others x (g ∷ gs) all =
    ap (λ b. cond (not b) (g ∷ given_otherwise x gs) (given_otherwise x gs)) (All-head (λ (h : Given). bytes_eq h.name x ≡ false) g gs all)
    ∙ ap (λ l. g ∷ l) (all_others x gs (All-tail (λ (h : Given). bytes_eq h.name x ≡ false) g gs all))

-- a constant of these terms is one of the term that is given for a name, or of the others
abbrev IsOneOf : List ℕ → Nominal → Option Read → List Given → Type 0
IsOneOf x a o others = ((t : Read) × (o ≡ Some t) × Contains (support t) a) ⊎ Contains (constants_of others) a

still : (x : List ℕ) (a : Nominal) (o : Option Read) (g : Given) (others : List Given) → IsOneOf x a o others → IsOneOf x a o (g ∷ others)
still x a o g others (inl f) = inl f
still x a o g others (inr f) = inr (Contains-append_right (support g.value) (constants_of others) a f)

parted : (x : List ℕ) (gs : List Given) → AreApart gs → (a : Nominal) → Contains (constants_of gs) a → IsOneOf x a (given_for x gs) (given_otherwise x gs)
parted x [] apart a m = inr m
parted x (g ∷ gs) apart a m = go (bytes_eq g.name x) refl (Contains-append_cases (support g.value) (constants_of gs) a m) (parted x gs apart.1 a)
  where
    go : (b : Bool) → bytes_eq g.name x ≡ b → Contains (support g.value) a ⊎ Contains (constants_of gs) a → (Contains (constants_of gs) a → IsOneOf x a (given_for x gs) (given_otherwise x gs))
        → IsOneOf x a (if b then Some g.value else given_for x gs) (cond (not b) (g ∷ given_otherwise x gs) (given_otherwise x gs))
    go true e (inl c) rest = inl (g.value, refl, c)
    go true e (inr c) rest =
        let same : g.name ≡ x = (bytes_eq-Decides g.name x).0 e in
        inr (subst (λ l. Contains (constants_of l) a) (sym (all_others x gs (subst (λ y. All (λ (h : Given). bytes_eq h.name y ≡ false) gs) same apart.0))) c)
    go false e (inl c) rest = inr (Contains-append_left (support g.value) (constants_of (given_otherwise x gs)) a c)
    go false e (inr c) rest = still x a (given_for x gs) g (given_otherwise x gs) (rest c)

-- each is put for a name
all_put : (ps : List Piece) (gs : List Given) → AreNamed ps gs → AreApart gs → (a : Nominal) → Contains (constants_of gs) a → Contains (given_constants (parts gs ps)) a
all_put [] [] named apart a m = m
all_put [] (g ∷ gs) named apart a m = let clash : None ≡ Some g.type = All-head (λ (h : Given). type_named h.name [] ≡ Some h.type) g gs named in absurd (cc)
all_put (universal_of x A ∷ ps) gs named apart a m =
    go (given_for x gs) (parted x gs apart a m) (all_put ps (given_otherwise x gs) (others_named x A ps gs named) (others_apart x gs apart) a)
  where
    go : (o : Option Read) → IsOneOf x a o (given_otherwise x gs) → (Contains (constants_of (given_otherwise x gs)) a → Contains (given_constants (parts (given_otherwise x gs) ps)) a)
        → Contains (given_constants (part_for x A o ∷ parts (given_otherwise x gs) ps)) a
    go None (inl (t, e, c)) rest = absurd (cc)
    go None (inr c) rest = rest c
    go (Some u) (inl (t, e, c)) rest =
        let same : u ≡ t = cc in
        Contains-append_left (support u) (given_constants (parts (given_otherwise x gs) ps)) a (subst (λ v. Contains (support v) a) (sym same) c)
    go (Some u) (inr c) rest = Contains-append_right (support u) (given_constants (parts (given_otherwise x gs) ps)) a (rest c)
all_put (nabla_of A ∷ ps) gs named apart a m = all_put ps gs named apart a m
all_put (antecedent_of E ∷ ps) gs named apart a m = all_put ps gs named apart a m

-- and nothing else
module _ (a : Nominal) where
  of_found : (x : List ℕ) (gs : List Given) (t : Read) → given_for x gs ≡ Some t → Contains (support t) a → Contains (constants_of gs) a
  of_found x [] t e m = absurd (cc)
  of_found x (g ∷ gs) t e m = go (bytes_eq g.name x) e (λ f. of_found x gs t f m)
    where
      go : (b : Bool) → (if b then Some g.value else given_for x gs) ≡ Some t → (given_for x gs ≡ Some t → Contains (constants_of gs) a) → Contains (constants_of (g ∷ gs)) a
      go true is rest = let value : g.value ≡ t = cc in Contains-append_left (support g.value) (constants_of gs) a (subst (λ v. Contains (support v) a) (sym value) m)
      go false is rest = Contains-append_right (support g.value) (constants_of gs) a (rest is)

  of_others : (x : List ℕ) (gs : List Given) → Contains (constants_of (given_otherwise x gs)) a → Contains (constants_of gs) a
  of_others x [] m = m
  of_others x (g ∷ gs) m = go (bytes_eq g.name x) m (of_others x gs)
    where
      go : (b : Bool) → Contains (constants_of (cond (not b) (g ∷ given_otherwise x gs) (given_otherwise x gs))) a → (Contains (constants_of (given_otherwise x gs)) a → Contains (constants_of gs) a) → Contains (constants_of (g ∷ gs)) a
      go true is rest = Contains-append_right (support g.value) (constants_of gs) a (rest is)
      go false is rest = elim (Contains-append_cases (support g.value) (constants_of (given_otherwise x gs)) a is) [
        | inl c ↦ Contains-append_left (support g.value) (constants_of gs) a c
        | inr c ↦ Contains-append_right (support g.value) (constants_of gs) a (rest c)
      ]

  put_from : (ps : List Piece) (gs : List Given) → Contains (given_constants (parts gs ps)) a → Contains (constants_of gs) a
  put_from [] gs m = absurd (Contains-none a m)
  put_from (universal_of x A ∷ ps) gs m = go (given_for x gs) refl m (λ c. of_others x gs (put_from ps (given_otherwise x gs) c))
    where
      go : (o : Option Read) → given_for x gs ≡ o → Contains (given_constants (part_for x A o ∷ parts (given_otherwise x gs) ps)) a
          → (Contains (given_constants (parts (given_otherwise x gs) ps)) a → Contains (constants_of gs) a) → Contains (constants_of gs) a
      go None e is rest = rest is
      go (Some t) e is rest = elim (Contains-append_cases (support t) (given_constants (parts (given_otherwise x gs) ps)) a is) [ inl c ↦ of_found x gs t e c | inr c ↦ rest c ]
  put_from (nabla_of A ∷ ps) gs m = put_from ps gs m
  put_from (antecedent_of E ∷ ps) gs m = put_from ps gs m

  of_one : (gs : List Given) (g : Given) → Contains gs g → Contains (support g.value) a → Contains (constants_of gs) a
  of_one [] g m k = absurd (Contains-none g m)
  of_one (h ∷ gs) g m k = elim (Contains-cases h gs g m) [
    | inl e ↦ Contains-append_left (support h.value) (constants_of gs) a (subst (λ (y : Given). Contains (support y.value) a) (sym e) k)
    | inr n ↦ Contains-append_right (support h.value) (constants_of gs) a (of_one gs g n k)
  ]

-- a term over variables, over more
closed_over : (xs ys : List Variable) → ((x : Variable) → Contains xs x → Contains ys x) → (t : Read) → HoldsOnly xs t → HoldsOnly ys t
closed_over xs ys more t closed =
    All-weaker (Contains (map in_terms xs)) (Contains (map in_terms ys))
    (λ v c. let x = Contains-from_map in_terms xs v c in subst (Contains (map in_terms ys)) x.2 (Contains-map in_terms ys x.0 (more x.0 x.1))) (variables t) closed

-- how many antecedents are among the pieces
abbrev many : List Piece → ℕ
many [] = 0
many (universal_of x A ∷ ps) = many ps
many (nabla_of A ∷ ps) = many ps
many (antecedent_of E ∷ ps) = suc (many ps)

none_more : (n : ℕ) → n ≤ 0 → 0 ≡ n
none_more n l = omega (arith, l)

one_less : (n m : ℕ) → suc (suc n) ≤ suc m → suc n ≤ m
one_less n m l = omega (arith, l)

as_many : (n : ℕ) (F : Read) → n ≤ antecedent_count F → many (pieces n F) ≡ n
as_many n (spine (logical (universal A)) (term (lam B x t) no_terms)) l = as_many n t l
as_many n (spine (logical (nabla A)) (term (lam B x t) no_terms)) l = as_many n t l
as_many zero (spine (logical implication) (term A (term B no_terms))) l = refl
as_many (suc zero) (spine (logical implication) (term A (term B no_terms))) l = refl
as_many (suc (suc n)) (spine (logical implication) (term A (term B no_terms))) l = ap suc (as_many (suc n) B (one_less n (antecedent_count B) l))
as_many n _ l = none_more n l

-- THE PARTS OF A USE, over these variables and constants
module _ (sg : Signature) (Z : List Variable) (M : List Nominal) where
  abbrev May : Read → Type 0
  May = MayStand sg Z M

  abbrev MayPut : Ty → Read → Type 0
  MayPut = MayBePut sg Z M

  for_all_step : (x : List ℕ) (A : Ty) (ps : List Piece) (F u : Read) → May F → HasFront (universal_of x A ∷ ps) F → MayPut A u → May (with_term F u) × HasFront ps (with_term F u)
  for_all_step x A ps F u may front put =
      let f = for_all_front ps x A F front in
      let scope = for_all_scope sg Z M (for_all_of A f.0 f.1 f.2) (A, lam f.0 f.1 f.2) (subst May f.3 may) refl in
      subst (λ H. May (with_term H u) × HasFront ps (with_term H u)) (sym f.3) (instance_may sg Z M (A, lam f.0 f.1 f.2) u scope put, front_put ps f.0 f.1 f.2 u f.4)

  nabla_step : (A : Ty) (ps : List Piece) (F u : Read) → May F → HasFront (nabla_of A ∷ ps) F → MayPut A u → May (with_term F u) × HasFront ps (with_term F u)
  nabla_step A ps F u may front put =
      let f = nabla_front ps A F front in
      let scope = nabla_scope sg Z M (for_new_of A f.0 f.1 f.2) (A, lam f.0 f.1 f.2) (subst May f.3 may) refl in
      subst (λ H. May (with_term H u) × HasFront ps (with_term H u)) (sym f.3) (instance_may sg Z M (A, lam f.0 f.1 f.2) u scope put, front_put ps f.0 f.1 f.2 u f.4)

  implied_step : (E : Read) (ps : List Piece) (F : Read) → May F → HasFront (antecedent_of E ∷ ps) F → May (left_side F) × May (right_side F) × HasFront ps (right_side F)
  implied_step E ps F may front =
      let f = implied_front ps E F front in
      let both = implies_may sg Z M (implied_of f.0 f.1) (f.0, f.1) (subst May f.2 may) refl in
      subst (λ H. May (left_side H) × May (right_side H) × HasFront ps (right_side H)) (sym f.2) (both.0, both.1, f.3)

  -- a variable that is made, over constants that may stand there
  new_put : (n : ℕ) (A : Ty) (free : List Nominal) → ((a : Nominal) → Contains free a → Contains M a) → Contains (map in_terms Z) (record { name = n; type = over free A }) → MayPut A (given_names (codes "x") (record { name = n; type = over free A }) free A)
  new_put n A free within there =
      let v : tree.Variable ℕ = record { name = n; type = over free A } in
      let t : Read = given_names (codes "x") v free A in
      let cells : Cells = record { hint = []; type = A } ∷ [] in
      let In : tree.Variable ℕ → Type 0 = Contains (map in_terms Z) in
      let only : (z : tree.Variable ℕ) → holds (made_over (codes "x") n free cells) z ≡ true → In z =
      λ z h. elim (Contains-cases v [] z (holds_contains (v ∷ []) z h)) [ inl e ↦ subst In e there | inr m ↦ absurd (Contains-none z m) ] in
      record {
        typed = given_typed sg (codes "x") [] v free A refl;
        closed = All-from_contains In (variables t) (λ z m. has_held In t (made_over_vars sg (codes "x") In 0 n free cells only).0 z (contains_holds (variables t) z m));
        names = has_support (Contains M) t (made_have sg (codes "x") (Contains M) 0 n free cells within).0;
      }

  record UseMay (k : ℕ) (u : Use) : Type 0 where
    antecedents : All May u.antecedents
    result : May u.result
    count : length u.antecedents ≡ k

  abbrev AreOver : ℕ → Use → Type 0
  AreOver n u = (z : tree.Variable ℕ) → Contains (numbered n u.variables) z → Contains (map in_terms Z) z

  abbrev types_of : List Nominal → List Ty
  types_of ns = map (λ a. a.type) ns

  -- what stays to be taken off is so, whatever was put
  abbrev RestMay : List Nominal → List Part → List Piece → List Nominal → Type 0
  RestMay held qs ps names = (n : ℕ) (F : Read) → May F → HasFront ps F → types_of names ≡ types_chosen qs → ((a : Nominal) → Contains names a → Contains M a) → AreOver n (used held n qs names F) → UseMay (many ps) (used held n qs names F)

  used_may : (held : List Nominal) → ((a : Nominal) → Contains held a → Contains M a) → (ps : List Piece) (gs : List Given) (names : List Nominal) → AreNamed ps gs → All (λ (g : Given). MayPut g.type g.value) gs → RestMay held (parts gs ps) ps names
  used_may held held_in [] gs names named put n F may front types listed within = record { antecedents = All-nil May; result = may; count = refl }
  used_may held held_in (universal_of x A ∷ ps) gs names named put n F may front types listed within =
      go (given_for x gs) (found_put x A ps MayPut gs named put) (used_may held held_in ps (given_otherwise x gs) names (others_named x A ps gs named) (others_all (λ (g : Given). MayPut g.type g.value) x gs put)) types within
    where
      go : (o : Option Read) → ((t : Read) → o ≡ Some t → MayPut A t) → RestMay held (parts (given_otherwise x gs) ps) ps names → types_of names ≡ types_chosen (part_for x A o ∷ parts (given_otherwise x gs) ps) → AreOver n (used held n (part_for x A o ∷ parts (given_otherwise x gs) ps) names F) → UseMay (many ps) (used held n (part_for x A o ∷ parts (given_otherwise x gs) ps) names F)
      go None found rest same over_so =
          let free = outside held names in
          let v : tree.Variable ℕ = record { name = n; type = over free A } in
          let u : Read = given_names (codes "x") v free A in
          let later : Use = used held (suc n) (parts (given_otherwise x gs) ps) names (with_term F u) in
          let there = over_so v (Contains-here v (numbered (suc n) later.variables)) in
          let step = for_all_step x A ps F u may front (new_put n A free (λ a c. held_in a (outside_contains held names a c).0) there) in
          let is = rest (suc n) (with_term F u) step.0 step.1 same listed (λ z m. over_so z (Contains-there v (numbered (suc n) later.variables) z m)) in
          record { antecedents = is.antecedents; result = is.result; count = is.count }
      go (Some t) found rest same over_so =
          let step = for_all_step x A ps F t may front (found t refl) in
          rest n (with_term F t) step.0 step.1 same listed over_so
  used_may held held_in (nabla_of A ∷ ps) gs [] named put n F may front types listed within = absurd (none_same types)
  used_may held held_in (nabla_of A ∷ ps) gs (a ∷ names) named put n F may front types listed within =
      let u : Read = name_term (codes "x") a in
      let step = nabla_step A ps F u may front (subst (λ B. MayPut B u) (first_same types) (name_may sg Z M a (listed a (Contains-here a names)))) in
      let is = used_may held held_in ps gs names named put n (with_term F u) step.0 step.1 (rest_same types) (λ b m. listed b (Contains-there a names b m)) within in
      record { antecedents = is.antecedents; result = is.result; count = is.count }
  used_may held held_in (antecedent_of E ∷ ps) gs names named put n F may front types listed within =
      let step = implied_step E ps F may front in
      let is = used_may held held_in ps gs names named put n (right_side F) step.1 step.2 types listed within in
      record { antecedents = All-cons May (left_side F) (used held n (parts gs ps) names (right_side F)).antecedents step.0 is.antecedents; result = is.result; count = ap suc is.count }

  -- AN IMPLICATION, and what is left to show before a result
  pub implied_may : (A B : Read) → May A → May B → May (implied A B)
  implied_may A B a b = record {
    formula = record { typed = typed_spine refl (take_term a.formula.typed (take_term b.formula.typed take_none)); stands = (tt, (a.formula.stands, (b.formula.stands, tt))) };
    closed = All-from_contains (Contains (map in_terms Z)) (variables (implied A B)) (λ z m. elim (Contains-append_cases (variables A) (variables B ++ []) z m) [
      | inl c ↦ All-contains (Contains (map in_terms Z)) (variables A) z a.closed c
      | inr c ↦ All-contains (Contains (map in_terms Z)) (variables B) z b.closed (subst (λ l. Contains l z) (append-nil (variables B)) c)
    ]);
    names = λ n m. elim (Contains-append_cases (support A) (support B ++ []) n m) [
      | inl c ↦ a.names n c
      | inr c ↦ b.names n (subst (λ l. Contains l n) (append-nil (support B)) c)
    ];
  }

  awaiting_may : (hs : List (Option Read)) (As : List Read) (R : Read) → All May As → May R → May (awaiting hs As R)
  awaiting_may [] As R all may = may
  awaiting_may (None ∷ hs) [] R all may = may
  awaiting_may (Some G ∷ hs) [] R all may = may
  awaiting_may (None ∷ hs) (A ∷ As) R all may = implied_may A (awaiting hs As R) (All-head May A As all) (awaiting_may hs As R (All-tail May A As all) may)
  awaiting_may (Some G ∷ hs) (A ∷ As) R all may = awaiting_may hs As R (All-tail May A As all) may

  -- THE EQUATIONS are typed, and over the variables
  abbrev MayIfAny : Option Read → Type 0
  MayIfAny o = IfSome o May

  equations_may : (p : ℕ) (hs : List (Option Read)) (As : List Read) → All MayIfAny hs → All May As → AreTyped sg (equations p hs As) × All (HoldsOnly Z) (sides (equations p hs As))
  equations_may p [] As given all = (tt, All-nil (HoldsOnly Z))
  equations_may p (None ∷ hs) [] given all = (tt, All-nil (HoldsOnly Z))
  equations_may p (Some G ∷ hs) [] given all = (tt, All-nil (HoldsOnly Z))
  equations_may p (None ∷ hs) (A ∷ As) given all = equations_may p hs As (All-tail MayIfAny None hs given) (All-tail May A As all)
  equations_may p (Some G ∷ hs) (A ∷ As) given all =
      let here : May A = All-head May A As all in
      let there : May G = All-head MayIfAny (Some G) hs given in
      let rest = equations_may (suc p) hs As (All-tail MayIfAny (Some G) hs given) (All-tail May A As all) in
      let es : List (Equation (List ℕ)) = equations (suc p) hs As in (
        (([], prop, erased_typed sg here.formula.typed, erased_typed sg there.formula.typed), rest.0),
        All-cons (HoldsOnly Z) (erased A) (erased G ∷ sides es) (erased_closed Z A here.closed) (All-cons (HoldsOnly Z) (erased G) (sides es) (erased_closed Z G there.closed) rest.1),
      )

-- THE RESULT, once what is left is taken apart
module _ (sg : Signature) (xs : List Variable) (M : List Nominal) (answer : Substitution ℕ (List ℕ)) where
  abbrev image_of : Read → Read
  image_of F = image same_number answer F

  too_short : (n : ℕ) → suc n ≤ 0 → ⊥
  too_short n l = omega (arith, l)

  shorter : (n m : ℕ) → suc n ≤ suc m → n ≤ m
  shorter n m l = omega (arith, l)

  result_may : (hs : List (Option Read)) (As : List Read) (R : Read) → length hs ≤ length As → MayStand sg xs M (image_of (awaiting hs As R)) → MayStand sg xs M (result_in hs (image_of (awaiting hs As R)))
  result_may [] As R l may = may
  result_may (h ∷ hs) [] R l may = absurd (too_short (length hs) l)
  result_may (None ∷ hs) (A ∷ As) R l may =
      result_may hs As R (shorter (length hs) (length As) l) (implies_may sg xs M (implied (image_of A) (image_of (awaiting hs As R))) (image_of A, image_of (awaiting hs As R)) may refl).1
  result_may (Some G ∷ hs) (A ∷ As) R l may = result_may hs As R (shorter (length hs) (length As) l) may

-- A FORMULA IS USED for hypotheses of the goal
pub record IsLeftOver (D : Declarations) (s : Sequent) (gs : List Given) (F : Read) : Type 0 where
  pub constants : List Nominal
  pub one_type : HasOneTypeEach constants
  pub held : (a : Nominal) → Contains (goal_names s ++ constants_of gs) a → Contains constants a
  pub may : MayStand (signature_in D) s.variables constants F

module _ (D : Declarations) (s : Sequent) (F : Read) (may : MayStand (signature_in D) s.variables (goal_names s) F) (hs : List (Option Read)) (hypotheses : All (λ o. IfSome o (MayStand (signature_in D) s.variables (goal_names s))) hs)
    (n : ℕ) (as_long : length hs ≡ n) (few : nat_lt (antecedent_count F) n ≡ false) (gs : List Given) (given : AreGiven D s (pieces n F) gs) where
  abbrev sg : Signature
  sg = signature_in D

  abbrev ps : List Piece
  ps = pieces n F

  abbrev qs : List Part
  qs = parts gs ps

  abbrev u : Using
  u = using s gs ps (record { hypotheses = hs; conclusion = None }) F

  abbrev G : List Nominal
  G = goal_names s

  enough : n ≤ antecedent_count F
  enough = elim (place_cases (antecedent_count F) n) [ inl p ↦ absurd (false≢true (sym few ∙ p.1)) | inr p ↦ p.0 ]

  named : AreNamed ps gs
  named = All-weaker (MayGive D s ps) (λ (g : Given). type_named g.name ps ≡ Some g.type) (λ g m. m.named) gs given.each

  module _ (cells : Cells) (are : AreCells cells s) (names : List Nominal) (listed : Contains (choices_for s qs F) names) where
    abbrev H : List Nominal
    H = G ++ given_constants qs

    abbrev M : List Nominal
    M = names ++ H

    abbrev c : Case
    c = case_by cells u names

    abbrev Z : List Variable
    Z = variables_of c

    in_goal : (a : Nominal) → Contains G a → Contains H a
    in_goal a m = Contains-append_left G (given_constants qs) a m

    in_order_goal : (a : Nominal) → Contains (in_order G) a → Contains H a
    in_order_goal a m = in_goal a (contains_ordered G a m)

    is_choice : Contains (choices (types_chosen qs) (in_order G) H) names
    is_choice = (contains_kept (λ ns. (use_by s 0 qs F ns).outside) (choices (types_chosen qs) (in_order G) H) names listed).0

    put_within : (a : Nominal) → Contains (given_constants qs) a → Contains (constants_of gs) a
    put_within a m = put_from a ps gs m

    one : HasOneTypeEach M
    one =
        choice_one_type (types_chosen qs) (in_order G) H names in_order_goal
        (fewer H (G ++ constants_of gs) (λ a m. elim (Contains-append_cases G (given_constants qs) a m) [
          | inl k ↦ Contains-append_left G (constants_of gs) a k
          | inr k ↦ Contains-append_right G (constants_of gs) a (put_within a k)
        ]) given.one_type) is_choice

    held : (a : Nominal) → Contains (G ++ constants_of gs) a → Contains M a
    held a m = Contains-append_right names H a (elim (Contains-append_cases G (constants_of gs) a m) [
      | inl k ↦ in_goal a k
      | inr k ↦ Contains-append_right G (given_constants qs) a (all_put ps gs named given.apart a k)
    ])

    in_all : (a : Nominal) → Contains G a → Contains M a
    in_all a m = Contains-append_right names H a (in_goal a m)

    old : (x : Variable) → Contains s.variables x → Contains Z x
    old x m = Contains-append_left s.variables (variables_from (length cells) c.own) x m

    new_within : (z : tree.Variable ℕ) → Contains (numbered (length cells) c.own) z → Contains (map in_terms Z) z
    new_within z m =
        subst (λ l. Contains l z) (sym (map-append in_terms s.variables (variables_from (length cells) c.own)))
        (Contains-append_right (map in_terms s.variables) (map in_terms (variables_from (length cells) c.own)) z (subst (λ l. Contains l z) (sym (numbered_from (length cells) c.own)) m))

    more : (E : Read) → MayStand sg s.variables G E → MayStand sg Z M E
    more = may_more D G M in_all s.variables Z old

    give_put : (g : Given) → Contains gs g → MayGive D s ps g → MayBePut sg Z M g.type g.value
    give_put g m is = record {
      typed = is.typed;
      closed = (closed_over s.variables Z old g.value is.closed);
      names = λ a k. held a (Contains-append_right G (constants_of gs) a (of_one a gs g m k));
    }

    parts_may : UseMay sg Z M (many ps) (use_by s (length cells) qs F names)
    parts_may =
        used_may sg Z M (in_order G) (λ a m. in_all a (contains_ordered G a m)) ps gs names named
        (All-from_contains (λ (g : Given). MayBePut sg Z M g.type g.value) gs (λ g m. give_put g m (All-contains (MayGive D s ps) gs g given.each m)))
        (length cells) F (more F may) (has_front n F) (choice_right (types_chosen qs) (in_order G) H in_order_goal names is_choice).0
        (λ a m. Contains-append_left names H a m) new_within

    abbrev taken : Use
    taken = use_by s (length cells) qs F names

    hypotheses_there : All (MayIfAny sg Z M) hs
    hypotheses_there = All-weaker (λ o. IfSome o (MayStand sg s.variables G)) (λ o. IfSome o (MayStand sg Z M)) each hs hypotheses
      where
        each : (o : Option Read) → IfSome o (MayStand sg s.variables G) → IfSome o (MayStand sg Z M)
        each None m = m
        each (Some E) m = more E m

    equations_there : AreTyped sg c.equations × All (HoldsOnly Z) (sides c.equations)
    equations_there =
        subst (λ es. AreTyped sg es × All (HoldsOnly Z) (sides es)) (sym (append-nil (equations 0 hs taken.antecedents))) (equations_may sg Z M 0 hs taken.antecedents hypotheses_there parts_may.antecedents)

    fewer_given : length hs ≤ length taken.antecedents
    fewer_given = let same : length taken.antecedents ≡ n = parts_may.count ∙ as_many n F enough in omega (arith, same, as_long)

    module _ (more_cells : Cells) (answer : Substitution ℕ (List ℕ)) (solves : Solves (codes "x") (problem_of c) (unified more_cells answer)) where
      result_is_left : [] ≡ standing_in (image same_number answer c.goal.conclusion) (made cells more_cells answer) → MayStand sg s.variables M (result_in hs (image same_number answer c.goal.conclusion))
      result_is_left none =
          result_may sg s.variables M answer hs taken.antecedents taken.result fewer_given
          (left_may D c are equations_there.0 equations_there.1 new_within more_cells answer solves M c.goal.conclusion (awaiting_may sg Z M hs taken.antecedents taken.result parts_may.antecedents parts_may.result) none)

  -- THE RESULT IS A FORMULA OF THE GOAL
  pub result_left : (K : Read) → IsUsedFor u K → IsLeftOver D s gs (result_in hs K)
  result_left K (cells, are, names, (before, after, is, never), m) =
      let listed : Contains (choices_for s qs F) names = subst (λ l. Contains l names) (sym is) (Contains-append_right before (names ∷ after) names (Contains-here names after)) in
      record {
        constants = names ++ (G ++ given_constants qs);
        one_type = one cells are names listed;
        held = held cells are names listed;
        may =
            subst (λ E. MayStand sg s.variables (names ++ (G ++ given_constants qs)) (result_in hs E)) (sym m.left)
            (result_is_left cells are names listed m.more m.answer m.solved (subst (λ E. [] ≡ standing_in E (made cells m.more m.answer)) m.left m.left_open));
      }
