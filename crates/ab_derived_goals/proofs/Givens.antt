-- Terms that are given for names: all are put somewhere; and a conclusion that holds their constants says what it said without.
use Rattle.std.specs.Prelude.{All, Contains, bytes_eq, if◌then◌else◌, not}
use Rattle.std.proofs.Common.{◌≡◌, ◌⊎◌, inl, inr, ℕ, Bool, true, false, cond, List, [], ◌∷◌, ◌++◌, map, Option, Some, None, refl, sym, ◌∙◌, ap, subst}
use Rattle.std.proofs.lemmas.Bool.{false_from_ne_true, false≢true}
use Rattle.std.proofs.lemmas.List.Elements.{All-nil, All-cons, All-head, All-tail, All-contains, Contains-append_left, Contains-append_right, Contains-append_cases}
use Rattle.std.proofs.lemmas.Slice.Eq.{bytes_eq-Decides}
use Rattle.ab_term.specs.Types.{Ty}
use Rattle.ab_term.specs.Terms.{Nominal, Read}
use Rattle.ab_term.specs.Typing.{typed_spine, take_none, take_term}
use Rattle.ab_term.specs.Names.{support}
use Rattle.ab_term.specs.Variables.{variables}
use Rattle.ab_term.proofs.Lists.{Contains-none, All-from_contains}
use Rattle.ab_formulas.specs.Declarations.{Declarations, signature_in}
use Rattle.ab_formulas.specs.NewNames.{auto, given}
use Rattle.ab_formulas.specs.Sequents.{Sequent, IsSequent, Fits, in_terms, formula_of, proving, assuming}
use Rattle.ab_theory.specs.Derivations.{Debt}
use Rattle.ab_theory.specs.Pieces.{Piece, universal_of, nabla_of, antecedent_of, Given, type_named, given_for, given_otherwise, part_for, parts}
use Rattle.ab_theory.specs.Steps.{arrow_right, arrow_left, equal_right}
use Rattle.ab_theory.specs.Uses.{given_constants, implied}
use Rattle.ab_theory.proofs.RulesParts.{MayStand}
use Rattle.ab_search_proofs.proofs.Places.{some_cells}
use Rattle.ab_search_trees.proofs.MovedForms.{T}
use Rattle.ab_effects.specs.FormulaUses.{itself, given_that}
use Rattle.ab_consequences.specs.UseRows.{constants_given}
use Rattle.ab_consequences.proofs.Allowed.{found_last}
use Rattle.ab_derived_goals.specs.Derived.{AreSound, IsDerived}
use Rattle.ab_derived_goals.specs.GivenTerms.{AreApart}
use Rattle.ab_derived_goals.proofs.Hypotheses.{by_itself, dropped}
use Rattle.ab_derived_goals.proofs.Named.{none_used, without_last}
use Rattle.ab_derived_goals.proofs.Remaining.{implied_may}
use Rattle.ab_derived_goals.proofs.Trees.{closes, goes_on, goes_two_ways}
use Rattle.ab_derived_goals.proofs.Waiting.{hidden_name}

-- the names are those of the pieces, at these types
abbrev pub AreNamed : List Piece → List Given → Type 0
AreNamed ps = All (λ (g : Given). type_named g.name ps ≡ Some g.type)

module _ (x : List ℕ) (A : Ty) (ps : List Piece) where
  abbrev Named : Given → Type 0
  Named g = type_named g.name (universal_of x A ∷ ps) ≡ Some g.type

  other_type : (g : Given) → bytes_eq g.name x ≡ false → Named g → type_named g.name ps ≡ Some g.type
  other_type g e named =
      let other : bytes_eq x g.name ≡ false = false_from_ne_true (bytes_eq x g.name) (λ t. false≢true (sym e ∙ (bytes_eq-Decides g.name x).1 (sym ((bytes_eq-Decides x g.name).0 t)))) in
      sym (ap (λ b. if b then Some A else type_named g.name ps) other) ∙ named

  others_named : (gs : List Given) → AreNamed (universal_of x A ∷ ps) gs → AreNamed ps (given_otherwise x gs)
  others_named [] all = All-nil (λ (g : Given). type_named g.name ps ≡ Some g.type)
  others_named (g ∷ gs) all = go (bytes_eq g.name x) refl (others_named gs (All-tail Named g gs all))
    where
      go : (b : Bool) → bytes_eq g.name x ≡ b → AreNamed ps (given_otherwise x gs) → AreNamed ps (cond (not b) (g ∷ given_otherwise x gs) (given_otherwise x gs))
      go true e rest = rest
      go false e rest = All-cons (λ (h : Given). type_named h.name ps ≡ Some h.type) g (given_otherwise x gs) (other_type g e (All-head Named g gs all)) rest

module _ (P : Given → Type 0) (x : List ℕ) where
  others_all : (gs : List Given) → All P gs → All P (given_otherwise x gs)
  others_all [] all = all
  others_all (g ∷ gs) all = go (bytes_eq g.name x) (others_all gs (All-tail P g gs all))
    where
      go : (b : Bool) → All P (given_otherwise x gs) → All P (cond (not b) (g ∷ given_otherwise x gs) (given_otherwise x gs))
      go true rest = rest
      go false rest = All-cons P g (given_otherwise x gs) (All-head P g gs all) rest

others_apart : (x : List ℕ) (gs : List Given) → AreApart gs → AreApart (given_otherwise x gs)
others_apart x [] apart = tt
others_apart x (g ∷ gs) apart = go (bytes_eq g.name x) (others_apart x gs apart.1)
  where
    go : (b : Bool) → AreApart (given_otherwise x gs) → AreApart (cond (not b) (g ∷ given_otherwise x gs) (given_otherwise x gs))
    go true rest = rest
    go false rest = (others_all (λ (h : Given). bytes_eq h.name g.name ≡ false) x gs apart.0, rest)

all_others : (x : List ℕ) (gs : List Given) → All (λ (h : Given). bytes_eq h.name x ≡ false) gs → given_otherwise x gs ≡ gs
all_others x [] all = refl
all_others x (g ∷ gs) all =
    ap (λ b. cond (not b) (g ∷ given_otherwise x gs) (given_otherwise x gs)) (All-head (λ (h : Given). bytes_eq h.name x ≡ false) g gs all)
    ∙ ap (λ l. g ∷ l) (all_others x gs (All-tail (λ (h : Given). bytes_eq h.name x ≡ false) g gs all))

-- a constant of these terms is one of the term that is given for a name, or of the others
abbrev IsOneOf : List ℕ → Nominal → Option Read → List Given → Type 0
IsOneOf x a o others = ((t : Read) × (o ≡ Some t) × Contains (support t) a) ⊎ Contains (constants_given others) a

still : (x : List ℕ) (a : Nominal) (o : Option Read) (g : Given) (others : List Given) → IsOneOf x a o others → IsOneOf x a o (g ∷ others)
still x a o g others (inl f) = inl f
still x a o g others (inr f) = inr (Contains-append_right (support g.value) (constants_given others) a f)

parted : (x : List ℕ) (gs : List Given) → AreApart gs → (a : Nominal) → Contains (constants_given gs) a → IsOneOf x a (given_for x gs) (given_otherwise x gs)
parted x [] apart a m = inr m
parted x (g ∷ gs) apart a m = go (bytes_eq g.name x) refl (Contains-append_cases (support g.value) (constants_given gs) a m) (parted x gs apart.1 a)
  where
    go : (b : Bool) → bytes_eq g.name x ≡ b → Contains (support g.value) a ⊎ Contains (constants_given gs) a → (Contains (constants_given gs) a → IsOneOf x a (given_for x gs) (given_otherwise x gs))
        → IsOneOf x a (if b then Some g.value else given_for x gs) (cond (not b) (g ∷ given_otherwise x gs) (given_otherwise x gs))
    go true e (inl c) rest = inl (g.value, refl, c)
    go true e (inr c) rest =
        let same : g.name ≡ x = (bytes_eq-Decides g.name x).0 e in
        inr (subst (λ l. Contains (constants_given l) a) (sym (all_others x gs (subst (λ y. All (λ (h : Given). bytes_eq h.name y ≡ false) gs) same apart.0))) c)
    go false e (inl c) rest = inr (Contains-append_left (support g.value) (constants_given (given_otherwise x gs)) a c)
    go false e (inr c) rest = still x a (given_for x gs) g (given_otherwise x gs) (rest c)

-- each is put for a name
pub all_put : (ps : List Piece) (gs : List Given) → AreNamed ps gs → AreApart gs → (a : Nominal) → Contains (constants_given gs) a → Contains (given_constants (parts gs ps)) a
all_put [] [] named apart a m = m
all_put [] (g ∷ gs) named apart a m = let clash : None ≡ Some g.type = All-head (λ (h : Given). type_named h.name [] ≡ Some h.type) g gs named in absurd (cc)
all_put (universal_of x A ∷ ps) gs named apart a m =
    go (given_for x gs) (parted x gs apart a m) (all_put ps (given_otherwise x gs) (others_named x A ps gs named) (others_apart x gs apart) a)
  where
    go : (o : Option Read) → IsOneOf x a o (given_otherwise x gs) → (Contains (constants_given (given_otherwise x gs)) a → Contains (given_constants (parts (given_otherwise x gs) ps)) a)
        → Contains (given_constants (part_for x A o ∷ parts (given_otherwise x gs) ps)) a
    go None (inl (t, e, c)) rest = absurd (cc)
    go None (inr c) rest = rest c
    go (Some u) (inl (t, e, c)) rest =
        let same : u ≡ t = cc in
        Contains-append_left (support u) (given_constants (parts (given_otherwise x gs) ps)) a (subst (λ v. Contains (support v) a) (sym same) c)
    go (Some u) (inr c) rest = Contains-append_right (support u) (given_constants (parts (given_otherwise x gs) ps)) a (rest c)
all_put (nabla_of A ∷ ps) gs named apart a m = all_put ps gs named apart a m
all_put (antecedent_of E ∷ ps) gs named apart a m = all_put ps gs named apart a m

-- THE CONCLUSION THAT HOLDS THEIR CONSTANTS

module _ (f : ℕ → ℕ) where
  abbrev pub given_moved : Given → Given
  given_moved g = record { name = g.name; type = g.type; value = T f g.value }

  pub that_moved : (gs : List Given) (C : Read) → T f (given_that gs C) ≡ given_that (map given_moved gs) (T f C)
  that_moved [] C = refl
  that_moved (g ∷ gs) C = ap (implied (itself (given_moved g))) (that_moved gs C)

-- it may stand where they may
module _ (D : Declarations) (s : Sequent) (N : List Nominal) where
  abbrev In : List Nominal → Type 0
  In ns = (a : Nominal) → Contains ns a → Contains N a

  abbrev FitsIt : Given → Type 0
  FitsIt g = Fits D s g.value g.type

  itself_may : (g : Given) → FitsIt g → In (support g.value) → MayStand (signature_in D) s.variables N (itself g)
  itself_may g m within = record {
    formula = record { typed = typed_spine refl (take_term m.typed (take_term m.typed take_none)); stands = (tt, (tt, (tt, tt))) };
    closed = All-from_contains (Contains (map in_terms s.variables)) (variables (itself g)) (λ z c. elim (Contains-append_cases (variables g.value) (variables g.value ++ []) z c) [
      | inl k ↦ All-contains (Contains (map in_terms s.variables)) (variables g.value) z m.closed k
      | inr k ↦ elim (Contains-append_cases (variables g.value) [] z k) [ inl j ↦ All-contains (Contains (map in_terms s.variables)) (variables g.value) z m.closed j | inr j ↦ absurd (Contains-none z j) ]
    ]);
    names = λ a c. elim (Contains-append_cases (support g.value) (support g.value ++ []) a c) [
      | inl k ↦ within a k
      | inr k ↦ elim (Contains-append_cases (support g.value) [] a k) [ inl j ↦ within a j | inr j ↦ absurd (Contains-none a j) ]
    ];
  }

  pub that_may : (gs : List Given) (C : Read) → All (λ (g : Given). Fits D s g.value g.type) gs → ((a : Nominal) → Contains (constants_given gs) a → Contains N a) → MayStand (signature_in D) s.variables N C → MayStand (signature_in D) s.variables N (given_that gs C)
  that_may [] C all within may = may
  that_may (g ∷ gs) C all within may =
      implied_may (signature_in D) s.variables N (itself g) (given_that gs C)
      (itself_may g (All-head FitsIt g gs all) (λ a c. within a (Contains-append_left (support g.value) (constants_given gs) a c)))
      (that_may gs C (All-tail FitsIt g gs all) (λ a c. within a (Contains-append_right (support g.value) (constants_given gs) a c)) may)

module _ (D : Declarations) (sound : AreSound D) where
  -- it is proved by the conclusion without
  pub stripped : (gs : List Given) (k : Sequent) (C : Read) (ps : List Sequent) (ts : List Debt) → IsSequent D (proving (given_that gs C) k) → (IsSequent D (proving C k) → IsDerived D (proving C k) ps ts) → IsDerived D (proving (given_that gs C) k) ps ts
  stripped [] k C ps ts is rest = rest is
  stripped (g ∷ gs) k C ps ts is rest =
      let w = proving (given_that (g ∷ gs) C) k in
      let y = hidden_name auto w in
      let next = proving (given_that gs C) (assuming y.0 (itself g) w) in
      let same = ap (proving (given_that gs C)) (without_last w y.0 (itself g) (none_used (formula_of w y.0) y.1.new)) in
      let at = some_cells w is.numbers_differ in
      goes_on D sound (arrow_right (given y.0)) w next ps ts is (at.0, at.1, ((itself g, given_that gs C), refl, (y.0, w, (y.1.new, refl, refl), refl)))
      (λ it.
      dropped D sound next y.0 ps ts it (λ last.
      subst (λ t. IsDerived D t ps ts) (sym same) (stripped gs k C ps ts (subst (IsSequent D) same last) rest)))

  -- and proves it
  pub unwound : (gs : List Given) (k : Sequent) (y : List ℕ) (C : Read) → IsSequent D k → formula_of k y ≡ Some (given_that gs C) → k.conclusion ≡ C → IsDerived D k [] []
  unwound [] k y C is has e = by_itself D sound k y is (has ∙ sym (ap Some e))
  unwound (g ∷ gs) k y C is has e =
      let z = hidden_name auto k in
      let at = some_cells k is.numbers_differ in
      let first = proving (itself g) k in
      let second = assuming z.0 (given_that gs C) k in
      goes_two_ways D sound (arrow_left y (given z.0)) k first second [] [] [] [] is refl
      (at.0, at.1, (given_that (g ∷ gs) C, has, ((itself g, given_that gs C), refl, (z.0, k, (z.1.new, refl, refl), refl))))
      (λ it. closes D sound equal_right first refl (at.0, at.1, ((g.value, g.value), refl, (refl, refl))))
      (λ it. unwound gs second z.0 C it (found_last k.hypotheses z.0 (given_that gs C) (none_used (formula_of k z.0) z.1.new)) e)
