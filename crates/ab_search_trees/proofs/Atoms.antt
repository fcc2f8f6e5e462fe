-- A DEFINED ATOM under a guess: what becomes a defined atom is one, and has all its choices.
use Rattle.std.proofs.Common.{◌≡◌, inl, inr, ℕ, List, [], ◌∷◌, ◌++◌, map, filter, Bool, true, false, cond, not, bytes_eq, Option, Some, None, option_map, refl, sym, ◌∙◌, ap, subst}
use Rattle.std.specs.Prelude.{Contains}
use Rattle.std.proofs.lemmas.List.Elements.{Contains-append_left, Contains-append_right, Contains-append_cases}
use Rattle.ab_term.specs.Types.{Ty, prop, same_type}
use Rattle.ab_term.specs.Terms.{Nominal, constant, logical, nominal, variable, index, lam, spine, Terms, Read}
use Rattle.ab_term.specs.Typing.{Signature, HasType}
use Rattle.ab_term.specs.Translation.{forget_all}
use Rattle.ab_term.specs.Names.{same_nominal, support_of_all}
use Rattle.ab_term.proofs.Lists.{Contains-none, Contains-here, Contains-there, Contains-cases, Contains-map, Contains-from_map}
use Rattle.ab_unifiers.proofs.Following.{Put}
use Rattle.ab_unifiers.specs.Choices.{others, of_type, in_order, new_constant, choices}
use Rattle.ab_unifiers.proofs.Choosing.{gathered, gathered_from, ordered_contains, contains_ordered}
use Rattle.ab_formulas.specs.Declarations.{Declarations, Block, block_in}
use Rattle.ab_formulas.specs.Formulas.{a_formula, a_marked, StandsIn}
use Rattle.ab_formulas.specs.Forms.{Form, truth, falsity, both, either, implies, equal, for_all, exists, nabla, marked, other, form_of}
use Rattle.ab_formulas.specs.Marks.{Sign, plain}
use Rattle.ab_theory.specs.Atoms.{Defined, Choice, defined_as, defined_form, defined_atom, choices_of}
use Rattle.ab_search_trees.specs.Goals.{Now}
use Rattle.ab_search_trees.proofs.Forms.{Makes, MakesAll, FormMade}
use Rattle.ab_search_trees.proofs.Facts.{Facts, IsPart, FormFacts}
use Rattle.ab_search_trees.proofs.Mapped.{passes}

-- the term that is made is an atom of the same predicate
pub record AtomMade (f : Put) (D : Declarations) (m : Sign) (A : Read) (d : Defined) : Type 0 where
  pub atom : Defined
  pub is : defined_as D m A ≡ Some atom
  pub sign : atom.sign ≡ d.sign
  pub predicate : atom.predicate ≡ d.predicate
  pub block : atom.block ≡ d.block
  pub whole : A ≡ spine (constant atom.predicate) atom.arguments
  pub arguments : MakesAll f atom.arguments d.arguments

-- a term that doesn't begin with a variable
abbrev pub IsFirm : Read → Type 0
IsFirm (lam A x t) = ⊥
IsFirm (spine (variable y) ts) = ⊥
IsFirm (spine h ts) = Unit {0}

pub formula_firm : (t : Read) → StandsIn a_formula t → IsFirm t
formula_firm (lam A x t) s = s
formula_firm (spine (variable y) ts) s = s.0
formula_firm (spine (constant c) ts) s = tt
formula_firm (spine (nominal a) ts) s = tt
formula_firm (spine (logical l) ts) s = tt
formula_firm (spine (index i) ts) s = tt

pub marked_firm : (t : Read) → StandsIn a_marked t → IsFirm t
marked_firm (lam A x t) s = s
marked_firm (spine (variable y) ts) s = s
marked_firm (spine (constant c) ts) s = tt
marked_firm (spine (nominal a) ts) s = tt
marked_firm (spine (logical l) ts) s = tt
marked_firm (spine (index i) ts) s = tt

-- the second is a constant with its arguments; so is the first
begun_constant : (f : Put) (A : Read) (p : List ℕ) (us : Terms ℕ (List ℕ)) → IsFirm A → Makes f A (spine (constant p) us) → (ts : Terms ℕ (List ℕ)) × (A ≡ spine (constant p) ts) × MakesAll f ts us
begun_constant f (lam A x t) p us r m = absurd r
begun_constant f (spine (variable y) ts) p us r m = absurd r
begun_constant f (spine (nominal a) ts) p us r m = absurd (cc)
begun_constant f (spine (logical l) ts) p us r m = absurd (cc)
begun_constant f (spine (index i) ts) p us r m = absurd (cc)
begun_constant f (spine (constant c) ts) p us r m =
    let same : c ≡ p = cc in
    let rest : MakesAll f ts us = cc in
    (ts, ap (λ k. spine (constant k) ts) same, rest)

module _ (f : Put) (D : Declarations) where
  pub as_made : (m : Sign) (A B : Read) (d : Defined) → IsFirm A → Makes f A B → defined_as D m B ≡ Some d → AtomMade f D m A d
  as_made m A (lam C x t) d r e q = absurd (cc)
  as_made m A (spine (variable y) us) d r e q = absurd (cc)
  as_made m A (spine (nominal a) us) d r e q = absurd (cc)
  as_made m A (spine (logical l) us) d r e q = absurd (cc)
  as_made m A (spine (index i) us) d r e q = absurd (cc)
  as_made m A (spine (constant p) us) d r e q = go (block_in D p) refl q
    where
      go : (o : Option Block) → block_in D p ≡ o → option_map (λ b. record { sign = m; predicate = p; arguments = us; block = b }) o ≡ Some d → AtomMade f D m A d
      go None k q = absurd (cc)
      go (Some b) k q =
          let given : Defined = record { sign = m; predicate = p; arguments = us; block = b } in
          let same : given ≡ d = cc in
          let begun = begun_constant f A p us r e in
          let ts = begun.0 in
          let atom : Defined = record { sign = m; predicate = p; arguments = ts; block = b } in
          record {
            atom = atom;
            is = ap (defined_as D m) begun.1 ∙ ap (option_map (λ b. record { sign = m; predicate = p; arguments = ts; block = b })) k;
            sign = ap (λ d. d.sign) same;
            predicate = ap (λ d. d.predicate) same;
            block = ap (λ d. d.block) same;
            whole = begun.1;
            arguments = begun.2 ∙ ap (λ d. forget_all d.arguments) same;
          }

  -- the atom of the first conclusion, with what is known of it
  pub record AtomKnown (sg : Signature) (now : Now) (branch : List Nominal) (u : Bool) (C : Read) (d : Defined) : Type 0 where
    pub atom : Defined
    pub is : defined_atom D C ≡ Some atom
    pub sign : atom.sign ≡ d.sign
    pub predicate : atom.predicate ≡ d.predicate
    pub block : atom.block ≡ d.block
    pub arguments : MakesAll f atom.arguments d.arguments
    pub typed : HasType sg [] (spine (constant atom.predicate) atom.arguments) prop
    pub facts : Facts now branch u (spine (constant atom.predicate) atom.arguments)

  atom_known : (sg : Signature) (now : Now) (branch : List Nominal) (u : Bool) (C A : Read) (m : Sign) (d : Defined) → defined_atom D C ≡ defined_as D m A → HasType sg [] A prop → Facts now branch u A → AtomMade f D m A d → AtomKnown sg now branch u C d
  atom_known sg now branch u C A m d e typed facts made = record {
    atom = made.atom;
    is = e ∙ made.is;
    sign = made.sign;
    predicate = made.predicate;
    block = made.block;
    arguments = made.arguments;
    typed = subst (λ t. HasType sg [] t prop) made.whole typed;
    facts = subst (λ t. Facts now branch u t) made.whole facts;
  }

  pub atom_lifts : (sg : Signature) (now : Now) (branch : List Nominal) (u : Bool) (C H : Read) (d : Defined) → IsPart sg now branch u C → Makes f C H → FormMade f (form_of C) (form_of H) → FormFacts sg now branch u (form_of C) → defined_atom D H ≡ Some d → AtomKnown sg now branch u C d
  atom_lifts sg now branch u C H d part m made facts e = go (form_of C) refl (form_of H) refl made facts e
    where
      go : (k : Form) → form_of C ≡ k → (j : Form) → form_of H ≡ j → FormMade f k j → FormFacts sg now branch u k → defined_form D j H ≡ Some d → AtomKnown sg now branch u C d
      go (marked n A) p (marked l B) q r facts e =
          atom_known sg now branch u C A n d (ap (λ k. defined_form D k C) p) facts.0 facts.2 (as_made n A B d (marked_firm A facts.1) r.1 (subst (λ k. defined_as D k B ≡ Some d) (sym r.0) e))
      go other p other q r facts e = atom_known sg now branch u C C plain d (ap (λ k. defined_form D k C) p) part.formula.typed part.facts (as_made plain C H d (formula_firm C part.formula.stands) m e)
      go other p (marked l B) q r facts e = absurd r
      go (marked n A) p other q r facts e = absurd r
      go k p truth q r facts e = absurd (cc)
      go k p falsity q r facts e = absurd (cc)
      go k p (both A B) q r facts e = absurd (cc)
      go k p (either A B) q r facts e = absurd (cc)
      go k p (implies A B) q r facts e = absurd (cc)
      go k p (equal A t v) q r facts e = absurd (cc)
      go k p (for_all A F) q r facts e = absurd (cc)
      go k p (exists A F) q r facts e = absurd (cc)
      go k p (nabla A F) q r facts e = absurd (cc)
      go truth p (marked l B) q r facts e = absurd r
      go falsity p (marked l B) q r facts e = absurd r
      go (both A E) p (marked l B) q r facts e = absurd r
      go (either A E) p (marked l B) q r facts e = absurd r
      go (implies A E) p (marked l B) q r facts e = absurd r
      go (equal A t v) p (marked l B) q r facts e = absurd r
      go (for_all A F) p (marked l B) q r facts e = absurd r
      go (exists A F) p (marked l B) q r facts e = absurd r
      go (nabla A F) p (marked l B) q r facts e = absurd r
      go _ p other q r facts e = absurd r

-- CHOICES among more constants
pub filter_parts : {X : Type 0} (test : X → Bool) (xs : List X) (a : X) → Contains (filter test xs) a → Contains xs a × (test a ≡ true)
filter_parts test [] a m = absurd (Contains-none a m)
filter_parts test (x ∷ xs) a m = go (test x) refl m (filter_parts test xs a)
  where
    go : (b : Bool) → test x ≡ b → Contains (cond b (x ∷ filter test xs) (filter test xs)) a → (Contains (filter test xs) a → Contains xs a × (test a ≡ true)) → Contains (x ∷ xs) a × (test a ≡ true)
    go true e m rest = elim (Contains-cases x (filter test xs) a m) [ inl f ↦ (subst (Contains (x ∷ xs)) f (Contains-here x xs), sym (ap test f) ∙ e) | inr n ↦ (let r = rest n in (Contains-there x xs a r.0, r.1)) ]
    go false e m rest = let r = rest m in (Contains-there x xs a r.0, r.1)

filter_more : {X : Type 0} (test : X → Bool) (xs ys : List X) → ((a : X) → Contains xs a → Contains ys a) → (a : X) → Contains (filter test xs) a → Contains (filter test ys) a
filter_more test xs ys sub a m = let r = filter_parts test xs a m in passes test ys a (sub a r.0) r.1

pub choices_more : (As : List Ty) (free more held : List Nominal) → ((a : Nominal) → Contains free a → Contains more a) → (ns : List Nominal) → Contains (choices As free held) ns → Contains (choices As more held) ns
choices_more [] free more held sub ns m = m
choices_more (A ∷ As) free more held sub ns m =
    let from = gathered_from (λ a. map (λ ks. a ∷ ks) (choices As (others a free) (a ∷ held))) (of_type A free ++ new_constant held A ∷ []) ns m in
    let a = from.0 in
    let rest = Contains-from_map (λ ks. a ∷ ks) (choices As (others a free) (a ∷ held)) ns from.2 in
    gathered (λ a. map (λ ks. a ∷ ks) (choices As (others a more) (a ∷ held))) (of_type A more ++ new_constant held A ∷ []) a ns
    (elim (Contains-append_cases (of_type A free) (new_constant held A ∷ []) a from.1) [
      | inl k ↦ Contains-append_left (of_type A more) (new_constant held A ∷ []) a (filter_more (λ b. same_type b.type A) free more sub a k)
      | inr k ↦ Contains-append_right (of_type A more) (new_constant held A ∷ []) a k
    ])
    (subst (Contains (map (λ ks. a ∷ ks) (choices As (others a more) (a ∷ held)))) rest.2
    (Contains-map (λ ks. a ∷ ks) (choices As (others a more) (a ∷ held)) rest.0
    (choices_more As (others a free) (others a more) (a ∷ held) (λ b k. filter_more (λ c. not (same_nominal a c)) free more sub b k) rest.0 rest.1)))

-- a choice of the second atom is one of the first
pub choice_lifts : (held : List Nominal) (e d : Defined) → e.predicate ≡ d.predicate → e.block ≡ d.block → ((a : Nominal) → Contains (support_of_all d.arguments) a → Contains (support_of_all e.arguments) a) → (c : Choice) → Contains (choices_of held d) c → Contains (choices_of held e) c
choice_lifts held e d p b sub c m =
    let few = in_order (support_of_all d.arguments) in
    let many = in_order (support_of_all e.arguments) in
    let from = gathered_from (λ k. map (λ ns. record { clause = k; names = ns }) (choices (map (λ z. z.type) k.names) few held)) (filter (λ k. bytes_eq k.predicate d.predicate) d.block.clauses) c m in
    let k = from.0 in
    let made = Contains-from_map (λ ns. record { clause = k; names = ns }) (choices (map (λ z. z.type) k.names) few held) c from.2 in
    let clauses : filter (λ k. bytes_eq k.predicate d.predicate) d.block.clauses ≡ filter (λ k. bytes_eq k.predicate e.predicate) e.block.clauses = λ i. filter (λ k. bytes_eq k.predicate (sym p i)) (sym b i).clauses in
    gathered (λ k. map (λ ns. record { clause = k; names = ns }) (choices (map (λ z. z.type) k.names) many held)) (filter (λ k. bytes_eq k.predicate e.predicate) e.block.clauses) k c
    (subst (λ l. Contains l k) clauses from.1)
    (subst (Contains (map (λ ns. record { clause = k; names = ns }) (choices (map (λ z. z.type) k.names) many held))) made.2
    (Contains-map (λ ns. record { clause = k; names = ns }) (choices (map (λ z. z.type) k.names) many held) made.0
    (choices_more (map (λ z. z.type) k.names) few many held (λ a q. ordered_contains (support_of_all e.arguments) a (sub a (contains_ordered (support_of_all d.arguments) a q))) made.0 made.1)))
