-- The stages of a use lead where it leads, once terms are put for its variables.
use Rattle.std.specs.Prelude.{Contains}
use Rattle.std.proofs.Common.{◌≡◌, inl, inr, ℕ, suc, List, [], ◌∷◌, map, true, not, Some, codes, refl, sym, ◌∙◌, ap, subst}
use Rattle.std.proofs.lemmas.Bool.{false≢true, and_parts}
use Rattle.ab_term.specs.Types.{Ty}
use Rattle.ab_term.specs.Logical.{universal, nabla, implication}
use Rattle.ab_term.specs.Terms as tree
use Rattle.ab_term.specs.Terms.{Nominal, logical, lam, spine, no_terms, term, Read}
use Rattle.ab_term.specs.Typing.{Signature}
use Rattle.ab_term.specs.Names.{support}
use Rattle.ab_term.specs.Abstraction.{over, given_names}
use Rattle.ab_term.specs.Substitution.{substitute_by, instance}
use Rattle.ab_term.specs.Terms.{Terms}
use Rattle.ab_term.specs.Variables.{Substitution, variables, value_in, image, composition, IsTyped}
use Rattle.ab_term.specs.Sameness.{same_number}
use Rattle.ab_term.proofs.Compositions.{image_typed, image-composition, image-instance}
use Rattle.ab_term.proofs.Hinted.{given_typed}
use Rattle.ab_term.proofs.Lists.{Contains-none, Contains-here, Contains-there, Contains-cases, All-from_contains}
use Rattle.ab_term.proofs.Stands.{support-image}
use Rattle.ab_unifiers.specs.Replacements.{Cell, holds}
use Rattle.ab_unifiers.specs.Clauses.{numbered, name_term}
use Rattle.ab_unifiers.specs.Choices.{is_in, outside}
use Rattle.ab_unifiers.specs.Alternatives.{made_over}
use Rattle.ab_unifiers.proofs.Agreeing.{contains_holds}
use Rattle.ab_unifiers.proofs.Choosing.{contains_in, outside_contains}
use Rattle.ab_unifiers.proofs.Constants.{has_support}
use Rattle.ab_unifiers.proofs.Unifier.{made_have, made_over_vars}
use Rattle.ab_unifiers.proofs.Variables.{holds_contains, has_held}
use Rattle.ab_formulas.specs.Sequents.{Variable, HoldsOnly, in_terms}
use Rattle.ab_theory.specs.Pieces.{Part, variable_for, given_term, constant_for, antecedent}
use Rattle.ab_theory.specs.Uses.{Use, used, types_chosen}
use Rattle.ab_theory.proofs.Putting.{IsPut, put_closed, put_names}
use Rattle.ab_theory.proofs.RulesParts.{MayStand, MayBePut, for_all_scope, nabla_scope, implies_may, instance_may, name_may}
use Rattle.ab_search_proofs.proofs.Constants.{constant_rigid}
use Rattle.ab_consequences.specs.Leading.{Stage, instance_by, chosen, met, Meets, LeadsBy}
use Rattle.ab_consequences.specs.UseStages.{HasParts, has_none, has_variable, has_given, has_constant, has_antecedent, stages_of, stage_under, MeetEach}

abbrev Cells : Type 0
Cells = List (Cell (List ℕ))

-- a term that is put in leaves what stands in front
pub front_put : (sg : Signature) (apply : Read → Terms ℕ (List ℕ) → Read) (u : Read) (k : ℕ) {ps : List Part} {t : Read} → HasParts sg ps t → HasParts sg ps (substitute_by apply u k t)
front_put sg apply u k has_none = has_none
front_put sg apply u k (has_variable h) = has_variable (front_put sg apply _ (suc k) h)
front_put sg apply u k (has_given d h) = has_given d (front_put sg apply _ (suc k) h)
front_put sg apply u k (has_constant h) = has_constant (front_put sg apply _ (suc k) h)
front_put sg apply u k (has_antecedent h) = has_antecedent (front_put sg apply u k h)

pub first_same : {X : Type 0} {x y : X} {xs ys : List X} → x ∷ xs ≡ y ∷ ys → x ≡ y
first_same e = cc

pub rest_same : {X : Type 0} {x y : X} {xs ys : List X} → x ∷ xs ≡ y ∷ ys → xs ≡ ys
rest_same e = cc

pub none_same : {X : Type 0} {x : X} {xs : List X} → [] ≡ x ∷ xs → ⊥
none_same e = cc

abbrev pub types_of : List Nominal → List Ty
types_of ns = map (λ a. a.type) ns

-- terms that are put in one after the other
pub staged_twice : (sg : Signature) (s r : Substitution ℕ (List ℕ)) → IsTyped sg s → IsTyped sg r → (held : List Nominal) (ps : List Part) {F : Read} → HasParts sg ps F → (n : ℕ) (names : List Nominal)
    → map (stage_under r) (map (stage_under s) (stages_of held n ps names)) ≡ map (stage_under (composition same_number s r)) (stages_of held n ps names)
staged_twice sg s r ok more held [] has_none n names = refl
staged_twice sg s r ok more held (variable_for x A ∷ ps) (has_variable h) n names =
    let free = outside held names in
    let v : tree.Variable ℕ = record { name = n; type = over free A } in
    let later = map (stage_under r) (map (stage_under s) (stages_of held (suc n) ps names)) in
    ap (λ t. instance_by t ∷ later) (sym (image-composition sg same_number s ok r more (given_typed sg (codes "x") [] v free A refl)))
    ∙ ap (λ l. instance_by (image same_number (composition same_number s r) (given_names (codes "x") v free A)) ∷ l) (staged_twice sg s r ok more held ps h (suc n) names)
staged_twice sg s r ok more held (given_term u ∷ ps) (has_given d h) n names =
    ap (λ t. instance_by t ∷ map (stage_under r) (map (stage_under s) (stages_of held n ps names))) (sym (image-composition sg same_number s ok r more d))
    ∙ ap (λ l. instance_by (image same_number (composition same_number s r) u) ∷ l) (staged_twice sg s r ok more held ps h n names)
staged_twice sg s r ok more held (constant_for A ∷ ps) (has_constant h) n [] = refl
staged_twice sg s r ok more held (constant_for A ∷ ps) (has_constant h) n (a ∷ names) = ap (λ l. chosen a ∷ l) (staged_twice sg s r ok more held ps h n names)
staged_twice sg s r ok more held (antecedent ∷ ps) (has_antecedent h) n names = ap (λ l. met ∷ l) (staged_twice sg s r ok more held ps h n names)

-- over these variables before terms are put for them, these behind that, and these nominal constants
module _ (sg : Signature) (Z : List Variable) (N : List Nominal) where
  abbrev In : tree.Variable ℕ → Type 0
  In = Contains (map in_terms Z)

  -- the terms that are given may stand there
  abbrev pub GivenMay : List Part → Type 0
  GivenMay [] = Unit {0}
  GivenMay (variable_for x A ∷ ps) = GivenMay ps
  GivenMay (given_term t ∷ ps) = HoldsOnly Z t × ((a : Nominal) → Contains (support t) a → Contains N a) × GivenMay ps
  GivenMay (constant_for A ∷ ps) = GivenMay ps
  GivenMay (antecedent ∷ ps) = GivenMay ps

  -- the variables that are made are among them
  abbrev pub AreMadeOf : ℕ → Use → Type 0
  AreMadeOf n u = (z : tree.Variable ℕ) → Contains (numbered n u.variables) z → In z

  -- a variable that is made, over constants that may stand there
  pub new_put : (n : ℕ) (A : Ty) (free : List Nominal) → ((a : Nominal) → Contains free a → Contains N a) → In (record { name = n; type = over free A })
      → MayBePut sg Z N A (given_names (codes "x") (record { name = n; type = over free A }) free A)
  new_put n A free within there =
      let v : tree.Variable ℕ = record { name = n; type = over free A } in
      let t : Read = given_names (codes "x") v free A in
      let cells : Cells = record { hint = []; type = A } ∷ [] in
      let only : (z : tree.Variable ℕ) → holds (made_over (codes "x") n free cells) z ≡ true → In z =
      λ z h. elim (Contains-cases v [] z (holds_contains (v ∷ []) z h)) [ inl e ↦ subst In e there | inr m ↦ absurd (Contains-none z m) ] in
      record {
        typed = given_typed sg (codes "x") [] v free A refl;
        closed = All-from_contains In (variables t) (λ z m. has_held In t (made_over_vars sg (codes "x") In 0 n free cells only).0 z (contains_holds (variables t) z m));
        names = has_support (Contains N) t (made_have sg (codes "x") (Contains N) 0 n free cells within).0;
      }

  module _ (xs : List Variable) (q : Substitution ℕ (List ℕ)) (put : IsPut sg xs N In q) (chosen_ones : List Nominal)
      (apart : (y : tree.Variable ℕ) (v : Read) → value_in same_number q y ≡ Some v → (a : Nominal) → Contains (support v) a → Contains chosen_ones a → ⊥) where
    abbrev I : Read → Read
    I = image same_number q

    term_put : (A : Ty) (t : Read) → MayBePut sg Z N A t → MayBePut sg xs N A (I t)
    term_put A t m = record {
      typed = image_typed sg same_number q put.typed m.typed;
      closed = put_closed sg xs N In q put t m.closed;
      names = put_names sg xs N In q put t m.names;
    }

    -- what is put for a variable of the formula is no chosen constant's
    outside_image : (F : Read) (a : Nominal) → Contains chosen_ones a → (Contains (support F) a → ⊥) → Contains (support (I F)) a → ⊥
    outside_image F a here out m = elim (support-image (value_in same_number q) F a m) [ inl k ↦ out k | inr k ↦ apart k.0 k.1 k.2.1 a k.3 here ]

    abbrev Leads : List Stage → Read → List Read → Read → Type 0
    Leads = LeadsBy sg xs N

    abbrev staged : List Nominal → ℕ → List Part → List Nominal → List Stage
    staged held n ps names = map (stage_under q) (stages_of held n ps names)

    pub lead : (held : List Nominal) → ((a : Nominal) → Contains held a → Contains N a) → (ps : List Part) {F : Read} → HasParts sg ps F → (n : ℕ) (names : List Nominal) → MayStand sg Z N F
        → types_of names ≡ types_chosen ps → ((a : Nominal) → Contains names a → Contains N a × Contains chosen_ones a) → AreMadeOf n (used held n ps names F) → GivenMay ps
        → (used held n ps names F).outside ≡ true → (Hs : List Read) (R : Read) → MeetEach (map I (used held n ps names F).antecedents) Hs → Meets (I (used held n ps names F).result) R
        → Leads (staged held n ps names) (I F) Hs R
    lead held held_in [] has_none n names may types listed within given out [] R meets last = last
    lead held held_in [] has_none n names may types listed within given out (H ∷ Hs) R meets last = absurd meets
    lead held held_in (variable_for x A ∷ ps) (has_variable {y = y} {t = t} h) n names may types listed within given out Hs R meets last =
        let F = spine (logical (universal A)) (term (lam A y t) no_terms) in
        let free = outside held names in
        let v : tree.Variable ℕ = record { name = n; type = over free A } in
        let u : Read = given_names (codes "x") v free A in
        let later : Use = used held (suc n) ps names (instance (lam A y t) u) in
        let scope = for_all_scope sg Z N F (A, lam A y t) may refl in
        let puts = new_put n A free (λ a c. held_in a (outside_contains held names a c).0) (within v (Contains-here v (numbered (suc n) later.variables))) in
        let rest = lead held held_in ps (front_put sg _ u 0 h) (suc n) names (instance_may sg Z N (A, lam A y t) u scope puts) types listed (λ z m. within z (Contains-there v (numbered (suc n) later.variables) z m)) given out Hs R meets last in
        ((A, I (lam A y t)), refl, term_put A u puts, subst (λ G. Leads (staged held (suc n) ps names) G Hs R) (image-instance sg same_number q put.typed scope.put.typed puts.typed) rest)
    lead held held_in (given_term u ∷ ps) (has_given {y = y} {A = A} {t = t} d h) n names may types listed within given out Hs R meets last =
        let F = spine (logical (universal A)) (term (lam A y t) no_terms) in
        let scope = for_all_scope sg Z N F (A, lam A y t) may refl in
        let puts : MayBePut sg Z N A u = record { typed = d; closed = given.0; names = given.1 } in
        let rest = lead held held_in ps (front_put sg _ u 0 h) n names (instance_may sg Z N (A, lam A y t) u scope puts) types listed within given.2 out Hs R meets last in
        ((A, I (lam A y t)), refl, term_put A u puts, subst (λ G. Leads (staged held n ps names) G Hs R) (image-instance sg same_number q put.typed scope.put.typed puts.typed) rest)
    lead held held_in (constant_for A ∷ ps) (has_constant {y = y} {t = t} h) n [] may types listed within given out Hs R meets last = absurd (none_same types)
    lead held held_in (constant_for A ∷ ps) (has_constant {y = y} {t = t} h) n (a ∷ names) may types listed within given out Hs R meets last =
        let F = spine (logical (nabla A)) (term (lam A y t) no_terms) in
        let u : Read = name_term (codes "x") a in
        let two = and_parts (not (is_in (support F) a)) (used held n ps names (instance (lam A y t) u)).outside out in
        let here = listed a (Contains-here a names) in
        let scope = nabla_scope sg Z N F (A, lam A y t) may refl in
        let puts : MayBePut sg Z N A u = subst (λ B. MayBePut sg Z N B u) (first_same types) (name_may sg Z N a here.0) in
        let rest = lead held held_in ps (front_put sg _ u 0 h) n names (instance_may sg Z N (A, lam A y t) u scope puts) (rest_same types) (λ b m. listed b (Contains-there a names b m)) within given two.1 Hs R meets last in
        let not_in : Contains (support F) a → ⊥ = λ c. false≢true (sym (ap not (contains_in (support F) a c)) ∙ two.0) in (
          I (lam A y t),
          ap (λ B. Some (B, I (lam A y t))) (sym (first_same types)),
          outside_image F a here.1 not_in,
          here.0,
          subst (λ G. Leads (staged held n ps names) G Hs R) (image-instance sg same_number q put.typed scope.put.typed puts.typed ∙ ap (instance (I (lam A y t))) (constant_rigid q a)) rest,
        )
    lead held held_in (antecedent ∷ ps) (has_antecedent {A = A} {B = B} h) n names may types listed within given out [] R meets last = absurd meets
    lead held held_in (antecedent ∷ ps) (has_antecedent {A = A} {B = B} h) n names may types listed within given out (H ∷ Hs) R meets last =
        let both = implies_may sg Z N (spine (logical implication) (term A (term B no_terms))) (A, B) may refl in
        ((I A, I B), refl, meets.0, lead held held_in ps h n names both.1 types listed within given out Hs R meets.1 last)
