-- Stand-ins can be taken back: with the goal's variables put in for the sequent's again a term is what it was. So none of its constants is lost.
use Rattle.std.proofs.Common.{◌≡◌, ◌≢◌, inl, inr, ℕ, List, [], ◌∷◌, map, codes, false, ◌||◌, if◌then◌else◌, Some, refl, sym, ◌∙◌, ap, subst}
use Rattle.std.specs.Prelude.{All, AllPairs, Contains}
use Rattle.std.proofs.lemmas.Bool.{false_from_ne_true}
use Rattle.std.proofs.lemmas.List.Elements.{All-nil, All-contains, All-map, All-weaker, All-head, All-tail}
use Rattle.ab_term.specs.Types.{Ty}
use Rattle.ab_term.specs.Terms as tree
use Rattle.ab_term.specs.Terms.{Nominal, Head, nominal, variable, Term, Read}
use Rattle.ab_term.specs.Typing.{Signature, HasType}
use Rattle.ab_term.specs.Names.{support, same_nominal}
use Rattle.ab_term.specs.Expansion.{expansion}
use Rattle.ab_term.specs.Translation.{forget, EqualPastHints}
use Rattle.ab_term.specs.Abstraction.{over, abstracted, given_names, among, Distinct}
use Rattle.ab_term.specs.Variables.{Substitution, variables, value_in, image, image_by, IsTyped}
use Rattle.ab_term.specs.Sameness.{same_number, same_numbered}
use Rattle.ab_term.proofs.Compositions.{map_typed}
use Rattle.ab_term.proofs.Depends.{image_nothing}
use Rattle.ab_term.proofs.Translations.{translate-expansion}
use Rattle.ab_term.proofs.Closing.{abstracted_typed, forget-abstracted}
use Rattle.ab_term.proofs.ClosingImages.{AllLeftAlone, image-abstracted}
use Rattle.ab_term.proofs.Comparisons.{same_nominal-Decides}
use Rattle.ab_term.proofs.Determined.{abstracted-reduce}
use Rattle.ab_term.proofs.Expansions.{expansion_typed}
use Rattle.ab_term.proofs.Hinted.{named_over, given_typed, reduce-names}
use Rattle.ab_term.proofs.Images.{closed_map}
use Rattle.ab_term.proofs.Lists.{Contains-none, Contains-cases, Contains-from_map, AllPairs-parts}
use Rattle.ab_term.proofs.Only.{expansion_only}
use Rattle.ab_term.proofs.PastHints.{support_past_hints}
use Rattle.ab_term.proofs.Raising.{forget-given, image-raised}
use Rattle.ab_term.proofs.Same.{same_numbered-Decides}
use Rattle.ab_unifiers.proofs.Constants.{ButAll, abstracted_has, has_support}
use Rattle.ab_unifiers.proofs.Covered.{found_of_all}
use Rattle.ab_unifiers.proofs.Lifting.{two_agree, own_value}
use Rattle.ab_unifiers.proofs.Past.{bare, bare_own, forget-image}
use Rattle.ab_unifiers.proofs.Ruling.{image_none}
use Rattle.ab_unifiers.proofs.Variables.{holds_contains}
use Rattle.ab_formulas.specs.GoalTerms.{HoldsOnly}
use Rattle.ab_formulas.specs.Sequents.{Sequent, in_terms}
use Rattle.ab_search_proofs.specs.Likeness.{StandIn, replaced, put_in, replacing, IsStandIn, AreStandIns}
use Rattle.ab_search_proofs.proofs.StandIns.{given_constants, none_left, stand_ins_typed, under_support}

-- the goal's variable, put in for the sequent's
abbrev pub put_back : StandIn → Read
put_back v = abstracted (codes "x") (over v.reordered v.type) (map nominal v.reordered) (given_names (codes "x") (replaced v) v.constants v.type)

abbrev pub back : List StandIn → Substitution ℕ (List ℕ)
back vs = map (λ v. (in_terms v.variable, put_back v)) vs

pub distinct_names : (ns : List Nominal) → AllPairs (λ a b. a ≢ b) ns → Distinct (map nominal ns)
distinct_names [] d = tt
distinct_names (a ∷ ns) d =
    let parts = AllPairs-parts (λ b c. b ≢ c) a ns d in
    (none ns parts.0, refl, distinct_names ns parts.1)
  where
    none : (ms : List Nominal) → All (λ b. a ≢ b) ms → among (map nominal ms) (nominal a) ≡ false
    none [] all = refl
    none (b ∷ ms) all = ap (λ q. q || among (map nominal ms) (nominal a)) (false_from_ne_true (same_nominal b a) (λ e. All-head (λ c. a ≢ c) b ms all (sym ((same_nominal-Decides b a).0 e)))) ∙ none ms (All-tail (λ c. a ≢ c) b ms all)

-- what is found first
pub found_first : {Hint : Type 0} (y z : tree.Variable ℕ) (t : Term ℕ Hint) (s : Substitution ℕ Hint) → y ≡ z → value_in same_number ((y, t) ∷ s) z ≡ Some t
found_first y z t s e = ap (λ b. if b then Some t else value_in same_number s z) ((same_numbered-Decides y z).1 e)

pub found_later : {Hint : Type 0} (y z : tree.Variable ℕ) (t : Term ℕ Hint) (s : Substitution ℕ Hint) → y ≢ z → value_in same_number ((y, t) ∷ s) z ≡ value_in same_number s z
found_later y z t s n = ap (λ b. if b then Some t else value_in same_number s z) (false_from_ne_true (same_numbered y z) (λ e. n ((same_numbered-Decides y z).0 e)))

module _ (sg : Signature) (s : Sequent) where
  back_typed_one : (v : StandIn) → IsStandIn s v → HasType sg [] (put_back v) v.variable.type
  back_typed_one v i = subst (HasType sg [] (put_back v)) (sym i.typed)
      (abstracted_typed sg (codes "x") (named_over sg [] v.reordered v.type) (given_typed sg (codes "x") [] (replaced v) v.constants v.type refl))

  back_nameless_one : (v : StandIn) → IsStandIn s v → support (put_back v) ≡ []
  back_nameless_one v i = none_left (support (put_back v)) (λ a m.
      let p = has_support (ButAll (Contains v.constants) v.reordered) (put_back v) (abstracted_has (Contains v.constants) (codes "x") v.reordered v.type (given_names (codes "x") (replaced v) v.constants v.type) (given_constants (replaced v) v.constants v.type)) a m in
      p.1 ((i.same a).0 p.0))

  all_back : (P : tree.Variable ℕ × Read → Type 0) → ((v : StandIn) → IsStandIn s v → P (in_terms v.variable, put_back v)) → (vs : List StandIn) → All (IsStandIn s) vs → All P (back vs)
  all_back P each vs all = All-map P (λ (v : StandIn). (in_terms v.variable, put_back v)) vs (All-weaker (IsStandIn s) (λ v. P (in_terms v.variable, put_back v)) each vs all)

  module _ (vs : List StandIn) (are : AreStandIns s vs) where
    pub back_typed : IsTyped sg (back vs)
    back_typed = all_back (λ p. HasType sg [] p.1 p.0.type) back_typed_one vs are.all

    back_nameless : (y : tree.Variable ℕ) (t : Read) → value_in same_number (back vs) y ≡ Some t → support t ≡ []
    back_nameless = found_of_all (λ t. support t ≡ []) (back vs) (all_back (λ p. support p.1 ≡ []) back_nameless_one vs are.all)

  -- each is found
  pub found_in : (vs : List StandIn) → AllPairs (λ (v w : StandIn). v.number ≢ w.number) vs → (v : StandIn) → Contains vs v → value_in same_number (replacing vs) (replaced v) ≡ Some (put_in v)
  found_in [] d v m = absurd (Contains-none v m)
  found_in (w ∷ vs) d v m = elim (Contains-cases w vs v m) [
    | inl e ↦ found_first (replaced w) (replaced v) (put_in w) (replacing vs) (ap replaced e) ∙ ap (λ k. Some (put_in k)) e
    | inr k ↦
        let parts = AllPairs-parts (λ (a b : StandIn). a.number ≢ b.number) w vs d in
        found_later (replaced w) (replaced v) (put_in w) (replacing vs) (λ q. All-contains (λ (b : StandIn). w.number ≢ b.number) vs v parts.0 k (ap (λ (y : tree.Variable ℕ). y.name) q)) ∙ found_in vs parts.1 v k
  ]

  found_back : (vs : List StandIn) → AllPairs (λ (v w : StandIn). v.variable.number ≢ w.variable.number) vs → (v : StandIn) → Contains vs v → value_in same_number (back vs) (in_terms v.variable) ≡ Some (put_back v)
  found_back [] d v m = absurd (Contains-none v m)
  found_back (w ∷ vs) d v m = elim (Contains-cases w vs v m) [
    | inl e ↦ found_first (in_terms w.variable) (in_terms v.variable) (put_back w) (back vs) (ap (λ (k : StandIn). in_terms k.variable) e) ∙ ap (λ k. Some (put_back k)) e
    | inr k ↦
        let parts = AllPairs-parts (λ (a b : StandIn). a.variable.number ≢ b.variable.number) w vs d in
        found_later (in_terms w.variable) (in_terms v.variable) (put_back w) (back vs) (λ q. All-contains (λ (b : StandIn). w.variable.number ≢ b.variable.number) vs v parts.0 k (ap (λ (y : tree.Variable ℕ). y.name) q)) ∙ found_back vs parts.1 v k
  ]

  left_alone : (r : Substitution ℕ (List ℕ)) → ((y : tree.Variable ℕ) (t : Read) → value_in same_number r y ≡ Some t → support t ≡ []) → (ns : List Nominal) → AllLeftAlone (map nominal ns) (value_in same_number r)
  left_alone r nameless [] = tt
  left_alone r nameless (a ∷ ns) = ((λ y u e. (refl, λ m. Contains-none a (subst (λ l. Contains l a) (nameless y u e) m))), left_alone r nameless ns)

  module _ (vs : List StandIn) (are : AreStandIns s vs) where
    -- one variable there and back
    there_and_back : (v : StandIn) → Contains vs v → IsStandIn s v → EqualPastHints (image same_number (back vs) (put_in v)) (expansion (codes "x") (over v.constants v.type) (variable (replaced v)))
    there_and_back v m i =
        let u = back vs in
        let inner = given_names (codes "x") (in_terms v.variable) v.reordered v.type in
        let own = given_names (codes "x") (replaced v) v.constants v.type in
        let ns = map nominal v.constants in
        let A = over v.constants v.type in
        let named = named_over sg [] v.constants v.type in
        let given_back : EqualPastHints (image same_number u inner) own =
        image-raised sg (codes "x") u (back_typed vs are) (in_terms v.variable) v.reordered v.type own i.typed (given_typed sg (codes "x") [] (replaced v) v.constants v.type refl) (found_back vs are.variables_differ v m) in
        ap forget (image-abstracted (value_in same_number u) (closed_map sg ℕ (List ℕ) (value_in same_number u) (map_typed sg same_number u (back_typed vs are))) (codes "x") A ns (left_alone u (back_nameless vs are) v.constants) inner)
        ∙ forget-abstracted (codes "x") A ns (image same_number u inner)
        ∙ ap (abstracted tt A ns) (given_back ∙ forget-given (codes "x") (replaced v) v.constants v.type ∙ sym (reduce-names sg tt (variable (replaced v)) named))
        ∙ abstracted-reduce sg [] (expansion tt A (variable (replaced v))) named (distinct_names v.constants i.once) (expansion_typed sg tt A [] (variable (replaced v)) refl) (expansion_only tt A [] (variable (replaced v)) refl) (λ h e. refl)
        ∙ sym (translate-expansion (λ k. k) (λ k. tt) (codes "x") A (variable (replaced v)))

    abbrev stays : Substitution ℕ (List ℕ)
    stays = []

    one : (v : StandIn) → Contains vs v → image_by (bare (back vs)) (image_by (bare (replacing vs)) (bare_own (replaced v))) ≡ image_by (bare stays) (bare_own (replaced v))
    one v m =
        let i = All-contains (IsStandIn s) vs v are.all m in
        ap (image_by (bare (back vs))) (own_value sg (replacing vs) (stand_ins_typed s vs are sg) (replaced v) (put_in v) (found_in vs are.numbers_differ v m))
        ∙ sym (forget-image (back vs) (put_in v))
        ∙ there_and_back v m i
        ∙ translate-expansion (λ k. k) (λ k. tt) (codes "x") (over v.constants v.type) (variable (replaced v))
        ∙ sym (image_nothing (bare_own (replaced v)))

    pub taken_back : {G : List Ty} {t : Read} {A : Ty} → HasType sg G t A → HoldsOnly (map replaced vs) t → EqualPastHints (image same_number (back vs) (image same_number (replacing vs) t)) t
    taken_back {t = t} d known =
        two_agree sg (replacing vs) (back vs) stays (stand_ins_typed s vs are sg) (back_typed vs are) (All-nil (λ p. HasType sg [] p.1 p.0.type)) d
        (λ y h.
        let from = Contains-from_map replaced vs y (All-contains (Contains (map replaced vs)) (variables t) y known (holds_contains (variables t) y h)) in
        subst (λ z. image_by (bare (back vs)) (image_by (bare (replacing vs)) (bare_own z)) ≡ image_by (bare stays) (bare_own z)) from.2 (one from.0 from.1))
        ∙ ap forget (image_none t)

    -- NO CONSTANT IS LOST
    pub kept_support : {G : List Ty} {t : Read} {A : Ty} → HasType sg G t A → HoldsOnly (map replaced vs) t → (a : Nominal) → Contains (support t) a → Contains (support (image same_number (replacing vs) t)) a
    kept_support {t = t} d known a m =
        let there = image same_number (replacing vs) t in
        under_support (back vs) (back_nameless vs are) there a (subst (λ l. Contains l a) (sym (support_past_hints (image same_number (back vs) there) t (taken_back d known))) m)
