-- WHAT BECOMES OF A VARIABLE AT LAST, where the conclusion has come to stand: what fills it, its constants sent on, or what stands in for it.
use Rattle.std.proofs.Common.{◌≡◌, ℕ, List, [], map, codes, false, Option, Some, None, option_map, refl, sym, ◌∙◌, ap, subst}
use Rattle.std.specs.Prelude.{Contains}
use Rattle.std.proofs.lemmas.Bool.{false≢true, false_from_ne_true}
use Rattle.std.proofs.lemmas.List.Elements.{All-contains}
use Rattle.ab_term.specs.Types.{Ty}
use Rattle.ab_term.specs.Terms.{Nominal, Variable, nominal, no_terms, Read}
use Rattle.ab_term.specs.Typing.{Signature, HasType}
use Rattle.ab_term.specs.Names.{rename, permute, moved_by, IsPermutationTable}
use Rattle.ab_term.specs.Translation.{forget}
use Rattle.ab_term.specs.Expansion.{expansion}
use Rattle.ab_term.specs.Variables.{Substitution, value_in, image, image_by, IsTyped}
use Rattle.ab_term.specs.Sameness.{same_number}
use Rattle.ab_term.proofs.Compositions.{then_by, image_composed}
use Rattle.ab_term.proofs.Images.{IsTypedMap}
use Rattle.ab_term.proofs.Lists.{Contains-from_map}
use Rattle.ab_term.proofs.OwnExpansion.{image_by-expansion_of}
use Rattle.ab_term.proofs.Permutations.{one_to_one}
use Rattle.ab_term.proofs.Renamings.{rename-image_by, rename-expansion_of, rename_typed}
use Rattle.ab_term.proofs.Translations.{translate-rename, translate_typed}
use Rattle.ab_unifiers.specs.Replacements.{holds}
use Rattle.ab_unifiers.specs.Clauses.{Within, name_term}
use Rattle.ab_unifiers.proofs.Following.{plain, plain_typed, image_plain}
use Rattle.ab_formulas.specs.Sequents.{Sequent, in_terms}
use Rattle.ab_formulas.specs.Sequents as sequents
use Rattle.ab_search_trees.specs.Lifting.{Guess}
use Rattle.ab_pattern_matching.specs.Raising.{Bare}
use Rattle.ab_search_proofs.specs.Likeness.{StandIn, replaced, put_in, replacing, IsStandIn, AreStandIns}
use Rattle.ab_search_proofs.proofs.Back.{found_in}
use Rattle.ab_search_proofs.proofs.StandIns.{stand_ins_typed, stand_ins_nameless, rename-under}
use Rattle.ab_search_clauses.proofs.Filling.{name_passes, stand_in_passes}
use Rattle.ab_search_clauses.proofs.Keeping.{Passes}
use Rattle.ab_search_clauses.proofs.Kept.{constant_for}
use Rattle.ab_search_clauses.proofs.Turned.{then_typed}

module _ (sg : Signature) (ps : List (Nominal × Nominal)) (permutation : IsPermutationTable ps) (s : Sequent) (vs : List StandIn) (are : AreStandIns s vs) (names : List Nominal)
    (fill : Substitution ℕ (List ℕ)) (filled : IsTyped sg fill) (constants : (y : Variable ℕ) (v : Read) → value_in same_number fill y ≡ Some v → (a : Nominal) × (¬ (Contains names a)) × (name_term (codes "x") a ≡ v)) where
  abbrev pub filler : Guess
  filler y = option_map (rename (moved_by ps)) (plain fill y)

  abbrev pub stood : Guess
  stood = plain (replacing vs)

  abbrev pub becomes : Guess
  becomes y = then_by stood y (filler y)

  keeps : (a : Nominal) → (moved_by ps a).type ≡ a.type
  keeps = (one_to_one ps permutation).keeps

  filler_typed : IsTypedMap sg filler
  filler_typed y v e = go (plain fill y) refl e
    where
      go : (o : Option Bare) → plain fill y ≡ o → option_map (rename (moved_by ps)) o ≡ Some v → HasType sg [] v y.type
      go None q r = absurd (cc)
      go (Some u) q r = let same : rename (moved_by ps) u ≡ v = cc in subst (λ t. HasType sg [] t y.type) same (rename_typed sg (moved_by ps) keeps (plain_typed sg fill filled y u q))

  stood_typed : IsTypedMap sg stood
  stood_typed = plain_typed sg (replacing vs) (stand_ins_typed s vs are sg)

  pub becomes_typed : IsTypedMap sg becomes
  becomes_typed = then_typed sg filler stood filler_typed stood_typed

  -- what is filled becomes a constant
  pub becomes_filled : (y : Variable ℕ) (v : Read) → value_in same_number fill y ≡ Some v → (b : Nominal) × (becomes y ≡ Some (expansion tt y.type (nominal b)))
  becomes_filled y v e =
      let c = constant_for sg names fill filled constants y v e in
      let b = moved_by ps c.0 in
      let moved : filler y ≡ Some (expansion tt y.type (nominal b)) =
      ap (λ o. option_map (rename (moved_by ps)) (option_map forget o)) e
      ∙ ap (λ t. Some (rename (moved_by ps) t)) c.3
      ∙ ap Some (rename-expansion_of (moved_by ps) tt y.type (nominal c.0) no_terms) in
      (b, ap (then_by stood y) moved ∙ ap Some (image_by-expansion_of sg ℕ (Unit {0}) stood stood_typed tt y.type (nominal b) no_terms tt))

  module _ (zs : List (Variable ℕ)) (others : (x : sequents.Variable) → Contains s.variables x → holds zs (in_terms x) ≡ false) where
    -- SOMETHING BECOMES OF IT that keeps what can be read
    abbrev pub IsFull : Variable ℕ → Type 0
    IsFull y = (v : Bare) × (becomes y ≡ Some v) × ((us : List (Variable ℕ)) → Within us zs → Passes sg us y.type v)

    pub full_filled : (y : Variable ℕ) (v : Read) → value_in same_number fill y ≡ Some v → IsFull y
    full_filled y v e = let b = becomes_filled y v e in (expansion tt y.type (nominal b.0), b.1, λ us w. name_passes sg us y.type b.0)

    pub full_known : (y : Variable ℕ) → Contains (map replaced vs) y → IsFull y
    full_known y m =
        let from = Contains-from_map replaced vs y m in
        subst IsFull from.2 (one from.0 from.1 (value_in same_number fill (replaced from.0)) refl)
      where
        one : (v : StandIn) → Contains vs v → (o : Option Read) → value_in same_number fill (replaced v) ≡ o → IsFull (replaced v)
        one v k (Some u) e = full_filled (replaced v) u e
        one v k None e =
            let i : IsStandIn s v = All-contains (IsStandIn s) vs v are.all k in (
              forget (put_in v),
              ap (λ o. then_by stood (replaced v) (option_map (rename (moved_by ps)) (option_map forget o))) e ∙ ap (option_map forget) (found_in sg s vs are.numbers_differ v k),
              λ us w. stand_in_passes sg us s v i (false_from_ne_true (holds us (in_terms v.variable)) (λ h. false≢true (sym (others v.variable i.there) ∙ w (in_terms v.variable) h))),
            )

  -- A TERM THERE
  pub here_bare : {G : List Ty} {T : Read} {A : Ty} → HasType sg G T A → forget (permute ps (image same_number (replacing vs) (image same_number fill T))) ≡ image_by becomes (rename (moved_by ps) (forget T))
  here_bare {T = T} d =
      let m = moved_by ps in
      ap forget (rename-under (replacing vs) (stand_ins_nameless s vs are) m (image same_number fill T))
      ∙ image_plain (replacing vs) (rename m (image same_number fill T))
      ∙ ap (image_by stood) (translate-rename (λ k. k) (λ h. tt) m (image same_number fill T) ∙ ap (rename m) (image_plain fill T) ∙ rename-image_by m (plain fill) (forget T))
      ∙ image_composed sg ℕ (Unit {0}) filler stood filler_typed stood_typed (rename_typed sg m keeps (translate_typed sg (λ k. k) (λ h. tt) d))
