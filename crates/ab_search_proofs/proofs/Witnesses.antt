-- The step at `exists`: the term, with others for its variables and for its constants.
use Rattle.std.proofs.Common.{◌≡◌, ◌≢◌, ◌⊎◌, inl, inr, ℕ, suc, ◌≤◌, List, [], ◌∷◌, ◌++◌, map, Bool, true, false, not, if◌then◌else◌, Some, None, refl, sym, ◌∙◌, ap, subst, arith}
use Rattle.std.specs.Prelude.{AllPairs, Contains}
use Rattle.std.proofs.lemmas.List.Elements.{All-contains, Contains-append_cases, Contains-append_left}
use Rattle.ab_term.specs.Types.{Ty}
use Rattle.ab_term.specs.Terms.{Nominal, Variable, Read}
use Rattle.ab_term.specs.Typing.{HasType}
use Rattle.ab_term.specs.Names.{support, permute, moved_by, IsPermutationTable, HasOneTypeEach}
use Rattle.ab_term.specs.Translation.{forget}
use Rattle.ab_term.specs.Substitution.{instance}
use Rattle.ab_term.specs.Variables.{Substitution, value_in, variables, image}
use Rattle.ab_term.specs.Sameness.{same_number, same_numbered}
use Rattle.ab_term.proofs.Same.{same_numbered-Decides}
use Rattle.std.proofs.lemmas.Bool.{false≢true}
use Rattle.ab_term.proofs.Compositions.{image-instance, image_typed}
use Rattle.ab_term.proofs.Lists.{Contains-none, Contains-here, Contains-there, Contains-cases, Contains-map, Contains-from_map, All-from_contains}
use Rattle.ab_term.proofs.PastHints.{support_past_hints}
use Rattle.ab_term.proofs.Permutations.{one_to_one}
use Rattle.ab_term.proofs.Permuting.{Each, up_to_names-instance}
use Rattle.ab_term.proofs.Renamings.{support-rename, rename_typed}
use Rattle.ab_term.proofs.Stands.{variables-image}
use Rattle.ab_unifiers.specs.Choices.{is_in, in_order, outside}
use Rattle.ab_unifiers.proofs.Choosing.{in_or_outside, outside_contains, ordered_contains, ordered_pairs, kept_pairs}
use Rattle.ab_formulas.specs.Declarations.{Declarations, signature_in}
use Rattle.ab_formulas.specs.Forms.{exists, form_of, as_exists, exists_in}
use Rattle.ab_formulas.specs.GoalTerms.{HoldsOnly}
use Rattle.ab_formulas.specs.Sequents.{Sequent, Fits, IsSequent, formulas, goal_names, names_of, in_terms, proving}
use Rattle.ab_theory.specs.Steps.{exists_right}
use Rattle.ab_search_trees.proofs.Unmarked.{variables_rename}
use Rattle.ab_search_proofs.specs.Likeness.{StandIn, replaced, put_in, replacing, IsLike, IsLikeGoal, AreLike}
use Rattle.ab_search_proofs.specs.Taking.{LeadsTo}
use Rattle.ab_search_proofs.proofs.Parts.{instance_part}
use Rattle.ab_search_proofs.proofs.Alike.{like_exists, exists_known}
use Rattle.ab_search_proofs.proofs.StandIns.{stand_ins_typed, stand_ins_known}
use Rattle.ab_search_proofs.proofs.Extending.{Free, changed, changed_permutes, changed_same, changed_sends}
use Rattle.ab_search_proofs.proofs.Least.{above, number_below}
use Rattle.ab_search_proofs.proofs.Fresh.{fresh, fresh_types, fresh_differ, fresh_above, fresh_once}
use Rattle.ab_search_proofs.proofs.Taken.{leads_to}
use Rattle.ab_search_proofs.proofs.Connectives.{like_proving, same_option}

-- a variable that is replaced has a term
pub has_value : (vs : List StandIn) (y : Variable ℕ) → Contains (map replaced vs) y → value_in same_number (replacing vs) y ≡ None → ⊥
has_value [] y m e = Contains-none y m
has_value (v ∷ vs) y m e = go (same_numbered (replaced v) y) refl (Contains-cases (replaced v) (map replaced vs) y m) (λ p f. has_value vs y p f) e
  where
    go : (b : Bool) → same_numbered (replaced v) y ≡ b → (replaced v ≡ y) ⊎ Contains (map replaced vs) y → (Contains (map replaced vs) y → value_in same_number (replacing vs) y ≡ None → ⊥)
        → (if b then Some (put_in v) else value_in same_number (replacing vs) y) ≡ None → ⊥
    go true q o rest f = absurd (cc)
    go false q (inl p) rest f = false≢true (sym q ∙ (same_numbered-Decides (replaced v) y).1 p)
    go false q (inr p) rest f = rest p f

module _ (D : Declarations) (vs : List StandIn) (Hs : List Read) (C : Read) (s : Sequent) (is : IsSequent D s) (l : IsLikeGoal D vs Hs C s) where
  abbrev r : Substitution ℕ (List ℕ)
  r = replacing vs

  abbrev there : Read
  there = image same_number r C

  -- over the sequent's variables
  pub image_known : (t : Read) → HoldsOnly (map replaced vs) t → (z : Variable ℕ) → Contains (variables (image same_number r t)) z → Contains (map in_terms s.variables) z
  image_known t known z m = elim (variables-image (value_in same_number r) t z m) [
    | inl a ↦ absurd (has_value vs z (All-contains (Contains (map replaced vs)) (variables t) z known a.0) a.1)
    | inr b ↦ stand_ins_known s vs l.variables b.0 b.1 (b.2).1 z b.3
  ]

  -- the conclusion's constants are the sequent's
  pub goal_holds : (a : Nominal) → Contains (support s.conclusion) a → Contains (goal_names s) a
  goal_holds a m = Contains-append_left (support s.conclusion) (names_of (formulas s.hypotheses)) a m

  -- A TERM'S CONSTANTS: those of the conclusion are as they are there, and the others are new
  module _ (t : Read) where
    abbrev here : Read
    here = image same_number r t

    abbrev ps : List (Nominal × Nominal)
    ps = (l.conclusion.same).0

    abbrev new : List Nominal
    new = outside (in_order (support here)) (support there)

    abbrev first : ℕ
    first = above (goal_names s)

    free : (as_ : List Nominal) (n : ℕ) → first ≤ n → ((a : Nominal) → Contains as_ a → ¬ Contains (support there) a) → Each (Free ps (l.conclusion.same).1 there s.conclusion (l.conclusion.same).2) as_ (fresh n as_)
    free [] n le out = tt
    free (a ∷ as_) n le out = (
      inr (out a (Contains-here a as_), λ m. let low = number_below (goal_names s) (record { number = n; type = a.type }) (goal_holds (record { number = n; type = a.type }) m) in omega (arith, low, le)),
      free as_ (suc n) (omega (arith, le)) (λ b m. out b (Contains-there a as_ b m)),
    )

    all_free : Each (Free ps (l.conclusion.same).1 there s.conclusion (l.conclusion.same).2) new (fresh first new)
    all_free = free new first (omega arith) (λ a m. (outside_contains (in_order (support here)) (support there) a m).1)

    new_differ : AllPairs (λ a b. a ≢ b) new
    new_differ = kept_pairs (λ a. not (is_in (support there) a)) (λ a b. a ≢ b) (in_order (support here)) (ordered_pairs (support here))

    pub qs : List (Nominal × Nominal)
    qs = changed ps (l.conclusion.same).1 there s.conclusion (l.conclusion.same).2 new (fresh first new) (fresh_types first new) new_differ (fresh_differ first new) all_free

    pub qs_permutes : IsPermutationTable qs
    unfolding qs
    qs_permutes = changed_permutes ps (l.conclusion.same).1 there s.conclusion (l.conclusion.same).2 new (fresh first new) (fresh_types first new) new_differ (fresh_differ first new) all_free

    pub qs_same : forget (permute qs there) ≡ forget s.conclusion
    unfolding qs
    qs_same = changed_same ps (l.conclusion.same).1 there s.conclusion (l.conclusion.same).2 new (fresh first new) (fresh_types first new) new_differ (fresh_differ first new) all_free

    qs_sends : Each (λ a b. moved_by qs a ≡ b) new (fresh first new)
    unfolding qs
    qs_sends = changed_sends ps (l.conclusion.same).1 there s.conclusion (l.conclusion.same).2 new (fresh first new) (fresh_types first new) new_differ (fresh_differ first new) all_free

    pub witness : Read
    witness = permute qs here

    pub witness_is : witness ≡ permute qs here
    unfolding witness
    witness_is = refl

    sent : (as_ bs : List Nominal) → Each (λ a b. moved_by qs a ≡ b) as_ bs → (a : Nominal) → Contains as_ a → Contains bs (moved_by qs a)
    sent [] bs e a m = absurd (Contains-none a m)
    sent (c ∷ as_) [] e a m = absurd e
    sent (c ∷ as_) (b ∷ bs) e a m = elim (Contains-cases c as_ a m) [
      | inl q ↦ subst (Contains (b ∷ bs)) (sym e.0 ∙ ap (moved_by qs) q) (Contains-here b bs)
      | inr k ↦ Contains-there b bs (moved_by qs a) (sent as_ bs e.1 a k)
    ]

    -- its constants are the sequent's, or new
    held : (c : Nominal) → Contains (support (permute qs here)) c → Contains (goal_names s) c ⊎ Contains (fresh first new) c
    held c m =
        let k = Contains-from_map (moved_by qs) (support here) c (subst (λ z. Contains z c) (support-rename (moved_by qs) here) m) in
        elim (in_or_outside (in_order (support here)) (support there) k.0 (ordered_contains (support here) k.0 k.1)) [
          | inl a ↦ inl (goal_holds c (subst (λ z. Contains z c) (sym (support-rename (moved_by qs) there) ∙ support_past_hints (permute qs there) s.conclusion qs_same) (subst (Contains (map (moved_by qs) (support there))) k.2 (Contains-map (moved_by qs) (support there) k.0 a))))
          | inr a ↦ inr (subst (Contains (fresh first new)) k.2 (sent new (fresh first new) qs_sends k.0 a))
        ]

    pub sorts : HasOneTypeEach (goal_names s ++ support (permute qs here))
    sorts a b m k e = both (place a m) (place b k)
      where
        place : (c : Nominal) → Contains (goal_names s ++ support (permute qs here)) c → Contains (goal_names s) c ⊎ Contains (fresh first new) c
        place c n = elim (Contains-append_cases (goal_names s) (support (permute qs here)) c n) [ inl o ↦ inl o | inr o ↦ held c o ]

        both : Contains (goal_names s) a ⊎ Contains (fresh first new) a → Contains (goal_names s) b ⊎ Contains (fresh first new) b → a ≡ b
        both (inl x) (inl y) = is.one_type a b x y e
        both (inl x) (inr y) = absurd (let low = number_below (goal_names s) a x in let high = fresh_above first new b y in omega (arith, low, high, e))
        both (inr x) (inl y) = absurd (let low = number_below (goal_names s) b y in let high = fresh_above first new a x in omega (arith, low, high, e))
        both (inr x) (inr y) = fresh_once first new a b x y e

    -- so it has a term like it that fits
    pub witness_fits : (A : Ty) → HasType (signature_in D) [] t A → HoldsOnly (map replaced vs) t → Fits D s witness A
    unfolding witness
    witness_fits A typed known = record {
      typed = rename_typed (signature_in D) (moved_by qs) (λ a. (one_to_one qs qs_permutes).keeps a) (image_typed (signature_in D) same_number r (stand_ins_typed s vs l.variables (signature_in D)) typed);
      closed = All-from_contains (Contains (map in_terms s.variables)) (variables (permute qs here)) (λ z m. image_known t known z (subst (λ k. Contains k z) (variables_rename (moved_by qs) here) m));
      one_type = sorts;
    }

  pub term_step : (A : Ty) (F t : Read) → form_of C ≡ exists A F → HasType (signature_in D) [] t A → HoldsOnly (map replaced vs) t → (u : Read) × LeadsTo D (exists_right u) s (AreLike D vs Hs (instance F t ∷ []))
  term_step A F t e typed known =
      let sg = signature_in D in
      let w = witness t in
      let q = qs t in
      let again : IsLike D vs C s.conclusion = record { formula = l.conclusion.formula; known = l.conclusion.known; same = (q, qs_permutes t, qs_same t) } in
      let k = like_exists D vs C s.conclusion A F again e in
      let found : as_exists s.conclusion ≡ Some (A, k.0) = ap exists_in k.1 in
      let scope = exists_known D vs C s.conclusion A F again e in
      let part = instance_part sg (map replaced vs) scope typed known in
      let like : IsLike D vs (instance F t) (instance k.0 w) = record {
        formula = part.formula;
        known = part.known;
        same = (
          q,
          qs_permutes t,
          ap (λ z. forget (permute q z)) (image-instance sg same_number r (stand_ins_typed s vs l.variables sg) scope.typed typed)
              ∙ up_to_names-instance q (image same_number r F) (image same_number r t) k.0 w k.2 (ap forget (sym (witness_is t))),
        );
      } in (
        w,
        leads_to D (exists_right w) s (AreLike D vs Hs (instance F t ∷ [])) (λ cells are. (proving (instance k.0 w) s ∷ [], ((A, k.0), found, (witness_fits t A typed known, refl)))) (λ cells are i f. f.2.1)
            (λ cells are ps h.
            let p : h.0 ≡ (A, k.0) = same_option (sym h.1 ∙ found) in
            subst (AreLike D vs Hs (instance F t ∷ [])) (sym (h.2.1 ∙ ap (λ (z : Ty × Read). proving (instance z.1 w) s ∷ []) p)) (like_proving D vs Hs C (instance F t) (instance k.0 w) s l like, tt)),
      )
