-- A sequent is like the goal that it is itself.
use Rattle.std.proofs.Common.{◌≡◌, ◌≢◌, ℕ, List, [], ◌∷◌, map, codes, true, refl, sym, ◌∙◌, ap, subst}
use Rattle.std.specs.Prelude.{All, Contains}
use Rattle.std.proofs.lemmas.List.Elements.{All-nil, All-contains, All-map}
use Rattle.ab_term.specs.Types.{Ty}
use Rattle.ab_term.specs.Terms as tree
use Rattle.ab_term.specs.Terms.{Nominal, Read}
use Rattle.ab_term.specs.Typing.{Signature, HasType}
use Rattle.ab_term.specs.Translation.{forget, EqualPastHints}
use Rattle.ab_term.specs.Variables.{Substitution, variables, image, image_by}
use Rattle.ab_term.specs.Sameness.{same_number}
use Rattle.ab_term.proofs.Lists.{Contains-here, Contains-there, Contains-map, Contains-from_map, All-from_contains, AllPairs-none, AllPairs-map}
use Rattle.ab_term.proofs.UpToNames.{up_to_names-itself}
use Rattle.ab_unifiers.specs.Clauses.{Each}
use Rattle.ab_unifiers.specs.Replacements.{holds}
use Rattle.ab_unifiers.proofs.Agreeing.{contains_holds}
use Rattle.ab_unifiers.proofs.Lifting.{own_value}
use Rattle.ab_unifiers.proofs.Past.{own, images_agree, bare, forget-image, forget-own}
use Rattle.ab_unifiers.proofs.Ruling.{image_none}
use Rattle.ab_unifiers.proofs.Variables.{holds_contains}
use Rattle.ab_formulas.specs.Declarations.{Declarations, signature_in}
use Rattle.ab_formulas.specs.Formulas.{IsFormula}
use Rattle.ab_formulas.specs.Sequents.{Variable, Sequent, IsSequent, HoldsOnly, formulas, formulas_of, in_terms}
use Rattle.ab_search_proofs.specs.Likeness.{StandIn, replaced, put_in, replacing, IsStandIn, AreStandIns, IsLike, IsLikeGoal}
use Rattle.ab_search_proofs.specs.Whole.{itself, themselves}
use Rattle.ab_search_proofs.proofs.StandIns.{stand_ins_typed}
use Rattle.ab_search_proofs.proofs.Back.{found_in}

module _ (D : Declarations) (s : Sequent) (is : IsSequent D s) where
  abbrev sg : Signature
  sg = signature_in D

  abbrev vs : List StandIn
  vs = themselves s

  stands : (x : Variable) → Contains s.variables x → IsStandIn s (itself x)
  stands x m = record { there = m; typed = refl; same = λ a. ((λ k. k), (λ k. k)); once = AllPairs-none (λ a b. a ≢ b); once_reordered = AllPairs-none (λ a b. a ≢ b) }

  are : AreStandIns s vs
  are = record {
    all = All-map (IsStandIn s) itself s.variables (All-from_contains (λ x. IsStandIn s (itself x)) s.variables stands);
    numbers_differ = AllPairs-map itself (λ (v w : StandIn). v.number ≢ w.number) s.variables is.numbers_differ;
    variables_differ = AllPairs-map itself (λ (v w : StandIn). v.variable.number ≢ w.variable.number) s.variables is.numbers_differ;
  }

  same_variables : (xs : List Variable) → map replaced (map itself xs) ≡ map in_terms xs
  same_variables [] = refl
  same_variables (x ∷ xs) = ap (λ l. in_terms x ∷ l) (same_variables xs)

  abbrev stays : Substitution ℕ (List ℕ)
  stays = []

  own_stays : (x : Variable) → Contains s.variables x → EqualPastHints (image same_number (replacing vs) (own (codes "x") (in_terms x))) (image same_number stays (own (codes "x") (in_terms x)))
  own_stays x m =
      forget-image (replacing vs) (own (codes "x") (in_terms x))
      ∙ ap (image_by (bare (replacing vs))) (forget-own (codes "x") (in_terms x))
      ∙ own_value sg (replacing vs) (stand_ins_typed s vs are sg) (in_terms x) (put_in (itself x)) (found_in sg s vs are.numbers_differ (itself x) (Contains-map itself s.variables x m))
      ∙ ap forget (sym (image_none (own (codes "x") (in_terms x))))

  all_stay : (y : tree.Variable ℕ) → holds (map in_terms s.variables) y ≡ true → EqualPastHints (image same_number (replacing vs) (own (codes "x") y)) (image same_number stays (own (codes "x") y))
  all_stay y h =
      let from = Contains-from_map in_terms s.variables y (holds_contains (map in_terms s.variables) y h) in
      subst (λ z. EqualPastHints (image same_number (replacing vs) (own (codes "x") z)) (image same_number stays (own (codes "x") z))) from.2 (own_stays from.0 from.1)

  -- nothing is changed, past hints
  unchanged : {A : Ty} (t : Read) → HasType sg [] t A → HoldsOnly s.variables t → EqualPastHints (image same_number (replacing vs) t) t
  unchanged t d known =
      images_agree sg (codes "x") (replacing vs) stays (stand_ins_typed s vs are sg) (All-nil (λ p. HasType sg [] p.1 p.0.type)) (map in_terms s.variables) all_stay d
      (λ y h. contains_holds (map in_terms s.variables) y (All-contains (Contains (map in_terms s.variables)) (variables t) y known (holds_contains (variables t) y h)))
      ∙ ap forget (image_none t)

  like_itself : (F : Read) → Contains (formulas_of s) F → IsLike D vs F F
  like_itself F m =
      let f = All-contains (IsFormula sg) (formulas_of s) F is.formulas m in
      let k = All-contains (HoldsOnly s.variables) (formulas_of s) F is.closed m in
      record {
        formula = f;
        known = subst (λ l. All (Contains l) (variables F)) (sym (same_variables s.variables)) k;
        same = (let none = up_to_names-itself (image same_number (replacing vs) F) in (none.0, none.1, none.2 ∙ unchanged F f.typed k));
      }

  each_itself : (Fs : List Read) → ((F : Read) → Contains Fs F → IsLike D vs F F) → Each (IsLike D vs) Fs Fs
  each_itself [] f = tt
  each_itself (F ∷ Fs) f = (f F (Contains-here F Fs), each_itself Fs (λ G m. f G (Contains-there F Fs G m)))

  pub begins : IsLikeGoal D vs (formulas s.hypotheses) s.conclusion s
  begins = record {
    variables = are;
    hypotheses = each_itself (formulas s.hypotheses) (λ F m. like_itself F (Contains-there s.conclusion (formulas s.hypotheses) F m));
    conclusion = like_itself s.conclusion (Contains-here s.conclusion (formulas s.hypotheses));
  }
