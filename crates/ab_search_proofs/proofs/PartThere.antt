-- A PART OF THE FORMULA IN FOCUS, where the judgement has come to stand: there is a part like it among those of the formula there, and its rule is one of the judgement's. So it is a rule of the
-- judgement wherever that comes to stand, if it is solved there.
use Rattle.std.proofs.Common.{◌≡◌, ℕ, List, [], ◌++◌, map, false, Some, sym, ◌∙◌, ap, subst}
use Rattle.std.specs.Prelude.{Contains, slice_get}
use Rattle.std.specs.List.{list_any}
use Rattle.std.proofs.lemmas.List.Elements.{All-contains}
use Rattle.ab_term.specs.Types.{o}
use Rattle.ab_term.specs.Terms as tree
use Rattle.ab_term.specs.Terms.{Nominal, Read}
use Rattle.ab_term.specs.Typing.{Signature}
use Rattle.ab_term.specs.Names.{support, permute, IsPermutationTable, HasOneTypeEach}
use Rattle.ab_term.specs.Translation.{forget, EqualPastHints}
use Rattle.ab_term.specs.Variables.{variables, image, IsTyped}
use Rattle.ab_term.specs.Sameness.{same_number}
use Rattle.ab_term.proofs.Lists.{Contains-map}
use Rattle.ab_unifiers.specs.Replacements.{Cell}
use Rattle.ab_unifiers.specs.Clauses.{Each}
use Rattle.ab_formulas.specs.BodyMarks.{MayBeUnfolded}
use Rattle.ab_formulas.specs.Declarations.{Declarations, signature_in}
use Rattle.ab_formulas.specs.Formulas.{IsFormula}
use Rattle.ab_formulas.specs.GoalTerms.{HoldsOnly}
use Rattle.ab_formulas.specs.Programs.{program_in}
use Rattle.ab_formulas.specs.Sequents.{Sequent, IsSequent, goal_names, names_of}
use Rattle.ab_theory.specs.Equations.{AreCells}
use Rattle.ab_theory.specs.Judgements.{Judgement, as_judgement}
use Rattle.ab_theory.specs.Opening.{kind_of, is_undetermined}
use Rattle.ab_theory.specs.Parts.{Part, parts_of}
use Rattle.ab_theory.specs.SpecRules.{SpecRule, by_part, rules_of, rules_for}
use Rattle.ab_theory.proofs.Demanded.{IsKnown}
use Rattle.ab_theory.proofs.JudgementRules.{judgement_known}
use Rattle.ab_theory.proofs.RuleDemands.{JudgementKnown, FocusKnown}
use Rattle.ab_search_proofs.specs.Likeness.{StandIn, replaced, replacing, AreStandIns, IsLike}
use Rattle.ab_search_proofs.specs.Proved.{IsRuleSolved, HasSolvedRule, IsByRule}
use Rattle.ab_search_proofs.proofs.StandIns.{stand_ins_typed}
use Rattle.ab_search_proofs.proofs.Unfolds.{place_of}
use Rattle.ab_search_proofs.proofs.JudgementsAlike.{JudgementLike, judgement_like}
use Rattle.ab_search_proofs.proofs.PartsAlike.{PartLike, hides_atom, each_found, parts_like, known_so, so_known, determined_like, atoms_like}
use Rattle.ab_search_proofs.proofs.Connectives.{same_option}

module _ (D : Declarations) (ys : List (tree.Variable ℕ)) (C : Read) (formula : IsFormula (signature_in D) C) (known : HoldsOnly ys C) (j : Judgement) (is : as_judgement C ≡ Some j) (may : MayBeUnfolded j.sign)
    (F : Read) (focused : j.focus ≡ Some F) (rs : List SpecRule) (rules : rules_of (program_in D) j ≡ Some rs) where
  abbrev sg : Signature
  sg = signature_in D

  pub parts : JudgementKnown sg (Contains ys) (support C) j
  parts = judgement_known sg (Contains ys) (support C) C j is formula.typed (record { over = λ y m. All-contains (Contains ys) (variables C) y known m; names = λ a m. m })

  pub in_focus : IsKnown sg (Contains ys) (support C) o F
  in_focus = subst (FocusKnown sg (Contains ys) (support C)) focused parts.focus

  pub determined : (is_undetermined (kind_of j.goal) ≡ false) × (list_any hides_atom (parts_of F) ≡ false)
  determined = known_so (parts_of F) (kind_of j.goal) rs (ap (λ f. rules_for (program_in D) f j.context j.goal) (sym focused) ∙ rules)

  module _ (p : Part) (there : Contains (parts_of F) p) where
    -- at a sequent like it
    module _ (vs : List StandIn) (s : Sequent) (ps : List (Nominal × Nominal)) (same_variables : map replaced vs ≡ ys) (are : AreStandIns s vs) (sequent : IsSequent D s) (table : IsPermutationTable ps)
        (same : EqualPastHints (permute ps (image same_number (replacing vs) C)) s.conclusion) where
      abbrev like : IsLike D vs C s.conclusion
      like = record { formula = formula; known = subst (λ k. HoldsOnly k C) (sym same_variables) known; same = (ps, table, same) }

      pub found : JudgementLike D vs ps j s.conclusion
      found = judgement_like D vs C s.conclusion like j is

      pub stood : IsTyped sg (replacing vs)
      stood = stand_ins_typed s vs are sg

      pub focus_there : (K : Read) × (found.judged.focus ≡ Some K) × (forget (permute ps (image same_number (replacing vs) F)) ≡ forget K)
      focus_there = found.focused F focused

      parts_there : Each (PartLike sg vs stood ps) (parts_of F) (parts_of focus_there.0)
      parts_there = parts_like sg vs stood ps [] F focus_there.0 in_focus.typed focus_there.2

      -- THE PART there
      pub part_there : (q : Part) × Contains (parts_of focus_there.0) q × PartLike sg vs stood ps p q
      part_there = each_found (PartLike sg vs stood ps) (parts_of F) (parts_of focus_there.0) parts_there p there

      abbrev listed : List SpecRule
      listed = map by_part (parts_of focus_there.0)

      rules_there : rules_of (program_in D) found.judged ≡ Some listed
      rules_there =
          ap (λ f. rules_for (program_in D) f found.judged.context found.judged.goal) focus_there.1
          ∙ so_known (parts_of focus_there.0) (kind_of found.judged.goal) (determined_like sg vs stood ps j.goal found.judged.goal found.goal determined.0) (atoms_like sg vs stood ps (parts_of F) (parts_of focus_there.0) parts_there determined.1)

      at_place : (i : ℕ) × (slice_get listed i ≡ Some (by_part part_there.0))
      at_place = place_of listed (by_part part_there.0) (Contains-map by_part (parts_of focus_there.0) part_there.0 part_there.1)

      pub has_rule : (B : Read) → ((cells : List (Cell (List ℕ))) → AreCells cells s → IsRuleSolved D s found.judged (by_part part_there.0) cells B) → HasSolvedRule D s found.judged B
      has_rule B solved = record { rules = listed; known = rules_there; place = at_place.0; rule = by_part part_there.0; there = at_place.1; solved = solved }

    -- SOLVED wherever the judgement comes to stand, by these terms
    abbrev pub IsSolvedThere : List Read → Read → Type 0
    IsSolvedThere us B =
        (vs : List StandIn) (s : Sequent) (ps : List (Nominal × Nominal)) (e : map replaced vs ≡ ys) (are : AreStandIns s vs) (sequent : IsSequent D s) (table : IsPermutationTable ps) (same : EqualPastHints (permute ps (image same_number (replacing vs) C)) s.conclusion)
        → HasOneTypeEach (goal_names s ++ names_of (map (λ u. permute ps (image same_number (replacing vs) u)) us))
        → (cells : List (Cell (List ℕ))) → AreCells cells s → IsRuleSolved D s (found vs s ps e are sequent table same).judged (by_part (part_there vs s ps e are sequent table same).0) cells (permute ps (image same_number (replacing vs) B))

    -- SO IT IS A RULE of the judgement
    pub by_this_part : (us : List Read) (B : Read) → IsFormula sg B → HoldsOnly ys B → IsSolvedThere us B → IsByRule D ys C us B
    by_this_part us B f k solved = record {
      judgement = j;
      is = is;
      may = may;
      formula = f;
      known = k;
      solved = λ vs s ps w e are sequent table same is_there one_type.
          subst (λ z. HasSolvedRule D s z (permute ps (image same_number (replacing vs) B))) (same_option (sym (found vs s ps e are sequent table same).is ∙ is_there))
          (has_rule vs s ps e are sequent table same (permute ps (image same_number (replacing vs) B)) (solved vs s ps e are sequent table same one_type));
    }
