-- A PART of the formula in focus, on the path of an answer: its equations hold in the end, and the judgement has the part then.
use Rattle.std.proofs.Common.{◌≡◌, ℕ, List, [], map, codes, Bool, true, false, cond, Option, Some, None, option_map, refl, sym, ◌∙◌, ap, subst}
use Rattle.std.specs.Prelude.{Contains}
use Rattle.std.specs.List.{list_any}
use Rattle.ab_term.specs.Types.{o}
use Rattle.ab_term.specs.Terms.{Variable, Read}
use Rattle.ab_term.specs.Names.{support}
use Rattle.ab_term.specs.Typing.{Signature}
use Rattle.ab_term.specs.Variables.{Substitution, variables, image, IsTyped}
use Rattle.ab_term.specs.Sameness.{same_number}
use Rattle.ab_term.proofs.Compositions.{composition_typed}
use Rattle.ab_term.proofs.Lists.{Contains-none}
use Rattle.ab_unifiers.specs.Replacements.{Cell}
use Rattle.ab_unifiers.specs.Unifiers.{AreKnown, Unifies}
use Rattle.ab_unifiers.specs.Member.{HasMember}
use Rattle.ab_unifiers.proofs.Problems.{answer_typed, answer_unifies}
use Rattle.ab_formulas.specs.Declarations.{Declarations, signature_in}
use Rattle.ab_formulas.specs.Marks.{plain}
use Rattle.ab_formulas.specs.Programs.{program_in, HavePrograms}
use Rattle.ab_theory.specs.Judgements.{Judgement, as_judgement}
use Rattle.ab_theory.specs.Opening.{kind_of, is_undetermined}
use Rattle.ab_theory.specs.Parts.{Part, parts_of}
use Rattle.ab_theory.specs.SpecRules.{SpecRule, by_part, rules_for, rules_of}
use Rattle.ab_theory.proofs.JudgementRules.{judgement_known}
use Rattle.ab_theory.proofs.RuleDemands.{JudgementKnown, FocusKnown}
use Rattle.ab_theory.proofs.Demanded.{IsKnown}
use Rattle.ab_search_trees.specs.Goals.{Goal, Now}
use Rattle.ab_search_trees.specs.Judgements.{opens_by_layers, known, search_rules}
use Rattle.ab_search_trees.specs.Outcomes.{filling}
use Rattle.ab_search_trees.specs.Ways.{Way, unfolds, by_rule}
use Rattle.ab_search_trees.proofs.Lifts.{known_cell}
use Rattle.ab_search_trees.proofs.RuleWays.{is_rule_of, rule_fine}
use Rattle.ab_search_trees.proofs.Shows.{IsFine}
use Rattle.ab_search_proofs.proofs.PartsAlike.{hides_atom, known_so, so_known}
use Rattle.ab_search_proofs.proofs.PartsUnder.{part_under, determined_under, atoms_under, parts_under}
use Rattle.ab_search_clauses.proofs.ByList.{judged_under}
use Rattle.ab_search_clauses.proofs.Path.{unifies_both}
use Rattle.ab_search_answers.proofs.Filled.{filling_typed}
use Rattle.ab_search_answers.specs.Followed.{and_filled, in_the_end}
use Rattle.ab_search_answers.proofs.Below.{IsTaken}

-- the rules are known where one is among those of the search
ruled : (D : Declarations) (j : Judgement) (s : SpecRule) → Contains (search_rules D j) s → (rs : List SpecRule) × (rules_of (program_in D) j ≡ Some rs)
ruled D j s m = go (opens_by_layers j.focus (kind_of j.goal)) (rules_of (program_in D) j) m
  where
    go : (b : Bool) (o : Option (List SpecRule)) → Contains (cond b [] (known o)) s → (rs : List SpecRule) × (o ≡ Some rs)
    go true o c = absurd (Contains-none s c)
    go false None c = absurd (Contains-none s c)
    go false (Some rs) c = (rs, refl)

module _ (D : Declarations) (program : HavePrograms D) (has : HasMember (signature_in D)) (p : Part) (now last : Now) (g : Goal) (depth : ℕ) (j : Judgement) (ys : List (Variable ℕ)) (more : List (Cell (List ℕ))) (q n : Substitution ℕ (List ℕ))
    (is : as_judgement g.conclusion ≡ Some j) (plainly : j.sign ≡ plain) (there : Contains (search_rules D j) (by_part p)) (taken : IsTaken D now g ys (by_rule D now g depth j (by_part p)) last more q n) where
  abbrev sg : Signature
  sg = signature_in D

  abbrev r : Substitution ℕ (List ℕ)
  r = in_the_end last q n

  abbrev pub w : Way
  w = by_rule D now g depth j (by_part p)

  pub fine : IsFine D now g w
  fine = rule_fine D program has now taken.place.flexible g taken.place.task j is depth (ap unfolds plainly) (by_part p) there

  -- THE EQUATIONS hold in the end
  pub unified_then : Unifies r w.equations
  unified_then =
      let known_way : AreKnown w.cells w.flexible = (λ y h. known_cell w.cells y.name y.type (fine.flexible y h)) in
      let q_typed : IsTyped sg q = answer_typed sg (codes "x") w.equations w.cells w.flexible fine.typed known_way more q taken.solved in
      let later_typed : IsTyped sg (and_filled last n) = composition_typed sg same_number n taken.below.later.typed (filling last.held last.flexible) (filling_typed sg last.held last.flexible) in
      unifies_both sg q (and_filled last n) q_typed later_typed w.equations fine.typed (answer_unifies sg (codes "x") w.equations w.cells w.flexible fine.typed known_way more q taken.solved)

  -- WHAT IS IN FOCUS
  pub focus : (F : Read) × (j.focus ≡ Some F) × Contains (parts_of F) p
  focus = is_rule_of D program j (by_part p) there

  abbrev pub F : Read
  F = focus.0

  parts : JudgementKnown sg (Contains (variables g.conclusion)) (support g.conclusion) j
  parts = judgement_known sg (Contains (variables g.conclusion)) (support g.conclusion) g.conclusion j is taken.place.task.conclusion.formula.typed (record { over = λ y m. m; names = λ a m. m })

  pub in_focus : IsKnown sg (Contains (variables g.conclusion)) (support g.conclusion) o F
  in_focus = subst (FocusKnown sg (Contains (variables g.conclusion)) (support g.conclusion)) focus.1 parts.focus

  pub determined : (is_undetermined (kind_of j.goal) ≡ false) × (list_any hides_atom (parts_of F) ≡ false)
  determined =
      let rules = ruled D j (by_part p) there in
      known_so (parts_of F) (kind_of j.goal) rules.0 (ap (λ f. rules_for (program_in D) f j.context j.goal) (sym focus.1) ∙ rules.1)

  pub parts_then : parts_of (image same_number r F) ≡ map (part_under r) (parts_of F)
  parts_then = parts_under sg r taken.typed [] F in_focus.typed determined.1

  pub rules_then : rules_of (program_in D) (judged_under r j) ≡ Some (map by_part (parts_of (image same_number r F)))
  rules_then =
      ap (λ f. rules_for (program_in D) (option_map (image same_number r) f) (image same_number r j.context) (image same_number r j.goal)) focus.1
      ∙ so_known (parts_of (image same_number r F)) (kind_of (image same_number r j.goal)) (determined_under r j.goal determined.0) (ap (list_any hides_atom) parts_then ∙ atoms_under r (parts_of F) determined.1)
