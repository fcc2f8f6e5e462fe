-- THE WAY BY A RULE of a judgement is fine: what the rule demands is well made, and where its equations hold and its body is
-- shown, the judgement is.
use Rattle.std.proofs.Common.{◌≡◌, inl, inr, ℕ, zero, suc, ◌<◌, ◌≤◌, List, [], ◌∷◌, ◌++◌, map, length, Bool, true, false, cond, Option, Some, None, refl, sym, ◌∙◌, subst, arith, append_assoc, length-append}
use Rattle.std.specs.Prelude.{Contains}
use Rattle.std.specs.List.{All}
use Rattle.std.proofs.lemmas.Bool.{false≢true, false_from_ne_true}
use Rattle.std.proofs.lemmas.List.Elements.{All-nil, All-cons, All-head, All-tail}
use Rattle.ab_term.specs.Types.{o}
use Rattle.ab_term.specs.Terms as tree
use Rattle.ab_term.specs.Terms.{Nominal, constant, logical, nominal, variable, index, lam, spine, Terms, no_terms, term, Read}
use Rattle.ab_term.specs.Typing.{Signature}
use Rattle.ab_term.specs.Variables.{Substitution, variables, image}
use Rattle.ab_term.specs.Sameness.{same_number}
use Rattle.ab_term.proofs.Lists.{Contains-none, All-from_contains}
use Rattle.ab_unifiers.specs.Replacements.{Cell, holds}
use Rattle.ab_unifiers.specs.Unification.{Equation}
use Rattle.ab_unifiers.specs.Unifiers.{sides, IsCell, AllHoldCells, Unifies}
use Rattle.ab_unifiers.specs.Clauses.{numbered}
use Rattle.ab_unifiers.specs.Member.{HasMember}
use Rattle.ab_unifiers.proofs.Avoiding.{not_held}
use Rattle.ab_unifiers.proofs.Cells.{cell_kept}
use Rattle.ab_unifiers.proofs.Rows.{numbered_within}
use Rattle.ab_formulas.specs.Declarations.{Declarations, signature_in}
use Rattle.ab_formulas.specs.Programs.{program_in, HavePrograms}
use Rattle.ab_formulas.specs.BodyMarks.{mark_above}
use Rattle.ab_theory.specs.Judgements.{Judgement, as_judgement}
use Rattle.ab_theory.specs.Opening.{kind_of}
use Rattle.ab_theory.specs.SpecRules.{SpecRule, rules_of}
use Rattle.ab_theory.specs.SpecInstances.{HoldsUnder}
use Rattle.ab_theory.proofs.Demanded.{Over}
use Rattle.ab_theory.proofs.JudgementRules.{judgement_known}
use Rattle.ab_theory.proofs.JudgementRules.{is_rule_of as one_of_rules}
use Rattle.ab_theory.proofs.RuleDemands.{JudgementKnown, IsRuleOf, rule_well}
use Rattle.ab_search_trees.specs.Goals.{Goal, Now}
use Rattle.ab_search_trees.specs.Judgements.{opens_by_layers, known, search_rules}
use Rattle.ab_search_trees.specs.Ways.{unfolds, demanded, by_rule, by_judgement}
use Rattle.ab_search_trees.specs.Shown.{by_rule as shown_rule}
use Rattle.ab_search_trees.proofs.Lifts.{known_cell, numbered_cell, at_behind}
use Rattle.ab_search_trees.proofs.Facts.{IsTask, all_touched}
use Rattle.ab_search_trees.proofs.Growing.{IsGrown, parts_grown}
use Rattle.ab_search_trees.proofs.Carried.{AreFlexible}
use Rattle.ab_search_trees.proofs.Shows.{IsFine, EachFine, fine_map}

-- A RULE IS ONE OF THE JUDGEMENT

pub is_rule_of : (D : Declarations) → HavePrograms D → (j : Judgement) (r : SpecRule) → Contains (search_rules D j) r → IsRuleOf (signature_in D) j r
is_rule_of D program j r m = of_search (opens_by_layers j.focus (kind_of j.goal)) (rules_of (program_in D) j) refl m
  where
    of_search : (b : Bool) (o : Option (List SpecRule)) → rules_of (program_in D) j ≡ o → Contains (cond b [] (known o)) r → IsRuleOf (signature_in D) j r
    of_search true o e m = absurd (Contains-none r m)
    of_search false None e m = absurd (Contains-none r m)
    of_search false (Some rs) e m = one_of_rules (signature_in D) (program_in D) program j rs e r m

-- equations over the cells
all_hold_cells : (cells : List (Cell (List ℕ))) (es : List (Equation (List ℕ))) → All (Over (IsCell cells)) (sides es) → AllHoldCells cells es
all_hold_cells cells [] a = tt
all_hold_cells cells (e ∷ es) a =
    let rest = All-tail (Over (IsCell cells)) e.left (e.right ∷ sides es) a in
    (All-head (Over (IsCell cells)) e.left (e.right ∷ sides es) a, All-head (Over (IsCell cells)) e.right (sides es) rest, all_hold_cells cells es (All-tail (Over (IsCell cells)) e.right (sides es) rest))

-- equations that are made equal hold
all_hold : (r : Substitution ℕ (List ℕ)) (es : List (Equation (List ℕ))) → Unifies r es → All (HoldsUnder r) es
all_hold r [] u = All-nil (HoldsUnder r)
all_hold r (e ∷ es) u = All-cons (HoldsUnder r) e es u.0 (all_hold r es u.1)

module _ (D : Declarations) (program : HavePrograms D) (has : HasMember (signature_in D)) (now : Now) (flexible : AreFlexible now) (g : Goal) (t : IsTask (signature_in D) now g) (j : Judgement) (is : as_judgement g.conclusion ≡ Some j) where
  abbrev sg : Signature
  sg = signature_in D

  parts : JudgementKnown sg (IsCell now.cells) g.constants j
  parts = judgement_known sg (IsCell now.cells) g.constants g.conclusion j is t.conclusion.formula.typed (record { over = t.conclusion.facts.over; names = t.conclusion.facts.constants })

  pub rule_fine : (depth : ℕ) → unfolds j.sign ≡ true → (s : SpecRule) → Contains (search_rules D j) s → IsFine D now g (by_rule D now g depth j s)
  rule_fine depth may s there =
      let d = demanded (length now.cells) j s in
      let more = d.passing ++ d.own in
      let mid = (now.cells ++ d.passing) ++ d.own in
      let news = numbered (length (now.cells ++ d.passing)) d.own in
      let grows = append_assoc now.cells d.passing d.own in
      let before = length-append now.cells d.passing in
      let own = (λ (y : tree.Variable ℕ) (h : holds news y ≡ true). (let at = numbered_cell d.own (length (now.cells ++ d.passing)) y h in at_behind (now.cells ++ d.passing) d.own at.0 y.name y.type at.1 at.2)) in
      let w = rule_well sg has (IsCell now.cells) (IsCell mid) (cell_kept now.cells mid (more, grows)) (length now.cells) g.constants (mark_above j.sign) j parts s (is_rule_of D program j s there)
      (λ y h. own y (subst (λ k. holds (numbered k d.own) y ≡ true) (sym before) h)) in
      let all = length-append (now.cells ++ d.passing) d.own in
      let high = (λ (y : tree.Variable ℕ) (h : holds news y ≡ true). (let low = (numbered_within (length (now.cells ++ d.passing)) d.own y h).0 in let far : length now.cells ≤ y.name = omega (arith, low, before) in far)) in
      let grown : IsGrown now (record now { cells = mid; flexible = now.flexible ++ news }) (λ y. None) (λ y. None) = record {
        cells = (more, grows);
        fixed = λ y l n. false_from_ne_true (holds (now.flexible ++ news) y) (λ h. elim (not_held now.flexible news y h) [ inl a ↦ false≢true (sym n ∙ a) | inr a ↦ (let far = high y a in absurd (omega (arith, far, l))) ]);
        same = λ y l. refl;
      } in
      record {
        typed = w.typed;
        over = all_hold_cells mid d.equations w.over;
        flexible = λ y h. elim (not_held now.flexible news y h) [
          | inl a ↦ cell_kept now.cells mid (more, grows) y (flexible y a)
          | inr a ↦ own y a
        ];
        grown = grown;
        newer = λ y h. elim (not_held now.flexible news y h) [ inl a ↦ inl a | inr a ↦ inr (high y a) ];
        longer = omega (arith, before, all);
        tasks = (
          record {
            conclusion = record { formula = w.formula; facts = record { over = w.body.over; constants = w.body.names; fixed = λ q. absurd (false≢true q) } };
            hypotheses = all_touched sg (record now { cells = mid; flexible = now.flexible ++ news }) g.constants g.untouched g.hypotheses (parts_grown sg now (record now { cells = mid; flexible = now.flexible ++ news }) (λ y. None) (λ y. None) grown g.constants g.untouched g.hypotheses t.hypotheses);
          },
          tt,
        );
        shows = λ r l u v q.
            shown_rule (image same_number r d.body)
            (record {
              judged = g.conclusion;
              judgement = j;
              is = is;
              may = may;
              rule = s;
              one = there;
              number = length now.cells;
              above = All-from_contains (λ (y : tree.Variable ℕ). y.name < length now.cells) (variables g.conclusion) (λ y m. known_cell now.cells y.name y.type (t.conclusion.facts.over y m));
              terms = r;
              typed = l.typed;
              equal = all_hold r d.equations u;
              conclusion = refl;
              body = refl;
            })
            q.0;
      }

  by_rules : (depth : ℕ) → EachFine D now g (cond (unfolds j.sign) (map (by_rule D now g depth j) (search_rules D j)) [])
  by_rules depth = go (unfolds j.sign) refl
    where
      go : (b : Bool) → unfolds j.sign ≡ b → EachFine D now g (cond b (map (by_rule D now g depth j) (search_rules D j)) [])
      go true may = fine_map D now g (by_rule D now g depth j) (search_rules D j) (λ s m. rule_fine depth may s m)
      go false may = tt

pub judgements_fine : (D : Declarations) → HavePrograms D → HasMember (signature_in D) → (now : Now) → AreFlexible now → (g : Goal) → IsTask (signature_in D) now g → (n : ℕ) (o : Option Judgement) → as_judgement g.conclusion ≡ o → EachFine D now g (by_judgement D now g n o)
judgements_fine D program has now flexible g t zero None e = tt
judgements_fine D program has now flexible g t zero (Some j) e = tt
judgements_fine D program has now flexible g t (suc n) None e = tt
judgements_fine D program has now flexible g t (suc n) (Some j) e = by_rules D program has now flexible g t j e n
