-- Judgements by the rules that demand nothing but their body: a goal that is made of others is opened, all layers at once; and an atom may come of
-- some formula of the list. These are solved wherever the conclusion may come to stand.
use Rattle.std.proofs.Common.{◌≡◌, ℕ, List, [], ◌∷◌, ◌++◌, map, length, Bool, false, codes, Some, None, if◌then◌else◌, bytes_eq, refl, sym, ◌∙◌, ap, subst}
use Rattle.std.specs.Prelude.{Contains, slice_get}
use Rattle.std.proofs.lemmas.Bool.{false≢true}
use Rattle.std.proofs.lemmas.List.Elements.{All-contains}
use Rattle.ab_term.specs.Terms as tree
use Rattle.ab_term.specs.Terms.{Nominal, constant, logical, nominal, variable, index, Term, lam, spine, Terms, Read}
use Rattle.ab_term.specs.Typing.{Signature}
use Rattle.ab_term.specs.Names.{support, rename_all, permute, moved_by, IsPermutationTable}
use Rattle.ab_term.specs.Translation.{forget, forget_all, EqualPastHints}
use Rattle.ab_term.specs.Variables.{Substitution, variables, image, image_all}
use Rattle.ab_term.specs.Sameness.{same_number}
use Rattle.ab_term.proofs.Lists.{All-from_contains}
use Rattle.ab_unifiers.specs.Member.{HasMember}
use Rattle.ab_formulas.specs.BodyMarks.{MayBeUnfolded, mark_above}
use Rattle.ab_formulas.specs.Declarations.{Declarations, signature_in}
use Rattle.ab_formulas.specs.Formulas.{IsFormula}
use Rattle.ab_formulas.specs.GoalTerms.{HoldsOnly}
use Rattle.ab_formulas.specs.Programs.{program_in}
use Rattle.ab_formulas.specs.Sequents.{Sequent, IsSequent}
use Rattle.ab_theory.specs.Judgements.{Judgement, as_judgement}
use Rattle.ab_theory.specs.Opening.{Kind, compound, atomic, kind_of, open_goal}
use Rattle.ab_theory.specs.SpecRules.{SpecRule, body_alone, by_clause, by_list, by_opening, clauses_for, is_nil, rules_for, rules_unfocused, rules_of, some_item}
use Rattle.ab_theory.proofs.Demanded.{IsWellMade}
use Rattle.ab_theory.proofs.JudgementRules.{judgement_known}
use Rattle.ab_theory.proofs.RuleDemands.{JudgementKnown, rule_well}
use Rattle.ab_search_trees.proofs.Forms.{begins_logical, begins_constant, begins_nominal}
use Rattle.ab_search_proofs.specs.Likeness.{StandIn, replaced, replacing, AreStandIns, IsLike}
use Rattle.ab_search_proofs.specs.Proved.{HasSolvedRule, IsByRule}
use Rattle.ab_search_proofs.proofs.StandIns.{stand_ins_typed}
use Rattle.ab_search_proofs.proofs.VariableHeads.{image_begins, rename_begins, never_constant}
use Rattle.ab_search_proofs.proofs.JudgementsAlike.{JudgementLike, judgement_like}
use Rattle.ab_search_proofs.proofs.OpenedAlike.{opened_like, item_like}
use Rattle.ab_search_proofs.proofs.Alone.{solved_alone}
use Rattle.ab_search_proofs.proofs.Connectives.{same_option}

-- KINDS stay

module _ (ps : List (Nominal × Nominal)) (vs : List StandIn) where
  abbrev r : Substitution ℕ (List ℕ)
  r = replacing vs

  abbrev moved : Terms ℕ (List ℕ) → Terms ℕ (Unit {0})
  moved ts = forget_all (rename_all (moved_by ps) (image_all same_number r ts))

  pub compound_like : (G H : Read) → forget (permute ps (image same_number r G)) ≡ forget H → kind_of G ≡ compound → kind_of H ≡ compound
  compound_like (lam A x t) H e k = absurd (cc)
  compound_like (spine (constant c) ts) H e k = absurd (cc)
  compound_like (spine (nominal a) ts) H e k = absurd (cc)
  compound_like (spine (variable y) ts) H e k = absurd (cc)
  compound_like (spine (index i) ts) H e k = absurd (cc)
  compound_like (spine (logical l) ts) H e k = ap kind_of (begins_logical l (moved ts) H e).1

  pub atomic_like : (G H : Read) → forget (permute ps (image same_number r G)) ≡ forget H → kind_of G ≡ atomic → kind_of H ≡ atomic
  atomic_like (lam A x t) H e k = absurd (cc)
  atomic_like (spine (logical l) ts) H e k = absurd (cc)
  atomic_like (spine (variable y) ts) H e k = absurd (cc)
  atomic_like (spine (index i) ts) H e k = absurd (cc)
  atomic_like (spine (constant c) ts) H e k = ap kind_of (begins_constant c (moved ts) H e).1
  atomic_like (spine (nominal a) ts) H e k = ap kind_of (begins_nominal (moved_by ps a) (moved ts) H e).1

  filled_like : (L M : Read) → forget (permute ps (image same_number r L)) ≡ forget M → is_nil L ≡ false → is_nil M ≡ false
  filled_like L (lam A x t) e n = refl
  filled_like L (spine (logical l) ts) e n = refl
  filled_like L (spine (nominal a) ts) e n = refl
  filled_like L (spine (variable y) ts) e n = refl
  filled_like L (spine (index i) ts) e n = refl
  filled_like (lam A x t) (spine (constant c) ts) e n = absurd (cc)
  filled_like (spine (logical l) us) (spine (constant c) ts) e n = absurd (cc)
  filled_like (spine (nominal a) us) (spine (constant c) ts) e n = absurd (cc)
  filled_like (spine (index i) us) (spine (constant c) ts) e n = absurd (cc)
  filled_like (spine (variable y) us) (spine (constant c) ts) e n = absurd (never_constant (permute ps (image same_number r (spine (variable y) us))) c (forget_all ts) (rename_begins (moved_by ps) (image same_number r (spine (variable y) us)) (image_begins vs y us)) e)
  filled_like (spine (constant b) us) (spine (constant c) ts) e n = let same : b ≡ c = cc in ap (λ k. bytes_eq k (codes "nil")) (sym same) ∙ n

last_there : {X : Type 0} (xs : List X) (x : X) → slice_get (xs ++ x ∷ []) (length xs) ≡ Some x
last_there [] x = refl
last_there (y ∷ xs) x = last_there xs x

module _ (D : Declarations) (has : HasMember (signature_in D)) (ys : List (tree.Variable ℕ)) (C : Read) (formula : IsFormula (signature_in D) C) (known : HoldsOnly ys C) (j : Judgement) (is : as_judgement C ≡ Some j) (may : MayBeUnfolded j.sign)
    (unfocused : j.focus ≡ None) where
  abbrev sg : Signature
  sg = signature_in D

  parts : JudgementKnown sg (Contains ys) (support C) j
  parts = judgement_known sg (Contains ys) (support C) C j is formula.typed (record { over = λ y m. All-contains (Contains ys) (variables C) y known m; names = λ a m. m })

  -- at a sequent like it
  module _ (vs : List StandIn) (s : Sequent) (ps : List (Nominal × Nominal)) (same_variables : map replaced vs ≡ ys) (are : AreStandIns s vs) (is_sequent : IsSequent D s) (table : IsPermutationTable ps)
      (same : EqualPastHints (permute ps (image same_number (replacing vs) C)) s.conclusion) where
    abbrev like : IsLike D vs C s.conclusion
    like = record { formula = formula; known = subst (λ k. HoldsOnly k C) (sym same_variables) known; same = (ps, table, same) }

    pub found : JudgementLike D vs ps j s.conclusion
    found = judgement_like D vs C s.conclusion like j is

    abbrev here : Read → Read
    here t = permute ps (image same_number (replacing vs) t)

    rules_by : (k : Kind) → kind_of found.judged.goal ≡ k → rules_of (program_in D) found.judged ≡ rules_unfocused (program_in D) found.judged.context found.judged.goal k
    rules_by k e =
        ap (λ o. rules_for (program_in D) o found.judged.context found.judged.goal) (found.unfocused unfocused)
        ∙ ap (rules_unfocused (program_in D) found.judged.context found.judged.goal) e

    opened_rule : kind_of j.goal ≡ compound → HasSolvedRule D s found.judged (here (open_goal (mark_above j.sign) j.context j.goal))
    opened_rule k = record {
      rules = by_opening ∷ [];
      known = rules_by compound (compound_like ps vs j.goal found.judged.goal found.goal k);
      place = 0;
      rule = by_opening;
      there = refl;
      solved = λ cells are_cells. solved_alone D s is_sequent found.judged by_opening (open_goal (mark_above found.judged.sign) found.judged.context found.judged.goal) (λ n. refl) (here (open_goal (mark_above j.sign) j.context j.goal))
          (ap (λ z. forget (open_goal (mark_above z) found.judged.context found.judged.goal)) found.sign
          ∙ sym (opened_like sg vs (stand_ins_typed s vs are sg) ps (mark_above j.sign) [] j.context found.judged.context j.goal found.judged.goal parts.goal.typed found.context found.goal)) cells;
    }

    abbrev clauses : List SpecRule
    clauses = map by_clause (clauses_for found.judged.goal (program_in D))

    listed_rule : kind_of j.goal ≡ atomic → is_nil j.context ≡ false → HasSolvedRule D s found.judged (here (some_item (mark_above j.sign) j.context j.goal))
    listed_rule k n = record {
      rules = clauses ++ by_list ∷ [];
      known = rules_by atomic (atomic_like ps vs j.goal found.judged.goal found.goal k)
          ∙ ap (λ (b : Bool). Some (clauses ++ (if b then [] else (by_list ∷ [])))) (filled_like ps vs j.context found.judged.context found.context n);
      place = length clauses;
      rule = by_list;
      there = last_there clauses by_list;
      solved = λ cells are_cells. solved_alone D s is_sequent found.judged by_list (some_item (mark_above found.judged.sign) found.judged.context found.judged.goal) (λ m. refl) (here (some_item (mark_above j.sign) j.context j.goal))
          (ap (λ z. forget (some_item (mark_above z) found.judged.context found.judged.goal)) found.sign
          ∙ sym (item_like sg vs (stand_ins_typed s vs are sg) ps (mark_above j.sign) j.context found.judged.context j.goal found.judged.goal found.context found.goal)) cells;
    }

  -- THE RULE IS THERE
  by_rule_alone : (B : Read) → IsFormula sg B → HoldsOnly ys B
      → ((vs : List StandIn) (s : Sequent) (ps : List (Nominal × Nominal)) (e : map replaced vs ≡ ys) (are : AreStandIns s vs) (k : IsSequent D s) (table : IsPermutationTable ps) (same : EqualPastHints (permute ps (image same_number (replacing vs) C)) s.conclusion)
      → HasSolvedRule D s (found vs s ps e are k table same).judged (permute ps (image same_number (replacing vs) B)))
      → IsByRule D ys C [] B
  by_rule_alone B f k solved = record {
    judgement = j;
    is = is;
    may = may;
    formula = f;
    known = k;
    solved = λ vs s ps q e are is_sequent table same is_there one_type.
        subst (λ z. HasSolvedRule D s z (permute ps (image same_number (replacing vs) B))) (same_option (sym (found vs s ps e are is_sequent table same).is ∙ is_there)) (solved vs s ps e are is_sequent table same);
  }

  abbrev Q : tree.Variable ℕ → Type 0
  Q = Contains ys

  opened_well : IsWellMade sg Q (support C) (body_alone (open_goal (mark_above j.sign) j.context j.goal))
  opened_well = rule_well sg has Q Q (λ y m. m) 0 (support C) (mark_above j.sign) j parts by_opening tt (λ y h. absurd (false≢true h))

  listed_well : IsWellMade sg Q (support C) (body_alone (some_item (mark_above j.sign) j.context j.goal))
  listed_well = rule_well sg has Q Q (λ y m. m) 0 (support C) (mark_above j.sign) j parts by_list tt (λ y h. absurd (false≢true h))

  pub opening : kind_of j.goal ≡ compound → IsByRule D ys C [] (open_goal (mark_above j.sign) j.context j.goal)
  opening k =
      let B = open_goal (mark_above j.sign) j.context j.goal in
      by_rule_alone B opened_well.formula (All-from_contains (Contains ys) (variables B) opened_well.body.over) (λ vs s ps e are is_sequent table same. opened_rule vs s ps e are is_sequent table same k)

  pub listing : kind_of j.goal ≡ atomic → is_nil j.context ≡ false → IsByRule D ys C [] (some_item (mark_above j.sign) j.context j.goal)
  listing k n =
      let B = some_item (mark_above j.sign) j.context j.goal in
      by_rule_alone B listed_well.formula (All-from_contains (Contains ys) (variables B) listed_well.body.over) (λ vs s ps e are is_sequent table same. listed_rule vs s ps e are is_sequent table same k n)
