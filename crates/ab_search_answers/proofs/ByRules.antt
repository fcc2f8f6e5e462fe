-- THE EVIDENCE FOR RULES: by a clause of the program it is there, and by the list, also where that comes to be `nil`; and no judgement is taken by opening it.
use Rattle.std.proofs.Common.{◌≡◌, inl, inr, ℕ, zero, codes, List, [], ◌∷◌, map, length, Bool, true, false, cond, if◌then◌else◌, Option, Some, None, option_map, refl, sym, ◌∙◌, ap, subst}
use Rattle.std.specs.Prelude.{Contains}
use Rattle.std.specs.List.{list_any}
use Rattle.std.proofs.lemmas.List.Elements.{Contains-append_cases}
use Rattle.ab_term.specs.Types.{o}
use Rattle.ab_term.specs.Logical.{focused_judgement, existential}
use Rattle.ab_term.specs.Typing.{Signature}
use Rattle.ab_term.specs.Substitution.{shift}
use Rattle.ab_term.proofs.Compositions.{map_typed}
use Rattle.ab_term.proofs.Images.{shift-image_by}
use Rattle.ab_formulas.specs.BodyMarks.{mark_above}
use Rattle.ab_formulas.specs.Marks.{plain}
use Rattle.ab_term.specs.Terms.{constant, logical, index, lam, spine, no_terms, term, Read}
use Rattle.ab_term.specs.Variables.{Substitution, value_in, image, IsTyped}
use Rattle.ab_term.specs.Sameness.{same_number}
use Rattle.ab_term.proofs.Lists.{Contains-none, Contains-cases, Contains-from_map}
use Rattle.ab_unifiers.specs.Clauses.{Clause}
use Rattle.ab_unifiers.specs.Member.{HasMember, in_the_list}
use Rattle.ab_formulas.specs.Declarations.{Declarations, signature_in}
use Rattle.ab_formulas.specs.Programs.{program_in, HavePrograms}
use Rattle.ab_theory.specs.Judgements.{Judgement}
use Rattle.ab_theory.specs.Opening.{both, Kind, compound, atomic, undetermined, kind_of, is_undetermined}
use Rattle.ab_theory.specs.Parts.{Part, parts_of}
use Rattle.ab_theory.proofs.SubjectParts.{listed_at}
use Rattle.ab_theory.specs.SpecRules.{SpecRule, by_clause, by_list, by_opening, by_part, clauses_for, is_nil, list_rules, rules_unfocused, rules_in_focus, rules_for, some_item}
use Rattle.ab_search_trees.specs.Judgements.{opens_by_layers, known, search_rules}
use Rattle.ab_search_trees.specs.Ways.{unfolds, demanded}
use Rattle.ab_search_clauses.proofs.ByList.{judged_under, judgement_image, listed_so, list_evidence}
use Rattle.ab_search_judgements.proofs.RulePath.{terms, gives}
use Rattle.ab_search_layers.specs.Layered.{it_stays, it_opens}
use Rattle.ab_search_layers.specs.Closed.{to_show, Closes, by_rule, by_empty_list}
use Rattle.ab_search_layers.specs.Taken.{rule}
use Rattle.ab_search_answers.proofs.NamedParts as named
use Rattle.ab_search_answers.proofs.PartWherever as wherever
use Rattle.ab_search_answers.specs.Followed.{in_the_end}
use Rattle.ab_search_answers.proofs.Below.{EvidenceFor}

-- BY A CLAUSE of the program
pub by_clause_evidence : (D : Declarations) → HavePrograms D → HasMember (signature_in D) → (c : Clause (List ℕ)) → EvidenceFor D (by_clause c)
by_clause_evidence D program has c now last g depth j i ys Hs more q n is plainly at taken whole gs es shown =
    let place = taken.place in
    let there = listed_at (search_rules D j) i (by_clause c) at in
    let B = image same_number (in_the_end last q n) (demanded (length now.cells) j (by_clause c)).body in
    by_rule i _ _ (terms D program has now last place.flexible g place.task depth j is plainly c there ys more q n taken.solved taken.below.later taken.known) B B whole
    (gives D program has now last place.flexible g place.task depth j is plainly c there ys more q n taken.solved taken.below.later taken.known) (it_opens it_stays) shown

-- an item of the list, under what is put in
item_under : (sg : Signature) (r : Substitution ℕ (List ℕ)) → IsTyped sg r → (L A : Read) → image same_number r (some_item plain L A) ≡ some_item plain (image same_number r L) (image same_number r A)
item_under sg r typed L A =
    let F : Read = spine (index zero) no_terms in
    let whole : Read → Read → Read = λ K B. spine (logical (existential o)) (term (lam o (codes "F") (both (spine (logical focused_judgement) (term K (term F (term B no_terms)))) (spine (constant (codes "member")) (in_the_list F K)))) no_terms) in
    let shifted : (t : Read) → image same_number r (shift zero t) ≡ shift zero (image same_number r t) = λ t. sym (shift-image_by sg ℕ (List ℕ) (value_in same_number r) (map_typed sg same_number r typed) t zero) in
    ap (λ K. whole K (image same_number r (shift zero A))) (shifted L) ∙ ap (whole (shift zero (image same_number r L))) (shifted A)

-- BY THE LIST
pub by_list_evidence : (D : Declarations) → HasMember (signature_in D) → EvidenceFor D by_list
by_list_evidence D has now last g depth j i ys Hs more q n is plainly at taken whole gs es shown = go (is_nil (image same_number r j.context)) refl
  where
    there : Contains (search_rules D j) by_list
    there = listed_at (search_rules D j) i by_list at

    r : Substitution ℕ (List ℕ)
    r = in_the_end last q n

    typed : IsTyped (signature_in D) r
    typed = taken.typed

    under : Judgement
    under = judged_under r j

    so : (j.focus ≡ None) × (kind_of j.goal ≡ atomic)
    so = listed_so D j there

    item : Closes D (to_show ys Hs (some_item (mark_above under.sign) under.context under.goal) ∷ gs) es
    item = subst (λ m. Closes D (to_show ys Hs (some_item (mark_above m) under.context under.goal) ∷ gs) es) (sym plainly)
        (subst (λ C. Closes D (to_show ys Hs C ∷ gs) es) (ap (λ m. image same_number r (some_item (mark_above m) j.context j.goal)) plainly ∙ item_under (signature_in D) r typed j.context j.goal) shown)

    go : (b : Bool) → is_nil (image same_number r j.context) ≡ b → Closes D (to_show ys Hs (image same_number r g.conclusion) ∷ gs) ((image same_number r g.conclusion, rule i [] []) ∷ es)
    go true e = by_empty_list i under (judgement_image r g.conclusion j taken.place.task.conclusion.formula.stands is) (ap (option_map (image same_number r)) so.0) e item
    go false e =
        let B = image same_number r (demanded (length now.cells) j by_list).body in
        by_rule i [] [] [] B B whole
        (list_evidence D has g.conclusion taken.place.task.conclusion.formula j is (ap unfolds plainly) there ys r typed (taken.known g.conclusion (λ y m. inl m)) e (length now.cells))
        (it_opens it_stays) shown

-- BY OPENING none is taken: what is made of others is opened layer by layer
module _ (D : Declarations) (j : Judgement) where
  abbrev rules_at : Option Read → Kind → List SpecRule
  rules_at None k = cond (opens_by_layers None k) [] (known (rules_unfocused (program_in D) j.context j.goal k))
  rules_at (Some F) k = cond (opens_by_layers (Some F) k) [] (known (rules_in_focus (parts_of F) k))

  rules_are : search_rules D j ≡ rules_at j.focus (kind_of j.goal)
  rules_are = go j.focus
    where
      go : (f : Option Read) → cond (opens_by_layers f (kind_of j.goal)) [] (known (rules_for (program_in D) f j.context j.goal)) ≡ rules_at f (kind_of j.goal)
      go None = refl
      go (Some F) = refl

  in_focus : (b : Bool) (ps : List Part) → Contains (known (if b then None else Some (map by_part ps))) by_opening → ⊥
  in_focus true ps m = Contains-none by_opening m
  in_focus false ps m = let from = Contains-from_map by_part ps by_opening m in cc

  in_list : (b : Bool) → Contains (if b then [] else (by_list ∷ [])) by_opening → ⊥
  in_list true m = Contains-none by_opening m
  in_list false m = elim (Contains-cases by_list [] by_opening m) [ inl e ↦ cc | inr k ↦ Contains-none by_opening k ]

  no_opening : Contains (search_rules D j) by_opening → ⊥
  no_opening m = go j.focus (kind_of j.goal) (subst (λ l. Contains l by_opening) rules_are m)
    where
      go : (f : Option Read) (k : Kind) → Contains (rules_at f k) by_opening → ⊥
      go None compound m = Contains-none by_opening m
      go None atomic m = elim (Contains-append_cases (map by_clause (clauses_for j.goal (program_in D))) (list_rules j.context) by_opening m) [
        | inl a ↦ (let from = Contains-from_map by_clause (clauses_for j.goal (program_in D)) by_opening a in cc)
        | inr b ↦ in_list (is_nil j.context) b
      ]
      go None undetermined m = Contains-none by_opening m
      go (Some F) compound m = in_focus (list_any (λ (p : Part). is_undetermined (kind_of p.atom)) (parts_of F)) (parts_of F) m
      go (Some F) atomic m = in_focus (list_any (λ (p : Part). is_undetermined (kind_of p.atom)) (parts_of F)) (parts_of F) m
      go (Some F) undetermined m = Contains-none by_opening m

-- BY A PART of the formula in focus, with names or without
part_evidence : (D : Declarations) → HavePrograms D → HasMember (signature_in D) → (p : Part) → EvidenceFor D (by_part p)
part_evidence D program has p now last g depth j i ys Hs more q n is plainly at taken whole gs es shown =
    let there = listed_at (search_rules D j) i (by_part p) at in
    by_rule i _ _ (wherever.us D program has p now last g depth j ys more q n is plainly there taken) (named.left D program has p now last g depth j ys more q n is plainly there taken)
    (image same_number (in_the_end last q n) (demanded (length now.cells) j (by_part p)).body) whole
    (wherever.part_rule D program has p now last g depth j ys more q n is plainly there taken) (named.gives D program has p now last g depth j ys more q n is plainly there taken) shown

-- EACH RULE
pub rule_evidence : (D : Declarations) → HavePrograms D → HasMember (signature_in D) → (s : SpecRule) → EvidenceFor D s
rule_evidence D program has (by_clause c) = by_clause_evidence D program has c
rule_evidence D program has (by_part p) = part_evidence D program has p
rule_evidence D program has by_list = by_list_evidence D has
rule_evidence D program has by_opening = λ now last g depth j i ys Hs more q n is plainly at taken whole gs es shown. absurd (no_opening D j (listed_at (search_rules D j) i by_opening at))
