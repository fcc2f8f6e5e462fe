-- The step at a hypothesis that is a judgement of a goal made of others: it is opened whole. There is one case, nothing is to be equal, and nothing is made.
use Rattle.std.specs.Prelude.{Contains, filter}
use Rattle.std.proofs.Common.{◌≡◌, ℕ, List, [], ◌∷◌, ◌++◌, map, length, codes, Some, None, option_map, refl, sym, ◌∙◌, ap, subst}
use Rattle.std.proofs.lemmas.Bool.{false≢true}
use Rattle.std.proofs.lemmas.List.Elements.{All-contains}
use Rattle.std.proofs.Math.Seq.{drop-append_seam}
use Rattle.ab_term.specs.Terms as tree
use Rattle.ab_term.specs.Terms.{Read}
use Rattle.ab_term.specs.Names.{support}
use Rattle.ab_term.specs.Translation.{forget}
use Rattle.ab_term.specs.Typing.{Signature}
use Rattle.ab_term.specs.Variables.{variables, image}
use Rattle.ab_term.specs.Sameness.{same_number}
use Rattle.ab_term.proofs.Lists.{All-from_contains}
use Rattle.ab_unifiers.specs.Replacements.{Cell}
use Rattle.ab_unifiers.specs.Unification.{unified, apart, Solves, at_end}
use Rattle.ab_unifiers.specs.Member.{HasMember}
use Rattle.ab_unifiers.proofs.Ruling.{image_none}
use Rattle.ab_formulas.specs.BodyMarks.{MayBeAnalysed, mark_below}
use Rattle.ab_formulas.specs.Declarations.{Declarations, signature_in}
use Rattle.ab_formulas.specs.Marks.{Sign, plain, star_of, at_of, plus_of, hash_of}
use Rattle.ab_formulas.specs.NewNames.{given}
use Rattle.ab_formulas.specs.Programs.{program_in}
use Rattle.ab_formulas.specs.Sequents.{Variable, Hypothesis, Sequent, assuming, without}
use Rattle.ab_theory.specs.Equations.{Naming, Named, stays, made, variables_from, renaming, changed, under}
use Rattle.ab_theory.specs.Derivations.{debts_of}
use Rattle.ab_theory.specs.JudgementCases.{judgement_case}
use Rattle.ab_theory.specs.Judgements.{Judgement, as_judgement, marked_judgement}
use Rattle.ab_theory.specs.Opening.{compound, kind_of, open_goal}
use Rattle.ab_theory.specs.Row.{Takes}
use Rattle.ab_theory.specs.Rules.{Making, row, any_name, by_hint}
use Rattle.ab_theory.specs.SpecRules.{body_alone, by_opening, rules_for, rules_unfocused}
use Rattle.ab_theory.specs.Splits.{Case, CaseOver, problem_of, Split, done, never, arises}
use Rattle.ab_theory.specs.Steps.{Step, definition_left}
use Rattle.ab_theory.specs.Subjects.{a_judgement, subject_of, atom_or, with_rules, cases_by}
use Rattle.ab_theory.proofs.Demanded.{IsWellMade}
use Rattle.ab_theory.proofs.JudgementRules.{judgement_known}
use Rattle.ab_theory.proofs.RuleDemands.{JudgementKnown, rule_well}
use Rattle.ab_theory.proofs.OneAnswer.{taken_or_stuck, names_by_hint}
use Rattle.ab_theory.proofs.Splitting.{one_answer}
use Rattle.ab_search_proofs.specs.Likeness.{StandIn, replaced, IsLike, IsLikeGoal, AreLike}
use Rattle.ab_search_proofs.specs.Taking.{LeadsTo}
use Rattle.ab_search_proofs.proofs.Connectives.{like_assuming, same_option}
use Rattle.ab_search_proofs.proofs.JudgementsAlike.{JudgementLike, judgement_like}
use Rattle.ab_search_proofs.proofs.OpenedAlike.{opened_like}
use Rattle.ab_search_proofs.proofs.Opening.{compound_like}
use Rattle.ab_search_proofs.proofs.Places.{some_label}
use Rattle.ab_search_proofs.proofs.StandIns.{stand_ins_typed}
use Rattle.ab_search_proofs.proofs.Taken.{leads_to}
use Rattle.ab_search_layers.proofs.TakenOut.{TakenOut}

-- UNDER NO ANSWER a sequent is as it was
none_replaced : (xs : List Variable) → filter (stays []) xs ++ [] ≡ xs
none_replaced [] = refl
none_replaced (x ∷ xs) = ap (λ k. x ∷ k) (none_replaced xs)

same_hypotheses : (f : Read → Read) → ((F : Read) → f F ≡ F) → (hs : List Hypothesis) → map (λ (h : Hypothesis). record { name = h.name; formula = f h.formula }) hs ≡ hs
same_hypotheses f same [] = refl
same_hypotheses f same (h ∷ hs) = ap (λ F. record { name = h.name; formula = F } ∷ map (λ (h : Hypothesis). record { name = h.name; formula = f h.formula }) hs) (same h.formula) ∙ ap (λ k. h ∷ k) (same_hypotheses f same hs)

same_changed : (f : Read → Read) → ((F : Read) → f F ≡ F) → (xs : List Variable) (g : Sequent) → xs ≡ g.variables → changed f xs g ≡ g
same_changed f same xs g e =
    ap (λ k. record { variables = k; hypotheses = map (λ (h : Hypothesis). record { name = h.name; formula = f h.formula }) g.hypotheses; conclusion = f g.conclusion; counter = g.counter }) e
    ∙ ap (λ k. record { variables = g.variables; hypotheses = k; conclusion = f g.conclusion; counter = g.counter }) (same_hypotheses f same g.hypotheses)
    ∙ ap (λ k. record { variables = g.variables; hypotheses = g.hypotheses; conclusion = k; counter = g.counter }) (same g.conclusion)

nothing_renamed : (xs : List Variable) → renaming xs [] ≡ []
nothing_renamed [] = refl
nothing_renamed (x ∷ xs) = refl

under_none : (cells more : List (Cell (List ℕ))) (g : Sequent) → under cells more [] [] g ≡ g
under_none cells more g = same_changed (λ F. image same_number (renaming (made cells more []) []) (image same_number [] F)) (λ F. ap (λ r. image same_number r (image same_number [] F)) (nothing_renamed (made cells more [])) ∙ image_none (image same_number [] F) ∙ image_none F) (filter (stays []) g.variables ++ []) g (none_replaced g.variables)

none_named : (IsName : Naming) (g : Sequent) (n : ℕ) (ys : List Variable) → Named IsName g n [] ys → ys ≡ []
none_named IsName g n [] d = refl
none_named IsName g n (y ∷ ys) d = absurd d

-- THE CASE
module _ (s rest : Sequent) (name : List ℕ) (j : Judgement) (cells : List (Cell (List ℕ))) where
  abbrev front : List (Cell (List ℕ))
  front = cells ++ []

  abbrev more : List (Cell (List ℕ))
  more = front ++ []

  abbrev only : List CaseOver
  only = judgement_case s rest name j by_opening ∷ []

  abbrev c : Case
  c = judgement_case s rest name j by_opening cells

  abbrev Next : Sequent
  Next = assuming name (open_goal (mark_below j.sign) j.context j.goal) rest

  solved : Solves (codes "x") (problem_of c) (unified more [])
  solved = at_end refl

  none_made : made front more [] ≡ []
  none_made = ap (λ k. filter (stays []) (variables_from (length front) k)) (drop-append_seam front [])

  pub arises_there : (IsName : Naming) → Split IsName cells only (Next ∷ [])
  arises_there IsName = arises {after = more ++ []} (record { more = more; answer = []; new = []; solved = solved; named = subst (λ ms. Named IsName c.goal (length more) ms []) (sym none_made) tt; all = refl; goal = sym (under_none front more Next) }) done

  pub arises_only : (IsName : Naming) (qs : List Sequent) → Split IsName cells only qs → qs ≡ Next ∷ []
  arises_only IsName qs (arises {g = g} a done) =
      let same : unified a.more a.answer ≡ unified more [] = one_answer c (unified a.more a.answer) (unified more []) a.solved solved in
      let m : a.more ≡ more = cc in
      let r : a.answer ≡ [] = cc in
      let named : Named IsName c.goal (length a.more) [] a.new =
      subst (λ ms. Named IsName c.goal (length a.more) ms a.new) none_made (subst (λ z. Named IsName c.goal (length a.more) (made front z []) a.new) m (subst (λ z. Named IsName c.goal (length a.more) (made front a.more z) a.new) r a.named)) in
      let new : a.new ≡ [] = none_named IsName c.goal (length a.more) a.new named in
      ap (λ k. k ∷ []) (a.goal ∙ ap (λ z. under front z a.answer a.new c.goal) m ∙ ap (λ z. under front more z a.new c.goal) r ∙ ap (λ z. under front more [] z c.goal) new ∙ under_none front more Next)
  arises_only IsName qs (never n done) = let same : unified more [] ≡ apart = one_answer c (unified more []) apart solved n in absurd (cc)

as_marked : (m : Sign) (L G : Read) → as_judgement (marked_judgement m L G) ≡ Some (record { sign = m; context = L; focus = None; goal = G })
as_marked plain L G = refl
as_marked (star_of i) L G = refl
as_marked (at_of i) L G = refl
as_marked (plus_of i) L G = refl
as_marked (hash_of i) L G = refl

module _ (D : Declarations) (has : HasMember (signature_in D)) (vs : List StandIn) (Hs : List Read) (C : Read) (s : Sequent) (l : IsLikeGoal D vs Hs C s) (m : Sign) (L G : Read) (t : TakenOut D vs C (marked_judgement m L G) s) (kind : kind_of G ≡ compound) where
  abbrev sg : Signature
  sg = signature_in D

  abbrev B : Read
  B = marked_judgement m L G

  abbrev j : Judgement
  j = record { sign = m; context = L; focus = None; goal = G }

  abbrev there : JudgementLike D vs ((t.like).same).0 j t.formula
  there = judgement_like D vs B t.formula t.like j (as_marked m L G)

  subject : subject_of D t.formula ≡ Some (a_judgement there.judged (by_opening ∷ []))
  subject =
      ap (λ o. atom_or o (with_rules D (as_judgement t.formula))) there.no_atom
      ∙ ap (with_rules D) there.is
      ∙ ap (option_map (a_judgement there.judged)) (ap (λ o. rules_for (program_in D) o there.judged.context there.judged.goal) (there.unfocused refl)
      ∙ ap (rules_unfocused (program_in D) there.judged.context there.judged.goal) (compound_like ((t.like).same).0 vs G there.judged.goal there.goal kind))

  abbrev Q : tree.Variable ℕ → Type 0
  Q = Contains (map replaced vs)

  parts : JudgementKnown sg Q (support B) j
  parts = judgement_known sg Q (support B) B j (as_marked m L G) (t.like).formula.typed (record { over = λ y k. All-contains Q (variables B) y (t.like).known k; names = λ a k. k })

  abbrev pub opened : Read
  opened = open_goal (mark_below m) L G

  well : IsWellMade sg Q (support B) (body_alone opened)
  well = rule_well sg has Q Q (λ y k. k) 0 (support B) (mark_below m) j parts by_opening tt (λ y h. absurd (false≢true h))

  abbrev opened_there : Read
  opened_there = open_goal (mark_below there.judged.sign) there.judged.context there.judged.goal

  like : IsLike D vs opened opened_there
  like = record {
    formula = well.formula;
    known = All-from_contains Q (variables opened) well.body.over;
    same = (
      ((t.like).same).0,
      ((t.like).same).1,
      opened_like sg vs (stand_ins_typed s vs l.variables sg) ((t.like).same).0 (mark_below m) [] L there.judged.context G there.judged.goal parts.goal.typed there.context there.goal
          ∙ ap (λ z. forget (open_goal (mark_below z) there.judged.context there.judged.goal)) (sym there.sign),
    );
  }

  abbrev bare : Sequent
  bare = without t.name s

  abbrev label : List ℕ
  label = (some_label bare).0

  abbrev pub With : List Read
  With = t.rest ++ opened ∷ []

  pub opened_left_step : MayBeAnalysed m → (step : Step) × (debts_of step ≡ []) × LeadsTo D step s (AreLike D vs With (C ∷ []))
  opened_left_step may =
      let step : Step = definition_left t.name (given label) in
      let qs : List Sequent = assuming label opened_there bare ∷ [] in
      let mays : MayBeAnalysed there.judged.sign = subst MayBeAnalysed (sym there.sign) may in
      let taken : (new : Making) → Takes (row D new step s) qs =
      λ new. (t.formula, t.found, (a_judgement there.judged (by_opening ∷ []), subject, (mays, (label, bare, ((some_label bare).1, refl, refl), arises_there s bare label there.judged new.cells new.IsName)))) in
      let result : AreLike D vs With (C ∷ []) qs = (like_assuming D vs t.rest C opened opened_there bare label t.left like, tt) in (
        step,
        refl,
        leads_to D step s (AreLike D vs With (C ∷ [])) (λ cells are. (qs, taken (any_name cells)))
            (λ cells are k f. taken_or_stuck (row D (by_hint D cells) step s) (names_by_hint D cells step s) qs k (taken (by_hint D cells)) f)
            (λ cells are ps h.
            let formula : h.0 ≡ t.formula = same_option (sym h.1 ∙ t.found) in
            let x : (h.2).0 ≡ a_judgement there.judged (by_opening ∷ []) = same_option (sym (h.2).1 ∙ ap (subject_of D) formula ∙ subject) in
            let named = ((h.2).2).1.2 in
            let split = ((h.2).2).1.3 in
            let as_it_is = subst (λ z. Split (any_name cells).IsName cells (cases_by s bare label z) ps) x
            (subst (λ z. Split (any_name cells).IsName cells (cases_by s z label ((h.2).0)) ps) named.2 (subst (λ z. Split (any_name cells).IsName cells (cases_by s (((h.2).2).1.1) z ((h.2).0)) ps) named.1 split)) in
            subst (AreLike D vs With (C ∷ [])) (sym (arises_only s bare label there.judged cells (any_name cells).IsName ps as_it_is)) result),
      )
