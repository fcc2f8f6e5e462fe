-- EACH PROOF COMMAND, one by one: from a goal without a judgement that is marked `#` it leads to such goals.
use Rattle.std.specs.Prelude.{All, nat_lt, ◌||◌, if◌then◌else◌}
use Rattle.std.proofs.Common.{◌≡◌, ◌≤◌, ℕ, zero, suc, Bool, true, false, List, [], ◌∷◌, ◌++◌, map, length, codes, Option, Some, None, refl, sym, ap, subst, arith}
use Rattle.std.proofs.lemmas.List.Elements.{All-nil, All-cons, All-append, All-map, All-weaker}
use Rattle.ab_term.specs.Names.{support, permute, moved_by}
use Rattle.ab_term.specs.Terms.{Nominal, Read}
use Rattle.ab_grammar.specs.CommandTrees as command
use Rattle.ab_grammar.specs.CommandTrees.{ProofCommand, Argument, Instance}
use Rattle.ab_formulas.specs.Cycles.{cycle}
use Rattle.ab_formulas.specs.Declarations.{Declarations, HaveSentences, HaveDefinitions, theorem_in}
use Rattle.ab_formulas.specs.Forms as form
use Rattle.ab_formulas.specs.Forms.{Form, form_of, both_in, either_in, exists_in}
use Rattle.ab_formulas.specs.Marks.{star_of, at_of, plus_of, hash_of}
use Rattle.ab_formulas.specs.NewNames.{Label, Names}
use Rattle.ab_formulas.specs.Sequents.{Hypothesis, Sequent, IsSequent, formula_of, proving, assuming, without}
use Rattle.ab_theory.specs.Conjuncts.{conjuncts, with_parts}
use Rattle.ab_theory.specs.Induction.{marked_antecedents, marked_consequents}
use Rattle.ab_theory.specs.Levels.{next_level, inductive_level, coinductive_level}
use Rattle.ab_theory.specs.Pieces.{Piece, Given, pieces, antecedent_count}
use Rattle.ab_theory.specs.UseAnswers.{awaited, result_in}
use Rattle.ab_theory.proofs.SubjectParts.{subject_is}
use Rattle.ab_meaning.specs.Refusals.{wrong_shape}
use Rattle.ab_meaning.specs.Terms as meaning
use Rattle.ab_effects.specs.FormulaUses.{formula_or, formula_named, formulas_in, OpenedBeside}
use Rattle.ab_effects.specs.ProofCommands.{effect, cases, analysing, cleared, repeated, reading_each, reading_for}
use Rattle.ab_effects.specs.Row.{Row, Leads}
use Rattle.ab_search_answers.specs.Unmarked.{HasNoHash, HaveNoHash}
use Rattle.ab_search_answers.proofs.OtherNames.{renamed_none}
use Rattle.ab_search_answers.proofs.Signs.{PartsNone, parts_none}
use Rattle.ab_search_answers.proofs.Texts.{means_none}
use Rattle.ab_unhashed_goals.specs.Unhashed.{NoJudgementIsHashed, NoTheoremIsHashed}
use Rattle.ab_unhashed_goals.proofs.Formulas.{IsFine, instance_fine, of_either, of_exists}
use Rattle.ab_unhashed_goals.proofs.Goals.{IsFineGoal, fine_goal, none_hashed, found_fine, and_hypothesis, less_hypothesis, labelled, same_conclusion}
use Rattle.ab_unhashed_goals.proofs.Judged.{replaced_none}
use Rattle.ab_unhashed_goals.proofs.Opening.{opened_fine, opened_goal, introduced_fine}
use Rattle.ab_unhashed_goals.proofs.Sizes.{conjuncts_none, with_parts_none, antecedents_none, consequents_none, hashed_none, named_none}
use Rattle.ab_unhashed_goals.proofs.Splitting.{solved_fine, parted_fine, unfolded_none, all_opened_fine}
use Rattle.ab_unhashed_goals.proofs.Uses.{use_fine}

-- ONE GOAL, or two

abbrev AllUnhashed : List Sequent → Type 0
AllUnhashed = All NoJudgementIsHashed

one : (t : Sequent) (ps : List Sequent) → ps ≡ t ∷ [] → NoJudgementIsHashed t → AllUnhashed ps
one t ps e n = subst AllUnhashed (sym e) (All-cons NoJudgementIsHashed t [] n (All-nil NoJudgementIsHashed))

two : (t u : Sequent) (ps : List Sequent) → ps ≡ t ∷ u ∷ [] → NoJudgementIsHashed t → NoJudgementIsHashed u → AllUnhashed ps
two t u ps e n m = subst AllUnhashed (sym e) (All-cons NoJudgementIsHashed t (u ∷ []) n (All-cons NoJudgementIsHashed u [] m (All-nil NoJudgementIsHashed)))

-- formulas by their form

both_form : (f : Form) (p : Read × Read) → both_in f ≡ Some p → PartsNone f → HasNoHash p.0 × HasNoHash p.1
both_form (form.both A B) p e n = let same : (A, B) ≡ p = cc in subst (λ (q : Read × Read). HasNoHash q.0 × HasNoHash q.1) same n
both_form _ p e n = absurd (cc)

either_form : (f : Form) (p : Read × Read) → either_in f ≡ Some p → PartsNone f → HasNoHash p.0 × HasNoHash p.1
either_form (form.either A B) p e n = let same : (A, B) ≡ p = cc in subst (λ (q : Read × Read). HasNoHash q.0 × HasNoHash q.1) same n
either_form _ p e n = absurd (cc)

exists_form : (f : Form) (q : _ × Read) → exists_in f ≡ Some q → f ≡ form.exists q.0 q.1
exists_form (form.exists A t) q e = cc
exists_form _ q e = absurd (cc)

-- what is read on the way

read_each : (D : Declarations) (s : Sequent) (names : List Nominal) (ps : List Piece) (es : List Instance) (k : List Given → Row) (qs : List Sequent) → Leads (reading_each D s names ps es k) qs → (gs : List Given) × Leads (k gs) qs
read_each D s names ps [] k qs h = ([], h)
read_each D s names ps (e ∷ es) k qs (A, is, (t, means, h)) =
    let r = read_each D s (names ++ support t) ps es (λ gs. k (record { name = e.name; type = A; value = t } ∷ gs)) qs h in
    (record { name = e.name; type = A; value = t } ∷ r.0, r.1)

read_for : (D : Declarations) (s : Sequent) (known names : List Nominal) (es : List Instance) (k : List (Nominal × Read) → Row) (qs : List Sequent) → Leads (reading_for D s known names es k) qs → (rs : List (Nominal × Read)) × Leads (k rs) qs
read_for D s known names [] k qs h = ([], h)
read_for D s known names (e ∷ es) k qs (a, is, (t, means, h)) = let r = read_for D s (known ++ support t) names es (λ rs. k ((a, t) ∷ rs)) qs h in ((a, t) ∷ r.0, r.1)

as_long : (s : Sequent) (vs : List Argument) → length (formulas_in s vs) ≡ length vs
as_long s [] = refl
as_long s (command.named H ∷ vs) = ap suc (as_long s vs)
as_long s (command.hole ∷ vs) = ap suc (as_long s vs)

as_many : (n : ℕ) → length (repeated n) ≡ n
as_many zero = refl
as_many (suc n) = ap suc (as_many n)

at_most : (m n : ℕ) → nat_lt m n ≡ false → n ≤ m
at_most m n e = grind arith

-- there aren't too many
enough : (twice many : Bool) → (if twice || many then Some wrong_shape else None) ≡ None → many ≡ false
enough true many e = absurd (cc)
enough false true e = absurd (cc)
enough false false e = refl

module _ (D : Declarations) (sentences : HaveSentences D) (definitions : HaveDefinitions D) (none : HaveNoHash D) (theorems : NoTheoremIsHashed D) (l : Label) (s : Sequent) (is : IsSequent D s) (unhashed : NoJudgementIsHashed s) where
  fine : IsFineGoal s
  fine = fine_goal D s is unhashed

  -- another conclusion, another goal's hypotheses
  asked : (F : Read) → HasNoHash F → NoJudgementIsHashed (proving F s)
  asked F n = record { conclusion = n; hypotheses = unhashed.hypotheses }

  all_asked : (Fs : List Read) → All HasNoHash Fs → AllUnhashed (map (λ F. proving F s) Fs)
  all_asked Fs all = All-map NoJudgementIsHashed (λ F. proving F s) Fs (All-weaker HasNoHash (λ F. NoJudgementIsHashed (proving F s)) asked Fs all)

  all_fine_asked : (Fs : List Read) → All IsFine Fs → AllUnhashed (map (λ F. proving F s) Fs)
  all_fine_asked Fs all = all_asked Fs (All-weaker IsFine HasNoHash (λ F k. k.none) Fs all)

  -- a new hypothesis, by a label
  told : (name : List ℕ) (t : Sequent) (F : Read) → Names l s name t → HasNoHash F → NoJudgementIsHashed (assuming name F t)
  told name t F names n = record { conclusion = subst HasNoHash (sym (same_conclusion l s t name names)) unhashed.conclusion; hypotheses = and_hypothesis HasNoHash name F t (labelled HasNoHash l s t name names unhashed.hypotheses) n }

  -- CASES
  rest_fine : (H : List ℕ) (keep : Bool) → IsFineGoal (if keep then s else without H s)
  rest_fine H true = fine
  rest_fine H false = record { conclusion = fine.conclusion; hypotheses = less_hypothesis IsFine H s fine.hypotheses }

  all_none : (ps : List Sequent) → All IsFineGoal ps → AllUnhashed ps
  all_none ps all = All-weaker IsFineGoal NoJudgementIsHashed none_hashed ps all

  module _ (F : Read) (found : IsFine F) (rest : Sequent) (rest_is : IsFineGoal rest) (ps : List Sequent) where
    analysed : Leads (analysing D F l s rest) ps → AllUnhashed ps
    analysed (x, subject, (u, may, (gs, (cells, are, name, split), (us, opened, e)))) =
        subst AllUnhashed (sym e) (all_none us (all_opened_fine opened (parted_fine D definitions none s rest name F x cells gs (subject_is D F x subject) rest_is split)))

    cased : (g : Form) → form_of F ≡ g → Leads (cases D g F l s rest) ps → AllUnhashed ps
    cased form.truth q (p, o, e) = one p.1 ps e (none_hashed p.1 (opened_goal o found rest_is))
    cased (form.both A B) q (p, o, e) = one p.1 ps e (none_hashed p.1 (opened_goal o found rest_is))
    cased (form.exists A t) q (p, o, e) = one p.1 ps e (none_hashed p.1 (opened_goal o found rest_is))
    cased (form.nabla A t) q (p, o, e) = one p.1 ps e (none_hashed p.1 (opened_goal o found rest_is))
    cased (form.either A B) q (p, o, (r, k, e)) =
        let parts = of_either F found A B q in
        two p.1 r.1 ps e (none_hashed p.1 (opened_goal o parts.0 rest_is)) (none_hashed r.1 (opened_goal k parts.1 rest_is))
    cased form.falsity q e = subst AllUnhashed (sym e) (All-nil NoJudgementIsHashed)
    cased (form.implies A B) q h = let no = h.0 in absurd (cc)
    cased (form.equal A t u) q (gs, solved, e) = subst AllUnhashed (sym e) (all_none gs (solved_fine D rest t u gs solved rest_is))
    cased (form.for_all A t) q h = let no = h.0 in absurd (cc)
    cased (form.marked m t) q h = analysed h
    cased form.other q h = analysed h

  cleared_none : (Hs : List (List ℕ)) (t : Sequent) → NoJudgementIsHashed t → NoJudgementIsHashed (cleared Hs t)
  cleared_none [] t n = n
  cleared_none (H ∷ Hs) t n = cleared_none Hs (without H t) (record { conclusion = n.conclusion; hypotheses = less_hypothesis HasNoHash H t n.hypotheses })

  -- A FORMULA IS USED

  named_fine : (H : List ℕ) (F : Read) → formula_named D s H ≡ Some F → IsFine F
  named_fine H F e = go (formula_of s H) refl e
    where
      go : (o : Option Read) → formula_of s H ≡ o → formula_or o (theorem_in D H) ≡ Some F → IsFine F
      go None q e = record { stands = (sentences H F e).formula.stands; none = theorems H F e }
      go (Some G) q e = let same : G ≡ F = cc in subst IsFine same (found_fine s H G fine.hypotheses q)

  beside_none : (gs : List Given) (R : Read) (t : Sequent) → IsFine R → OpenedBeside D gs R l s t → NoJudgementIsHashed t
  beside_none gs R t is (m, v, o, e) =
      let hs = opened_fine o (All-cons IsFine R [] is (All-nil IsFine)) fine.hypotheses in
      subst NoJudgementIsHashed (sym e) (record { conclusion = unhashed.conclusion; hypotheses = All-weaker (λ (h : Hypothesis). IsFine h.formula) (λ (h : Hypothesis). HasNoHash h.formula) (λ h k. k.none) v.hypotheses hs })

  by_apply : (H : List ℕ) (vs : List Argument) (es : List Instance) (ps : List Sequent) → Leads (effect D l (command.apply H vs es) s) ps → AllUnhashed ps
  by_apply H vs es ps (clear, (F, name, (there, h))) =
      let n = length vs in
      let hs = formulas_in s vs in
      let (gs, (few, (u, serve, (K, used, (t, beside, e))))) = read_each D s [] (pieces n F) es _ ps h.1 in
      let left = use_fine s F n gs hs None K (at_most (antecedent_count F) n (enough _ (nat_lt (antecedent_count F) n) few)) (as_long s vs) (named_fine H F name) used in
      subst AllUnhashed (sym e)
      (All-append NoJudgementIsHashed (map (λ A. proving A s) (awaited hs K)) (t ∷ []) (all_fine_asked (awaited hs K) left.0) (All-cons NoJudgementIsHashed t [] (beside_none gs (result_in hs K) t left.1 beside) (All-nil NoJudgementIsHashed)))

  by_backchain : (H : List ℕ) (es : List Instance) (ps : List Sequent) → Leads (effect D l (command.backchain H es) s) ps → AllUnhashed ps
  by_backchain H es ps (F, name, h) =
      let n = antecedent_count F in
      let hs = repeated n in
      let (gs, (few, (u, serve, (K, used, e)))) = read_each D s [] (pieces n F) es _ ps h.1 in
      let left = use_fine s F n gs hs (Some s.conclusion) K (omega arith) (as_many n) (named_fine H F name) used in
      subst AllUnhashed (sym e) (all_fine_asked (awaited hs K) left.0)

  -- EACH COMMAND

  by_induction : (ns : List ℕ) (ps : List Sequent) → Leads (effect D l (command.induction ns) s) ps → AllUnhashed ps
  by_induction ns ps (clear, (ms, signs, (u, plain, h))) =
      let Fs = conjuncts s.conclusion in
      let i = next_level inductive_level s in
      let all = conjuncts_none s.conclusion unhashed.conclusion in
      let C = with_parts (marked_antecedents ns (at_of i) Fs) s.conclusion in
      named_none (codes "IH") l (marked_antecedents ns (star_of i) Fs) s _ ps unhashed.hypotheses (antecedents_none (star_of i) tt ns Fs all)
      (λ t hs e. one (proving C t) ps e (record { conclusion = with_parts_none (marked_antecedents ns (at_of i) Fs) s.conclusion (antecedents_none (at_of i) tt ns Fs all) unhashed.conclusion; hypotheses = hs })) h

  by_coinduction : (ps : List Sequent) → Leads (effect D l command.coinduction s) ps → AllUnhashed ps
  by_coinduction ps (clear, (ms, signs, (u, plain, h))) =
      let Fs = conjuncts s.conclusion in
      let i = next_level coinductive_level s in
      let all = conjuncts_none s.conclusion unhashed.conclusion in
      let Gs = marked_consequents (hash_of i) Fs in
      let C = with_parts Gs s.conclusion in
      named_none (codes "CH") l (marked_consequents (plus_of i) Fs) s _ ps unhashed.hypotheses (consequents_none (plus_of i) tt Fs all)
      (λ t hs e. one (proving C t) ps e (record { conclusion = with_parts_none Gs s.conclusion (hashed_none D i Fs ms signs all) unhashed.conclusion; hypotheses = hs })) h

  by_permute : (ns : List ℕ) (o : Option (List ℕ)) (ps : List Sequent) → Leads (effect D l (command.permute ns o) s) ps → AllUnhashed ps
  by_permute ns None ps (u, may, (A, among, e)) = one _ ps e (asked (permute (cycle A ns) s.conclusion) (renamed_none (moved_by (cycle A ns)) s.conclusion unhashed.conclusion))
  by_permute ns (Some H) ps (u, may, (F, has, (A, among, e))) =
      one (assuming H (permute (cycle A ns) F) (without H s)) ps e
      (record {
        conclusion = unhashed.conclusion;
        hypotheses = and_hypothesis HasNoHash H (permute (cycle A ns) F) (without H s) (less_hypothesis HasNoHash H s unhashed.hypotheses) (renamed_none (moved_by (cycle A ns)) F (found_fine s H F fine.hypotheses has).none);
      })

  pub leads_to_none : (c : ProofCommand) (ps : List Sequent) → Leads (effect D l c s) ps → AllUnhashed ps
  leads_to_none (command.intros xs) ps (clear, (o, taken, (p, introduced, (left, e)))) = one p.1 ps e (none_hashed p.1 (introduced_fine introduced fine))
  leads_to_none command.split ps (p, shape, e) =
      let parts = both_form (form_of s.conclusion) p shape (parts_none s.conclusion unhashed.conclusion) in
      two (proving p.0 s) (proving p.1 s) ps e (asked p.0 parts.0) (asked p.1 parts.1)
  leads_to_none command.split_all ps (p, shape, e) = subst AllUnhashed (sym e) (all_asked (conjuncts s.conclusion) (conjuncts_none s.conclusion unhashed.conclusion))
  leads_to_none command.left ps (p, shape, e) = one (proving p.0 s) ps e (asked p.0 (either_form (form_of s.conclusion) p shape (parts_none s.conclusion unhashed.conclusion)).0)
  leads_to_none command.right ps (p, shape, e) = one (proving p.1 s) ps e (asked p.1 (either_form (form_of s.conclusion) p shape (parts_none s.conclusion unhashed.conclusion)).1)
  leads_to_none (command.exists x) ps (q, shape, (t, means, e)) =
      one _ ps e (asked _ (instance_fine q.1 t (of_exists s.conclusion fine.conclusion q.0 q.1 (exists_form (form_of s.conclusion) q shape))).none)
  leads_to_none (command.case H keep) ps (clear, (F, has, h)) = cased F (found_fine s H F fine.hypotheses has) (if keep then s else without H s) (rest_fine H keep) ps (form_of F) refl h
  leads_to_none (command.assert x) ps (clear, (F, asserts, (p, names, e))) =
      let n = means_none D (meaning.scope_of D s) x _ F asserts.0 in
      two (proving F s) (assuming p.0 F p.1) ps e (asked F n) (told p.0 p.1 F names n)
  leads_to_none (command.clear Hs) ps (there, e) = one (cleared Hs s) ps e (cleared_none Hs s unhashed)
  leads_to_none (command.rename H x) ps (clear, (F, has, e)) =
      one (assuming x F (without H s)) ps e
      (record { conclusion = unhashed.conclusion; hypotheses = and_hypothesis HasNoHash x F (without H s) (less_hypothesis HasNoHash H s unhashed.hypotheses) (found_fine s H F fine.hypotheses has).none })
  leads_to_none (command.induction ns) ps h = by_induction ns ps h
  leads_to_none command.coinduction ps h = by_coinduction ps h
  leads_to_none (command.apply H vs es) ps h = by_apply H vs es ps h
  leads_to_none (command.backchain H es) ps h = by_backchain H es ps h
  leads_to_none (command.cut H K) ps (clear, (F, f, (G, g, (p, p_is, (q, q_is, (L, cut, (n, names, e))))))) = one _ ps e (told n.0 n.1 _ names tt)
  leads_to_none (command.inst H es) ps (clear, (F, has, (p, p_is, (once, (there, h))))) =
      let (rs, (n, names, e)) = read_for D s [] _ es _ ps h in
      one _ ps e (told n.0 n.1 _ names (replaced_none rs p.0 p.1))
  leads_to_none (command.monotone H x) ps (clear, (K, means, (F, has, (p, p_is, (n, names, e))))) = two _ _ ps e (asked _ (tt, tt)) (told n.0 n.1 _ names tt)
  leads_to_none (command.search n) ps h = let no = h.0 in absurd (cc)
  leads_to_none command.skip ps e = subst AllUnhashed (sym e) (All-nil NoJudgementIsHashed)
  leads_to_none command.unfold_goal ps (x, subject, (u, may, (t, unfolded, e))) = one t ps e (unfolded_none D definitions none s s.conclusion x t (subject_is D s.conclusion x subject) fine unfolded)
  leads_to_none (command.permute ns o) ps h = by_permute ns o ps h
