-- NOTHING IS A MEMBER OF `nil`: a hypothesis that says so closes a sequent, since none of its cases arises.
use Rattle.std.specs.Prelude.{bytes_eq, filter, Some, option_map}
use Rattle.std.proofs.Common.{◌≡◌, ℕ, List, [], ◌∷◌, map, codes, refl, sym, ◌∙◌, ap, subst}
use Rattle.ab_term.specs.Terms.{Nominal, constant, spine, Terms, no_terms, term, Read}
use Rattle.ab_term.specs.Names.{support_of_all}
use Rattle.ab_term.specs.Translation.{forget_all}
use Rattle.ab_unifiers.specs.Replacements.{Cell}
use Rattle.ab_unifiers.specs.Choices.{choices, for_each, in_order}
use Rattle.ab_unifiers.specs.Clauses.{Clause}
use Rattle.ab_unifiers.specs.Member.{member_first, member_later, member_clauses}
use Rattle.ab_unifiers.specs.Unification.{unified, apart}
use Rattle.ab_formulas.specs.BodyMarks.{MayBeAnalysed, with_mark}
use Rattle.ab_formulas.specs.Declarations.{Declarations, Block, block_in}
use Rattle.ab_formulas.specs.Marks.{Sign, plain, star_of, at_of, plus_of, hash_of}
use Rattle.ab_formulas.specs.NewNames.{given}
use Rattle.ab_formulas.specs.Sequents.{Sequent, goal_names, without}
use Rattle.ab_theory.specs.Analysis.{case_of, cases_of}
use Rattle.ab_theory.specs.Atoms.{Defined, defined_atom, Choice, choices_of}
use Rattle.ab_theory.specs.Derivations.{debts_of}
use Rattle.ab_theory.specs.Equations.{Naming}
use Rattle.ab_theory.specs.Judgements.{as_judgement}
use Rattle.ab_theory.specs.Row.{Takes}
use Rattle.ab_theory.specs.Rules.{Making, row, any_name, by_hint}
use Rattle.ab_theory.specs.Splits.{CaseOver, NeverArises, Split, done, never, arises}
use Rattle.ab_theory.specs.Steps.{Step, definition_left}
use Rattle.ab_theory.specs.Subjects.{an_atom, subject_of, atom_or, with_rules, cases_by}
use Rattle.ab_theory.proofs.OneAnswer.{taken_or_stuck, names_by_hint}
use Rattle.ab_theory.proofs.Splitting.{one_answer}
use Rattle.ab_search_trees.proofs.Forms.{begins_constant, one_more, no_more}
use Rattle.ab_search_proofs.specs.Likeness.{StandIn, AreLike}
use Rattle.ab_search_proofs.specs.Taking.{LeadsTo}
use Rattle.ab_search_proofs.proofs.AtomsAlike.{AtomLike, atom_like}
use Rattle.ab_search_proofs.proofs.Connectives.{same_option}
use Rattle.ab_search_proofs.proofs.Places.{some_label}
use Rattle.ab_search_proofs.proofs.Taken.{leads_to}
use Rattle.ab_search_layers.specs.Layered.{MemberIsDefined}
use Rattle.ab_search_layers.proofs.Clashing.{at_first, later, solved_apart}
use Rattle.ab_search_layers.proofs.TakenOut.{TakenOut}

abbrev pub in_nil : Read → Terms ℕ (List ℕ) → Terms ℕ (List ℕ)
in_nil t us = term t (term (spine (constant (codes "nil")) us) no_terms)

-- CASES OF WHICH NONE ARISES
abbrev NoneArise : List CaseOver → Type 0
NoneArise [] = Unit {0}
NoneArise (c ∷ cs) = ((cells : List (Cell (List ℕ))) → NeverArises (c cells)) × NoneArise cs

no_goal : (IsName : Naming) (cells : List (Cell (List ℕ))) (cs : List CaseOver) → NoneArise cs → Split IsName cells cs []
no_goal IsName cells [] n = done
no_goal IsName cells (c ∷ cs) n = never (n.0 cells) (no_goal IsName cells cs n.1)

only_none : (IsName : Naming) {cells : List (Cell (List ℕ))} {cs : List CaseOver} {qs : List Sequent} → NoneArise cs → Split IsName cells cs qs → qs ≡ []
only_none IsName n done = refl
only_none IsName n (never k p) = only_none IsName n.1 p
only_none IsName {cells = cells} n (arises {c = c} a p) = let same : unified a.more a.answer ≡ apart = one_answer (c cells) (unified a.more a.answer) apart a.solved (n.0 cells) in absurd (cc)

-- of the two clauses
module _ (goal rest : Sequent) (name : List ℕ) (d : Defined) (predicate : d.predicate ≡ codes "member") (clauses : d.block.clauses ≡ member_clauses) (t : Read) (us : Terms ℕ (List ℕ)) (arguments : d.arguments ≡ in_nil t us) where
  two : (held : List Nominal) → choices_of held d ≡ record { clause = member_first; names = [] } ∷ record { clause = member_later; names = [] } ∷ []
  two held =
      let chosen : Clause (List ℕ) → List Choice = λ c. map (λ ns. record { clause = c; names = ns }) (choices (map (λ z. z.type) c.names) (in_order (support_of_all d.arguments)) held) in
      ap (λ p. for_each chosen (filter (λ c. bytes_eq c.predicate p) d.block.clauses)) predicate ∙ ap (λ cs. for_each chosen (filter (λ c. bytes_eq c.predicate (codes "member")) cs)) clauses

  first_never : (cells : List (Cell (List ℕ))) → NeverArises (case_of goal rest name d (record { clause = member_first; names = [] }) cells)
  first_never cells = subst (λ ts. NeverArises (case_of goal rest name (record { sign = d.sign; predicate = d.predicate; arguments = ts; block = d.block }) (record { clause = member_first; names = [] }) cells)) (sym arguments) (solved_apart (codes "x") _ (later (at_first _ _ refl refl)))

  later_never : (cells : List (Cell (List ℕ))) → NeverArises (case_of goal rest name d (record { clause = member_later; names = [] }) cells)
  later_never cells = subst (λ ts. NeverArises (case_of goal rest name (record { sign = d.sign; predicate = d.predicate; arguments = ts; block = d.block }) (record { clause = member_later; names = [] }) cells)) (sym arguments) (solved_apart (codes "x") _ (later (at_first _ _ refl refl)))

  none_arise : NoneArise (cases_of goal rest name d)
  none_arise = subst (λ ks. NoneArise (map (case_of goal rest name d) ks)) (sym (two (goal_names goal))) (first_never, (later_never, tt))

-- such an atom, with its mark
abbrev pub member_of_nil : Sign → Read → Terms ℕ (List ℕ) → Read
member_of_nil m t us = with_mark m (spine (constant (codes "member")) (in_nil t us))

as_defined : (D : Declarations) (m : Sign) (t : Read) (us : Terms ℕ (List ℕ)) (b : Block) → block_in D (codes "member") ≡ Some b → defined_atom D (member_of_nil m t us) ≡ Some (record { sign = m; predicate = codes "member"; arguments = in_nil t us; block = b })
as_defined D plain t us b e = ap (option_map (λ (b : Block). record { sign = plain; predicate = codes "member"; arguments = in_nil t us; block = b })) e
as_defined D (star_of i) t us b e = ap (option_map (λ (b : Block). record { sign = star_of i; predicate = codes "member"; arguments = in_nil t us; block = b })) e
as_defined D (at_of i) t us b e = ap (option_map (λ (b : Block). record { sign = at_of i; predicate = codes "member"; arguments = in_nil t us; block = b })) e
as_defined D (plus_of i) t us b e = ap (option_map (λ (b : Block). record { sign = plus_of i; predicate = codes "member"; arguments = in_nil t us; block = b })) e
as_defined D (hash_of i) t us b e = ap (option_map (λ (b : Block). record { sign = hash_of i; predicate = codes "member"; arguments = in_nil t us; block = b })) e

pub like_in_nil : (ws : Terms ℕ (Unit {0})) (t : _) (ts : Terms ℕ (List ℕ)) → term t (term (spine (constant (codes "nil")) ws) no_terms) ≡ forget_all ts → (u : Read) × (us : Terms ℕ (List ℕ)) × (ts ≡ in_nil u us)
like_in_nil ws t ts e =
    let one = one_more ts e in
    let two = one_more one.1 one.4 in
    let b = begins_constant (codes "nil") ws two.0 two.3 in
    (one.0, b.0, one.2 ∙ ap (term one.0) (two.2 ∙ ap (term two.0) (no_more two.4) ∙ ap (λ z. term z no_terms) b.1))

module _ (D : Declarations) (defined : MemberIsDefined D) (vs : List StandIn) (Hs : List Read) (K : Read) (s : Sequent) (m : Sign) (t : Read) (us : Terms ℕ (List ℕ)) (o : TakenOut D vs K (member_of_nil m t us) s) where
  abbrev d : Defined
  d = record { sign = m; predicate = codes "member"; arguments = in_nil t us; block = defined.block }

  abbrev there : AtomLike D vs ((o.like).same).0 d o.formula
  there = atom_like D vs (member_of_nil m t us) o.formula o.like d (as_defined D m t us defined.block defined.found)

  in_nil_there : (u : Read) × (ws : Terms ℕ (List ℕ)) × ((there.atom).arguments ≡ in_nil u ws)
  in_nil_there = like_in_nil _ _ (there.atom).arguments there.arguments

  abbrev bare : Sequent
  bare = without o.name s

  abbrev label : List ℕ
  label = (some_label bare).0

  none : NoneArise (cases_of s bare label there.atom)
  none = none_arise s bare label there.atom there.predicate (ap (λ (b : Block). b.clauses) there.block ∙ defined.clauses) in_nil_there.0 in_nil_there.1 in_nil_there.2

  subject : subject_of D o.formula ≡ Some (an_atom there.atom)
  subject = ap (λ z. atom_or z (with_rules D (as_judgement o.formula))) there.is

  pub nothing_step : MayBeAnalysed m → (step : Step) × (debts_of step ≡ []) × LeadsTo D step s (AreLike D vs Hs [])
  nothing_step may =
      let step : Step = definition_left o.name (given label) in
      let mays : MayBeAnalysed (there.atom).sign = subst MayBeAnalysed (sym there.sign) may in
      let taken : (new : Making) → Takes (row D new step s) [] =
      λ new. (o.formula, o.found, (an_atom there.atom, subject, (mays, (label, bare, ((some_label bare).1, refl, refl), no_goal new.IsName new.cells (cases_of s bare label there.atom) none)))) in (
        step,
        refl,
        leads_to D step s (AreLike D vs Hs []) (λ cells are. ([], taken (any_name cells)))
            (λ cells are k f. taken_or_stuck (row D (by_hint D cells) step s) (names_by_hint D cells step s) [] k (taken (by_hint D cells)) f)
            (λ cells are ps h.
            let formula : h.0 ≡ o.formula = same_option (sym h.1 ∙ o.found) in
            let x : (h.2).0 ≡ an_atom there.atom = same_option (sym (h.2).1 ∙ ap (subject_of D) formula ∙ subject) in
            let named = ((h.2).2).1.2 in
            let split = ((h.2).2).1.3 in
            let as_it_is = subst (λ z. Split (any_name cells).IsName cells (cases_by s bare label z) ps) x
            (subst (λ z. Split (any_name cells).IsName cells (cases_by s z label ((h.2).0)) ps) named.2 (subst (λ z. Split (any_name cells).IsName cells (cases_by s (((h.2).2).1.1) z ((h.2).0)) ps) named.1 split)) in
            subst (AreLike D vs Hs []) (sym (only_none (any_name cells).IsName none as_it_is)) tt),
      )
