-- A SUBJECT SPLITS A GOAL, and in each case its body is opened; or it can't, for one cause. Where names are few.
use Rattle.std.specs.Prelude.{Contains}
use Rattle.std.proofs.Common.{◌≡◌, ◌⊎◌, inl, inr, ℕ, suc, List, [], ◌∷◌, ◌++◌, map, length, Some, codes, refl, sym, ◌∙◌, ap, subst}
use Rattle.ab_term.specs.Terms.{Read}
use Rattle.ab_term.specs.Variables.{Substitution, image}
use Rattle.ab_term.specs.Sameness.{same_number}
use Rattle.ab_unifiers.specs.Replacements.{Cell}
use Rattle.ab_term.proofs.Lists.{Contains-here, Contains-there}
use Rattle.ab_unifiers.specs.Alternatives.{alternative, on_left}
use Rattle.ab_formulas.specs.Declarations.{Declarations}
use Rattle.ab_formulas.specs.BodyMarks.{MayBeAnalysed, mark_below, marked_in}
use Rattle.ab_formulas.specs.Forms.{Form, truth, falsity, both, either, implies, equal, for_all, exists, nabla, marked, other}
use Rattle.ab_formulas.specs.Sequents.{Variable, Hypothesis, Sequent, assuming}
use Rattle.ab_formulas.specs.NewNames.{Label, IsNamedFor}
use Rattle.ab_theory.specs.Equations.{Naming, made, renaming, under}
use Rattle.ab_theory.specs.Splits.{Case, CaseOver, Arises, Split, done, never, arises}
use Rattle.ab_theory.specs.Atoms.{Defined, Choice, choices_of}
use Rattle.ab_theory.specs.Analysis.{scope_of, raised_goal, case_of}
use Rattle.ab_theory.specs.Judgements.{Judgement}
use Rattle.ab_theory.specs.SpecRules.{SpecRule, demand_of}
use Rattle.ab_theory.specs.JudgementCases.{judgement_case}
use Rattle.ab_theory.specs.Subjects.{Subject, an_atom, a_judgement, subject_of, sign_of, cases_by}
use Rattle.ab_formulas.specs.Sequents.{goal_names}
use Rattle.ab_meaning.specs.Refusals.{Refusal, mark, not_pattern, names_spent}
use Rattle.ab_effects.specs.CaseAnalysis.{IsParted, IsUnparted, AllOpened, SomeNameless}
use Rattle.ab_effects.specs.ProofCommands as row
use Rattle.ab_effects.specs.Solutions.{IsSolved, IsOutside}
use Rattle.ab_effects.specs.Openings.{Opened, Nameless}
use Rattle.ab_existence.specs.Certainty.{IsCertain}
use Rattle.ab_existence.specs.FewNames.{HasRoom, HasRoomToSolve}
use Rattle.ab_answers.specs.FindsNames.{HasRoomToOpen, HasRoomToSplit, HasRoomForCases}
use Rattle.ab_existence.proofs.Certain.{sure, and_so, and_also}
use Rattle.ab_existence.proofs.Namings.{solved_there, split_there}
use Rattle.ab_answers.proofs.Places.{NumbersDiffer, places_of, are_places}
use Rattle.ab_existence.proofs.Room.{finds_name, room_left, all_room}
use Rattle.ab_answers.proofs.Opened.{opened_there}
use Rattle.ab_answers.proofs.Asked.{HasAnswers, there_or_refused}

-- THE LAST HYPOTHESIS of a goal that is put under an answer

abbrev IsLast : Sequent → Type 0
IsLast g = (name : List ℕ) × (F : Read) × (t : Sequent) × (g ≡ assuming name F t)

abbrev AllLast : List Sequent → Type 0
AllLast [] = Unit {0}
AllLast (g ∷ gs) = IsLast g × AllLast gs

map_push : {X Y : Type 0} (f : X → Y) (xs : List X) (x : X) → map f (xs ++ x ∷ []) ≡ map f xs ++ f x ∷ []
map_push f [] x = refl
map_push f (y ∷ ys) x = ap (λ zs. f y ∷ zs) (map_push f ys x)

module _ (cells more : List (Cell (List ℕ))) (answer : Substitution ℕ (List ℕ)) (ys : List Variable) where
  abbrev changing : Read → Read
  changing F = image same_number (renaming (made cells more answer) ys) (image same_number answer F)

  under_last : (name : List ℕ) (F : Read) (t : Sequent) → under cells more answer ys (assuming name F t) ≡ assuming name (changing F) (under cells more answer ys t)
  under_last name F t =
      let u = under cells more answer ys t in
      ap (λ hs. record { variables = u.variables; hypotheses = hs; conclusion = u.conclusion; counter = u.counter })
      (map_push (λ (h : Hypothesis). record { name = h.name; formula = changing h.formula }) t.hypotheses (record { name = name; formula = F }))

abbrev EndSo : List CaseOver → Type 0
EndSo [] = Unit {0}
EndSo (c ∷ cs) = ((cells : List (Cell (List ℕ))) → IsLast (c cells).goal) × EndSo cs

choices_end : (goal rest : Sequent) (name : List ℕ) (d : Defined) (chs : List Choice) → EndSo (map (case_of goal rest name d) chs)
choices_end goal rest name d [] = tt
choices_end goal rest name d (c ∷ chs) = (
  λ cells.
      let alt = alternative (codes "x") (scope_of cells goal) d.arguments c.clause c.names on_left in
      (name, marked_in d.block.predicates (mark_below d.sign) alt.body, raised_goal alt rest, refl),
  choices_end goal rest name d chs,
)

rules_end : (goal rest : Sequent) (name : List ℕ) (j : Judgement) (rs : List SpecRule) → EndSo (map (judgement_case goal rest name j) rs)
rules_end goal rest name j [] = tt
rules_end goal rest name j (r ∷ rs) = (λ cells. (name, (demand_of (length cells) (mark_below j.sign) j r).body, rest, refl), rules_end goal rest name j rs)

cases_end : (goal rest : Sequent) (name : List ℕ) (x : Subject) → EndSo (cases_by goal rest name x)
cases_end goal rest name (an_atom d) = choices_end goal rest name d (choices_of (goal_names goal) d)
cases_end goal rest name (a_judgement j rs) = rules_end goal rest name j rs

last_there : (IsName : Naming) (c : Case) (after : List (Cell (List ℕ))) (g : Sequent) → Arises IsName c after g → IsLast c.goal → IsLast g
last_there IsName c after g a last = (
  last.0,
  changing c.before a.more a.answer a.new last.1,
  under c.before a.more a.answer a.new last.2,
  a.goal ∙ ap (under c.before a.more a.answer a.new) last.3 ∙ under_last c.before a.more a.answer a.new last.0 last.1 last.2,
)

all_last : {IsName : Naming} {cells : List (Cell (List ℕ))} {cs : List CaseOver} {gs : List Sequent} → Split IsName cells cs gs → EndSo cs → AllLast gs
all_last done e = tt
all_last (never n p) e = all_last p e.1
all_last {IsName = IsName} {cells = cells} (arises {after = after} {c = c} {g = g} a p) e = (last_there IsName (c cells) after g a (e.0 cells), all_last p e.1)

module _ (D : Declarations) where
  abbrev AllOpenedOrNot : Label → List Sequent → Type 0
  AllOpenedOrNot l gs = ((us : List Sequent) × AllOpened D l gs us) ⊎ SomeNameless D l gs

  all_opened : (l : Label) (gs : List Sequent) → AllLast gs → ((name : List ℕ) (F : Read) (t : Sequent) → Contains gs (assuming name F t) → HasRoomToOpen D F t) → IsCertain (AllOpenedOrNot l gs)
  all_opened l [] last room = sure (inl ([], AllOpened.none))
  all_opened l (g ∷ gs) last room =
      let t = last.0.2 in
      and_so (opened_there D last.0.1 l t (room last.0.0 last.0.1 t (subst (Contains (g ∷ gs)) last.0.3 (Contains-here g gs))))
      (λ o. elim o [
        | inl p ↦ and_also (all_opened l gs last.1 (λ name F u c. room name F u (Contains-there g gs (assuming name F u) c)))
            (λ rest. elim rest [
              | inl us ↦ inl (p.0.1 ∷ us.0, subst (λ x. AllOpened D l (x ∷ gs) (p.0.1 ∷ us.0)) (sym last.0.3) (AllOpened.one last.0.0 p.1 us.1))
              | inr q ↦ inr (subst (λ x. SomeNameless D l (x ∷ gs)) (sym last.0.3) (SomeNameless.behind last.0.0 p.1 q))
            ])
        | inr nameless ↦ sure (inr (subst (λ x. SomeNameless D l (x ∷ gs)) (sym last.0.3) (SomeNameless.here last.0.0 nameless)))
      ])

  -- the split, with what its goals end in
  parted_there : (goal rest : Sequent) (x : Subject) → HasRoomToSplit D goal rest x → NumbersDiffer goal.variables → IsCertain (((gs : List Sequent) × IsParted D goal rest x gs) ⊎ ((f : Refusal) × IsUnparted D goal rest x f))
  parted_there goal rest x room differ =
      let cells = places_of goal in
      let are = are_places goal differ in
      and_also (split_there (IsNamedFor D) (λ n s. HasRoom D s n) (finds_name D) (room_left D) cells (cases_by goal rest [] x) (all_room D goal rest [] x room.cases))
      (λ s. elim s [ inl gs ↦ inl (gs.0, (cells, are, [], gs.1)) | inr i ↦ inr (not_pattern (suc i.0), (cells, are, [], i.0, i.1, refl)) ])

  parted_last : (goal rest : Sequent) (x : Subject) (gs : List Sequent) → IsParted D goal rest x gs → AllLast gs
  parted_last goal rest x gs p = all_last p.3 (cases_end goal rest p.2 x)

  analysing_there : (F : Read) (l : Label) (goal rest : Sequent) → ((x : Subject) → subject_of D F ≡ Some x → HasRoomToSplit D goal rest x) → NumbersDiffer goal.variables → HasAnswers (row.analysing D F l goal rest)
  analysing_there F l goal rest room differ =
      λ x e. (
        there_or_refused (MayBeAnalysed (sign_of x)) mark,
        λ u may. (
          parted_there goal rest x (room x e) differ,
          λ gs p. (
            and_also (all_opened l gs (parted_last goal rest x gs p) (λ name G t c. (room x e).bodies gs name G t p c)) (λ o. elim o [ inl us ↦ inl us | inr nameless ↦ inr (names_spent, (nameless, refl)) ]),
            λ us o. tt,
          ),
        ),
      )

  solving_there : (s : Sequent) (t u : Read) → HasRoomToSolve D s t u → NumbersDiffer s.variables → IsCertain (((gs : List Sequent) × IsSolved D s t u gs) ⊎ ((f : Refusal) × (IsOutside s t u × (f ≡ not_pattern 1))))
  solving_there s t u room differ =
      let cells = places_of s in
      let are = are_places s differ in
      and_also (solved_there (IsNamedFor D) (λ n v. HasRoom D v n) (finds_name D) (room_left D) cells s t u (λ more r p. room cells more r p))
      (λ a. elim a [
        | inl g ↦ inl (g.0 ∷ [], (cells, are, inl (g.0, g.1, refl)))
        | inr other_way ↦ elim other_way [ inl apart ↦ inl ([], (cells, are, inr (apart, refl))) | inr stuck ↦ inr (not_pattern 1, ((cells, are, stuck), refl)) ]
      ])

  pub opening_there : (F : Read) (l : Label) (s : Sequent) → HasRoomToOpen D F s → IsCertain (((p : Label × Sequent) × Opened D (F ∷ []) l s p.0 p.1) ⊎ ((f : Refusal) × (Nameless D (F ∷ []) l s × (f ≡ names_spent))))
  opening_there F l s room = and_also (opened_there D F l s room) (λ o. elim o [ inl p ↦ inl p | inr nameless ↦ inr (names_spent, (nameless, refl)) ])

  pub cases_there : (form : Form) (F : Read) (l : Label) (goal rest : Sequent) → HasRoomForCases D form F goal rest → NumbersDiffer goal.variables → NumbersDiffer rest.variables → HasAnswers (row.cases D form F l goal rest)
  cases_there truth F l goal rest room differ apart = (opening_there F l rest room, λ p o. tt)
  cases_there (both A B) F l goal rest room differ apart = (opening_there F l rest room, λ p o. tt)
  cases_there (exists A t) F l goal rest room differ apart = (opening_there F l rest room, λ p o. tt)
  cases_there (nabla A t) F l goal rest room differ apart = (opening_there F l rest room, λ p o. tt)
  cases_there (either A B) F l goal rest room differ apart = (opening_there A l rest room.0, λ p o. (opening_there B l rest room.1, λ q m. tt))
  cases_there falsity F l goal rest room differ apart = tt
  cases_there (implies A B) F l goal rest room differ apart = tt
  cases_there (equal A t u) F l goal rest room differ apart = (solving_there rest t u room apart, λ gs i. tt)
  cases_there (for_all A t) F l goal rest room differ apart = tt
  cases_there (marked m t) F l goal rest room differ apart = analysing_there F l goal rest room differ
  cases_there other F l goal rest room differ apart = analysing_there F l goal rest room differ
