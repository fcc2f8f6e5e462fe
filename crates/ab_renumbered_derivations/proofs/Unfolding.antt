-- THE WAYS TO UNFOLD a conclusion with other numbers: they are as many, and each closes what is left with other numbers.
use Rattle.std.specs.Prelude.{slice_get}
use Rattle.std.proofs.Common.{◌≡◌, ℕ, zero, suc, List, [], ◌∷◌, map, Some, refl, sym, ◌∙◌, ap, subst}
use Rattle.ab_term.specs.Logical.{nabla}
use Rattle.ab_term.specs.Abstraction.{close}
use Rattle.ab_term.specs.Terms.{Nominal, nominal, logical, lam, spine, no_terms, term, Read}
use Rattle.ab_term.specs.Sameness.{same_number}
use Rattle.ab_unifiers.specs.Clauses.{Each}
use Rattle.ab_unifiers.specs.Replacements.{Cell}
use Rattle.ab_formulas.specs.Sequents.{Variable, Sequent, goal_names}
use Rattle.ab_theory.specs.Atoms.{Choice, choices_of}
use Rattle.ab_theory.specs.Subjects.{Subject, an_atom, a_judgement, Way, way_by_choice, way_by_rule, ways_of}
use Rattle.ab_theory.specs.Unfolding.{exists_all, nabla_all, closed_over}
use Rattle.ab_effects.proofs.Arising.{Follows}
use Rattle.ab_effects.proofs.Following.{moved_atom, goal_names_moved, choices_moved}
use Rattle.ab_effects.proofs.MovedDemands.{exists_all_moved}
use Rattle.ab_effects.proofs.MovedSubjects.{moved_subject}
use Rattle.ab_effects.proofs.Renumbered.{moved_variable, moved_goal}
use Rattle.ab_effects.proofs.SubjectsFollowing.{IsGoodSubject, each_by, each_by_two, ways_follow}
use Rattle.ab_effects.specs.Judgements.{renumbered_judgement, renumbered_rule}
use Rattle.ab_search_trees.proofs.MovedForms.{T}
use Rattle.ab_renumbered_derivations.proofs.Contexts.{close_told}

module _ (f : ℕ → ℕ) (agree : (i j : ℕ) → same_number (f i) (f j) ≡ same_number i j) where
  nabla_all_moved : (zs : List (Cell (List ℕ))) (ns : List Nominal) (F : Read) → T f (nabla_all zs ns F) ≡ nabla_all zs ns (T f F)
  nabla_all_moved [] ns F = refl
  nabla_all_moved (z ∷ zs) [] F = refl
  nabla_all_moved (z ∷ zs) (a ∷ ns) F =
      ap (λ t. spine (logical (nabla a.type)) (term (lam a.type z.hint t) no_terms)) (close_told f zero a (nabla_all zs ns F))
      ∙ ap (λ G. spine (logical (nabla a.type)) (term (lam a.type z.hint (close zero (nominal a) G)) no_terms)) (nabla_all_moved zs ns F)

  -- the way closes what is left
  abbrev Closes : Way → Way → Type 0
  Closes w v = (ys : List Variable) (G : Read) → T f (w.closed ys G) ≡ v.closed (map (moved_variable f) ys) (T f G)

  choice_closes : (c : Choice) (ys : List Variable) (G : Read) → T f (closed_over ys c G) ≡ closed_over (map (moved_variable f) ys) c (T f G)
  choice_closes c [] G = refl
  choice_closes c (y ∷ ys) G =
      exists_all_moved f agree (y ∷ ys) (nabla_all c.clause.names c.names G)
      ∙ ap (exists_all (map (moved_variable f) (y ∷ ys))) (nabla_all_moved c.clause.names c.names G)

  ways_close : (s : Sequent) (x : Subject) → Each Closes (ways_of s x) (ways_of (moved_goal f s) (moved_subject f x))
  ways_close s (an_atom d) =
      let chs = choices_of (goal_names s) d in
      let second = way_by_choice (moved_goal f s) (moved_atom f d) in
      let same : chs ≡ choices_of (goal_names (moved_goal f s)) (moved_atom f d) = sym (choices_moved f (goal_names s) d) ∙ ap (λ l. choices_of l (moved_atom f d)) (sym (goal_names_moved f s)) in
      subst (λ l. Each Closes (map (way_by_choice s d) chs) (map second l)) same (each_by Closes (way_by_choice s d) second chs (λ c m. choice_closes c))
  ways_close s (a_judgement j rs) =
      each_by_two Closes (way_by_rule s j) (way_by_rule (moved_goal f s) (renumbered_judgement f j)) (renumbered_rule f) rs (λ r m ys G. exists_all_moved f agree ys G)

  pub record WayMoves (w v : Way) : Type 0 where
    pub case : Follows f w.case v.case
    pub closes : (ys : List Variable) (G : Read) → T f (w.closed ys G) ≡ v.closed (map (moved_variable f) ys) (T f G)

  -- the way of one place
  at_one : (ws vs : List Way) (i : ℕ) (w : Way) → Each (λ (a b : Way). Follows f a.case b.case) ws vs → Each Closes ws vs → slice_get ws i ≡ Some w → (v : Way) × (slice_get vs i ≡ Some v) × WayMoves w v
  at_one [] vs i w a b e = absurd (cc)
  at_one (x ∷ ws) [] i w a b e = absurd a
  at_one (x ∷ ws) (y ∷ vs) zero w a b e =
      let same : x ≡ w = cc in
      (y, refl, subst (λ z. WayMoves z y) same (record { case = a.0; closes = b.0 }))
  at_one (x ∷ ws) (y ∷ vs) (suc i) w a b e = at_one ws vs i w a.1 b.1 e

  pub way_moved : (s : Sequent) (x : Subject) (i : ℕ) (w : Way) → IsGoodSubject x → slice_get (ways_of s x) i ≡ Some w → (v : Way) × (slice_get (ways_of (moved_goal f s) (moved_subject f x)) i ≡ Some v) × WayMoves w v
  way_moved s x i w good e = at_one (ways_of s x) (ways_of (moved_goal f s) (moved_subject f x)) i w (ways_follow f s x good) (ways_close s x) e
