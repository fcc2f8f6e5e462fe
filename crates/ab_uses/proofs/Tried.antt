-- Choices that are tried in a world that has grown come out as in the world where they were asked for.
use Rattle.std.proofs.Common.{◌≡◌, List, sym, ◌∙◌, ap, subst}
use Rattle.ab_term.specs.Terms as tree
use Rattle.ab_norm.specs.ab_types.specs.Entries.{Table}
use Rattle.ab_norm.specs.ab_store.specs.Trees.{Contents}
use Rattle.ab_unify.specs.Problem.{cells_read}
use Rattle.ab_logic.specs.WorldGrowth.{Grows}
use Rattle.ab_logic.specs.SequentReadings.{sequent_of, HoldsSequent}
use Rattle.ab_logic.specs.declared.world.World.{World}
use Rattle.ab_logic.specs.declared.sequent.Sequent.{Sequent as Kept}
use Rattle.ab_logic.proofs.Growing.{same_sequent, still_held}
use Rattle.ab_theory.specs.Uses.{types_chosen}
use Rattle.ab_uses.specs.UseCells.{parts_read}
use Rattle.ab_uses.specs.Questions.{IsPosed, using_at}
use Rattle.ab_uses.specs.ChoiceTrials.{FirstComesOut}
use Rattle.ab_uses.specs.declared.aim.Aim.{Aim}
use Rattle.ab_uses.specs.declared.question.Question.{Question}
use Rattle.ab_uses.specs.declared.outcome.Outcome.{Outcome}
use Rattle.ab_uses.proofs.Lasting.{same_parts, same_using, still_posed}

module _ (w v : World) (grown : Grows w v) (g : Kept) (q : Question) (aim : Aim) (goal : HoldsSequent w g) (posed : IsPosed w (sequent_of w g) q aim) where
  pub goal_there : HoldsSequent v g
  goal_there = still_held w v grown g goal

  pub posed_there : IsPosed v (sequent_of v g) q aim
  posed_there = subst (λ s. IsPosed v s q aim) (sym (same_sequent w v grown g goal)) (still_posed w v grown (sequent_of w g) q aim posed)

  pub types_there : types_chosen (parts_read v.types v.store q.parts.items) ≡ types_chosen (parts_read w.types w.store q.parts.items)
  types_there = ap types_chosen (same_parts w v grown q.parts.items posed.parts)

  same_there : using_at v (sequent_of v g) q aim ≡ using_at w (sequent_of w g) q aim
  same_there = ap (λ s. using_at v s q aim) (same_sequent w v grown g goal) ∙ same_using w v grown (sequent_of w g) q aim posed

  -- WHAT COMES OF THEM THERE comes of them here
  pub comes_here : (list there : List (List tree.Nominal)) → there ≡ list → cells_read v.types v.store ≡ cells_read w.types w.store → (X : Table) (Y : Contents) (o : Outcome)
      → FirstComesOut (cells_read v.types v.store) (using_at v (sequent_of v g) q aim) there X Y o → FirstComesOut (cells_read w.types w.store) (using_at w (sequent_of w g) q aim) list X Y o
  comes_here list there same cells X Y o c =
      subst (λ l. FirstComesOut (cells_read w.types w.store) (using_at w (sequent_of w g) q aim) l X Y o) same
      (subst (λ u. FirstComesOut (cells_read w.types w.store) u there X Y o) same_there
      (subst (λ k. FirstComesOut k (using_at v (sequent_of v g) q aim) there X Y o) cells c))
