-- The open goals of a proof are sequents.
use Rattle.std.specs.List.{All}
use Rattle.std.proofs.Common.{◌≡◌, List, ◌∷◌, subst}
use Rattle.std.proofs.lemmas.List.Elements.{All-head}
use Rattle.ab_formulas.specs.Sequents.{Sequent, IsSequent}
use Rattle.ab_logic.specs.Worlds.{IsWorld, declarations_of}
use Rattle.ab_logic.specs.declared.world.World.{World}
use Rattle.ab_logic.proofs.BuiltIn.{has_member}
use Rattle.ab_logic.proofs.Programs.{have_programs}
use Rattle.ab_theory.proofs.Rooted.{open_are_sequents}
use Rattle.ab_kernel.specs.Layout.{Held, history_of, IsProof, goals_of}

pub goals_are_sequents : (w : World) (p : Held) → IsWorld w → IsProof w p → All (IsSequent (declarations_of w)) (goals_of w p)
goals_are_sequents w p world proof =
    open_are_sequents (declarations_of w) world.sentences world.definitions (have_programs w world) (has_member w world) (history_of w p).tree proof.valid proof.held.rooted

pub first_is_sequent : (w : World) (p : Held) → IsWorld w → IsProof w p → (s : Sequent) (rest : List Sequent) → goals_of w p ≡ s ∷ rest → IsSequent (declarations_of w) s
first_is_sequent w p world proof s rest goals =
    All-head (IsSequent (declarations_of w)) s rest (subst (All (IsSequent (declarations_of w))) goals (goals_are_sequents w p world proof))
