use Rattle.ab_logic.specs.Worlds.{declarations_of}
use Rattle.ab_logic.proofs.BuiltIn.{has_member}
use Rattle.ab_logic.proofs.Programs.{have_programs}
use Rattle.ab_kernel.specs.Layout.{history_of}
use Rattle.ab_theory.proofs.Rooted.{open_are_sequents}
use Rattle.ab_kernel.proofs.laws.open_goals_are_sequents.Goals as goal

pub returns : goal.returns
returns c = record {
  derivation = λ D sentences definitions programs has d valid is. open_are_sequents D sentences definitions programs has d valid is;
  proof = λ w world p proof. open_are_sequents (declarations_of w) world.sentences world.definitions (have_programs w world) (has_member w world) (history_of w p).tree proof.valid proof.held.rooted;
}
