use Rattle.std.specs.Prelude.{IfOk, All}
use Rattle.std.specs.Option.{option_copied}
use Rattle.std.proofs.Common.{ℕ, List, Option, map, subst}
use Rattle.ab_grammar.specs.CommandTrees as told
use Rattle.ab_syntax.specs.declared.command.Argument.{Argument}
use Rattle.ab_syntax.specs.declared.command.Instance.{Instance}
use Rattle.ab_syntax.specs.declared.command.ProofCommand.{ProofCommand}
use Rattle.ab_syntax.specs.Commands.{argument_of, instance_of}
use Rattle.ab_syntax.specs.ab_expressions.specs.Items.{list_of}
use Rattle.ab_syntax.specs.ab_expressions.specs.SyntaxTrees.{tree_of}
use Rattle.ab_formulas.specs.NewNames.{Label}
use Rattle.ab_hypothesis.specs.ab_steps.specs.ProofEffects.{IsApplied, IsRefused}
use Rattle.ab_effects.specs.ProofCommands.{given_label}
use Rattle.ab_proofcmd.proofs.Answered.{at_label, whatever}
use Rattle.ab_proofcmd.proofs.proof_commands.apply_proof_command.Goals as goal

pub returns-in-Intros-clause-owes : goal.returns-in-Intros-clause-owes
returns-in-Intros-clause-owes g c = rw c.in-Intros.is (whatever c.intros.result (λ s rest e. c.intros.ensures.follows.owes))

pub returns-in-Intros-clause-applied : goal.returns-in-Intros-clause-applied
returns-in-Intros-clause-applied g c =
    let l = given_label (option_copied c.args.label) in
    rw c.in-Intros.is
    (subst (λ (xs : List (List ℕ)). IfOk c.intros.result (λ u. IsApplied l (told.intros xs) c.args.world.now c.args.proof.now c.intros.new.world c.intros.new.proof)) c.as_slice.ensures
    (at_label (λ m. IsApplied m (told.intros c.as_slice.result.now) c.args.world.now c.args.proof.now c.intros.new.world c.intros.new.proof) c.intros.result l c.intros.ensures.applied))

pub returns-in-Intros-clause-refused : goal.returns-in-Intros-clause-refused
returns-in-Intros-clause-refused g c fault e =
    let l = given_label (option_copied c.args.label) in
    rw c.in-Intros.is
    (subst (λ (xs : List (List ℕ)). IsRefused l (told.intros xs) c.args.world.now c.args.proof.now fault) c.as_slice.ensures (c.intros.ensures.refused fault e l))

pub returns-in-Induction-clause-owes : goal.returns-in-Induction-clause-owes
returns-in-Induction-clause-owes g c = rw c.in-Induction.is (whatever c.induction.result (λ s rest e. c.induction.ensures.follows.owes))

pub returns-in-Induction-clause-applied : goal.returns-in-Induction-clause-applied
returns-in-Induction-clause-applied g c =
    let l = given_label (option_copied c.args.label) in
    let done = λ (m : Label) (xs : List ℕ). IfOk c.induction.result (λ u. IsApplied m (told.induction xs) c.args.world.now c.args.proof.now c.induction.new.world c.induction.new.proof) in
    rw c.in-Induction.is
    (subst (λ (xs : List ℕ). done l xs) c.as_slice-in-Induction.ensures
    (subst (λ (m : Label). done m c.as_slice-in-Induction.result.now) c.in_ok-wanted.ensures c.induction.ensures.applied))

pub returns-in-Induction-clause-refused : goal.returns-in-Induction-clause-refused
returns-in-Induction-clause-refused g c fault e =
    let l = given_label (option_copied c.args.label) in
    let refused = λ (m : Label) (xs : List ℕ). IsRefused m (told.induction xs) c.args.world.now c.args.proof.now fault in
    rw c.in-Induction.is
    (subst (λ (xs : List ℕ). refused l xs) c.as_slice-in-Induction.ensures
    (subst (λ (m : Label). refused m c.as_slice-in-Induction.result.now) c.in_ok-wanted.ensures (c.induction.ensures.refused fault e)))

pub returns-in-Coinduction-clause-owes : goal.returns-in-Coinduction-clause-owes
returns-in-Coinduction-clause-owes g c = rw c.in-Coinduction.is (whatever c.coinduction.result (λ s rest e. c.coinduction.ensures.follows.owes))

pub returns-in-Coinduction-clause-applied : goal.returns-in-Coinduction-clause-applied
returns-in-Coinduction-clause-applied g c =
    rw c.in-Coinduction.is
    (subst (λ (m : Label). IfOk c.coinduction.result (λ u. IsApplied m told.coinduction c.args.world.now c.args.proof.now c.coinduction.new.world c.coinduction.new.proof)) c.in_ok-wanted.ensures
    c.coinduction.ensures.applied)

pub returns-in-Coinduction-clause-refused : goal.returns-in-Coinduction-clause-refused
returns-in-Coinduction-clause-refused g c fault e =
    rw c.in-Coinduction.is
    (subst (λ (m : Label). IsRefused m told.coinduction c.args.world.now c.args.proof.now fault) c.in_ok-wanted.ensures (c.coinduction.ensures.refused fault e))

pub returns-in-Case-clause-owes : goal.returns-in-Case-clause-owes
returns-in-Case-clause-owes g c = rw c.in-Case.is (whatever c.case.result (λ s rest e. c.case.ensures.follows.owes))

pub returns-in-Case-clause-applied : goal.returns-in-Case-clause-applied
returns-in-Case-clause-applied g c =
    rw c.in-Case.is
    (subst (λ (m : Label). IfOk c.case.result (λ u. IsApplied m (told.case c.in-Case.name c.in-Case.keep) c.args.world.now c.args.proof.now c.case.new.world c.case.new.proof)) c.in_ok-wanted.ensures
    c.case.ensures.applied)

pub returns-in-Case-clause-refused : goal.returns-in-Case-clause-refused
returns-in-Case-clause-refused g c fault e =
    rw c.in-Case.is
    (subst (λ (m : Label). IsRefused m (told.case c.in-Case.name c.in-Case.keep) c.args.world.now c.args.proof.now fault) c.in_ok-wanted.ensures (c.case.ensures.refused fault e))

pub returns-in-Split-clause-owes : goal.returns-in-Split-clause-owes
returns-in-Split-clause-owes g c = rw c.in-Split.is (whatever c.split.result (λ s rest e. c.split.ensures.follows.owes))

pub returns-in-Split-clause-applied : goal.returns-in-Split-clause-applied
returns-in-Split-clause-applied g c =
    let l = given_label (option_copied c.args.label) in
    rw c.in-Split.is (at_label (λ m. IsApplied m told.split c.args.world.now c.args.proof.now c.split.new.world c.split.new.proof) c.split.result l c.split.ensures.applied)

pub returns-in-Split-clause-refused : goal.returns-in-Split-clause-refused
returns-in-Split-clause-refused g c fault e = rw c.in-Split.is (c.split.ensures.refused fault e (given_label (option_copied c.args.label)))

pub returns-in-SplitAll-clause-owes : goal.returns-in-SplitAll-clause-owes
returns-in-SplitAll-clause-owes g c = rw c.in-SplitAll.is (whatever c.split_all.result (λ s rest e. c.split_all.ensures.follows.owes))

pub returns-in-SplitAll-clause-applied : goal.returns-in-SplitAll-clause-applied
returns-in-SplitAll-clause-applied g c =
    let l = given_label (option_copied c.args.label) in
    rw c.in-SplitAll.is (at_label (λ m. IsApplied m told.split_all c.args.world.now c.args.proof.now c.split_all.new.world c.split_all.new.proof) c.split_all.result l c.split_all.ensures.applied)

pub returns-in-SplitAll-clause-refused : goal.returns-in-SplitAll-clause-refused
returns-in-SplitAll-clause-refused g c fault e = rw c.in-SplitAll.is (c.split_all.ensures.refused fault e (given_label (option_copied c.args.label)))

pub returns-in-Left-clause-owes : goal.returns-in-Left-clause-owes
returns-in-Left-clause-owes g c = rw c.in-Left.is (whatever c.left.result (λ s rest e. c.left.ensures.follows.owes))

pub returns-in-Left-clause-applied : goal.returns-in-Left-clause-applied
returns-in-Left-clause-applied g c =
    let l = given_label (option_copied c.args.label) in
    rw c.in-Left.is (at_label (λ m. IsApplied m told.left c.args.world.now c.args.proof.now c.left.new.world c.left.new.proof) c.left.result l c.left.ensures.applied)

pub returns-in-Left-clause-refused : goal.returns-in-Left-clause-refused
returns-in-Left-clause-refused g c fault e = rw c.in-Left.is (c.left.ensures.refused fault e (given_label (option_copied c.args.label)))

pub returns-in-Right-clause-owes : goal.returns-in-Right-clause-owes
returns-in-Right-clause-owes g c = rw c.in-Right.is (whatever c.right.result (λ s rest e. c.right.ensures.follows.owes))

pub returns-in-Right-clause-applied : goal.returns-in-Right-clause-applied
returns-in-Right-clause-applied g c =
    let l = given_label (option_copied c.args.label) in
    rw c.in-Right.is (at_label (λ m. IsApplied m told.right c.args.world.now c.args.proof.now c.right.new.world c.right.new.proof) c.right.result l c.right.ensures.applied)

pub returns-in-Right-clause-refused : goal.returns-in-Right-clause-refused
returns-in-Right-clause-refused g c fault e = rw c.in-Right.is (c.right.ensures.refused fault e (given_label (option_copied c.args.label)))

pub returns-in-Unfold-clause-owes : goal.returns-in-Unfold-clause-owes
returns-in-Unfold-clause-owes g c = rw c.in-Unfold.is (whatever c.unfold.result (λ s rest e. c.unfold.ensures.follows.owes))

pub returns-in-Unfold-clause-applied : goal.returns-in-Unfold-clause-applied
returns-in-Unfold-clause-applied g c =
    let l = given_label (option_copied c.args.label) in
    rw c.in-Unfold.is (at_label (λ m. IsApplied m told.unfold_goal c.args.world.now c.args.proof.now c.unfold.new.world c.unfold.new.proof) c.unfold.result l c.unfold.ensures.applied)

pub returns-in-Unfold-clause-refused : goal.returns-in-Unfold-clause-refused
returns-in-Unfold-clause-refused g c fault e = rw c.in-Unfold.is (c.unfold.ensures.refused fault e (given_label (option_copied c.args.label)))

pub returns-in-Clear-clause-owes : goal.returns-in-Clear-clause-owes
returns-in-Clear-clause-owes g c = rw c.in-Clear.is (whatever c.clear.result (λ s rest e. c.clear.ensures.follows.owes))

pub returns-in-Clear-clause-applied : goal.returns-in-Clear-clause-applied
returns-in-Clear-clause-applied g c =
    let l = given_label (option_copied c.args.label) in
    rw c.in-Clear.is
    (subst (λ (xs : List (List ℕ)). IfOk c.clear.result (λ u. IsApplied l (told.clear xs) c.args.world.now c.args.proof.now c.clear.new.world c.clear.new.proof)) c.as_slice-in-Clear.ensures
    (at_label (λ m. IsApplied m (told.clear c.as_slice-in-Clear.result.now) c.args.world.now c.args.proof.now c.clear.new.world c.clear.new.proof) c.clear.result l c.clear.ensures.applied))

pub returns-in-Clear-clause-refused : goal.returns-in-Clear-clause-refused
returns-in-Clear-clause-refused g c fault e =
    let l = given_label (option_copied c.args.label) in
    rw c.in-Clear.is
    (subst (λ (xs : List (List ℕ)). IsRefused l (told.clear xs) c.args.world.now c.args.proof.now fault) c.as_slice-in-Clear.ensures (c.clear.ensures.refused fault e l))

pub returns-in-Rename-clause-owes : goal.returns-in-Rename-clause-owes
returns-in-Rename-clause-owes g c = rw c.in-Rename.is (whatever c.rename.result (λ s rest e. c.rename.ensures.follows.owes))

pub returns-in-Rename-clause-applied : goal.returns-in-Rename-clause-applied
returns-in-Rename-clause-applied g c =
    let l = given_label (option_copied c.args.label) in
    rw c.in-Rename.is (at_label (λ m. IsApplied m (told.rename c.in-Rename.name c.in-Rename.to) c.args.world.now c.args.proof.now c.rename.new.world c.rename.new.proof) c.rename.result l c.rename.ensures.applied)

pub returns-in-Rename-clause-refused : goal.returns-in-Rename-clause-refused
returns-in-Rename-clause-refused g c fault e = rw c.in-Rename.is (c.rename.ensures.refused fault e (given_label (option_copied c.args.label)))

pub returns-in-Exists-clause-owes : goal.returns-in-Exists-clause-owes
returns-in-Exists-clause-owes g c = rw c.in-Exists.is (whatever c.exists.result (λ s rest e. c.exists.ensures.follows.owes))

pub returns-in-Exists-clause-applied : goal.returns-in-Exists-clause-applied
returns-in-Exists-clause-applied g c =
    let l = given_label (option_copied c.args.label) in
    rw c.in-Exists.is (at_label (λ m. IsApplied m (told.exists (tree_of c.in-Exists.term)) c.args.world.now c.args.proof.now c.exists.new.world c.exists.new.proof) c.exists.result l c.exists.ensures.applied)

pub returns-in-Exists-clause-refused : goal.returns-in-Exists-clause-refused
returns-in-Exists-clause-refused g c fault e = rw c.in-Exists.is (c.exists.ensures.refused fault e (given_label (option_copied c.args.label)))

pub returns-in-Assert-clause-owes : goal.returns-in-Assert-clause-owes
returns-in-Assert-clause-owes g c = rw c.in-Assert.is (whatever c.assert.result (λ s rest e. c.assert.ensures.follows.owes))

pub returns-in-Assert-clause-applied : goal.returns-in-Assert-clause-applied
returns-in-Assert-clause-applied g c =
    rw c.in-Assert.is
    (subst (λ (m : Label). IfOk c.assert.result (λ u. IsApplied m (told.assert (tree_of c.in-Assert.formula)) c.args.world.now c.args.proof.now c.assert.new.world c.assert.new.proof)) c.in_ok-wanted.ensures
    c.assert.ensures.applied)

pub returns-in-Assert-clause-refused : goal.returns-in-Assert-clause-refused
returns-in-Assert-clause-refused g c fault e =
    rw c.in-Assert.is
    (subst (λ (m : Label). IsRefused m (told.assert (tree_of c.in-Assert.formula)) c.args.world.now c.args.proof.now fault) c.in_ok-wanted.ensures (c.assert.ensures.refused fault e))

pub returns-in-Permute-clause-owes : goal.returns-in-Permute-clause-owes
returns-in-Permute-clause-owes g c = rw c.in-Permute.is (whatever c.permute.result (λ s rest e. c.permute.ensures.follows.owes))

pub returns-in-Permute-clause-applied : goal.returns-in-Permute-clause-applied
returns-in-Permute-clause-applied g c =
    let l = given_label (option_copied c.args.label) in
    rw c.in-Permute.is
    (subst (λ (xs : List ℕ). IfOk c.permute.result (λ u. IsApplied l (told.permute xs c.in-Permute.name) c.args.world.now c.args.proof.now c.permute.new.world c.permute.new.proof)) c.as_slice-order.ensures
    (subst (λ (x : Option (List ℕ)). IfOk c.permute.result (λ u. IsApplied l (told.permute c.as_slice-order.result.now x) c.args.world.now c.args.proof.now c.permute.new.world c.permute.new.proof)) c.as_ref.ensures.value
    (at_label (λ m. IsApplied m (told.permute c.as_slice-order.result.now (option_copied c.as_ref.result)) c.args.world.now c.args.proof.now c.permute.new.world c.permute.new.proof) c.permute.result l c.permute.ensures.applied)))

pub returns-in-Permute-clause-refused : goal.returns-in-Permute-clause-refused
returns-in-Permute-clause-refused g c fault e =
    let l = given_label (option_copied c.args.label) in
    rw c.in-Permute.is
    (subst (λ (xs : List ℕ). IsRefused l (told.permute xs c.in-Permute.name) c.args.world.now c.args.proof.now fault) c.as_slice-order.ensures
    (subst (λ (x : Option (List ℕ)). IsRefused l (told.permute c.as_slice-order.result.now x) c.args.world.now c.args.proof.now fault) c.as_ref.ensures.value
    (c.permute.ensures.refused fault e l)))

pub returns-in-Apply-clause-owes : goal.returns-in-Apply-clause-owes
returns-in-Apply-clause-owes g c = rw c.in-Apply.is c.apply.ensures.owes

pub returns-in-Apply-clause-applied : goal.returns-in-Apply-clause-applied
returns-in-Apply-clause-applied g c =
    let name = c.in-Apply.name in
    let l = given_label (option_copied c.args.label) in
    let done = λ (m : Label) (vs : List Argument) (is : List Instance). IfOk c.apply.result (λ u. IsApplied m (told.apply name (map argument_of vs) (map instance_of is)) c.args.world.now c.args.proof.now c.apply.new.world c.apply.new.proof) in
    rw c.in-Apply.is
    (subst (λ (vs : List Argument). done l vs (list_of c.in-Apply.given)) c.as_slice-list.ensures
    (subst (λ (is : List Instance). done l c.as_slice-list.result.now is) c.as_slice-terms.ensures
    (subst (λ (m : Label). done m c.as_slice-list.result.now c.as_slice-terms.result.now) c.in_ok-wanted.ensures
    c.apply.ensures.applied)))

pub returns-in-Apply-clause-refused : goal.returns-in-Apply-clause-refused
returns-in-Apply-clause-refused g c fault e =
    let name = c.in-Apply.name in
    let l = given_label (option_copied c.args.label) in
    let refused = λ (m : Label) (vs : List Argument) (is : List Instance). IsRefused m (told.apply name (map argument_of vs) (map instance_of is)) c.args.world.now c.args.proof.now fault in
    rw c.in-Apply.is
    (subst (λ (vs : List Argument). refused l vs (list_of c.in-Apply.given)) c.as_slice-list.ensures
    (subst (λ (is : List Instance). refused l c.as_slice-list.result.now is) c.as_slice-terms.ensures
    (subst (λ (m : Label). refused m c.as_slice-list.result.now c.as_slice-terms.result.now) c.in_ok-wanted.ensures
    (c.apply.ensures.refused fault e))))

pub returns-in-Backchain-clause-owes : goal.returns-in-Backchain-clause-owes
returns-in-Backchain-clause-owes g c = rw c.in-Backchain.is c.backchain.ensures.owes

pub returns-in-Backchain-clause-applied : goal.returns-in-Backchain-clause-applied
returns-in-Backchain-clause-applied g c =
    let l = given_label (option_copied c.args.label) in
    let name = c.in-Backchain.name in
    rw c.in-Backchain.is
    (subst (λ (is : List Instance). IfOk c.backchain.result (λ u. IsApplied l (told.backchain name (map instance_of is)) c.args.world.now c.args.proof.now c.backchain.new.world c.backchain.new.proof)) c.as_slice-in-Backchain.ensures
    (at_label (λ m. IsApplied m (told.backchain name (map instance_of c.as_slice-in-Backchain.result.now)) c.args.world.now c.args.proof.now c.backchain.new.world c.backchain.new.proof) c.backchain.result l c.backchain.ensures.applied))

pub returns-in-Backchain-clause-refused : goal.returns-in-Backchain-clause-refused
returns-in-Backchain-clause-refused g c fault e =
    let l = given_label (option_copied c.args.label) in
    rw c.in-Backchain.is
    (subst (λ (is : List Instance). IsRefused l (told.backchain c.in-Backchain.name (map instance_of is)) c.args.world.now c.args.proof.now fault) c.as_slice-in-Backchain.ensures (c.backchain.ensures.refused fault e l))

pub returns-in-Skip-clause-owes : goal.returns-in-Skip-clause-owes
returns-in-Skip-clause-owes g c = rw c.in-Skip.is c.skip.ensures.owes

pub returns-in-Skip-clause-applied : goal.returns-in-Skip-clause-applied
returns-in-Skip-clause-applied g c =
    let l = given_label (option_copied c.args.label) in
    rw c.in-Skip.is (at_label (λ m. IsApplied m told.skip c.args.world.now c.args.proof.now c.skip.new.world c.skip.new.proof) c.skip.result l c.skip.ensures.applied)

pub returns-in-Skip-clause-refused : goal.returns-in-Skip-clause-refused
returns-in-Skip-clause-refused g c fault e = rw c.in-Skip.is (c.skip.ensures.refused fault e (given_label (option_copied c.args.label)))

pub returns-in-Cut-clause-owes : goal.returns-in-Cut-clause-owes
returns-in-Cut-clause-owes g c = rw c.in-Cut.is (whatever c.cut.result (λ s rest e. c.cut.ensures.follows.owes))

pub returns-in-Cut-clause-applied : goal.returns-in-Cut-clause-applied
returns-in-Cut-clause-applied g c =
    rw c.in-Cut.is
    (subst (λ (m : Label). IfOk c.cut.result (λ u. IsApplied m (told.cut c.in-Cut.name c.in-Cut.other) c.args.world.now c.args.proof.now c.cut.new.world c.cut.new.proof)) c.in_ok-wanted.ensures
    c.cut.ensures.applied)

pub returns-in-Cut-clause-refused : goal.returns-in-Cut-clause-refused
returns-in-Cut-clause-refused g c fault e =
    rw c.in-Cut.is
    (subst (λ (m : Label). IsRefused m (told.cut c.in-Cut.name c.in-Cut.other) c.args.world.now c.args.proof.now fault) c.in_ok-wanted.ensures (c.cut.ensures.refused fault e))

pub returns-in-Inst-clause-owes : goal.returns-in-Inst-clause-owes
returns-in-Inst-clause-owes g c = rw c.in-Inst.is (whatever c.inst.result (λ s rest e. c.inst.ensures.follows.owes))

pub returns-in-Inst-clause-applied : goal.returns-in-Inst-clause-applied
returns-in-Inst-clause-applied g c =
    let l = given_label (option_copied c.args.label) in
    let done = λ (m : Label) (is : List Instance). IfOk c.inst.result (λ u. IsApplied m (told.inst c.in-Inst.name (map instance_of is)) c.args.world.now c.args.proof.now c.inst.new.world c.inst.new.proof) in
    rw c.in-Inst.is
    (subst (λ (is : List Instance). done l is) c.as_slice-in-Inst.ensures
    (subst (λ (m : Label). done m c.as_slice-in-Inst.result.now) c.in_ok-wanted.ensures c.inst.ensures.applied))

pub returns-in-Inst-clause-refused : goal.returns-in-Inst-clause-refused
returns-in-Inst-clause-refused g c fault e =
    let l = given_label (option_copied c.args.label) in
    let refused = λ (m : Label) (is : List Instance). IsRefused m (told.inst c.in-Inst.name (map instance_of is)) c.args.world.now c.args.proof.now fault in
    rw c.in-Inst.is
    (subst (λ (is : List Instance). refused l is) c.as_slice-in-Inst.ensures
    (subst (λ (m : Label). refused m c.as_slice-in-Inst.result.now) c.in_ok-wanted.ensures (c.inst.ensures.refused fault e)))

pub returns-in-Monotone-clause-owes : goal.returns-in-Monotone-clause-owes
returns-in-Monotone-clause-owes g c = rw c.in-Monotone.is (whatever c.monotone.result (λ s rest e. c.monotone.ensures.follows.owes))

pub returns-in-Monotone-clause-applied : goal.returns-in-Monotone-clause-applied
returns-in-Monotone-clause-applied g c =
    rw c.in-Monotone.is
    (subst (λ (m : Label). IfOk c.monotone.result (λ u. IsApplied m (told.monotone c.in-Monotone.name (tree_of c.in-Monotone.list)) c.args.world.now c.args.proof.now c.monotone.new.world c.monotone.new.proof)) c.in_ok-wanted.ensures
    c.monotone.ensures.applied)

pub returns-in-Monotone-clause-refused : goal.returns-in-Monotone-clause-refused
returns-in-Monotone-clause-refused g c fault e =
    rw c.in-Monotone.is
    (subst (λ (m : Label). IsRefused m (told.monotone c.in-Monotone.name (tree_of c.in-Monotone.list)) c.args.world.now c.args.proof.now fault) c.in_ok-wanted.ensures (c.monotone.ensures.refused fault e))
