use Rattle.std.proofs.Common.{length, refl, ap, ◌∙◌, ◌∷◌, []}
use Rattle.std.proofs.lemmas.List.{length-append}
use Rattle.ab_infer.proofs.Grounds.{ground_more}
use Rattle.ab_infer.proofs.signs.meet_sign.Goals as goal

pub returns-in_ok-put-in-Some-clause-meets : goal.returns-in_ok-put-in-Some-clause-meets
returns-in_ok-put-in-Some-clause-meets c = record {
  head = c.in-Some.head;
  type = c.in-Some.ty;
  connective = rw c.in-Some.is at (c.in_ok-head.ensures.head c.args.store.now.cells);
  puts = c.in_ok-put-in-Some.ensures;
}

pub returns-in_ok-push-in-None-clause-meets : goal.returns-in_ok-push-in-None-clause-meets
returns-in_ok-push-in-None-clause-meets c = record {
  equation = rw c.in-None.is at (c.in_ok-head.ensures.head c.args.store.now.cells);
  node_is = c.len-node.ensures ∙ c.args.row.now.variables.ok.0;
  steps = refl;
  marks = refl;
  names = refl;
  variables = ap length c.in_ok-push-in-None.ensures.items ∙ length-append c.args.row.now.variables.items (c.args.place ∷ []);
  bound = refl;
}

pub returns-in_err-head-clause-ground : goal.returns-in_err-head-clause-ground
returns-in_err-head-clause-ground c = ground_more c.args.types.now c.connective.new.types c.connective.ensures.adds c.args.store.now c.args.formulas c.args.scope.now c.connective.ensures.table c.requires

pub returns-in_err-put-in-Some-clause-ground : goal.returns-in_err-put-in-Some-clause-ground
returns-in_err-put-in-Some-clause-ground c = ground_more c.args.types.now c.connective.new.types c.connective.ensures.adds c.args.store.now c.args.formulas c.args.scope.now c.connective.ensures.table c.requires

pub returns-in_err-push-in-None-clause-ground : goal.returns-in_err-push-in-None-clause-ground
returns-in_err-push-in-None-clause-ground c = ground_more c.args.types.now c.connective.new.types c.connective.ensures.adds c.args.store.now c.args.formulas c.args.scope.now c.connective.ensures.table c.requires

pub returns-in_ok-put-in-Some-clause-ground : goal.returns-in_ok-put-in-Some-clause-ground
returns-in_ok-put-in-Some-clause-ground c = ground_more c.args.types.now c.connective.new.types c.connective.ensures.adds c.args.store.now c.args.formulas c.args.scope.now c.connective.ensures.table c.requires

pub returns-in_ok-push-in-None-clause-ground : goal.returns-in_ok-push-in-None-clause-ground
returns-in_ok-push-in-None-clause-ground c = ground_more c.args.types.now c.connective.new.types c.connective.ensures.adds c.args.store.now c.args.formulas c.args.scope.now c.connective.ensures.table c.requires
