use Rattle.std.proofs.lemmas.List.Elements.{All-weaker}
use Rattle.ab_logic.specs.Worlds.{Holds}
use Rattle.ab_search.proofs.MadeBeside.{made_last, gave_made_last}
use Rattle.ab_search_paths.proofs.Likenesses.{likeness_stays}
use Rattle.ab_search_paths.proofs.Parts.{pushed}
use Rattle.ab_search.proofs.assumed_rows.take_bound.Goals as goal

pub returns-in_err-last_variable_given-clause-follows : goal.returns-in_err-last_variable_given-clause-follows
returns-in_err-last_variable_given-clause-follows g c =
    let got = c.last_variable_given.ensures.got in
    made_last c.args.world.now c.take.new.world c.last_variable_given.new.world c.args.proof.now c.take.new.proof c.take.ensures.follows got.grows got.declared

pub returns-in_err-push-clause-follows : goal.returns-in_err-push-clause-follows
returns-in_err-push-clause-follows g c =
    let got = c.last_variable_given.ensures.got in
    made_last c.args.world.now c.take.new.world c.last_variable_given.new.world c.args.proof.now c.take.new.proof c.take.ensures.follows got.grows got.declared

pub returns-clause-follows : goal.returns-clause-follows
returns-clause-follows g c =
    let got = c.last_variable_given.ensures.got in
    made_last c.args.world.now c.take.new.world c.last_variable_given.new.world c.args.proof.now c.take.new.proof c.take.ensures.follows got.grows got.declared

pub returns-clause-gave_way : goal.returns-clause-gave_way
returns-clause-gave_way g c =
    gave_made_last c.args.world.now c.take.new.world c.last_variable_given.new.world c.args.proof.now c.take.new.proof c.args.place 1 c.take.ensures.follows.proof c.last_variable_given.ensures.got.grows
    c.in_ok-take.ensures.taken

pub returns-clause-terms : goal.returns-clause-terms
returns-clause-terms g c =
    let u = c.last_variable_given.new.world in
    let terms = c.args.taken.terms.items in
    pushed (Holds u) terms c.push.new.self.items c.in_ok-last_variable_given.field-0 c.in_ok-push.ensures.items
    (All-weaker (Holds c.args.world.now) (Holds u) (λ t h. c.last_variable_given.ensures.got.grows.ids t (c.take.ensures.follows.grows.ids t h)) terms c.requires.terms)
    c.in_ok-last_variable_given.ensures.held

pub last_variable_given-requires-clause-formula : goal.last_variable_given-requires-clause-formula
last_variable_given-requires-clause-formula g c =
    c.take.ensures.follows.grows.ids c.in_ok-formula.formula (c.in_ok-formula.ensures.held c.args.world.now c.requires.proof)

pub last_variable_given-requires-clause-like : goal.last_variable_given-requires-clause-like
last_variable_given-requires-clause-like g c =
    let like = c.args.like.now in
    likeness_stays c.args.world.now.types c.take.new.world.types c.take.ensures.follows.grows.types like.names.items like.targets.items c.requires.like
