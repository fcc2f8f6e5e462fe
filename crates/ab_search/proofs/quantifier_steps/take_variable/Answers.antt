use Rattle.std.proofs.Common.{List, sym, subst}
use Rattle.std.specs.List.{All}
use Rattle.std.specs.Prelude.{IfSome}
use Rattle.ab_norm.specs.Nominals.{HoldsNominal}
use Rattle.ab_norm.proofs.Changed.{always_ok}
use Rattle.ab_logic.specs.Worlds.{HoldsCell}
use Rattle.ab_logic.specs.declared.world.World.{World}
use Rattle.ab_steps.specs.ab_kernel.specs.Layout.{Held, IsProof}
use Rattle.ab_steps.specs.ab_kernel.specs.ab_judgements.specs.ab_alternatives.specs.ab_instances.proofs.Made.{names_held}
use Rattle.ab_steps.specs.ab_kernel.proofs.Later.{still_proof}
use Rattle.ab_steps.specs.Progress.{Follows}
use Rattle.ab_search_paths.specs.MoreTerms.{GotTerms}
use Rattle.ab_search_paths.specs.Paths.{AreStandIns}
use Rattle.ab_search_paths.specs.declared.likeness.StandIn.{StandIn}
use Rattle.ab_search.proofs.MadeBeside.{only_made, made_first, made_last, gave_made_first, gave_made_last}
use Rattle.ab_search_paths.proofs.Staying.{stand_ins_then}
use Rattle.ab_search.proofs.quantifier_steps.take_variable.Goals as goal

-- a step, once terms were added
taken : (w v u : World) (p q : Held) → IsProof w p → GotTerms w v → Follows v p u q → Follows w p u q
taken w v u p q proof got then = made_first w v u p q proof got.grows got.declared then

kept : (w v u : World) (p q : Held) (list : List StandIn) → IsProof w p → GotTerms w v → Follows v p u q → AreStandIns w list → AreStandIns u list
kept w v u p q list proof got then are =
    let f = taken w v u p q proof got then in
    stand_ins_then w u f.grows f.declared list are

pub returns-in_err-given-clause-follows : goal.returns-in_err-given-clause-follows
returns-in_err-given-clause-follows g c =
    let got = c.reordered_at.ensures.got in
    only_made c.args.world.now c.reordered_at.new.world c.args.proof.now c.requires.proof got.grows got.declared

pub returns-in_err-given-clause-stand_ins : goal.returns-in_err-given-clause-stand_ins
returns-in_err-given-clause-stand_ins g c =
    let got = c.reordered_at.ensures.got in
    stand_ins_then c.args.world.now c.reordered_at.new.world got.grows got.declared c.args.stand_ins.now.items c.requires.stand_ins

pub take-requires-clause-proof : goal.take-requires-clause-proof
take-requires-clause-proof g c =
    let got = c.reordered_at.ensures.got in
    still_proof c.args.world.now c.reordered_at.new.world got.grows got.declared c.args.proof.now c.requires.proof

pub returns-in_err-take-clause-follows : goal.returns-in_err-take-clause-follows
returns-in_err-take-clause-follows g c = taken c.args.world.now c.reordered_at.new.world c.take.new.world c.args.proof.now c.take.new.proof c.requires.proof c.reordered_at.ensures.got c.take.ensures.follows

pub returns-in_err-take-clause-stand_ins : goal.returns-in_err-take-clause-stand_ins
returns-in_err-take-clause-stand_ins g c = kept c.args.world.now c.reordered_at.new.world c.take.new.world c.args.proof.now c.take.new.proof c.args.stand_ins.now.items c.requires.proof c.reordered_at.ensures.got c.take.ensures.follows c.requires.stand_ins

pub returns-in_default-clause-follows : goal.returns-in_default-clause-follows
returns-in_default-clause-follows g c = taken c.args.world.now c.reordered_at.new.world c.take.new.world c.args.proof.now c.take.new.proof c.requires.proof c.reordered_at.ensures.got c.take.ensures.follows

pub returns-in_default-clause-gave_way : goal.returns-in_default-clause-gave_way
returns-in_default-clause-gave_way g c = gave_made_first c.args.world.now c.reordered_at.new.world c.take.new.world c.args.proof.now c.take.new.proof c.args.place 1 c.requires.proof c.reordered_at.ensures.got.grows c.in_ok-take.ensures.taken

pub returns-in_default-clause-stand_ins : goal.returns-in_default-clause-stand_ins
returns-in_default-clause-stand_ins g c = kept c.args.world.now c.reordered_at.new.world c.take.new.world c.args.proof.now c.take.new.proof c.args.stand_ins.now.items c.requires.proof c.reordered_at.ensures.got c.take.ensures.follows c.requires.stand_ins

pub returns-in_err-variable-clause-follows : goal.returns-in_err-variable-clause-follows
returns-in_err-variable-clause-follows g c = taken c.args.world.now c.reordered_at.new.world c.take.new.world c.args.proof.now c.take.new.proof c.requires.proof c.reordered_at.ensures.got c.take.ensures.follows

pub returns-in_err-variable-clause-stand_ins : goal.returns-in_err-variable-clause-stand_ins
returns-in_err-variable-clause-stand_ins g c = kept c.args.world.now c.reordered_at.new.world c.take.new.world c.args.proof.now c.take.new.proof c.args.stand_ins.now.items c.requires.proof c.reordered_at.ensures.got c.take.ensures.follows c.requires.stand_ins

pub stand_in_by-requires-clause-stand_ins : goal.stand_in_by-requires-clause-stand_ins
stand_in_by-requires-clause-stand_ins g c = kept c.args.world.now c.reordered_at.new.world c.take.new.world c.args.proof.now c.take.new.proof c.args.stand_ins.now.items c.requires.proof c.reordered_at.ensures.got c.take.ensures.follows c.requires.stand_ins

pub stand_in_by-requires-clause-cell : goal.stand_in_by-requires-clause-cell
stand_in_by-requires-clause-cell g c =
    let f = taken c.args.world.now c.reordered_at.new.world c.take.new.world c.args.proof.now c.take.new.proof c.requires.proof c.reordered_at.ensures.got c.take.ensures.follows in
    f.grows.cell_ids c.in-Some.cell (subst (λ o. IfSome o (HoldsCell c.args.world.now)) c.in-Some.is c.requires.variable.0)

pub stand_in_by-requires-clause-constants : goal.stand_in_by-requires-clause-constants
stand_in_by-requires-clause-constants g c =
    let f = taken c.args.world.now c.reordered_at.new.world c.take.new.world c.args.proof.now c.take.new.proof c.requires.proof c.reordered_at.ensures.got c.take.ensures.follows in
    names_held c.args.world.now.types c.take.new.world.types f.grows.types c.args.constants.now c.requires.variable.1

pub stand_in_by-requires-clause-others : goal.stand_in_by-requires-clause-others
stand_in_by-requires-clause-others g c =
    let v = c.reordered_at.new.world in
    let u = c.take.new.world in
    subst (All (HoldsNominal u.types)) (sym c.deref-2.ensures.value) (names_held v.types u.types c.take.ensures.follows.grows.types c.in_ok-given.given.items c.in_ok-given.ensures.held)

pub returns-clause-follows : goal.returns-clause-follows
returns-clause-follows g c =
    let got = c.stand_in_by.ensures.got in
    made_last c.args.world.now c.take.new.world c.stand_in_by.new.world c.args.proof.now c.take.new.proof
    (taken c.args.world.now c.reordered_at.new.world c.take.new.world c.args.proof.now c.take.new.proof c.requires.proof c.reordered_at.ensures.got c.take.ensures.follows)
    got.grows got.declared

pub returns-clause-gave_way : goal.returns-clause-gave_way
returns-clause-gave_way g c =
    always_ok c.stand_in_by.result
    (gave_made_last c.args.world.now c.take.new.world c.stand_in_by.new.world c.args.proof.now c.take.new.proof c.args.place 1 c.take.ensures.follows.proof c.stand_in_by.ensures.got.grows
    (gave_made_first c.args.world.now c.reordered_at.new.world c.take.new.world c.args.proof.now c.take.new.proof c.args.place 1 c.requires.proof c.reordered_at.ensures.got.grows c.in_ok-take.ensures.taken))
