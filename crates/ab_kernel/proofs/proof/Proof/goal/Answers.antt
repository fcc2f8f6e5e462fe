use Rattle.std.specs.Prelude.{slice_get}
use Rattle.std.specs.List.{All}
use Rattle.std.proofs.Common.{◌-◌, ◌<◌, ◌≤◌, length, map, Some, sym, ◌∙◌, ap, subst, arith}
use Rattle.std.proofs.lemmas.List.{length-map}
use Rattle.std.proofs.lemmas.Option.{slice_get_within, slice_get_past}
use Rattle.ab_logic.specs.SequentReadings.{sequent_of, HoldsSequent}
use Rattle.ab_theory.specs.Derivations.{open_goals}
use Rattle.ab_kernel.specs.Layout.{Held, history_of, held}
use Rattle.ab_kernel.specs.Nodes.{sequents_in}
use Rattle.ab_kernel.specs.declared.node.ProofNode.{ProofNode}
use Rattle.ab_kernel.proofs.Filling.{sequent_read}
use Rattle.ab_kernel.proofs.Standing.{reads_now, as_many, leads, kept_at, some_world}
use Rattle.ab_kernel.proofs.Refines.{held_at}
use Rattle.ab_kernel.proofs.proof.Proof.goal.Goals as goal

pub index-requires : goal.index-requires
index-requires c =
    let w = some_world in
    let found = leads c.args.place (c.len-then-place-len.result - 1 - c.args.place) c.index-node.result.now (reads_now w _ _ _ (c.self.invariant.stands w)) (omega arith) c.index-node.ensures in
    let inside : c.index-node.result.now < length (map (sequent_of w) (sequents_in c.self.inside.nodes.items)) = slice_get_within _ _ found.0 found.1 in
    omega (arith, inside, length-map (sequents_in c.self.inside.nodes.items) (sequent_of w), length-map c.self.inside.nodes.items (λ (n : ProofNode). n.sequent))

pub returns-then-place-len-clause-reads : goal.returns-then-place-len-clause-reads
returns-then-place-len-clause-reads c w =
    let found = leads c.args.place (c.len-then-place-len.result - 1 - c.args.place) c.index-node.result.now (reads_now w _ _ _ (c.self.invariant.stands w)) (omega arith) c.index-node.ensures in
    ap Some (kept_at w (sequents_in c.self.inside.nodes.items) c.index-node.result.now c.index.result.now.sequent found.0 found.1 (sequent_read c.self.inside.nodes.items c.index-node.result.now c.index.result.now c.index.ensures))
    ∙ sym found.2
    ∙ ap (λ p. slice_get (open_goals (history_of w p).tree) c.args.place) c.self.view_is

pub returns-else-place-len-clause-reads : goal.returns-else-place-len-clause-reads
returns-else-place-len-clause-reads c w =
    let counted = as_many (reads_now w _ _ _ (c.self.invariant.stands w)) in
    let past : length (open_goals (history_of w (held c.self.inside)).tree) ≤ c.args.place = omega (arith, counted) in
    sym (slice_get_past _ c.args.place past)
    ∙ ap (λ p. slice_get (open_goals (history_of w p).tree) c.args.place) c.self.view_is

pub returns-then-place-len-clause-held : goal.returns-then-place-len-clause-held
returns-then-place-len-clause-held c w proof =
    let items = sequents_in c.self.inside.nodes.items in
    let found = leads c.args.place (c.len-then-place-len.result - 1 - c.args.place) c.index-node.result.now (reads_now w _ _ _ (c.self.invariant.stands w)) (omega arith) c.index-node.ensures in
    let inside : c.index-node.result.now < length items = rw (sym (length-map items (sequent_of w))) (slice_get_within _ _ found.0 found.1) in
    held_at w items c.index-node.result.now c.index.result.now.sequent (subst (λ (q : Held). All (HoldsSequent w) (sequents_in q.nodes)) (sym c.self.view_is) proof.held.sequents)
    inside (sequent_read c.self.inside.nodes.items c.index-node.result.now c.index.result.now c.index.ensures)
