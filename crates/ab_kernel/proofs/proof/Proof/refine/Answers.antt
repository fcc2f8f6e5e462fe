use Rattle.std.specs.Prelude.{vec_capacity, slice_get, slice_set}
use Rattle.std.specs.List.{All}
use Rattle.std.proofs.Common.{◌≡◌, ◌-◌, ◌≤◌, Some, List, [], ◌∷◌, ◌++◌, refl, length, map, reverse, sym, ◌∙◌, ap, subst, arith, length-append}
use Rattle.std.proofs.lemmas.List.{length-map, reverse-append}
use Rattle.ab_formulas.specs.Sequents.{Sequent}
use Rattle.ab_logic.specs.SequentReadings.{sequent_of}
use Rattle.ab_logic.specs.Worlds.{declarations_of}
use Rattle.ab_rules.specs.RuleAnswers.{step_of}
use Rattle.ab_logic.specs.declared.world.World.{World}
use Rattle.ab_kernel.specs.declared.proof.Refinement.{Refinement}
use Rattle.ab_kernel.specs.declared.node.ProofNode.{ProofNode}
use Rattle.ab_kernel.proofs.proof.Proof.refine.Given.{Over}
use Rattle.ab_theory.specs.Derivations.{open_goals, debts_of, refined, History}
use Rattle.ab_kernel.specs.Nodes.{open_node, sequents_in}
use Rattle.ab_kernel.specs.Layout.{Held, StepAt, steps_in, made_by, owed_by, history_of, IsProof, Beyond}
use Rattle.ab_kernel.proofs.Hand.{at_hand, filled_node, put_is, Put, put, layers_after}
use Rattle.ab_kernel.proofs.Standing.{reads_now, as_many}
use Rattle.ab_kernel.proofs.Taking.{Taken, in_range, goal_taken, taken, room_after}
use Rattle.ab_kernel.proofs.Filling.{sequent_read}
use Rattle.ab_kernel.proofs.Later.{still_proof}
use Rattle.ab_kernel.proofs.Growing.{grown_after}
use Rattle.ab_kernel.proofs.Earlier.{beyond_one}
use Rattle.ab_kernel.proofs.Refines.{here, history_now, goal_sequent, refused, refuses, stuck, sticks, not_refused, not_stuck, by_rule, as_before, rule_now, proof_after}
use Rattle.ab_kernel.proofs.proof.Proof.refine.Goals as goal

pub overflow_sub-at : goal.overflow_sub-at
overflow_sub-at g c =
    let w = c.args.world.now in
    let inside = in_range w _ _ _ (history_of w c.args.self.now) c.args.place (c.self.invariant.stands w) (ap (history_of w) c.self.view_is) c.requires.place in
    omega arith

pub overflow_sub-at-2 : goal.overflow_sub-at-2
overflow_sub-at-2 g c =
    let w = c.args.world.now in
    let inside = in_range w _ _ _ (history_of w c.args.self.now) c.args.place (c.self.invariant.stands w) (ap (history_of w) c.self.view_is) c.requires.place in
    omega arith

pub index-node-requires : goal.index-node-requires
index-node-requires g c =
    let w = c.args.world.now in
    let inside = in_range w _ _ _ (history_of w c.args.self.now) c.args.place (c.self.invariant.stands w) (ap (history_of w) c.self.view_is) c.requires.place in
    omega arith

pub index-requires : goal.index-requires
index-requires g c =
    let w = c.args.world.now in
    let inside = in_range w _ _ _ (history_of w c.args.self.now) c.args.place (c.self.invariant.stands w) (ap (history_of w) c.self.view_is) c.requires.place in
    let hand = at_hand w c.self.inside.nodes.items c.self.inside.open.items (reverse c.self.inside.journal.items) c.args.place (c.len.result - 1 - c.args.place) c.index-node.result.now (c.self.invariant.stands w) c.self.invariant.layers (omega arith) c.index-node.ensures in
    let l = hand.within in omega arith

pub premises-requires-clause-held : goal.premises-requires-clause-held
premises-requires-clause-held g c =
    let w = c.args.world.now in
    let inside = in_range w _ _ _ (history_of w c.args.self.now) c.args.place (c.self.invariant.stands w) (ap (history_of w) c.self.view_is) c.requires.place in
    let h = here w c.self.inside.nodes.items c.self.inside.open.items (reverse c.self.inside.journal.items) c.args.self.now c.args.place (c.len.result - 1 - c.args.place) c.index-node.result.now c.index.result.now (c.self.invariant.stands w) c.self.view_is c.requires.proof (omega arith) c.index-node.ensures c.index.ensures in
    h.held

pub premises-requires-clause-sequent : goal.premises-requires-clause-sequent
premises-requires-clause-sequent g c =
    let w = c.args.world.now in
    let inside = in_range w _ _ _ (history_of w c.args.self.now) c.args.place (c.self.invariant.stands w) (ap (history_of w) c.self.view_is) c.requires.place in
    let h = here w c.self.inside.nodes.items c.self.inside.open.items (reverse c.self.inside.journal.items) c.args.self.now c.args.place (c.len.result - 1 - c.args.place) c.index-node.result.now c.index.result.now (c.self.invariant.stands w) c.self.view_is c.requires.proof (omega arith) c.index-node.ensures c.index.ensures in
    goal_sequent w c.args.self.now c.args.place (sequent_of w c.index.result.now.sequent) c.requires.world c.requires.proof h.is_goal

pub returns-in-Err-clause-refused : goal.returns-in-Err-clause-refused
returns-in-Err-clause-refused g c =
    let w = c.args.world.now in
    let v = c.premises.new.world in
    let inside = in_range w _ _ _ (history_of w c.args.self.now) c.args.place (c.self.invariant.stands w) (ap (history_of w) c.self.view_is) c.requires.place in
    let h = here w c.self.inside.nodes.items c.self.inside.open.items (reverse c.self.inside.journal.items) c.args.self.now c.args.place (c.len.result - 1 - c.args.place) c.index-node.result.now c.index.result.now (c.self.invariant.stands w) c.self.view_is c.requires.proof (omega arith) c.index-node.ensures c.index.ensures in
    refused w v c.index.result.now.sequent c.args.step c.args.place (history_of w c.args.self.now).tree h.is_goal c.in-Err.fault c.in-Err.ensures.answers

pub returns-in-Err-clause-refuses : goal.returns-in-Err-clause-refuses
returns-in-Err-clause-refuses g c =
    let w = c.args.world.now in
    let v = c.premises.new.world in
    let inside = in_range w _ _ _ (history_of w c.args.self.now) c.args.place (c.self.invariant.stands w) (ap (history_of w) c.self.view_is) c.requires.place in
    let h = here w c.self.inside.nodes.items c.self.inside.open.items (reverse c.self.inside.journal.items) c.args.self.now c.args.place (c.len.result - 1 - c.args.place) c.index-node.result.now c.index.result.now (c.self.invariant.stands w) c.self.view_is c.requires.proof (omega arith) c.index-node.ensures c.index.ensures in
    refuses w v c.index.result.now.sequent c.args.step c.args.place (history_of w c.args.self.now).tree h.is_goal c.in-Err.fault c.in-Err.ensures.answers

pub returns-in-Err-clause-stuck : goal.returns-in-Err-clause-stuck
returns-in-Err-clause-stuck g c =
    let w = c.args.world.now in
    let v = c.premises.new.world in
    let inside = in_range w _ _ _ (history_of w c.args.self.now) c.args.place (c.self.invariant.stands w) (ap (history_of w) c.self.view_is) c.requires.place in
    let h = here w c.self.inside.nodes.items c.self.inside.open.items (reverse c.self.inside.journal.items) c.args.self.now c.args.place (c.len.result - 1 - c.args.place) c.index-node.result.now c.index.result.now (c.self.invariant.stands w) c.self.view_is c.requires.proof (omega arith) c.index-node.ensures c.index.ensures in
    stuck w v c.index.result.now.sequent c.args.step c.args.place (history_of w c.args.self.now).tree h.is_goal c.in-Err.fault c.in-Err.ensures.answers

pub returns-in-Err-clause-sticks : goal.returns-in-Err-clause-sticks
returns-in-Err-clause-sticks g c =
    let w = c.args.world.now in
    let v = c.premises.new.world in
    let inside = in_range w _ _ _ (history_of w c.args.self.now) c.args.place (c.self.invariant.stands w) (ap (history_of w) c.self.view_is) c.requires.place in
    let h = here w c.self.inside.nodes.items c.self.inside.open.items (reverse c.self.inside.journal.items) c.args.self.now c.args.place (c.len.result - 1 - c.args.place) c.index-node.result.now c.index.result.now (c.self.invariant.stands w) c.self.view_is c.requires.proof (omega arith) c.index-node.ensures c.index.ensures in
    sticks w v c.index.result.now.sequent c.args.step c.args.place (history_of w c.args.self.now).tree h.is_goal c.in-Err.fault c.in-Err.ensures.answers

pub returns-in-Err-clause-proof : goal.returns-in-Err-clause-proof
returns-in-Err-clause-proof g c =
    let w = c.args.world.now in
    let v = c.premises.new.world in
    still_proof w v c.in-Err.ensures.grows c.in-Err.ensures.declared c.args.self.now c.requires.proof

pub returns-in-Err-prepare-clause-proof : goal.returns-in-Err-prepare-clause-proof
returns-in-Err-prepare-clause-proof g c =
    let w = c.args.world.now in
    let v = c.premises.new.world in
    let same : record { nodes = c.prepare.new.nodes.items; journal = reverse c.prepare.new.journal.items } ≡ c.args.self.now =
    ap (λ xs. record { nodes = xs; journal = reverse c.prepare.new.journal.items }) c.in-Err-prepare.ensures.err
    ∙ ap (λ js. record { nodes = c.self.inside.nodes.items; journal = reverse js }) c.prepare.ensures.journal
    ∙ c.self.view_is in
    subst (IsProof v) (sym same) (still_proof w v c.premises.ensures.grows c.premises.ensures.declared c.args.self.now c.requires.proof)

pub replace_goal-requires-clause-place : goal.replace_goal-requires-clause-place
replace_goal-requires-clause-place g c =
    let w = c.args.world.now in
    let inside = in_range w _ _ _ (history_of w c.args.self.now) c.args.place (c.self.invariant.stands w) (ap (history_of w) c.self.view_is) c.requires.place in
    omega (arith, ap length c.prepare.ensures.numbers)

pub fill_at-requires : goal.fill_at-requires
fill_at-requires g c =
    let w = c.args.world.now in
    let inside = in_range w _ _ _ (history_of w c.args.self.now) c.args.place (c.self.invariant.stands w) (ap (history_of w) c.self.view_is) c.requires.place in
    let hand = at_hand w c.self.inside.nodes.items c.self.inside.open.items (reverse c.self.inside.journal.items) c.args.place (c.len.result - 1 - c.args.place) c.index-node.result.now (c.self.invariant.stands w) c.self.invariant.layers (omega arith) c.index-node.ensures in
    let l = hand.within in
    omega (arith, ap length c.in-Ok-prepare.ensures.added, length-append c.self.inside.nodes.items (map open_node c.in-Ok.made.items))

-- the nodes after the step
whole : (g : Over) (c : goal.After-count_premises g) → c.fill_at.new.nodes.items
    ≡ slice_set c.self.inside.nodes.items c.index-node.result.now (filled_node c.self.inside.nodes.items c.index-node.result.now c.args.step c.in-Ok-prepare.children) ++ map open_node c.in-Ok.made.items
whole g c =
    let w = c.args.world.now in
    let inside = in_range w _ _ _ (history_of w c.args.self.now) c.args.place (c.self.invariant.stands w) (ap (history_of w) c.self.view_is) c.requires.place in
    let hand = at_hand w c.self.inside.nodes.items c.self.inside.open.items (reverse c.self.inside.journal.items) c.args.place (c.len.result - 1 - c.args.place) c.index-node.result.now (c.self.invariant.stands w) c.self.invariant.layers (omega arith) c.index-node.ensures in
    put_is c.self.inside.nodes.items c.prepare.new.nodes.items c.fill_at.new.nodes.items c.in-Ok.made.items c.index-node.result.now c.args.step c.in-Ok-prepare.children
    hand.within c.in-Ok-prepare.ensures.added c.fill_at.ensures

now_put : (g : Over) (c : goal.After-count_premises g) → Put c.self.inside.nodes.items (reverse c.self.inside.journal.items) c.args.place c.index-node.result.now c.len-count.result c.args.step c.in-Ok.made.items c.fill_at.new.nodes.items
now_put g c =
    let w = c.args.world.now in
    let inside = in_range w _ _ _ (history_of w c.args.self.now) c.args.place (c.self.invariant.stands w) (ap (history_of w) c.self.view_is) c.requires.place in
    let hand = at_hand w c.self.inside.nodes.items c.self.inside.open.items (reverse c.self.inside.journal.items) c.args.place (c.len.result - 1 - c.args.place) c.index-node.result.now (c.self.invariant.stands w) c.self.invariant.layers (omega arith) c.index-node.ensures in
    put c.self.inside.nodes.items c.fill_at.new.nodes.items c.self.inside.open.items (reverse c.self.inside.journal.items) c.in-Ok.made.items c.args.place (c.len.result - 1 - c.args.place) c.index-node.result.now c.len-count.result
    c.args.step c.in-Ok-prepare.children hand (omega arith) (whole g c)

journal : (g : Over) (c : goal.After-count_premises g) → reverse c.push_reserved.new.self.items ≡ record { place = c.args.place; node = c.index-node.result.now; premises = c.len-count.result } ∷ reverse c.self.inside.journal.items
journal g c =
    let r : Refinement = record { place = c.args.place; node = c.index-node.result.now; premises = c.len-count.result } in
    ap reverse (rw c.prepare.ensures.journal at c.push_reserved.ensures.items) ∙ reverse-append c.self.inside.journal.items (r ∷ [])

steps : (g : Over) (c : goal.After-count_premises g) → steps_in c.fill_at.new.nodes.items (reverse c.push_reserved.new.self.items)
    ≡ record { step = c.args.step; place = c.args.place; node = c.index-node.result.now; premises = c.len-count.result } ∷ steps_in c.self.inside.nodes.items (reverse c.self.inside.journal.items)
steps g c = ap (steps_in c.fill_at.new.nodes.items) (journal g c) ∙ (now_put g c).steps

-- the fields stand for the proof after the step
now : (g : Over) (c : goal.After-count_premises g) (u : World) (h : History) (s : Sequent)
    → made_by u (map (sequent_of u) (sequents_in c.self.inside.nodes.items)) (steps_in c.self.inside.nodes.items (reverse c.self.inside.journal.items)) ≡ h
    → slice_get (open_goals h.tree) c.args.place ≡ Some s
    → Taken u (map (sequent_of u) (sequents_in c.fill_at.new.nodes.items)) c.replace_goal.new.numbers.items (steps_in c.fill_at.new.nodes.items (reverse c.push_reserved.new.self.items)) c.args.place c.args.step c.len-count.result (map (sequent_of u) c.in-Ok.made.items) s h
now g c u h s is is_goal =
    let w = c.args.world.now in
    let inside = in_range w _ _ _ (history_of w c.args.self.now) c.args.place (c.self.invariant.stands w) (ap (history_of w) c.self.view_is) c.requires.place in
    let many = length-map c.self.inside.nodes.items (λ (n : ProofNode). n.sequent) in
    taken u (sequents_in c.self.inside.nodes.items) c.in-Ok.made.items (sequents_in c.fill_at.new.nodes.items) c.self.inside.open.items c.replace_goal.new.numbers.items
    (steps_in c.self.inside.nodes.items (reverse c.self.inside.journal.items)) (steps_in c.fill_at.new.nodes.items (reverse c.push_reserved.new.self.items))
    h c.args.place (c.len.result - 1 - c.args.place) c.index-node.result.now c.len-first.result c.len-count.result c.args.step s
    (c.self.invariant.stands u) is is_goal (omega arith) c.index-node.ensures (omega (arith, many)) (omega arith)
    (now_put g c).sequents (rw c.prepare.ensures.numbers at c.replace_goal.ensures.items) (steps g c)

now_at : (g : Over) (c : goal.After-count_premises g) (u : World)
    → Taken u (map (sequent_of u) (sequents_in c.fill_at.new.nodes.items)) c.replace_goal.new.numbers.items (steps_in c.fill_at.new.nodes.items (reverse c.push_reserved.new.self.items)) c.args.place c.args.step c.len-count.result (map (sequent_of u) c.in-Ok.made.items) (sequent_of u c.index.result.now.sequent) (history_of u c.args.self.now)
now_at g c u =
    let w = c.args.world.now in
    let inside = in_range w _ _ _ (history_of w c.args.self.now) c.args.place (c.self.invariant.stands w) (ap (history_of w) c.self.view_is) c.requires.place in
    now g c u (history_of u c.args.self.now) (sequent_of u c.index.result.now.sequent) (ap (history_of u) c.self.view_is)
    (goal_taken u _ _ _ (history_of u c.args.self.now) c.args.place (c.len.result - 1 - c.args.place) c.index-node.result.now c.index.result.now.sequent (c.self.invariant.stands u) (ap (history_of u) c.self.view_is) (omega arith) c.index-node.ensures
    (sequent_read c.self.inside.nodes.items c.index-node.result.now c.index.result.now c.index.ensures))

pub invariant_of-self-2 : goal.invariant_of-self-2
invariant_of-self-2 g c =
    let w = c.args.world.now in
    let inside = in_range w _ _ _ (history_of w c.args.self.now) c.args.place (c.self.invariant.stands w) (ap (history_of w) c.self.view_is) c.requires.place in
    let at = now_at g c in
    let counted : c.len-first.result ≡ length c.self.inside.nodes.items = omega arith in
    record {
      stands = λ u. (at u).stands;
      layers =
          rw (journal g c)
          (layers_after w c.self.inside.nodes.items c.fill_at.new.nodes.items c.self.inside.open.items c.replace_goal.new.numbers.items (reverse c.self.inside.journal.items) c.in-Ok.made.items
          c.args.place (c.len.result - 1 - c.args.place) c.index-node.result.now c.len-first.result c.len-count.result c.args.step c.in-Ok-prepare.children
          (c.self.invariant.stands w) c.self.invariant.layers (omega arith) c.index-node.ensures counted (omega arith) (whole g c) (rw c.prepare.ensures.numbers at c.replace_goal.ensures.items));
      grown = λ u.
          let r : Refinement = record { place = c.args.place; node = c.index-node.result.now; premises = c.len-count.result } in
          let tree_is : (history_of u (record { nodes = c.fill_at.new.nodes.items; journal = r ∷ reverse c.self.inside.journal.items })).tree
          ≡ refined c.args.place (step_of u c.args.step) (map (sequent_of u) c.in-Ok.made.items) (history_of u (record { nodes = c.self.inside.nodes.items; journal = reverse c.self.inside.journal.items })).tree =
          ap (λ (ks : List Refinement). (history_of u (record { nodes = c.fill_at.new.nodes.items; journal = ks })).tree) (sym (journal g c))
          ∙ ap (λ (h : History). h.tree) (at u).made
          ∙ ap (λ (p : Held). refined c.args.place (step_of u c.args.step) (map (sequent_of u) c.in-Ok.made.items) (history_of u p).tree) (sym c.self.view_is) in
          rw (journal g c)
          (grown_after u c.self.inside.nodes.items c.fill_at.new.nodes.items c.self.inside.open.items c.replace_goal.new.numbers.items (reverse c.self.inside.journal.items) c.in-Ok.made.items
          c.args.place (c.len.result - 1 - c.args.place) c.index-node.result.now c.len-first.result c.len-count.result c.args.step c.in-Ok-prepare.children
          (c.self.invariant.stands u) c.self.invariant.layers (omega arith) c.index-node.ensures counted (omega arith) c.in-Ok-prepare.ensures.children (whole g c) (rw c.prepare.ensures.numbers at c.replace_goal.ensures.items)
          tree_is (c.self.invariant.grown u));
      owed = λ u.
          c.in-Ok-prepare.ensures.noted u
          ∙ ap (λ ts. debts_of (step_of u c.args.step) ++ ts) (c.self.invariant.owed u)
          ∙ ap (owed_by u) (sym (steps g c));
      room = λ u.
          let many = as_many (reads_now u _ _ _ (c.self.invariant.stands u)) ∙ ap (λ p. length (open_goals (history_of u p).tree)) c.self.view_is in
          let old : All (λ d. length (open_goals d) ≤ vec_capacity c.self.inside.open) (history_of u c.args.self.now).earlier =
          subst (λ (p : Held). All (λ d. length (open_goals d) ≤ vec_capacity c.self.inside.open) (history_of u p).earlier) c.self.view_is (c.self.invariant.room u) in
          subst (λ (k : History). All (λ d. length (open_goals d) ≤ vec_capacity c.replace_goal.new.numbers) k.earlier) (sym (at u).made)
          (room_after (history_of u c.args.self.now) (vec_capacity c.self.inside.open) (vec_capacity c.replace_goal.new.numbers) old (omega arith)
          (omega (arith, many, c.in-Ok-prepare.ensures.numbers_room, c.replace_goal.ensures.capacity)));
    }

pub returns-clause-step : goal.returns-clause-step
returns-clause-step g c =
    let w = c.args.world.now in
    let v = c.premises.new.world in
    let inside = in_range w _ _ _ (history_of w c.args.self.now) c.args.place (c.self.invariant.stands w) (ap (history_of w) c.self.view_is) c.requires.place in
    let h = here w c.self.inside.nodes.items c.self.inside.open.items (reverse c.self.inside.journal.items) c.args.self.now c.args.place (c.len.result - 1 - c.args.place) c.index-node.result.now c.index.result.now (c.self.invariant.stands w) c.self.view_is c.requires.proof (omega arith) c.index-node.ensures c.index.ensures in
    let t = now g c v (history_of w c.args.self.now) (sequent_of w c.index.result.now.sequent) (history_now w v c.in-Ok.ensures.grows _ c.args.self.now c.self.view_is c.requires.proof) h.is_goal in
    let rule = by_rule w v c.index.result.now.sequent c.args.step c.in-Ok.made h.held c.in-Ok.ensures.answers in
    as_before w v c.in-Ok.ensures.grows c.in-Ok.ensures.declared c.args.self.now c.args.self.now c.requires.proof c.args.step c.requires.step (declarations_of w) c.args.place c.len-count.result (history_of w c.args.self.now) _
    (t.by_step (declarations_of w) (rule_now w v c.in-Ok.ensures.grows c.in-Ok.ensures.declared c.args.self.now c.args.self.now c.requires.proof c.args.step c.requires.step (declarations_of w) _ _ rule))

pub returns-clause-refuses : goal.returns-clause-refuses
returns-clause-refuses g c =
    let w = c.args.world.now in
    let v = c.premises.new.world in
    let inside = in_range w _ _ _ (history_of w c.args.self.now) c.args.place (c.self.invariant.stands w) (ap (history_of w) c.self.view_is) c.requires.place in
    let h = here w c.self.inside.nodes.items c.self.inside.open.items (reverse c.self.inside.journal.items) c.args.self.now c.args.place (c.len.result - 1 - c.args.place) c.index-node.result.now c.index.result.now (c.self.invariant.stands w) c.self.view_is c.requires.proof (omega arith) c.index-node.ensures c.index.ensures in
    λ i f. absurd (not_refused w v c.index.result.now.sequent c.args.step c.args.place (history_of w c.args.self.now).tree h.is_goal c.in-Ok.made c.in-Ok.ensures.answers i f)

pub returns-clause-sticks : goal.returns-clause-sticks
returns-clause-sticks g c =
    let w = c.args.world.now in
    let v = c.premises.new.world in
    let inside = in_range w _ _ _ (history_of w c.args.self.now) c.args.place (c.self.invariant.stands w) (ap (history_of w) c.self.view_is) c.requires.place in
    let h = here w c.self.inside.nodes.items c.self.inside.open.items (reverse c.self.inside.journal.items) c.args.self.now c.args.place (c.len.result - 1 - c.args.place) c.index-node.result.now c.index.result.now (c.self.invariant.stands w) c.self.view_is c.requires.proof (omega arith) c.index-node.ensures c.index.ensures in
    λ i f. absurd (not_stuck w v c.index.result.now.sequent c.args.step c.args.place (history_of w c.args.self.now).tree h.is_goal c.in-Ok.made c.in-Ok.ensures.answers i f)

pub returns-clause-proof : goal.returns-clause-proof
returns-clause-proof g c =
    let w = c.args.world.now in
    let v = c.premises.new.world in
    let inside = in_range w _ _ _ (history_of w c.args.self.now) c.args.place (c.self.invariant.stands w) (ap (history_of w) c.self.view_is) c.requires.place in
    let h = here w c.self.inside.nodes.items c.self.inside.open.items (reverse c.self.inside.journal.items) c.args.self.now c.args.place (c.len.result - 1 - c.args.place) c.index-node.result.now c.index.result.now (c.self.invariant.stands w) c.self.view_is c.requires.proof (omega arith) c.index-node.ensures c.index.ensures in
    let t = now g c v (history_of w c.args.self.now) (sequent_of w c.index.result.now.sequent) (history_now w v c.in-Ok.ensures.grows _ c.args.self.now c.self.view_is c.requires.proof) h.is_goal in
    let rule = by_rule w v c.index.result.now.sequent c.args.step c.in-Ok.made h.held c.in-Ok.ensures.answers in
    let q : Held = record { nodes = c.fill_at.new.nodes.items; journal = reverse c.push_reserved.new.self.items } in
    let sequents : sequents_in c.fill_at.new.nodes.items ≡ sequents_in c.args.self.now.nodes ++ c.in-Ok.made.items =
    (now_put g c).sequents ∙ ap (λ (p : Held). sequents_in p.nodes ++ c.in-Ok.made.items) c.self.view_is in
    let r : StepAt = record { step = c.args.step; place = c.args.place; node = c.index-node.result.now; premises = c.len-count.result } in
    let taken_steps : steps_in c.fill_at.new.nodes.items (reverse c.push_reserved.new.self.items) ≡ r ∷ steps_in c.args.self.now.nodes c.args.self.now.journal =
    steps g c ∙ ap (λ (p : Held). r ∷ steps_in p.nodes p.journal) c.self.view_is in
    proof_after w v c.in-Ok.ensures.grows c.in-Ok.ensures.declared c.args.self.now q c.requires.proof c.args.step c.requires.step c.in-Ok.made.items r c.args.place (sequent_of w c.index.result.now.sequent)
    t.made sequents taken_steps refl c.in-Ok.ensures.answers.1 h.is_goal rule

pub returns-clause-layout : goal.returns-clause-layout
returns-clause-layout g c =
    let r : Refinement = record { place = c.args.place; node = c.index-node.result.now; premises = c.len-count.result } in
    let js = reverse c.self.inside.journal.items in
    let was : Held = record { nodes = c.self.inside.nodes.items; journal = js } in
    let now : List Refinement → Held = λ ks. record { nodes = c.fill_at.new.nodes.items; journal = ks } in
    subst (λ (p : Held). Beyond p (now (reverse c.push_reserved.new.self.items))) c.self.view_is
    (subst (λ (ks : List Refinement). Beyond was (now ks)) (sym (journal g c))
    (beyond_one c.self.inside.nodes.items c.fill_at.new.nodes.items r js (now_put g c).before))
