-- What is held before some of the steps that stand.
use Rattle.std.proofs.Common.{◌≡◌, ℕ, zero, suc, ◌+◌, ◌-◌, List, [], ◌∷◌, length, map, sym, ◌∙◌, ap, arith}
use Rattle.ab_logic.specs.SequentReadings.{sequent_of}
use Rattle.ab_logic.specs.declared.world.World.{World}
use Rattle.ab_kernel.specs.declared.node.ProofNode.{ProofNode}
use Rattle.ab_kernel.specs.declared.proof.Refinement.{Refinement}
use Rattle.ab_kernel.specs.Nodes.{sequents_in}
use Rattle.ab_kernel.specs.Layout.{Held, nodes_before, before_last, before_steps, Beyond, steps_in, history_of}
use Rattle.ab_kernel.proofs.Filling.{length-steps_in}
use Rattle.ab_kernel.proofs.Standing.{as_many_steps}

-- as many steps stand as there were derivations before this one
pub standing : (w : World) (p : Held) → length (history_of w p).earlier ≡ length p.journal
standing w p = as_many_steps w (map (sequent_of w) (sequents_in p.nodes)) (steps_in p.nodes p.journal) ∙ length-steps_in p.nodes p.journal

shorter_in : (nodes : List ProofNode) (js : List Refinement) → length (before_last (record { nodes = nodes; journal = js })).journal ≡ length js - 1
shorter_in nodes [] = omega arith
shorter_in nodes (r ∷ rs) = omega arith

pub shorter : (p : Held) → length (before_last p).journal ≡ length p.journal - 1
shorter p = shorter_in p.nodes p.journal

pub before_more : (p : Held) (n m : ℕ) → before_steps m (before_steps n p) ≡ before_steps (n + m) p
before_more p zero m = let e : m ≡ 0 + m = omega arith in ap (λ k. before_steps k p) e
before_more p (suc n) m =
    let e : suc (n + m) ≡ suc n + m = omega arith in
    before_more (before_last p) n m ∙ ap (λ k. before_steps k p) e

pub before_length : (p : Held) (n : ℕ) → length (before_steps n p).journal ≡ length p.journal - n
before_length p zero = omega arith
before_length p (suc n) =
    let rest = before_length (before_last p) n in
    let one = shorter p in
    omega (arith, rest, one)

pub beyond_none : (p : Held) → Beyond p p
beyond_none p = record {
  more = omega arith;
  back = let e : length p.journal - length p.journal ≡ 0 = omega arith in ap (λ n. before_steps n p) e;
}

pub beyond_one : (nodes new : List ProofNode) (r : Refinement) (js : List Refinement) → nodes_before r new ≡ nodes
    → Beyond (record { nodes = nodes; journal = js }) (record { nodes = new; journal = r ∷ js })
beyond_one nodes new r js again =
    let now : Held = record { nodes = new; journal = r ∷ js } in
    let with_nodes : List ProofNode → Held = λ ns. record { nodes = ns; journal = js } in
    record {
      more = omega arith;
      back = let e : suc (length js) - length js ≡ 1 = omega arith in ap (λ n. before_steps n now) e ∙ ap with_nodes again;
    }

pub beyond_on : (p q r : Held) → Beyond p q → Beyond q r → Beyond p r
beyond_on p q r a b =
    let i = a.more in
    let j = b.more in
    let sum : (length r.journal - length q.journal) + (length q.journal - length p.journal) ≡ length r.journal - length p.journal = omega arith in
    record {
      more = omega arith;
      back =
          ap (λ n. before_steps n r) (sym sum)
          ∙ sym (before_more r (length r.journal - length q.journal) (length q.journal - length p.journal))
          ∙ ap (before_steps (length q.journal - length p.journal)) b.back
          ∙ a.back;
    }
