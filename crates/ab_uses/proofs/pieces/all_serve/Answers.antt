use Rattle.std.proofs.Common.{◌≡◌, ◌≢◌, ◌<◌, ◌≤◌, ◌+◌, suc, ◌-◌, length, map, drop, drop_of_length-le, get_or, List, [], ◌∷◌, ℕ, zero, refl, Option, rules, sym, ap, subst, ◌∙◌, arith, None}
use Rattle.std.specs.Option.{option_map}
use Rattle.ab_logic.specs.Worlds.{read}
use Rattle.ab_norm.specs.ab_types.specs.Ids.{type_of}
use Rattle.ab_theory.specs.Pieces.{pieces, universal_of, nabla_of, AllServe}
use Rattle.ab_uses.specs.Layers.{hint_of}
use Rattle.ab_uses.proofs.Layers.{pieces_under, pieces_within}
use Rattle.ab_uses.proofs.Serving.{same_serve, none_serves, none_given_serves, further_serve}
use Rattle.ab_norm.specs.ab_store.specs.declared.node.TermId.{TermId}
use Rattle.ab_term.specs.Terms.{Read}
use Rattle.ab_uses.proofs.pieces.all_serve.Goals as goal
use Rattle.ab_uses.proofs.pieces.all_serve.Goals.{then-left-eq0-via-then-left-eq0, then-left-eq0-via-else-left-eq0+then-done-hypotheses}

listed : (f : Option TermId → Option Read) (hs : List (Option TermId)) (i : ℕ) → i < length hs → map f (drop i hs) ≡ f (get_or hs i None) ∷ map f (drop (suc i) hs)
listed f [] i within = absurd (omega (arith, within))
listed f (h ∷ hs) zero within = refl
listed f (h ∷ hs) (suc i) within = listed f hs i (omega (arith, within))

pub layers-preserved-in-Universal : goal.layers-preserved-in-Universal
layers-preserved-in-Universal c =
    let k = c.layers.invariant in
    let arm = c.in-Universal in
    let w = c.args.world.now in
    let left = c.layers.left in
    let hs = map (option_map (read w)) (drop c.layers.done c.args.hypotheses.now) in
    let same = same_serve (read w c.layers.rest) left (universal_of (hint_of (read w arm.field-1)) (type_of w.types arm.field-0) ∷ pieces left (read w arm.inner)) hs
    (pieces_under (read w c.layers.rest) left (hint_of (read w arm.field-1)) (type_of w.types arm.field-0) (read w arm.inner) (arm.ensures.reads w.types)) in
    record {
      held = omega (arith, k.held, arm.ensures.below.1);
      within = k.within;
      same = (λ all. k.same.0 (same.1 all), λ all. same.0 (k.same.1 all));
    }

pub layers-preserved-in-Nabla : goal.layers-preserved-in-Nabla
layers-preserved-in-Nabla c =
    let k = c.layers.invariant in
    let arm = c.in-Nabla in
    let w = c.args.world.now in
    let left = c.layers.left in
    let hs = map (option_map (read w)) (drop c.layers.done c.args.hypotheses.now) in
    let same = same_serve (read w c.layers.rest) left (nabla_of (type_of w.types arm.field-0) ∷ pieces left (read w arm.inner)) hs
    (pieces_within (read w c.layers.rest) left (type_of w.types arm.field-0) (read w arm.inner) (arm.ensures.reads w.types)) in
    record {
      held = omega (arith, k.held, arm.ensures.below);
      within = k.within;
      same = (λ all. k.same.0 (same.1 all), λ all. same.0 (k.same.1 all));
    }

pub returns-then-left-eq0 : goal.returns-then-left-eq0
returns-then-left-eq0 c =
    let arm = c.in-Implication in
    let w = c.args.world.now in
    let F = read w c.layers.rest in
    let left = c.layers.left in
    let f = option_map (read w) in
    let rest = drop c.layers.done c.args.hypotheses.now in
    let e = arm.ensures.reads w.types in
    let serves : AllServe (pieces left F) (map f rest) = elim c.then-left-eq0.branch [
      | then-left-eq0-via-then-left-eq0 v ↦ none_serves F (read w arm.antecedent) (read w arm.behind) e left (map f rest) v.if-left-eq0.true
      | then-left-eq0-via-else-left-eq0+then-done-hypotheses v ↦
          let empty : map f rest ≡ [] = let end : length c.args.hypotheses.now ≤ c.layers.done = omega (arith, v.if-done-hypotheses.true) in ap (map f) (drop_of_length-le c.args.hypotheses.now end) in
          subst (AllServe (pieces left F)) (sym empty) (none_given_serves F (read w arm.antecedent) (read w arm.behind) e left)
    ] in
    record { serve = (λ t. c.layers.invariant.same.0 serves, λ all. search rules) }

pub layers-preserved : goal.layers-preserved
layers-preserved c =
    let k = c.layers.invariant in
    let arm = c.in-Implication in
    let w = c.args.world.now in
    let f = option_map (read w) in
    let hs = c.args.hypotheses.now in
    let left = c.layers.left in
    let done = c.layers.done in
    let is : left ≡ suc (left - 1) = omega (arith, c.if-left-eq0.false) in
    let other : left - 1 ≢ 0 = omega (arith, c.if-left-eq0.false, c.if-left-eq1.false) in
    let within : done < length hs = omega (arith, k.within, c.if-done-hypotheses.false) in
    let list : map f (drop done hs) ≡ f (get_or hs done None) ∷ map f (drop (done + 1) hs) = let more : suc done ≡ done + 1 = omega arith in listed f hs done within ∙ ap (λ j. f (get_or hs done None) ∷ map f (drop j hs)) more in
    let first = c.serves.ensures in
    let further = further_serve (read w c.layers.rest) (read w arm.antecedent) (read w arm.behind) (arm.ensures.reads w.types) left (left - 1) (f (get_or hs done None)) (map f (drop (done + 1) hs)) is other (first.serve.0 c.if-not-serves.false) in
    record {
      held = omega (arith, k.held, arm.ensures.below.1);
      within = omega (arith, within);
      same = (λ all. k.same.0 (subst (AllServe (pieces left (read w c.layers.rest))) (sym list) (further.1 all)), λ all. further.0 (subst (AllServe (pieces left (read w c.layers.rest))) list (k.same.1 all)));
    }
