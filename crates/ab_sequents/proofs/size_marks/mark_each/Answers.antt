use Rattle.std.specs.Prelude.{drop}
use Rattle.std.proofs.Common.{◌≤◌, ◌++◌, length, map, sym, ap, ◌∙◌, append-nil, arith}
use Rattle.std.proofs.lemmas.List.{drop_all, drop-map}
use Rattle.std.proofs.lemmas.List.Elements.{All-push, All-weaker}
use Rattle.ab_norm.specs.ab_store.specs.Trees.{Holds, tree_of}
use Rattle.ab_norm.proofs.Frame.{adds_on}
use Rattle.ab_logic.specs.Forms.{sign_of}
use Rattle.ab_sequents.specs.Kinds.{marked_by}
use Rattle.ab_sequents.proofs.PartSizes.{marked_step, marked_end, marked_none}
use Rattle.ab_sequents.proofs.size_marks.mark_each.Goals as goal

pub loop-index-preserved : goal.loop-index-preserved
loop-index-preserved c =
    let before = c.loop-index.invariant in
    let made = c.in_ok-mark_under.ensures in
    record {
      adds = adds_on c.args.store.now c.loop-index.store c.mark_under.new.store before.adds made.adds;
      held = rw c.in_ok-push.ensures.items (All-push (Holds c.mark_under.new.store) c.loop-index.made.items c.in_ok-mark_under.field-0 (All-weaker (Holds c.loop-index.store) (Holds c.mark_under.new.store) made.adds.before.ids c.loop-index.made.items before.held) made.held);
      reads = λ types.
          marked_step types c.args.store.now c.loop-index.store c.mark_under.new.store c.args.kind c.args.places.now (sign_of c.args.sign) c.in-Some.part c.args.parts.now c.loop-index.made.items c.push.new.self.items
          c.loop-index.index (record { 0 = 0 }) c.in_ok-mark_under.field-0 before.adds made.adds c.requires before.held (omega arith) (sym c.part_at.ensures ∙ c.in-Some.is) (made.reads types) c.in_ok-push.ensures.items
          ∙ before.reads types;
    }

pub returns-in_default-clause-reads : goal.returns-in_default-clause-reads
returns-in_default-clause-reads c types =
    let made = map (tree_of types c.loop-index.store) c.loop-index.made.items in
    let left = drop c.loop-index.index (map (tree_of types c.args.store.now) c.args.parts.now) in
    sym (append-nil made)
    ∙ ap (λ Fs. made ++ Fs) (sym (marked_end c.args.kind c.args.places.now c.loop-index.index (sign_of c.args.sign) left (sym c.part_at.ensures ∙ c.in_default.is)))
    ∙ c.loop-index.invariant.reads types

pub returns-in_err-mark_under-clause-adds : goal.returns-in_err-mark_under-clause-adds
returns-in_err-mark_under-clause-adds c = adds_on c.args.store.now c.loop-index.store c.mark_under.new.store c.loop-index.invariant.adds c.in_err-mark_under.ensures.adds

pub returns-in_err-push-clause-adds : goal.returns-in_err-push-clause-adds
returns-in_err-push-clause-adds c = adds_on c.args.store.now c.loop-index.store c.mark_under.new.store c.loop-index.invariant.adds c.in_ok-mark_under.ensures.adds

pub returns-clause-reads : goal.returns-clause-reads
returns-clause-reads c types =
    let f = tree_of types c.args.store.now in
    let made = map (tree_of types c.loop-index.store) c.loop-index.made.items in
    let ended : length c.args.parts.now ≤ c.loop-index.index = omega arith in
    sym (append-nil made)
    ∙ ap (λ Fs. made ++ Fs)
    (sym (ap (marked_by c.args.kind (drop c.loop-index.index c.args.places.now) (sign_of c.args.sign)) (drop-map f c.loop-index.index c.args.parts.now ∙ ap (map f) (drop_all c.loop-index.index c.args.parts.now ended))
    ∙ marked_none c.args.kind (drop c.loop-index.index c.args.places.now) (sign_of c.args.sign)))
    ∙ c.loop-index.invariant.reads types
