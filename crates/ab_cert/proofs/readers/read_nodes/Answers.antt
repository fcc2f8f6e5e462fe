use Rattle.std.proofs.Common.{◌≡◌, ◌<◌, ◌+◌, ◌-◌, suc, length, [], ◌∷◌, ◌++◌, sym, ap, ◌∙◌, subst, arith}
use Rattle.std.proofs.Math.ListN.{length-append}
use Rattle.ab_cert.specs.Forms.{left_of}
use Rattle.ab_cert.proofs.Trees.{AreBegun, SoFar, begun_none, far_none, begun_more, far_more, begun_all}
use Rattle.ab_cert.proofs.readers.read_nodes.Goals as goal

pub nodes-init : goal.nodes-init
nodes-init g c =
    let f = g.N.Node.tree in
    let old = left_of c.args.text.now in
    let items = sym c.new-nodes.ensures.items in
    record {
      begun = subst (λ q. AreBegun f q 1) items (begun_none f);
      far = subst (λ q. SoFar f old q 1 old) items (far_none f old);
      count = ap length c.new-nodes.ensures.items;
      bound = omega arith;
    }

pub returns-then-missing-eq0-clause-whole : goal.returns-then-missing-eq0-clause-whole
returns-then-missing-eq0-clause-whole g c = begun_all g.N.Node.tree c.nodes.nodes.items c.nodes.missing c.if-missing-eq0.true c.nodes.invariant.begun

pub nodes-preserved : goal.nodes-preserved
nodes-preserved g c =
    let f = g.N.Node.tree in
    let old = left_of c.args.text.now in
    let read = c.nodes.nodes.items in
    let x = c.in_ok-node.node in
    let m = c.nodes.missing in
    let k = m - 1 in
    let items = c.in_ok-push.ensures.items in
    let more : m ≡ suc k = omega (arith, c.if-missing-eq0.false) in
    let sum : f.width (f.form.meant x) + k ≡ m - 1 + c.width.result = omega (arith, c.width.ensures) in
    record {
      begun = subst (λ q. AreBegun f q (m - 1 + c.width.result)) (sym items) (subst (λ n. AreBegun f (read ++ x ∷ []) n) sum (begun_more f read x m k more c.nodes.invariant.begun));
      far = subst (λ q. SoFar f old q (m - 1 + c.width.result) (left_of c.read_node.new.text)) (sym items)
          (subst (λ n. SoFar f old (read ++ x ∷ []) n (left_of c.read_node.new.text)) sum
          (far_more f old read x m k (left_of c.nodes.text) (left_of c.read_node.new.text) more c.in_ok-node.ensures c.nodes.invariant.far));
      count = omega (arith, ap length items, length-append read (x ∷ []), c.nodes.invariant.count);
      bound = omega (arith, c.nodes.invariant.bound, c.width.type_inv);
    }
