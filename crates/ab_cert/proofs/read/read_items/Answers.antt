use Rattle.std.proofs.Common.{◌≡◌, map, length, [], ◌∷◌, ◌++◌, sym, ap, ◌∙◌, subst, arith}
use Rattle.std.proofs.Math.ListN.{length-append}
use Rattle.ab_cert.specs.Values.{item_of}
use Rattle.ab_cert.specs.Forms.{left_of}
use Rattle.ab_cert.proofs.ItemsRead.{ItemsSoFar, Gives, items_none, items_more, items_all}
use Rattle.ab_cert.proofs.read.read_items.Goals as goal

pub items-init : goal.items-init
items-init c = record {
  count = ap length c.new-items.ensures.items;
  far = subst (λ q. ItemsSoFar (left_of c.args.text.now) q (left_of c.args.text.now)) (sym c.new-items.ensures.items) (items_none (left_of c.args.text.now));
}

pub items-preserved : goal.items-preserved
items-preserved c =
    let items = c.in_ok-push-in-Some.ensures.items in
    let old = left_of c.args.text.now in
    let new = left_of c.read_item.new.text in
    let given : Gives (left_of c.items.text) _ new = c.in_ok-item.ensures in
    let gives = subst (λ o. Gives (left_of c.items.text) o new) c.in-Some.is given in
    record {
      count = omega (arith, ap length items, length-append c.items.items.items (c.in-Some.item ∷ []), c.items.invariant.count);
      far = subst (λ q. ItemsSoFar old q new) (sym items) (items_more old c.items.items.items c.in-Some.item (left_of c.items.text) new gives c.items.invariant.far);
    }

pub returns-in-None : goal.returns-in-None
returns-in-None c = λ xs rest h e.
    let new = left_of c.read_item.new.text in
    let given : Gives (left_of c.items.text) _ new = c.in_ok-item.ensures in
    let gives = subst (λ o. Gives (left_of c.items.text) o new) c.in-None.is given in
    ap (map item_of) c.from_vec.ensures ∙ items_all (left_of c.args.text.now) c.items.items.items (left_of c.items.text) new gives c.items.invariant.far xs rest h e
