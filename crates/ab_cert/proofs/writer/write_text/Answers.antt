use Rattle.std.proofs.Common.{◌++◌, codes, ap, ◌∙◌, append_assoc}
use Rattle.ab_cert.specs.Members.{members_of}
use Rattle.ab_cert.specs.Writing.{items_text}
use Rattle.ab_cert.proofs.Writing.{text_ended, on_ok, extends_more, extends_either}
use Rattle.ab_cert.proofs.writer.write_text.Goals as goal

pub items-init : goal.items-init
items-init c =
    let items = c.as_slice-item-items.result.now in
    let old = c.args.out.now.items in
    record {
      written =
          ap (λ q. q ++ items_text items) c.in_ok-extend_from_slice.ensures.items
          ∙ (append_assoc old (codes "abella-cert 1") (items_text items) ∙ ap (λ q. old ++ (codes "abella-cert 1" ++ items_text q)) c.as_slice-item-items.ensures);
      kept = (codes "abella-cert 1", c.in_ok-extend_from_slice.ensures.items);
    }

pub returns-clause-written : goal.returns-clause-written
returns-clause-written c =
    on_ok c.extend_from_slice-2.result c.extend_from_slice-2.new.self.items (c.items.out.items ++ codes "\nend\n") c.items.out.items _ c.extend_from_slice-2.ensures.items
    (text_ended c.args.out.now.items c.items.out.items c.as_slice-item-items.result.now (members_of c.args.cert.now.items) c.items.item-index c.items-test.false c.items.invariant.written)

pub returns-clause-kept : goal.returns-clause-kept
returns-clause-kept c =
    extends_either c.extend_from_slice-2.result c.args.out.now.items c.extend_from_slice-2.new.self.items (c.items.out.items ++ codes "\nend\n") c.items.out.items c.extend_from_slice-2.ensures.items
    (extends_more c.args.out.now.items c.items.out.items (codes "\nend\n") c.items.invariant.kept) c.items.invariant.kept
