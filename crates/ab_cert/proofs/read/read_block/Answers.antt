use Rattle.std.proofs.Common.{map, sym, ap, ◌∙◌}
use Rattle.ab_cert.specs.Plain.{block}
use Rattle.ab_cert.specs.Members.{members_of}
use Rattle.ab_cert.specs.Values.{clause_of}
use Rattle.ab_cert.proofs.NodeTrees.{map_same}
use Rattle.ab_cert.proofs.ItemRead.{block_read}
use Rattle.ab_cert.proofs.read.read_block.Goals as goal

pub returns : goal.returns
returns c = λ x rest h e.
    let clauses = map clause_of (members_of c.in_ok-clauses.clauses) in
    let names = members_of c.in_ok-names.names in
    let r = block_read x rest _ _ _ _ _ c.next_letter-inductive.result (map (λ n. n) names) _ clauses h e
    c.next_letter-inductive.ensures c.in_ok-names.ensures c.next_count-count.ensures c.in_ok-clauses.ensures in
    (ap (λ ns. block c.next_letter-inductive.result ns clauses) (sym (map_same names)) ∙ r.0, r.1)
