use Rattle.std.proofs.Common.{sym, ap, ◌∙◌, subst}
use Rattle.ab_cert.specs.Grammar.{words, IsScan}
use Rattle.ab_cert.specs.Leads.{kids_meant, parts_found, table_of}
use Rattle.ab_cert.proofs.Tries.{word_scan}
use Rattle.ab_cert.proofs.scan.try_words.Goals as goal
use Rattle.ab_cert.proofs.scan.try_words.Goals.{in-Some, in-None}

pub returns : goal.returns
returns c =
    let rows = table_of c.args.table.now in
    let t = word_scan rows c.args.bytes.now c.args.start c.scan_word-to.result c.scan_word-to.ensures in
    elim c.match-look_up.branch [
      | in-Some w ↦ subst (λ k. IsScan (words rows) c.args.bytes.now c.args.start c.scan_word-to.result k) (sym c.look_up.ensures ∙ (ap parts_found w.in-Some.is ∙ sym (ap kids_meant w.kids-is))) t
      | in-None w ↦ subst (λ k. IsScan (words rows) c.args.bytes.now c.args.start c.scan_word-to.result k) (sym c.look_up.ensures ∙ (ap parts_found w.in-None.is ∙ sym (ap kids_meant w.kids-is))) t
    ]
