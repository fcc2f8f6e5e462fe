use Rattle.std.proofs.Common.{◌≡◌, ◌∷◌, ◌++◌, [], drop, codes, Err, sym, ap, ◌∙◌, subst}
use Rattle.std.specs.List.{flat_map}
use Rattle.ab_cert.specs.declared.fault.ReadFault.TheVariants.{BadCert}
use Rattle.ab_cert.specs.Texts.{IsText}
use Rattle.ab_cert.specs.Values.{cert_of}
use Rattle.ab_cert.specs.Forms.{left_of, item_pieces}
use Rattle.ab_cert.proofs.ItemRead.{text_pieces}
use Rattle.ab_cert.proofs.ReadAs.{not_refused}
use Rattle.ab_cert.proofs.read.read_cert.Goals as goal

pub returns-in-Err-clause-bad : goal.returns-in-Err-clause-bad
returns-in-Err-clause-bad c = λ place e.
    let same : c.in-Err.fault ≡ BadCert place = cc in
    c.in-Err.ensures.bad place (ap Err same)

pub returns-in-Err-clause-read : goal.returns-in-Err-clause-read
returns-in-Err-clause-read c = λ items t. not_refused c.args.bytes.now items c.in-Err.fault t (λ place e. c.in-Err.ensures.bad place (ap Err e))

pub returns-clause-good : goal.returns-clause-good
returns-clause-good c =
    let bytes = c.args.bytes.now in
    let t = c.in_default.ensures.good in
    let left : left_of c.next_piece-version.new.text ≡ flat_map item_pieces t.0 ++ codes "end" ∷ [] =
    c.next_piece-version.ensures.left ∙ ap (drop 1) (c.next_piece-word.ensures.left ∙ ap (drop 1) (text_pieces bytes t.0 t.1)) in
    let read = c.in_ok-read_items.ensures t.0 [] t.1.cert left in
    subst (λ q. IsText bytes q) (sym read) t.1

pub returns-clause-read : goal.returns-clause-read
returns-clause-read c = λ items t.
    let left : left_of c.next_piece-version.new.text ≡ flat_map item_pieces items ++ codes "end" ∷ [] =
    c.next_piece-version.ensures.left ∙ ap (drop 1) (c.next_piece-word.ensures.left ∙ ap (drop 1) (text_pieces c.args.bytes.now items t)) in
    c.in_ok-read_items.ensures items [] t.cert left
