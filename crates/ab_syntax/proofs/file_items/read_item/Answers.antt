use Rattle.ab_grammar.specs.Token.{other, stop}
use Rattle.ab_grammar.specs.declared.file.FileKind.TheVariants.{Signature, Module}
use Rattle.ab_grammar.proofs.FileRows.{whole_item}
use Rattle.ab_syntax.specs.FileItems.{item_of}
use Rattle.ab_expressions.specs.Reader.{rest}
use Rattle.ab_syntax.proofs.Passing.{closed_found}
use Rattle.ab_syntax.proofs.file_items.read_item.Goals as goal

pub returns-in-Signature : goal.returns-in-Signature
returns-in-Signature c = rw c.in-Signature.is (closed_found (other stop) (whole_item Signature) item_of (rest c.args.text.now c.args.here.now) _ _ c.signature_item-item.result c.close_part.result c.signature_item-item.ensures c.close_part.ensures)

pub returns-in-Module : goal.returns-in-Module
returns-in-Module c = rw c.in-Module.is (closed_found (other stop) (whole_item Module) item_of (rest c.args.text.now c.args.here.now) _ _ c.module_item-item.result c.close_part-in-Module.result c.module_item-item.ensures c.close_part-in-Module.ensures)
