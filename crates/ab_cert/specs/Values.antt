-- The plain data that the program's certificates stand for.
use Rattle.std.specs.Prelude.{ℕ, List, [], ◌∷◌, map, codes, Option, Some, None}
use Rattle.ab_cert.specs.declared.term_tree.CertTree.{CertTree}
use Rattle.ab_cert.specs.declared.clause.CertVar.{CertVar}
use Rattle.ab_cert.specs.declared.clause.CertClause.{CertClause}
use Rattle.ab_cert.specs.declared.clause.CertReplace.{CertReplace}
use Rattle.ab_cert.specs.declared.step.Label.{Label}
use Rattle.ab_cert.specs.declared.step.CertStep.{CertStep}
use Rattle.ab_cert.specs.declared.cert.CertItem.{CertItem}
use Rattle.ab_cert.specs.declared.cert.Cert.{Cert}
use Rattle.ab_cert.specs.Members.{members_of}
use Rattle.ab_cert.specs.Plain as plain
use Rattle.ab_cert.specs.Plain.{Term, Replace, Field, Step, Variable, Clause, Item}
use Rattle.ab_cert.specs.Signs.{type_of}
use Rattle.ab_cert.specs.TermNodes.{node_of, term_in}

-- the nodes are the term's, in prefix order
abbrev pub term_of : CertTree → Term
term_of t = term_in (map node_of t.nodes.items)

abbrev pub label_of : Label → Option (List ℕ)
label_of Label.Auto = None
label_of (Label.Given x) = Some x

abbrev pub replace_of : CertReplace → Replace
replace_of r = record { number = r.number; ty = type_of r.ty; to = term_of r.to }

abbrev pub step : ℕ → List Field → Step
step n fields = record { number = n; fields = fields }

abbrev pub step_of : CertStep → Step
step_of (CertStep.Initial h) = step 1 (plain.name h ∷ [])
step_of CertStep.TrueRight = step 2 []
step_of (CertStep.FalseLeft h) = step 3 (plain.name h ∷ [])
step_of CertStep.AndRight = step 4 []
step_of (CertStep.AndLeft h l m) = step 5 (plain.name h ∷ plain.label (label_of l) ∷ plain.label (label_of m) ∷ [])
step_of (CertStep.OrRight b) = step 6 (plain.flag b ∷ [])
step_of (CertStep.OrLeft h l) = step 7 (plain.name h ∷ plain.label (label_of l) ∷ [])
step_of (CertStep.ArrowRight l) = step 8 (plain.label (label_of l) ∷ [])
step_of (CertStep.ArrowLeft h l) = step 9 (plain.name h ∷ plain.label (label_of l) ∷ [])
step_of CertStep.ForallRight = step 10 []
step_of (CertStep.ForallLeft h t l) = step 11 (plain.name h ∷ plain.term (term_of t) ∷ plain.label (label_of l) ∷ [])
step_of (CertStep.ExistsRight t) = step 12 (plain.term (term_of t) ∷ [])
step_of (CertStep.ExistsLeft h l) = step 13 (plain.name h ∷ plain.label (label_of l) ∷ [])
step_of CertStep.NablaRight = step 14 []
step_of (CertStep.NablaLeft h l) = step 15 (plain.name h ∷ plain.label (label_of l) ∷ [])
step_of CertStep.EqualRight = step 16 []
step_of (CertStep.EqualLeft h) = step 17 (plain.name h ∷ [])
step_of (CertStep.DefRight i) = step 18 (plain.place i ∷ [])
step_of (CertStep.DefLeft h l) = step 19 (plain.name h ∷ plain.label (label_of l) ∷ [])
step_of (CertStep.Induction ns ls) = step 20 (plain.numbers (members_of ns) ∷ plain.labels (map label_of (members_of ls)) ∷ [])
step_of (CertStep.Coinduction ls) = step 21 (plain.labels (map label_of (members_of ls)) ∷ [])
step_of (CertStep.CutFormula t l) = step 22 (plain.term (term_of t) ∷ plain.label (label_of l) ∷ [])
step_of (CertStep.UseTheorem n l) = step 23 (plain.name n ∷ plain.label (label_of l) ∷ [])
step_of (CertStep.Weaken h) = step 24 (plain.name h ∷ [])
step_of (CertStep.SpecCut h k l) = step 25 (plain.name h ∷ plain.name k ∷ plain.label (label_of l) ∷ [])
step_of (CertStep.SpecInst h rs l) = step 26 (plain.name h ∷ plain.replaces (map replace_of (members_of rs)) ∷ plain.label (label_of l) ∷ [])
step_of (CertStep.SpecMonotone h t l) = step 27 (plain.name h ∷ plain.term (term_of t) ∷ plain.label (label_of l) ∷ [])
step_of CertStep.Skip = step 28 []

abbrev pub variable_of : CertVar → Variable
variable_of v = record { name = v.name; ty = type_of v.ty }

abbrev pub clause_of : CertClause → Clause
clause_of c = record { variables = map variable_of (members_of c.variables); head = term_of c.head; body = term_of c.body }

abbrev pub item_of : CertItem → Item
item_of (CertItem.Kind x) = plain.kind x
item_of (CertItem.Const x ty) = plain.const x (type_of ty)
item_of (CertItem.Block b xs cs) = plain.block b (members_of xs) (map clause_of (members_of cs))
item_of (CertItem.Program c) = plain.program (clause_of c)
item_of (CertItem.Theorem x f ss) = plain.theorem x (term_of f) (map step_of (members_of ss))

-- THE PLAIN DATA OF A CERTIFICATE
abbrev pub cert_of : Cert → List Item
cert_of c = map item_of (members_of c.items)
