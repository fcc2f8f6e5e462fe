-- A formula as the program sees it where it is given a size. Public contracts don't speak of it.
use Rattle.std.specs.Prelude.{ℕ, ◌<◌, List, Bool, true, false, Option, Some, None, slice_get}
use Rattle.std.specs.Option.{option_map}
use Rattle.ab_term.specs.Logical.{Logical, universal, nabla, implication}
use Rattle.ab_term.specs.Terms as tree
use Rattle.ab_term.specs.Terms.{logical, lam, spine, Terms, no_terms, term, Read}
use Rattle.ab_norm.specs.ab_types.specs.Entries.{Table}
use Rattle.ab_norm.specs.ab_store.specs.declared.node.Head.{Head}
use Rattle.ab_norm.specs.ab_store.specs.Trees.{Contents, tree_of, head_in}
use Rattle.ab_formulas.specs.Declarations.{Declarations}
use Rattle.ab_formulas.specs.Marks.{Sign}
use Rattle.ab_formulas.specs.BodyMarks.{with_mark}
use Rattle.ab_theory.specs.Atoms.{Defined}
use Rattle.ab_theory.specs.Judgements.{Judgement}
use Rattle.ab_theory.specs.Induction.{in_antecedent, in_consequent, inductive_at, coinductive_in, defined_so, judgement_or}
use Rattle.ab_norm.specs.ab_store.specs.declared.node.TermId.{TermId}
use Rattle.ab_sequents.specs.declared.size_marks.Part.{Part}
use Rattle.ab_sequents.specs.declared.size_marks.Part.TheVariants.{Antecedent, Consequent}
use Rattle.ab_sequents.specs.declared.levels.Kind.{Kind}
use Rattle.ab_sequents.specs.declared.levels.Kind.TheVariants.{Induction, Coinduction}
use Rattle.ab_sequents.specs.declared.formula_views.Role.{Role as KeptRole}
use Rattle.ab_sequents.specs.declared.formula_views.Role.TheVariants.{Quantifier, Arrow as ArrowRole, Neither}
use Rattle.ab_sequents.specs.declared.formula_views.Outer.{Outer as KeptOuter}
use Rattle.ab_sequents.specs.declared.formula_views.Outer.TheVariants.{Under, Arrow, Other}

-- what stands under the prefix, with the mark at the part
abbrev pub part_marked : Part → Sign → Read → Read
part_marked (Antecedent n) m = in_antecedent (with_mark m) n
part_marked Consequent m = in_consequent (with_mark m)

-- the mark that the part under the prefix has
abbrev pub sign_at : Declarations → Part → Read → Option Sign
sign_at D (Antecedent n) F = inductive_at D n F
sign_at D Consequent F = coinductive_in D F

-- the mark of a judgement, or of an atom whose definition is inductive; or of one whose definition is coinductive
abbrev pub sign_of_either : Bool → Option Judgement → Option Defined → Option Sign
sign_of_either true j d = judgement_or j (defined_so true d)
sign_of_either false j d = defined_so false d

-- which part gets a size in the conclusion's part of this index
abbrev pub part_at : Kind → List ℕ → ℕ → Option Part
part_at Induction ns i = option_map Antecedent (slice_get ns i)
part_at Coinduction ns i = Some Consequent

-- the halves of a conjunction
abbrev pub halves_read : Table → Contents → TermId × TermId → Read × Read
halves_read types store p = (tree_of types store p.0, tree_of types store p.1)

-- what a head does: it is of the prefix, or implies, or neither
pub data Role : Type 0 where
  quantifier arrow_role neither : Role

abbrev pub role_of_constant : Logical → Role
role_of_constant (universal A) = quantifier
role_of_constant (nabla A) = quantifier
role_of_constant implication = arrow_role
role_of_constant _ = neither

abbrev pub role_of : tree.Head ℕ → Role
role_of (logical l) = role_of_constant l
role_of _ = neither

pub data Outer : Type 0 where
  under : tree.Head ℕ → Read → Outer
  arrow : Read → Read → Outer
  other : Outer

abbrev pub outer_by : Role → tree.Head ℕ → Terms ℕ (List ℕ) → Outer
outer_by quantifier h (term t no_terms) = under h t
outer_by quantifier h _ = other
outer_by arrow_role h (term A (term B no_terms)) = arrow A B
outer_by arrow_role h _ = other
outer_by neither h ts = other

abbrev pub outer_of : Read → Outer
outer_of (lam A x t) = other
outer_of (spine h ts) = outer_by (role_of h) h ts

abbrev pub body_of : Read → Option Read
body_of (lam A x t) = Some t
body_of (spine h ts) = None

abbrev pub role_read : KeptRole → Role
role_read Quantifier = quantifier
role_read ArrowRole = arrow_role
role_read Neither = neither

abbrev pub outer_read : Table → Contents → KeptOuter → Outer
outer_read types store (Under h t) = under (head_in types store.cells h) (tree_of types store t)
outer_read types store (Arrow a b) = arrow (tree_of types store a) (tree_of types store b)
outer_read types store Other = other

-- the parts are earlier than this number
abbrev pub PartsBelow : ℕ → KeptOuter → Type 0
PartsBelow n (Under h t) = t.0 < n
PartsBelow n (Arrow a b) = (a.0 < n) × (b.0 < n)
PartsBelow n Other = Unit {0}

-- the quantifier's head is such
abbrev pub OfHead : (Head → Type 0) → KeptOuter → Type 0
OfHead P (Under h t) = P h
OfHead P _ = Unit {0}
