-- How a head makes the marks of a formula, and where marks stand in a formula, as the program sees it.
use Rattle.std.specs.Prelude.{ℕ, ◌<◌, List, map}
use Rattle.ab_norm.specs.ab_types.specs.Entries.{Table}
use Rattle.ab_norm.specs.ab_types.specs.Ids.{constant_of}
use Rattle.ab_norm.specs.ab_types.specs.declared.ids.ConstId.{ConstId}
use Rattle.ab_norm.specs.ab_store.specs.declared.node.TermId.{TermId}
use Rattle.ab_norm.specs.ab_store.specs.Trees.{Contents, Holds, tree_of}
use Rattle.ab_logic.specs.Forms.{sign_of}
use Rattle.ab_formulas.specs.Marks as plain
use Rattle.ab_formulas.specs.Marks.{marks_of}
use Rattle.ab_sequents.specs.declared.head_marks.Making.{Making}
use Rattle.ab_sequents.specs.declared.head_marks.Making.TheVariants.{ByHead, ByScope, ByParts, ByMark}
use Rattle.ab_sequents.specs.declared.mark_order.Seen.{Seen}
use Rattle.ab_sequents.specs.declared.mark_order.Seen.TheVariants.{Nowhere, AtAtom, AtJudgement, Below, InBoth}

abbrev pub making_read : Making → plain.Making
making_read ByHead = plain.by_head
making_read ByScope = plain.by_scope
making_read ByParts = plain.by_parts
making_read (ByMark m) = plain.by_mark (sign_of m)

-- the names of predicates
abbrev pub names_of : Table → List ConstId → List (List ℕ)
names_of types ps = map (λ p. (constant_of types p).name) ps

-- the marks, where those of parts are read from the store
abbrev pub marks_seen : Table → Contents → Seen → plain.Marks
marks_seen types store Nowhere = plain.nowhere
marks_seen types store (AtAtom m) = plain.at_atom (sign_of m)
marks_seen types store (AtJudgement m) = plain.at_judgement (sign_of m)
marks_seen types store (Below t) = plain.below (marks_of (tree_of types store t))
marks_seen types store (InBoth t u) = plain.in_both (marks_of (tree_of types store t)) (marks_of (tree_of types store u))

-- the parts are earlier than this number
abbrev pub PartsBelow : ℕ → Seen → Type 0
PartsBelow n (Below t) = t.0 < n
PartsBelow n (InBoth t u) = (t.0 < n) × (u.0 < n)
PartsBelow n _ = Unit {0}
