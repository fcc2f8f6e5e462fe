-- What is taken off a formula next, as the program sees it, in the words of terms.
use Rattle.std.specs.Prelude.{ℕ, ◌<◌, List, [], Option, Some, None}
use Rattle.ab_term.specs.Types.{Ty}
use Rattle.ab_term.specs.Logical.{Logical, universal, nabla, implication}
use Rattle.ab_term.specs.Terms.{logical, lam, spine, Terms, no_terms, term, Read}
use Rattle.ab_norm.specs.ab_types.specs.Entries.{Table}
use Rattle.ab_norm.specs.ab_types.specs.Ids.{type_of, HoldsType}
use Rattle.ab_norm.specs.ab_store.specs.Trees.{Contents, tree_of}
use Rattle.ab_formulas.specs.Marks.{MarksServeIn}
use Rattle.ab_uses.specs.declared.next_parts.Layer.{Layer as KeptLayer}
use Rattle.ab_uses.specs.declared.next_parts.Layer.TheVariants.{Universal, Nabla, Implication, Last}

pub data Layer : Type 0 where
  -- a quantifier, with the type of its name and what stands under it
  for_all : List ℕ → Ty → Read → Layer
  nabla_over : Ty → Read → Layer
  implies : Read → Read → Layer
  last : Layer

-- the hint of an abstraction
abbrev pub hint_of : Read → List ℕ
hint_of (lam A x t) = x
hint_of (spine h ts) = []

abbrev pub under_universal : Ty → Read → Layer
under_universal A (lam B x t) = for_all x A t
under_universal A (spine h ts) = last

abbrev pub under_nabla : Ty → Read → Layer
under_nabla A (lam B x t) = nabla_over A t
under_nabla A (spine h ts) = last

-- a constant with what it is given
abbrev pub layer_by : Logical → Terms ℕ (List ℕ) → Layer
layer_by (universal A) (term t no_terms) = under_universal A t
layer_by (nabla A) (term t no_terms) = under_nabla A t
layer_by implication (term A (term B no_terms)) = implies A B
layer_by _ _ = last

abbrev pub layer_of : Read → Layer
layer_of (spine (logical l) ts) = layer_by l ts
layer_of _ = last

module _ (types : Table) (store : Contents) where
  abbrev pub layer_read : KeptLayer → Layer
  layer_read (Universal a f t) = for_all (hint_of (tree_of types store f)) (type_of types a) (tree_of types store t)
  layer_read (Nabla a t) = nabla_over (type_of types a) (tree_of types store t)
  layer_read (Implication a b) = implies (tree_of types store a) (tree_of types store b)
  layer_read Last = last

-- the parts are earlier than this number
abbrev pub PartsBelow : ℕ → KeptLayer → Type 0
PartsBelow n (Universal a f t) = (f.0 < n) × (t.0 < n)
PartsBelow n (Nabla a t) = t.0 < n
PartsBelow n (Implication a b) = (a.0 < n) × (b.0 < n)
PartsBelow n Last = Unit {0}

-- the type of the name is the table's
abbrev pub LayerIsTyped : Table → KeptLayer → Type 0
LayerIsTyped types (Universal a f t) = HoldsType types a
LayerIsTyped types (Nabla a t) = HoldsType types a
LayerIsTyped types _ = Unit {0}

-- the marks of the hypothesis' formula serve the antecedent, where one is given
abbrev pub ServesIfAny : Read → Option Read → Type 0
ServesIfAny A None = Unit {0}
ServesIfAny A (Some G) = MarksServeIn A G
