-- A layer of a judgement as the program has it. Public contracts don't speak of it.
use Rattle.std.specs.Prelude.{Option, Some, None}
use Rattle.ab_term.specs.Logical.{spec_universal}
use Rattle.ab_term.specs.Terms.{logical, spine, term, no_terms, Read}
use Rattle.ab_norm.specs.ab_types.specs.Entries.{Table}
use Rattle.ab_norm.specs.ab_types.specs.Ids.{HoldsType, type_of}
use Rattle.ab_norm.specs.ab_store.specs.declared.node.TermId.{TermId}
use Rattle.ab_norm.specs.ab_store.specs.Trees.{Contents, Holds, tree_of}
use Rattle.ab_unifiers.specs.Member.{before}
use Rattle.ab_theory.specs.Opening.{both}
use Rattle.ab_search_trees.specs.Judgements.{judged, layer_of}
use Rattle.ab_search_ways.specs.declared.layers.Layer.{Layer}
use Rattle.ab_search_ways.specs.declared.layers.Layer.TheVariants.{With, Imply, Pi, Closed}

-- the judgement of the two, with a layer opened
abbrev pub opened_of : Table → Contents → Option (TermId × TermId) → Option Read
opened_of types store None = None
opened_of types store (Some p) = layer_of (tree_of types store p.0) (tree_of types store p.1)

-- what the layer makes of a judgement of this list
abbrev pub layer_read : Table → Contents → Read → Layer → Option Read
layer_read types store L (With a b) = Some (both (judged L (tree_of types store a)) (judged L (tree_of types store b)))
layer_read types store L (Imply a b) = Some (judged (before (tree_of types store a) L) (tree_of types store b))
layer_read types store L (Pi A a) = layer_of L (spine (logical (spec_universal (type_of types A))) (term (tree_of types store a) no_terms))
layer_read types store L Closed = None

abbrev pub HoldsPair : Contents → TermId × TermId → Type 0
HoldsPair store p = Holds store p.0 × Holds store p.1

-- what the layer names is there
abbrev pub HoldsLayer : Contents → Layer → Type 0
HoldsLayer store (With a b) = Holds store a × Holds store b
HoldsLayer store (Imply a b) = Holds store a × Holds store b
HoldsLayer store (Pi A a) = Holds store a
HoldsLayer store Closed = Unit {0}

-- the type that it names is the table's
abbrev pub LayerIsTyped : Table → Layer → Type 0
LayerIsTyped types (Pi A a) = HoldsType types A
LayerIsTyped types _ = Unit {0}
