-- TERMS IN PREFIX ORDER: a term as the list of its nodes, each before the terms that it is made of.
use Rattle.std.specs.Prelude.{ℕ, List, [], ◌∷◌, ◌++◌, length, take, drop, codes, decimal}
use Rattle.ab_cert.specs.declared.term_tree.TermNode.{TermNode}
use Rattle.ab_cert.specs.Plain.{Ty, Head, constant, Term, lam, spine, Terms, no_terms, one_more, list_of, terms_of}
use Rattle.ab_cert.specs.Pieces.{Pieces, type_pieces, head_pieces}
use Rattle.ab_cert.specs.Signs.{type_of, head_of}

-- A NODE: a bound variable's type and hint, or a head and the number of its arguments
pub data Node : Type 0 where
  lam_node : Ty → List ℕ → Node
  spine_node : Head → ℕ → Node

abbrev pub node_of : TermNode → Node
node_of (TermNode.Lam ty hint) = lam_node (type_of ty) hint
node_of (TermNode.Spine head count) = spine_node (head_of head) count

-- THE NODES OF A TERM
abbrev mutual
  pub term_nodes : Term → List Node
  term_nodes (lam ty hint body) = lam_node ty hint ∷ term_nodes body
  term_nodes (spine head args) = spine_node head (length (list_of args)) ∷ terms_nodes args

  pub terms_nodes : Terms → List Node
  terms_nodes no_terms = []
  terms_nodes (one_more t ts) = term_nodes t ++ terms_nodes ts

-- the first of some terms
abbrev pub first_term : List Term → Term
first_term [] = spine (constant []) no_terms
first_term (t ∷ more) = t

-- the terms that stand one behind another
abbrev pub terms_in : List Node → List Term
terms_in [] = []
terms_in (lam_node ty hint ∷ ns) = lam ty hint (first_term (terms_in ns)) ∷ drop 1 (terms_in ns)
terms_in (spine_node head count ∷ ns) = spine head (terms_of (take count (terms_in ns))) ∷ drop count (terms_in ns)

-- THE TERM OF SOME NODES
abbrev pub term_in : List Node → Term
term_in ns = first_term (terms_in ns)

-- THE PIECES OF A NODE
abbrev pub node_pieces : Node → Pieces
node_pieces (lam_node ty hint) = codes "\\" ∷ (type_pieces ty ++ hint ∷ [])
node_pieces (spine_node head count) = codes "@" ∷ (head_pieces head ++ decimal count ∷ [])
