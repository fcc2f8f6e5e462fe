-- Tools of the reader's private functions: trees in prefix order, and how their nodes make them.
use Rattle.std.specs.Prelude.{◌≡◌, ℕ, List, [], ◌∷◌, ◌++◌, length, map, Result, IfOk}
use Rattle.std.specs.List.{flat_map}
use Rattle.std.specs.Global.{Vec}
use Rattle.ab_cert.specs.declared.type_tree.TypeNode.{TypeNode}
use Rattle.ab_cert.specs.declared.term_tree.TermNode.{TermNode}
use Rattle.ab_cert.specs.Plain.{Ty, Term}
use Rattle.ab_cert.specs.Tables.{Each, IsTy, IsTerm}
use Rattle.ab_cert.specs.Pieces.{Pieces, type_pieces, term_pieces}
use Rattle.ab_cert.specs.TypeNodes.{type_nodes}
use Rattle.ab_cert.specs.TermNodes.{term_nodes}
use Rattle.ab_cert.specs.Forms.{Form, type_node_form, node_form}
use Rattle.ab_cert.specs.Nodes.{type_width, type_top, type_kids, type_wide, type_nodes_are, type_pieces_are, type_good_top, type_good_kids, type_build, node_width, term_top, term_kids, term_wide, term_nodes_are, term_pieces_are, term_good_top, term_good_kids, term_build}

-- TREES: the nodes of each, the first of them and the trees behind it, of which there are as many as the node says
pub record TreeForm (X : Type 0) : Type 1 where
  pub form : Form X
  pub Tree : Type 0
  pub nodes : Tree → List form.Meant
  pub pieces : Tree → Pieces
  pub good : Tree → Type 0
  pub width : form.Meant → ℕ
  pub top : Tree → form.Meant
  pub kids : Tree → List Tree
  pub wide : (t : Tree) → length (kids t) ≡ width (top t)
  pub nodes_are : (t : Tree) → nodes t ≡ top t ∷ flat_map nodes (kids t)
  pub pieces_are : (t : Tree) → pieces t ≡ form.pieces (top t) ++ flat_map pieces (kids t)
  pub good_top : (t : Tree) → good t → form.good (top t)
  pub good_kids : (t : Tree) → good t → Each good (kids t)
  pub build : (n : form.Meant) (ts : List Tree) → length ts ≡ width n → (t : Tree) × ((top t ≡ n) × (kids t ≡ ts))

-- the nodes are those of a tree
abbrev pub AreNodes : {X : Type 0} → TreeForm X → List X → Type 0
AreNodes f xs = (t : f.Tree) × (map f.form.meant xs ≡ f.nodes t)

-- the nodes of a tree are read, where the pieces begin by those of a tree
abbrev pub ReadsNodes : {X E : Type 0} → TreeForm X → Pieces → Result (Vec X) E → Pieces → Type 0
ReadsNodes f old r new = (t : f.Tree) (rest : Pieces) → f.good t → old ≡ f.pieces t ++ rest → IfOk r (λ v. (map f.form.meant v.items ≡ f.nodes t) × (new ≡ rest))

abbrev pub type_tree_form : TreeForm TypeNode
type_tree_form = record {
  form = type_node_form;
  Tree = Ty;
  nodes = type_nodes;
  pieces = type_pieces;
  good = IsTy;
  width = type_width;
  top = type_top;
  kids = type_kids;
  wide = type_wide;
  nodes_are = type_nodes_are;
  pieces_are = type_pieces_are;
  good_top = type_good_top;
  good_kids = type_good_kids;
  build = type_build;
}

abbrev pub term_tree_form : TreeForm TermNode
term_tree_form = record {
  form = node_form;
  Tree = Term;
  nodes = term_nodes;
  pieces = term_pieces;
  good = IsTerm;
  width = node_width;
  top = term_top;
  kids = term_kids;
  wide = term_wide;
  nodes_are = term_nodes_are;
  pieces_are = term_pieces_are;
  good_top = term_good_top;
  good_kids = term_good_kids;
  build = term_build;
}
