-- Tools of the reader's private functions: the first node of a tree, and the trees behind it.
use Rattle.std.proofs.Common.{◌≡◌, ℕ, List, [], ◌∷◌, ◌++◌, length, codes, decimal, refl, sym, ap, ◌∙◌, append_assoc}
use Rattle.std.specs.List.{flat_map}
use Rattle.std.proofs.lemmas.List.{append-nil}
use Rattle.ab_cert.specs.declared.type_tree.TypeNode.{TypeNode}
use Rattle.ab_cert.specs.declared.type_tree.TypeNode.TheVariants as variant
use Rattle.ab_cert.specs.Plain.{Ty, base, arrow, Term, lam, spine, Terms, no_terms, one_more, list_of, terms_of}
use Rattle.ab_cert.specs.Tables.{Each, IsTy, IsTerm, AreTerms}
use Rattle.ab_cert.specs.Pieces.{Pieces, type_pieces, head_pieces, term_pieces, terms_pieces}
use Rattle.ab_cert.specs.TypeNodes.{type_nodes, type_node_piece}
use Rattle.ab_cert.specs.TermNodes.{Node, lam_node, spine_node, term_nodes, terms_nodes, node_pieces}
use Rattle.ab_cert.specs.Forms.{IsTypeNode, IsNode}

-- types

abbrev pub type_width : TypeNode → ℕ
type_width (TypeNode.Base k) = 0
type_width TypeNode.Arrow = 2

abbrev pub type_top : Ty → TypeNode
type_top (base k) = TypeNode.Base k
type_top (arrow a b) = TypeNode.Arrow

abbrev pub type_kids : Ty → List Ty
type_kids (base k) = []
type_kids (arrow a b) = a ∷ (b ∷ [])

pub type_wide : (t : Ty) → length (type_kids t) ≡ type_width (type_top t)
type_wide (base k) = refl
type_wide (arrow a b) = refl

pub type_nodes_are : (t : Ty) → type_nodes t ≡ type_top t ∷ flat_map type_nodes (type_kids t)
type_nodes_are (base k) = refl
type_nodes_are (arrow a b) = ap (λ q. TypeNode.Arrow ∷ (type_nodes a ++ q)) (sym (append-nil (type_nodes b)))

pub type_pieces_are : (t : Ty) → type_pieces t ≡ (type_node_piece (type_top t) ∷ []) ++ flat_map type_pieces (type_kids t)
type_pieces_are (base k) = refl
type_pieces_are (arrow a b) = ap (λ q. codes ">" ∷ (type_pieces a ++ q)) (sym (append-nil (type_pieces b)))

pub type_good_top : (t : Ty) → IsTy t → IsTypeNode (type_top t)
type_good_top (base k) h = h
type_good_top (arrow a b) h = tt

pub type_good_kids : (t : Ty) → IsTy t → Each IsTy (type_kids t)
type_good_kids (base k) h = tt
type_good_kids (arrow a b) h = (h.0, (h.1, tt))

pub type_build : (n : TypeNode) (ts : List Ty) → length ts ≡ type_width n → (t : Ty) × ((type_top t ≡ n) × (type_kids t ≡ ts))
type_build (TypeNode.Base k) [] e = (base k, (refl, refl))
type_build (TypeNode.Base k) (a ∷ ts) e = cc
type_build TypeNode.Arrow [] e = cc
type_build TypeNode.Arrow (a ∷ []) e = cc
type_build TypeNode.Arrow (a ∷ (b ∷ [])) e = (arrow a b, (refl, refl))
type_build TypeNode.Arrow (a ∷ (b ∷ (c ∷ ts))) e = cc

-- terms

abbrev pub node_width : Node → ℕ
node_width (lam_node ty hint) = 1
node_width (spine_node head count) = count

abbrev pub term_top : Term → Node
term_top (lam ty hint body) = lam_node ty hint
term_top (spine head args) = spine_node head (length (list_of args))

abbrev pub term_kids : Term → List Term
term_kids (lam ty hint body) = body ∷ []
term_kids (spine head args) = list_of args

pub term_wide : (t : Term) → length (term_kids t) ≡ node_width (term_top t)
term_wide (lam ty hint body) = refl
term_wide (spine head args) = refl

flat_nodes : (ts : Terms) → terms_nodes ts ≡ flat_map term_nodes (list_of ts)
flat_nodes no_terms = refl
flat_nodes (one_more t ts) = ap (λ q. term_nodes t ++ q) (flat_nodes ts)

pub term_nodes_are : (t : Term) → term_nodes t ≡ term_top t ∷ flat_map term_nodes (term_kids t)
term_nodes_are (lam ty hint body) = ap (λ q. lam_node ty hint ∷ q) (sym (append-nil (term_nodes body)))
term_nodes_are (spine head args) = ap (λ q. spine_node head (length (list_of args)) ∷ q) (flat_nodes args)

flat_pieces : (ts : Terms) → terms_pieces ts ≡ flat_map term_pieces (list_of ts)
flat_pieces no_terms = refl
flat_pieces (one_more t ts) = ap (λ q. term_pieces t ++ q) (flat_pieces ts)

pub term_pieces_are : (t : Term) → term_pieces t ≡ node_pieces (term_top t) ++ flat_map term_pieces (term_kids t)
term_pieces_are (lam ty hint body) =
    ap (λ q. codes "\\" ∷ (type_pieces ty ++ hint ∷ q)) (sym (append-nil (term_pieces body)))
    ∙ sym (append_assoc (codes "\\" ∷ type_pieces ty) (hint ∷ []) (term_pieces body ++ []))
term_pieces_are (spine head args) =
    ap (λ q. codes "@" ∷ (head_pieces head ++ decimal (length (list_of args)) ∷ q)) (flat_pieces args)
    ∙ sym (append_assoc (codes "@" ∷ head_pieces head) (decimal (length (list_of args)) ∷ []) (flat_map term_pieces (list_of args)))

pub term_good_top : (t : Term) → IsTerm t → IsNode (term_top t)
term_good_top (lam ty hint body) h = (h.0, h.1)
term_good_top (spine head args) h = (h.0, h.1)

each_term : (ts : Terms) → AreTerms ts → Each IsTerm (list_of ts)
each_term no_terms h = tt
each_term (one_more t ts) h = (h.0, each_term ts h.1)

pub term_good_kids : (t : Term) → IsTerm t → Each IsTerm (term_kids t)
term_good_kids (lam ty hint body) h = (h.2, tt)
term_good_kids (spine head args) h = each_term args h.2

list_terms : (ts : List Term) → list_of (terms_of ts) ≡ ts
list_terms [] = refl
list_terms (t ∷ ts) = ap (λ q. t ∷ q) (list_terms ts)

pub term_build : (n : Node) (ts : List Term) → length ts ≡ node_width n → (t : Term) × ((term_top t ≡ n) × (term_kids t ≡ ts))
term_build (lam_node ty hint) [] e = cc
term_build (lam_node ty hint) (t ∷ []) e = (lam ty hint t, (refl, refl))
term_build (lam_node ty hint) (t ∷ (u ∷ ts)) e = cc
term_build (spine_node head count) ts e =
    (spine head (terms_of ts), (ap (λ q. spine_node head q) (ap length (list_terms ts) ∙ e), list_terms ts))
