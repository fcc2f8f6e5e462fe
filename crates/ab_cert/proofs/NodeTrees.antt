-- Trees in prefix order: their pieces are those of their nodes, and the nodes are those of one tree.
use Rattle.std.proofs.Common.{◌≡◌, ℕ, List, [], ◌∷◌, ◌++◌, length, map, take, drop, codes, decimal, refl, sym, ap, ◌∙◌, append_assoc}
use Rattle.std.specs.List.{flat_map}
use Rattle.std.proofs.lemmas.List.{append-nil}
use Rattle.std.proofs.lemmas.Grind.{flat_map-append}
use Rattle.ab_cert.specs.declared.type_tree.TypeNode.{TypeNode}
use Rattle.ab_cert.specs.declared.type_tree.TypeNode.TheVariants as variant
use Rattle.ab_cert.specs.Plain.{Ty, base, arrow, Head, Term, lam, spine, Terms, no_terms, one_more, list_of, terms_of}
use Rattle.ab_cert.specs.Pieces.{Pieces, type_pieces, head_pieces, term_pieces, terms_pieces}
use Rattle.ab_cert.specs.TypeNodes.{type_nodes, first_type, types_in, type_in, type_node_piece}
use Rattle.ab_cert.specs.TermNodes.{Node, lam_node, spine_node, term_nodes, terms_nodes, first_term, terms_in, term_in, node_pieces}

-- pieces

map_next : {A B : Type 0} (f : A → B) (xs ys : List A) → map f (xs ++ ys) ≡ map f xs ++ map f ys
map_next f [] ys = refl
map_next f (x ∷ xs) ys = ap (λ q. f x ∷ q) (map_next f xs ys)

pub type_written : (a : Ty) → map type_node_piece (type_nodes a) ≡ type_pieces a
type_written (base k) = refl
type_written (arrow a b) =
    ap (λ q. codes ">" ∷ q)
    (map_next type_node_piece (type_nodes a) (type_nodes b)
    ∙ (ap (λ q. q ++ map type_node_piece (type_nodes b)) (type_written a) ∙ ap (λ q. type_pieces a ++ q) (type_written b)))

mutual
  pub term_written : (t : Term) → flat_map node_pieces (term_nodes t) ≡ term_pieces t
  term_written (lam ty hint body) =
      append_assoc (codes "\\" ∷ type_pieces ty) (hint ∷ []) (flat_map node_pieces (term_nodes body))
      ∙ ap (λ q. codes "\\" ∷ (type_pieces ty ++ hint ∷ q)) (term_written body)
  term_written (spine head args) =
      append_assoc (codes "@" ∷ head_pieces head) (decimal (length (list_of args)) ∷ []) (flat_map node_pieces (terms_nodes args))
      ∙ ap (λ q. codes "@" ∷ (head_pieces head ++ decimal (length (list_of args)) ∷ q)) (terms_written args)

  terms_written : (ts : Terms) → flat_map node_pieces (terms_nodes ts) ≡ terms_pieces ts
  terms_written no_terms = refl
  terms_written (one_more t ts) =
      flat_map-append node_pieces (term_nodes t) (terms_nodes ts)
      ∙ (ap (λ q. q ++ flat_map node_pieces (terms_nodes ts)) (term_written t) ∙ ap (λ q. term_pieces t ++ q) (terms_written ts))

-- trees

types_front : (a : Ty) (ns : List TypeNode) → types_in (type_nodes a ++ ns) ≡ a ∷ types_in ns
types_front (base k) ns = refl
types_front (arrow a b) ns =
    ap (λ q. arrow (first_type q) (first_type (drop 1 q)) ∷ drop 2 q)
    (ap types_in (append_assoc (type_nodes a) (type_nodes b) ns)
    ∙ (types_front a (type_nodes b ++ ns) ∙ ap (λ q. a ∷ q) (types_front b ns)))

pub type_in_nodes : (a : Ty) → type_in (type_nodes a) ≡ a
type_in_nodes a = ap type_in (sym (append-nil (type_nodes a))) ∙ ap first_type (types_front a [])

take_list : (ts : Terms) (more : List Term) → terms_of (take (length (list_of ts)) (list_of ts ++ more)) ≡ ts
take_list no_terms more = refl
take_list (one_more t ts) more = ap (λ q. one_more t q) (take_list ts more)

drop_list : (ts : Terms) (more : List Term) → drop (length (list_of ts)) (list_of ts ++ more) ≡ more
drop_list no_terms more = refl
drop_list (one_more t ts) more = drop_list ts more

mutual
  term_front : (t : Term) (ns : List Node) → terms_in (term_nodes t ++ ns) ≡ t ∷ terms_in ns
  term_front (lam ty hint body) ns = ap (λ q. lam ty hint (first_term q) ∷ drop 1 q) (term_front body ns)
  term_front (spine head args) ns =
      ap (λ q. spine head (terms_of (take (length (list_of args)) q)) ∷ drop (length (list_of args)) q) (terms_front args ns)
      ∙ (ap (λ q. spine head q ∷ drop (length (list_of args)) (list_of args ++ terms_in ns)) (take_list args (terms_in ns))
      ∙ ap (λ q. spine head args ∷ q) (drop_list args (terms_in ns)))

  terms_front : (ts : Terms) (ns : List Node) → terms_in (terms_nodes ts ++ ns) ≡ list_of ts ++ terms_in ns
  terms_front no_terms ns = refl
  terms_front (one_more t ts) ns =
      ap terms_in (append_assoc (term_nodes t) (terms_nodes ts) ns)
      ∙ (term_front t (terms_nodes ts ++ ns) ∙ ap (λ q. t ∷ q) (terms_front ts ns))

pub term_in_nodes : (t : Term) → term_in (term_nodes t) ≡ t
term_in_nodes t = ap term_in (sym (append-nil (term_nodes t))) ∙ ap first_term (term_front t [])

pub map_same : {A : Type 0} (xs : List A) → map (λ x. x) xs ≡ xs
map_same [] = refl
map_same (x ∷ xs) = ap (λ q. x ∷ q) (map_same xs)
